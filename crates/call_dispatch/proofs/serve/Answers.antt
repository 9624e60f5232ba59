-- `call_dispatch::serve` meets its contract. Each arm is its row of the table: the code of the row's tests is answered, or its rule is done;
-- a number that has no arm has no row. Assumes nothing.
use mathlib.Core.List.{[], ◌∷◌}
use mathlib.Core.Path.{refl}
use mir.Facts.{to_z-of_z}
use Rattle.rules.specs.Codes.{number}
use Rattle.rules.specs.State as Kind
use Rattle.rules.specs.Tasks.{can_wup, chg_pri, cre_tsk, del_tsk, exd_tsk, ext_tsk, rel_wai, rot_rdq, rsm_tsk, sta_tsk, sus_tsk, ter_tsk, tsk_sts, wup_tsk}
use Rattle.rules.specs.Objects.{clr_flg, obj_sts, rel_blk, set_flg, sig_sem, snd_msg, take_blk, take_flg, take_msg, take_sem, to_first}
use Rattle.rules.specs.Alarms.{set_alm, set_abs, set_rel, can_alm, alm_sts}
use Rattle.rules.specs.Rows.{sta_tsk_row, ext_tsk_row, ter_tsk_row, chg_pri_row, rot_rdq_row, rel_wai_row, sus_tsk_row, rsm_tsk_row, slp_tsk_row, wai_tsk_row, wup_tsk_row, can_wup_row, sig_sem_row, wai_sem_row, preq_sem_row, set_flg_row, clr_flg_row, wai_flg_row, pol_flg_row, snd_msg_row, rcv_msg_row, prcv_msg_row, get_blk_row, pget_blk_row, rel_blk_row, get_tid_row, tsk_sts_row, sem_sts_row, flg_sts_row, mbx_sts_row, mpl_sts_row, get_tim_row, cre_tsk_row, del_tsk_row, exd_tsk_row, set_abs_row, set_rel_row, can_alm_row, alm_sts_row}
use Rattle.rules.specs.Table.{table}
use Rattle.rules.proofs.Waits.{in_by}
use Rattle.check_ranges.specs.Ranges.{every}
use Rattle.call_dispatch.proofs.Numbered.{keyed, no_row}
use Rattle.call_dispatch.proofs.Arms.{upto, caller_is, got, arm_refused, arm_done, arm_none}
use borrow.Author.Rules.{rules}
use Rattle.call_dispatch.proofs.serve.Goals as goal

pub returns-in_ok-on_task-in-1 : goal.returns-in_ok-on_task-in-1
unfolding table sta_tsk_row sta_tsk
returns-in_ok-on_task-in-1 c =
    arm_done 0 (λ v. sta_tsk_row v c.args.a) c.args.caller.handler c.args.caller.me c.args.a c.args.b c.args.c c.in-1.is (λ v. refl) (λ A. rw (rw (to_z-of_z c.ranges.a) at c.named-i.ensures) at (c.on_task.ensures _ A)) c.in_ok-on_task-in-1.was (λ A t. (rw (rw (to_z-of_z c.ranges.a) at c.named-i.ensures) at c.sta_tsk.ensures) _ A (in_by c.args.a _ t.words.0))

pub returns-in_err-on_task-in-1 : goal.returns-in_err-on_task-in-1
unfolding table sta_tsk_row
returns-in_err-on_task-in-1 c =
    arm_refused 0 (λ v. sta_tsk_row v c.args.a) c.args.caller.handler c.args.caller.me c.args.a c.args.b c.args.c c.in-1.is (λ v. refl) (λ A. rw (rw (to_z-of_z c.ranges.a) at c.named-i.ensures) at (c.on_task.ensures _ A)) c.in_err-on_task-in-1.was (got _ _ c.from_residual.ensures.1)

pub returns-in_ok-on_nothing-in-2 : goal.returns-in_ok-on_nothing-in-2
unfolding table ext_tsk_row ext_tsk
returns-in_ok-on_nothing-in-2 c =
    arm_done 1 (λ v. ext_tsk_row v c.args.caller.me) c.args.caller.handler c.args.caller.me c.args.a c.args.b c.args.c c.in-2.is (λ v. refl) (λ A. c.on_nothing.ensures _ A) c.in_ok-on_nothing-in-2.was (λ A t. c.ter_tsk.ensures _ A tt)

pub returns-in_err-on_nothing-in-2 : goal.returns-in_err-on_nothing-in-2
unfolding table ext_tsk_row
returns-in_err-on_nothing-in-2 c =
    arm_refused 1 (λ v. ext_tsk_row v c.args.caller.me) c.args.caller.handler c.args.caller.me c.args.a c.args.b c.args.c c.in-2.is (λ v. refl) (λ A. c.on_nothing.ensures _ A) c.in_err-on_nothing-in-2.was (got _ _ c.from_residual-in_err-on_nothing-in-2.ensures.1)

pub returns-in_ok-on_task-in-3 : goal.returns-in_ok-on_task-in-3
unfolding table ter_tsk_row ext_tsk ter_tsk
returns-in_ok-on_task-in-3 c =
    arm_done 2 (λ v. ter_tsk_row v c.args.a) c.args.caller.handler c.args.caller.me c.args.a c.args.b c.args.c c.in-3.is (λ v. refl) (λ A. rw (rw (to_z-of_z c.ranges.a) at c.named-i.ensures) at (c.on_task-in-3.ensures _ A)) c.in_ok-on_task-in-3.was (λ A t. (rw (rw (to_z-of_z c.ranges.a) at c.named-i.ensures) at c.ter_tsk-in-3.ensures) _ A tt)

pub returns-in_err-on_task-in-3 : goal.returns-in_err-on_task-in-3
unfolding table ter_tsk_row
returns-in_err-on_task-in-3 c =
    arm_refused 2 (λ v. ter_tsk_row v c.args.a) c.args.caller.handler c.args.caller.me c.args.a c.args.b c.args.c c.in-3.is (λ v. refl) (λ A. rw (rw (to_z-of_z c.ranges.a) at c.named-i.ensures) at (c.on_task-in-3.ensures _ A)) c.in_err-on_task-in-3.was (got _ _ c.from_residual-in_err-on_task-in-3.ensures.1)

pub returns-in_ok-on_priority-in-4 : goal.returns-in_ok-on_priority-in-4
unfolding table chg_pri_row chg_pri
returns-in_ok-on_priority-in-4 c =
    arm_done 3 (λ v. chg_pri_row v c.args.a c.args.b) c.args.caller.handler c.args.caller.me c.args.a c.args.b c.args.c c.in-4.is (λ v. refl) (λ A. rw (rw (to_z-of_z c.ranges.a) at c.named-i.ensures, rw (to_z-of_z c.ranges.b) at c.named-j.ensures) at (c.on_priority.ensures _ A)) c.in_ok-on_priority-in-4.was (λ A t. (rw (rw (to_z-of_z c.ranges.a) at c.named-i.ensures, rw (to_z-of_z c.ranges.b) at c.named-j.ensures) at c.chg_pri.ensures) _ A tt)

pub returns-in_err-on_priority-in-4 : goal.returns-in_err-on_priority-in-4
unfolding table chg_pri_row
returns-in_err-on_priority-in-4 c =
    arm_refused 3 (λ v. chg_pri_row v c.args.a c.args.b) c.args.caller.handler c.args.caller.me c.args.a c.args.b c.args.c c.in-4.is (λ v. refl) (λ A. rw (rw (to_z-of_z c.ranges.a) at c.named-i.ensures, rw (to_z-of_z c.ranges.b) at c.named-j.ensures) at (c.on_priority.ensures _ A)) c.in_err-on_priority-in-4.was (got _ _ c.from_residual-in_err-on_priority-in-4.ensures.1)

pub returns-in_ok-on_queue-in-5 : goal.returns-in_ok-on_queue-in-5
unfolding table rot_rdq_row rot_rdq
returns-in_ok-on_queue-in-5 c =
    arm_done 4 (λ v. rot_rdq_row v c.args.a) c.args.caller.handler c.args.caller.me c.args.a c.args.b c.args.c c.in-5.is (λ v. refl) (λ A. rw (to_z-of_z c.ranges.a) at (c.on_queue.ensures _ A)) c.in_ok-on_queue-in-5.was (λ A t. (rw (rw (to_z-of_z c.ranges.a) at c.named-i.ensures) at c.rot_rdq.ensures) _ A (upto c.args.a _ t.words.0))

pub returns-in_err-on_queue-in-5 : goal.returns-in_err-on_queue-in-5
unfolding table rot_rdq_row
returns-in_err-on_queue-in-5 c =
    arm_refused 4 (λ v. rot_rdq_row v c.args.a) c.args.caller.handler c.args.caller.me c.args.a c.args.b c.args.c c.in-5.is (λ v. refl) (λ A. rw (to_z-of_z c.ranges.a) at (c.on_queue.ensures _ A)) c.in_err-on_queue-in-5.was (got _ _ c.from_residual-in_err-on_queue-in-5.ensures.1)

pub returns-in_ok-on_task-in-6 : goal.returns-in_ok-on_task-in-6
unfolding table rel_wai_row rel_wai
returns-in_ok-on_task-in-6 c =
    arm_done 5 (λ v. rel_wai_row v c.args.a) c.args.caller.handler c.args.caller.me c.args.a c.args.b c.args.c c.in-6.is (λ v. refl) (λ A. rw (rw (to_z-of_z c.ranges.a) at c.named-i.ensures) at (c.on_task-in-6.ensures _ A)) c.in_ok-on_task-in-6.was (λ A t. (rw (rw (to_z-of_z c.ranges.a) at c.named-i.ensures) at c.rel_wai.ensures) _ A (in_by c.args.a _ t.words.0))

pub returns-in_err-on_task-in-6 : goal.returns-in_err-on_task-in-6
unfolding table rel_wai_row
returns-in_err-on_task-in-6 c =
    arm_refused 5 (λ v. rel_wai_row v c.args.a) c.args.caller.handler c.args.caller.me c.args.a c.args.b c.args.c c.in-6.is (λ v. refl) (λ A. rw (rw (to_z-of_z c.ranges.a) at c.named-i.ensures) at (c.on_task-in-6.ensures _ A)) c.in_err-on_task-in-6.was (got _ _ c.from_residual-in_err-on_task-in-6.ensures.1)

pub returns-in_ok-on_task-in-7 : goal.returns-in_ok-on_task-in-7
unfolding table sus_tsk_row sus_tsk
returns-in_ok-on_task-in-7 c =
    arm_done 6 (λ v. sus_tsk_row v c.args.a) c.args.caller.handler c.args.caller.me c.args.a c.args.b c.args.c c.in-7.is (λ v. refl) (λ A. rw (rw (to_z-of_z c.ranges.a) at c.named-i.ensures) at (c.on_task-in-7.ensures _ A)) c.in_ok-on_task-in-7.was (λ A t. (rw (rw (to_z-of_z c.ranges.a) at c.named-i.ensures) at c.sus_tsk.ensures) _ A (in_by c.args.a _ t.words.0))

pub returns-in_err-on_task-in-7 : goal.returns-in_err-on_task-in-7
unfolding table sus_tsk_row
returns-in_err-on_task-in-7 c =
    arm_refused 6 (λ v. sus_tsk_row v c.args.a) c.args.caller.handler c.args.caller.me c.args.a c.args.b c.args.c c.in-7.is (λ v. refl) (λ A. rw (rw (to_z-of_z c.ranges.a) at c.named-i.ensures) at (c.on_task-in-7.ensures _ A)) c.in_err-on_task-in-7.was (got _ _ c.from_residual-in_err-on_task-in-7.ensures.1)

pub returns-in_ok-on_task-in-8 : goal.returns-in_ok-on_task-in-8
unfolding table rsm_tsk_row rsm_tsk
returns-in_ok-on_task-in-8 c =
    arm_done 7 (λ v. rsm_tsk_row v c.args.a) c.args.caller.handler c.args.caller.me c.args.a c.args.b c.args.c c.in-8.is (λ v. refl) (λ A. rw (rw (to_z-of_z c.ranges.a) at c.named-i.ensures) at (c.on_task-in-8.ensures _ A)) c.in_ok-on_task-in-8.was (λ A t. (rw (rw (to_z-of_z c.ranges.a) at c.named-i.ensures) at c.rsm_tsk.ensures) _ A (in_by c.args.a _ t.words.0))

pub returns-in_err-on_task-in-8 : goal.returns-in_err-on_task-in-8
unfolding table rsm_tsk_row
returns-in_err-on_task-in-8 c =
    arm_refused 7 (λ v. rsm_tsk_row v c.args.a) c.args.caller.handler c.args.caller.me c.args.a c.args.b c.args.c c.in-8.is (λ v. refl) (λ A. rw (rw (to_z-of_z c.ranges.a) at c.named-i.ensures) at (c.on_task-in-8.ensures _ A)) c.in_err-on_task-in-8.was (got _ _ c.from_residual-in_err-on_task-in-8.ensures.1)

pub returns-in_ok-on_nothing-in-9 : goal.returns-in_ok-on_nothing-in-9
unfolding table slp_tsk_row
returns-in_ok-on_nothing-in-9 c =
    arm_done 8 (λ v. slp_tsk_row v c.args.caller.me) c.args.caller.handler c.args.caller.me c.args.a c.args.b c.args.c c.in-9.is (λ v. refl) (λ A. c.on_nothing-in-9.ensures _ A) c.in_ok-on_nothing-in-9.was (λ A t. c.slp_tsk.ensures _ A (caller_is c.args.caller.handler _ t.context))

pub returns-in_err-on_nothing-in-9 : goal.returns-in_err-on_nothing-in-9
unfolding table slp_tsk_row
returns-in_err-on_nothing-in-9 c =
    arm_refused 8 (λ v. slp_tsk_row v c.args.caller.me) c.args.caller.handler c.args.caller.me c.args.a c.args.b c.args.c c.in-9.is (λ v. refl) (λ A. c.on_nothing-in-9.ensures _ A) c.in_err-on_nothing-in-9.was (got _ _ c.from_residual-in_err-on_nothing-in-9.ensures.1)

pub returns-in_ok-on_time-in-10 : goal.returns-in_ok-on_time-in-10
unfolding table wai_tsk_row
returns-in_ok-on_time-in-10 c =
    arm_done 9 (λ v. wai_tsk_row v c.args.caller.me c.args.a) c.args.caller.handler c.args.caller.me c.args.a c.args.b c.args.c c.in-10.is (λ v. refl) (λ A. rw (to_z-of_z c.ranges.a) at (c.on_time.ensures _ A)) c.in_ok-on_time-in-10.was (λ A t. (rw (to_z-of_z c.ranges.a) at c.wai_tsk.ensures) _ A (caller_is c.args.caller.handler _ t.context))

pub returns-in_err-on_time-in-10 : goal.returns-in_err-on_time-in-10
unfolding table wai_tsk_row
returns-in_err-on_time-in-10 c =
    arm_refused 9 (λ v. wai_tsk_row v c.args.caller.me c.args.a) c.args.caller.handler c.args.caller.me c.args.a c.args.b c.args.c c.in-10.is (λ v. refl) (λ A. rw (to_z-of_z c.ranges.a) at (c.on_time.ensures _ A)) c.in_err-on_time-in-10.was (got _ _ c.from_residual-in_err-on_time-in-10.ensures.1)

pub returns-in_ok-on_task-in-11 : goal.returns-in_ok-on_task-in-11
unfolding table wup_tsk_row wup_tsk
returns-in_ok-on_task-in-11 c =
    arm_done 10 (λ v. wup_tsk_row v c.args.a) c.args.caller.handler c.args.caller.me c.args.a c.args.b c.args.c c.in-11.is (λ v. refl) (λ A. rw (rw (to_z-of_z c.ranges.a) at c.named-i.ensures) at (c.on_task-in-11.ensures _ A)) c.in_ok-on_task-in-11.was (λ A t. (rw (rw (to_z-of_z c.ranges.a) at c.named-i.ensures) at c.wup_tsk.ensures) _ A (in_by c.args.a _ t.words.0))

pub returns-in_err-on_task-in-11 : goal.returns-in_err-on_task-in-11
unfolding table wup_tsk_row
returns-in_err-on_task-in-11 c =
    arm_refused 10 (λ v. wup_tsk_row v c.args.a) c.args.caller.handler c.args.caller.me c.args.a c.args.b c.args.c c.in-11.is (λ v. refl) (λ A. rw (rw (to_z-of_z c.ranges.a) at c.named-i.ensures) at (c.on_task-in-11.ensures _ A)) c.in_err-on_task-in-11.was (got _ _ c.from_residual-in_err-on_task-in-11.ensures.1)

pub returns-in_ok-on_task-in-12 : goal.returns-in_ok-on_task-in-12
unfolding table can_wup_row can_wup
returns-in_ok-on_task-in-12 c =
    arm_done 11 (λ v. can_wup_row v c.args.a) c.args.caller.handler c.args.caller.me c.args.a c.args.b c.args.c c.in-12.is (λ v. refl) (λ A. rw (rw (to_z-of_z c.ranges.a) at c.named-i.ensures) at (c.on_task-in-12.ensures _ A)) c.in_ok-on_task-in-12.was (λ A t. (rw (rw (to_z-of_z c.ranges.a) at c.named-i.ensures) at c.can_wup.ensures) _ A (in_by c.args.a _ t.words.0))

pub returns-in_err-on_task-in-12 : goal.returns-in_err-on_task-in-12
unfolding table can_wup_row
returns-in_err-on_task-in-12 c =
    arm_refused 11 (λ v. can_wup_row v c.args.a) c.args.caller.handler c.args.caller.me c.args.a c.args.b c.args.c c.in-12.is (λ v. refl) (λ A. rw (rw (to_z-of_z c.ranges.a) at c.named-i.ensures) at (c.on_task-in-12.ensures _ A)) c.in_err-on_task-in-12.was (got _ _ c.from_residual-in_err-on_task-in-12.ensures.1)

pub returns-in_ok-on_object-in-13 : goal.returns-in_ok-on_object-in-13
unfolding table sig_sem_row sig_sem to_first
returns-in_ok-on_object-in-13 c =
    arm_done 12 (λ v. sig_sem_row v c.args.a) c.args.caller.handler c.args.caller.me c.args.a c.args.b c.args.c c.in-13.is (λ v. refl) (λ A. rw (rw (to_z-of_z c.ranges.a) at c.named-i.ensures) at (c.on_object.ensures Kind.semaphore refl _ A)) c.in_ok-on_object-in-13.was (λ A t. (rw (rw (to_z-of_z c.ranges.a) at c.named-i.ensures) at c.sig_sem.ensures) _ A (in_by c.args.a _ t.words.0))

pub returns-in_err-on_object-in-13 : goal.returns-in_err-on_object-in-13
unfolding table sig_sem_row
returns-in_err-on_object-in-13 c =
    arm_refused 12 (λ v. sig_sem_row v c.args.a) c.args.caller.handler c.args.caller.me c.args.a c.args.b c.args.c c.in-13.is (λ v. refl) (λ A. rw (rw (to_z-of_z c.ranges.a) at c.named-i.ensures) at (c.on_object.ensures Kind.semaphore refl _ A)) c.in_err-on_object-in-13.was (got _ _ c.from_residual-in_err-on_object-in-13.ensures.1)

pub returns-in_ok-on_object-in-14 : goal.returns-in_ok-on_object-in-14
unfolding table wai_sem_row take_sem
returns-in_ok-on_object-in-14 c =
    arm_done 13 (λ v. wai_sem_row v c.args.caller.me c.args.a) c.args.caller.handler c.args.caller.me c.args.a c.args.b c.args.c c.in-14.is (λ v. refl) (λ A. rw (rw (to_z-of_z c.ranges.a) at c.named-i.ensures) at (c.on_object-in-14.ensures Kind.semaphore refl _ A)) c.in_ok-on_object-in-14.was (λ A t. (rw (rw (to_z-of_z c.ranges.a) at c.named-i.ensures) at c.wai_sem.ensures) _ A (in_by c.args.a _ t.words.0))

pub returns-in_err-on_object-in-14 : goal.returns-in_err-on_object-in-14
unfolding table wai_sem_row
returns-in_err-on_object-in-14 c =
    arm_refused 13 (λ v. wai_sem_row v c.args.caller.me c.args.a) c.args.caller.handler c.args.caller.me c.args.a c.args.b c.args.c c.in-14.is (λ v. refl) (λ A. rw (rw (to_z-of_z c.ranges.a) at c.named-i.ensures) at (c.on_object-in-14.ensures Kind.semaphore refl _ A)) c.in_err-on_object-in-14.was (got _ _ c.from_residual-in_err-on_object-in-14.ensures.1)

pub returns-in_ok-on_object-in-15 : goal.returns-in_ok-on_object-in-15
unfolding table preq_sem_row take_sem
returns-in_ok-on_object-in-15 c =
    arm_done 14 (λ v. preq_sem_row v c.args.a) c.args.caller.handler c.args.caller.me c.args.a c.args.b c.args.c c.in-15.is (λ v. refl) (λ A. rw (rw (to_z-of_z c.ranges.a) at c.named-i.ensures) at (c.on_object-in-15.ensures Kind.semaphore refl _ A)) c.in_ok-on_object-in-15.was (λ A t. (rw (rw (to_z-of_z c.ranges.a) at c.named-i.ensures) at c.preq_sem.ensures) _ A (in_by c.args.a _ t.words.0))

pub returns-in_err-on_object-in-15 : goal.returns-in_err-on_object-in-15
unfolding table preq_sem_row
returns-in_err-on_object-in-15 c =
    arm_refused 14 (λ v. preq_sem_row v c.args.a) c.args.caller.handler c.args.caller.me c.args.a c.args.b c.args.c c.in-15.is (λ v. refl) (λ A. rw (rw (to_z-of_z c.ranges.a) at c.named-i.ensures) at (c.on_object-in-15.ensures Kind.semaphore refl _ A)) c.in_err-on_object-in-15.was (got _ _ c.from_residual-in_err-on_object-in-15.ensures.1)

pub returns-in_ok-on_object-in-16 : goal.returns-in_ok-on_object-in-16
unfolding table set_flg_row set_flg
returns-in_ok-on_object-in-16 c =
    arm_done 15 (λ v. set_flg_row v c.args.a c.args.b) c.args.caller.handler c.args.caller.me c.args.a c.args.b c.args.c c.in-16.is (λ v. refl) (λ A. rw (rw (to_z-of_z c.ranges.a) at c.named-i.ensures) at (c.on_object-in-16.ensures Kind.flag refl _ A)) c.in_ok-on_object-in-16.was (λ A t. (rw (rw (to_z-of_z c.ranges.a) at c.named-i.ensures, rw (to_z-of_z c.ranges.b) at c.bits_of-p.ensures) at c.set_flg.ensures) _ A (in_by c.args.a _ t.words.0))

pub returns-in_err-on_object-in-16 : goal.returns-in_err-on_object-in-16
unfolding table set_flg_row
returns-in_err-on_object-in-16 c =
    arm_refused 15 (λ v. set_flg_row v c.args.a c.args.b) c.args.caller.handler c.args.caller.me c.args.a c.args.b c.args.c c.in-16.is (λ v. refl) (λ A. rw (rw (to_z-of_z c.ranges.a) at c.named-i.ensures) at (c.on_object-in-16.ensures Kind.flag refl _ A)) c.in_err-on_object-in-16.was (got _ _ c.from_residual-in_err-on_object-in-16.ensures.1)

pub returns-in_ok-on_object-in-17 : goal.returns-in_ok-on_object-in-17
unfolding table clr_flg_row clr_flg
returns-in_ok-on_object-in-17 c =
    arm_done 16 (λ v. clr_flg_row v c.args.a c.args.b) c.args.caller.handler c.args.caller.me c.args.a c.args.b c.args.c c.in-17.is (λ v. refl) (λ A. rw (rw (to_z-of_z c.ranges.a) at c.named-i.ensures) at (c.on_object-in-17.ensures Kind.flag refl _ A)) c.in_ok-on_object-in-17.was (λ A t. (rw (rw (to_z-of_z c.ranges.a) at c.named-i.ensures, rw (to_z-of_z c.ranges.b) at c.bits_of-p.ensures) at c.clr_flg.ensures) _ A (in_by c.args.a _ t.words.0))

pub returns-in_err-on_object-in-17 : goal.returns-in_err-on_object-in-17
unfolding table clr_flg_row
returns-in_err-on_object-in-17 c =
    arm_refused 16 (λ v. clr_flg_row v c.args.a c.args.b) c.args.caller.handler c.args.caller.me c.args.a c.args.b c.args.c c.in-17.is (λ v. refl) (λ A. rw (rw (to_z-of_z c.ranges.a) at c.named-i.ensures) at (c.on_object-in-17.ensures Kind.flag refl _ A)) c.in_err-on_object-in-17.was (got _ _ c.from_residual-in_err-on_object-in-17.ensures.1)

pub returns-in_ok-on_flag-in-18 : goal.returns-in_ok-on_flag-in-18
unfolding table wai_flg_row take_flg
returns-in_ok-on_flag-in-18 c =
    arm_done 17 (λ v. wai_flg_row v c.args.caller.me c.args.a c.args.b c.args.c) c.args.caller.handler c.args.caller.me c.args.a c.args.b c.args.c c.in-18.is (λ v. refl) (λ A. rw (rw (to_z-of_z c.ranges.a) at c.named-i.ensures, rw (to_z-of_z c.ranges.b) at c.bits_of-p.ensures, to_z-of_z c.ranges.c) at (c.on_flag.ensures _ A)) c.in_ok-on_flag-in-18.was (λ A t. (rw (rw (to_z-of_z c.ranges.a) at c.named-i.ensures, rw (to_z-of_z c.ranges.b) at c.bits_of-p.ensures, rw (to_z-of_z c.ranges.c) at c.named.ensures) at c.wai_flg.ensures) _ A (in_by c.args.a _ t.words.0))

pub returns-in_err-on_flag-in-18 : goal.returns-in_err-on_flag-in-18
unfolding table wai_flg_row
returns-in_err-on_flag-in-18 c =
    arm_refused 17 (λ v. wai_flg_row v c.args.caller.me c.args.a c.args.b c.args.c) c.args.caller.handler c.args.caller.me c.args.a c.args.b c.args.c c.in-18.is (λ v. refl) (λ A. rw (rw (to_z-of_z c.ranges.a) at c.named-i.ensures, rw (to_z-of_z c.ranges.b) at c.bits_of-p.ensures, to_z-of_z c.ranges.c) at (c.on_flag.ensures _ A)) c.in_err-on_flag-in-18.was (got _ _ c.from_residual-in_err-on_flag-in-18.ensures.1)

pub returns-in_ok-on_flag-in-19 : goal.returns-in_ok-on_flag-in-19
unfolding table pol_flg_row take_flg
returns-in_ok-on_flag-in-19 c =
    arm_done 18 (λ v. pol_flg_row v c.args.a c.args.b c.args.c) c.args.caller.handler c.args.caller.me c.args.a c.args.b c.args.c c.in-19.is (λ v. refl) (λ A. rw (rw (to_z-of_z c.ranges.a) at c.named-i.ensures, rw (to_z-of_z c.ranges.b) at c.bits_of-p.ensures, to_z-of_z c.ranges.c) at (c.on_flag-in-19.ensures _ A)) c.in_ok-on_flag-in-19.was (λ A t. (rw (rw (to_z-of_z c.ranges.a) at c.named-i.ensures, rw (to_z-of_z c.ranges.b) at c.bits_of-p.ensures, rw (to_z-of_z c.ranges.c) at c.named-in-19.ensures) at c.pol_flg.ensures) _ A (in_by c.args.a _ t.words.0))

pub returns-in_err-on_flag-in-19 : goal.returns-in_err-on_flag-in-19
unfolding table pol_flg_row
returns-in_err-on_flag-in-19 c =
    arm_refused 18 (λ v. pol_flg_row v c.args.a c.args.b c.args.c) c.args.caller.handler c.args.caller.me c.args.a c.args.b c.args.c c.in-19.is (λ v. refl) (λ A. rw (rw (to_z-of_z c.ranges.a) at c.named-i.ensures, rw (to_z-of_z c.ranges.b) at c.bits_of-p.ensures, to_z-of_z c.ranges.c) at (c.on_flag-in-19.ensures _ A)) c.in_err-on_flag-in-19.was (got _ _ c.from_residual-in_err-on_flag-in-19.ensures.1)

pub returns-in_ok-on_message-in-20 : goal.returns-in_ok-on_message-in-20
unfolding table snd_msg_row snd_msg to_first
returns-in_ok-on_message-in-20 c =
    arm_done 19 (λ v. snd_msg_row v c.args.a c.args.b) c.args.caller.handler c.args.caller.me c.args.a c.args.b c.args.c c.in-20.is (λ v. refl) (λ A. rw (rw (to_z-of_z c.ranges.a) at c.named-i.ensures, rw (to_z-of_z c.ranges.b) at c.named-j.ensures) at (c.on_message.ensures _ A)) c.in_ok-on_message-in-20.was (λ A t. (rw (rw (to_z-of_z c.ranges.a) at c.named-i.ensures, rw (to_z-of_z c.ranges.b) at c.named-j.ensures) at c.snd_msg.ensures) A (in_by c.args.a _ t.words.0, in_by c.args.b _ t.words.1.0))

pub returns-in_err-on_message-in-20 : goal.returns-in_err-on_message-in-20
unfolding table snd_msg_row
returns-in_err-on_message-in-20 c =
    arm_refused 19 (λ v. snd_msg_row v c.args.a c.args.b) c.args.caller.handler c.args.caller.me c.args.a c.args.b c.args.c c.in-20.is (λ v. refl) (λ A. rw (rw (to_z-of_z c.ranges.a) at c.named-i.ensures, rw (to_z-of_z c.ranges.b) at c.named-j.ensures) at (c.on_message.ensures _ A)) c.in_err-on_message-in-20.was (got _ _ c.from_residual-in_err-on_message-in-20.ensures.1)

pub returns-in_ok-on_object-in-21 : goal.returns-in_ok-on_object-in-21
unfolding table rcv_msg_row take_msg
returns-in_ok-on_object-in-21 c =
    arm_done 20 (λ v. rcv_msg_row v c.args.caller.me c.args.a) c.args.caller.handler c.args.caller.me c.args.a c.args.b c.args.c c.in-21.is (λ v. refl) (λ A. rw (rw (to_z-of_z c.ranges.a) at c.named-i.ensures) at (c.on_object-in-21.ensures Kind.mailbox refl _ A)) c.in_ok-on_object-in-21.was (λ A t. (rw (rw (to_z-of_z c.ranges.a) at c.named-i.ensures) at c.rcv_msg.ensures) A (in_by c.args.a _ t.words.0))

pub returns-in_err-on_object-in-21 : goal.returns-in_err-on_object-in-21
unfolding table rcv_msg_row
returns-in_err-on_object-in-21 c =
    arm_refused 20 (λ v. rcv_msg_row v c.args.caller.me c.args.a) c.args.caller.handler c.args.caller.me c.args.a c.args.b c.args.c c.in-21.is (λ v. refl) (λ A. rw (rw (to_z-of_z c.ranges.a) at c.named-i.ensures) at (c.on_object-in-21.ensures Kind.mailbox refl _ A)) c.in_err-on_object-in-21.was (got _ _ c.from_residual-in_err-on_object-in-21.ensures.1)

pub returns-in_ok-on_object-in-22 : goal.returns-in_ok-on_object-in-22
unfolding table prcv_msg_row take_msg
returns-in_ok-on_object-in-22 c =
    arm_done 21 (λ v. prcv_msg_row v c.args.a) c.args.caller.handler c.args.caller.me c.args.a c.args.b c.args.c c.in-22.is (λ v. refl) (λ A. rw (rw (to_z-of_z c.ranges.a) at c.named-i.ensures) at (c.on_object-in-22.ensures Kind.mailbox refl _ A)) c.in_ok-on_object-in-22.was (λ A t. (rw (rw (to_z-of_z c.ranges.a) at c.named-i.ensures) at c.prcv_msg.ensures) A (in_by c.args.a _ t.words.0))

pub returns-in_err-on_object-in-22 : goal.returns-in_err-on_object-in-22
unfolding table prcv_msg_row
returns-in_err-on_object-in-22 c =
    arm_refused 21 (λ v. prcv_msg_row v c.args.a) c.args.caller.handler c.args.caller.me c.args.a c.args.b c.args.c c.in-22.is (λ v. refl) (λ A. rw (rw (to_z-of_z c.ranges.a) at c.named-i.ensures) at (c.on_object-in-22.ensures Kind.mailbox refl _ A)) c.in_err-on_object-in-22.was (got _ _ c.from_residual-in_err-on_object-in-22.ensures.1)

pub returns-in_ok-on_object-in-23 : goal.returns-in_ok-on_object-in-23
unfolding table get_blk_row take_blk
returns-in_ok-on_object-in-23 c =
    arm_done 22 (λ v. get_blk_row v c.args.caller.me c.args.a) c.args.caller.handler c.args.caller.me c.args.a c.args.b c.args.c c.in-23.is (λ v. refl) (λ A. rw (rw (to_z-of_z c.ranges.a) at c.named-i.ensures) at (c.on_object-in-23.ensures Kind.pool refl _ A)) c.in_ok-on_object-in-23.was (λ A t. (rw (rw (to_z-of_z c.ranges.a) at c.named-i.ensures) at c.get_blk.ensures) _ A (in_by c.args.a _ t.words.0))

pub returns-in_err-on_object-in-23 : goal.returns-in_err-on_object-in-23
unfolding table get_blk_row
returns-in_err-on_object-in-23 c =
    arm_refused 22 (λ v. get_blk_row v c.args.caller.me c.args.a) c.args.caller.handler c.args.caller.me c.args.a c.args.b c.args.c c.in-23.is (λ v. refl) (λ A. rw (rw (to_z-of_z c.ranges.a) at c.named-i.ensures) at (c.on_object-in-23.ensures Kind.pool refl _ A)) c.in_err-on_object-in-23.was (got _ _ c.from_residual-in_err-on_object-in-23.ensures.1)

pub returns-in_ok-on_object-in-24 : goal.returns-in_ok-on_object-in-24
unfolding table pget_blk_row take_blk
returns-in_ok-on_object-in-24 c =
    arm_done 23 (λ v. pget_blk_row v c.args.a) c.args.caller.handler c.args.caller.me c.args.a c.args.b c.args.c c.in-24.is (λ v. refl) (λ A. rw (rw (to_z-of_z c.ranges.a) at c.named-i.ensures) at (c.on_object-in-24.ensures Kind.pool refl _ A)) c.in_ok-on_object-in-24.was (λ A t. (rw (rw (to_z-of_z c.ranges.a) at c.named-i.ensures) at c.pget_blk.ensures) _ A (in_by c.args.a _ t.words.0))

pub returns-in_err-on_object-in-24 : goal.returns-in_err-on_object-in-24
unfolding table pget_blk_row
returns-in_err-on_object-in-24 c =
    arm_refused 23 (λ v. pget_blk_row v c.args.a) c.args.caller.handler c.args.caller.me c.args.a c.args.b c.args.c c.in-24.is (λ v. refl) (λ A. rw (rw (to_z-of_z c.ranges.a) at c.named-i.ensures) at (c.on_object-in-24.ensures Kind.pool refl _ A)) c.in_err-on_object-in-24.was (got _ _ c.from_residual-in_err-on_object-in-24.ensures.1)

pub returns-in_ok-on_object-in-25 : goal.returns-in_ok-on_object-in-25
unfolding table rel_blk_row rel_blk to_first
returns-in_ok-on_object-in-25 c =
    arm_done 24 (λ v. rel_blk_row v c.args.a c.args.b) c.args.caller.handler c.args.caller.me c.args.a c.args.b c.args.c c.in-25.is (λ v. refl) (λ A. rw (rw (to_z-of_z c.ranges.a) at c.named-i.ensures) at (c.on_object-in-25.ensures Kind.pool refl _ A)) c.in_ok-on_object-in-25.was (λ A t. (rw (rw (to_z-of_z c.ranges.a) at c.named-i.ensures, rw (to_z-of_z c.ranges.b) at c.named-j.ensures) at c.rel_blk.ensures) _ A (in_by c.args.a _ t.words.0))

pub returns-in_err-on_object-in-25 : goal.returns-in_err-on_object-in-25
unfolding table rel_blk_row
returns-in_err-on_object-in-25 c =
    arm_refused 24 (λ v. rel_blk_row v c.args.a c.args.b) c.args.caller.handler c.args.caller.me c.args.a c.args.b c.args.c c.in-25.is (λ v. refl) (λ A. rw (rw (to_z-of_z c.ranges.a) at c.named-i.ensures) at (c.on_object-in-25.ensures Kind.pool refl _ A)) c.in_err-on_object-in-25.was (got _ _ c.from_residual-in_err-on_object-in-25.ensures.1)

pub returns-in_ok-on_nothing-in-26 : goal.returns-in_ok-on_nothing-in-26
unfolding table get_tid_row
returns-in_ok-on_nothing-in-26 c =
    arm_done 25 (λ v. get_tid_row v) c.args.caller.handler c.args.caller.me c.args.a c.args.b c.args.c c.in-26.is (λ v. refl) (λ A. c.on_nothing-in-26.ensures _ A) c.in_ok-on_nothing-in-26.was (λ A t. c.get_tid.ensures _ A tt)

pub returns-in_err-on_nothing-in-26 : goal.returns-in_err-on_nothing-in-26
unfolding table get_tid_row
returns-in_err-on_nothing-in-26 c =
    arm_refused 25 (λ v. get_tid_row v) c.args.caller.handler c.args.caller.me c.args.a c.args.b c.args.c c.in-26.is (λ v. refl) (λ A. c.on_nothing-in-26.ensures _ A) c.in_err-on_nothing-in-26.was (got _ _ c.from_residual-in_err-on_nothing-in-26.ensures.1)

pub returns-in_ok-on_task-in-27 : goal.returns-in_ok-on_task-in-27
unfolding table tsk_sts_row tsk_sts
returns-in_ok-on_task-in-27 c =
    arm_done 26 (λ v. tsk_sts_row v c.args.a) c.args.caller.handler c.args.caller.me c.args.a c.args.b c.args.c c.in-27.is (λ v. refl) (λ A. rw (rw (to_z-of_z c.ranges.a) at c.named-i.ensures) at (c.on_task-in-27.ensures _ A)) c.in_ok-on_task-in-27.was (λ A t. (rw (rw (to_z-of_z c.ranges.a) at c.named-i.ensures) at c.tsk_sts.ensures) _ A (in_by c.args.a _ t.words.0))

pub returns-in_err-on_task-in-27 : goal.returns-in_err-on_task-in-27
unfolding table tsk_sts_row
returns-in_err-on_task-in-27 c =
    arm_refused 26 (λ v. tsk_sts_row v c.args.a) c.args.caller.handler c.args.caller.me c.args.a c.args.b c.args.c c.in-27.is (λ v. refl) (λ A. rw (rw (to_z-of_z c.ranges.a) at c.named-i.ensures) at (c.on_task-in-27.ensures _ A)) c.in_err-on_task-in-27.was (got _ _ c.from_residual-in_err-on_task-in-27.ensures.1)

pub returns-in_ok-on_object-in-28 : goal.returns-in_ok-on_object-in-28
unfolding table sem_sts_row obj_sts
returns-in_ok-on_object-in-28 c =
    arm_done 27 (λ v. sem_sts_row v c.args.a) c.args.caller.handler c.args.caller.me c.args.a c.args.b c.args.c c.in-28.is (λ v. refl) (λ A. rw (rw (to_z-of_z c.ranges.a) at c.named-i.ensures) at (c.on_object-in-28.ensures Kind.semaphore refl _ A)) c.in_ok-on_object-in-28.was (λ A t. (rw (rw (to_z-of_z c.ranges.a) at c.named-i.ensures) at (c.obj_sts.ensures Kind.semaphore refl)) _ A (in_by c.args.a _ t.words.0))

pub returns-in_err-on_object-in-28 : goal.returns-in_err-on_object-in-28
unfolding table sem_sts_row
returns-in_err-on_object-in-28 c =
    arm_refused 27 (λ v. sem_sts_row v c.args.a) c.args.caller.handler c.args.caller.me c.args.a c.args.b c.args.c c.in-28.is (λ v. refl) (λ A. rw (rw (to_z-of_z c.ranges.a) at c.named-i.ensures) at (c.on_object-in-28.ensures Kind.semaphore refl _ A)) c.in_err-on_object-in-28.was (got _ _ c.from_residual-in_err-on_object-in-28.ensures.1)

pub returns-in_ok-on_object-in-29 : goal.returns-in_ok-on_object-in-29
unfolding table flg_sts_row obj_sts
returns-in_ok-on_object-in-29 c =
    arm_done 28 (λ v. flg_sts_row v c.args.a) c.args.caller.handler c.args.caller.me c.args.a c.args.b c.args.c c.in-29.is (λ v. refl) (λ A. rw (rw (to_z-of_z c.ranges.a) at c.named-i.ensures) at (c.on_object-in-29.ensures Kind.flag refl _ A)) c.in_ok-on_object-in-29.was (λ A t. (rw (rw (to_z-of_z c.ranges.a) at c.named-i.ensures) at (c.obj_sts-in-29.ensures Kind.flag refl)) _ A (in_by c.args.a _ t.words.0))

pub returns-in_err-on_object-in-29 : goal.returns-in_err-on_object-in-29
unfolding table flg_sts_row
returns-in_err-on_object-in-29 c =
    arm_refused 28 (λ v. flg_sts_row v c.args.a) c.args.caller.handler c.args.caller.me c.args.a c.args.b c.args.c c.in-29.is (λ v. refl) (λ A. rw (rw (to_z-of_z c.ranges.a) at c.named-i.ensures) at (c.on_object-in-29.ensures Kind.flag refl _ A)) c.in_err-on_object-in-29.was (got _ _ c.from_residual-in_err-on_object-in-29.ensures.1)

pub returns-in_ok-on_object-in-30 : goal.returns-in_ok-on_object-in-30
unfolding table mbx_sts_row obj_sts
returns-in_ok-on_object-in-30 c =
    arm_done 29 (λ v. mbx_sts_row v c.args.a) c.args.caller.handler c.args.caller.me c.args.a c.args.b c.args.c c.in-30.is (λ v. refl) (λ A. rw (rw (to_z-of_z c.ranges.a) at c.named-i.ensures) at (c.on_object-in-30.ensures Kind.mailbox refl _ A)) c.in_ok-on_object-in-30.was (λ A t. (rw (rw (to_z-of_z c.ranges.a) at c.named-i.ensures) at (c.obj_sts-in-30.ensures Kind.mailbox refl)) _ A (in_by c.args.a _ t.words.0))

pub returns-in_err-on_object-in-30 : goal.returns-in_err-on_object-in-30
unfolding table mbx_sts_row
returns-in_err-on_object-in-30 c =
    arm_refused 29 (λ v. mbx_sts_row v c.args.a) c.args.caller.handler c.args.caller.me c.args.a c.args.b c.args.c c.in-30.is (λ v. refl) (λ A. rw (rw (to_z-of_z c.ranges.a) at c.named-i.ensures) at (c.on_object-in-30.ensures Kind.mailbox refl _ A)) c.in_err-on_object-in-30.was (got _ _ c.from_residual-in_err-on_object-in-30.ensures.1)

pub returns-in_ok-on_object-in-31 : goal.returns-in_ok-on_object-in-31
unfolding table mpl_sts_row obj_sts
returns-in_ok-on_object-in-31 c =
    arm_done 30 (λ v. mpl_sts_row v c.args.a) c.args.caller.handler c.args.caller.me c.args.a c.args.b c.args.c c.in-31.is (λ v. refl) (λ A. rw (rw (to_z-of_z c.ranges.a) at c.named-i.ensures) at (c.on_object-in-31.ensures Kind.pool refl _ A)) c.in_ok-on_object-in-31.was (λ A t. (rw (rw (to_z-of_z c.ranges.a) at c.named-i.ensures) at (c.obj_sts-in-31.ensures Kind.pool refl)) _ A (in_by c.args.a _ t.words.0))

pub returns-in_err-on_object-in-31 : goal.returns-in_err-on_object-in-31
unfolding table mpl_sts_row
returns-in_err-on_object-in-31 c =
    arm_refused 30 (λ v. mpl_sts_row v c.args.a) c.args.caller.handler c.args.caller.me c.args.a c.args.b c.args.c c.in-31.is (λ v. refl) (λ A. rw (rw (to_z-of_z c.ranges.a) at c.named-i.ensures) at (c.on_object-in-31.ensures Kind.pool refl _ A)) c.in_err-on_object-in-31.was (got _ _ c.from_residual-in_err-on_object-in-31.ensures.1)

pub returns-in_ok-on_nothing-in-32 : goal.returns-in_ok-on_nothing-in-32
unfolding table get_tim_row
returns-in_ok-on_nothing-in-32 c =
    arm_done 31 (λ v. get_tim_row v) c.args.caller.handler c.args.caller.me c.args.a c.args.b c.args.c c.in-32.is (λ v. refl) (λ A. c.on_nothing-in-32.ensures _ A) c.in_ok-on_nothing-in-32.was (λ A t. c.get_tim.ensures _ A tt)

pub returns-in_err-on_nothing-in-32 : goal.returns-in_err-on_nothing-in-32
unfolding table get_tim_row
returns-in_err-on_nothing-in-32 c =
    arm_refused 31 (λ v. get_tim_row v) c.args.caller.handler c.args.caller.me c.args.a c.args.b c.args.c c.in-32.is (λ v. refl) (λ A. c.on_nothing-in-32.ensures _ A) c.in_err-on_nothing-in-32.was (got _ _ c.from_residual-in_err-on_nothing-in-32.ensures.1)

pub returns-in_ok-on_priority-in-33 : goal.returns-in_ok-on_priority-in-33
unfolding table cre_tsk_row cre_tsk
returns-in_ok-on_priority-in-33 c =
    arm_done 32 (λ v. cre_tsk_row v c.args.a c.args.b) c.args.caller.handler c.args.caller.me c.args.a c.args.b c.args.c c.in-33.is (λ v. refl) (λ A. rw (rw (to_z-of_z c.ranges.a) at c.named-i.ensures, rw (to_z-of_z c.ranges.b) at c.named-j.ensures) at (c.on_priority-in-33.ensures _ A)) c.in_ok-on_priority-in-33.was (λ A t. (rw (rw (to_z-of_z c.ranges.a) at c.named-i.ensures, rw (to_z-of_z c.ranges.b) at c.named-j.ensures) at c.cre_tsk.ensures) _ A (in_by c.args.a _ t.words.0))

pub returns-in_err-on_priority-in-33 : goal.returns-in_err-on_priority-in-33
unfolding table cre_tsk_row
returns-in_err-on_priority-in-33 c =
    arm_refused 32 (λ v. cre_tsk_row v c.args.a c.args.b) c.args.caller.handler c.args.caller.me c.args.a c.args.b c.args.c c.in-33.is (λ v. refl) (λ A. rw (rw (to_z-of_z c.ranges.a) at c.named-i.ensures, rw (to_z-of_z c.ranges.b) at c.named-j.ensures) at (c.on_priority-in-33.ensures _ A)) c.in_err-on_priority-in-33.was (got _ _ c.from_residual-in_err-on_priority-in-33.ensures.1)

pub returns-in_ok-on_task-in-34 : goal.returns-in_ok-on_task-in-34
unfolding table del_tsk_row del_tsk
returns-in_ok-on_task-in-34 c =
    arm_done 33 (λ v. del_tsk_row v c.args.a) c.args.caller.handler c.args.caller.me c.args.a c.args.b c.args.c c.in-34.is (λ v. refl) (λ A. rw (rw (to_z-of_z c.ranges.a) at c.named-i.ensures) at (c.on_task-in-34.ensures _ A)) c.in_ok-on_task-in-34.was (λ A t. (rw (rw (to_z-of_z c.ranges.a) at c.named-i.ensures) at c.del_tsk.ensures) _ A (in_by c.args.a _ t.words.0))

pub returns-in_err-on_task-in-34 : goal.returns-in_err-on_task-in-34
unfolding table del_tsk_row
returns-in_err-on_task-in-34 c =
    arm_refused 33 (λ v. del_tsk_row v c.args.a) c.args.caller.handler c.args.caller.me c.args.a c.args.b c.args.c c.in-34.is (λ v. refl) (λ A. rw (rw (to_z-of_z c.ranges.a) at c.named-i.ensures) at (c.on_task-in-34.ensures _ A)) c.in_err-on_task-in-34.was (got _ _ c.from_residual-in_err-on_task-in-34.ensures.1)

pub returns-in_ok-on_nothing-in-35 : goal.returns-in_ok-on_nothing-in-35
unfolding table exd_tsk_row exd_tsk
returns-in_ok-on_nothing-in-35 c =
    arm_done 34 (λ v. exd_tsk_row v c.args.caller.me) c.args.caller.handler c.args.caller.me c.args.a c.args.b c.args.c c.in-35.is (λ v. refl) (λ A. c.on_nothing-in-35.ensures _ A) c.in_ok-on_nothing-in-35.was (λ A t. c.exd_tsk.ensures _ A tt)

pub returns-in_err-on_nothing-in-35 : goal.returns-in_err-on_nothing-in-35
unfolding table exd_tsk_row
returns-in_err-on_nothing-in-35 c =
    arm_refused 34 (λ v. exd_tsk_row v c.args.caller.me) c.args.caller.handler c.args.caller.me c.args.a c.args.b c.args.c c.in-35.is (λ v. refl) (λ A. c.on_nothing-in-35.ensures _ A) c.in_err-on_nothing-in-35.was (got _ _ c.from_residual-in_err-on_nothing-in-35.ensures.1)

pub returns-in_ok-on_setting-in-36 : goal.returns-in_ok-on_setting-in-36
unfolding table set_abs_row set_abs set_alm
returns-in_ok-on_setting-in-36 c =
    arm_done 35 (λ v. set_abs_row v c.args.a c.args.b c.args.c) c.args.caller.handler c.args.caller.me c.args.a c.args.b c.args.c c.in-36.is (λ v. refl) (λ A. rw (rw (to_z-of_z c.ranges.a) at c.named-i.ensures, to_z-of_z c.ranges.b, to_z-of_z c.ranges.c) at (c.on_setting.ensures _ A)) c.in_ok-on_setting-in-36.was (λ A t. (rw (rw (to_z-of_z c.ranges.a) at c.named-i.ensures, rw (to_z-of_z c.ranges.b) at c.named-j.ensures, rw (to_z-of_z c.ranges.c) at c.named-in-36.ensures) at c.set_abs.ensures) _ A (in_by c.args.a _ t.words.0))

pub returns-in_err-on_setting-in-36 : goal.returns-in_err-on_setting-in-36
unfolding table set_abs_row
returns-in_err-on_setting-in-36 c =
    arm_refused 35 (λ v. set_abs_row v c.args.a c.args.b c.args.c) c.args.caller.handler c.args.caller.me c.args.a c.args.b c.args.c c.in-36.is (λ v. refl) (λ A. rw (rw (to_z-of_z c.ranges.a) at c.named-i.ensures, to_z-of_z c.ranges.b, to_z-of_z c.ranges.c) at (c.on_setting.ensures _ A)) c.in_err-on_setting-in-36.was (got _ _ c.from_residual-in_err-on_setting-in-36.ensures.1)

pub returns-in_ok-on_setting-in-37 : goal.returns-in_ok-on_setting-in-37
unfolding table set_rel_row set_rel set_alm
returns-in_ok-on_setting-in-37 c =
    arm_done 36 (λ v. set_rel_row v c.args.a c.args.b c.args.c) c.args.caller.handler c.args.caller.me c.args.a c.args.b c.args.c c.in-37.is (λ v. refl) (λ A. rw (rw (to_z-of_z c.ranges.a) at c.named-i.ensures, to_z-of_z c.ranges.b, to_z-of_z c.ranges.c) at (c.on_setting-in-37.ensures _ A)) c.in_ok-on_setting-in-37.was (λ A t. (rw (rw (to_z-of_z c.ranges.a) at c.named-i.ensures, rw (to_z-of_z c.ranges.b) at c.named-j.ensures, rw (to_z-of_z c.ranges.c) at c.named-in-37.ensures) at c.set_rel.ensures) _ A (in_by c.args.a _ t.words.0))

pub returns-in_err-on_setting-in-37 : goal.returns-in_err-on_setting-in-37
unfolding table set_rel_row
returns-in_err-on_setting-in-37 c =
    arm_refused 36 (λ v. set_rel_row v c.args.a c.args.b c.args.c) c.args.caller.handler c.args.caller.me c.args.a c.args.b c.args.c c.in-37.is (λ v. refl) (λ A. rw (rw (to_z-of_z c.ranges.a) at c.named-i.ensures, to_z-of_z c.ranges.b, to_z-of_z c.ranges.c) at (c.on_setting-in-37.ensures _ A)) c.in_err-on_setting-in-37.was (got _ _ c.from_residual-in_err-on_setting-in-37.ensures.1)

pub returns-in_ok-on_alarm-in-38 : goal.returns-in_ok-on_alarm-in-38
unfolding table can_alm_row can_alm
returns-in_ok-on_alarm-in-38 c =
    arm_done 37 (λ v. can_alm_row v c.args.a) c.args.caller.handler c.args.caller.me c.args.a c.args.b c.args.c c.in-38.is (λ v. refl) (λ A. rw (rw (to_z-of_z c.ranges.a) at c.named-i.ensures) at (c.on_alarm.ensures _ A)) c.in_ok-on_alarm-in-38.was (λ A t. (rw (rw (to_z-of_z c.ranges.a) at c.named-i.ensures) at c.can_alm.ensures) _ A (in_by c.args.a _ t.words.0))

pub returns-in_err-on_alarm-in-38 : goal.returns-in_err-on_alarm-in-38
unfolding table can_alm_row
returns-in_err-on_alarm-in-38 c =
    arm_refused 37 (λ v. can_alm_row v c.args.a) c.args.caller.handler c.args.caller.me c.args.a c.args.b c.args.c c.in-38.is (λ v. refl) (λ A. rw (rw (to_z-of_z c.ranges.a) at c.named-i.ensures) at (c.on_alarm.ensures _ A)) c.in_err-on_alarm-in-38.was (got _ _ c.from_residual-in_err-on_alarm-in-38.ensures.1)

pub returns-in_ok-on_alarm-in-39 : goal.returns-in_ok-on_alarm-in-39
unfolding table alm_sts_row alm_sts
returns-in_ok-on_alarm-in-39 c =
    arm_done 38 (λ v. alm_sts_row v c.args.a) c.args.caller.handler c.args.caller.me c.args.a c.args.b c.args.c c.in-39.is (λ v. refl) (λ A. rw (rw (to_z-of_z c.ranges.a) at c.named-i.ensures) at (c.on_alarm-in-39.ensures _ A)) c.in_ok-on_alarm-in-39.was (λ A t. (rw (rw (to_z-of_z c.ranges.a) at c.named-i.ensures) at c.alm_sts.ensures) _ A (in_by c.args.a _ t.words.0))

pub returns-in_err-on_alarm-in-39 : goal.returns-in_err-on_alarm-in-39
unfolding table alm_sts_row
returns-in_err-on_alarm-in-39 c =
    arm_refused 38 (λ v. alm_sts_row v c.args.a) c.args.caller.handler c.args.caller.me c.args.a c.args.b c.args.c c.in-39.is (λ v. refl) (λ A. rw (rw (to_z-of_z c.ranges.a) at c.named-i.ensures) at (c.on_alarm-in-39.ensures _ A)) c.in_err-on_alarm-in-39.was (got _ _ c.from_residual-in_err-on_alarm-in-39.ensures.1)

pub returns-in_default : goal.returns-in_default
unfolding number every keyed
returns-in_default c =
    arm_none c.args.caller.handler c.args.caller.me c.args.n c.args.a c.args.b c.args.c (λ v. no_row v _ _ _ _ _ _ ((39 ∷ []) ∷ (38 ∷ []) ∷ (37 ∷ []) ∷ (36 ∷ []) ∷ (35 ∷ []) ∷ (34 ∷ []) ∷ (33 ∷ []) ∷ (32 ∷ []) ∷ (31 ∷ []) ∷ (30 ∷ []) ∷ (29 ∷ []) ∷ (28 ∷ []) ∷ (27 ∷ []) ∷ (26 ∷ []) ∷ (25 ∷ []) ∷ (24 ∷ []) ∷ (23 ∷ []) ∷ (22 ∷ []) ∷ (21 ∷ []) ∷ (20 ∷ []) ∷ (19 ∷ []) ∷ (18 ∷ []) ∷ (17 ∷ []) ∷ (16 ∷ []) ∷ (15 ∷ []) ∷ (14 ∷ []) ∷ (13 ∷ []) ∷ (12 ∷ []) ∷ (11 ∷ []) ∷ (10 ∷ []) ∷ (9 ∷ []) ∷ (8 ∷ []) ∷ (7 ∷ []) ∷ (6 ∷ []) ∷ (5 ∷ []) ∷ (4 ∷ []) ∷ (3 ∷ []) ∷ (2 ∷ []) ∷ (1 ∷ []) ∷ []) refl (search rules)) c.refuse.ensures
