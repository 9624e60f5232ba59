-- The table of the calls, the order of the refusals, and the judgement of an event.
use Rattle.std.specs.Prelude.{Bool, true, false, not, cond, ◌&&◌, ◌||◌, List, [], ◌∷◌, ℕ, zero, suc, eqb, ℤ, pos, negsuc}
use Rattle.std.proofs.Math.Option.{Option, none, some}
use Rattle.rules.specs.Codes.{H-CALL, E-NOEXS, E-CTX, E-SELF, E-DMT}
use Rattle.rules.specs.State.{Body, task, is_dormant, is_absent, is_open}
use Rattle.rules.specs.Events.{Event, tick, enter, exit, call}
use Rattle.rules.specs.View.{View, running}
use Rattle.rules.specs.Verdicts.{Verdict, refuse, check}
use Rattle.rules.specs.Tasks.{starting, sta_tsk, ext_tsk, ter_tsk, chg_pri, rot_rdq, rel_wai, sus_tsk, rsm_tsk, take_wakeup, slp_tsk, wai_for, wai_tsk, waking, wup_tsk, can_wup, get_tid, state_number, tsk_sts, cre_tsk, del_tsk, exd_tsk}
use Rattle.rules.specs.Objects.{to_first, obj_sts, sig_sem, take_sem, looks, set_flg, clr_flg, take_flg, snd_msg, take_msg, take_blk, rel_blk}
use Rattle.rules.specs.Alarms.{fired, rings, set_alm, set_abs, set_rel, can_alm, alm_sts}
use Rattle.rules.specs.Rows.{Refusal, Context, T, both, Target, unnamed, anyone, alive, another, Row, sta_tsk_row, ext_tsk_row, ter_tsk_row, chg_pri_row, rot_rdq_row, rel_wai_row, sus_tsk_row, rsm_tsk_row, slp_tsk_row, wai_tsk_row, wup_tsk_row, can_wup_row, sig_sem_row, wai_sem_row, preq_sem_row, set_flg_row, clr_flg_row, wai_flg_row, pol_flg_row, snd_msg_row, rcv_msg_row, prcv_msg_row, get_blk_row, pget_blk_row, rel_blk_row, get_tid_row, tsk_sts_row, sem_sts_row, flg_sts_row, mbx_sts_row, mpl_sts_row, get_tim_row, cre_tsk_row, del_tsk_row, exd_tsk_row, set_abs_row, set_rel_row, can_alm_row, alm_sts_row}
use Rattle.rules.specs.Time.{get_tim, ticked}
use Rattle.rules.specs.Handling.{entered, exited}

-- ---- the order of the refusals

-- the first that applies decides
unfoldable pub refusals : List Refusal → Verdict → Verdict
refusals [] r = r
refusals (x ∷ l) r = check x.applies x.code (refusals l r)

-- E_CTX: task-only call from a handler; task context while nothing runs or a handler is open; a handler's call while none is open.
-- `handler` says that an open handler calls; `me` is the task that calls, 0 if none does.
abbrev pub misplaced : Context → Bool → ℕ → Bool
misplaced T handler me = eqb me 0
misplaced both handler me = not handler && eqb me 0

-- E_NOEXS: on a task that is not there
abbrev pub names_absent : Body → Target → Bool
names_absent b unnamed = false
names_absent b (anyone i) = is_absent (task b i).state
names_absent b (alive i) = is_absent (task b i).state
names_absent b (another i) = is_absent (task b i).state

-- E_SELF: on oneself, task context
abbrev pub names_self : Target → ℕ → Bool
names_self unnamed me = false
names_self (anyone i) me = false
names_self (alive i) me = false
names_self (another i) me = eqb i me

-- E_DMT: on a dormant task
abbrev pub names_dormant : Body → Target → Bool
names_dormant b unnamed = false
names_dormant b (anyone i) = false
names_dormant b (alive i) = is_dormant (task b i).state
names_dormant b (another i) = is_dormant (task b i).state

-- Order where several apply: the parameters a, b, c left to right, E_CTX, E_NOEXS of a task that is not there, E_SELF, E_DMT, the rest.
unfoldable pub judged : View → Bool → ℕ → Row → Verdict
judged v handler me r =
    refusals r.words (refusals (
    record { applies = misplaced r.context handler me; code = E-CTX }
    ∷ record { applies = names_absent v.body r.target; code = E-NOEXS }
    ∷ record { applies = names_self r.target me; code = E-SELF }
    ∷ record { applies = names_dormant v.body r.target; code = E-DMT }
    ∷ []) r.rule)

-- ---- the calls, from 1

unfoldable pub table : View → ℕ → ℤ → ℤ → ℤ → List Row
table v me a b c =
    sta_tsk_row v a
    ∷ ext_tsk_row v me
    ∷ ter_tsk_row v a
    ∷ chg_pri_row v a b
    ∷ rot_rdq_row v a
    ∷ rel_wai_row v a
    ∷ sus_tsk_row v a
    ∷ rsm_tsk_row v a
    ∷ slp_tsk_row v me
    ∷ wai_tsk_row v me a
    ∷ wup_tsk_row v a
    ∷ can_wup_row v a
    ∷ sig_sem_row v a
    ∷ wai_sem_row v me a
    ∷ preq_sem_row v a
    ∷ set_flg_row v a b
    ∷ clr_flg_row v a b
    ∷ wai_flg_row v me a b c
    ∷ pol_flg_row v a b c
    ∷ snd_msg_row v a b
    ∷ rcv_msg_row v me a
    ∷ prcv_msg_row v a
    ∷ get_blk_row v me a
    ∷ pget_blk_row v a
    ∷ rel_blk_row v a b
    ∷ get_tid_row v
    ∷ tsk_sts_row v a
    ∷ sem_sts_row v a
    ∷ flg_sts_row v a
    ∷ mbx_sts_row v a
    ∷ mpl_sts_row v a
    ∷ get_tim_row v
    ∷ cre_tsk_row v a b
    ∷ del_tsk_row v a
    ∷ exd_tsk_row v me
    ∷ set_abs_row v a b c
    ∷ set_rel_row v a b c
    ∷ can_alm_row v a
    ∷ alm_sts_row v a
    ∷ []

-- Whoever unfolds this sees every row and every rule.
unfoldable pub calls_shown : Unit {0}
unfolding table sta_tsk_row ext_tsk_row ter_tsk_row chg_pri_row rot_rdq_row rel_wai_row sus_tsk_row rsm_tsk_row slp_tsk_row wai_tsk_row wup_tsk_row can_wup_row sig_sem_row wai_sem_row preq_sem_row set_flg_row clr_flg_row wai_flg_row pol_flg_row snd_msg_row rcv_msg_row prcv_msg_row get_blk_row pget_blk_row rel_blk_row get_tid_row tsk_sts_row sem_sts_row flg_sts_row mbx_sts_row mpl_sts_row get_tim_row cre_tsk_row del_tsk_row exd_tsk_row set_abs_row set_rel_row can_alm_row alm_sts_row starting sta_tsk ext_tsk ter_tsk chg_pri rot_rdq rel_wai sus_tsk rsm_tsk take_wakeup slp_tsk wai_for wai_tsk waking wup_tsk can_wup get_tid state_number tsk_sts cre_tsk del_tsk exd_tsk to_first obj_sts sig_sem take_sem looks set_flg clr_flg take_flg snd_msg take_msg take_blk rel_blk fired rings set_alm set_abs set_rel can_alm alm_sts get_tim ticked entered exited
calls_shown = tt

-- how many calls there are
abbrev pub call_count : ℕ
call_count = 39

-- judged, where the table has the call
unfoldable pub looked_up : View → Bool → ℕ → Option Row → Verdict
looked_up v h me none = refuse H-CALL
looked_up v h me (some r) = judged v h me r

abbrev pub entry : List Row → ℕ → Option Row
entry [] n = none
entry (r ∷ l) zero = some r
entry (r ∷ l) (suc n) = entry l n

-- call number n (H_CALL: not 1..39), from a handler or not, by `me`
unfoldable pub numbered : View → Bool → ℕ → ℕ → ℤ → ℤ → ℤ → Verdict
numbered v h me zero a b c = refuse H-CALL
numbered v h me (suc n) a b c = looked_up v h me (entry (table v me a b c) n)

-- ---- an event

-- context: 0 task, 1 handler
abbrev pub handler : ℤ → Option Bool
handler (pos zero) = some false
handler (pos (suc zero)) = some true
handler (pos (suc (suc n))) = none
handler (negsuc n) = none

-- In task context the caller is the running task; while a handler is open no task calls.
abbrev pub caller : View → Bool → ℕ
caller v h = cond (h || is_open v.body.handlers) 0 (running v)

-- a handler calls, and one is open
abbrev pub handles : View → Bool → Bool
handles v h = h && is_open v.body.handlers

-- H_CALL: a negative call number, or context not 0 or 1.
unfoldable pub called : View → Option Bool → ℤ → ℤ → ℤ → ℤ → Verdict
called v none n a b c = refuse H-CALL
called v (some h) (negsuc n) a b c = refuse H-CALL
called v (some h) (pos n) a b c = numbered v (handles v h) (caller v h) n a b c

unfoldable pub judge : View → Event → Verdict
judge v tick = ticked v
judge v enter = entered v
judge v exit = exited v
judge v (call x n a b c) = called v (handler x) n a b c
