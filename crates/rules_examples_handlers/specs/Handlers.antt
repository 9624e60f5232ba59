-- Worked examples of handlers.
use Rattle.std.specs.Prelude.{[], ◌∷◌, ◌++◌, map, pos, replicate}
use Rattle.rules.specs.Codes.{minus}
use Rattle.rules.specs.Events.{tick, enter, exit, call}
use Rattle.rules_examples.specs.Bytes.{example_bytes}
use Rattle.rules_examples.specs.BenchSheet.{X, H, I, step, case, Sheet, sta_tsk, ext_tsk, ter_tsk, chg_pri, rot_rdq, rel_wai, sus_tsk, rsm_tsk, slp_tsk, wai_tsk, wup_tsk, can_wup, sig_sem, wai_sem, preq_sem, set_flg, clr_flg, wai_flg, pol_flg, snd_msg, rcv_msg, prcv_msg, get_blk, pget_blk, rel_blk, get_tid, tsk_sts, sem_sts, flg_sts, mbx_sts, mpl_sts, get_tim, alone}

-- Handlers: entry and return as events, over the same setup. Each case has the request's words above it.
abbrev pub handler_examples : Sheet
handler_examples = record {
  bytes = example_bytes;
  cases =
      -- While any handler is open, the running task reported is the one at the outermost entry: task 3, of priority 1, is started by a
      -- handler and runs only after the return. Entry and return give code 0 and no words. get_tid gives the interrupted task, tsk_sts shows
      -- it as RUN, and every other task in a ready queue as READY.
      case 0 1
      (step (alone enter) (pos 0) 0 0 1 0
      ∷ step (I sta_tsk 3 0 0) (pos 0) 0 0 1 0
      ∷ step (I get_tid 0 0 0) (pos 0) 1 0 1 0
      ∷ step (I tsk_sts 1 0 0) (pos 0) 2 2 1 0
      ∷ step (I tsk_sts 3 0 0) (pos 0) 1 1 1 0
      ∷ step (I tsk_sts 2 0 0) (pos 0) 1 2 1 0
      ∷ step (alone exit) (pos 0) 0 0 3 0
      ∷ step (X tsk_sts 3 0 0) (pos 0) 2 1 3 0
      ∷ step (X tsk_sts 1 0 0) (pos 0) 1 2 3 0
      ∷ [])
      3 (pos 0) 0
      -- Even if it has been suspended meanwhile; tsk_sts then shows SUSPEND, and the head of its queue is READY. Resumed, it stands last in its
      -- queue and shows RUN until the return.
      ∷ case 0 1
      (step (alone enter) (pos 0) 0 0 1 0
      ∷ step (I sus_tsk 1 0 0) (pos 0) 0 0 1 0
      ∷ step (I get_tid 0 0 0) (pos 0) 1 0 1 0
      ∷ step (I tsk_sts 1 0 0) (pos 0) 4 2 1 0
      ∷ step (I tsk_sts 2 0 0) (pos 0) 1 2 1 0
      ∷ step (I sus_tsk 1 0 0) (minus 4) 0 0 1 0
      ∷ step (I rsm_tsk 1 0 0) (pos 0) 0 0 1 0
      ∷ step (I tsk_sts 1 0 0) (pos 0) 2 2 1 0
      ∷ step (alone exit) (pos 0) 0 0 2 0
      ∷ step (X tsk_sts 1 0 0) (pos 0) 1 2 2 0
      ∷ [])
      1 (pos 0) 0
      -- Suspended at the return, it is SUSPEND and the next one runs; with every other task asleep nobody does.
      ∷ case 0 1
      (step (H sus_tsk 1 0 0) (pos 0) 0 0 2 0
      ∷ step (X tsk_sts 1 0 0) (pos 0) 4 2 2 0
      ∷ step (X slp_tsk 0 0 0) (pos 1) 0 0 5 0
      ∷ step (X slp_tsk 0 0 0) (pos 1) 0 0 4 0
      ∷ step (alone enter) (pos 0) 0 0 4 0
      ∷ step (I sus_tsk 4 0 0) (pos 0) 0 0 4 0
      ∷ step (alone exit) (pos 0) 0 0 0 0
      ∷ [])
      1 (pos 0) 0
      -- So does one whose priority changes: it goes last in another queue, and shows RUN until the return.
      ∷ case 0 1
      (step (alone enter) (pos 0) 0 0 1 0
      ∷ step (I chg_pri 1 4 0) (pos 0) 0 0 1 0
      ∷ step (I tsk_sts 1 0 0) (pos 0) 2 4 1 0
      ∷ step (alone exit) (pos 0) 0 0 2 0
      ∷ [])
      1 (pos 0) 0
      -- Nested: the inner entry interrupts nobody else, the inner return switches nobody. H> inside a handler is entry, call, return too.
      ∷ case 0 1
      (step (alone enter) (pos 0) 0 0 1 0
      ∷ step (I sus_tsk 1 0 0) (pos 0) 0 0 1 0
      ∷ step (alone enter) (pos 0) 0 0 1 0
      ∷ step (I sta_tsk 3 0 0) (pos 0) 0 0 1 0
      ∷ step (alone exit) (pos 0) 0 0 1 0
      ∷ step (H wup_tsk 1 0 0) (pos 0) 0 0 1 0
      ∷ step (I tsk_sts 3 0 0) (pos 0) 1 1 1 0
      ∷ step (alone exit) (pos 0) 0 0 3 0
      ∷ [])
      3 (pos 0) 0
      -- Nested up to 15 deep: entry at 15 is H_NEST, and changes nothing. A tick at depth 15 needs no entry. Return at 0 is E_CTX.
      ∷ case 0 1
      (replicate 15 (step (alone enter) (pos 0) 0 0 1 0) ++ (step (alone enter) (minus 7) 0 0 1 0
      ∷ step (alone tick) (pos 0) 0 0 1 0
      ∷ step (I get_tim 0 0 0) (pos 0) 0 1 1 0
      ∷ step (alone enter) (minus 7) 0 0 1 0
      ∷ step (alone exit) (pos 0) 0 0 1 0
      ∷ step (alone enter) (pos 0) 0 0 1 0
      ∷ step (alone enter) (minus 7) 0 0 1 0
      ∷ replicate 15 (step (alone exit) (pos 0) 0 0 1 0) ++ (step (alone exit) (minus 2629) 0 0 1 0
      ∷ step (X get_tim 0 0 0) (pos 0) 0 1 1 0
      ∷ [])))
      1 (pos 0) 0
      -- rot_rdq(0) acts on the best nonempty ready queue: the interrupted task goes last, and shows RUN until the return.
      ∷ case 0 1
      (step (alone enter) (pos 0) 0 0 1 0
      ∷ step (I rot_rdq 0 0 0) (pos 0) 0 0 1 0
      ∷ step (I tsk_sts 1 0 0) (pos 0) 2 2 1 0
      ∷ step (I tsk_sts 2 0 0) (pos 0) 1 2 1 0
      ∷ step (I rot_rdq 0 0 0) (pos 0) 0 0 1 0
      ∷ step (alone exit) (pos 0) 0 0 5 0
      ∷ [])
      1 (pos 0) 0
      -- Not on the interrupted task's queue: task 3 has started at priority 1, and nobody of priority 2 moves.
      ∷ case 0 1
      (step (alone enter) (pos 0) 0 0 1 0
      ∷ step (I sta_tsk 3 0 0) (pos 0) 0 0 1 0
      ∷ step (I rot_rdq 0 0 0) (pos 0) 0 0 1 0
      ∷ step (alone exit) (pos 0) 0 0 3 0
      ∷ step (X slp_tsk 0 0 0) (pos 1) 0 0 1 0
      ∷ [])
      3 (pos 0) 0
      -- An entry while nothing runs: the task reported stays 0 until the return, nobody shows RUN, get_tid is code 0 with w1 0. rot_rdq(0)
      -- moves nothing with every queue empty, code 0; and acts on the best nonempty queue even while the running task reported is 0.
      ∷ case 0 1
      (step (X slp_tsk 0 0 0) (pos 1) 0 0 2 0
      ∷ step (X slp_tsk 0 0 0) (pos 1) 0 0 5 0
      ∷ step (X slp_tsk 0 0 0) (pos 1) 0 0 4 0
      ∷ step (X slp_tsk 0 0 0) (pos 1) 0 0 0 0
      ∷ step (alone enter) (pos 0) 0 0 0 0
      ∷ step (I rot_rdq 0 0 0) (pos 0) 0 0 0 0
      ∷ step (I wup_tsk 4 0 0) (pos 0) 0 0 0 1
      ∷ step (I wup_tsk 1 0 0) (pos 0) 0 0 0 1
      ∷ step (I wup_tsk 2 0 0) (pos 0) 0 0 0 1
      ∷ step (I get_tid 0 0 0) (pos 0) 0 0 0 0
      ∷ step (I tsk_sts 1 0 0) (pos 0) 1 2 0 0
      ∷ step (I rot_rdq 0 0 0) (pos 0) 0 0 0 0
      ∷ step (X get_tid 0 0 0) (minus 2629) 0 0 0 0
      ∷ step (alone exit) (pos 0) 0 0 2 0
      ∷ step (X slp_tsk 0 0 0) (pos 1) 0 0 1 0
      ∷ [])
      1 (pos 0) 0
      -- A tick outside handlers counts as entry, tick, return: the task that it releases runs at once. Inside, it runs after the return.
      ∷ case 0 1
      (step (X chg_pri 1 1 0) (pos 0) 0 0 1 0
      ∷ step (X wai_tsk 1 0 0) (pos 1) 0 0 2 0
      ∷ step (alone tick) (pos 0) 0 0 1 1
      ∷ step (X wai_tsk 2 0 0) (pos 1) 0 0 2 0
      ∷ step (alone enter) (pos 0) 0 0 2 0
      ∷ step (alone tick) (pos 0) 0 0 2 0
      ∷ step (alone tick) (pos 0) 0 0 2 1
      ∷ step (I tsk_sts 1 0 0) (pos 0) 1 1 2 0
      ∷ step (alone exit) (pos 0) 0 0 1 0
      ∷ [])
      1 (minus 3413) 0
      -- A handler call at depth 0 is E_CTX, behind the words: H> of the bench sheet is not meant here.
      ∷ case 0 1
      (step (I get_tid 0 0 0) (minus 2629) 0 0 1 0
      ∷ step (I sta_tsk 3 0 0) (minus 2629) 0 0 1 0
      ∷ step (I wai_sem 9 0 0) (minus 2100) 0 0 1 0
      ∷ step (I sus_tsk 3 0 0) (minus 2629) 0 0 1 0
      ∷ step (alone exit) (minus 2629) 0 0 1 0
      ∷ step (X tsk_sts 3 0 0) (pos 0) 0 1 1 0
      ∷ [])
      1 (pos 0) 0
      -- A task call above 0 is E_CTX, behind the words and before E_SELF and E_DMT, whichever call it is; so are a handler's task-only calls. Nobody
      -- is oneself to a handler: it may suspend or wake the interrupted task.
      ∷ case 0 1
      (step (alone enter) (pos 0) 0 0 1 0
      ∷ map (λ e. step e (minus 2629) 0 0 1 0)
      (X sta_tsk 3 0 0 ∷ X ext_tsk 0 0 0 ∷ X ter_tsk 1 0 0 ∷ X chg_pri 3 2 0
      ∷ X rot_rdq 0 0 0 ∷ X rel_wai 1 0 0 ∷ X sus_tsk 1 0 0 ∷ X rsm_tsk 2 0 0
      ∷ X slp_tsk 0 0 0 ∷ X wai_tsk 0 0 0 ∷ X wup_tsk 1 0 0 ∷ X can_wup 3 0 0
      ∷ X sig_sem 3 0 0 ∷ X wai_sem 2 0 0 ∷ X preq_sem 1 0 0 ∷ X set_flg 1 1 0
      ∷ X clr_flg 2 0 0 ∷ X wai_flg 2 5 0 ∷ X pol_flg 1 1 0 ∷ X snd_msg 1 1 0
      ∷ X rcv_msg 1 0 0 ∷ X prcv_msg 2 0 0 ∷ X get_blk 1 0 0 ∷ X pget_blk 2 0 0
      ∷ X rel_blk 1 1 0 ∷ X get_tid 0 0 0 ∷ X tsk_sts 1 0 0 ∷ X sem_sts 1 0 0
      ∷ X flg_sts 1 0 0 ∷ X mbx_sts 1 0 0 ∷ X mpl_sts 1 0 0 ∷ X get_tim 0 0 0
      ∷ I ext_tsk 0 0 0 ∷ I ter_tsk 1 0 0 ∷ I slp_tsk 0 0 0 ∷ I wai_tsk 0 0 0
      ∷ I wai_sem 2 0 0 ∷ I wai_flg 2 5 0 ∷ I rcv_msg 1 0 0 ∷ I get_blk 1 0 0 ∷ [])
      ++ (step (X sus_tsk 6 0 0) (minus 2100) 0 0 1 0
      ∷ step (alone (call (pos 2) (pos 26) (pos 0) (pos 0) (pos 0))) (minus 1) 0 0 1 0
      ∷ step (alone (call (pos 0) (pos 40) (pos 0) (pos 0) (pos 0))) (minus 1) 0 0 1 0
      ∷ step (I wup_tsk 1 0 0) (pos 0) 0 0 1 0
      ∷ step (alone exit) (pos 0) 0 0 1 0
      ∷ step (X can_wup 1 0 0) (pos 0) 1 0 1 0
      ∷ []))
      1 (pos 0) 0
      ∷ [];
}
