-- Worked examples of calls 1 to 12.
use Rattle.std.specs.Prelude.{[], ◌∷◌, ◌++◌, pos, replicate}
use Rattle.rules.specs.Codes.{minus}
use Rattle.rules.specs.Setup.{Read, got, and_then, setup}
use Rattle.rules.specs.Events.{Event, tick}
use Rattle.rules.specs.View.{View}
use Rattle.rules.specs.Kernel.{fresh, event}
use Rattle.rules.specs.Runs.{answers}
use Rattle.rules_examples.specs.Bytes.{example_bytes}
use Rattle.rules_examples.specs.BenchSheet.{X±, H±, X, H, step, case, Sheet, sta_tsk, ext_tsk, ter_tsk, chg_pri, rot_rdq, rel_wai, sus_tsk, rsm_tsk, slp_tsk, wai_tsk, wup_tsk, can_wup, sig_sem, wai_sem, snd_msg, rcv_msg, get_blk, get_tid, tsk_sts, sem_sts, mpl_sts, get_tim, alone}

-- Calls 1 to 12: tasks. Each case has the paper's words above it.
abbrev pub task_examples : Sheet
task_examples = record {
  bytes = example_bytes;
  cases =
      -- 1 sta_tsk(a): ready at its starting priority. The running task is the head of the nonempty ready queue with the smallest priority
      -- number: task 3 preempts task 1, which keeps the head of its queue and runs again before its peers 2 and 5.
      case 0 1
      (step (X sta_tsk 3 0 0) (pos 0) 0 0 3 0
      ∷ step (X tsk_sts 3 0 0) (pos 0) 2 1 3 0
      ∷ step (X tsk_sts 1 0 0) (pos 0) 1 2 3 0
      ∷ step (X slp_tsk 0 0 0) (pos 1) 0 0 1 0
      ∷ step (X tsk_sts 3 0 0) (pos 0) 3 1 1 0
      ∷ [])
      3 (pos 0) 0
      -- H_NODMT: sta_tsk on a task not dormant. E_NOEXS: id outside 1..count.
      ∷ case 0 1
      (step (X sta_tsk 2 0 0) (minus 3) 0 0 1 0
      ∷ step (X sta_tsk 0 0 0) (minus 2100) 0 0 1 0
      ∷ step (H sta_tsk 6 0 0) (minus 2100) 0 0 1 0
      ∷ step (H± sta_tsk (minus 1) (pos 0) (pos 0)) (minus 2100) 0 0 1 0
      ∷ [])
      1 (pos 0) 0
      -- 2 ext_tsk: the caller goes dormant, code 0; clears the wake-up count and restores the starting priority; returns no blocks.
      ∷ case 0 1
      (step (H wup_tsk 1 0 0) (pos 0) 0 0 1 0
      ∷ step (X chg_pri 1 1 0) (pos 0) 0 0 1 0
      ∷ step (X get_blk 2 0 0) (pos 0) 1 0 1 0
      ∷ step (X ext_tsk 0 0 0) (pos 0) 0 0 2 0
      ∷ step (X tsk_sts 1 0 0) (pos 0) 0 2 2 0
      ∷ step (X mpl_sts 2 0 0) (pos 0) 0 0 2 0
      ∷ step (X can_wup 1 0 0) (minus 2101) 0 0 2 0
      ∷ step (X sta_tsk 1 0 0) (pos 0) 0 0 2 0
      ∷ step (X can_wup 1 0 0) (pos 0) 0 0 2 0
      ∷ step (H ext_tsk 0 0 0) (minus 2629) 0 0 2 0
      ∷ [])
      1 (pos 0) 0
      -- 3 ter_tsk(a): leaves every queue, goes dormant. A terminated wait writes no cell, and such a task is not counted as released. (The
      -- cell was written by rel_wai, before.)
      ∷ case 0 1
      (step (X slp_tsk 0 0 0) (pos 1) 0 0 2 0
      ∷ step (X rel_wai 1 0 0) (pos 0) 0 0 2 1
      ∷ step (X rot_rdq 0 0 0) (pos 0) 0 0 5 0
      ∷ step (X rot_rdq 2 0 0) (pos 0) 0 0 1 0
      ∷ step (X wai_sem 1 0 0) (pos 1) 0 0 2 0
      ∷ step (X sem_sts 1 0 0) (pos 0) 1 0 2 0
      ∷ step (X ter_tsk 1 0 0) (pos 0) 0 0 2 0
      ∷ step (X sem_sts 1 0 0) (pos 0) 0 0 2 0
      ∷ step (X tsk_sts 1 0 0) (pos 0) 0 2 2 0
      ∷ step (X sig_sem 1 0 0) (pos 0) 0 0 2 0
      ∷ step (X sem_sts 1 0 0) (pos 0) 0 1 2 0
      ∷ [])
      1 (minus 3414) 0
      -- The cell is left, be it 0 and 0: E_RLWAI is rel_wai's alone.
      ∷ case 0 1
      (step (X wai_sem 1 0 0) (pos 1) 0 0 2 0
      ∷ step (X ter_tsk 1 0 0) (pos 0) 0 0 2 0
      ∷ [])
      1 (pos 0) 0
      -- Only release and sta_tsk change a cell: ready at its starting priority, cell 0 and 0.
      ∷ case 0 1
      (step (X slp_tsk 0 0 0) (pos 1) 0 0 2 0
      ∷ step (X rel_wai 1 0 0) (pos 0) 0 0 2 1
      ∷ step (X ter_tsk 1 0 0) (pos 0) 0 0 2 0
      ∷ step (X sta_tsk 1 0 0) (pos 0) 0 0 2 0
      ∷ step (X tsk_sts 1 0 0) (pos 0) 1 2 2 0
      ∷ [])
      1 (pos 0) 0
      -- Cell 0 and 0: the message of the last wait is gone too.
      ∷ case 0 1
      (step (X rcv_msg 1 0 0) (pos 1) 0 0 2 0
      ∷ step (X snd_msg 1 3 0) (pos 0) 0 0 2 1
      ∷ step (X ter_tsk 1 0 0) (pos 0) 0 0 2 0
      ∷ step (X sta_tsk 1 0 0) (pos 0) 0 0 2 0
      ∷ [])
      1 (pos 0) 0
      -- E_SELF: ter_tsk on oneself. E_DMT: on a dormant task. E_CTX: task-only call from a handler. The id is judged before all of these.
      ∷ case 0 1
      (step (X ter_tsk 1 0 0) (minus 2097) 0 0 1 0
      ∷ step (X ter_tsk 3 0 0) (minus 2101) 0 0 1 0
      ∷ step (H ter_tsk 2 0 0) (minus 2629) 0 0 1 0
      ∷ step (H ter_tsk 3 0 0) (minus 2629) 0 0 1 0
      ∷ step (H ter_tsk 6 0 0) (minus 2100) 0 0 1 0
      ∷ step (X tsk_sts 2 0 0) (pos 0) 1 2 1 0
      ∷ [])
      2 (pos 0) 0
      -- 4 chg_pri(a, b): new priority; a READY or RUN task goes last in its queue, even at the same priority.
      ∷ case 0 1
      (step (X chg_pri 1 2 0) (pos 0) 0 0 2 0
      ∷ step (X chg_pri 2 3 0) (pos 0) 0 0 5 0
      ∷ step (X tsk_sts 2 0 0) (pos 0) 1 3 5 0
      ∷ step (X chg_pri 5 4 0) (pos 0) 0 0 1 0
      ∷ step (X chg_pri 4 1 0) (pos 0) 0 0 4 0
      ∷ step (X chg_pri 4 3 0) (pos 0) 0 0 1 0
      ∷ step (X slp_tsk 0 0 0) (pos 1) 0 0 2 0
      ∷ step (X slp_tsk 0 0 0) (pos 1) 0 0 4 0
      ∷ step (X slp_tsk 0 0 0) (pos 1) 0 0 5 0
      ∷ [])
      1 (pos 0) 0
      -- E_TPRI: priority outside 1..P. The parameters are judged left to right, then E_DMT.
      ∷ case 0 1
      (step (X chg_pri 1 0 0) (minus 1830) 0 0 1 0
      ∷ step (X chg_pri 1 5 0) (minus 1830) 0 0 1 0
      ∷ step (X chg_pri 9 9 0) (minus 2100) 0 0 1 0
      ∷ step (X chg_pri 3 5 0) (minus 1830) 0 0 1 0
      ∷ step (X chg_pri 3 1 0) (minus 2101) 0 0 1 0
      ∷ step (X tsk_sts 1 0 0) (pos 0) 2 2 1 0
      ∷ [])
      1 (pos 0) 0
      -- New priority, and nothing else of a task that is not READY or RUN: a waiting one, suspended or not, keeps its place in the wait queue,
      -- and a suspended one stays SUSPEND.
      ∷ case 0 1
      (step (X wai_sem 1 0 0) (pos 1) 0 0 2 0
      ∷ step (X wai_sem 1 0 0) (pos 1) 0 0 5 0
      ∷ step (X chg_pri 1 1 0) (pos 0) 0 0 5 0
      ∷ step (X sem_sts 1 0 0) (pos 0) 1 0 5 0
      ∷ step (X sus_tsk 1 0 0) (pos 0) 0 0 5 0
      ∷ step (X chg_pri 1 3 0) (pos 0) 0 0 5 0
      ∷ step (X sem_sts 1 0 0) (pos 0) 1 0 5 0
      ∷ step (X tsk_sts 1 0 0) (pos 0) 5 3 5 0
      ∷ step (X sig_sem 1 0 0) (pos 0) 0 0 5 1
      ∷ step (X chg_pri 1 1 0) (pos 0) 0 0 5 0
      ∷ step (X tsk_sts 1 0 0) (pos 0) 4 1 5 0
      ∷ step (X rsm_tsk 1 0 0) (pos 0) 0 0 1 0
      ∷ [])
      1 (pos 0) 0
      -- 5 rot_rdq(a): the head of that queue goes last; 0 means the best nonempty ready queue; an empty queue is code 0. E_TPRI: outside 0..P.
      ∷ case 0 1
      (step (X rot_rdq 2 0 0) (pos 0) 0 0 2 0
      ∷ step (X rot_rdq 0 0 0) (pos 0) 0 0 5 0
      ∷ step (X rot_rdq 1 0 0) (pos 0) 0 0 5 0
      ∷ step (X rot_rdq 4 0 0) (pos 0) 0 0 5 0
      ∷ step (H rot_rdq 0 0 0) (pos 0) 0 0 1 0
      ∷ step (X rot_rdq 5 0 0) (minus 1830) 0 0 1 0
      ∷ step (X± rot_rdq (minus 1) (pos 0) (pos 0)) (minus 1830) 0 0 1 0
      ∷ [])
      1 (pos 0) 0
      -- 0 while nothing runs is code 0. E_CTX: task context while nothing runs; it comes behind the parameters and before E_DMT.
      ∷ case 0 1
      (step (X slp_tsk 0 0 0) (pos 1) 0 0 2 0
      ∷ step (X slp_tsk 0 0 0) (pos 1) 0 0 5 0
      ∷ step (X slp_tsk 0 0 0) (pos 1) 0 0 4 0
      ∷ step (X slp_tsk 0 0 0) (pos 1) 0 0 0 0
      ∷ step (H rot_rdq 0 0 0) (pos 0) 0 0 0 0
      ∷ step (X get_tim 0 0 0) (minus 2629) 0 0 0 0
      ∷ step (X get_tid 0 0 0) (minus 2629) 0 0 0 0
      ∷ step (X sus_tsk 3 0 0) (minus 2629) 0 0 0 0
      ∷ step (X sus_tsk 6 0 0) (minus 2100) 0 0 0 0
      ∷ step (H get_tid 0 0 0) (pos 0) 0 0 0 0
      ∷ step (H wup_tsk 4 0 0) (pos 0) 0 0 4 1
      ∷ step (H wup_tsk 2 0 0) (pos 0) 0 0 2 1
      ∷ step (H wup_tsk 1 0 0) (pos 0) 0 0 2 1
      ∷ step (X tsk_sts 4 0 0) (pos 0) 1 3 2 0
      ∷ [])
      4 (pos 0) 0
      -- 6 rel_wai(a): the waiting task is released, cell E_RLWAI and 0. E_NOWAI: on a task not waiting (a dormant one too).
      ∷ case 0 1
      (step (X wai_sem 1 0 0) (pos 1) 0 0 2 0
      ∷ step (X rel_wai 1 0 0) (pos 0) 0 0 2 1
      ∷ step (X sem_sts 1 0 0) (pos 0) 0 0 2 0
      ∷ step (X tsk_sts 1 0 0) (pos 0) 1 2 2 0
      ∷ step (X rel_wai 1 0 0) (minus 2110) 0 0 2 0
      ∷ step (X rel_wai 2 0 0) (minus 2110) 0 0 2 0
      ∷ step (X rel_wai 3 0 0) (minus 2110) 0 0 2 0
      ∷ step (X rel_wai 6 0 0) (minus 2100) 0 0 2 0
      ∷ [])
      1 (minus 3414) 0
      -- 7 sus_tsk(a): a READY or RUN task leaves its ready queue. 8 rsm_tsk(a): SUSPEND is made ready, last in the queue of its priority.
      -- H_SUS: sus_tsk on a suspended task. E_NOSUS: rsm_tsk on a task not suspended.
      ∷ case 0 1
      (step (X sus_tsk 2 0 0) (pos 0) 0 0 1 0
      ∷ step (X tsk_sts 2 0 0) (pos 0) 4 2 1 0
      ∷ step (X sus_tsk 2 0 0) (minus 4) 0 0 1 0
      ∷ step (X sus_tsk 1 0 0) (minus 2097) 0 0 1 0
      ∷ step (X sus_tsk 3 0 0) (minus 2101) 0 0 1 0
      ∷ step (H sus_tsk 1 0 0) (pos 0) 0 0 5 0
      ∷ step (X rsm_tsk 1 0 0) (pos 0) 0 0 5 0
      ∷ step (H rsm_tsk 2 0 0) (pos 0) 0 0 5 0
      ∷ step (X rsm_tsk 2 0 0) (minus 2104) 0 0 5 0
      ∷ step (X rsm_tsk 3 0 0) (minus 2104) 0 0 5 0
      ∷ step (X rot_rdq 0 0 0) (pos 0) 0 0 1 0
      ∷ step (X rot_rdq 0 0 0) (pos 0) 0 0 2 0
      ∷ [])
      1 (pos 0) 0
      -- A waiting task keeps its place; WAIT-SUSPEND becomes WAIT; a released task in WAIT-SUSPEND becomes SUSPEND.
      ∷ case 0 1
      (step (X wai_sem 1 0 0) (pos 1) 0 0 2 0
      ∷ step (X wai_sem 1 0 0) (pos 1) 0 0 5 0
      ∷ step (X sus_tsk 1 0 0) (pos 0) 0 0 5 0
      ∷ step (X tsk_sts 1 0 0) (pos 0) 5 2 5 0
      ∷ step (X sem_sts 1 0 0) (pos 0) 1 0 5 0
      ∷ step (X sus_tsk 1 0 0) (minus 4) 0 0 5 0
      ∷ step (X rsm_tsk 1 0 0) (pos 0) 0 0 5 0
      ∷ step (X tsk_sts 1 0 0) (pos 0) 3 2 5 0
      ∷ step (X sem_sts 1 0 0) (pos 0) 1 0 5 0
      ∷ step (X sus_tsk 1 0 0) (pos 0) 0 0 5 0
      ∷ step (X sig_sem 1 0 0) (pos 0) 0 0 5 1
      ∷ step (X tsk_sts 1 0 0) (pos 0) 4 2 5 0
      ∷ step (X sem_sts 1 0 0) (pos 0) 2 0 5 0
      ∷ [])
      1 (pos 0) 0
      -- H_NODMT on a waiting, a suspended and the running task; E_NOSUS on a waiting and the running task; E_NOWAI on a suspended one.
      ∷ case 0 1
      (step (X slp_tsk 0 0 0) (pos 1) 0 0 2 0
      ∷ step (X sus_tsk 5 0 0) (pos 0) 0 0 2 0
      ∷ step (X sta_tsk 1 0 0) (minus 3) 0 0 2 0
      ∷ step (X sta_tsk 5 0 0) (minus 3) 0 0 2 0
      ∷ step (X sta_tsk 2 0 0) (minus 3) 0 0 2 0
      ∷ step (X rsm_tsk 1 0 0) (minus 2104) 0 0 2 0
      ∷ step (X rsm_tsk 2 0 0) (minus 2104) 0 0 2 0
      ∷ step (X rel_wai 5 0 0) (minus 2110) 0 0 2 0
      ∷ step (X sus_tsk 1 0 0) (pos 0) 0 0 2 0
      ∷ step (X sta_tsk 1 0 0) (minus 3) 0 0 2 0
      ∷ step (X tsk_sts 1 0 0) (pos 0) 5 2 2 0
      ∷ step (X tsk_sts 5 0 0) (pos 0) 4 2 2 0
      ∷ [])
      1 (pos 0) 0
      -- What the events of a task leave as it is: its priority but for chg_pri, its wake-up count but for the calls on it, and its cell, which
      -- only release and sta_tsk change. Task 1 is moved, suspended, resumed and put into a wait, and time goes by.
      ∷ case 0 1
      (step (X slp_tsk 0 0 0) (pos 1) 0 0 2 0
      ∷ step (X rel_wai 1 0 0) (pos 0) 0 0 2 1
      ∷ step (X chg_pri 1 3 0) (pos 0) 0 0 2 0
      ∷ step (X wup_tsk 1 0 0) (pos 0) 0 0 2 0
      ∷ step (X sus_tsk 1 0 0) (pos 0) 0 0 2 0
      ∷ step (alone tick) (pos 0) 0 0 2 0
      ∷ step (X tsk_sts 1 0 0) (pos 0) 4 3 2 0
      ∷ step (X rsm_tsk 1 0 0) (pos 0) 0 0 2 0
      ∷ step (X rot_rdq 3 0 0) (pos 0) 0 0 2 0
      ∷ step (X rot_rdq 3 0 0) (pos 0) 0 0 2 0
      ∷ step (X rot_rdq 3 0 0) (pos 0) 0 0 2 0
      ∷ step (X slp_tsk 0 0 0) (pos 1) 0 0 5 0
      ∷ step (X slp_tsk 0 0 0) (pos 1) 0 0 1 0
      ∷ step (X wai_sem 1 0 0) (pos 1) 0 0 4 0
      ∷ step (X sus_tsk 1 0 0) (pos 0) 0 0 4 0
      ∷ step (alone tick) (pos 0) 0 0 4 0
      ∷ step (X tsk_sts 1 0 0) (pos 0) 5 3 4 0
      ∷ step (X rsm_tsk 1 0 0) (pos 0) 0 0 4 0
      ∷ step (X chg_pri 1 4 0) (pos 0) 0 0 4 0
      ∷ step (alone tick) (pos 0) 0 0 4 0
      ∷ step (X tsk_sts 1 0 0) (pos 0) 3 4 4 0
      ∷ step (X can_wup 1 0 0) (pos 0) 1 0 4 0
      ∷ [])
      1 (minus 3414) 0
      -- 9 slp_tsk: with a stored wake-up, takes one, code 0; else waits. 11 wup_tsk(a): a sleeper is released, cell 0 and 0; any other task's
      -- count rises. 12 can_wup(a): w1 the old count, which becomes 0.
      ∷ case 0 1
      (step (H wup_tsk 1 0 0) (pos 0) 0 0 1 0
      ∷ step (H wup_tsk 1 0 0) (pos 0) 0 0 1 0
      ∷ step (X slp_tsk 0 0 0) (pos 0) 0 0 1 0
      ∷ step (X can_wup 1 0 0) (pos 0) 1 0 1 0
      ∷ step (X can_wup 1 0 0) (pos 0) 0 0 1 0
      ∷ step (X slp_tsk 0 0 0) (pos 1) 0 0 2 0
      ∷ step (X wup_tsk 1 0 0) (pos 0) 0 0 2 1
      ∷ step (H slp_tsk 0 0 0) (minus 2629) 0 0 2 0
      ∷ [])
      1 (pos 0) 0
      -- Any other task's count rises: one that waits on a semaphore is no sleeper. E_SELF and E_DMT.
      ∷ case 0 1
      (step (X wai_sem 1 0 0) (pos 1) 0 0 2 0
      ∷ step (X wup_tsk 1 0 0) (pos 0) 0 0 2 0
      ∷ step (X tsk_sts 1 0 0) (pos 0) 3 2 2 0
      ∷ step (X can_wup 1 0 0) (pos 0) 1 0 2 0
      ∷ step (X wup_tsk 2 0 0) (minus 2097) 0 0 2 0
      ∷ step (X wup_tsk 3 0 0) (minus 2101) 0 0 2 0
      ∷ step (X can_wup 3 0 0) (minus 2101) 0 0 2 0
      ∷ [])
      1 (pos 0) 0
      -- A sleeper that is released stores no wake-up. A release leaves a stored one, and the priority.
      ∷ case 0 1
      (step (X slp_tsk 0 0 0) (pos 1) 0 0 2 0
      ∷ step (X wup_tsk 1 0 0) (pos 0) 0 0 2 1
      ∷ step (X can_wup 1 0 0) (pos 0) 0 0 2 0
      ∷ step (X wai_sem 1 0 0) (pos 1) 0 0 5 0
      ∷ step (X wup_tsk 2 0 0) (pos 0) 0 0 5 0
      ∷ step (X chg_pri 2 3 0) (pos 0) 0 0 5 0
      ∷ step (X sig_sem 1 0 0) (pos 0) 0 0 5 1
      ∷ step (X tsk_sts 2 0 0) (pos 0) 1 3 5 0
      ∷ step (X can_wup 2 0 0) (pos 0) 1 0 5 0
      ∷ step (X wai_sem 1 0 0) (pos 1) 0 0 1 0
      ∷ step (X wup_tsk 5 0 0) (pos 0) 0 0 1 0
      ∷ step (X rel_wai 5 0 0) (pos 0) 0 0 1 1
      ∷ step (X can_wup 5 0 0) (pos 0) 1 0 1 0
      ∷ [])
      2 (pos 0) 0
      -- A suspended sleeper is a sleeper: it is released and becomes SUSPEND. A task in SUSPEND is none: its count rises.
      ∷ case 0 1
      (step (X slp_tsk 0 0 0) (pos 1) 0 0 2 0
      ∷ step (X sus_tsk 1 0 0) (pos 0) 0 0 2 0
      ∷ step (X wup_tsk 1 0 0) (pos 0) 0 0 2 1
      ∷ step (X tsk_sts 1 0 0) (pos 0) 4 2 2 0
      ∷ step (X can_wup 1 0 0) (pos 0) 0 0 2 0
      ∷ step (X wup_tsk 1 0 0) (pos 0) 0 0 2 0
      ∷ step (X tsk_sts 1 0 0) (pos 0) 4 2 2 0
      ∷ step (X can_wup 1 0 0) (pos 0) 1 0 2 0
      ∷ [])
      1 (pos 0) 0
      -- A READY task whose count changes keeps its place: task 2 runs before task 5.
      ∷ case 0 1
      (step (X wup_tsk 2 0 0) (pos 0) 0 0 1 0
      ∷ step (X can_wup 2 0 0) (pos 0) 1 0 1 0
      ∷ step (X slp_tsk 0 0 0) (pos 1) 0 0 2 0
      ∷ [])
      2 (pos 0) 0
      -- E_QOVR: wake-up count already 15.
      ∷ case 0 1
      (replicate 15 (step (H wup_tsk 2 0 0) (pos 0) 0 0 1 0) ++
      step (H wup_tsk 2 0 0) (minus 2889) 0 0 1 0
      ∷ step (X wup_tsk 2 0 0) (minus 2889) 0 0 1 0
      ∷ step (X can_wup 2 0 0) (pos 0) 15 0 1 0
      ∷ step (X wup_tsk 2 0 0) (pos 0) 0 0 1 0
      ∷ [])
      1 (pos 0) 0
      -- 10 wai_tsk(a): the same, but with none stored 0 gives E_TMOUT, -1 waits for ever, and 1 to 2147483647 waits so many ticks. E_ILTIME:
      -- time below -1.
      ∷ case 0 1
      (step (X wai_tsk 0 0 0) (minus 3413) 0 0 1 0
      ∷ step (H wup_tsk 1 0 0) (pos 0) 0 0 1 0
      ∷ step (X wai_tsk 0 0 0) (pos 0) 0 0 1 0
      ∷ step (X± wai_tsk (minus 2) (pos 0) (pos 0)) (minus 1831) 0 0 1 0
      ∷ step (H± wai_tsk (minus 2) (pos 0) (pos 0)) (minus 1831) 0 0 1 0
      ∷ step (H wai_tsk 1 0 0) (minus 2629) 0 0 1 0
      ∷ step (X± wai_tsk (minus 1) (pos 0) (pos 0)) (pos 1) 0 0 2 0
      ∷ step (alone tick) (pos 0) 0 0 2 0
      ∷ step (X tsk_sts 1 0 0) (pos 0) 3 2 2 0
      ∷ step (X wai_tsk 2147483647 0 0) (pos 1) 0 0 5 0
      ∷ step (alone tick) (pos 0) 0 0 5 0
      ∷ step (X wup_tsk 1 0 0) (pos 0) 0 0 5 1
      ∷ step (X wup_tsk 2 0 0) (pos 0) 0 0 5 1
      ∷ [])
      2 (pos 0) 0
      -- With a stored wake-up wai_tsk takes one whatever the time.
      ∷ case 0 1
      (step (H wup_tsk 1 0 0) (pos 0) 0 0 1 0
      ∷ step (H wup_tsk 1 0 0) (pos 0) 0 0 1 0
      ∷ step (X wai_tsk 5 0 0) (pos 0) 0 0 1 0
      ∷ step (X± wai_tsk (minus 1) (pos 0) (pos 0)) (pos 0) 0 0 1 0
      ∷ step (X can_wup 1 0 0) (pos 0) 0 0 1 0
      ∷ [])
      1 (pos 0) 0
      -- Each timed wait loses one, suspended or not; a sleeper in WAIT-SUSPEND whose time runs out becomes SUSPEND, cell E_TMOUT.
      ∷ case 0 1
      (step (X wai_tsk 2 0 0) (pos 1) 0 0 2 0
      ∷ step (X sus_tsk 1 0 0) (pos 0) 0 0 2 0
      ∷ step (alone tick) (pos 0) 0 0 2 0
      ∷ step (X tsk_sts 1 0 0) (pos 0) 5 2 2 0
      ∷ step (alone tick) (pos 0) 0 0 2 1
      ∷ step (X tsk_sts 1 0 0) (pos 0) 4 2 2 0
      ∷ [])
      1 (minus 3413) 0
      -- WAIT-SUSPEND becomes WAIT, with the ticks that are left; a sleeper without a time sleeps on, suspended or not.
      ∷ case 0 1
      (step (X wai_tsk 3 0 0) (pos 1) 0 0 2 0
      ∷ step (X slp_tsk 0 0 0) (pos 1) 0 0 5 0
      ∷ step (X sus_tsk 1 0 0) (pos 0) 0 0 5 0
      ∷ step (X sus_tsk 2 0 0) (pos 0) 0 0 5 0
      ∷ step (alone tick) (pos 0) 0 0 5 0
      ∷ step (X rsm_tsk 1 0 0) (pos 0) 0 0 5 0
      ∷ step (alone tick) (pos 0) 0 0 5 0
      ∷ step (alone tick) (pos 0) 0 0 5 1
      ∷ step (X tsk_sts 1 0 0) (pos 0) 1 2 5 0
      ∷ step (X tsk_sts 2 0 0) (pos 0) 5 2 5 0
      ∷ [])
      1 (minus 3413) 0
      -- Those that reach 0 are released in id order, whoever slept first: 1 before 2.
      ∷ case 0 1
      (step (X rot_rdq 0 0 0) (pos 0) 0 0 2 0
      ∷ step (X wai_tsk 2 0 0) (pos 1) 0 0 5 0
      ∷ step (alone tick) (pos 0) 0 0 5 0
      ∷ step (X rot_rdq 0 0 0) (pos 0) 0 0 1 0
      ∷ step (X wai_tsk 1 0 0) (pos 1) 0 0 5 0
      ∷ step (alone tick) (pos 0) 0 0 5 2
      ∷ step (X slp_tsk 0 0 0) (pos 1) 0 0 1 0
      ∷ step (X slp_tsk 0 0 0) (pos 1) 0 0 2 0
      ∷ [])
      2 (minus 3413) 0
      ∷ [];
}

-- the state that an event leaves of the fresh one
unfoldable pub leaves : Event → Read View
unfolding answers
leaves e = and_then (setup example_bytes) (λ u i. got (event (fresh u) e).next i)
