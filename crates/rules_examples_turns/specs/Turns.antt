-- Worked examples of turns: who waits on an object is served in the order of coming, each call that gives serves one.
use Rattle.std.specs.Prelude.{List, [], ◌∷◌, ℕ, pos}
use Rattle.rules.specs.Ids.{once}
use Rattle.rules.specs.Codes.{minus}
use Rattle.rules.specs.Setup.{Read, got, and_then, setup}
use Rattle.rules.specs.Events.{Event}
use Rattle.rules.specs.State.{semaphore}
use Rattle.rules.specs.View.{View}
use Rattle.rules.specs.Kernel.{fresh}
use Rattle.rules.specs.Runs.{answers, states}
use Rattle.rules.specs.Ahead.{waits_at, ahead}
use Rattle.rules_turns.specs.Turns.{gifts}
use Rattle.rules_examples.specs.Bytes.{example_bytes}
use Rattle.rules_examples.specs.BenchSheet.{task_call, X, I, Line, step, case, Sheet, chg_pri, rot_rdq, rel_wai, sus_tsk, sig_sem, wai_sem, snd_msg, rcv_msg, get_blk, rel_blk, tsk_sts, sem_sts}

-- tasks 1 and 2 come to wait on semaphore 1, one behind the other; task 5 runs
abbrev in_line : List Line → List Line
in_line l = step (X wai_sem 1 0 0) (pos 1) 0 0 2 0 ∷ step (X wai_sem 1 0 0) (pos 1) 0 0 5 0 ∷ l

-- one is served, and task 5 runs on
abbrev serves : Line
serves = step (X sig_sem 1 0 0) (pos 0) 0 0 5 1

abbrev pub turn_examples : Sheet
turn_examples = record {
  bytes = example_bytes;
  cases =
      -- Task 2 has one ahead of it. After one accepted sig_sem it still waits, and is the first; after two it has left, cell 0 and 0.
      case 0 1
      (in_line (serves
      ∷ step (X tsk_sts 2 0 0) (pos 0) 3 2 5 0
      ∷ step (X sem_sts 1 0 0) (pos 0) 2 0 5 0
      ∷ serves
      ∷ step (X tsk_sts 2 0 0) (pos 0) 1 2 5 0
      ∷ []))
      2 (pos 0) 0
      -- A sig_sem that is refused (E_CTX, E_NOEXS) serves nobody, nor does one on another semaphore.
      ∷ case 0 1
      (in_line (step (I sig_sem 1 0 0) (minus 2629) 0 0 5 0
      ∷ step (X sig_sem 4 0 0) (minus 2100) 0 0 5 0
      ∷ step (X sig_sem 2 0 0) (pos 0) 0 0 5 0
      ∷ step (X sem_sts 1 0 0) (pos 0) 1 0 5 0
      ∷ serves
      ∷ step (X tsk_sts 2 0 0) (pos 0) 3 2 5 0
      ∷ []))
      2 (pos 0) 0
      -- chg_pri of a waiting task leaves its place: task 1 stays first at a worse priority, and task 2 behind it at a better one.
      ∷ case 0 1
      (in_line (step (X chg_pri 1 4 0) (pos 0) 0 0 5 0
      ∷ step (X sem_sts 1 0 0) (pos 0) 1 0 5 0
      ∷ step (X chg_pri 2 1 0) (pos 0) 0 0 5 0
      ∷ step (X sem_sts 1 0 0) (pos 0) 1 0 5 0
      ∷ serves
      ∷ step (X tsk_sts 1 0 0) (pos 0) 1 4 5 0
      ∷ step (X sig_sem 1 0 0) (pos 0) 0 0 2 1
      ∷ step (X tsk_sts 2 0 0) (pos 0) 2 1 2 0
      ∷ []))
      2 (pos 0) 0
      -- So does chg_pri of one in WAIT-SUSPEND. A suspended waiter is in the line: it is served in its turn, and the one behind it is not.
      ∷ case 0 1
      (in_line (step (X sus_tsk 1 0 0) (pos 0) 0 0 5 0
      ∷ step (X chg_pri 1 4 0) (pos 0) 0 0 5 0
      ∷ step (X sem_sts 1 0 0) (pos 0) 1 0 5 0
      ∷ serves
      ∷ step (X tsk_sts 1 0 0) (pos 0) 4 4 5 0
      ∷ step (X tsk_sts 2 0 0) (pos 0) 3 2 5 0
      ∷ []))
      1 (pos 0) 0
      -- rel_wai takes task 2 out of the line; it waits again, behind task 1, and one sig_sem is not enough.
      ∷ case 0 1
      (in_line (step (X rel_wai 2 0 0) (pos 0) 0 0 5 1
      ∷ step (X rot_rdq 0 0 0) (pos 0) 0 0 2 0
      ∷ step (X wai_sem 1 0 0) (pos 1) 0 0 5 0
      ∷ serves
      ∷ step (X tsk_sts 2 0 0) (pos 0) 3 2 5 0
      ∷ []))
      2 (minus 3414) 0
      -- Served by the second sig_sem, task 2 may wait there anew: the wait that it was in is left, and its cell says how.
      ∷ case 0 1
      (in_line (serves
      ∷ serves
      ∷ step (X rot_rdq 0 0 0) (pos 0) 0 0 1 0
      ∷ step (X rot_rdq 0 0 0) (pos 0) 0 0 2 0
      ∷ step (X wai_sem 1 0 0) (pos 1) 0 0 5 0
      ∷ step (X tsk_sts 2 0 0) (pos 0) 3 2 5 0
      ∷ []))
      2 (pos 0) 0
      -- The same at a mailbox: the second message is task 2's.
      ∷ case 0 1
      (step (X rcv_msg 1 0 0) (pos 1) 0 0 2 0
      ∷ step (X rcv_msg 1 0 0) (pos 1) 0 0 5 0
      ∷ step (X snd_msg 1 1 0) (pos 0) 0 0 5 1
      ∷ step (X tsk_sts 2 0 0) (pos 0) 3 2 5 0
      ∷ step (X snd_msg 1 3 0) (pos 0) 0 0 5 1
      ∷ [])
      2 (pos 0) 3
      -- And at a pool: its one block goes to task 1, and when it is returned again to task 2.
      ∷ case 0 1
      (step (X get_blk 2 0 0) (pos 0) 1 0 1 0
      ∷ step (X get_blk 2 0 0) (pos 1) 0 0 2 0
      ∷ step (X get_blk 2 0 0) (pos 1) 0 0 5 0
      ∷ step (X rel_blk 2 1 0) (pos 0) 0 0 5 1
      ∷ step (X tsk_sts 2 0 0) (pos 0) 3 2 5 0
      ∷ step (X rel_blk 2 1 0) (pos 0) 0 0 5 1
      ∷ [])
      2 (pos 0) 1
      ∷ [];
}

-- ---- the numbers of the theorem (rules_turns, specs/Turns.antt)

abbrev pub signal : Event
signal = task_call sig_sem (pos 1) (pos 0) (pos 0)

abbrev pub waits : Event
waits = task_call wai_sem (pos 1) (pos 0) (pos 0)

abbrev pub turns : Event
turns = task_call rot_rdq (pos 0) (pos 0) (pos 0)

-- Tasks 1 and 2 wait on semaphore 1. How many stand ahead of task 2; how many calls that give are accepted in the run from there; 1 if task 2
-- waits there after the run.
unfoldable pub counted : List Event → Read (List ℕ)
unfolding answers states
counted l = and_then (setup example_bytes) (λ u n. let v : View = states (fresh u) (waits ∷ waits ∷ []) in
    got (ahead v semaphore 1 2 ∷ gifts semaphore 1 v l ∷ once (waits_at (states v l) semaphore 1 2) ∷ []) n)
