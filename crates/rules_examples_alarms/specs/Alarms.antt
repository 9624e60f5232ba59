-- Worked examples of alarms: each case has the words of request K11 above it.
use Rattle.std.specs.Prelude.{List, [], ◌∷◌, ◌++◌, map, ℕ, pos, replicate}
use Rattle.rules.specs.Codes.{minus}
use Rattle.rules.specs.Events.{tick, enter, exit, call}
use Rattle.rules_examples.specs.Bytes.{bytes, example_bytes}
use Rattle.rules_examples.specs.BenchSheet.{X±, X, H, I, Line, step, case, Sheet, sta_tsk, ext_tsk, rel_wai, sus_tsk, slp_tsk, wai_tsk, wup_tsk, can_wup, get_tid, tsk_sts, cre_tsk, del_tsk, set_abs, set_rel, can_alm, alm_sts, alone}

-- a tick that releases nobody, while task r runs
abbrev ticks : ℕ → ℕ → List Line
ticks n r = replicate n (step (alone tick) (pos 0) 0 0 r 0)

-- Priorities 1 to 4; task 1 starts at priority 2, task 3 at 3; task 2, of priority 1, is not started. A counter with m = 5. Alarms 1 and 4
-- start task 2, 6 starts 3, 8 starts 1; 2 and 7 wake task 1, 3 wakes 2, 5 wakes 3.
abbrev pub alarm_bytes : List ℕ
alarm_bytes = bytes (4 ∷ 3 ∷ 2 ∷ 1 ∷ 1 ∷ 0 ∷ 3 ∷ 1 ∷ 0 ∷ 0 ∷ 0 ∷ 0 ∷ 0 ∷ 1 ∷ 5 ∷ 2 ∷ 0 ∷ 1 ∷ 1 ∷ 2 ∷ 1 ∷ 2 ∷ 0 ∷ 3 ∷ 1 ∷ 3 ∷ 0 ∷ 1 ∷ 1 ∷ 1 ∷ 0 ∷ [])

abbrev pub alarm_examples : Sheet
alarm_examples = record {
  bytes = alarm_bytes;
  cases =
      -- Fresh with all alarms idle, the kept code 0 before any.
      case 0 1
      (map (λ k. step (X alm_sts k 0 0) (pos 0) 0 0 1 0) (1 ∷ 2 ∷ 3 ∷ 4 ∷ 5 ∷ 6 ∷ 7 ∷ 8 ∷ []))
      1 (pos 0) 0
      -- 36 sets an alarm by absolute count: fresh at 0, the second tick reaches 2. On firing it starts its task, which preempts task 1; it
      -- goes idle. 39 gives w1 1 if it is in use.
      ∷ case 0 1
      (step (X set_abs 1 2 0) (pos 0) 0 0 1 0
      ∷ step (X alm_sts 1 0 0) (pos 0) 1 0 1 0
      ∷ ticks 1 1
      ++ (step (X alm_sts 1 0 0) (pos 0) 1 0 1 0
      ∷ step (alone tick) (pos 0) 0 0 2 0
      ∷ step (X alm_sts 1 0 0) (pos 0) 0 0 2 0
      ∷ ticks 5 2))
      2 (pos 0) 0
      -- 37 by relative count: the expiry is the present plus the relative count, by remainder of m. At 3, relative 4 is 2, four ticks on, and
      -- absolute 4 is the next tick. Alarms of task 1 wake it: as it does not sleep, its count rises.
      ∷ case 0 1
      (ticks 3 1
      ++ (step (X set_rel 2 4 0) (pos 0) 0 0 1 0
      ∷ step (X set_abs 7 4 0) (pos 0) 0 0 1 0
      ∷ ticks 1 1
      ++ (step (X can_wup 1 0 0) (pos 0) 1 0 1 0
      ∷ ticks 2 1
      ++ (step (X can_wup 1 0 0) (pos 0) 0 0 1 0
      ∷ ticks 1 1
      ++ (step (X can_wup 1 0 0) (pos 0) 1 0 1 0
      ∷ [])))))
      1 (pos 0) 0
      -- It fires at the first later tick that reaches the expiry: an absolute count equal to the present one, and a relative count of 0 or m,
      -- a full round later. (At 2; absolute 5 is 0, three ticks on.)
      ∷ case 0 1
      (ticks 2 1
      ++ (step (X set_abs 2 2 0) (pos 0) 0 0 1 0
      ∷ step (X set_rel 7 0 0) (pos 0) 0 0 1 0
      ∷ step (X set_rel 5 5 0) (pos 0) 0 0 1 0
      ∷ step (X set_abs 3 5 0) (pos 0) 0 0 1 0
      ∷ ticks 2 1
      ++ (step (X alm_sts 3 0 0) (pos 0) 1 0 1 0
      ∷ ticks 1 1
      ++ (step (X alm_sts 3 0 0) (pos 0) 0 2101 1 0
      ∷ ticks 1 1
      ++ (step (X can_wup 1 0 0) (pos 0) 0 0 1 0
      ∷ step (X can_wup 3 0 0) (pos 0) 0 0 1 0
      ∷ ticks 1 1
      ++ (step (X can_wup 1 0 0) (pos 0) 2 0 1 0
      ∷ step (X can_wup 3 0 0) (pos 0) 1 0 1 0
      ∷ []))))))
      1 (pos 0) 0
      -- With a period it is set again by that relative count, by remainder of m: at 1, 3, 0 and 2. 38 cancels it.
      ∷ case 0 1
      (step (X set_rel 2 1 2) (pos 0) 0 0 1 0
      ∷ ticks 1 1
      ++ (step (X can_wup 1 0 0) (pos 0) 1 0 1 0
      ∷ step (X alm_sts 2 0 0) (pos 0) 1 0 1 0
      ∷ ticks 1 1
      ++ (step (X can_wup 1 0 0) (pos 0) 0 0 1 0
      ∷ ticks 1 1
      ++ (step (X can_wup 1 0 0) (pos 0) 1 0 1 0
      ∷ ticks 4 1
      ++ (step (X can_wup 1 0 0) (pos 0) 2 0 1 0
      ∷ step (X can_alm 2 0 0) (pos 0) 0 0 1 0
      ∷ step (X alm_sts 2 0 0) (pos 0) 0 0 1 0
      ∷ ticks 5 1
      ++ (step (X can_wup 1 0 0) (pos 0) 0 0 1 0
      ∷ []))))))
      1 (pos 0) 0
      -- Period 1..m: with 1 at each tick, with m once a round.
      ∷ case 0 1
      (step (X set_abs 2 1 1) (pos 0) 0 0 1 0
      ∷ step (X set_abs 5 1 5) (pos 0) 0 0 1 0
      ∷ ticks 5 1
      ++ (step (X can_wup 1 0 0) (pos 0) 5 0 1 0
      ∷ step (X can_wup 3 0 0) (pos 0) 1 0 1 0
      ∷ ticks 1 1
      ++ (step (X can_wup 3 0 0) (pos 0) 1 0 1 0
      ∷ [])))
      1 (pos 0) 0
      -- It keeps the code of a firing: E_DMT for a wake. With a period it is set again whether or not the firing was refused; a later success
      -- overwrites the code with 0. 39 shows the code of an alarm in use too.
      ∷ case 0 1
      (step (X set_rel 3 1 1) (pos 0) 0 0 1 0
      ∷ ticks 1 1
      ++ (step (X alm_sts 3 0 0) (pos 0) 1 2101 1 0
      ∷ ticks 1 1
      ++ (step (H alm_sts 3 0 0) (pos 0) 1 2101 1 0
      ∷ step (X sta_tsk 2 0 0) (pos 0) 0 0 2 0
      ∷ ticks 1 2
      ++ (step (X alm_sts 3 0 0) (pos 0) 1 0 2 0
      ∷ step (X can_wup 2 0 0) (pos 0) 1 0 2 0
      ∷ []))))
      2 (pos 0) 0
      -- H_NODMT for a start. An idle alarm shows only its kept code; setting it and cancelling it leave the code: only a firing changes it.
      ∷ case 0 1
      (step (X set_abs 8 1 0) (pos 0) 0 0 1 0
      ∷ ticks 1 1
      ++ (step (X alm_sts 8 0 0) (pos 0) 0 3 1 0
      ∷ step (X set_rel 8 2 0) (pos 0) 0 0 1 0
      ∷ step (X alm_sts 8 0 0) (pos 0) 1 3 1 0
      ∷ step (X can_alm 8 0 0) (pos 0) 0 0 1 0
      ∷ step (X alm_sts 8 0 0) (pos 0) 0 3 1 0
      ∷ []))
      1 (pos 0) 0
      -- E_QOVR for a wake, beyond 15.
      ∷ case 0 1
      (replicate 15 (step (H wup_tsk 1 0 0) (pos 0) 0 0 1 0)
      ++ (step (X set_rel 2 1 1) (pos 0) 0 0 1 0
      ∷ ticks 1 1
      ++ (step (X alm_sts 2 0 0) (pos 0) 1 2889 1 0
      ∷ step (X can_wup 1 0 0) (pos 0) 15 0 1 0
      ∷ ticks 1 1
      ++ (step (X alm_sts 2 0 0) (pos 0) 1 0 1 0
      ∷ step (X can_wup 1 0 0) (pos 0) 1 0 1 0
      ∷ []))))
      1 (pos 0) 0
      -- E_NOEXS: the alarm of a deleted task stays set and keeps that code when it fires; made again, the id is acted on.
      ∷ case 0 1
      (step (X set_rel 1 1 1) (pos 0) 0 0 1 0
      ∷ step (X set_rel 3 1 0) (pos 0) 0 0 1 0
      ∷ step (X del_tsk 2 0 0) (pos 0) 0 0 1 0
      ∷ step (X alm_sts 1 0 0) (pos 0) 1 0 1 0
      ∷ ticks 1 1
      ++ (step (X alm_sts 1 0 0) (pos 0) 1 2100 1 0
      ∷ step (X alm_sts 3 0 0) (pos 0) 0 2100 1 0
      ∷ step (X set_abs 4 3 0) (pos 0) 0 0 1 0
      ∷ step (X cre_tsk 2 4 0) (pos 0) 0 0 1 0
      ∷ ticks 1 1
      ++ (step (X tsk_sts 2 0 0) (pos 0) 1 4 1 0
      ∷ step (X alm_sts 1 0 0) (pos 0) 1 0 1 0
      ∷ ticks 1 1
      ++ (step (X alm_sts 4 0 0) (pos 0) 0 3 1 0
      ∷ []))))
      2 (pos 0) 0
      -- It wakes its task as a handler would: a sleeper is released, cell 0 and 0, and counted; the next alarm stores a wake-up.
      ∷ case 0 1
      (step (X set_rel 2 1 0) (pos 0) 0 0 1 0
      ∷ step (X set_rel 7 1 0) (pos 0) 0 0 1 0
      ∷ step (X slp_tsk 0 0 0) (pos 1) 0 0 3 0
      ∷ step (alone tick) (pos 0) 0 0 1 1
      ∷ step (X can_wup 1 0 0) (pos 0) 1 0 1 0
      ∷ [])
      1 (pos 0) 0
      -- Within a tick timeouts come first: the sleeper's cell is E_TMOUT, and its alarm stores the wake-up.
      ∷ case 0 1
      (step (X set_rel 2 1 0) (pos 0) 0 0 1 0
      ∷ step (X wai_tsk 1 0 0) (pos 1) 0 0 3 0
      ∷ step (alone tick) (pos 0) 0 0 1 1
      ∷ step (X can_wup 1 0 0) (pos 0) 1 0 1 0
      ∷ [])
      1 (minus 3413) 0
      -- A tick earlier the alarm wakes it before its time is over.
      ∷ case 0 1
      (step (X set_rel 2 1 0) (pos 0) 0 0 1 0
      ∷ step (X wai_tsk 2 0 0) (pos 1) 0 0 3 0
      ∷ step (alone tick) (pos 0) 0 0 1 1
      ∷ ticks 1 1
      ++ (step (X can_wup 1 0 0) (pos 0) 0 0 1 0
      ∷ []))
      1 (pos 0) 0
      -- A suspended sleeper is released to SUSPEND.
      ∷ case 0 1
      (step (X set_rel 2 1 0) (pos 0) 0 0 1 0
      ∷ step (X slp_tsk 0 0 0) (pos 1) 0 0 3 0
      ∷ step (X sus_tsk 1 0 0) (pos 0) 0 0 3 0
      ∷ step (alone tick) (pos 0) 0 0 3 1
      ∷ step (X tsk_sts 1 0 0) (pos 0) 4 2 3 0
      ∷ [])
      1 (pos 0) 0
      -- then alarms by number: 3 finds task 2 dormant, 4 starts it;
      ∷ case 0 1
      (step (X set_rel 4 1 0) (pos 0) 0 0 1 0
      ∷ step (X set_rel 3 1 0) (pos 0) 0 0 1 0
      ∷ step (alone tick) (pos 0) 0 0 2 0
      ∷ step (X alm_sts 3 0 0) (pos 0) 0 2101 2 0
      ∷ step (X alm_sts 4 0 0) (pos 0) 0 0 2 0
      ∷ step (X can_wup 2 0 0) (pos 0) 0 0 2 0
      ∷ [])
      2 (pos 0) 0
      -- 1 starts it, 3 wakes it, 4 finds it started.
      ∷ case 0 1
      (step (X set_rel 4 1 0) (pos 0) 0 0 1 0
      ∷ step (X set_rel 3 1 0) (pos 0) 0 0 1 0
      ∷ step (X set_rel 1 1 0) (pos 0) 0 0 1 0
      ∷ step (alone tick) (pos 0) 0 0 2 0
      ∷ step (X alm_sts 1 0 0) (pos 0) 0 0 2 0
      ∷ step (X alm_sts 3 0 0) (pos 0) 0 0 2 0
      ∷ step (X alm_sts 4 0 0) (pos 0) 0 3 2 0
      ∷ step (X can_wup 2 0 0) (pos 0) 1 0 2 0
      ∷ [])
      2 (pos 0) 0
      -- -11 setting an alarm in use: it stays as it is set. -12 cancelling an idle one.
      ∷ case 0 1
      (step (X can_alm 2 0 0) (minus 12) 0 0 1 0
      ∷ step (X set_abs 2 2 0) (pos 0) 0 0 1 0
      ∷ step (X set_abs 2 1 0) (minus 11) 0 0 1 0
      ∷ step (X set_rel 2 1 1) (minus 11) 0 0 1 0
      ∷ step (H set_rel 2 1 1) (minus 11) 0 0 1 0
      ∷ ticks 1 1
      ++ (step (X can_wup 1 0 0) (pos 0) 0 0 1 0
      ∷ ticks 1 1
      ++ (step (X can_wup 1 0 0) (pos 0) 1 0 1 0
      ∷ step (X can_alm 2 0 0) (minus 12) 0 0 1 0
      ∷ step (H can_alm 2 0 0) (minus 12) 0 0 1 0
      ∷ step (X set_abs 2 1 0) (pos 0) 0 0 1 0
      ∷ [])))
      1 (pos 0) 0
      -- H_PAR for a number out of range: the alarm's, the count's, the period's; counts and periods up to m are in range. These come before -11
      -- and -12.
      ∷ case 0 1
      (map (λ e. step e (minus 2) 0 0 1 0)
      (X set_abs 0 1 0 ∷ X set_abs 9 1 0 ∷ X set_abs 1 6 0 ∷ X set_abs 1 1 6 ∷ X set_rel 0 1 0 ∷ X set_rel 9 1 0 ∷ X set_rel 1 6 0 ∷ X set_rel 1 1 6 ∷ X can_alm 0 0 0 ∷ X can_alm 9 0 0 ∷ X alm_sts 0 0 0 ∷ X alm_sts 9 0 0
      ∷ X± set_abs (minus 1) (pos 1) (pos 0) ∷ X± set_abs (pos 1) (minus 1) (pos 0) ∷ X± set_rel (pos 1) (pos 1) (minus 1) ∷ H set_abs 9 1 0 ∷ H set_rel 1 6 0 ∷ H can_alm 9 0 0 ∷ H alm_sts 9 0 0 ∷ [])
      ++ (step (X set_abs 1 5 5) (pos 0) 0 0 1 0
      ∷ step (X set_rel 8 5 5) (pos 0) 0 0 1 0
      ∷ step (X set_abs 1 6 0) (minus 2) 0 0 1 0
      ∷ step (X set_rel 1 1 6) (minus 2) 0 0 1 0
      ∷ step (X set_abs 1 5 5) (minus 11) 0 0 1 0
      ∷ []))
      1 (pos 0) 0
      -- In both contexts, by task or handler. H_PAR comes before E_CTX: a handler's call outside handlers, a task's inside.
      ∷ case 0 1
      (step (H set_abs 1 2 0) (pos 0) 0 0 1 0
      ∷ step (H set_rel 2 1 0) (pos 0) 0 0 1 0
      ∷ step (H alm_sts 1 0 0) (pos 0) 1 0 1 0
      ∷ step (H can_alm 2 0 0) (pos 0) 0 0 1 0
      ∷ step (I set_abs 3 1 0) (minus 2629) 0 0 1 0
      ∷ step (I set_abs 9 1 0) (minus 2) 0 0 1 0
      ∷ step (I alm_sts 1 0 0) (minus 2629) 0 0 1 0
      ∷ step (alone enter) (pos 0) 0 0 1 0
      ∷ step (X can_alm 1 0 0) (minus 2629) 0 0 1 0
      ∷ step (X can_alm 9 0 0) (minus 2) 0 0 1 0
      ∷ step (I can_alm 3 0 0) (minus 12) 0 0 1 0
      ∷ step (I set_abs 1 3 0) (minus 11) 0 0 1 0
      ∷ [])
      1 (pos 0) 0
      -- It fires while a handler is open too: task 2 is started, and runs after the return.
      ∷ case 0 1
      (step (alone enter) (pos 0) 0 0 1 0
      ∷ step (I set_rel 1 1 0) (pos 0) 0 0 1 0
      ∷ step (alone tick) (pos 0) 0 0 1 0
      ∷ step (I alm_sts 1 0 0) (pos 0) 0 0 1 0
      ∷ step (I tsk_sts 2 0 0) (pos 0) 1 1 1 0
      ∷ step (I get_tid 0 0 0) (pos 0) 1 0 1 0
      ∷ step (alone exit) (pos 0) 0 0 2 0
      ∷ [])
      2 (pos 0) 0
      -- and while nobody runs.
      ∷ case 0 1
      (step (X set_rel 1 1 0) (pos 0) 0 0 1 0
      ∷ step (X ext_tsk 0 0 0) (pos 0) 0 0 3 0
      ∷ step (X ext_tsk 0 0 0) (pos 0) 0 0 0 0
      ∷ step (alone tick) (pos 0) 0 0 2 0
      ∷ [])
      2 (pos 0) 0
      -- Only release, sta_tsk and now an alarm's start change a cell: the broken mark goes with a start, and stays if the start is refused.
      ∷ case 0 1
      (step (X set_rel 8 1 1) (pos 0) 0 0 1 0
      ∷ step (X slp_tsk 0 0 0) (pos 1) 0 0 3 0
      ∷ step (X rel_wai 1 0 0) (pos 0) 0 0 1 1
      ∷ ticks 1 1)
      1 (minus 3414) 0
      ∷ case 0 1
      (step (X set_rel 8 1 1) (pos 0) 0 0 1 0
      ∷ step (X slp_tsk 0 0 0) (pos 1) 0 0 3 0
      ∷ step (X rel_wai 1 0 0) (pos 0) 0 0 1 1
      ∷ step (X ext_tsk 0 0 0) (pos 0) 0 0 3 0
      ∷ step (alone tick) (pos 0) 0 0 1 0
      ∷ [])
      1 (pos 0) 0
      -- H_CALL now means outside 1..39.
      ∷ case 0 1
      (step (alone (call (pos 0) (pos 40) (pos 1) (pos 1) (pos 0))) (minus 1) 0 0 1 0
      ∷ step (alone (call (pos 1) (pos 40) (pos 1) (pos 1) (pos 0))) (minus 1) 0 0 1 0
      ∷ step (alone (call (pos 2) (pos 39) (pos 1) (pos 1) (pos 0))) (minus 1) 0 0 1 0
      ∷ [])
      1 (pos 0) 0
      ∷ [];
}

-- Eight alarms of one task, with m = 1: the counter stays at 0, and each tick reaches it. Task 1 runs, of priority 1; task 2, of priority 2,
-- is not started. Alarms 2, 5 and 7 start it, the others wake it.
abbrev pub eight_examples : Sheet
eight_examples = record {
  bytes = bytes (2 ∷ 2 ∷ 1 ∷ 1 ∷ 2 ∷ 0 ∷ 0 ∷ 0 ∷ 0 ∷ 0 ∷ 0 ∷ 1 ∷ 1 ∷ 2 ∷ 1 ∷ 2 ∷ 0 ∷ 2 ∷ 1 ∷ 2 ∷ 1 ∷ 2 ∷ 0 ∷ 2 ∷ 1 ∷ 2 ∷ 0 ∷ 2 ∷ 1 ∷ []);
  cases =
      -- Alarms by number, each on what the earlier ones left. Set last to first; at the second tick task 2 is not dormant.
      case 0 1
      (map (λ k. step (X set_rel k 1 1) (pos 0) 0 0 1 0) (8 ∷ 7 ∷ 6 ∷ 5 ∷ 4 ∷ 3 ∷ 2 ∷ 1 ∷ [])
      ++ (ticks 1 1
      ++ (step (X alm_sts 1 0 0) (pos 0) 1 2101 1 0
      ∷ step (X alm_sts 2 0 0) (pos 0) 1 0 1 0
      ∷ step (X alm_sts 3 0 0) (pos 0) 1 0 1 0
      ∷ step (X alm_sts 4 0 0) (pos 0) 1 0 1 0
      ∷ step (X alm_sts 5 0 0) (pos 0) 1 3 1 0
      ∷ step (X alm_sts 6 0 0) (pos 0) 1 0 1 0
      ∷ step (X alm_sts 7 0 0) (pos 0) 1 3 1 0
      ∷ step (X alm_sts 8 0 0) (pos 0) 1 0 1 0
      ∷ step (X tsk_sts 2 0 0) (pos 0) 1 2 1 0
      ∷ step (X can_wup 2 0 0) (pos 0) 4 0 1 0
      ∷ ticks 1 1
      ++ (step (X alm_sts 1 0 0) (pos 0) 1 0 1 0
      ∷ step (X alm_sts 2 0 0) (pos 0) 1 3 1 0
      ∷ step (X can_wup 2 0 0) (pos 0) 5 0 1 0
      ∷ []))))
      2 (pos 0) 0
      -- Each tick reaches 0: absolute 0 and 1, relative 0 and 1 are the next tick.
      ∷ case 0 1
      (step (X sta_tsk 2 0 0) (pos 0) 0 0 1 0
      ∷ step (X set_abs 1 0 0) (pos 0) 0 0 1 0
      ∷ step (X set_abs 3 1 0) (pos 0) 0 0 1 0
      ∷ step (X set_rel 4 0 0) (pos 0) 0 0 1 0
      ∷ step (X set_rel 6 1 0) (pos 0) 0 0 1 0
      ∷ step (X set_rel 8 1 1) (pos 0) 0 0 1 0
      ∷ ticks 1 1
      ++ (step (X can_wup 2 0 0) (pos 0) 5 0 1 0
      ∷ ticks 1 1
      ++ (step (X can_wup 2 0 0) (pos 0) 1 0 1 0
      ∷ [])))
      2 (pos 0) 0
      ∷ [];
}

-- H_PAR for no counter, whatever the words; before E_CTX.
abbrev pub no_counter_examples : Sheet
no_counter_examples = record {
  bytes = example_bytes ++ bytes (0 ∷ []);
  cases =
      case 0 1
      (map (λ e. step e (minus 2) 0 0 1 0)
      (X set_abs 1 0 0 ∷ X set_rel 1 0 0 ∷ X can_alm 1 0 0 ∷ X alm_sts 1 0 0 ∷ X alm_sts 0 0 0 ∷ X set_abs 8 1 1 ∷ H set_abs 1 0 0 ∷ H set_rel 1 0 0 ∷ H can_alm 1 0 0 ∷ H alm_sts 1 0 0 ∷ I set_abs 1 0 0 ∷ I alm_sts 1 0 0 ∷ [])
      ++ ticks 2 1)
      1 (pos 0) 0
      ∷ [];
}
