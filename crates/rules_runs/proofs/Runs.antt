-- What holds of every state that a run reaches: who runs, the order of the lines, that no block is given out twice, and that the one longest free is. Assumes nothing.
use mathlib.Core.Bool.{Bool, true, false, not}
use mathlib.Core.List.{List, [], ◌∷◌}
use mathlib.Core.Path.{◌≡◌}
use Prim.Native.Nat.{ℕ, ◌+◌}
use native.Mathlib.Omega.{arith}
use lib.ListN.{length}
use Rattle.rules.specs.Ids.{of, In, once}
use Rattle.rules.specs.Setup.{got, setup, Setup}
use Rattle.rules.specs.Events.{Event, Words, AllWords}
use Rattle.rules.specs.Sound.{Sound}
use Rattle.rules.specs.Kernel.{fresh}
use Rattle.rules.specs.Plain.{Plain, view_of, plain_fresh, plain_next}
use Rattle.rules.specs.Runs.{states, plain_states}
use Rattle.rules_runs.specs.Order.{Ordered, OneLine, WhoRuns}
use Rattle.rules.specs.Blocks.{is_free, granted, gave_back}
use Rattle.rules_runs.specs.Demand3.{happened}
use Rattle.rules_runs.specs.Wear.{LongestFree}
use Rattle.rules.proofs.Agree.{Numbers, fresh_shows, numbers_fresh, next_shows, numbers_next}
use Rattle.rules.proofs.Calls.{sound_next}
use Rattle.rules_runs.proofs.Demand3.{plain_balance}
use Rattle.rules.proofs.Events.{fresh_sound, sound_states}
use Rattle.rules_runs.proofs.Rising.{ordered_fresh, ordered_next, one_line, who_runs}
use Rattle.rules_runs.proofs.Wear.{longest_free}

-- a state of the plain kernel that some run reaches
record Reached (s : Plain) : Type 0 where
  numbers : Numbers s
  ordered : Ordered s
  sound : Sound (view_of s)

reached : (s : Plain) (l : List Event) → Reached s → AllWords l → Reached (plain_states s l)
unfolding plain_states
reached s [] r w = r
reached s (e ∷ l) r w =
    reached (plain_next s e) l (record {
      numbers = numbers_next s e r.numbers;
      ordered = ordered_next s e r.numbers r.ordered;
      sound = rw (next_shows s e r.numbers) (sound_next (view_of s) e r.sound w.0);
    }) w.1

module _ (s : List ℕ) (u : Setup) (i : ℕ) (e : setup s ≡ got u i) (l : List Event) (w : AllWords l) where
  by_run : Reached (plain_states (plain_fresh u) l)
  by_run = reached (plain_fresh u) l (record { numbers = numbers_fresh u; ordered = ordered_fresh u; sound = rw (fresh_shows u) (fresh_sound s u i e) }) w

  -- task r runs exactly if it is READY or RUN and no other such task has a smaller pair of priority and arrival number
  pub run_who_runs : WhoRuns (plain_states (plain_fresh u) l)
  run_who_runs = who_runs (plain_states (plain_fresh u) l) by_run.sound by_run.ordered

  -- in each line numbers rise and are distinct
  pub run_ordered : Ordered (plain_states (plain_fresh u) l)
  run_ordered = by_run.ordered

  -- each task, each message and each block stands in at most one line, once
  pub run_one_line : OneLine (states (fresh u) l)
  run_one_line = one_line (states (fresh u) l) (sound_states (fresh u) l (fresh_sound s u i e) w)

  -- a grant takes the block longest free
  pub run_longest_free : (f : Event) → Words f → LongestFree (plain_states (plain_fresh u) l) f
  run_longest_free f wf = longest_free (plain_states (plain_fresh u) l) f by_run.numbers by_run.ordered by_run.sound wf

  -- a block that is out is never granted, unless the same event returns it
  pub out_not_granted : (f : Event) (p k : ℕ) → In p (length (plain_states (plain_fresh u) l).body.store.pools) → In k (length (of (plain_states (plain_fresh u) l).body.store.pools p []))
      → is_free (plain_states (plain_fresh u) l).body p k ≡ false → gave_back (happened (plain_states (plain_fresh u) l) f) p k ≡ 0 → granted (happened (plain_states (plain_fresh u) l) f) p k ≡ 0
  out_not_granted f p k rp rk o b =
      few (is_free (plain_next (plain_states (plain_fresh u) l) f).body p k) _
      (rw (o, b) at (plain_balance (plain_states (plain_fresh u) l) f by_run.numbers by_run.sound p k rp rk))
    where
      few : (t : Bool) (n : ℕ) → n + 1 ≡ 0 + once (not t) → n ≡ 0
      few true n h = absurd (omega arith)
      few false n h = omega arith
