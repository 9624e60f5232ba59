-- Over the records of runs each task's row adds up to the events that ran in the runs whose setup has that task, and the codes' counts to all events.
-- Assumes nothing.
use mathlib.Core.Bool.{Bool, true, false, cond}
use mathlib.Core.List.{List, [], ◌∷◌}
use mathlib.Core.Path.{◌≡◌, refl, sym, ap, ◌∙◌, subst}
use Prim.Native.Nat.{ℕ, zero, suc, ◌+◌, ◌*◌, ◌-◌, ◌/◌, ◌^◌, ◌≤◌, ◌<◌}
use native.Mathlib.Omega.{arith}
use lib.Dec.{leb}
use lib.ListN.{length, get_or, drop, take, replicate, get_or-replicate}
use Rattle.rules.specs.Setup.{S1, Read, got, refused}
use Rattle.rules.specs.View.{View}
use Rattle.rules.proofs.Accepted.{Reads}
use Rattle.run_month.specs.declared.Record.{Record}
use Rattle.run_month.specs.Monthly.{sum_at}
use Rattle.run_tally.specs.Tables.{Flat}
use Rattle.run_reading.specs.Recorded.{most_events, Head, Item, begins, occurs, refuses, event_bytes, event_in, event_items, items_behind, read_head, items_of}
use Rattle.run_reading.proofs.Reach.{Parts, head_parts}
use Rattle.run_text.specs.Text.{Stage, unstarted, at, onward, queues}
use Rattle.run_figures.specs.Figures.{none, seen_from, figures_of}
use Rattle.run_totals.specs.Adding.{sum, row, part, totalled, occurring, ran, ran_with, RecordsOf, over}
use Rattle.run_totals.proofs.Rows.{Shaped, AllProper, rows_add, codes_add, all_shaped, state_proper, code_proper}
use Rattle.run_totals.proofs.Kept.{seen, run_having, run_seen}

-- ---- what is seen of a run

seen_proper : (x : Stage View) (l : List Item) → AllProper (seen_from x l)
unfolding seen_from onward
seen_proper x [] = tt
seen_proper unstarted (begins h ∷ l) = seen_proper (onward queues unstarted (begins h)) l
seen_proper (at v) (begins h ∷ l) = seen_proper (onward queues (at v) (begins h)) l
seen_proper unstarted (occurs n e ∷ l) = seen_proper unstarted l
seen_proper (at v) (occurs n e ∷ l) = (record { state = λ i h. state_proper _ _; code = code_proper _ }, seen_proper (onward queues (at v) (occurs n e)) l)
seen_proper unstarted (refuses f p ∷ l) = seen_proper unstarted l
seen_proper (at v) (refuses f p ∷ l) = seen_proper (at v) l

-- ---- how many events there are

few_occur : (n number place : ℕ) (s : List ℕ) → occurring (event_items n number place s) ≤ n
unfolding event_items occurring
few_occur zero number place [] = omega arith
few_occur zero number place (b ∷ s) = omega arith
few_occur (suc n) number place s = go (leb event_bytes (length s)) (few_occur n (suc number) (place + event_bytes) (drop event_bytes s))
  where
    go : (t : Bool) → occurring (event_items n (suc number) (place + event_bytes) (drop event_bytes s)) ≤ n
        → occurring (cond t (occurs number (event_in (take event_bytes s)) ∷ event_items n (suc number) (place + event_bytes) (drop event_bytes s)) (refuses S1 (place + 4 * (length s / 4)) ∷ [])) ≤ suc n
    go true r = omega (arith, r)
    go false r = omega arith

behind_few : (s : List ℕ) (r : Read Head) → Reads (Parts s) r → occurring (items_behind s r) ≤ most_events
unfolding items_behind occurring
behind_few s (refused f place) P = omega arith
behind_few s (got h i) P = omega (arith, few_occur h.events 1 i (drop i s), P.few)

run_few : (s : List ℕ) → ran s ≤ most_events
unfolding items_of
run_few s = behind_few s (read_head s) (head_parts s)

-- ---- the figures of a run

none_shaped : Shaped none 0
unfolding sum
none_shaped = record {
  rows = refl;
  cells = λ i h. ap length (get_or-replicate 32 i (replicate 7 0) [] h);
  few = λ i h. let e : sum (row none i) ≡ 0 = ap sum (get_or-replicate 32 i (replicate 7 0) [] h) in omega (arith, e);
  codes = refl;
  few_codes = omega arith;
}

module _ (s : List ℕ) where
  proper : AllProper (seen s)
  proper = seen_proper unstarted (items_of s)

  bound : 0 + length (seen s) ≤ 2 ^ 32 - 1
  bound = omega (arith, run_seen s, run_few s)

  shaped : Shaped (figures_of s) (0 + length (seen s))
  unfolding figures_of
  shaped = all_shaped (seen s) none 0 none_shaped proper bound

  -- each task's row adds up to the events that ran if the setup has the task, else to 0
  pub run_rows : (i : ℕ) → i < 32 → sum (row (figures_of s) i) ≡ ran_with i s
  unfolding figures_of
  run_rows i h = omega (arith, rows_add (seen s) none 0 none_shaped proper bound i h, none_shaped.few i h) ∙ run_having s i h

  -- the codes' counts add up to the events that ran
  pub run_codes : sum (figures_of s).codes ≡ ran s
  unfolding figures_of
  run_codes = omega (arith, codes_add (seen s) none 0 none_shaped proper bound, none_shaped.few_codes, run_seen s)

-- ---- parts of the totals

list_part : (l : List ℕ) (k : ℕ) (g : ℕ → ℕ) → ((j : ℕ) → j < length l → g (k + j) ≡ get_or l j 0) → part g k (length l) ≡ sum l
unfolding part sum
list_part [] k g h = refl
list_part (x ∷ l) k g h =
    let z : k + 0 ≡ k = omega arith in
    let e : g k ≡ x = sym (ap g z) ∙ h 0 (omega arith) in
    let r = list_part l (suc k) g (λ j b. ap g (omega arith) ∙ h (suc j) (omega (arith, b))) in
    omega (arith, e, r)

none_part : (k n : ℕ) → part (λ j. sum_at j []) k n ≡ 0
unfolding part sum_at
none_part k zero = refl
none_part k (suc n) = omega (arith, none_part (suc k) n)

more_part : (r : Record) (l : List Record) (k n : ℕ) → part (λ j. sum_at j (r ∷ l)) k n ≡ part (λ j. get_or r.counts j 0) k n + part (λ j. sum_at j l) k n
unfolding part sum_at
more_part r l k zero = refl
more_part r l k (suc n) = let e = more_part r l (suc k) n in omega (arith, e)

-- ---- the theorems

module _ (r : Record) (s : List ℕ) (F : Flat (figures_of s).table (figures_of s).codes r.counts) where
  record_row : (i : ℕ) → i < 32 → part (λ j. get_or r.counts j 0) (7 * i) 7 ≡ ran_with i s
  record_row i h =
      let c = (shaped s).cells i h in
      subst (λ (n : ℕ). part (λ j. get_or r.counts j 0) (7 * i) n ≡ ran_with i s) c
      (list_part (row (figures_of s) i) (7 * i) (λ j. get_or r.counts j 0) (λ j b. F.states i j h (omega (arith, b, c))) ∙ run_rows s i h)

  record_codes : part (λ j. get_or r.counts j 0) 224 29 ≡ ran s
  record_codes =
      let c = (shaped s).codes in
      subst (λ (n : ℕ). part (λ j. get_or r.counts j 0) 224 n ≡ ran s) c
      (list_part (figures_of s).codes 224 (λ j. get_or r.counts j 0) (λ j b. F.codes j (omega (arith, b, c))) ∙ run_codes s)

-- each task's row of a month adds up to the events that ran in the runs whose setup has that task
pub month_rows : (l : List Record) (k : List (List ℕ)) → RecordsOf l k → (i : ℕ) → i < 32 → totalled (7 * i) 7 l ≡ over (ran_with i) k
unfolding over
month_rows [] [] R i h = none_part (7 * i) 7
month_rows [] (s ∷ k) R i h = absurd R
month_rows (r ∷ l) [] R i h = absurd R
month_rows (r ∷ l) (s ∷ k) R i h = omega (arith, more_part r l (7 * i) 7, record_row r s R.0 i h, month_rows l k R.1 i h)

-- the codes' counts of a month add up to the events that ran
pub month_codes : (l : List Record) (k : List (List ℕ)) → RecordsOf l k → totalled 224 29 l ≡ over ran k
unfolding over
month_codes [] [] R = none_part 224 29
month_codes [] (s ∷ k) R = absurd R
month_codes (r ∷ l) [] R = absurd R
month_codes (r ∷ l) (s ∷ k) R = omega (arith, more_part r l 224 29, record_codes r s R.0, month_codes l k R.1)
