-- A sheet of worked cases that holds of the rules holds of the code: its setup is started, its clocks are written, its events make a chain.
-- Assumes nothing.
use mathlib.Core.Bool.{Bool, true, ◌&&◌}
use mathlib.Core.List.{List, [], ◌∷◌, map}
use mathlib.Core.Path.{◌≡◌, refl, ap, ◌∙◌}
use Prim.Native.Nat.{ℕ, ◌^◌}
use native.Mathlib.Omega.{arith}
use lib.Dec.{ltb}
use lib.IntN.{pos}
use borrow.Author.Tests.{ltb-true}
use Rattle.rules.specs.Setup.{Read, got, refused, and_then, setup, Setup}
use Rattle.rules.specs.Events.{Event}
use Rattle.rules.specs.View.{View, running}
use Rattle.rules.specs.Answers.{numbers}
use Rattle.rules.specs.Kernel.{fresh, cell}
use Rattle.rules.specs.Runs.{answers, states}
use Rattle.rules_examples.specs.BenchSheet.{Case, Sheet, Ran, expected_case, ran_case, at_clock, fresh_at, expected, ran, bench_sheet}
use Rattle.rules.proofs.Waits.{both_true}
use Rattle.rules_examples.proofs.BenchSheet.{bench_sheet_holds}
use Rattle.memory_picture.specs.Picture.{Memory, memory}
use Rattle.kernel_start.specs.Starting.{Starts, Holds}
use Rattle.kernel_demands.specs.Demands.{figures, clock_set, CaseHolds, Every, SheetOnCode}
use Rattle.kernel_demands.proofs.Chains.{start_holds, runs_is, cell_is, chain_holds, chain_says}
use Rattle.kernel_demands.proofs.Clocks.{clock_shown_lem, clock_accepted}

-- ---- a case

case_on_code : {m : Memory} (begin : ℕ → View) (c : Case) → Holds m (begin c.clock) → ran_case running answers states cell begin c ≡ expected_case c → CaseHolds m c
case_on_code begin c H e = record {
  runs = λ r R. runs_is H R ∙ ap (λ (x : Ran). x.runs) e;
  says = λ l C f. chain_says figures l H C ∙ ap (λ (x : List Event). map numbers (answers (begin c.clock) x)) f ∙ ap (λ (x : Ran). x.says) e;
  cell = λ l C f code word R.
      let r = cell_is (chain_holds l H C) (pos c.who) (ap (λ (x : List Event). cell (states (begin c.clock) x) (pos c.who)) f) code word R in
      (r.0 ∙ ap (λ (x : Ran). x.code) e, r.1 ∙ ap (λ (x : Ran). x.word) e);
}

-- ---- a list of cases

-- each clock has 48 bits
abbrev clocks_fit : List Case → Bool
clocks_fit [] = true
clocks_fit (c ∷ l) = ltb c.clock (2 ^ 48) && clocks_fit l

both : {x y : Ran} {l m : List Ran} → x ∷ l ≡ y ∷ m → (x ≡ y) × (l ≡ m)
both e = (cc, cc)

module _ {m : Memory} (u : Setup) (H : Holds m (fresh u)) where
  clocked : (t : ℕ) → ltb t (2 ^ 48) ≡ true → Holds (memory (clock_set t m.words) m.marks) (fresh_at u t)
  clocked t h = record {
    accepted = clock_accepted H.accepted t (ltb-true t (2 ^ 48) h);
    view = clock_shown_lem H.accepted t ∙ ap (λ (v : View). record { body = at_clock t v.body; lines = v.lines }) H.view;
  }

  cases_on_code : (l : List Case) → clocks_fit l ≡ true → map (ran_case running answers states cell (fresh_at u)) l ≡ map expected_case l → Every (λ c. CaseHolds (memory (clock_set c.clock m.words) m.marks) c) l
  cases_on_code [] r e = tt
  cases_on_code (c ∷ l) r e =
      let k = both_true (ltb c.clock (2 ^ 48)) (clocks_fit l) r in
      let f = both e in
      (case_on_code (fresh_at u) c (clocked c.clock k.0) f.0, cases_on_code l k.1 f.1)

-- ---- a sheet

got_list : {x y : List Ran} {i j : ℕ} → got x i ≡ got y j → x ≡ y
got_list e = cc

sheet_on_code : (s : Sheet) → clocks_fit s.cases ≡ true → ran s ≡ expected s → SheetOnCode s
unfolding ran expected and_then Starts
sheet_on_code s h e = go (setup s.bytes) refl e
  where
    go : (r : Read Setup) → setup s.bytes ≡ r → and_then r (λ u i. got (map (ran_case running answers states cell (fresh_at u)) s.cases) i) ≡ expected s → SheetOnCode s
    go (got u i) f e = λ r old m S. ((rw f at S).0, cases_on_code u (start_holds s.bytes u i f r old m S) s.cases h (got_list e))
    go (refused d i) f e = absurd (let x : ◌≡◌ {A = ℕ} 0 1 = cc in omega arith)

-- the bench sheet, from every start on its bytes
pub bench_sheet_on_code : SheetOnCode bench_sheet
bench_sheet_on_code = sheet_on_code bench_sheet refl bench_sheet_holds.0
