-- The order of the refusals: the first that applies decides, and where none does the call's own rule is left. Assumes nothing.
use mathlib.Core.Bool.{Bool, true, false, cond, false≢true}
use mathlib.Core.List.{List, [], ◌∷◌, ◌++◌}
use mathlib.Core.Path.{◌≡◌, refl, sym, ap, ◌∙◌}
use Prim.Native.Nat.{ℕ}
use Rattle.std.specs.Prelude.{Option, None, Some, is_some}
use Rattle.rules.specs.Codes.{Code}
use Rattle.rules.specs.View.{View}
use Rattle.rules.specs.Verdicts.{Verdict, refuse, check}
use Rattle.rules.specs.Rows.{Refusal, Row}
use Rattle.rules.specs.Table.{refusals, judged}
use Rattle.rules.proofs.Judge.{Passed, Passes}
use Rattle.call_judging.specs.Judging.{first_code, refusals_of, row_code}

-- ---- one word more

pub none_left : None ≡ first_code []
unfolding first_code
none_left = refl

module _ (x : Refusal) (l : List Refusal) where
  pub word_stops : {t : Bool} → t ≡ x.applies → t ≡ true → Some x.code ≡ first_code (x ∷ l)
  unfolding first_code
  word_stops e z = rw (sym e ∙ z)

  pub word_passes : {t : Bool} {z : Option Code} → t ≡ x.applies → t ≡ false → z ≡ first_code l → z ≡ first_code (x ∷ l)
  unfolding first_code
  word_passes e z d = rw (sym e ∙ z) d

-- ---- all of them

none_is_some : {A : Type 0} {a : A} → (None ≡ Some a) → ⊥
none_is_some e = false≢true (ap is_some e)

stops : (l : List Refusal) (r : Verdict) {c : Code} → first_code l ≡ Some c → refusals l r ≡ refuse c
unfolding first_code refusals check
stops [] r e = absurd (none_is_some e)
stops (x ∷ l) r {c} e = go x.applies (stops l r) e
  where
    go : (t : Bool) → (first_code l ≡ Some c → refusals l r ≡ refuse c) → cond t (Some x.code) (first_code l) ≡ Some c → check t x.code (refusals l r) ≡ refuse c
    go true h e = let q : x.code ≡ c = cc in ap refuse q
    go false h e = h e

pass : (l : List Refusal) → first_code l ≡ None → Passed l
unfolding first_code
pass [] e = tt
pass (x ∷ l) e = go x.applies refl (pass l) e
  where
    go : (t : Bool) → x.applies ≡ t → (first_code l ≡ None → Passed l) → cond t (Some x.code) (first_code l) ≡ None → (x.applies ≡ false) × Passed l
    go true q h e = absurd (none_is_some (sym e))
    go false q h e = (q, h e)

-- where nothing applies, the rule is left
left : (l : List Refusal) (r : Verdict) → Passed l → refusals l r ≡ r
unfolding refusals check
left [] r p = refl
left (x ∷ l) r p = rw p.0 (left l r p.1)

-- one list after the other
joined : (l k : List Refusal) (r : Verdict) → refusals (l ++ k) r ≡ refusals l (refusals k r)
unfolding refusals
joined [] k r = refl
joined (x ∷ l) k r = rw (joined l k r)

parted : (l k : List Refusal) → Passed (l ++ k) → Passed l × Passed k
parted [] k p = (tt, p)
parted (x ∷ l) k p = let r = parted l k p.1 in ((p.0, r.0), r.1)

-- ---- a row

module _ (v : View) (h : Bool) (me : ℕ) (r : Row) where
  all : List Refusal
  all = refusals_of v h me r.words r.context r.target

  judged_is : judged v h me r ≡ refusals all r.rule
  unfolding judged all
  judged_is = sym (joined r.words _ r.rule)

  -- the code that is found is the verdict's
  pub row_refused : {c : Code} → row_code v h me r ≡ Some c → judged v h me r ≡ refuse c
  unfolding all
  row_refused e = judged_is ∙ stops all r.rule e

  -- where none is found, the row's tests have passed and its rule is left
  pub row_passed : row_code v h me r ≡ None → Passes v h me r × (judged v h me r ≡ r.rule)
  unfolding all
  row_passed n =
      let p = pass all n in
      let q = parted r.words _ p in
      (record { words = q.0; context = q.1.0; there = q.1.1.0; self = q.1.1.1.0; dormant = q.1.1.1.1.0 }, judged_is ∙ left all r.rule p)
