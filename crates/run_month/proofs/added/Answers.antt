-- `added`: one record more, and none left. Assumes nothing.
use Rattle.std.proofs.Common.{◌≡◌, refl, sym, ap, ◌∙◌, ℕ, zero, suc, ◌+◌, ◌≤◌, ◌<◌, arith, List, [], ◌∷◌, length, get_or, drop}
use Rattle.std.proofs.Math.ListN.{drop_of_length-le}
use Rattle.std.proofs.Math.Nat.{suc-add}
use Rattle.run_month.specs.declared.Record.{Record}
use Rattle.run_month.specs.declared.Sum.{Sum}
use Rattle.run_month.specs.Capped.{plus_of, total_from}
use Rattle.run_month.proofs.added.Goals as goal

behind : (l : List Record) (i : ℕ) (d : Record) → i < length l → drop i l ≡ get_or l i d ∷ drop (i + 1) l
behind [] i d h = absurd (omega (arith, h))
behind (x ∷ l) zero d h = refl
behind (x ∷ l) (suc i) d h = behind l i d (omega (arith, h)) ∙ ap (λ (k : ℕ). get_or l i d ∷ drop k (x ∷ l)) (sym (suc-add i 1))

-- one record more
sum_next : (t r s : Sum) (l : List Record) (i : ℕ) (d : Record) → i < length l → r ≡ plus_of t (get_or l i d) → total_from t (drop i l) ≡ s → total_from r (drop (i + 1) l) ≡ s
unfolding total_from
sum_next t r s l i d h e f = ap (λ (x : Sum). total_from x (drop (i + 1) l)) e ∙ ap (λ (x : List Record). total_from t x) (sym (behind l i d h)) ∙ f

-- none left
sum_end : (t s : Sum) (l : List Record) (i : ℕ) → length l ≤ i → total_from t (drop i l) ≡ s → t ≡ s
unfolding total_from
sum_end t s l i h f = ap (λ (x : List Record). total_from t x) (sym (drop_of_length-le l h)) ∙ f

pub loop-r-preserved : goal.loop-r-preserved
loop-r-preserved c = sum_next c.loop-r.t _ _ c.args.records.now c.loop-r.r-index _ (omega arith) c.plus-t.ensures c.loop-r.invariant

pub returns : goal.returns
returns c = sum_end _ _ c.args.records.now c.loop-r.r-index (omega arith) c.loop-r.invariant
