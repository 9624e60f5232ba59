-- The loops over ids: `all` and `fold` over a range of them say what `every` says. Assumes nothing.
use Prim.Native.Nat.{ℕ, zero, suc, ◌+◌, ◌≤◌, ◌<◌}
use mathlib.Core.List.{List, [], ◌∷◌, ◌++◌}
use mathlib.Core.Path.{◌≡◌, refl, ap, ◌∙◌}
use mathlib.Core.Bool.{Bool, true, false, ◌&&◌, and-true}
use Rattle.std.proofs.lemmas.Fn.{fold_over}
use Rattle.std.proofs.lemmas.List.Folds.{list_all-append}
use native.Mathlib.Numerals.{add-one}
use native.Mathlib.Omega.{arith}
use Rattle.check_ranges.specs.Ranges.{every}
use Rattle.std.proofs.iter.Yields.{nat_range_steps}
use Rattle.std.proofs.lemmas.Iterator.{YieldsList, YieldsList-from_range}
use Rattle.std.proofs.Common.{length, take, drop, get_or, drop-cons}
use Rattle.rules.specs.Ids.{of}
use Rattle.std.proofs.lemmas.Iterator.Search.{all_from_yields_List}
use Rattle.std.specs.Fn.{Called}
use Rattle.std.specs.Iterator.{YieldsThen, Drains}
use Rattle.std.specs.List.{FoldsTo, list_all, range_with_len}
use Rattle.std.specs.Option.{MatchOption}
use Rattle.std.specs.declared.ops.Range.{Range}
use Rattle.std.specs.declared.option.Option.{Option}
use denote.Param.Members.{Mut}

-- the ids from k on as a list
every_listed : (n k : ℕ) (f : ℕ → Bool) → list_all f (range_with_len k n) ≡ every n k f
unfolding every
every_listed zero k f = refl
every_listed (suc n) k f = ap (λ (b : Bool). f k && b) (rw add-one (every_listed n (suc k) f))

-- `(1..n + 1).all(..)` of a closure that computes the test f
pub all_is_every : {F : Type 0} {g : Mut F (ℕ × Unit {0}) Bool} {s u : Range ℕ} {j : F} {r : Bool} (f : ℕ → Bool) (n : ℕ)
    → (xs : List ℕ) × (o : Option ℕ) × (h : F) × YieldsThen nat_range_steps s xs o u × FoldsTo (λ p x q. Called g p (x, tt) true q) j xs h × MatchOption o (r ≡ true) (λ x. (r ≡ false) × ((q : F) × Called g h (x, tt) false q))
    → s ≡ record { start = 1; end = n + 1 } → ((x : ℕ) (b : Bool) (q : F) → Called g j (x, tt) b q → (q ≡ j) × (b ≡ f x)) → r ≡ every n 1 f
all_is_every f n ran e k = all_from_yields_List f _ _ _ ran (YieldsList-from_range 1 (n + 1) n e (omega arith)) k ∙ every_listed n 1 f

every_listed_from : (n k : ℕ) (f : ℕ → Bool) → list_all (λ i. f (i + 1)) (range_with_len k n) ≡ every n (suc k) f
unfolding every
every_listed_from zero k f = refl
every_listed_from (suc n) k f = rw add-one (ap (λ (b : Bool). f (suc k) && b) (every_listed_from n (suc k) f))

-- `(0..n).all(..)` of a closure that computes the test f of the next
pub all_from_zero : {F : Type 0} {g : Mut F (ℕ × Unit {0}) Bool} {s u : Range ℕ} {j : F} {r : Bool} (f : ℕ → Bool) (n : ℕ)
    → (xs : List ℕ) × (o : Option ℕ) × (h : F) × YieldsThen nat_range_steps s xs o u × FoldsTo (λ p x q. Called g p (x, tt) true q) j xs h × MatchOption o (r ≡ true) (λ x. (r ≡ false) × ((q : F) × Called g h (x, tt) false q))
    → s ≡ record { start = 0; end = n } → ((x : ℕ) (b : Bool) (q : F) → Called g j (x, tt) b q → (q ≡ j) × (b ≡ f (x + 1))) → r ≡ every n 1 f
all_from_zero f n ran e k = all_from_yields_List (λ i. f (i + 1)) _ _ _ ran (YieldsList-from_range 0 n n e (omega arith)) k ∙ every_listed_from n 0 f

-- `.fold(true, ..)` of a closure that adds the test f to what was said before
pub fold_is_all : {S A F : Type 0} {steps : S → Option A → S → Type 0} {v : A → ℕ} {g : Mut F (Bool × (A × Unit {0})) Bool} {s : S} {all : List ℕ} {j : F} {r : Bool} (f : ℕ → Bool)
    → (xs : List A) × (h : F) × Drains steps s xs × FoldsTo {P = F × Bool} (λ p x q. Called g p.0 (p.1, (x, tt)) q.1 q.0) (j, true) xs (h, r)
    → YieldsList steps v s all → ((a : Bool) (x : A) (b : Bool) (q : F) → Called g j (a, (x, tt)) b q → (b ≡ (a && f (v x))) × (q ≡ j)) → r ≡ list_all f all
fold_is_all {A = A} {steps = steps} {v = v} {g = g} {s = s} {all = all} {j = j} {r = r} f ran y k =
    fold_over steps v g (λ ys a. a ≡ list_all f ys) j step s all true r y.runs refl ran
  where
    step : (ys : List ℕ) (a : Bool) (x : A) (b : Bool) (q : _) → a ≡ list_all f ys → Called g j (a, (x, tt)) b q → (b ≡ list_all f (ys ++ (v x ∷ []))) × (q ≡ j)
    step ys a x b q h c = let d = k a x b q c in (d.0 ∙ rw (list_all-append, and-true, h), d.1)

-- over `1..n + 1`
pub fold_is_every : {F : Type 0} {g : Mut F (Bool × (ℕ × Unit {0})) Bool} {s : Range ℕ} {j : F} {r : Bool} (f : ℕ → Bool) (n : ℕ)
    → (xs : List ℕ) × (h : F) × Drains nat_range_steps s xs × FoldsTo {P = F × Bool} (λ p x q. Called g p.0 (p.1, (x, tt)) q.1 q.0) (j, true) xs (h, r)
    → s ≡ record { start = 1; end = n + 1 } → ((a : Bool) (x : ℕ) (b : Bool) (q : F) → Called g j (a, (x, tt)) b q → (b ≡ (a && f x)) × (q ≡ j)) → r ≡ every n 1 f
fold_is_every f n ran e k = fold_is_all f ran (YieldsList-from_range 1 (n + 1) n e (omega arith)) k ∙ every_listed n 1 f

of_each : (f : ℕ → Bool) (l : List ℕ) (n k : ℕ) → k + n ≤ length l → list_all f (take n (drop k l)) ≡ every n (suc k) (λ j. f (of l j 0))
unfolding every
of_each f l zero k h = refl
of_each f l (suc n) k h = let b : k < length l = omega arith in rw (drop-cons l k 0) (ap (λ (t : Bool). f (get_or l k 0) && t) (of_each f l n (suc k) (omega arith)))

-- the first n of a list, as the entries of the ids 1 to n
pub every_of : (f : ℕ → Bool) (l : List ℕ) (n : ℕ) → n ≤ length l → list_all f (take n l) ≡ every n 1 (λ j. f (of l j 0))
every_of f l n h = of_each f l n 0 (omega arith)
