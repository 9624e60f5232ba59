-- The plain kernel's view after an act, an event, or a start is its view before, after the same on queues: in each queue one that goes
-- last has the largest number, and the others keep theirs.
use mathlib.Core.Bool.{Bool, true, false, not, cond, ◌&&◌}
use mathlib.Core.List.{List, [], ◌∷◌, ◌++◌, map, append-nil}
use mathlib.Core.Option.{none}
use mathlib.Core.Path.{◌≡◌, refl, sym, ap, ◌∙◌, subst}
use Prim.Native.Nat.{ℕ, zero, suc, ◌<◌}
use native.Mathlib.Omega.{arith}
use lib.Dec.{eqb}
use lib.ListN.{length, length-map, length-replicate, replicate}
use Rattle.rules.specs.Ids.{of, put, ids, In, keep, number_order}
use Rattle.rules.specs.State.{Body}
use Rattle.rules.specs.Places.{Place, Sort, tasks, messages, blocks, same_sort, sort_at, Item, item, same, population, many, belongs, Exists, tabulate}
use Rattle.rules.specs.Setup.{Setup}
use Rattle.rules.specs.Events.{Event}
use Rattle.rules.specs.Acts.{Act, after, Move, stay, leave, last, move}
use Rattle.rules.specs.View.{line, moved, act, acts}
use Rattle.rules.specs.Table.{judge}
use Rattle.rules.specs.Answers.{answer}
use Rattle.rules.specs.Kernel.{idle_task, idle, begins, fresh, next, served}
use Rattle.rules.specs.Plain.{Plain, numbers_of, number_of, queue_of, view_of, with_count, with_numbers, renumbered, plain_act, plain_acts, unstarted, plain_fresh, plain_next, plain_answer}
use Rattle.rules.proofs.Ids.{of_replicate, length_put, of_put_other, of_put_same, of_put_change, put_empty, put_any, keep_keep, keep_same, keep_all, keep_none}
use Rattle.rules.proofs.Fits.{Fits, fits, population_after, in_range_lem}
use Rattle.rules.proofs.Lines.{line_tabulate, tabulate_same, exists_after}
use Rattle.rules.proofs.Accepted.{nobody_belongs}
use Rattle.rules.proofs.Sorting.{keep_by_number, sort_last}

-- each number is below the count, and each of a sort has a number
pub record Numbers (s : Plain) : Type 0 where
  pub below : (x : Item) → number_of s x < s.count
  pub lengths : (t : Sort) → length (numbers_of s t) ≡ population s.body t

-- ---- the numbers of a sort after a move

numbers_count : (c : Body) (n : ℕ) (s : Plain) (t : Sort) → numbers_of (with_count c n s) t ≡ numbers_of s t
numbers_count c n s tasks = refl
numbers_count c n s messages = refl
numbers_count c n s (blocks p) = refl

numbers_with : (s : Plain) (r t : Sort) (i n : ℕ) → numbers_of (with_numbers r (put (numbers_of s r) i n) s) t ≡ cond (same_sort r t) (put (numbers_of s t) i n) (numbers_of s t)
numbers_with s tasks tasks i n = refl
numbers_with s tasks messages i n = refl
numbers_with s tasks (blocks q) i n = refl
numbers_with s messages tasks i n = refl
numbers_with s messages messages i n = refl
numbers_with s messages (blocks q) i n = refl
numbers_with s (blocks p) tasks i n = refl
numbers_with s (blocks p) messages i n = refl
numbers_with s (blocks p) (blocks q) i n = of_put_change (λ l. put l i n) s.blocks p q [] (put_empty i n)

-- where nobody goes last all numbers stay
pub number_body : (c : Body) (s : Plain) (x : Item) → number_of (with_count c s.count s) x ≡ number_of s x
number_body c s x = ap (λ (l : List ℕ). of l x.id 0) (numbers_count c s.count s x.sort)

-- one that goes last takes the count for its number
numbers_last : (c : Body) (x : Item) (s : Plain) (t : Sort)
    → numbers_of (renumbered c (last x) s) t ≡ cond (same_sort x.sort t) (put (numbers_of s t) x.id s.count) (numbers_of s t)
unfolding renumbered
numbers_last c x s t =
    numbers_count c (suc s.count) (with_numbers x.sort (put (numbers_of s x.sort) x.id s.count) s) t ∙ numbers_with s x.sort t x.id s.count

-- the others keep their numbers
pub number_other : (c : Body) (x : Item) (s : Plain) (y : Item) → same x y ≡ false → number_of (renumbered c (last x) s) y ≡ number_of s y
number_other c x s y e = ap (λ (l : List ℕ). of l y.id 0) (numbers_last c x s y.sort) ∙ go (same_sort x.sort y.sort) e
  where
    go : (t : Bool) → (t && eqb x.id y.id) ≡ false → of (cond t (put (numbers_of s y.sort) x.id s.count) (numbers_of s y.sort)) y.id 0 ≡ number_of s y
    go true d = of_put_other (numbers_of s y.sort) x.id y.id s.count 0 d
    go false d = refl

pub number_new : (c : Body) (s : Plain) → Numbers s → (x : Item) (q : Place) → same_sort x.sort (sort_at q) ≡ true → In x.id (many s.body q)
    → number_of (renumbered c (last x) s) (item q x.id) ≡ s.count
number_new c s h x q e r =
    ap (λ (l : List ℕ). of l x.id 0) (numbers_last c x s (sort_at q)) ∙ rw e (of_put_same (numbers_of s (sort_at q)) x.id s.count 0 (rw (h.lengths (sort_at q)) r))

-- ---- an act keeps that

pub body_numbered : (c : Body) (m : Move) (s : Plain) → (renumbered c m s).body ≡ c
unfolding renumbered
body_numbered c stay s = refl
body_numbered c (leave x) s = refl
body_numbered c (last x) s = refl

below_put : (l : List ℕ) (i j n : ℕ) → of l j 0 < n → of (put l i n) j 0 < suc n
below_put l i j n h = put_any (λ k. k < suc n) l i j n 0 (λ e. omega arith) (omega arith) (omega arith)

below_numbered : (c : Body) (m : Move) (s : Plain) → ((x : Item) → number_of s x < s.count) → (x : Item) → number_of (renumbered c m s) x < (renumbered c m s).count
unfolding renumbered
below_numbered c stay s h y = rw (number_body c s y) (h y)
below_numbered c (leave x) s h y = rw (number_body c s y) (h y)
below_numbered c (last x) s h y = subst (λ (l : List ℕ). of l y.id 0 < suc s.count) (sym (numbers_last c x s y.sort)) (go (same_sort x.sort y.sort))
  where
    go : (t : Bool) → of (cond t (put (numbers_of s y.sort) x.id s.count) (numbers_of s y.sort)) y.id 0 < suc s.count
    go true = below_put (numbers_of s y.sort) x.id y.id s.count (h y)
    go false = omega (arith, h y)

lengths_numbered : (c : Body) (m : Move) (s : Plain) (t : Sort) → length (numbers_of (renumbered c m s) t) ≡ length (numbers_of s t)
unfolding renumbered
lengths_numbered c stay s t = ap (λ (l : List ℕ). length l) (numbers_count c s.count s t)
lengths_numbered c (leave x) s t = ap (λ (l : List ℕ). length l) (numbers_count c s.count s t)
lengths_numbered c (last x) s t = ap (λ (l : List ℕ). length l) (numbers_last c x s t) ∙ go (same_sort x.sort t)
  where
    go : (e : Bool) → length (cond e (put (numbers_of s t) x.id s.count) (numbers_of s t)) ≡ length (numbers_of s t)
    go true = length_put (numbers_of s t) x.id s.count
    go false = refl

pub numbers_act : (a : Act) (s : Plain) → Numbers s → Numbers (plain_act a s)
unfolding plain_act
numbers_act a s h = record {
  below = below_numbered (after a s.body) (move s.body a) s h.below;
  lengths = λ t. lengths_numbered _ (move s.body a) s t ∙ h.lengths t
      ∙ sym (ap (λ (c : Body). population c t) (body_numbered (after a s.body) (move s.body a) s) ∙ population_after a s.body t);
}

pub numbers_acts : (l : List Act) (s : Plain) → Numbers s → Numbers (plain_acts l s)
unfolding plain_acts
numbers_acts [] s h = h
numbers_acts (a ∷ l) s h = numbers_acts l (plain_act a s) (numbers_act a s h)

-- ---- a queue of the plain kernel after an act is its queue before, after the act's move

module _ (c : Body) (s : Plain) (h : Numbers s) (few : (q : Place) → many c q ≡ many s.body q) where
  -- i belonged to the queue before
  abbrev was : Place → ℕ → Bool
  was q i = belongs s.body q i

  abbrev number : Place → ℕ → ℕ
  number q i = number_of s (item q i)

  module _ (x : Item) (q : Place) where
    -- one of the place's sort goes last
    come : same_sort x.sort (sort_at q) ≡ true → Fits s.body c (last x)
        → number_order (λ i. number_of (renumbered c (last x) s) (item q i)) (keep (belongs c q) (ids (many c q)))
        ≡ keep (λ i. not (eqb x.id i)) (number_order (number q) (keep (was q) (ids (many s.body q)))) ++ keep (belongs c q) (x.id ∷ [])
    come e f =
        ap (λ (n : ℕ). number_order (λ i. number_of (renumbered c (last x) s) (item q i)) (keep (belongs c q) (ids n))) (few q)
        ∙ sort_last (number q) (λ i. number_of (renumbered c (last x) s) (item q i)) (was q) (belongs c q) x.id (many s.body q)
        (λ i n. (f q i (other i n), number_other c x s (item q i) (other i n)))
        (λ b. let r : In x.id (many s.body q) = rw (← few q) (in_range_lem c q x.id b) in
        (r, λ i n. omega (arith, number_other c x s (item q i) (other i n), number_new c s h x q e r, h.below (item q i))))
      where
        other : (i : ℕ) → eqb x.id i ≡ false → same x (item q i) ≡ false
        other i n = rw (e, n)

    -- one of another sort goes last
    pass : same_sort x.sort (sort_at q) ≡ false → Fits s.body c (last x)
        → number_order (λ i. number_of (renumbered c (last x) s) (item q i)) (keep (belongs c q) (ids (many c q)))
        ≡ keep (λ i. true) (number_order (number q) (keep (was q) (ids (many s.body q)))) ++ keep (belongs c q) []
    unfolding keep
    pass e f = (λ z. number_order (λ i. number_other c x s (item q i) (other i) z) (keep (λ i. f q i (other i) z) (ids (few q z)))) ∙ sym (keep_all _) ∙ sym (append-nil _)
      where
        other : (i : ℕ) → same x (item q i) ≡ false
        other i = rw e

  queue_move : (m : Move) → Fits s.body c m → (q : Place) → queue_of (renumbered c m s) q ≡ moved c m q (queue_of s q)
  unfolding queue_of renumbered moved
  queue_move stay f q = λ z. number_order (λ i. number_body c s (item q i) z) (keep (λ i. f q i z) (ids (few q z)))
  queue_move (leave x) f q =
      (λ z. number_order (λ i. number_body c s (item q i) z) (keep (λ i. f q i z) (ids (few q z))))
      ∙ ap (number_order (number q)) (sym (keep_keep _ (was q) (ids (many s.body q))))
      ∙ sym (keep_by_number (number q) _ (keep (was q) (ids (many s.body q))))
  queue_move (last x) f q = go (same_sort x.sort (sort_at q)) refl
    where
      go : (t : Bool) → same_sort x.sort (sort_at q) ≡ t
          → number_order (λ i. number_of (renumbered c (last x) s) (item q i)) (keep (belongs c q) (ids (many c q)))
          ≡ keep (λ i. not (t && eqb x.id i)) (number_order (number q) (keep (was q) (ids (many s.body q)))) ++ keep (belongs c q) (cond t (x.id ∷ []) [])
      go true e = come x q e f
      go false e = pass x q e f

pub queue_act : (a : Act) (s : Plain) → Numbers s → (q : Place) → queue_of (plain_act a s) q ≡ moved (after a s.body) (move s.body a) q (queue_of s q)
unfolding plain_act
queue_act a s h q = queue_move (after a s.body) s h (λ q. population_after a s.body (sort_at q)) (move s.body a) (fits a s.body) q

-- ---- what the plain kernel shows

pub body_act : (a : Act) (s : Plain) → (plain_act a s).body ≡ after a s.body
unfolding plain_act
body_act a s = body_numbered (after a s.body) (move s.body a) s

pub line_view_of : (s : Plain) (q : Place) → Exists s.body.store q → line (view_of s) q ≡ queue_of s q
unfolding view_of
line_view_of s q e = line_tabulate s.body.store (queue_of s) q e

pub act_shows : (a : Act) (s : Plain) → Numbers s → view_of (plain_act a s) ≡ act a (view_of s)
unfolding view_of act
act_shows a s h = λ z. record {
  body = body_act a s z;
  lines = (ap (λ (c : Body). tabulate c.store (queue_of (plain_act a s))) (body_act a s) ∙ tabulate_same (after a s.body).store (queue_of (plain_act a s))
      (λ q. moved (after a s.body) (move s.body a) q (line (view_of s) q))
      (λ q e. queue_act a s h q ∙ ap (moved (after a s.body) (move s.body a) q) (sym (line_view_of s q (exists_after a s.body q e))))) z;
}

pub acts_show : (l : List Act) (s : Plain) → Numbers s → view_of (plain_acts l s) ≡ acts l (view_of s)
unfolding plain_acts acts
acts_show [] s h = refl
acts_show (a ∷ l) s h = acts_show l (plain_act a s) (numbers_act a s h) ∙ ap (acts l) (act_shows a s h)

-- ---- the fresh state

pub numbers_unstarted : (u : Setup) → Numbers (unstarted u)
unfolding unstarted idle population
numbers_unstarted u = record { below = λ x. zeroes x.sort x.id; lengths = lengths }
  where
    none_yet : (n i : ℕ) → of (replicate n 0) i 0 < 1
    none_yet n i = omega (arith, of_replicate {A = ℕ} n i 0)

    none_in : (l : List ℕ) (p i : ℕ) → of (of (map (λ n. replicate n 0) l) p []) i 0 < 1
    none_in l zero zero = omega arith
    none_in l zero (suc i) = omega arith
    none_in [] (suc p) zero = omega arith
    none_in [] (suc p) (suc i) = omega arith
    none_in (n ∷ l) (suc zero) i = none_yet n i
    none_in (n ∷ l) (suc (suc p)) i = none_in l (suc p) i

    zeroes : (t : Sort) (i : ℕ) → of (numbers_of (unstarted u) t) i 0 < 1
    zeroes tasks i = none_yet (length u.tasks) i
    zeroes messages i = none_yet u.messages i
    zeroes (blocks p) i = none_in u.pools p i

    as_many : (l : List ℕ) (p : ℕ) → length {A = ℕ} (of (map (λ n. replicate n 0) l) p []) ≡ length (of (map (λ n. replicate n false) l) p [])
    as_many l zero = refl
    as_many [] (suc p) = refl
    as_many (n ∷ l) (suc zero) = length-replicate n 0 ∙ sym (length-replicate n false)
    as_many (n ∷ l) (suc (suc p)) = as_many l (suc p)

    lengths : (t : Sort) → length (numbers_of (unstarted u) t) ≡ population (idle u) t
    lengths tasks = length-replicate (length u.tasks) 0 ∙ sym (length-map u.tasks idle_task)
    lengths messages = length-replicate u.messages 0 ∙ sym (length-replicate u.messages none)
    lengths (blocks p) = as_many u.pools p

pub queue_unstarted : (u : Setup) (q : Place) → queue_of (unstarted u) q ≡ []
unfolding queue_of unstarted number_order
queue_unstarted u q = ap (number_order (λ i. number_of (unstarted u) (item q i))) (keep_same (ids (many (idle u) q)) (nobody_belongs u q) ∙ keep_none (ids (many (idle u) q)))

pub fresh_shows : (u : Setup) → view_of (plain_fresh u) ≡ fresh u
unfolding plain_fresh fresh view_of unstarted
fresh_shows u =
    acts_show (begins u) (unstarted u) (numbers_unstarted u)
    ∙ ap (acts (begins u)) (λ z. record { body = idle u; lines = tabulate_same (idle u).store (queue_of (unstarted u)) (λ q. []) (λ q e. queue_unstarted u q) z })

pub numbers_fresh : (u : Setup) → Numbers (plain_fresh u)
unfolding plain_fresh
numbers_fresh u = numbers_acts (begins u) (unstarted u) (numbers_unstarted u)

-- ---- an event

pub next_shows : (s : Plain) (e : Event) → Numbers s → view_of (plain_next s e) ≡ next (view_of s) e
unfolding plain_next next
next_shows s e h = acts_show (judge (view_of s) e).acts s h

pub numbers_next : (s : Plain) (e : Event) → Numbers s → Numbers (plain_next s e)
unfolding plain_next
numbers_next s e h = numbers_acts (judge (view_of s) e).acts s h

pub same_answer : (s : Plain) (e : Event) → Numbers s → plain_answer s e ≡ (served (view_of s) e).answer
unfolding plain_answer served
same_answer s e h = ap (answer (judge (view_of s) e) (view_of s)) (next_shows s e h)
