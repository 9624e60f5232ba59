-- An act keeps a sound view sound: whoever belongs to a queue stands in it once, by counting, and nobody else does.
use mathlib.Core.Bool.{Bool, true, false, cond, not, ◌&&◌}
use mathlib.Core.List.{List, [], ◌∷◌, ◌++◌}
use mathlib.Core.Path.{◌≡◌, refl, sym, ap, ◌∙◌, subst}
use mathlib.Core.Logic.{◌⊎◌, inl, inr, ◌≢◌}
use Prim.Native.Nat.{ℕ, zero, suc, ◌+◌, ◌<◌}
use native.Mathlib.Nat.{add-zero}
use native.Mathlib.Omega.{arith}
use lib.Dec.{eqb}
use lib.ListN.{length, get_or}
use Rattle.rules.specs.Ids.{of, In, keep, once, times, first}
use Rattle.rules.specs.State.{Kind, Body, task, is_ready}
use Rattle.rules.specs.Places.{Place, ready_at, waiters, free_in, same_sort, sort_at, Item, item, same, population, many, belongs, line_at, Exists}
use Rattle.rules.specs.Acts.{Act, after, Move, stay, leave, last, move}
use Rattle.rules.specs.View.{View, line, nonempty, best, head, alone, without, moved, act}
use Rattle.rules.specs.Sound.{Shape, Known, Queue, Sound}
use Rattle.rules.specs.Blocks.{is_free}
use Rattle.rules.proofs.Ids.{Each, inside, times_append, times_keep, times_head}
use Rattle.rules.proofs.Waits.{both_true}
use Rattle.rules.proofs.Fits.{Fits, fits, population_after, in_range_lem}
use Rattle.rules.proofs.Sorting.{all_has}
use Rattle.rules.proofs.Lines.{shape_tabulate, exists_after, line_act}
use Rattle.rules.proofs.Keeps.{NoneAt, Pre, sound_after, unserved_after}

-- ---- nobody stands in a line but those that exist

known_keep : (n : ℕ) (p : ℕ → Bool) (l : List ℕ) → Known n l → Known n (keep p l)
unfolding keep
known_keep n p [] h = tt
known_keep n p (x ∷ l) h = go (p x) (known_keep n p l h.1)
  where
    go : (t : Bool) → Known n (keep p l) → Known n (cond t (x ∷ keep p l) (keep p l))
    go true k = (h.0, k)
    go false k = k

known_append : (n : ℕ) (l m : List ℕ) → Known n l → Known n m → Known n (l ++ m)
known_append n [] m h k = k
known_append n (x ∷ l) m h k = (h.0, known_append n l m h.1 k)

module _ (c : Body) (q : Place) where
  known_one : (i : ℕ) → Known (many c q) (keep (belongs c q) (i ∷ []))
  unfolding keep
  known_one i = go (belongs c q i) refl
    where
      go : (t : Bool) → belongs c q i ≡ t → Known (many c q) (cond t (i ∷ []) [])
      go true e = (in_range_lem c q i e, tt)
      go false e = tt

known_alone : (c : Body) (x : Item) (q : Place) → Known (many c q) (keep (belongs c q) (alone x q))
unfolding keep
known_alone c x q = go (same_sort x.sort (sort_at q))
  where
    go : (t : Bool) → Known (many c q) (keep (belongs c q) (cond t (x.id ∷ []) []))
    go true = known_one c q x.id
    go false = tt

known_moved : (c : Body) (m : Move) (q : Place) (l : List ℕ) → Known (many c q) l → Known (many c q) (moved c m q l)
unfolding moved
known_moved c stay q l h = h
known_moved c (leave x) q l h = known_keep _ _ l h
known_moved c (last x) q l h = known_append _ (without x q l) _ (known_keep _ _ l h) (known_alone c x q)

-- ---- counting

times_alone : (i : ℕ) (x : Item) (q : Place) → times i (alone x q) ≡ once (same x (item q i))
unfolding times
times_alone i x q = go (same_sort x.sort (sort_at q))
  where
    go : (t : Bool) → times i (cond t (x.id ∷ []) []) ≡ once (t && eqb x.id i)
    go true = add-zero _
    go false = refl

out : (s t : Bool) → cond (not s) (once t) 0 ≡ once (t && not s)
out true true = refl
out true false = refl
out false true = refl
out false false = refl

came : (t s y : Bool) → (s ≡ false → y ≡ t) → cond (not s) (once t) 0 + cond y (once s) 0 ≡ once y
came t true true e = refl
came t true false e = refl
came t false y e = rw (e refl) (same_once t)
  where
    same_once : (t : Bool) → once t + cond t 0 0 ≡ once t
    same_once true = refl
    same_once false = refl

module _ (b c : Body) (q : Place) (i : ℕ) (l : List ℕ) (h : times i l ≡ once (belongs b q i)) where
  stood : (x : Item) → times i (without x q l) ≡ cond (not (same x (item q i))) (once (belongs b q i)) 0
  stood x = times_keep i (λ j. not (same x (item q j))) l ∙ ap (λ (n : ℕ). cond (not (same x (item q i))) n 0) h

  -- after a move each stands where it belongs
  times_moved : (m : Move) → Fits b c m → times i (moved c m q l) ≡ once (belongs c q i)
  unfolding moved
  times_moved stay f = h ∙ ap (λ (t : Bool). once t) (sym (f q i))
  times_moved (leave x) f = stood x ∙ out (same x (item q i)) (belongs b q i) ∙ ap (λ (t : Bool). once t) (sym (f q i))
  times_moved (last x) f =
      times_append i (without x q l) (keep (belongs c q) (alone x q))
      ∙ (λ z. stood x z + (times_keep i (belongs c q) (alone x q) ∙ ap (λ (n : ℕ). cond (belongs c q i) n 0) (times_alone i x q)) z)
      ∙ came (belongs b q i) (same x (item q i)) (belongs c q i) (f q i)

pub queue_moved : (b c : Body) (m : Move) (q : Place) (l : List ℕ) → Fits b c m → many c q ≡ many b q → Queue b q l → Queue c q (moved c m q l)
queue_moved b c m q l f e h = record {
  known = known_moved c m q l (rw e h.known);
  stands = λ i r. times_moved b c q i l (h.stands i (rw e at r)) m f;
}

-- ---- who stands first belongs there, and where nobody stands nobody belongs

known_each : (n : ℕ) (l : List ℕ) → Known n l → Each (λ i. In i n) l
known_each n [] h = tt
known_each n (x ∷ l) h = (h.0, known_each n l h.1)

once_true : (t : Bool) → once t ≢ 0 → t ≡ true
once_true true h = refl
once_true false h = absurd (h refl)

module _ (b : Body) (q : Place) (l : List ℕ) (h : Queue b q l) where
  -- whoever stands in the line is there, and belongs to it
  standing_known : (i : ℕ) → times i l ≢ 0 → In i (many b q)
  standing_known i z = all_has (λ j. In j (many b q)) l (known_each _ l h.known) i z

  standing_belongs : (i : ℕ) → times i l ≢ 0 → belongs b q i ≡ true
  standing_belongs i z = once_true (belongs b q i) (λ e. z (h.stands i (standing_known i z) ∙ e))

  pub belongs_stands : (i : ℕ) → belongs b q i ≡ true → times i l ≡ 1
  belongs_stands i e = h.stands i (in_range_lem b q i e) ∙ ap once e

head_belongs : (b : Body) (q : Place) (x : ℕ) (l : List ℕ) → Queue b q (x ∷ l) → belongs b q x ≡ true
head_belongs b q x l h = standing_belongs b q (x ∷ l) h x (times_head x l)

pub empty_line_belongs : (b : Body) (q : Place) (i : ℕ) → Queue b q [] → belongs b q i ≡ false
unfolding times
empty_line_belongs b q i h = go (belongs b q i) refl
  where
    go : (t : Bool) → belongs b q i ≡ t → t ≡ false
    go true e = absurd (omega (arith, belongs_stands b q [] h i e))
    go false e = refl

module _ (v : View) (h : Sound v) (q : Place) (r : Exists v.body.store q) where
  pub stands_known : (i : ℕ) → times i (line v q) ≢ 0 → In i (many v.body q)
  stands_known i z = standing_known v.body q (line v q) (h.queues q r) i z

  -- who stands in a line belongs there
  pub stands_belongs : (i : ℕ) → times i (line v q) ≢ 0 → belongs v.body q i ≡ true
  stands_belongs i z = standing_belongs v.body q (line v q) (h.queues q r) i z

  pub first_belongs : (x : ℕ) (l : List ℕ) → line v q ≡ x ∷ l → belongs v.body q x ≡ true
  first_belongs x l e = head_belongs v.body q x l (subst (Queue v.body q) e (h.queues q r))

  pub empty_belongs : line v q ≡ [] → (i : ℕ) → belongs v.body q i ≡ false
  empty_belongs e i = empty_line_belongs v.body q i (subst (Queue v.body q) e (h.queues q r))

no_first : {x : ℕ} {m : List ℕ} → [] ≡ x ∷ m → ⊥
no_first e = let z : ◌≡◌ {A = ℕ} 0 1 = cc in omega arith

-- the first nonempty list is one of them
pub nonempty_at : (l : List (List ℕ)) (x : ℕ) (m : List ℕ) → nonempty l ≡ x ∷ m → (i : ℕ) × (i < length l) × (get_or l i [] ≡ x ∷ m)
nonempty_at [] x m e = absurd (no_first e)
nonempty_at ([] ∷ l) x m e = let r = nonempty_at l x m e in (suc r.0, omega (arith, r.1), r.2)
nonempty_at ((y ∷ q) ∷ l) x m e = (0, omega arith, e)

-- ---- the first of a ready queue is READY or RUN

module _ (v : View) (h : Sound v) where
  pub first_ready : (p x : ℕ) (m : List ℕ) → line v (ready_at p) ≡ x ∷ m → is_ready (task v.body x).state ≡ true
  unfolding line_at belongs
  first_ready p x m e = elim (inside v.lines.ready p [])
      [ inl r ↦ (both_true _ _ (first_belongs v h (ready_at p) (subst (In p) h.shape.ready r) x m e)).0 | inr z ↦ absurd (no_first (sym z ∙ e)) ]

  pub best_ready : (x : ℕ) (m : List ℕ) → best v ≡ x ∷ m → is_ready (task v.body x).state ≡ true
  unfolding line_at
  best_ready x m e = let r = nonempty_at v.lines.ready x m e in first_ready (suc r.0) x m r.2

  -- the head of the best queue, if there is one
  pub head_ready : (head v ≡ 0) ⊎ (is_ready (task v.body (head v)).state ≡ true)
  head_ready = go (best v) refl
    where
      go : (l : List ℕ) → best v ≡ l → (first l ≡ 0) ⊎ (is_ready (task v.body (first l)).state ≡ true)
      go [] e = inl refl
      go (x ∷ m) e = inr (best_ready x m e)

-- where nobody stands, nobody waits
pub none_waits : (v : View) → Sound v → (k : Kind) (o : ℕ) → Exists v.body.store (waiters k o) → line v (waiters k o) ≡ [] → NoneAt v.body k o
unfolding belongs
none_waits v h k o r e i = empty_belongs v h (waiters k o) r e i

-- ---- an act on a sound view

shape_act : (a : Act) (v : View) → Shape (act a v).body.store (act a v).lines
unfolding act
shape_act a v = shape_tabulate (after a v.body).store (λ q. moved (after a v.body) (move v.body a) q (line v q))

pub body_act : (a : Act) (v : View) → (act a v).body ≡ after a v.body
unfolding act
body_act a v = refl

pub sound_act : (a : Act) (v : View) → Sound v → Pre v.body a → Sound (act a v)
sound_act a v h p = record {
  body = rw (body_act a v) (sound_after a v.body h.body p);
  shape = shape_act a v;
  queues = λ q r. queue q (exists_after a v.body q (subst (λ (b : Body). Exists b.store q) (body_act a v) r));
  unserved = rw (body_act a v) (unserved_after a v.body h.body h.unserved p);
}
  where
    queue : (q : Place) → Exists v.body.store q → Queue (act a v).body q (line (act a v) q)
    queue q r = rw (body_act a v, line_act a v q r) (queue_moved v.body (after a v.body) (move v.body a) q (line v q) (fits a v.body) (population_after a v.body (sort_at q)) (h.queues q r))

-- ---- free blocks

-- a block that exists reads the same by either default
pub mark_there : (l : List Bool) (k : ℕ) → In k (length l) → of l k false ≡ of l k true
mark_there l zero r = absurd (omega (arith, r.0))
mark_there [] (suc k) r = absurd (omega (arith, r.1))
mark_there (x ∷ l) (suc zero) r = refl
mark_there (x ∷ l) (suc (suc k)) r = mark_there l (suc k) (omega arith, omega (arith, r.1))

-- it stands in the line exactly if it is free
pub stands_free : (v : View) → Sound v → (p k : ℕ) → In p (length v.body.store.pools) → In k (length (of v.body.store.pools p []))
    → times k (line v (free_in p)) ≡ once (is_free v.body p k)
unfolding belongs population
stands_free v s p k rp rk = (s.queues (free_in p) rp).stands k rk ∙ ap once (mark_there (of v.body.store.pools p []) k rk)
