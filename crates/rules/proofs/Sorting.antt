-- Laws of sorting by number: it keeps the members, it may be done before or after a choice, and who has the largest number comes last.
use mathlib.Core.Bool.{Bool, true, false, cond, not, ◌&&◌, and-true, and-false}
use mathlib.Core.List.{List, [], ◌∷◌, ◌++◌, append-nil}
use mathlib.Core.Logic.{◌⊎◌, inl, inr, ◌≢◌}
use mathlib.Core.Path.{◌≡◌, refl, sym, ap, ◌∙◌}
use Prim.Native.Nat.{ℕ, zero, suc, ◌+◌, ◌≤◌, ◌<◌}
use native.Mathlib.Decide.{ℕ_discrete}
use native.Mathlib.Omega.{arith}
use lib.Dec.{eqb, ltb}
use borrow.Author.Tests.{ltb-true, ltb-false, lt-ltb, le-ltb, eqb-true, ne_eqb, eq-eqb, not-true}
use Rattle.rules.specs.Ids.{from, ids, In, keep, once, times, insert, number_order}
use Rattle.rules.proofs.Ids.{Each, keep_keep, keep_same}

-- ---- what holds of each of a list

module _ (P : ℕ → Type 0) where
  pub all_keep : (p : ℕ → Bool) (l : List ℕ) → Each P l → Each P (keep p l)
  unfolding keep
  all_keep p [] h = tt
  all_keep p (x ∷ l) h = go (p x) (all_keep p l h.1)
    where
      go : (t : Bool) → Each P (keep p l) → Each P (cond t (x ∷ keep p l) (keep p l))
      go true k = (h.0, k)
      go false k = k

  -- those that pass a test
  pub all_kept : (p : ℕ → Bool) (l : List ℕ) → ((i : ℕ) → p i ≡ true → P i) → Each P (keep p l)
  unfolding keep
  all_kept p [] h = tt
  all_kept p (x ∷ l) h = go (p x) refl (all_kept p l h)
    where
      go : (t : Bool) → p x ≡ t → Each P (keep p l) → Each P (cond t (x ∷ keep p l) (keep p l))
      go true e k = (h x e, k)
      go false e k = k

  all_insert : (f : ℕ → ℕ) (x : ℕ) (l : List ℕ) → P x → Each P l → Each P (insert f x l)
  all_insert f x [] h k = (h, tt)
  all_insert f x (y ∷ l) h k = go (ltb (f x) (f y)) (all_insert f x l h k.1)
    where
      go : (t : Bool) → Each P (insert f x l) → Each P (cond t (x ∷ y ∷ l) (y ∷ insert f x l))
      go true r = (h, k)
      go false r = (k.0, r)

  pub all_by_number : (f : ℕ → ℕ) (l : List ℕ) → Each P l → Each P (number_order f l)
  unfolding number_order
  all_by_number f [] h = tt
  all_by_number f (x ∷ l) h = all_insert f x (number_order f l) h.0 (all_by_number f l h.1)

  -- of each that stands in the list
  pub all_has : (l : List ℕ) → Each P l → (y : ℕ) → times y l ≢ 0 → P y
  unfolding times
  all_has [] h y t = absurd (t refl)
  all_has (x ∷ l) h y t = go (ℕ_discrete x y) (all_has l h.1 y)
    where
      go : Dec (x ≡ y) → (times y l ≢ 0 → P y) → P y
      go (yes e) r = rw (← e) h.0
      go (no e) r = r (λ k. t (rw (ne_eqb x y e, k)))

pub all_map : (P Q : ℕ → Type 0) (l : List ℕ) → ((i : ℕ) → P i → Q i) → Each P l → Each Q l
all_map P Q [] h k = tt
all_map P Q (x ∷ l) h k = (h x k.0, all_map P Q l h k.1)

-- ---- sorting keeps the members

times_insert : (i : ℕ) (f : ℕ → ℕ) (x : ℕ) (l : List ℕ) → times i (insert f x l) ≡ times i (x ∷ l)
unfolding times
times_insert i f x [] = refl
times_insert i f x (y ∷ l) = go (ltb (f x) (f y)) (times_insert i f x l)
  where
    go : (t : Bool) → times i (insert f x l) ≡ once (eqb x i) + times i l
        → times i (cond t (x ∷ y ∷ l) (y ∷ insert f x l)) ≡ once (eqb x i) + (once (eqb y i) + times i l)
    go true h = refl
    go false h = omega arith

pub times_by_number : (i : ℕ) (f : ℕ → ℕ) (l : List ℕ) → times i (number_order f l) ≡ times i l
unfolding number_order times
times_by_number i f [] = refl
times_by_number i f (x ∷ l) = times_insert i f x (number_order f l) ∙ ap (λ (n : ℕ). once (eqb x i) + n) (times_by_number i f l)

-- numbers that agree on the members sort alike
insert_same : (f g : ℕ → ℕ) (x : ℕ) (l : List ℕ) → f x ≡ g x → Each (λ i. f i ≡ g i) l → insert f x l ≡ insert g x l
insert_same f g x [] e h = refl
insert_same f g x (y ∷ l) e h = λ z. cond (ltb (e z) (h.0 z)) (x ∷ y ∷ l) (y ∷ insert_same f g x l e h.1 z)

pub by_number_same : (f g : ℕ → ℕ) (l : List ℕ) → Each (λ i. f i ≡ g i) l → number_order f l ≡ number_order g l
unfolding number_order
by_number_same f g [] h = refl
by_number_same f g (x ∷ l) h =
    insert_same f g x (number_order f l) h.0 (all_by_number (λ i. f i ≡ g i) f l h.1) ∙ ap (λ (m : List ℕ). insert g x m) (by_number_same f g l h.1)

-- ---- the numbers of a sorted list do not fall

abbrev pub Sorted : (ℕ → ℕ) → List ℕ → Type 0
Sorted f [] = Unit {0}
Sorted f (x ∷ l) = Each (λ i. f x ≤ f i) l × Sorted f l

-- x with a smaller number than all goes first
insert_first : (f : ℕ → ℕ) (x : ℕ) (l : List ℕ) → Each (λ i. f x < f i) l → insert f x l ≡ x ∷ l
insert_first f x [] h = refl
insert_first f x (y ∷ l) h = rw (lt-ltb (f x) (f y) h.0)

sorted_insert : (f : ℕ → ℕ) (x : ℕ) (l : List ℕ) → Sorted f l → Sorted f (insert f x l)
sorted_insert f x [] h = (tt, tt)
sorted_insert f x (y ∷ l) h = go (ltb (f x) (f y)) refl (sorted_insert f x l h.1)
  where
    go : (t : Bool) → ltb (f x) (f y) ≡ t → Sorted f (insert f x l) → Sorted f (cond t (x ∷ y ∷ l) (y ∷ insert f x l))
    go true e r = ((omega (arith, ltb-true (f x) (f y) e), all_map _ _ l (λ i k. omega (arith, ltb-true (f x) (f y) e)) h.0), h)
    go false e r = (all_insert (λ i. f y ≤ f i) f x l (ltb-false (f x) (f y) e) h.0, r)

pub sorted_by_number : (f : ℕ → ℕ) (l : List ℕ) → Sorted f (number_order f l)
unfolding number_order
sorted_by_number f [] = tt
sorted_by_number f (x ∷ l) = sorted_insert f x (number_order f l) (sorted_by_number f l)

-- ---- a choice, then sorting

module _ (f : ℕ → ℕ) (p : ℕ → Bool) (x : ℕ) where
  keep_insert_out : (l : List ℕ) → p x ≡ false → keep p (insert f x l) ≡ keep p l
  unfolding keep
  keep_insert_out [] e = rw e
  keep_insert_out (y ∷ l) e = go (ltb (f x) (f y)) (keep_insert_out l e)
    where
      go : (t : Bool) → keep p (insert f x l) ≡ keep p l → keep p (cond t (x ∷ y ∷ l) (y ∷ insert f x l)) ≡ cond (p y) (y ∷ keep p l) (keep p l)
      go true r = rw e
      go false r = ap (λ (m : List ℕ). cond (p y) (y ∷ m) m) r

  keep_insert_in : (l : List ℕ) → p x ≡ true → Sorted f l → keep p (insert f x l) ≡ insert f x (keep p l)
  unfolding keep
  keep_insert_in [] e h = rw e
  keep_insert_in (y ∷ l) e h = go (ltb (f x) (f y)) refl (keep_insert_in l e h.1)
    where
      past : (t : Bool) → ltb (f x) (f y) ≡ false → cond t (y ∷ insert f x (keep p l)) (insert f x (keep p l)) ≡ insert f x (cond t (y ∷ keep p l) (keep p l))
      past true k = rw k
      past false k = refl

      go : (t : Bool) → ltb (f x) (f y) ≡ t → keep p (insert f x l) ≡ insert f x (keep p l)
          → keep p (cond t (x ∷ y ∷ l) (y ∷ insert f x l)) ≡ insert f x (keep p (y ∷ l))
      go true k r =
          ap (λ (t : Bool). cond t (x ∷ keep p (y ∷ l)) (keep p (y ∷ l))) e
          ∙ sym (insert_first f x (keep p (y ∷ l)) (all_keep (λ i. f x < f i) p (y ∷ l) (ltb-true (f x) (f y) k, all_map _ _ l (λ i n. omega (arith, ltb-true (f x) (f y) k)) h.0)))
      go false k r = ap (λ (m : List ℕ). cond (p y) (y ∷ m) m) r ∙ past (p y) k

pub keep_by_number : (f : ℕ → ℕ) (p : ℕ → Bool) (l : List ℕ) → keep p (number_order f l) ≡ number_order f (keep p l)
unfolding number_order keep
keep_by_number f p [] = refl
keep_by_number f p (x ∷ l) = go (p x) refl (keep_by_number f p l)
  where
    go : (t : Bool) → p x ≡ t → keep p (number_order f l) ≡ number_order f (keep p l) → keep p (insert f x (number_order f l)) ≡ number_order f (cond t (x ∷ keep p l) (keep p l))
    go true e r = keep_insert_in f p x (number_order f l) e (sorted_by_number f l) ∙ ap (λ (m : List ℕ). insert f x m) r
    go false e r = keep_insert_out f p x (number_order f l) e ∙ r

-- ---- who has the largest number comes last

-- a list without a
abbrev pub but : ℕ → List ℕ → List ℕ
but a l = keep (λ i. not (eqb a i)) l

module _ (g : ℕ → ℕ) (a : ℕ) where
  -- as often as a stands in the list
  abbrev each_a : List ℕ → List ℕ
  each_a l = keep (λ i. eqb a i) l

  -- y with a smaller number goes before a
  insert_before : (y : ℕ) (m l : List ℕ) → g y < g a → insert g y (m ++ each_a l) ≡ insert g y m ++ each_a l
  insert_before y [] l h = insert_first g y (each_a l) (all_kept (λ i. g y < g i) (λ i. eqb a i) l (λ i e. rw (← eqb-true a i e) h))
  insert_before y (x ∷ m) l h = go (ltb (g y) (g x)) (insert_before y m l h)
    where
      go : (t : Bool) → insert g y (m ++ each_a l) ≡ insert g y m ++ each_a l
          → cond t (y ∷ x ∷ (m ++ each_a l)) (x ∷ insert g y (m ++ each_a l)) ≡ cond t (y ∷ x ∷ m) (x ∷ insert g y m) ++ each_a l
      go true r = refl
      go false r = ap (λ (k : List ℕ). x ∷ k) r

  insert_alike : (l : List ℕ) → insert g a (each_a l) ≡ a ∷ each_a l
  unfolding keep
  insert_alike [] = refl
  insert_alike (x ∷ l) = go (eqb a x) refl (insert_alike l)
    where
      go : (t : Bool) → eqb a x ≡ t → insert g a (each_a l) ≡ a ∷ each_a l → insert g a (cond t (x ∷ each_a l) (each_a l)) ≡ a ∷ cond t (x ∷ each_a l) (each_a l)
      go true e r = rw (← eqb-true a x e) (rw (le-ltb (g a) (g a) (omega arith)) (ap (λ (k : List ℕ). a ∷ k) r))
      go false e r = r

  insert_last : (m l : List ℕ) → Each (λ i. g i < g a) m → insert g a (m ++ each_a l) ≡ m ++ (a ∷ each_a l)
  insert_last [] l h = insert_alike l
  insert_last (x ∷ m) l h = rw (le-ltb (g a) (g x) (omega (arith, h.0))) (ap (λ (k : List ℕ). x ∷ k) (insert_last m l h.1))

  -- those that are not a, then a
  split_last : ((i : ℕ) → eqb a i ≡ false → g i < g a) → (l : List ℕ) → number_order g l ≡ number_order g (but a l) ++ each_a l
  unfolding number_order keep
  split_last h [] = refl
  split_last h (y ∷ l) = ap (λ (k : List ℕ). insert g y k) (split_last h l) ∙ go (eqb a y) refl
    where
      go : (t : Bool) → eqb a y ≡ t → insert g y (number_order g (but a l) ++ each_a l) ≡ number_order g (cond (not t) (y ∷ but a l) (but a l)) ++ cond t (y ∷ each_a l) (each_a l)
      go true e =
          rw (← eqb-true a y e)
          (insert_last (number_order g (but a l)) l (all_by_number (λ i. g i < g a) g (but a l) (all_kept (λ i. g i < g a) (λ i. not (eqb a i)) l (λ i n. h i (not-true (eqb a i) n)))))
      go false e = insert_before y (number_order g (but a l)) l (h y e)

-- ---- the newcomer among the ids

keep_out : (r : ℕ → Bool) (a k n : ℕ) → (a < k) ⊎ (k + n ≤ a) → keep (λ i. r i && eqb a i) (from k n) ≡ []
unfolding keep
keep_out r a k zero h = refl
keep_out r a k (suc n) h =
    rw (ne_eqb a k (λ e. elim h [ inl b ↦ omega arith | inr b ↦ omega arith ]), and-false) (keep_out r a (suc k) n (elim h [ inl b ↦ inl (omega arith) | inr b ↦ inr (omega arith) ]))

keep_from : (r : ℕ → Bool) (a k n : ℕ) → k ≤ a → a < k + n → keep (λ i. r i && eqb a i) (from k n) ≡ keep r (a ∷ [])
unfolding keep
keep_from r a k zero b c = absurd (omega arith)
keep_from r a k (suc n) b c = go (ℕ_discrete a k) (keep_from r a (suc k) n)
  where
    go : Dec (a ≡ k) → (suc k ≤ a → a < suc k + n → keep (λ i. r i && eqb a i) (from (suc k) n) ≡ keep r (a ∷ []))
        → cond (r k && eqb a k) (k ∷ keep (λ i. r i && eqb a i) (from (suc k) n)) (keep (λ i. r i && eqb a i) (from (suc k) n)) ≡ keep r (a ∷ [])
    go (yes e) ih = rw (eq-eqb a k e, and-true, keep_out r a (suc k) n (inl (omega arith)), e)
    go (no e) ih = rw (ne_eqb a k e, and-false) (ih (omega arith) (omega arith))

keep_at : (r : ℕ → Bool) (a n : ℕ) → In a n → keep (λ i. r i && eqb a i) (ids n) ≡ keep r (a ∷ [])
unfolding ids
keep_at r a n h = keep_from r a 1 n h.0 (omega (arith, h.1))

-- ---- one is given the largest number: the queue before, without it, and then it, if it belongs there

module _ (f g : ℕ → ℕ) (was is : ℕ → Bool) (a n : ℕ) (others : (i : ℕ) → eqb a i ≡ false → (is i ≡ was i) × (g i ≡ f i)) where
  but_last : number_order g (but a (keep is (ids n))) ≡ but a (number_order f (keep was (ids n)))
  but_last =
      by_number_same g f (but a (keep is (ids n))) (all_kept (λ i. g i ≡ f i) (λ i. not (eqb a i)) (keep is (ids n)) (λ i e. (others i (not-true (eqb a i) e)).1))
      ∙ ap (number_order f) (keep_keep _ is (ids n) ∙ keep_same (ids n) (λ i. alike i (eqb a i) refl) ∙ sym (keep_keep _ was (ids n)))
      ∙ sym (keep_by_number f (λ i. not (eqb a i)) (keep was (ids n)))
    where
      alike : (i : ℕ) (t : Bool) → eqb a i ≡ t → (is i && not t) ≡ (was i && not t)
      alike i true e = and-false (is i) ∙ sym (and-false (was i))
      alike i false e = ap (λ (t : Bool). t && true) (others i e).0

  left_out_lem : is a ≡ false → [] ≡ keep is (a ∷ [])
  unfolding keep
  left_out_lem e = rw e

  pub sort_last : (is a ≡ true → In a n × ((i : ℕ) → eqb a i ≡ false → g i < g a)) → number_order g (keep is (ids n)) ≡ but a (number_order f (keep was (ids n))) ++ keep is (a ∷ [])
  sort_last h = go (is a) refl
    where
      -- a is not there to be left out
      absent : is a ≡ false → (i : ℕ) (t : Bool) → eqb a i ≡ t → is i ≡ (is i && not t)
      absent e i true k = rw (← eqb-true a i k, e)
      absent e i false k = sym (and-true (is i))

      go : (t : Bool) → is a ≡ t → number_order g (keep is (ids n)) ≡ but a (number_order f (keep was (ids n))) ++ keep is (a ∷ [])
      go true e =
          split_last g a (h e).1 (keep is (ids n))
          ∙ (λ z. but_last z ++ (keep_keep (λ i. eqb a i) is (ids n) ∙ keep_at is a n (h e).0) z)
      go false e =
          ap (number_order g) (keep_same (ids n) (λ i. absent e i (eqb a i) refl) ∙ sym (keep_keep _ is (ids n)))
          ∙ but_last ∙ sym (append-nil _) ∙ ap (λ (m : List ℕ). but a (number_order f (keep was (ids n))) ++ m) (left_out_lem e)
