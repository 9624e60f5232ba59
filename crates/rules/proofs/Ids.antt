-- Laws of tables by id, of the ids 1 to n, and of lists of ids. Assumes nothing.
use mathlib.Core.Bool.{Bool, true, false, cond, not, ◌&&◌, and-true, and-false, false≢true}
use mathlib.Core.List.{List, [], ◌∷◌, ◌++◌, map}
use mathlib.Core.Logic.{◌⊎◌, inl, inr, ◌≢◌}
use mathlib.Core.Path.{◌≡◌, refl, sym, ap, ◌∙◌, fun_ext}
use Prim.Native.Nat.{ℕ, zero, suc, ◌+◌, ◌≤◌, ◌<◌}
use native.Mathlib.Decide.{dec_lt, ℕ_discrete}
use native.Mathlib.Nat.{zero-add, add-zero, add_assoc}
use native.Mathlib.Omega.{arith}
use lib.Dec.{eqb}
use lib.ListN.{length, length-set, length-map, get_or-eq_default, get_or-map, get_or, set, replicate}
use lib.Seq.{get_or-set_same, get_or-set_other}
use borrow.Author.Tests.{eqb-true, eqb-false, ne_eqb, eq-eqb}
use Rattle.rules.specs.Ids.{of, put, from, ids, In, keep, once, times}
pub use Rattle.rules.specs.Ids.{Each}

-- ---- tables by id

module _ {ℓ} {A : Type ℓ} where
  pub length_put : (l : List A) (i : ℕ) (a : A) → length (put l i a) ≡ length l
  length_put l zero a = refl
  length_put l (suc i) a = length-set l i a

  pub of_put_other : (l : List A) (i j : ℕ) (a d : A) → eqb i j ≡ false → of (put l i a) j d ≡ of l j d
  of_put_other l zero j a d e = refl
  of_put_other l (suc i) zero a d e = refl
  of_put_other l (suc i) (suc j) a d e = get_or-set_other l i j a d (λ h. eqb-false (suc i) (suc j) e (ap suc (sym h)))

  pub of_put_same : (l : List A) (i : ℕ) (a d : A) → In i (length l) → of (put l i a) i d ≡ a
  of_put_same l zero a d h = absurd (omega arith)
  of_put_same l (suc i) a d h = get_or-set_same l i a d h.1

  -- an id has an entry, or the default is read at it
  pub inside : (l : List A) (i : ℕ) (d : A) → In i (length l) ⊎ (of l i d ≡ d)
  inside l zero d = inr refl
  inside l (suc i) d = elim (dec_lt i (length l)) [ yes h ↦ inl (omega arith) | no h ↦ inr (get_or-eq_default l d (omega arith)) ]

  -- what is read where something was put: that, or the default
  set_either : (l : List A) (i : ℕ) (a d : A) → (get_or (set l i a) i d ≡ a) ⊎ (get_or (set l i a) i d ≡ d)
  set_either [] i a d = inr refl
  set_either (x ∷ l) zero a d = inl refl
  set_either (x ∷ l) (suc i) a d = set_either l i a d

  pub put_either : (l : List A) (i : ℕ) (a d : A) → (of (put l i a) i d ≡ a) ⊎ (of (put l i a) i d ≡ d)
  put_either l zero a d = inr refl
  put_either l (suc i) a d = set_either l i a d

  -- what holds of each entry, and of what is put, holds of each entry afterwards
  pub put_all {κ} : (P : A → Type κ) (l : List A) (i : ℕ) (a d : A) → ((j : ℕ) → In j (length l) → P (of l j d)) → (In i (length l) → P a)
      → (j : ℕ) → In j (length (put l i a)) → P (of (put l i a) j d)
  put_all P l i a d h g j r = go (eqb i j) refl (omega (arith, r.0), omega (arith, r.1, length_put l i a))
    where
      go : (t : Bool) → eqb i j ≡ t → In j (length l) → P (of (put l i a) j d)
      go true e k = rw (← eqb-true i j e) (rw (of_put_same l i a d (rw (eqb-true i j e) k)) (g (rw (eqb-true i j e) k)))
      go false e k = rw (of_put_other l i j a d e) (h j k)

  -- what holds of an entry, of the default, and of what is put, holds afterwards
  pub put_any {κ} : (P : A → Type κ) (l : List A) (i j : ℕ) (a d : A) → (i ≡ j → P a) → P d → P (of l j d) → P (of (put l i a) j d)
  put_any P l i j a d h n k = go (eqb i j) refl
    where
      there : i ≡ j → (of (put l j a) j d ≡ a) ⊎ (of (put l j a) j d ≡ d) → P (of (put l j a) j d)
      there q (inl e) = rw e (h q)
      there q (inr e) = rw e n

      go : (t : Bool) → eqb i j ≡ t → P (of (put l i a) j d)
      go true e = rw (eqb-true i j e) (there (eqb-true i j e) (put_either l j a d))
      go false e = rw (of_put_other l i j a d e) k

  -- an id at which a test says other than at the default has an entry
  pub tested : (f : A → Bool) (l : List A) (i : ℕ) (d : A) → f d ≡ false → f (of l i d) ≡ true → In i (length l)
  tested f l i d n e = elim (inside l i d) [ inl h ↦ h | inr h ↦ absurd (false≢true (sym n ∙ ap f (sym h) ∙ e)) ]

  -- an entry is replaced by one that f cannot tell from it
  get_d_set_test {κ} : {B : Type κ} (f : A → B) (l : List A) (i j : ℕ) (a d : A) → f a ≡ f (get_or l i d) → f (get_or (set l i a) j d) ≡ f (get_or l j d)
  get_d_set_test f [] i j a d e = refl
  get_d_set_test f (x ∷ l) zero zero a d e = e
  get_d_set_test f (x ∷ l) zero (suc j) a d e = refl
  get_d_set_test f (x ∷ l) (suc i) zero a d e = refl
  get_d_set_test f (x ∷ l) (suc i) (suc j) a d e = get_d_set_test f l i j a d e

  pub of_put_test {κ} : {B : Type κ} (f : A → B) (l : List A) (i j : ℕ) (a d : A) → f a ≡ f (of l i d) → f (of (put l i a) j d) ≡ f (of l j d)
  of_put_test f l zero j a d e = refl
  of_put_test f l (suc i) zero a d e = refl
  of_put_test f l (suc i) (suc j) a d e = get_d_set_test f l i j a d e

  -- an entry is replaced by one that fails a test, as the default does
  pub put_gone : (f : A → Bool) (l : List A) (i j : ℕ) (a d : A) → f a ≡ false → f d ≡ false → f (of (put l i a) j d) ≡ (f (of l j d) && not (eqb i j))
  put_gone f l i j a d p n = go (eqb i j) refl
    where
      there : (of (put l i a) i d ≡ a) ⊎ (of (put l i a) i d ≡ d) → f (of (put l i a) i d) ≡ false
      there (inl k) = ap f k ∙ p
      there (inr k) = ap f k ∙ n

      go : (t : Bool) → eqb i j ≡ t → f (of (put l i a) j d) ≡ (f (of l j d) && not t)
      go false e = ap f (of_put_other l i j a d e) ∙ sym (and-true _)
      go true e = rw (← eqb-true i j e, and-false) (there (put_either l i a d))

  pub of_map : (f : A → A) (l : List A) (i : ℕ) (d : A) → f d ≡ d → of (map f l) i d ≡ f (of l i d)
  of_map f l zero d e = sym e
  of_map f l (suc i) d e = ap (λ (x : A). get_or (map f l) i x) (sym e) ∙ get_or-map f l i d

  -- an entry is changed by f, which leaves the default alone
  pub of_put_change : (f : A → A) (l : List A) (i j : ℕ) (d : A) → f d ≡ d → of (put l i (f (of l i d))) j d ≡ cond (eqb i j) (f (of l j d)) (of l j d)
  of_put_change f l i j d n = go (eqb i j) refl
    where
      there : In j (length l) ⊎ (of l j d ≡ d) → of (put l j (f (of l j d))) j d ≡ f (of l j d)
      there (inl r) = of_put_same l j (f (of l j d)) d r
      there (inr e) = elim (put_either l j (f (of l j d)) d) [ inl k ↦ k | inr k ↦ k ∙ sym (ap f e ∙ n) ]

      go : (t : Bool) → eqb i j ≡ t → of (put l i (f (of l i d))) j d ≡ cond t (f (of l j d)) (of l j d)
      go true e = rw (eqb-true i j e) (there (inside l j d))
      go false e = of_put_other l i j _ d e

  pub put_empty : (i : ℕ) (a : A) → put [] i a ≡ []
  put_empty zero a = refl
  put_empty (suc i) a = refl

  -- a table of defaults
  pub of_replicate : (n i : ℕ) (d : A) → of (replicate n d) i d ≡ d
  of_replicate n zero d = refl
  of_replicate zero (suc i) d = refl
  of_replicate (suc n) (suc zero) d = refl
  of_replicate (suc n) (suc (suc i)) d = of_replicate n (suc i) d

-- ---- a table made from the ids 1 to n

pub length_from : (k n : ℕ) → length (from k n) ≡ n
length_from k zero = refl
length_from k (suc n) = ap suc (length_from (suc k) n)

module _ {ℓ} {A : Type ℓ} (f : ℕ → A) where
  get_d_from : (k n i : ℕ) (d : A) → i < n → get_or (map f (from k n)) i d ≡ f (k + i)
  get_d_from k zero i d h = absurd (omega arith)
  get_d_from k (suc n) zero d h = ap f (sym (add-zero k))
  get_d_from k (suc n) (suc i) d h = get_d_from (suc k) n i d (omega arith) ∙ ap f (omega arith)

  pub of_ids : (n i : ℕ) (d : A) → In i n → of (map f (ids n)) i d ≡ f i
  unfolding ids
  of_ids n zero d h = absurd (omega (arith, h.0))
  of_ids n (suc i) d h = get_d_from 1 n i d h.1 ∙ ap f (omega arith)

  pub length_ids : (n : ℕ) → length (map f (ids n)) ≡ n
  unfolding ids
  length_ids n = length-map (from 1 n) f ∙ length_from 1 n

map_from : {A : Type 0} (f g : ℕ → A) (k n : ℕ) → ((i : ℕ) → k ≤ i → i < k + n → f i ≡ g i) → map f (from k n) ≡ map g (from k n)
map_from f g k zero h = refl
map_from f g k (suc n) h = λ z. h k (omega arith) (omega arith) z ∷ map_from f g (suc k) n (λ i a b. h i (omega arith) (omega arith)) z

-- a list is the table of its own entries
list_from : {A : Type 0} (l : List A) (d : A) (f : ℕ → A) (k : ℕ) → ((i : ℕ) → i < length l → f (k + i) ≡ get_or l i d) → map f (from k (length l)) ≡ l
list_from [] d f k h = refl
list_from (x ∷ l) d f k h = λ z. (ap f (sym (add-zero k)) ∙ h 0 (omega arith)) z ∷ list_from l d f (suc k) (λ i b. ap f (omega arith) ∙ h (suc i) (omega arith)) z

pub ids_of_lem : {A : Type 0} (l : List A) (d : A) → map (λ i. of l i d) (ids (length l)) ≡ l
unfolding ids
ids_of_lem l d = list_from l d (λ i. of l i d) 1 (λ i b. let e : 1 + i ≡ suc i = omega arith in ap (λ (n : ℕ). of l n d) e)

-- two functions that agree on the ids make the same table
pub map_ids : {A : Type 0} (f g : ℕ → A) (n : ℕ) → ((i : ℕ) → In i n → f i ≡ g i) → map f (ids n) ≡ map g (ids n)
unfolding ids
map_ids f g n h = map_from f g 1 n (λ i a b. h i (omega arith))

-- ---- lists of ids

keep_cond : (p : ℕ → Bool) (t : Bool) (x : ℕ) (l : List ℕ) → keep p (cond t (x ∷ l) l) ≡ cond (t && p x) (x ∷ keep p l) (keep p l)
unfolding keep
keep_cond p true x l = refl
keep_cond p false x l = refl

pub keep_keep : (p r : ℕ → Bool) (l : List ℕ) → keep p (keep r l) ≡ keep (λ i. r i && p i) l
unfolding keep
keep_keep p r [] = refl
keep_keep p r (x ∷ l) = keep_cond p (r x) x (keep r l) ∙ ap (λ (k : List ℕ). cond (r x && p x) (x ∷ k) k) (keep_keep p r l)

pub keep_append : (p : ℕ → Bool) (l m : List ℕ) → keep p (l ++ m) ≡ keep p l ++ keep p m
unfolding keep
keep_append p [] m = refl
keep_append p (x ∷ l) m = go (p x) (keep_append p l m)
  where
    go : (t : Bool) → keep p (l ++ m) ≡ keep p l ++ keep p m → cond t (x ∷ keep p (l ++ m)) (keep p (l ++ m)) ≡ cond t (x ∷ keep p l) (keep p l) ++ keep p m
    go true e = ap (λ (k : List ℕ). x ∷ k) e
    go false e = e

pub keep_same : {p r : ℕ → Bool} (l : List ℕ) → ((i : ℕ) → p i ≡ r i) → keep p l ≡ keep r l
keep_same l h = ap (λ (f : ℕ → Bool). keep f l) (fun_ext h)

pub keep_all : (l : List ℕ) → keep (λ i. true) l ≡ l
unfolding keep
keep_all [] = refl
keep_all (x ∷ l) = ap (λ (m : List ℕ). x ∷ m) (keep_all l)

pub keep_none : (l : List ℕ) → keep (λ i. false) l ≡ []
unfolding keep
keep_none [] = refl
keep_none (x ∷ l) = keep_none l

pub times_append : (i : ℕ) (l m : List ℕ) → times i (l ++ m) ≡ times i l + times i m
unfolding times
times_append i [] m = sym (zero-add _)
times_append i (x ∷ l) m = rw (times_append i l m) (sym (add_assoc _ _ _))

pub times_keep : (i : ℕ) (p : ℕ → Bool) (l : List ℕ) → times i (keep p l) ≡ cond (p i) (times i l) 0
unfolding times keep
times_keep i p [] = go (p i)
  where
    go : (t : Bool) → ◌≡◌ {A = ℕ} 0 (cond t 0 0)
    go true = refl
    go false = refl
times_keep i p (x ∷ l) = split (p x) ∙ ap (λ (n : ℕ). cond (p x) (once (eqb x i)) 0 + n) (times_keep i p l) ∙ join (eqb x i) refl
  where
    split : (t : Bool) → times i (cond t (x ∷ keep p l) (keep p l)) ≡ cond t (once (eqb x i)) 0 + times i (keep p l)
    split true = refl
    split false = sym (zero-add _)

    yes_i : (t : Bool) → cond t 1 0 + cond t (times i l) 0 ≡ cond t (1 + times i l) 0
    yes_i true = refl
    yes_i false = refl

    no_i : (s t : Bool) → cond s 0 0 + cond t (times i l) 0 ≡ cond t (0 + times i l) 0
    no_i true true = refl
    no_i true false = refl
    no_i false true = refl
    no_i false false = refl

    join : (t : Bool) → eqb x i ≡ t → cond (p x) (once t) 0 + cond (p i) (times i l) 0 ≡ cond (p i) (once t + times i l) 0
    join true e = rw (eqb-true x i e) (yes_i (p i))
    join false e = no_i (p x) (p i)

-- who is kept stood there before, and passes the test
pub has_keep : (p : ℕ → Bool) (l : List ℕ) (y : ℕ) → times y (keep p l) ≢ 0 → times y l ≢ 0
has_keep p l y h e = h (times_keep y p l ∙ rw e (go (p y)))
  where
    go : (t : Bool) → ◌≡◌ {A = ℕ} (cond t 0 0) 0
    go true = refl
    go false = refl

pub kept_passes : (p : ℕ → Bool) (x : ℕ) (l : List ℕ) → times x (keep p l) ≢ 0 → p x ≡ true
kept_passes p x l h = go (p x) refl
  where
    go : (t : Bool) → p x ≡ t → t ≡ true
    go true e = refl
    go false e = absurd (h (times_keep x p l ∙ rw e))

-- x itself stands in a list that begins with it; what stands in the rest stands in the whole
pub times_head : (x : ℕ) (l : List ℕ) → times x (x ∷ l) ≢ 0
unfolding times
times_head x l = rw (eq-eqb x x refl) (λ e. omega arith)

pub times_tail : (x y : ℕ) (l : List ℕ) → times y l ≢ 0 → times y (x ∷ l) ≢ 0
unfolding times
times_tail x y l h = λ e. h (omega arith)

-- ---- of the ids 1 to n each stands once

times_from_out : (i k n : ℕ) → (i < k) ⊎ (k + n ≤ i) → times i (from k n) ≡ 0
unfolding times
times_from_out i k zero h = refl
times_from_out i k (suc n) h =
    rw (ne_eqb k i (λ e. elim h [ inl a ↦ omega arith | inr a ↦ omega arith ]), times_from_out i (suc k) n (elim h [ inl a ↦ inl (omega arith) | inr a ↦ inr (omega arith) ]))

times_from_in : (i k n : ℕ) → k ≤ i → i < k + n → times i (from k n) ≡ 1
unfolding times
times_from_in i k zero a b = absurd (omega arith)
times_from_in i k (suc n) a b = go (ℕ_discrete k i) (times_from_in i (suc k) n)
  where
    go : Dec (k ≡ i) → (suc k ≤ i → i < suc k + n → times i (from (suc k) n) ≡ 1) → once (eqb k i) + times i (from (suc k) n) ≡ 1
    go (yes e) ih = rw (eq-eqb k i e, times_from_out i (suc k) n (inl (omega arith)))
    go (no e) ih = rw (ne_eqb k i e, ih (omega arith) (omega arith))

pub times_ids : (i n : ℕ) → In i n → times i (ids n) ≡ 1
unfolding ids
times_ids i n h = times_from_in i 1 n h.0 (omega (arith, h.1))

-- one that does not stand in a list leaves it as it is
pub absent_leaves : (j : ℕ) (l : List ℕ) → times j l ≡ 0 → keep (λ i. not (eqb j i)) l ≡ l
unfolding keep times
absent_leaves j [] e = refl
absent_leaves j (x ∷ l) e = go (eqb j x) refl (absent_leaves j l (omega (arith, e)))
  where
    go : (t : Bool) → eqb j x ≡ t → keep (λ i. not (eqb j i)) l ≡ l → cond (not t) (x ∷ keep (λ i. not (eqb j i)) l) (keep (λ i. not (eqb j i)) l) ≡ x ∷ l
    go true d h = absurd (omega (arith, e, ap once (eq-eqb x j (sym (eqb-true j x d)))))
    go false d h = ap (λ (m : List ℕ). x ∷ m) h
