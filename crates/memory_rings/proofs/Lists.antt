-- Lists of nodes: what holds of all of them, who stands in them, and lists that one node leaves. Assumes nothing.
use Prim.Native.Nat.{ℕ, zero, suc, ◌≤◌, ◌<◌}
use mathlib.Core.Path.{◌≡◌, refl, sym, ap, ◌∙◌, subst}
use mathlib.Core.Bool.{Bool, true, false, cond, ◌&&◌, true≢false}
use mathlib.Core.Logic.{◌≢◌, ◌⊎◌, inl, inr}
use mathlib.Core.List.{List, [], ◌∷◌, ◌++◌, reverse, reverse-cons, reverse-append, reverse-reverse}
use native.Mathlib.Omega.{arith}
use native.Mathlib.Decide.{ℕ_discrete}
use lib.Dec.{eqb}
use lib.ListN.{length}
use lib.Seq.{append_snoc}
use borrow.Author.Tests.{eqb-true, eqb-false, eq-eqb, ne_eqb}
use Rattle.memory_rings.specs.Rings.{IsId, All, Out, Stands, Distinct, head_of, last_of, without, upd}

-- ---- tests

pub and_of : (a b : Bool) → (a && b) ≡ true → (a ≡ true) × (b ≡ true)
and_of true b e = (refl, e)
and_of false b e = absurd (true≢false (sym e))

-- ---- all of a list

pub all_map : {P Q : ℕ → Type 0} → ((x : ℕ) → P x → Q x) → (xs : List ℕ) → All P xs → All Q xs
all_map f [] h = tt
all_map f (x ∷ xs) h = (f x h.0, all_map f xs h.1)

module _ (P : ℕ → Type 0) where
  pub all_join : (xs ys : List ℕ) → All P xs → All P ys → All P (xs ++ ys)
  all_join [] ys h k = k
  all_join (x ∷ xs) ys h k = (h.0, all_join xs ys h.1 k)

  pub all_left : (xs ys : List ℕ) → All P (xs ++ ys) → All P xs
  all_left [] ys h = tt
  all_left (x ∷ xs) ys h = (h.0, all_left xs ys h.1)

  pub all_right : (xs ys : List ℕ) → All P (xs ++ ys) → All P ys
  all_right [] ys h = h
  all_right (x ∷ xs) ys h = all_right xs ys h.1

  pub all_reverse : (xs : List ℕ) → All P xs → All P (reverse xs)
  all_reverse [] h = tt
  all_reverse (x ∷ xs) h = rw reverse-cons (all_join (reverse xs) (x ∷ []) (all_reverse xs h.1) (h.0, tt))

  pub all_at : (xs : List ℕ) (i : ℕ) → Stands i xs → All P xs → P i
  all_at [] i s h = absurd s
  all_at (x ∷ xs) i (inl e) h = subst P e h.0
  all_at (x ∷ xs) i (inr s) h = all_at xs i s h.1

  pub all_of : (xs : List ℕ) → ((i : ℕ) → Stands i xs → P i) → All P xs
  all_of [] h = tt
  all_of (x ∷ xs) h = (h x (inl refl), all_of xs (λ i s. h i (inr s)))

-- a node above n is no id
pub out_ids : (n a : ℕ) → n < a → (xs : List ℕ) → All (IsId n) xs → Out a xs
out_ids n a h xs k = all_map (λ x p e. omega arith) xs k

pub out_last : (i a : ℕ) (xs : List ℕ) → a ≢ i → Out i xs → last_of a xs ≢ i
out_last i a [] h o = h
out_last i a (x ∷ xs) h o = out_last i x xs o.0 o.1

pub last_le : (n m a : ℕ) (xs : List ℕ) → a ≤ m → n ≤ m → All (IsId n) xs → last_of a xs ≤ m
last_le n m a [] h k i = h
last_le n m a (x ∷ xs) h k i = last_le n m x xs (omega arith) k i.1

-- ---- who stands in a list

pub stands_left : (i : ℕ) (xs ys : List ℕ) → Stands i xs → Stands i (xs ++ ys)
stands_left i [] ys s = absurd s
stands_left i (x ∷ xs) ys (inl e) = inl e
stands_left i (x ∷ xs) ys (inr s) = inr (stands_left i xs ys s)

pub stands_right_lem : (i : ℕ) (xs ys : List ℕ) → Stands i ys → Stands i (xs ++ ys)
stands_right_lem i [] ys s = s
stands_right_lem i (x ∷ xs) ys s = inr (stands_right_lem i xs ys s)

pub stands_cases : (i : ℕ) (xs ys : List ℕ) → Stands i (xs ++ ys) → Stands i xs ⊎ Stands i ys
stands_cases i [] ys s = inr s
stands_cases i (x ∷ xs) ys (inl e) = inl (inl e)
stands_cases i (x ∷ xs) ys (inr s) = elim (stands_cases i xs ys s) [ inl t ↦ inl (inr t) | inr t ↦ inr t ]

pub stands_or_out : (i : ℕ) (xs : List ℕ) → Stands i xs ⊎ Out i xs
stands_or_out i [] = inr tt
stands_or_out i (x ∷ xs) = elim (ℕ_discrete x i) [
  | yes e ↦ inl (inl e)
  | no ne ↦ elim (stands_or_out i xs) [ inl s ↦ inl (inr s) | inr o ↦ inr (ne, o) ]
]

pub stands_out : (i : ℕ) (xs : List ℕ) → Stands i xs → Out i xs → ⊥
stands_out i xs s o = all_at (λ x. x ≢ i) xs i s o refl

-- where it stands
pub stands_split : (i : ℕ) (xs : List ℕ) → Stands i xs → (ys : List ℕ) × (zs : List ℕ) × (xs ≡ ys ++ i ∷ zs)
stands_split i [] s = absurd s
stands_split i (x ∷ xs) (inl e) = ([], xs, ap (λ (j : ℕ). j ∷ xs) e)
stands_split i (x ∷ xs) (inr s) = let r = stands_split i xs s in (x ∷ r.0, r.1, ap (λ (l : List ℕ). x ∷ l) r.2)

-- ---- distinct nodes

pub dist_left : (xs ys : List ℕ) → Distinct (xs ++ ys) → Distinct xs
dist_left [] ys d = tt
dist_left (x ∷ xs) ys d = (all_left _ xs ys d.0, dist_left xs ys d.1)

pub dist_join : (xs ys : List ℕ) → Distinct xs → Distinct ys → ((i : ℕ) → Stands i xs → Out i ys) → Distinct (xs ++ ys)
dist_join [] ys d e h = e
dist_join (x ∷ xs) ys d e h = (all_join _ xs ys d.0 (h x (inl refl)), dist_join xs ys d.1 e (λ i s. h i (inr s)))

-- a node in the middle is none of those before it
pub out_mid : (xs : List ℕ) (y : ℕ) (ys : List ℕ) → Distinct (xs ++ y ∷ ys) → Out y xs
out_mid [] y ys d = tt
out_mid (x ∷ xs) y ys d = (λ e. (all_right _ xs (y ∷ ys) d.0).0 (sym e), out_mid xs y ys d.1)

-- nor of those behind it
pub out_rest : (xs : List ℕ) (y : ℕ) (ys : List ℕ) → Distinct (xs ++ y ∷ ys) → Out y ys
out_rest [] y ys d = d.0
out_rest (x ∷ xs) y ys d = out_rest xs y ys d.1

-- ---- ends of a list, turned round

head_snoc : (xs : List ℕ) (x a : ℕ) → head_of (xs ++ x ∷ []) a ≡ head_of xs x
head_snoc [] x a = refl
head_snoc (y ∷ xs) x a = refl

pub head_reverse : (a : ℕ) (xs : List ℕ) → head_of (reverse xs) a ≡ last_of a xs
head_reverse a [] = refl
head_reverse a (x ∷ xs) = rw reverse-cons (head_snoc (reverse xs) x a ∙ head_reverse x xs)

pub last_reverse : (a : ℕ) (xs : List ℕ) → last_of a (reverse xs) ≡ head_of xs a
last_reverse a xs = sym (head_reverse a (reverse xs)) ∙ ap (λ (l : List ℕ). head_of l a) (reverse-reverse xs)

pub reverse_mid : (xs : List ℕ) (x : ℕ) (ys : List ℕ) → reverse (xs ++ x ∷ ys) ≡ reverse ys ++ x ∷ reverse xs
reverse_mid xs x ys = reverse-append xs (x ∷ ys) ∙ ap (λ (l : List ℕ). l ++ reverse xs) (reverse-cons x ys) ∙ append_snoc (reverse ys) x (reverse xs)

-- ---- a list without t

module _ (t : ℕ) where
  pub all_without : (P : ℕ → Type 0) (xs : List ℕ) → All P xs → All P (without t xs)
  unfolding without
  all_without P [] h = tt
  all_without P (x ∷ xs) h = elim (ℕ_discrete x t) [
    | yes e ↦ rw (eq-eqb x t e) (all_without P xs h.1)
    | no ne ↦ rw (ne_eqb x t ne) (h.0, all_without P xs h.1)
  ]

  pub out_without : (xs : List ℕ) → Out t (without t xs)
  unfolding without
  out_without [] = tt
  out_without (x ∷ xs) = elim (ℕ_discrete x t) [
    | yes e ↦ rw (eq-eqb x t e) (out_without xs)
    | no ne ↦ rw (ne_eqb x t ne) (ne, out_without xs)
  ]

  pub without_out : (xs : List ℕ) → Out t xs → without t xs ≡ xs
  unfolding without
  without_out [] o = refl
  without_out (x ∷ xs) o = rw (ne_eqb x t o.0) (ap (λ (l : List ℕ). x ∷ l) (without_out xs o.1))

  pub without_mid : (xs ys : List ℕ) → Distinct (xs ++ t ∷ ys) → without t (xs ++ t ∷ ys) ≡ xs ++ ys
  unfolding without
  without_mid [] ys d = rw (eq-eqb t t refl) (without_out ys d.0)
  without_mid (x ∷ xs) ys d =
      rw (ne_eqb x t (λ e. (all_right _ xs (t ∷ ys) d.0).0 (sym e))) (ap (λ (l : List ℕ). x ∷ l) (without_mid xs ys d.1))

  dist_without : (xs : List ℕ) → Distinct xs → Distinct (without t xs)
  unfolding without
  dist_without [] d = tt
  dist_without (x ∷ xs) d = elim (ℕ_discrete x t) [
    | yes e ↦ rw (eq-eqb x t e) (dist_without xs d.1)
    | no ne ↦ rw (ne_eqb x t ne) (all_without _ xs d.0, dist_without xs d.1)
  ]

  length_without : (xs : List ℕ) → Distinct xs → length xs ≤ suc (length (without t xs))
  unfolding without
  length_without [] d = omega arith
  length_without (x ∷ xs) d = elim (ℕ_discrete x t) [
    | yes e ↦ rw (eq-eqb x t e) (omega (arith, ap length (without_out xs (subst (λ (j : ℕ). Out j xs) e d.0))))
    | no ne ↦ rw (ne_eqb x t ne) (omega (arith, length_without xs d.1))
  ]

-- distinct ids are at most n
pub few : (n : ℕ) (xs : List ℕ) → Distinct xs → All (IsId n) xs → length xs ≤ n
few zero [] d k = omega arith
few zero (x ∷ xs) d k = absurd (omega arith)
few (suc n) xs d k =
    omega (arith, length_without (suc n) xs d, few n (without (suc n) xs) (dist_without (suc n) xs d) (lower (without (suc n) xs) (out_without (suc n) xs) (all_without (suc n) _ xs k)))
  where
    lower : (zs : List ℕ) → Out (suc n) zs → All (IsId (suc n)) zs → All (IsId n) zs
    lower [] o k = tt
    lower (z ∷ zs) o k = ((k.0.0, omega (arith, o.0)), lower zs o.1 k.1)

-- ---- lines with one of them changed

module _ (L : ℕ → List ℕ) (a : ℕ) (xs : List ℕ) where
  pub upd_at : (P : List ℕ → Type 0) (c : ℕ) → (c ≡ a → P xs) → (c ≢ a → P (L c)) → P (upd L a xs c)
  unfolding upd
  upd_at P c f g = go (eqb c a) refl
    where
      go : (t : Bool) → eqb c a ≡ t → P (cond t xs (L c))
      go true e = f (eqb-true c a e)
      go false e = g (eqb-false c a e)

  pub upd_same : upd L a xs a ≡ xs
  unfolding upd
  upd_same = ap (λ (t : Bool). cond t xs (L a)) (eq-eqb a a refl)
