-- The laws of tables that hold lines: an id is put last, an id leaves, an anchor is set up, and what a line's links say. Assumes nothing.
use Prim.Native.Nat.{ℕ, suc, ◌<◌}
use mathlib.Core.Path.{◌≡◌, refl, sym, ap, ◌∙◌, subst}
use mathlib.Core.Bool.{Bool, true, false, cond}
use mathlib.Core.Logic.{◌≢◌, ◌↔◌, inl, inr}
use mathlib.Core.List.{List, [], ◌∷◌, ◌++◌, reverse, reverse-append, append-nil}
use native.Mathlib.Omega.{arith}
use native.Mathlib.Decide.{ℕ_discrete}
use lib.Dec.{eqb}
use lib.ListN.{get_or, set, length, length-set}
use borrow.Author.Tests.{eqb-true, eqb-false, eq-eqb, ne_eqb}
use Rattle.memory_rings.specs.Links.{push_next, push_prev, bridged, left_next, left_prev, first_of}
use Rattle.memory_rings.specs.Rings.{IsId, All, Out, Stands, Distinct, head_of, last_of, without, upd, Seg, line_of, Ring, Linked}
use Rattle.memory_rings.proofs.Lists.{all_join, all_left, all_right, all_reverse, stands_left, stands_right_lem, stands_cases, stands_out, stands_or_out, stands_split, head_reverse, last_reverse, reverse_mid, without_out, without_mid, out_without, few, upd_at, upd_same}
use Rattle.memory_rings.proofs.Ways.{split, last_link, head_link, never, apart, distinct, walk_way, insert, insert_other, bridge, bridge_other, bridge_free, had_link}

-- no id is in the rings of two anchors
pub ring_apart : {n : ℕ} {nx pv xs ys : List ℕ} (a b x : ℕ) → n < a → n < b → Ring n nx pv a xs → Ring n nx pv b ys → Stands x xs → Stands x ys → a ≡ b
ring_apart {n} {nx} {xs = xs} {ys = ys} a b x na nb A B sa sb = elim (ℕ_discrete a b) [
  | yes e ↦ e
  | no ne ↦
      let r = stands_split x xs sa in
      let k : All (IsId n) (x ∷ r.1) = all_right _ r.0 (x ∷ r.1) (rw r.2 at A.ids) in
      let s = split nx a r.0 x r.1 a (rw r.2 at A.forth) in
      absurd (stands_out x ys sb (apart nx n x r.1 a na k.1 s.1 b ys b nb B.ids B.forth (λ e. absurd (ne e))).1)
]

module _ {n : ℕ} {U : ℕ → Type 0} {nx pv : List ℕ} {L : ℕ → List ℕ} (M : Linked n U nx pv L) where
  -- ---- the same under other names

  -- other lines that are equal where an anchor is in use
  pub linked_ext : (K : ℕ → List ℕ) → ((a : ℕ) → U a → L a ≡ K a) → Linked n U nx pv K
  linked_ext K e = record {
    anchors = M.anchors;
    same = M.same;
    ring = λ a u. subst (Ring n nx pv a) (e a u) (M.ring a u);
    home = λ i h z. let r = M.home i h z in (r.0, r.1, subst (Stands i) (e r.0 r.1) r.2);
  }

  -- another name for the anchors in use
  pub linked_use : (W : ℕ → Type 0) → ((a : ℕ) → U a → W a) → ((a : ℕ) → W a → U a) → Linked n W nx pv L
  linked_use W f g = record {
    anchors = λ a v. M.anchors a (g a v);
    same = M.same;
    ring = λ a v. M.ring a (g a v);
    home = λ i h z. let r = M.home i h z in (r.0, f r.0 r.1, r.2);
  }

module _ {n : ℕ} {U : ℕ → Type 0} {nx pv : List ℕ} {L : ℕ → List ℕ} (M : Linked n U nx pv L) where
  -- ---- what the links say

  -- no id is twice in a line
  pub once_law : (a : ℕ) → U a → Distinct (L a)
  once_law a u = let R = M.ring a u in distinct nx n a (L a) a (M.anchors a u).0 R.ids R.forth

  -- the line is the one that is read off the table
  pub line_is : (a : ℕ) → U a → line_of n nx a ≡ L a
  unfolding line_of
  line_is a u = let R = M.ring a u in walk_way nx (suc n) n a (L a) a (omega (arith, few n (L a) (once_law a u) R.ids)) (M.anchors a u).0 R.ids R.forth

  -- no id is in two lines
  pub apart_law : (a b x : ℕ) → U a → U b → Stands x (L a) → Stands x (L b) → a ≡ b
  apart_law a b x ua ub = ring_apart a b x (M.anchors a ua).0 (M.anchors b ub).0 (M.ring a ua) (M.ring b ub)

  -- an id with the link 0 is in no line
  pub loose_law : (i a : ℕ) → U a → get_or nx i 0 ≡ 0 → Out i (L a)
  loose_law i a u z = let R = M.ring a u in let h = M.anchors a u in (never nx n i a (L a) a z (omega arith) R.ids R.forth).1

  -- and only such an id is
  pub free_law : (i : ℕ) → IsId n i → (get_or nx i 0 ≡ 0) ↔ ((a : ℕ) → U a → Out i (L a))
  free_law i h = (
    (λ z a u. loose_law i a u z),
    (λ f. elim (ℕ_discrete (get_or nx i 0) 0) [ yes z ↦ z | no z ↦ let r = M.home i h z in absurd (stands_out i (L r.0) r.2 (f r.0 r.1)) ]),
  )

  -- the first of a line
  pub first_law : (a : ℕ) → U a → first_of nx a ≡ head_of (L a) 0
  unfolding first_of
  first_law a u = let R = M.ring a u in go (L a) (head_link nx a (L a) a R.forth) R.ids
    where
      go : (xs : List ℕ) → get_or nx a 0 ≡ head_of xs a → All (IsId n) xs → cond (eqb (get_or nx a 0) a) 0 (get_or nx a 0) ≡ head_of xs 0
      go [] e k = rw (eq-eqb (get_or nx a 0) a e)
      go (x ∷ xs) e k = let h = M.anchors a u in rw (ne_eqb (get_or nx a 0) a (λ z. omega arith)) e

  -- the next of an id is the one that follows it in its line, and the anchor where it is the last
  pub follow_law : (a : ℕ) (xs : List ℕ) (x : ℕ) (ys : List ℕ) → U a → L a ≡ xs ++ x ∷ ys → get_or nx x 0 ≡ head_of ys a
  follow_law a xs x ys u e = head_link nx x ys a (split nx a xs x ys a (rw e at (M.ring a u).forth)).1

  -- ---- the line of one anchor changes

  module _ (a : ℕ) (u : U a) where
    na : n < a
    na = (M.anchors a u).0

    al : a < length nx
    al = (M.anchors a u).1

    bl : a < length pv
    bl = rw M.same al

    R : Ring n nx pv a (L a)
    R = M.ring a u

    changed : (xs nx' pv' : List ℕ) → length nx' ≡ length nx → length pv' ≡ length pv → Ring n nx' pv' a xs
        → ((c : ℕ) → U c → c ≢ a → Ring n nx' pv' c (L c))
        → ((i : ℕ) → IsId n i → get_or nx' i 0 ≢ 0 → (c : ℕ) × U c × Stands i (upd L a xs c)) → Linked n U nx' pv' (upd L a xs)
    changed xs nx' pv' en ev ra rc home = record {
      anchors = λ c v. ((M.anchors c v).0, rw en (M.anchors c v).1);
      same = ev ∙ M.same ∙ sym en;
      ring = λ c v. upd_at L a xs (Ring n nx' pv' c) c (λ e. subst (λ (j : ℕ). Ring n nx' pv' j xs) (sym e) ra) (rc c v);
      home = home;
    }

    -- id, which is in no line, is put last
    pub push_law : (id : ℕ) → IsId n id → get_or nx id 0 ≡ 0 → Linked n U (push_next nx pv a id) (push_prev pv a id) (upd L a (L a ++ id ∷ []))
    unfolding push_next push_prev
    push_law id hi z =
        rw at_pv (changed (L a ++ id ∷ []) nx' pv' (simp length-set) (simp length-set) (record {
          ids = all_join _ (L a) (id ∷ []) R.ids (hi, tt);
          forth = insert n nx a na al id hi (L a) [] (rw append-nil (out a u)) (rw append-nil R.ids) (rw append-nil R.forth);
          back = subst (λ (v : ℕ). Seg (set (set pv id v) a id) a (reverse (L a ++ id ∷ [])) a) (head_reverse a (L a))
              (rw (reverse_mid (L a) id []) (insert n pv a na bl id hi [] (reverse (L a)) (all_reverse _ (L a) (out a u)) (all_reverse _ (L a) R.ids) R.back));
        }) (λ c v ne. let S = M.ring c v in record {
          ids = S.ids;
          forth = insert_other n nx a na al id a hi (L a) [] (rw append-nil R.ids) (rw append-nil R.forth) c (L c) (M.anchors c v).0 ne (out c v) S.ids S.forth;
          back = insert_other n pv a na bl id (last_of a (L a)) hi [] (reverse (L a)) (all_reverse _ (L a) R.ids) R.back c (reverse (L c)) (M.anchors c v).0 ne (all_reverse _ (L c) (out c v)) (all_reverse _ (L c) S.ids) S.back;
        }) home)
      where
        out : (c : ℕ) → U c → Out id (L c)
        out c v = loose_law id c v z

        at_pv : get_or pv a 0 ≡ last_of a (L a)
        at_pv = head_link pv a (reverse (L a)) a R.back ∙ head_reverse a (L a)

        nx' : List ℕ
        nx' = set (set nx id a) (last_of a (L a)) id

        pv' : List ℕ
        pv' = set (set pv id (last_of a (L a))) a id

        home : (i : ℕ) → IsId n i → get_or nx' i 0 ≢ 0 → (c : ℕ) × U c × Stands i (upd L a (L a ++ id ∷ []) c)
        home i h w = elim (ℕ_discrete i id) [
          | yes e ↦ (a, u, rw (upd_same L a (L a ++ id ∷ [])) (stands_right_lem i (L a) (id ∷ []) (inl (sym e))))
          | no ne ↦
              let r = M.home i h (had_link nx id a (last_of a (L a)) id i (rw (last_link nx a (L a) a R.forth) (λ q. omega (arith, na))) ne w) in
              (r.0, r.1, upd_at L a (L a ++ id ∷ []) (Stands i) r.0 (λ e. stands_left i (L a) (id ∷ []) (subst (λ (j : ℕ). Stands i (L j)) e r.2)) (λ _. r.2))
        ]

    -- x is taken out of the line
    pull_law : (xs : List ℕ) (x : ℕ) (ys : List ℕ) → L a ≡ xs ++ x ∷ ys → Linked n U (bridged nx pv x) (bridged pv nx x) (upd L a (xs ++ ys))
    pull_law xs x ys eq =
        changed (xs ++ ys) (bridged nx pv x) (bridged pv nx x) (unfold bridged in simp length-set) (unfold bridged in simp length-set) (record {
          ids = all_join _ xs ys (all_left _ xs (x ∷ ys) k) ky.1;
          forth = bridge n nx a na al pv xs x ys k s at_pv;
          back = rw reverse-append (bridge n pv a na bl nx (reverse ys) x (reverse xs) kr sr at_nx);
        }) (λ c v ne. let S = M.ring c v in record {
          ids = S.ids;
          forth = bridge_other n nx a na al pv xs x ys k s at_pv c (L c) (M.anchors c v).0 ne S.ids S.forth;
          back = bridge_other n pv a na bl nx (reverse ys) x (reverse xs) kr sr at_nx c (reverse (L c)) (M.anchors c v).0 ne (all_reverse _ (L c) S.ids) S.back;
        }) home
      where
        k : All (IsId n) (xs ++ x ∷ ys)
        k = rw eq at R.ids

        ky : All (IsId n) (x ∷ ys)
        ky = all_right _ xs (x ∷ ys) k

        s : Seg nx a (xs ++ x ∷ ys) a
        s = rw eq at R.forth

        turned : reverse (L a) ≡ reverse ys ++ x ∷ reverse xs
        turned = ap reverse eq ∙ reverse_mid xs x ys

        kr : All (IsId n) (reverse ys ++ x ∷ reverse xs)
        kr = subst (All (IsId n)) turned (all_reverse _ (L a) R.ids)

        sr : Seg pv a (reverse ys ++ x ∷ reverse xs) a
        sr = subst (λ (l : List ℕ). Seg pv a l a) turned R.back

        at_nx : get_or nx x 0 ≡ last_of a (reverse ys)
        at_nx = head_link nx x ys a (split nx a xs x ys a s).1 ∙ sym (last_reverse a ys)

        at_pv : get_or pv x 0 ≡ last_of a xs
        at_pv = head_link pv x (reverse xs) a (split pv a (reverse ys) x (reverse xs) a sr).1 ∙ head_reverse a xs

        home : (i : ℕ) → IsId n i → get_or (bridged nx pv x) i 0 ≢ 0 → (c : ℕ) × U c × Stands i (upd L a (xs ++ ys) c)
        home i h w = elim (ℕ_discrete i x) [
          | yes e ↦ absurd (w (subst (λ (j : ℕ). get_or (bridged nx pv x) j 0 ≡ 0) (sym e) (bridge_free n nx a na al pv xs x ys k s at_pv)))
          | no ne ↦
              let r = M.home i h (had i ne w) in
              (r.0, r.1, upd_at L a (xs ++ ys) (Stands i) r.0 (λ e. others i ne (subst (Stands i) (ap L e ∙ eq) r.2)) (λ _. r.2))
        ]
          where
            others : (i : ℕ) → i ≢ x → Stands i (xs ++ x ∷ ys) → Stands i (xs ++ ys)
            others i ne t = elim (stands_cases i xs (x ∷ ys) t) [ inl q ↦ stands_left i xs ys q | inr (inl q) ↦ absurd (ne (sym q)) | inr (inr q) ↦ stands_right_lem i xs ys q ]

            had : (i : ℕ) → i ≢ x → get_or (bridged nx pv x) i 0 ≢ 0 → get_or nx i 0 ≢ 0
            had i ne w = had_link nx x 0 (get_or pv x 0) (get_or nx x 0) i (rw (at_pv, last_link nx a xs x (split nx a xs x ys a s).0) (λ q. omega (arith, ky.0))) ne (unfold bridged in w)

  -- ---- an id leaves the line that it is in, if any

  module _ (t : ℕ) (h : IsId n t) where
    stays : get_or nx t 0 ≡ 0 → Linked n U nx pv (λ a. without t (L a))
    stays z = linked_ext M (λ a. without t (L a)) (λ a u. sym (without_out t (L a) (loose_law t a u z)))

    goes : get_or nx t 0 ≢ 0 → Linked n U (bridged nx pv t) (bridged pv nx t) (λ a. without t (L a))
    goes z =
        let o = M.home t h z in
        let r = stands_split t (L o.0) o.2 in
        let d : Distinct (r.0 ++ t ∷ r.1) = rw r.2 at (once_law o.0 o.1) in
        linked_ext (pull_law o.0 o.1 r.0 t r.1 r.2) (λ a. without t (L a)) (λ b w. upd_at L o.0 (r.0 ++ r.1) (λ l. l ≡ without t (L b)) b
        (λ e. sym (without_mid t r.0 r.1 d) ∙ ap (without t) (sym r.2) ∙ ap (λ (j : ℕ). without t (L j)) (sym e))
        (λ ne. sym (without_out t (L b) (elim (stands_or_out t (L b)) [ inl s ↦ absurd (ne (apart_law b o.0 t w o.1 s o.2)) | inr q ↦ q ]))))

    pub leave_law : Linked n U (left_next nx pv t) (left_prev nx pv t) (λ a. without t (L a))
    unfolding left_next left_prev
    leave_law = go (eqb (get_or nx t 0) 0) refl
      where
        go : (x : Bool) → eqb (get_or nx t 0) 0 ≡ x → Linked n U (cond x nx (bridged nx pv t)) (cond x pv (bridged pv nx t)) (λ a. without t (L a))
        go true e = stays (eqb-true (get_or nx t 0) 0 e)
        go false e = goes (eqb-false (get_or nx t 0) 0 e)

-- and then has the link 0
pub left_free : {n : ℕ} {U : ℕ → Type 0} {nx pv : List ℕ} {L : ℕ → List ℕ} → Linked n U nx pv L → (t : ℕ) → IsId n t → get_or (left_next nx pv t) t 0 ≡ 0
left_free {L} M t h = (free_law (leave_law M t h) t h).1 (λ a u. out_without t (L a))

-- ---- anchors are set up

module _ {n : ℕ} {U : ℕ → Type 0} {nx pv : List ℕ} where
  -- no id has a link, and each anchor points to itself
  pub blank_law : ((a : ℕ) → U a → (n < a) × (a < length nx)) → length pv ≡ length nx → ((i : ℕ) → IsId n i → get_or nx i 0 ≡ 0)
      → ((a : ℕ) → U a → (get_or nx a 0 ≡ a) × (get_or pv a 0 ≡ a)) → Linked n U nx pv (λ _. [])
  blank_law h e z s = record {
    anchors = h;
    same = e;
    ring = λ a u. record { ids = tt; forth = (s a u).0; back = (s a u).1 };
    home = λ i k w. absurd (w (z i k));
  }
