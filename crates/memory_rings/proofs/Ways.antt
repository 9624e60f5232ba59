-- One link table: ways of ids from node to node, what a store leaves of them, and how a ring gains and loses a node. Assumes nothing.
use Prim.Native.Nat.{ℕ, zero, suc, ◌≤◌, ◌<◌}
use mathlib.Core.Path.{◌≡◌, refl, sym, ap, ◌∙◌, subst}
use mathlib.Core.Logic.{◌≢◌}
use mathlib.Core.List.{List, [], ◌∷◌, ◌++◌, append-nil}
use native.Mathlib.Omega.{arith}
use native.Mathlib.Decide.{ℕ_discrete}
use lib.ListN.{get_or, set, length, length-set}
use lib.Seq.{get_or-set_same, get_or-set_other}
use borrow.Author.Tests.{le-leb, eq-eqb, ne_eqb}
use Rattle.memory_rings.specs.Links.{bridged}
use Rattle.memory_rings.specs.Rings.{IsId, All, Out, Distinct, head_of, last_of, Seg, walk}
use Rattle.memory_rings.proofs.Lists.{all_left, all_right, out_ids, out_last, last_le, dist_left, out_mid}

module _ (l : List ℕ) where
  -- ---- ways

  pub join : (a : ℕ) (xs : List ℕ) (y : ℕ) (ys : List ℕ) (b : ℕ) → Seg l a xs y → Seg l y ys b → Seg l a (xs ++ y ∷ ys) b
  join a [] y ys b s t = (s, t)
  join a (x ∷ xs) y ys b s t = (s.0, join x xs y ys b s.1 t)

  pub split : (a : ℕ) (xs : List ℕ) (y : ℕ) (ys : List ℕ) (b : ℕ) → Seg l a (xs ++ y ∷ ys) b → Seg l a xs y × Seg l y ys b
  split a [] y ys b s = (s.0, s.1)
  split a (x ∷ xs) y ys b s = let r = split x xs y ys b s.1 in ((s.0, r.0), r.1)

  pub last_link : (a : ℕ) (xs : List ℕ) (b : ℕ) → Seg l a xs b → get_or l (last_of a xs) 0 ≡ b
  last_link a [] b s = s
  last_link a (x ∷ xs) b s = last_link x xs b s.1

  pub last_way : (a : ℕ) (xs ys : List ℕ) (b : ℕ) → Seg l a (xs ++ ys) b → Seg l (last_of a xs) ys b
  last_way a [] ys b s = s
  last_way a (x ∷ xs) ys b s = last_way x xs ys b s.1

  pub head_link : (a : ℕ) (xs : List ℕ) (b : ℕ) → Seg l a xs b → get_or l a 0 ≡ head_of xs b
  head_link a [] b s = s
  head_link a (x ∷ xs) b s = s.0

  -- a store at a node that is not on the way
  pub keep : (i v a : ℕ) (xs : List ℕ) (b : ℕ) → a ≢ i → Out i xs → Seg l a xs b → Seg (set l i v) a xs b
  keep i v a [] b h o s = get_or-set_other l i a v 0 h ∙ s
  keep i v a (x ∷ xs) b h o s = (get_or-set_other l i a v 0 h ∙ s.0, keep i v x xs b o.0 o.1 s.1)

  -- a store at the last node makes the way lead to v
  pub turn : (v a : ℕ) (xs : List ℕ) (b : ℕ) → Out a xs → Distinct xs → last_of a xs < length l → Seg l a xs b → Seg (set l (last_of a xs) v) a xs v
  turn v a [] b o d h s = get_or-set_same l a v 0 h
  turn v a (x ∷ xs) b o d h s =
      (get_or-set_other l (last_of x xs) a v 0 (λ e. out_last a x xs o.0 o.1 (sym e)) ∙ s.0, turn v x xs b d.0 d.1 h s.1)

  -- ---- a way of ids to an anchor is determined by where it starts

  -- a node with the link 0 is on no way
  pub never : (n i a : ℕ) (xs : List ℕ) (b : ℕ) → get_or l i 0 ≡ 0 → 1 ≤ b → All (IsId n) xs → Seg l a xs b → (a ≢ i) × Out i xs
  never n i a [] b z h k s = ((λ e. let q : get_or l i 0 ≡ b = subst (λ (j : ℕ). get_or l j 0 ≡ b) e s in omega arith), tt)
  never n i a (x ∷ xs) b z h k s =
      ((λ e. let q : get_or l i 0 ≡ x = subst (λ (j : ℕ). get_or l j 0 ≡ x) e s.0 in omega arith), never n i x xs b z h k.1 s.1)

  -- two ways from one node are as long, and lead to one anchor
  det : (n a : ℕ) (xs ys : List ℕ) (b c : ℕ) → n < b → n < c → All (IsId n) xs → All (IsId n) ys → Seg l a xs b → Seg l a ys c → (length xs ≡ length ys) × (b ≡ c)
  det n a [] [] b c hb hc kx ky s t = (refl, sym s ∙ t)
  det n a [] (y ∷ ys) b c hb hc kx ky s t = absurd (omega arith)
  det n a (x ∷ xs) [] b c hb hc kx ky s t = absurd (omega arith)
  det n a (x ∷ xs) (y ∷ ys) b c hb hc kx ky s t =
      let r = det n y xs ys b c hb hc kx.1 ky.1 (subst (λ (j : ℕ). Seg l j xs b) (sym s.0 ∙ t.0) s.1) t.1 in
      (ap suc r.0, r.1)

  -- a node i with a way to c is on no way to b, unless b is c and that way is at least as long
  pub apart : (n i : ℕ) (ys : List ℕ) (c : ℕ) → n < c → All (IsId n) ys → Seg l i ys c
      → (a : ℕ) (xs : List ℕ) (b : ℕ) → n < b → All (IsId n) xs → Seg l a xs b → (c ≡ b → length xs < length ys) → (a ≢ i) × Out i xs
  apart n i ys c hc ky t a [] b hb kx s f =
      ((λ e. let r = det n i [] ys b c hb hc tt ky (subst (λ (j : ℕ). get_or l j 0 ≡ b) e s) t in omega (arith, f (sym r.1))), tt)
  apart n i ys c hc ky t a (x ∷ xs) b hb kx s f = (
    (λ e. let r = det n i (x ∷ xs) ys b c hb hc kx ky (subst (λ (j : ℕ). Seg l j (x ∷ xs) b) e s) t in omega (arith, f (sym r.1))),
    apart n i ys c hc ky t x xs b hb kx.1 s.1 (λ e. omega (arith, f e)),
  )

  pub fresh : (n a : ℕ) (xs : List ℕ) (b : ℕ) → n < b → All (IsId n) xs → Seg l a xs b → Out a xs
  fresh n a [] b hb k s = tt
  fresh n a (x ∷ xs) b hb k s = apart n a (x ∷ xs) b hb k s x xs b hb k.1 s.1 (λ e. omega arith)

  pub distinct : (n a : ℕ) (xs : List ℕ) (b : ℕ) → n < b → All (IsId n) xs → Seg l a xs b → Distinct xs
  distinct n a [] b hb k s = tt
  distinct n a (x ∷ xs) b hb k s = (fresh n x xs b hb k.1 s.1, distinct n x xs b hb k.1 s.1)

  -- the walk finds the way
  pub walk_way : (k n a : ℕ) (xs : List ℕ) (b : ℕ) → length xs ≤ k → n < b → All (IsId n) xs → Seg l a xs b → walk k n l b (get_or l a 0) ≡ xs
  unfolding walk
  walk_way zero n a [] b h nb i s = refl
  walk_way (suc k) n a [] b h nb i s = rw (s, eq-eqb b b refl)
  walk_way zero n a (x ∷ xs) b h nb i s = absurd (omega arith)
  walk_way (suc k) n a (x ∷ xs) b h nb i s =
      rw (s.0, ne_eqb x b (λ e. omega (arith, i.0.1)), le-leb 1 x i.0.0, le-leb x n i.0.1) (ap (λ (r : List ℕ). x ∷ r) (walk_way k n x xs b (omega arith) nb i.1 s.1))

-- ---- a ring gains a node, or loses one; the other rings stay

module _ (n : ℕ) (l : List ℕ) (a : ℕ) (na : n < a) (al : a < length l) where
  -- id is put between xs and ys
  pub insert : (id : ℕ) → IsId n id → (xs ys : List ℕ) → Out id (xs ++ ys) → All (IsId n) (xs ++ ys) → Seg l a (xs ++ ys) a
      → Seg (set (set l id (head_of ys a)) (last_of a xs) id) a (xs ++ id ∷ ys) a
  insert id hi xs ys o k s = go ys refl
    where
      ox : Out id xs
      ox = all_left _ xs ys o

      kx : All (IsId n) xs
      kx = all_left _ xs ys k

      at_id : (v : ℕ) → get_or (set (set l id v) (last_of a xs) id) id 0 ≡ v
      at_id v =
          get_or-set_other (set l id v) (last_of a xs) id id 0 (λ e. out_last id a xs (λ e. omega arith) ox (sym e)) ∙ get_or-set_same l id v 0 (omega arith)

      up_to : (v b : ℕ) → Seg l a xs b → Seg (set (set l id v) (last_of a xs) id) a xs id
      up_to v b t =
          turn (set l id v) id a xs b (out_ids n a na xs kx) (dist_left xs ys (distinct l n a (xs ++ ys) a na k s))
          (simp length-set (omega (arith, last_le n a a xs (omega arith) (omega arith) kx))) (keep l id v a xs b (λ e. omega arith) ox t)

      go : (zs : List ℕ) → ys ≡ zs → Seg (set (set l id (head_of zs a)) (last_of a xs) id) a (xs ++ id ∷ zs) a
      go [] e = join (set (set l id a) (last_of a xs) id) a xs id [] a (up_to a a (rw (e, append-nil) at s)) (at_id a)
      go (z ∷ zs) e =
          let st = split l a xs z zs a (rw e at s) in
          let kz : All (IsId n) (z ∷ zs) = all_right _ xs (z ∷ zs) (rw e at k) in
          let oz : Out id (z ∷ zs) = all_right _ xs (z ∷ zs) (rw e at o) in
          let op = fresh l n (last_of a xs) (z ∷ zs) a na kz (last_link l a xs z st.0, st.1) in
          join (set (set l id z) (last_of a xs) id) a xs id (z ∷ zs) a (up_to z z st.0)
          (at_id z, keep (set l id z) (last_of a xs) id z zs a op.0 op.1 (keep l id z z zs a oz.0 oz.1 st.1))

  pub insert_other : (id v : ℕ) → IsId n id → (xs ys : List ℕ) → All (IsId n) (xs ++ ys) → Seg l a (xs ++ ys) a
      → (b : ℕ) (zs : List ℕ) → n < b → b ≢ a → Out id zs → All (IsId n) zs → Seg l b zs b → Seg (set (set l id v) (last_of a xs) id) b zs b
  insert_other id v hi xs ys k s b zs nb ne o kz sz =
      let op = apart l n (last_of a xs) ys a na (all_right _ xs ys k) (last_way l a xs ys a s) b zs b nb kz sz (λ e. absurd (ne (sym e))) in
      keep (set l id v) (last_of a xs) id b zs b op.0 op.1 (keep l id v b zs b (λ e. omega arith) o sz)

  -- x is taken out from between xs and ys, by the table of the other direction
  module _ (back : List ℕ) (xs : List ℕ) (x : ℕ) (ys : List ℕ) (k : All (IsId n) (xs ++ x ∷ ys)) (s : Seg l a (xs ++ x ∷ ys) a) (eb : get_or back x 0 ≡ last_of a xs) where
    kx : All (IsId n) xs
    kx = all_left _ xs (x ∷ ys) k

    ky : All (IsId n) (x ∷ ys)
    ky = all_right _ xs (x ∷ ys) k

    st : Seg l a xs x × Seg l x ys a
    st = split l a xs x ys a s

    d : Distinct (xs ++ x ∷ ys)
    d = distinct l n a (xs ++ x ∷ ys) a na k s

    up_to : (v : ℕ) → Seg (set (set l x 0) (last_of a xs) v) a xs v
    up_to v =
        turn (set l x 0) v a xs x (out_ids n a na xs kx) (dist_left xs (x ∷ ys) d)
        (simp length-set (omega (arith, last_le n a a xs (omega arith) (omega arith) kx)))
        (keep l x 0 a xs x (λ e. omega (arith, ky.0)) (out_mid xs x ys d) st.0)

    rest : (zs : List ℕ) → ys ≡ zs → Seg (set (set l x 0) (last_of a xs) (head_of zs a)) a (xs ++ zs) a
    rest [] e = rw append-nil (up_to a)
    rest (z ∷ zs) e =
        let kz : All (IsId n) (z ∷ zs) = rw e at ky.1 in
        let sz : Seg l x (z ∷ zs) a = rw e at st.1 in
        let ox = fresh l n x (z ∷ zs) a na kz sz in
        let op = apart l n (last_of a xs) (x ∷ z ∷ zs) a na (ky.0, kz) (last_link l a xs x st.0, sz) z zs a na kz.1 sz.1 (λ e. omega arith) in
        join (set (set l x 0) (last_of a xs) z) a xs z zs a (up_to z)
        (keep (set l x 0) (last_of a xs) z z zs a op.0 op.1 (keep l x 0 z zs a ox.0 ox.1 sz.1))

    pub bridge : Seg (bridged l back x) a (xs ++ ys) a
    unfolding bridged
    bridge = rw (eb, head_link l x ys a st.1) (rest ys refl)

    pub bridge_other : (b : ℕ) (zs : List ℕ) → n < b → b ≢ a → All (IsId n) zs → Seg l b zs b → Seg (bridged l back x) b zs b
    unfolding bridged
    bridge_other b zs nb ne kz sz =
        let ox = apart l n x ys a na ky.1 st.1 b zs b nb kz sz (λ e. absurd (ne (sym e))) in
        let op = apart l n (last_of a xs) (x ∷ ys) a na ky (last_link l a xs x st.0, st.1) b zs b nb kz sz (λ e. absurd (ne (sym e))) in
        rw eb (keep (set l x 0) (last_of a xs) (get_or l x 0) b zs b op.0 op.1 (keep l x 0 b zs b ox.0 ox.1 sz))

    -- x has no link then
    pub bridge_free : get_or (bridged l back x) x 0 ≡ 0
    unfolding bridged
    bridge_free =
        rw eb (get_or-set_other (set l x 0) (last_of a xs) x (get_or l x 0) 0 (λ e. out_last x a xs (λ e. omega (arith, ky.0)) (out_mid xs x ys d) (sym e))
        ∙ get_or-set_same l x 0 0 (omega (arith, ky.0)))

-- after two stores, the second at a node that had a link, no node but the first store's has a link that it had not
pub had_link : (l : List ℕ) (x v p w i : ℕ) → get_or l p 0 ≢ 0 → i ≢ x → get_or (set (set l x v) p w) i 0 ≢ 0 → get_or l i 0 ≢ 0
had_link l x v p w i hp ne h z = elim (ℕ_discrete i p) [
  | yes e ↦ hp (subst (λ (j : ℕ). get_or l j 0 ≡ 0) e z)
  | no np ↦ h (get_or-set_other (set l x v) p i w 0 np ∙ get_or-set_other l x i v 0 ne ∙ z)
]
