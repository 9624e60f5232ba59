-- Rings made of given lines. Each node's link is found in the line of the queue in which the node stands, so the table leads along that line; the
-- previous nodes are the next nodes of the lines turned round. Assumes nothing.
use mathlib.Core.List.{List, [], ◌∷◌, ◌++◌, reverse, reverse-cons}
use mathlib.Core.Logic.{◌≢◌, ◌⊎◌, inl, inr}
use mathlib.Core.Option.{Option, none, some}
use mathlib.Core.Path.{◌≡◌, refl, sym, ap, ◌∙◌, subst}
use Prim.Native.Nat.{ℕ, ◌≤◌, ◌<◌}
use native.Mathlib.Omega.{arith}
use native.Mathlib.Decide.{dec_le, ℕ_discrete}
use lib.ListN.{length, get_or}
use lib.Seq.{append_snoc}
use borrow.Author.Tests.{eq-eqb, ne_eqb, le-leb, lt-leb}
use Rattle.rules.specs.Places.{Place}
use Rattle.memory_rings.specs.Rings.{IsId, All, Out, Stands, Distinct, head_of, Seg, line_of, Ring, Linked}
use Rattle.memory_rings.proofs.Lists.{all_reverse, all_at, all_of, stands_cases, dist_join, out_mid}
use Rattle.memory_rings.proofs.Laws.{linked_ext, line_is}
use Rattle.memory_picture.specs.Picture.{anchor}
use Rattle.memory_picture.specs.Form.{following, id_link, link, run}
use Rattle.memory_picture.proofs.FormPile.{length_run, run_at}

-- ---- a list turned round

stands_reverse : (i : ℕ) (xs : List ℕ) → Stands i (reverse xs) → Stands i xs
stands_reverse i [] s = s
stands_reverse i (x ∷ xs) s = go (stands_cases i (reverse xs) (x ∷ []) (rw reverse-cons at s)) (stands_reverse i xs)
  where
    go : Stands i (reverse xs) ⊎ Stands i (x ∷ []) → (Stands i (reverse xs) → Stands i xs) → Stands i (x ∷ xs)
    go (inl t) h = inr (h t)
    go (inr (inl e)) h = inl e
    go (inr (inr f)) h = absurd f

distinct_reverse : (xs : List ℕ) → Distinct xs → Distinct (reverse xs)
distinct_reverse [] d = tt
distinct_reverse (x ∷ xs) d =
    rw reverse-cons (dist_join (reverse xs) (x ∷ []) (distinct_reverse xs d.1) (tt, tt)
    (λ i s. ((λ e. all_at (λ y. y ≢ x) xs i (stands_reverse i xs s) d.0 (sym e)), tt)))

-- ---- what follows

following_mid : (pre : List ℕ) (x : ℕ) (ys : List ℕ) (d : ℕ) → Out x pre → following x (pre ++ x ∷ ys) d ≡ head_of ys d
unfolding following
following_mid [] x ys d o = rw (eq-eqb x x refl)
following_mid (p ∷ pre) x ys d o = rw (ne_eqb p x o.0) (following_mid pre x ys d o.1)

module _ (l : List ℕ) (a : ℕ) where
  way_on : (pre : List ℕ) (x : ℕ) (ys : List ℕ) → Distinct (pre ++ x ∷ ys) → All (λ z. get_or l z 0 ≡ following z (pre ++ x ∷ ys) a) (x ∷ ys) → Seg l x ys a
  way_on pre x [] d h = h.0 ∙ following_mid pre x [] a (out_mid pre x [] d)
  way_on pre x (y ∷ ys) d h =
      let e = append_snoc pre x (y ∷ ys) in (
        h.0 ∙ following_mid pre x (y ∷ ys) a (out_mid pre x (y ∷ ys) d),
        way_on (pre ++ (x ∷ [])) y ys (subst Distinct (sym e) d) (subst (λ (m : List ℕ). All (λ z. get_or l z 0 ≡ following z m a) (y ∷ ys)) (sym e) h.1),
      )

  way : (xs : List ℕ) → Distinct xs → get_or l a 0 ≡ head_of xs a → All (λ z. get_or l z 0 ≡ following z xs a) xs → Seg l a xs a
  way [] d e h = e
  way (x ∷ xs) d e h = (e, way_on [] x xs d h)

module _ (B : ℕ) where
  head_below : (xs : List ℕ) (d : ℕ) → All (λ y. y < B) xs → d < B → head_of xs d < B
  head_below [] d h r = r
  head_below (x ∷ xs) d h r = h.0

  following_below : (x : ℕ) (xs : List ℕ) (d : ℕ) → All (λ y. y < B) xs → d < B → following x xs d < B
  unfolding following
  following_below x [] d h r = r
  following_below x (y ∷ xs) d h r = elim (ℕ_discrete y x) [
    | yes e ↦ rw (eq-eqb y x e) (head_below xs d h.1 r)
    | no e ↦ rw (ne_eqb y x e) (following_below x xs d h.1 r)
  ]

-- ---- the tables

-- w nodes, n of them ids; `home` is an id's queue, `place` an anchor's. The lines of the queues in use hold distinct ids, and an id stands in
-- the line of its home.
pub record Housed (n w : ℕ) (home : ℕ → Option Place) (place : ℕ → Place) (Used : Place → Type 0) (L : Place → List ℕ) : Type 0 where
  pub room : n < w
  pub anchored : (q : Place) → Used q → (n < anchor q) × (anchor q < w)
  pub place_back : (q : Place) → Used q → place (anchor q) ≡ q
  pub known : (q : Place) → Used q → All (IsId n) (L q)
  pub apart : (q : Place) → Used q → Distinct (L q)
  pub at_home : (q : Place) → Used q → (i : ℕ) → Stands i (L q) → home i ≡ some q

-- a home is in use, and i stands in its line
abbrev pub Lives : (Place → Type 0) → (Place → List ℕ) → ℕ → Option Place → Type 0
Lives Used L i none = Unit {0}
Lives Used L i (some q) = Used q × Stands i (L q)

module _ {n w : ℕ} {home : ℕ → Option Place} {place : ℕ → Place} {Used : Place → Type 0} where
  turned : (L : Place → List ℕ) → Housed n w home place Used L → Housed n w home place Used (λ q. reverse (L q))
  turned L H = record {
    room = H.room;
    anchored = H.anchored;
    place_back = H.place_back;
    known = λ q u. all_reverse (IsId n) (L q) (H.known q u);
    apart = λ q u. distinct_reverse (L q) (H.apart q u);
    at_home = λ q u i s. H.at_home q u i (stands_reverse i (L q) s);
  }

  module _ (L : Place → List ℕ) (H : Housed n w home place Used L) (q : Place) (u : Used q) where
    id_link_lem : (i : ℕ) → Stands i (L q) → get_or (run w (link n home place L)) i 0 ≡ following i (L q) (anchor q)
    unfolding link
    id_link_lem i s =
        let k : IsId n i = all_at (IsId n) (L q) i s (H.known q u) in
        run_at w (link n home place L) i 0 (omega (arith, k.1, (H.anchored q u).0, (H.anchored q u).1)) ∙ rw (le-leb i n k.1, H.at_home q u i s)

    anchor_link : get_or (run w (link n home place L)) (anchor q) 0 ≡ head_of (L q) (anchor q)
    unfolding link
    anchor_link = run_at w (link n home place L) (anchor q) 0 (H.anchored q u).1 ∙ rw (lt-leb (anchor q) n (H.anchored q u).0, H.place_back q u)

    ring_way : Seg (run w (link n home place L)) (anchor q) (L q) (anchor q)
    ring_way = way (run w (link n home place L)) (anchor q) (L q) (H.apart q u) anchor_link (all_of _ (L q) id_link_lem)

  module _ (L : Place → List ℕ) (H : Housed n w home place Used L) (lives : (i : ℕ) → Lives Used L i (home i))
      (U : ℕ → Type 0) (from_place : (a : ℕ) → U a → (q : Place) × Used q × (anchor q ≡ a)) (to-place : (q : Place) → Used q → U (anchor q)) where
    abbrev next : List ℕ
    next = run w (link n home place L)

    abbrev prev : List ℕ
    prev = run w (link n home place (λ q. reverse (L q)))

    ring_at : (a : ℕ) (q : Place) → Used q → anchor q ≡ a → Ring n next prev a (L (place a))
    ring_at a q u e = subst (λ (c : ℕ). Ring n next prev c (L (place c))) e (rw (H.place_back q u) (record {
      ids = H.known q u;
      forth = ring_way L H q u;
      back = ring_way (λ q. reverse (L q)) (turned L H) q u;
    }))

    linked_places : Linked n U next prev (λ a. L (place a))
    unfolding link
    linked_places = record {
      anchors = λ a h. let r = from_place a h in between a (subst (λ (c : ℕ). (n < c) × (c < w)) r.2 (H.anchored r.0 r.1));
      same = length_run w (link n home place (λ q. reverse (L q))) ∙ sym (length_run w (link n home place L));
      ring = λ a h. let r = from_place a h in ring_at a r.0 r.1 r.2;
      home = λ i k. homed i (home i) (lives i) (run_at w (link n home place L) i 0 (omega (arith, k.1, H.room)) ∙ opened i k);
    }
      where
        between : (a : ℕ) → (n < a) × (a < w) → (n < a) × (a < length next)
        between a h = (h.0, rw (length_run w (link n home place L)) h.1)

        opened : (i : ℕ) → IsId n i → link n home place L i ≡ id_link L i (home i)
        opened i k = rw (le-leb i n k.1)

        homed : (i : ℕ) (h : Option Place) → Lives Used L i h → get_or next i 0 ≡ id_link L i h → get_or next i 0 ≢ 0 → (a : ℕ) × U a × Stands i (L (place a))
        homed i none t e ne = absurd (ne e)
        homed i (some q) t e ne = (anchor q, to-place q t.0, rw (H.place_back q t.0) t.1)

    -- every link is below a bound, if every entry of every line M is, and the nodes are
    pub link_below : (B : ℕ) → w ≤ B → (M : Place → List ℕ) → ((q : Place) → All (λ y. y < B) (M q)) → (x : ℕ) → x < w → link n home place M x < B
    unfolding link
    link_below B wB M h x r = elim (dec_le x n) [
      | yes k ↦ rw (le-leb x n k) (small (home x) (lives x))
      | no k ↦ rw (lt-leb x n (omega arith)) (head_below B (M (place x)) x (h (place x)) (omega arith))
    ]
      where
        small : (k : Option Place) → Lives Used L x k → id_link M x k < B
        small none f = omega (arith, H.room)
        small (some q) f = following_below B x (M q) (anchor q) (h q) (omega (arith, (H.anchored q f.0).1))

    -- the tables hold the lines that are read off them
    pub linked_lines : Linked n U next prev (line_of n next)
    linked_lines = linked_ext linked_places (line_of n next) (λ a h. sym (line_is linked_places a h))

    -- and these are the given ones
    pub line_back : (q : Place) → Used q → line_of n next (anchor q) ≡ L q
    line_back q u = line_is linked_places (anchor q) (to-place q u) ∙ ap L (H.place_back q u)
