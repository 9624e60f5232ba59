-- Anchored rings over two link tables. Nodes 1 to n are ids, the nodes above n are anchors, one for each queue; an anchor's ring holds
-- the queue's ids in order and comes back to the anchor.
use Rattle.std.specs.Prelude.{ℕ, zero, suc, ◌≤◌, ◌<◌, ◌≡◌, cond, ◌&&◌, ◌⊎◌, ◌≢◌, List, [], ◌∷◌, reverse, eqb, leb, length, get_or}

-- ---- lists of nodes

abbrev pub IsId : ℕ → ℕ → Type 0
IsId n x = (1 ≤ x) × (x ≤ n)

abbrev pub All : (ℕ → Type 0) → List ℕ → Type 0
All P [] = Unit {0}
All P (x ∷ xs) = P x × All P xs

-- i is none of xs
abbrev pub Out : ℕ → List ℕ → Type 0
Out i xs = All (λ x. x ≢ i) xs

-- i stands in xs
abbrev pub Stands : ℕ → List ℕ → Type 0
Stands i [] = ⊥
Stands i (x ∷ xs) = (x ≡ i) ⊎ Stands i xs

abbrev pub Distinct : List ℕ → Type 0
Distinct [] = Unit {0}
Distinct (x ∷ xs) = Out x xs × Distinct xs

-- the first of xs, d where there is none
abbrev pub head_of : List ℕ → ℕ → ℕ
head_of [] d = d
head_of (x ∷ xs) d = x

-- the last of a ∷ xs
abbrev pub last_of : ℕ → List ℕ → ℕ
last_of a [] = a
last_of a (x ∷ xs) = last_of x xs

-- xs without t
unfoldable pub without : ℕ → List ℕ → List ℕ
without t [] = []
without t (x ∷ xs) = cond (eqb x t) (without t xs) (x ∷ without t xs)

-- the lines L with xs for the line of a
unfoldable pub upd : (ℕ → List ℕ) → ℕ → List ℕ → ℕ → List ℕ
upd L a xs c = cond (eqb c a) xs (L c)

-- ---- rings

-- the links l lead from node a over xs, in order, to node b
abbrev pub Seg : List ℕ → ℕ → List ℕ → ℕ → Type 0
Seg l a [] b = get_or l a 0 ≡ b
Seg l a (x ∷ xs) b = (get_or l a 0 ≡ x) × Seg l x xs b

-- the nodes from x on, up to anchor a, at most k of them; one that is no id is the last
unfoldable pub walk : ℕ → ℕ → List ℕ → ℕ → ℕ → List ℕ
walk zero n l a x = []
walk (suc k) n l a x = cond (eqb x a) [] (x ∷ cond (leb 1 x && leb x n) (walk k n l a (get_or l x 0)) [])

-- the line of anchor a as it is read off any table; one node more than there are ids, so that a way that does not come back shows an id twice
unfoldable pub line_of : ℕ → List ℕ → ℕ → List ℕ
line_of n nx a = walk (suc n) n nx a (get_or nx a 0)

-- the ring of anchor a holds the ids xs, forwards and backwards
pub record Ring (n : ℕ) (nx pv : List ℕ) (a : ℕ) (xs : List ℕ) : Type 0 where
  pub ids : All (IsId n) xs
  pub forth : Seg nx a xs a
  pub back : Seg pv a (reverse xs) a

-- The tables hold the lines L of the anchors in U, and every id that has a link stands in one of them.
pub record Linked (n : ℕ) (U : ℕ → Type 0) (nx pv : List ℕ) (L : ℕ → List ℕ) : Type 0 where
  pub anchors : (a : ℕ) → U a → (n < a) × (a < length nx)
  pub same : length pv ≡ length nx
  pub ring : (a : ℕ) → U a → Ring n nx pv a (L a)
  pub home : (i : ℕ) → IsId n i → get_or nx i 0 ≢ 0 → (a : ℕ) × U a × Stands i (L a)
