-- The survey of rings that may be damaged: it walks the rings of some anchors. Each id that it meets must belong to the ring's anchor and is
-- taken off a count; where as many ids have a home as are linked, and each is met, nothing is linked but what should be.
use Rattle.std.specs.Prelude.{ℕ, zero, suc, pred, ◌+◌, ◌-◌, ◌*◌, ◌/◌, ◌%◌, ◌^◌, ◌<◌, ◌≤◌, Bool, cond, not, ◌&&◌, List, [], ◌∷◌, length, drop, ◌==◌, nat_le, nat_lt, slice_index}
use Rattle.rules.specs.Ids.{of, once}
use Rattle.memory_rings.specs.Links.{half, nexts, prevs}
use Rattle.check_links.specs.declared.Table.{Table}
use Rattle.check_links.specs.declared.Table.TheVariants.{Homes, Masks}

-- how many of the ids 1 to n pass a test
unfoldable pub counted : ℕ → (ℕ → Bool) → ℕ
counted zero f = 0
counted (suc n) f = counted n f + once (f (suc n))

-- how many of the first n entries are not 0
abbrev pub filled : ℕ → List ℕ → ℕ
filled n l = counted n (λ i. not (of l i 0 == 0))

-- ---- tables: to whose ring each id belongs

-- a mask is one of 32 ids
abbrev pub bits : ℕ
bits = 32

abbrev pub is_set : ℕ → ℕ → Bool
is_set m k = (m / 2 ^ k) % 2 == 1

-- how many ids there are
abbrev pub ids_of : Table → List ℕ → ℕ
ids_of (Homes s) l = length l
ids_of Masks l = bits * length l

-- an id belongs to a ring
abbrev pub housed : Table → List ℕ → ℕ → Bool
housed (Homes s) l i = not (of l i 0 == 0)
housed Masks l i = is_set (slice_index l (pred i / bits)) (pred i % bits)

-- y is an id, and its home is v
unfoldable pub belongs : List ℕ → ℕ → ℕ → Bool
belongs l v y = nat_le 1 y && (nat_le y (length l) && of l y 0 == v)

-- y is one of the ids from p on that the mask m is of, and its bit is set
unfoldable pub marked : ℕ → ℕ → ℕ → Bool
marked m p y = nat_le p y && (nat_lt y (p + bits) && is_set m (y - p))

-- y is an id that belongs to the ring of anchor a, where p is the anchor of the first ring
abbrev pub owns : Table → List ℕ → ℕ → ℕ → ℕ → Bool
owns (Homes s) l p a y = belongs l (a - s) y
owns Masks l p a y = marked (slice_index l (a - p)) (bits * (a - p) + 1) y

-- the table has what is asked of the n anchors from p on, or of one of them
abbrev pub covers : Table → List ℕ → ℕ → ℕ → Bool
covers (Homes s) l p n = nat_le s p
covers Masks l p n = nat_le n (length l)

abbrev pub Covered : Table → List ℕ → ℕ → ℕ → Type 0
Covered (Homes s) l p a = s ≤ a
Covered Masks l p a = (p ≤ a) × (a - p < length l)

-- ids are counted in words of 32 bits
abbrev pub most_entries : ℕ
most_entries = 134217727

-- ---- a budget: one more than the ids that are still to be met, 0 once something is wrong

-- The ring of anchor a from node x on, whose ids pass the test f: what it leaves of a budget. Each id takes one; the last one is never taken.
unfoldable pub toured : ℕ → (ℕ → Bool) → List ℕ → List ℕ → ℕ → ℕ → ℕ
toured zero f nx pv a x = 0
toured (suc k) f nx pv a x =
    cond (slice_index nx x == a) (cond (slice_index pv a == x) (suc k) 0)
    (cond (f (slice_index nx x)) (cond (slice_index pv (slice_index nx x) == x) (toured k f nx pv a (slice_index nx x)) 0) 0)

-- the rings of the anchors qs, one after the other; the ids in the ring of anchor a pass the test f a
unfoldable pub surveyed : (ℕ → ℕ → Bool) → List ℕ → List ℕ → List ℕ → ℕ → ℕ
surveyed f nx pv [] k = k
surveyed f nx pv (a ∷ qs) k = surveyed f nx pv qs (toured k (f a) nx pv a a)

-- k nodes from a on
unfoldable pub from : ℕ → ℕ → List ℕ
from a zero = []
from a (suc k) = a ∷ from (suc a) k

-- the rings of the n anchors from p on; anchors and ids are nodes, and the table t of entries l tells whose ids they are
unfoldable pub ranged : List ℕ → Table → List ℕ → ℕ → ℕ → ℕ → ℕ
ranged ls t l p n k =
    cond (nat_le (length l) most_entries && (nat_lt (ids_of t l) (half ls) && (nat_le (p + n) (half ls) && covers t l p n)))
    (surveyed (owns t l p) (nexts ls) (prevs ls) (from p n) k) 0

-- the budget of the ids that belong to a ring, where just as many are linked
unfoldable pub budget : List ℕ → Table → List ℕ → ℕ
budget ls t l =
    cond (nat_le (length l) most_entries && nat_lt (ids_of t l) (length ls))
    (cond (filled (ids_of t l) (drop 1 ls) == counted (ids_of t l) (housed t l)) (suc (counted (ids_of t l) (housed t l))) 0) 0
