-- What each function makes of the links, for any links: of two tables, the next and the previous node of each node; and of the one
-- list that holds both, the next nodes in its first half and the previous nodes in its second.
use Rattle.std.specs.Prelude.{ℕ, ◌/◌, cond, List, eqb, length, get_or, set}
use Rattle.memory_rings.specs.Columns.{col, store}

-- ---- two tables

-- id comes to stand between the last of the ring of anchor a and a
unfoldable pub push_next : List ℕ → List ℕ → ℕ → ℕ → List ℕ
push_next nx pv a id = set (set nx id a) (get_or pv a 0) id

unfoldable pub push_prev : List ℕ → ℕ → ℕ → List ℕ
push_prev pv a id = set (set pv id (get_or pv a 0)) a id

-- the neighbours of id point to one another; one rule for both directions
unfoldable pub bridged : List ℕ → List ℕ → ℕ → List ℕ
bridged l back id = set (set l id 0) (get_or back id 0) (get_or l id 0)

unfoldable pub left_next : List ℕ → List ℕ → ℕ → List ℕ
left_next nx pv id = cond (eqb (get_or nx id 0) 0) nx (bridged nx pv id)

unfoldable pub left_prev : List ℕ → List ℕ → ℕ → List ℕ
left_prev nx pv id = cond (eqb (get_or nx id 0) 0) pv (bridged pv nx id)

-- the first of the ring of a, 0 where a points to itself
unfoldable pub first_of : List ℕ → ℕ → ℕ
first_of nx a = cond (eqb (get_or nx a 0) a) 0 (get_or nx a 0)

-- ---- one list

abbrev pub half : List ℕ → ℕ
half l = length l / 2

unfoldable pub nexts : List ℕ → List ℕ
nexts l = col 0 (half l) l

unfoldable pub prevs : List ℕ → List ℕ
prevs l = col (half l) (half l) l

abbrev pub next_of : List ℕ → ℕ → ℕ
next_of l i = get_or (nexts l) i 0

abbrev pub prev_of : List ℕ → ℕ → ℕ
prev_of l i = get_or (prevs l) i 0

unfoldable pub set_next : ℕ → ℕ → List ℕ → List ℕ
set_next i v l = store 0 (half l) i v l

unfoldable pub set_prev : ℕ → ℕ → List ℕ → List ℕ
set_prev i v l = store (half l) (half l) i v l

unfoldable pub pushed : ℕ → ℕ → List ℕ → List ℕ
pushed a id l = set_prev a id (set_prev id (prev_of l a) (set_next (prev_of l a) id (set_next id a l)))

-- the id's own links are cleared first: a damaged table may name it as its own neighbour
unfoldable pub pulled : ℕ → List ℕ → List ℕ
pulled id l = set_prev (next_of l id) (prev_of l id) (set_prev id 0 (set_next (prev_of l id) (next_of l id) (set_next id 0 l)))

unfoldable pub left : ℕ → List ℕ → List ℕ
left id l = cond (eqb (next_of l id) 0) l (pulled id l)

unfoldable pub cleared : ℕ → List ℕ → List ℕ
cleared a l = set_prev a a (set_next a a l)
