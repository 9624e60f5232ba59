-- Tables that are read and written by id (ids count from 1), and lists of ids.
use Rattle.std.specs.Prelude.{Bool, true, false, cond, List, [], ◌∷◌, ℕ, zero, suc, ◌+◌, ◌≤◌, eqb, ltb, get_or, set}

module _ {ℓ} {A : Type ℓ} where
  -- the entry of an id, `d` for an id that has none
  abbrev pub of : List A → ℕ → A → A
  of l zero d = d
  of l (suc i) d = get_or l i d

  -- the table with another entry for an id; the same table for an id that has none
  abbrev pub put : List A → ℕ → A → List A
  put l zero a = l
  put l (suc i) a = set l i a

-- n numbers from k on
abbrev pub from : ℕ → ℕ → List ℕ
from k zero = []
from k (suc n) = k ∷ from (suc k) n

-- the ids 1 to n
unfoldable pub ids : ℕ → List ℕ
ids n = from 1 n

-- i is one of the ids 1 to n
abbrev pub In : ℕ → ℕ → Type 0
In i n = (1 ≤ i) × (i ≤ n)

-- P of each of a list
module _ {A : Type 0} where
  abbrev pub Each : (A → Type 0) → List A → Type 0
  Each P [] = Unit {0}
  Each P (x ∷ l) = P x × Each P l

-- those of a list that pass a test, in the list's order
unfoldable pub keep : (ℕ → Bool) → List ℕ → List ℕ
keep p [] = []
keep p (x ∷ l) = cond (p x) (x ∷ keep p l) (keep p l)

-- 1 for true, 0 for false
abbrev pub once : Bool → ℕ
once true = 1
once false = 0

-- how often i stands in a list
unfoldable pub times : ℕ → List ℕ → ℕ
times i [] = 0
times i (x ∷ l) = once (eqb x i) + times i l

-- the first of a list, 0 for an empty one (no id is 0)
abbrev pub first : List ℕ → ℕ
first [] = 0
first (x ∷ l) = x

-- the place of x in a list, counted from 1
abbrev pub place : ℕ → List ℕ → ℕ
place x [] = 0
place x (y ∷ l) = cond (eqb y x) 1 (suc (place x l))

-- a list by rising number: x goes before the first that has a larger one
abbrev pub insert : (ℕ → ℕ) → ℕ → List ℕ → List ℕ
insert number x [] = x ∷ []
insert number x (y ∷ l) = cond (ltb (number x) (number y)) (x ∷ y ∷ l) (y ∷ insert number x l)

unfoldable pub number_order : (ℕ → ℕ) → List ℕ → List ℕ
number_order number [] = []
number_order number (x ∷ l) = insert number x (number_order number l)
