-- A recorder takes a recorded run byte by byte, as it comes, and then its end. What it says of each byte and of the end are the items that they complete.
use Rattle.std.specs.Prelude.{Bool, true, false, cond, List, [], ◌∷◌, ◌++◌, ℕ, zero, suc, ◌+◌, ◌*◌, ◌/◌, leb, length}
use Rattle.rules.specs.Setup.{Fault, S1, S2, S3, S4, Read, got, refused}
use Rattle.run_reading.specs.Recorded.{Head, read_head, event_bytes, event_in, Item, begins, occurs, refuses}

-- The bytes of setup and count so far; or how many events are to come, the number and the place of the next one, and its bytes so far; or the run was
-- refused; or its end has come.
pub data Recorder : Type 0 where
  heading : List ℕ → Recorder
  running : ℕ → ℕ → ℕ → List ℕ → Recorder
  stopped : Recorder
  ended : Recorder

abbrev pub begun : Recorder
begun = heading []

-- nothing more is taken
abbrev pub closed : Recorder → Bool
closed (heading l) = false
closed (running n number place l) = false
closed stopped = true
closed ended = true

-- the end has come
abbrev pub is_ended : Recorder → Bool
is_ended (heading l) = false
is_ended (running n number place l) = false
is_ended stopped = false
is_ended ended = true

-- ---- a byte

-- what it leaves, and what it completes
pub record Fed : Type 0 where
  pub next : Recorder
  pub items : List Item

abbrev pub fed : Recorder → List Item → Fed
fed r l = record { next = r; items = l }

-- S1 means here that more is to come; any other fault is final
abbrev pub on_fault : List ℕ → Fault → ℕ → Fed
on_fault l S1 place = fed (heading l) []
on_fault l S2 place = fed stopped (refuses S2 place ∷ [])
on_fault l S3 place = fed stopped (refuses S3 place ∷ [])
on_fault l S4 place = fed stopped (refuses S4 place ∷ [])

abbrev pub on_head : List ℕ → Read Head → Fed
on_head l (got h i) = fed (running h.events 1 i []) (begins h ∷ [])
on_head l (refused f place) = on_fault l f place

-- setup and count are judged after each byte; an event is whole with its last byte; a byte behind the last event is left over
unfoldable pub eat : Recorder → ℕ → Fed
eat (heading l) b = on_head (l ++ (b ∷ [])) (read_head (l ++ (b ∷ [])))
eat (running zero number place l) b = fed stopped (refuses S4 place ∷ [])
eat (running (suc n) number place l) b =
    cond (leb event_bytes (length (l ++ (b ∷ []))))
    (fed (running n (suc number) (place + event_bytes) []) (occurs number (event_in (l ++ (b ∷ []))) ∷ []))
    (fed (running (suc n) number place (l ++ (b ∷ []))) [])
eat stopped b = fed stopped []
eat ended b = fed ended []

-- ---- a part

unfoldable pub items : Recorder → List ℕ → List Item
items r [] = []
items r (b ∷ s) = (eat r b).items ++ items (eat r b).next s

unfoldable pub after : Recorder → List ℕ → Recorder
after r [] = r
after r (b ∷ s) = after (eat r b).next s

-- ---- the end of the input, after which a recorder is `ended`

abbrev pub on_end : Read Head → List Item
on_end (got h i) = []
on_end (refused f place) = refuses f place ∷ []

unfoldable pub at_input_end : Recorder → List Item
at_input_end (heading l) = on_end (read_head l)
at_input_end (running zero number place l) = []
at_input_end (running (suc n) number place l) = refuses S1 (place + 4 * (length l / 4)) ∷ []
at_input_end stopped = []
at_input_end ended = []

-- ---- parts, each from what the last one left

unfoldable pub items_in : Recorder → List (List ℕ) → List Item
items_in r [] = []
items_in r (s ∷ l) = items r s ++ items_in (after r s) l

unfoldable pub after_all : Recorder → List (List ℕ) → Recorder
after_all r [] = r
after_all r (s ∷ l) = after_all (after r s) l
