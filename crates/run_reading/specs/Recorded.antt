-- A recorded run as bytes: the setup, then the count of events, then five words for each event, then nothing. What the bytes hold is a list of items in
-- their order. The first fault decides; its place is counted from the start of the input.
use Rattle.std.specs.Prelude.{cond, List, [], ◌∷◌, ℕ, zero, suc, ◌+◌, ◌-◌, ◌*◌, ◌/◌, ◌^◌, leb, ltb, ℤ, pos, negsuc, length, take, drop}
use Rattle.rules.specs.Setup.{Fault, S1, S2, S4, Read, got, refused, and_then, word_at, to, read_word, Setup, read_setup}
use Rattle.rules.specs.Events.{Event, event_of}

-- ---- the setup and the count

abbrev pub most_events : ℕ
most_events = 1000000

pub record Head : Type 0 where
  pub setup : Setup
  -- how many events follow
  pub events : ℕ

unfoldable pub read_head : List ℕ → Read Head
read_head s = and_then (read_setup s 0) (λ u i. and_then (read_word s (to 0 most_events) S2 i) (λ n j. got (record { setup = u; events = n }) j))

-- the most bytes of both: 129 words of a setup, and one
abbrev pub head_bytes : ℕ
head_bytes = 520

-- ---- events

-- the signed word with the same bits
abbrev pub signed_word : ℕ → ℤ
signed_word w = cond (ltb w (2 ^ 31)) (pos w) (negsuc (2 ^ 32 - 1 - w))

-- five words: kind, call, a, b, c
abbrev pub event_bytes : ℕ
event_bytes = 20

abbrev pub event_in : List ℕ → Event
event_in w = event_of (signed_word (word_at w 0)) (signed_word (word_at w 4)) (signed_word (word_at w 8)) (signed_word (word_at w 12)) (signed_word (word_at w 16))

-- ---- items

-- setup and count are whole and accepted; an event is whole, by its number; the run is refused
pub data Item : Type 0 where
  begins : Head → Item
  occurs : ℕ → Event → Item
  refuses : Fault → ℕ → Item

-- So many events are to come, the next one by its number and its place: whole ones stand. Then S1 at the first word that is not whole, or S4 at the
-- first byte left over.
unfoldable pub event_items : ℕ → ℕ → ℕ → List ℕ → List Item
event_items zero number place [] = []
event_items zero number place (b ∷ s) = refuses S4 place ∷ []
event_items (suc n) number place s =
    cond (leb event_bytes (length s))
    (occurs number (event_in (take event_bytes s)) ∷ event_items n (suc number) (place + event_bytes) (drop event_bytes s))
    (refuses S1 (place + 4 * (length s / 4)) ∷ [])

unfoldable pub items_behind : List ℕ → Read Head → List Item
items_behind s (refused f place) = refuses f place ∷ []
items_behind s (got h i) = begins h ∷ event_items h.events 1 i (drop i s)

-- of a whole input
unfoldable pub items_of : List ℕ → List Item
items_of s = items_behind s (read_head s)
