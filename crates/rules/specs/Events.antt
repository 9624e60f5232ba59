-- Events, and the words of a call.
use Rattle.std.specs.Prelude.{Bool, true, false, not, ◌&&◌, List, [], ◌∷◌, ℕ, zero, suc, ◌-◌, ◌<◌, ◌^◌, leb, ℤ, pos, negsuc}

-- A tick, the entry of a handler, the return of one, or a call: context (0 task, 1 handler), call number, and words a, b, c.
pub data Event : Type 0 where
  tick : Event
  enter exit : Event
  call : ℤ → ℤ → ℤ → ℤ → ℤ → Event

-- The five-word form of recorded runs: kind (0 task, 1 handler, 2 tick, 3 entry, 4 return), call, a, b, c. Any other kind
-- is a call from no context.
abbrev pub event_of : ℤ → ℤ → ℤ → ℤ → ℤ → Event
event_of (pos zero) n a b c = call (pos 0) n a b c
event_of (pos (suc zero)) n a b c = call (pos 1) n a b c
event_of (pos (suc (suc zero))) n a b c = tick
event_of (pos (suc (suc (suc zero)))) n a b c = enter
event_of (pos (suc (suc (suc (suc zero))))) n a b c = exit
event_of (pos (suc (suc (suc (suc (suc k)))))) n a b c = call (pos (suc (suc (suc (suc (suc k)))))) n a b c
event_of (negsuc k) n a b c = call (negsuc k) n a b c

-- a list of words, five an event; words that make no whole event are left out
abbrev pub events_of : List ℤ → List Event
events_of [] = []
events_of (k ∷ []) = []
events_of (k ∷ n ∷ []) = []
events_of (k ∷ n ∷ a ∷ []) = []
events_of (k ∷ n ∷ a ∷ b ∷ []) = []
events_of (k ∷ n ∷ a ∷ b ∷ c ∷ l) = event_of k n a b c ∷ events_of l

-- ---- words

-- signed 32-bit
abbrev pub Word : ℤ → Type 0
Word (pos n) = n < 2 ^ 31
Word (negsuc n) = n < 2 ^ 31

abbrev pub Words : Event → Type 0
Words tick = Unit {0}
Words enter = Unit {0}
Words exit = Unit {0}
Words (call x n a b c) = Word x × Word n × Word a × Word b × Word c

abbrev pub AllWords : List Event → Type 0
AllWords [] = Unit {0}
AllWords (e ∷ l) = Words e × AllWords l

-- The number that a word names; 0 for a negative one, which names nothing: no id, priority, message, block or alarm is 0.
abbrev pub nat : ℤ → ℕ
nat (pos n) = n
nat (negsuc n) = 0

-- A flag pattern is the unsigned number with the same bits.
abbrev pub bits : ℤ → ℕ
bits (pos n) = n
bits (negsuc n) = 2 ^ 32 - suc n

-- not one of 1 to n
abbrev pub outside : ℤ → ℕ → Bool
outside a n = not (leb 1 (nat a) && leb (nat a) n)

-- not one of 0 to n
abbrev pub above : ℤ → ℕ → Bool
above (pos k) n = leb (suc n) k
above (negsuc k) n = true

-- below -1
abbrev pub below_for_ever : ℤ → Bool
below_for_ever (pos k) = false
below_for_ever (negsuc zero) = false
below_for_ever (negsuc (suc k)) = true
