-- Events that come as words, five for each, and whose answers are written into lent places.
use Rattle.std.specs.Prelude.{List, [], ◌∷◌, ◌++◌, map, ◌≡◌, ℕ, ◌+◌, ◌*◌, ◌/◌, ◌%◌, ◌≤◌, ℤ, pos, length, drop, get_or, set, Result}
use Rattle.rules.specs.Events.{Event, event_of, events_of}
use Rattle.memory_picture.specs.Picture.{Memory}
use Rattle.check_damage.specs.declared.Breach.{Breach}
use Rattle.kernel_steps.specs.Serving.{Known}
use Rattle.kernel_steps.specs.Steps.{Reply, Step, Link, Chain, last_memory}

-- ---- what was lent

-- the memory, and the places for codes and for words
pub record Lent : Type 0 where
  pub memory : Memory
  pub codes : List ℤ
  pub answers : List ℕ

abbrev pub lent : Memory → List ℤ → List ℕ → Lent
lent m c a = record { memory = m; codes = c; answers = a }

-- new entries at the front, all behind them as it was
unfoldable pub over : {A : Type 0} → List A → List A → List A
over new old = new ++ drop (length new) old

-- the codes of a chain, and its words, four for each event
abbrev pub codes_of : List Link → List ℤ
codes_of l = map (λ k. k.reply.code) l

abbrev pub words_of : List Link → List ℕ
words_of [] = []
words_of (k ∷ l) = k.reply.w1 ∷ k.reply.w2 ∷ k.reply.runs ∷ k.reply.released ∷ words_of l

-- the four words of answer i in their place
abbrev pub answered : ℕ → ℕ → ℕ → ℕ → ℕ → List ℕ → List ℕ
answered i w1 w2 runs released a = set (set (set (set a (4 * i) w1) (4 * i + 1) w2) (4 * i + 2) runs) (4 * i + 3) released

-- event i of the given words
abbrev pub event_at : List ℤ → ℕ → Event
event_at given i = event_of (get_or given (5 * i) (pos 0)) (get_or given (5 * i + 1) (pos 0)) (get_or given (5 * i + 2) (pos 0)) (get_or given (5 * i + 3) (pos 0)) (get_or given (5 * i + 4) (pos 0))

-- event i ran: a step, whose answer was written in its place; and this task runs now
pub record EventRan (given : List ℤ) (i : ℕ) (old new : Lent) (now : ℕ) : Type 0 where
  pub reply : Reply
  pub step : Step (event_at given i) old.memory reply new.memory
  pub codes : new.codes ≡ set old.codes i reply.code
  pub answers : new.answers ≡ answered i reply.w1 reply.w2 reply.runs reply.released old.answers
  pub runs : now ≡ reply.runs

-- for who knows that the state is sound and who runs, or what is broken
abbrev pub ServesAt : List ℤ → ℕ → Result ℕ Breach → Lent → Lent → ℕ → Type 0
ServesAt given i k old new now = Known k old.memory → EventRan given i old new now

-- The events ran one after the other: there is a chain of just these events, from the memory before to the memory after, and its codes and words
-- are what was written.
pub record RanThrough (given : List ℤ) (old new : Lent) : Type 0 where
  pub links : List Link
  pub chain : Chain old.memory links
  pub events : map (λ k. k.event) links ≡ events_of given
  pub left : new.memory ≡ last_memory old.memory links
  pub codes : new.codes ≡ over (codes_of links) old.codes
  pub answers : new.answers ≡ over (words_of links) old.answers

-- whole events, and place for a code and four words of each
pub record Room (given : List ℤ) (old : Lent) : Type 0 where
  pub whole : length given % 5 ≡ 0
  pub codes : length given / 5 ≤ length old.codes
  pub answers : 4 * (length given / 5) ≤ length old.answers

-- the same of all events, where there is room
abbrev pub ServesAll : List ℤ → Result ℕ Breach → Lent → Lent → Type 0
ServesAll given k old new = Known k old.memory → Room given old → RanThrough given old new
