-- The text of an input is the one that the plain kernel gives: the rules' demand 3, for recorded runs. Any five words make an event of 32-bit words, so nothing is asked of
-- the bytes. Assumes nothing.
use mathlib.Core.Bool.{Bool, true, false, cond}
use mathlib.Core.List.{List, [], ◌∷◌, ◌++◌}
use mathlib.Core.Path.{◌≡◌, refl, sym}
use Prim.Native.Nat.{ℕ, zero, suc, ◌+◌, ◌*◌, ◌/◌}
use native.Mathlib.Omega.{arith}
use lib.Dec.{leb}
use lib.ListN.{length, take, drop}
use Rattle.rules.specs.Setup.{S1, Read, got, refused, word_at}
use Rattle.rules.specs.Events.{Event, Words, AllWords}
use Rattle.rules.specs.Answers.{numbers}
use Rattle.rules.specs.View.{View, running}
use Rattle.rules.specs.Kernel.{event, fresh}
use Rattle.rules.specs.Plain.{Plain, plain_fresh, plain_next}
use Rattle.rules.specs.Blocks.{Happened}
use Rattle.rules_runs.specs.Demand3.{happened, Demand3}
use Rattle.rules.proofs.Accepted.{from_read}
use Rattle.rules.proofs.Agree.{fresh_shows}
use Rattle.rules_runs.proofs.Demand3.{demand3}
use Rattle.run_reading.specs.Recorded.{Head, read_head, signed_word, event_bytes, event_in, Item, begins, occurs, refuses, event_items, items_behind, items_of}
use Rattle.run_reading.proofs.Reach.{setup_prefix, Parts, head_parts}
use Rattle.run_reading.proofs.Words.{word_fits, event_fits}
use Rattle.run_text.specs.Lines.{start_line, event_line}
use Rattle.run_text.specs.Text.{unstarted, at, line_of, onward, lines_from, queues, plain, text_of, plain_text_of}

-- ---- the words of an event

event_words : (w : List ℕ) → Words (event_in w)
event_words w =
    event_fits (signed_word (word_at w 0)) (signed_word (word_at w 4)) (signed_word (word_at w 8)) (signed_word (word_at w 12)) (signed_word (word_at w 16))
    (word_fits (word_at w 0)) (word_fits (word_at w 4)) (word_fits (word_at w 8)) (word_fits (word_at w 12)) (word_fits (word_at w 16))

-- ---- the events of items

events_in : List Item → List Event
events_in [] = []
events_in (begins h ∷ l) = []
events_in (occurs i e ∷ l) = e ∷ events_in l
events_in (refuses f p ∷ l) = []

all_words : (n k p : ℕ) (s : List ℕ) → AllWords (events_in (event_items n k p s))
unfolding events_in event_items
all_words zero k p [] = tt
all_words zero k p (b ∷ s) = tt
all_words (suc n) k p s = go (leb event_bytes (length s)) (all_words n (suc k) (p + event_bytes) (drop event_bytes s))
  where
    go : (t : Bool) → AllWords (events_in (event_items n (suc k) (p + event_bytes) (drop event_bytes s)))
        → AllWords (events_in (cond t (occurs k (event_in (take event_bytes s)) ∷ event_items n (suc k) (p + event_bytes) (drop event_bytes s)) (refuses S1 (p + 4 * (length s / 4)) ∷ [])))
    go true h = (event_words (take event_bytes s), h)
    go false h = tt

-- events, then at most one refusal
abbrev Plays : List Item → Type 0
Plays [] = Unit {0}
Plays (begins h ∷ l) = ⊥
Plays (occurs i e ∷ l) = Plays l
Plays (refuses f p ∷ l) = l ≡ []

all_plays : (n k p : ℕ) (s : List ℕ) → Plays (event_items n k p s)
unfolding event_items
all_plays zero k p [] = tt
all_plays zero k p (b ∷ s) = refl
all_plays (suc n) k p s = go (leb event_bytes (length s)) (all_plays n (suc k) (p + event_bytes) (drop event_bytes s))
  where
    go : (t : Bool) → Plays (event_items n (suc k) (p + event_bytes) (drop event_bytes s))
        → Plays (cond t (occurs k (event_in (take event_bytes s)) ∷ event_items n (suc k) (p + event_bytes) (drop event_bytes s)) (refuses S1 (p + 4 * (length s / 4)) ∷ []))
    go true h = h
    go false h = refl

-- ---- one run by both kernels

same_lines : (past : List Happened) (v : View) (s : Plain) (l : List Item) → Plays l → Demand3 past v s (events_in l) → lines_from queues (at v) l ≡ lines_from plain (at s) l
unfolding lines_from line_of onward events_in
same_lines past v s [] h d = refl
same_lines past v s (begins x ∷ l) h d = absurd h
same_lines past v s (occurs i e ∷ l) h d = λ z. event_line i (numbers (d.1 z)) ++ same_lines (happened s e ∷ past) (event v e).next (plain_next s e) l h d.3 z
same_lines past v s (refuses f p ∷ l) h d = rw h

module _ (s : List ℕ) where
  text_alike : (r : Read Head) → read_head s ≡ r → lines_from queues unstarted (items_behind s r) ≡ lines_from plain unstarted (items_behind s r)
  unfolding lines_from line_of onward items_behind
  text_alike (refused f p) e = refl
  text_alike (got h i) e =
      let P : Parts s h i = from_read (Parts s) (read_head s) h i e (head_parts s) in
      let l : List Item = event_items h.events 1 i (drop i s) in
      let d = demand3 (take P.end s) h.setup P.end (setup_prefix s h.setup P.end P.setup (omega (arith, P.whole, P.within))) (events_in l) (all_words h.events 1 i (drop i s)) in
      λ z. start_line (running (sym (fresh_shows h.setup) z)) ++ same_lines [] (fresh h.setup) (plain_fresh h.setup) l (all_plays h.events 1 i (drop i s)) d z

  -- for any bytes
  pub plain_text : text_of s ≡ plain_text_of s
  unfolding text_of plain_text_of items_of
  plain_text = text_alike (read_head s) refl
