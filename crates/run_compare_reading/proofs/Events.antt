-- The section of events read word by word: what it gives, and what judging it gives. Assumes nothing.
use mathlib.Core.List.{List, [], ◌∷◌, ◌++◌, map}
use mathlib.Core.Path.{◌≡◌, refl, sym, ap, ◌∙◌}
use Prim.Native.Nat.{ℕ, zero, suc, ◌+◌, ◌*◌, ◌≤◌}
use native.Mathlib.Omega.{arith}
use lib.IntN.{ℤ}
use lib.ListN.{length, replicate, length-replicate}
use Rattle.rules.specs.Setup.{S2, S3, S4, Read, got, refused, and_then, word_at, Range, to, read_word, read_entry, read_entries, read_section, at_end}
use Rattle.rules.proofs.Accepted.{Reads, reads_both, reads_then}
use Rattle.setup_sections.specs.Judging.{Refusal, coded, judged_of, on_good}
use Rattle.setup.specs.Whole.{ended_at}
use Rattle.std.specs.Prelude.{Result}
use Rattle.setup_sections.proofs.Reading.{WordAt, word_lies}
use Rattle.setup_sections.proofs.Judging.{map_judged}
use Rattle.setup.proofs.Whole.{end_judged}
use Rattle.rules.specs.Writing.{joined}
use Rattle.run_reading.specs.Recorded.{signed_word}
use Rattle.run_reading.proofs.Reach.{word_within}
use Rattle.run_compare_reading.specs.Compared.{most_compared, any_word, events, read_events, words_from}

-- ---- one read behind the other

module _ {A B : Type 0} where
  pub then_same : (r : Read A) {f g : A → ℕ → Read B} → ((a : A) (i : ℕ) → f a i ≡ g a i) → and_then r f ≡ and_then r g
  unfolding and_then
  then_same (got a i) h = h a i
  then_same (refused d i) h = refl

  pub then_then : {C : Type 0} (r : Read A) (f : A → ℕ → Read B) (g : B → ℕ → Read C) → and_then (and_then r f) g ≡ and_then r (λ a i. and_then (f a i) g)
  unfolding and_then
  then_then (got a i) f g = refl
  then_then (refused d i) f g = refl

then_got : {A : Type 0} (r : Read A) → r ≡ and_then r (λ a i. got a i)
unfolding and_then
then_got (got a i) = refl
then_got (refused d i) = refl

module _ (s : List ℕ) where
  -- the words of two lists of ranges
  entry_append : (a b : List Range) (i : ℕ) → read_entry s (a ++ b) i ≡ and_then (read_entry s a i) (λ x j. and_then (read_entry s b j) (λ y k. got (x ++ y) k))
  unfolding read_entry and_then
  entry_append [] b i = then_got (read_entry s b i)
  entry_append (r ∷ a) b i =
      then_same (read_word s r S3 i) (λ w j. ap (λ (x : Read (List ℕ)). and_then x (λ ws k. got (w ∷ ws) k)) (entry_append a b j)
      ∙ then_then (read_entry s a j) _ _ ∙ then_same (read_entry s a j) (λ x k. then_then (read_entry s b k) _ _) ∙ sym (then_then (read_entry s a j) _ _))
      ∙ sym (then_then (read_word s r S3 i) _ _)

  -- n entries of five words are 5 n words
  flat : (n i : ℕ) → and_then (read_entries s events.entry n i) (λ l j. got (joined l) j) ≡ read_entry s (replicate (5 * n) any_word) i
  unfolding read_entry read_entries and_then
  flat zero i = refl
  flat (suc n) i =
      let five : List Range = events.entry in
      let e : 5 * suc n ≡ suc (suc (suc (suc (suc (5 * n))))) = omega arith in
      rw e
      (then_then (read_entry s five i) _ _
      ∙ then_same (read_entry s five i) (λ x j. then_then (read_entries s five n j) _ _ ∙ sym (then_then (read_entries s five n j) _ _) ∙ ap (λ (r : Read (List ℕ)). and_then r (λ y k. got (x ++ y) k)) (flat n j))
      ∙ sym (entry_append five (replicate (5 * n) any_word) i))

  -- the count, then five words for each
  events_flat : (i : ℕ)
      → read_events s i ≡ and_then (read_word s (to 0 most_compared) S2 i) (λ n j. and_then (read_entry s (replicate (5 * n) any_word) j) (λ ws k. got (map signed_word ws) k))
  unfolding read_events read_section and_then
  events_flat i =
      then_then (read_word s (to 0 most_compared) S2 i) _ _
      ∙ then_same (read_word s (to 0 most_compared) S2 i) (λ n j. sym (then_then (read_entries s events.entry n j) _ _) ∙ ap (λ (r : Read (List ℕ)). and_then r (λ ws k. got (map signed_word ws) k)) (flat n j))

  -- ---- what is read

  words_read : (l : List Range) (i : ℕ) → Reads (λ ws j. ws ≡ words_from s (length l) i) (read_entry s l i)
  unfolding read_entry words_from
  words_read [] i = refl
  words_read (r ∷ l) i =
      reads_then (WordAt s i) _ (read_word s r S3 i) _ (word_lies s r S3 i)
      (λ w j h. reads_then (λ ws k. ws ≡ words_from s (length l) j) _ (read_entry s l j) _ (words_read l j)
      (λ ws k e. rw (h.0, e, h.1)))

  -- a count within its range, and these words
  pub record Lie (i : ℕ) (w : List ℤ) : Type 0 where
    pub room : i + 4 ≤ length s
    pub few : word_at s i ≤ most_compared
    pub words : w ≡ map signed_word (words_from s (5 * word_at s i) (i + 4))

  pub events_lie : (i : ℕ) → Reads (λ w j. Lie i w) (read_events s i)
  events_lie i =
      rw (events_flat i)
      (reads_then (λ n j. WordAt s i n j × ((i + 4 ≤ length s) × (n ≤ most_compared))) _ (read_word s (to 0 most_compared) S2 i) _ (reads_both _ _ (read_word s (to 0 most_compared) S2 i) (word_lies s (to 0 most_compared) S2 i) (word_within s (to 0 most_compared) S2 i))
      (λ n j h. reads_then (λ ws k. ws ≡ words_from s (length (replicate (5 * n) any_word)) j) _ (read_entry s (replicate (5 * n) any_word) j) _ (words_read (replicate (5 * n) any_word) j)
      (λ ws k e.
      let q : words_from s (length (replicate (5 * n) any_word)) j ≡ words_from s (5 * word_at s i) (i + 4) = rw (length-replicate (5 * n) any_word, h.0.0, h.0.1) in
      record { room = h.1.0; few = rw h.0.0 at h.1.1; words = ap (λ (l : List ℕ). map signed_word l) (e ∙ q) })))

  -- ---- what is judged

  pub events_judged : (i : ℕ) → judged_of (at_end s (read_events s i)) ≡ on_good (judged_of (read_section s events i)) (ended_at (coded S4) (length s))
  unfolding read_events
  events_judged i = end_judged s (read_events s i) ∙ ap (λ (x : Result ℕ Refusal). on_good x (ended_at (coded S4) (length s))) (map_judged (read_section s events i) _)
