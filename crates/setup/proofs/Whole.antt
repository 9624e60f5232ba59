-- Section after section, as the code goes; then the eighth, and the end. Assumes nothing.
use mathlib.Core.Bool.{Bool, true, false, cond}
use mathlib.Core.List.{List, [], ◌∷◌}
use mathlib.Core.Path.{◌≡◌, refl, sym, ap, ◌∙◌}
use Prim.Native.Nat.{ℕ, zero, suc, ◌+◌, ◌≤◌}
use native.Mathlib.Nat.{min-eq_left}
use native.Mathlib.Omega.{arith}
use lib.Dec.{eqb, leb}
use lib.ListN.{length}
use Rattle.rules.specs.Setup.{S2, S3, S4, Read, got, refused, and_then, word_at, to, read_word, Section, priorities, sections, alarm_ranges, counters, read_entry, read_entries, read_section, read_sections, entries_of, setup_of, read_with, perhaps, at_end, setup}
use Rattle.rules.proofs.Accepted.{Reads, reads_then, from_read, Within, SectionFits, word_reads, section_reads}
use Rattle.std.specs.Prelude.{Result, Ok, Err}
use Rattle.setup_sections.specs.Judging.{Refusal, refusal, coded, onward, judged_of, on_good}
use Rattle.setup_sections.proofs.Reading.{RowsAt, word_lies, section_lies}
use Rattle.setup_sections.proofs.Judging.{then_judged, map_judged, on_good_lem, on_same, on_twice, words_judged, pair_judged, entries_judged, no_entries_judged}
use Rattle.setup.specs.Whole.{left_out, ended_at}

module _ (s : List ℕ) where
  -- one section after the other, as the code goes
  abbrev pub after_all : List Section → Result ℕ Refusal → Result ℕ Refusal
  after_all [] x = x
  after_all (t ∷ l) x = after_all l (on_good x (λ i. judged_of (read_section s t i)))

  sections_judged : (l : List Section) (x : Result ℕ Refusal) → on_good x (λ i. judged_of (read_sections s l i)) ≡ after_all l x
  unfolding read_sections
  sections_judged [] (Ok i) = refl
  sections_judged [] (Err e) = refl
  sections_judged (t ∷ l) (Ok i) =
      then_judged (read_section s t i) _ _ (λ x j q. map_judged (read_sections s l j) _) ∙ sections_judged l (judged_of (read_section s t i))
  sections_judged (t ∷ l) (Err e) = sections_judged l (Err e)

  pub seven_judged : (i : ℕ) → judged_of (read_with left_out s i) ≡ after_all (sections (word_at s i)) (judged_of (read_section s priorities i))
  unfolding read_with and_then
  seven_judged i =
      then_judged (read_section s priorities i) _ _
      (λ p j q. map_judged (read_sections s (sections (length p)) j) _ ∙ ap (λ n. judged_of (read_sections s (sections n) j)) (from_read _ _ p j q (section_lies s priorities i)).0)
      ∙ sections_judged (sections (word_at s i)) (judged_of (read_section s priorities i))

  -- ---- the eighth section

  -- the words of k alarms are k entries of two words
  alarms_judged : (n k i : ℕ) → judged_of (read_entry s (alarm_ranges n k) i) ≡ judged_of (read_entries s (to 1 n ∷ to 0 1 ∷ []) k i)
  unfolding read_entry read_entries
  alarms_judged n zero i = refl
  alarms_judged n (suc k) i =
      words_judged s (to 1 n) (to 0 1 ∷ alarm_ranges n k) i
      ∙ on_same first _ _ (λ j. words_judged s (to 0 1) (alarm_ranges n k) j ∙ on_same (second j) _ _ (alarms_judged n k))
      ∙ sym (on_twice first second rest) ∙ ap (λ (x : Result ℕ Refusal). on_good x rest) (sym (pair_judged s (to 1 n) (to 0 1) i))
      ∙ sym (then_judged (read_entry s (to 1 n ∷ to 0 1 ∷ []) i) _ rest (λ x j q. map_judged (read_entries s (to 1 n ∷ to 0 1 ∷ []) k j) _))
    where
      first : Result ℕ Refusal
      first = judged_of (read_word s (to 1 n) S3 i)

      second : ℕ → Result ℕ Refusal
      second j = judged_of (read_word s (to 0 1) S3 j)

      rest : ℕ → Result ℕ Refusal
      rest j = judged_of (read_entries s (to 1 n ∷ to 0 1 ∷ []) k j)

  pub counter_judged : (n i : ℕ) → judged_of (read_entry s (counters n).entry i) ≡ on_good (judged_of (read_word s (to 1 65535) S3 i)) (λ j. judged_of (read_entries s (to 1 n ∷ to 0 1 ∷ []) 8 j))
  counter_judged n i = words_judged s (to 1 65535) (alarm_ranges n 8) i ∙ on_same (judged_of (read_word s (to 1 65535) S3 i)) _ _ (alarms_judged n 8)

  -- one counter at most
  pub counters_judged : (n i : ℕ)
      → judged_of (read_section s (counters n) i) ≡ on_good (judged_of (read_word s (to 0 1) S2 i)) (λ j. cond (eqb (word_at s i) 0) (Ok j) (judged_of (read_entry s (counters n).entry j)))
  unfolding read_section
  counters_judged n i =
      then_judged (read_word s (to 0 1) S2 i) _ _
      (λ w j q. one w j (from_read _ _ w j q (word_reads s (to 0 1) S2 i)).0.1 ∙ ap (λ (m : ℕ). cond (eqb m 0) (Ok j) (judged_of (read_entry s (counters n).entry j))) (from_read _ _ w j q (word_lies s (to 0 1) S2 i)).0)
    where
      one : (w j : ℕ) → w ≤ 1 → judged_of (read_entries s (counters n).entry w j) ≡ cond (eqb w 0) (Ok j) (judged_of (read_entry s (counters n).entry j))
      one zero j h = no_entries_judged s (counters n).entry 0 j refl
      one (suc zero) j h =
          entries_judged s (counters n).entry 1 j (omega arith)
          ∙ on_same (judged_of (read_entry s (counters n).entry j)) _ _ (λ k. no_entries_judged s (counters n).entry 0 k refl) ∙ on_good_lem (judged_of (read_entry s (counters n).entry j))
      one (suc (suc w)) j h = absurd (omega (arith, h))

  -- the first section has as many entries as its count says
  first_counted : (t : Section) (l : List Section) (j : ℕ) → Reads (λ x k. length (entries_of x 0) ≡ word_at s j) (read_sections s (t ∷ l) j)
  unfolding read_sections
  first_counted t l j =
      reads_then _ _ (read_section s t j) _ (section_lies s t j)
      (λ x k h. reads_then (λ xs m. Unit {0}) _ (read_sections s l k) _ (anything (read_sections s l k)) (λ xs m u. h.0))
    where
      anything : {A : Type 0} (r : Read A) → Reads (λ a i. Unit {0}) r
      anything (got a i) = tt
      anything (refused d p) = tt

  -- seven sections, then the eighth by the number of tasks
  pub eight_judged : (eighth : List ℕ → Section → ℕ → Read (List (List ℕ))) (i : ℕ)
      → judged_of (read_with eighth s i) ≡ on_good (judged_of (read_with left_out s i)) (λ k. judged_of (eighth s (counters (word_at s (onward s i 4))) k))
  unfolding read_with and_then
  eight_judged eighth i = first (read_section s priorities i) (section_lies s priorities i) (section_reads s priorities i)
    where
      last : ℕ → Result ℕ Refusal
      last k = judged_of (eighth s (counters (word_at s (onward s i 4))) k)

      rest : (p : List (List ℕ)) (j : ℕ) → j ≡ onward s i 4 → (r : Read (List (List (List ℕ)))) → Reads (λ l k. length (entries_of l 0) ≡ word_at s j) r
          → judged_of (and_then r (λ l k. and_then (eighth s (counters (length (entries_of l 0))) k) (λ c m. got (setup_of (length p) l c) m))) ≡ on_good (judged_of (and_then r (λ l k. got (setup_of (length p) l []) k))) last
      rest p j e (got l k) h = map_judged (eighth s (counters (length (entries_of l 0))) k) _ ∙ ap (λ (n : ℕ). judged_of (eighth s (counters n) k)) (h ∙ ap (word_at s) e)
      rest p j e (refused d q) h = refl

      first : (r : Read (List (List ℕ))) → Reads (RowsAt s 0 (word_at s i) (i + 4)) r → Reads (Within s (SectionFits priorities)) r
          → judged_of (and_then r (λ p j. and_then (read_sections s (sections (length p)) j) (λ l k. and_then (eighth s (counters (length (entries_of l 0))) k) (λ c m. got (setup_of (length p) l c) m))))
          ≡ on_good (judged_of (and_then r (λ p j. and_then (read_sections s (sections (length p)) j) (λ l k. got (setup_of (length p) l []) k)))) last
      first (got p j) h g = rest p j (place ∙ sym (min-eq_left (omega (arith, g.1, place)))) (read_sections s (sections (length p)) j) (first_counted _ _ j)
        where
          place : j ≡ i + 4
          place = omega (arith, h.1)
      first (refused d q) h g = refl

  -- ---- nothing may follow

  pub end_judged : {A : Type 0} (r : Read A) → judged_of (at_end s r) ≡ on_good (judged_of r) (ended_at (coded S4) (length s))
  unfolding at_end
  end_judged {A} (got a i) = pick (leb (length s) i)
    where
      pick : (t : Bool) → judged_of (cond {A = Read A} t (got a i) (refused S4 i)) ≡ cond t (Ok i) (Err (refusal S4 i))
      pick true = refl
      pick false = refl
  end_judged (refused d i) = refl

  pub whole_judged : judged_of (setup s) ≡ on_good (judged_of (read_with perhaps s 0)) (ended_at (coded S4) (length s))
  unfolding setup
  whole_judged = end_judged (read_with perhaps s 0)
