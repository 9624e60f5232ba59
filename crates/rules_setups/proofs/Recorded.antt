-- The setup of a recorded run: what follows it changes nothing, alone it is the same setup, and so is an old recording's, of seven
-- sections, with a 0 word behind it. Assumes nothing.
use mathlib.Core.Bool.{Bool, true, false, cond}
use mathlib.Core.List.{List, [], ◌∷◌, ◌++◌, map}
use mathlib.Core.Path.{◌≡◌, refl, sym, ap, ◌∙◌}
use Prim.Native.Nat.{ℕ, zero, suc, ◌+◌, ◌≤◌}
use native.Mathlib.Omega.{arith}
use lib.Dec.{leb}
use lib.ListN.{length, length-append, get_or-append}
use borrow.Author.Tests.{leb-true, le-leb, lt-leb}
use Rattle.rules.specs.Setup.{Fault, S1, S2, S3, Read, got, refused, and_then, word_at, Range, within, read_word, Section, priorities, sections, counters, read_entry, read_entries, read_section, read_sections, CounterEntry, Setup, GoodSetup, entries_of, read_with, read_setup, perhaps}
use Rattle.rules.specs.Writing.{joined, counter_words, setup_words, word_bytes, setup_bytes, seven_bytes}
use Rattle.rules.proofs.Spelled.{section_words, length_written, written_spells}
use Rattle.rules.proofs.Setups.{seven_words, eight_words, setup_got, narrow}

-- ---- what the one reads, the other reads too

module _ {A : Type 0} where
  abbrev pub More : Read A → Read A → Type 0
  More (got a j) r = r ≡ got a j
  More (refused d p) r = Unit {0}

  more_same : (r : Read A) → More r r
  more_same (got a j) = refl
  more_same (refused d p) = tt

  pub from_more : (r t : Read A) (a : A) (j : ℕ) → r ≡ got a j → More r t → t ≡ got a j
  from_more r t a j e h = rw e at h

module _ {A B : Type 0} (f g : A → ℕ → Read B) where
  more_then : (r s : Read A) → More r s → ((a : A) (j : ℕ) → More (f a j) (g a j)) → More (and_then r f) (and_then s g)
  unfolding and_then
  more_then (got a j) s e h = rw e (h a j)
  more_then (refused d p) s e h = tt

-- ---- bytes that follow

module _ (s t : List ℕ) where
  word_before : (i : ℕ) → i + 4 ≤ length s → word_at (s ++ t) i ≡ word_at s i
  word_before i h = rw (get_or-append s t 0 i (omega arith), get_or-append s t 0 (i + 1) (omega arith), get_or-append s t 0 (i + 2) (omega arith), get_or-append s t 0 (i + 3) (omega arith))

  more_word : (r : Range) (f : Fault) (i : ℕ) → More (read_word s r f i) (read_word (s ++ t) r f i)
  unfolding read_word
  more_word r f i = go (leb (i + 4) (length s)) refl
    where
      go : (b : Bool) → leb (i + 4) (length s) ≡ b
          → More (cond b (cond (within r (word_at s i)) (got (word_at s i) (i + 4)) (refused f i)) (refused S1 i))
          (cond (leb (i + 4) (length (s ++ t))) (cond (within r (word_at (s ++ t) i)) (got (word_at (s ++ t) i) (i + 4)) (refused f i)) (refused S1 i))
      go true e =
          let h = leb-true (i + 4) (length s) e in
          rw (word_before i h, le-leb (i + 4) (length (s ++ t)) (rw (length-append s t) (omega arith))) (more_same (cond (within r (word_at s i)) (got (word_at s i) (i + 4)) (refused f i)))
      go false e = tt

  more_entry : (e : List Range) (i : ℕ) → More (read_entry s e i) (read_entry (s ++ t) e i)
  unfolding read_entry
  more_entry [] i = refl
  more_entry (r ∷ l) i = more_then _ _ _ _ (more_word r S3 i) (λ w j. more_then _ _ _ _ (more_entry l j) (λ ws k. refl))

  more_entries : (e : List Range) (n i : ℕ) → More (read_entries s e n i) (read_entries (s ++ t) e n i)
  unfolding read_entries
  more_entries e zero i = refl
  more_entries e (suc n) i = more_then _ _ _ _ (more_entry e i) (λ x j. more_then _ _ _ _ (more_entries e n j) (λ xs k. refl))

  more_section : (x : Section) (i : ℕ) → More (read_section s x i) (read_section (s ++ t) x i)
  unfolding read_section
  more_section x i = more_then _ _ _ _ (more_word x.count S2 i) (λ n j. more_entries x.entry n j)

  more_sections : (l : List Section) (i : ℕ) → More (read_sections s l i) (read_sections (s ++ t) l i)
  unfolding read_sections
  more_sections [] i = refl
  more_sections (x ∷ l) i = more_then _ _ _ _ (more_section x i) (λ y j. more_then _ _ _ _ (more_sections l j) (λ ys k. refl))

  -- A recorded setup is read alike whatever follows.
  pub more_setup : (i : ℕ) → More (read_setup s i) (read_setup (s ++ t) i)
  unfolding read_setup read_with
  more_setup i =
      more_then _ _ _ _ (more_section priorities i) (λ p j. more_then _ _ _ _ (more_sections (sections (length p)) j)
      (λ l k. more_then _ _ _ _ (more_section (counters (length (entries_of l 0))) k) (λ c n. refl)))

-- ---- alone

module _ (s : List ℕ) where
  -- a section that is read stands there
  more_perhaps : (t : Section) (i : ℕ) → More (read_section s t i) (perhaps s t i)
  unfolding perhaps
  more_perhaps t i = go (leb (length s) i) refl
    where
      ended : length s ≤ i → More (read_section s t i) (got [] i)
      ended h = unfold read_section read_word and_then in rw (lt-leb (i + 4) (length s) (omega arith)) tt

      go : (e : Bool) → leb (length s) i ≡ e → More (read_section s t i) (cond e (got [] i) (read_section s t i))
      go true e = ended (leb-true _ _ e)
      go false e = more_same (read_section s t i)

  -- What is read as recorded is read alike alone.
  pub more_alone : (i : ℕ) → More (read_setup s i) (read_with perhaps s i)
  unfolding read_setup read_with
  more_alone i =
      more_then _ _ _ _ (more_same (read_section s priorities i)) (λ p j. more_then _ _ _ _ (more_same (read_sections s (sections (length p)) j))
      (λ l k. more_then _ _ _ _ (more_perhaps (counters (length (entries_of l 0))) k) (λ c n. refl)))

-- ---- old recordings

module _ (u : Setup) (g : GoodSetup u) where
  -- The bytes of a setup begin a recording of it.
  pub recorded_back : (t : List ℕ) → read_setup (setup_bytes u ++ t) 0 ≡ got u (length (setup_bytes u))
  recorded_back t =
      from_more (read_setup (setup_bytes u) 0) _ u (length (setup_bytes u))
      (setup_got u g (setup_bytes u) 0 (written_spells (setup_words u) (narrow u g)) ∙ ap (λ (i : ℕ). got u i) (omega (arith, length_written (setup_words u)))) (more_setup (setup_bytes u) t 0)

  module _ (none : u.counters ≡ []) where
    with_zero : setup_bytes u ≡ seven_bytes u ++ word_bytes 0
    with_zero =
        ap (λ (l : List ℕ). joined (map word_bytes l)) (eight_words u ∙ ap (λ (c : List CounterEntry). seven_words u ++ section_words (map counter_words c)) none)
        ∙ bytes (seven_words u)
      where
        bytes : (l : List ℕ) → joined (map word_bytes (l ++ 0 ∷ [])) ≡ joined (map word_bytes l) ++ word_bytes 0
        bytes [] = refl
        bytes (w ∷ l) = ap (λ (m : List ℕ). word_bytes w ++ m) (bytes l)

    -- An old recording gets a 0 word behind the seven sections of its setup: it says the same, with no counter.
    pub old_recording : (t : List ℕ) → read_setup (seven_bytes u ++ word_bytes 0 ++ t) 0 ≡ got u (length (seven_bytes u) + 4)
    old_recording t =
        ap (λ (s : List ℕ). read_setup (s ++ t) 0) (sym with_zero) ∙ recorded_back t ∙ ap (λ (i : ℕ). got u i) (ap length with_zero ∙ length-append (seven_bytes u) (word_bytes 0))
