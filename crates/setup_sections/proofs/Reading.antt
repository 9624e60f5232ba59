-- Where what the reader reads lies: a predicate on what is read is carried from read to read (`reads_then`), and a refused read has
-- nothing to show. Assumes nothing.
use mathlib.Core.Bool.{Bool, true, false, cond}
use mathlib.Core.List.{List, [], ◌∷◌}
use mathlib.Core.Path.{◌≡◌, refl, ap, ◌∙◌}
use Prim.Native.Nat.{ℕ, zero, suc, ◌+◌, ◌*◌, ◌<◌}
use native.Mathlib.Omega.{arith}
use lib.Dec.{leb}
use lib.ListN.{length, get_or}
use Rattle.rules.specs.Setup.{Fault, S1, S2, S3, got, refused, word_at, Range, within, read_word, Section, read_entry, read_entries, read_section}
use Rattle.rules.proofs.Accepted.{Reads, reads_then}

module _ (s : List ℕ) where
  abbrev pub WordAt : ℕ → ℕ → ℕ → Type 0
  WordAt i w j = (w ≡ word_at s i) × (j ≡ i + 4)

  -- w words
  abbrev pub WordsAt : ℕ → ℕ → List ℕ → ℕ → Type 0
  WordsAt w i ws j = (j ≡ i + 4 * w) × ((x : ℕ) → x < w → get_or ws x 0 ≡ word_at s (i + 4 * x))

  -- n rows of w words
  abbrev pub RowsAt : ℕ → ℕ → ℕ → List (List ℕ) → ℕ → Type 0
  RowsAt w n i rows j =
      (length rows ≡ n)
      × (j ≡ i + 4 * (w * n))
      × ((y x : ℕ) → y < n → x < w → get_or (get_or rows y []) x 0 ≡ word_at s (i + 4 * (w * y + x)))

  pub word_lies : (r : Range) (f : Fault) (i : ℕ) → Reads (WordAt i) (read_word s r f i)
  unfolding read_word
  word_lies r f i = go (leb (i + 4) (length s)) (within r (word_at s i))
    where
      go : (e t : Bool) → Reads (WordAt i) (cond e (cond t (got (word_at s i) (i + 4)) (refused f i)) (refused S1 i))
      go true true = (refl, refl)
      go true false = tt
      go false true = tt
      go false false = tt

  word_cons : (w i : ℕ) (ws : List ℕ) (v j k : ℕ) → WordAt i v j → WordsAt w j ws k → WordsAt (suc w) i (v ∷ ws) k
  word_cons w i ws v j k g h = (omega (arith, g.1, h.0), at)
    where
      at : (x : ℕ) → x < suc w → get_or (v ∷ ws) x 0 ≡ word_at s (i + 4 * x)
      at zero l = g.0 ∙ ap (word_at s) (omega arith)
      at (suc x) l = h.1 x (omega arith) ∙ ap (word_at s) (omega (arith, g.1))

  entry_lies : (e : List Range) (i : ℕ) → Reads (WordsAt (length e) i) (read_entry s e i)
  unfolding read_entry
  entry_lies [] i = (omega arith, λ x l. absurd (omega (arith, l)))
  entry_lies (r ∷ e) i =
      reads_then (WordAt i) _ (read_word s r S3 i) _ (word_lies r S3 i)
      (λ v j g. reads_then (WordsAt (length e) j) _ (read_entry s e j) _ (entry_lies e j) (λ ws k h. word_cons (length e) i ws v j k g h))

  row_cons : (w n i : ℕ) (row : List ℕ) (j : ℕ) (rows : List (List ℕ)) (k : ℕ) → WordsAt w i row j → RowsAt w n j rows k → RowsAt w (suc n) i (row ∷ rows) k
  row_cons w n i row j rows k g h = (ap suc h.0, omega (arith, g.0, h.1), at)
    where
      at : (y x : ℕ) → y < suc n → x < w → get_or (get_or (row ∷ rows) y []) x 0 ≡ word_at s (i + 4 * (w * y + x))
      at zero x l m = g.1 x m ∙ ap (word_at s) (omega arith)
      at (suc y) x l m = h.2 y x (omega arith) m ∙ ap (word_at s) (omega (arith, g.0))

  entries_lie : (e : List Range) (n i : ℕ) → Reads (RowsAt (length e) n i) (read_entries s e n i)
  unfolding read_entries
  entries_lie e zero i = (refl, omega arith, λ y x l m. absurd (omega (arith, l)))
  entries_lie e (suc n) i =
      reads_then (WordsAt (length e) i) _ (read_entry s e i) _ (entry_lies e i)
      (λ row j g. reads_then (RowsAt (length e) n j) _ (read_entries s e n j) _ (entries_lie e n j) (λ rows k h. row_cons (length e) n i row j rows k g h))

  -- the count, then as many rows as it says
  pub section_lies : (t : Section) (i : ℕ) → Reads (RowsAt (length t.entry) (word_at s i) (i + 4)) (read_section s t i)
  unfolding read_section
  section_lies t i =
      reads_then (WordAt i) _ (read_word s t.count S2 i) _ (word_lies t.count S2 i)
      (λ n j g. rw (← g.0, ← g.1) (entries_lie t.entry n j))
