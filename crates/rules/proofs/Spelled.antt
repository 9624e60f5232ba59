-- The words that stand in bytes from an offset on (`Spells`): words in their ranges are read, what is read stands there, and words of
-- 32 bits stand in their bytes and in no others. Assumes nothing.
use mathlib.Core.Bool.{Bool, true, false, cond}
use mathlib.Core.List.{List, [], ◌∷◌, ◌++◌, map}
use mathlib.Core.Path.{◌≡◌, refl, sym, ap, ◌∙◌, subst}
use Prim.Native.Nat.{ℕ, zero, suc, ◌+◌, ◌*◌, ◌≤◌, ◌<◌, ◌^◌, ◌/◌, ◌%◌}
use native.Mathlib.Nat.{div-add-mod, mod-eq_of_lt, div-eq_of_lt, div-div-eq-div-mul, add-mul-mod_self_left, add-mul-div_left, zero-add}
use native.Mathlib.Omega.{arith}
use lib.Dec.{leb, lit<}
use lib.ListN.{length, get_or, length-append}
use borrow.Author.Tests.{le-leb, leb-true}
use Rattle.rules.specs.Ids.{Each}
use Rattle.rules.specs.Setup.{Fault, S1, S2, S3, Read, got, refused, and_then, word_at, Range, within, read_word, Section, read_entry, read_entries, read_section, read_sections}
use Rattle.rules.specs.Writing.{joined, word_bytes, Bytes}
use Rattle.rules.proofs.Accepted.{Reads, reads_then, InRange, Fits, SectionFits, SectionsFit}

-- ---- the words that stand in the bytes from an offset on

module _ (s : List ℕ) where
  abbrev pub Spells : ℕ → List ℕ → Type 0
  Spells i [] = Unit {0}
  Spells i (w ∷ l) = (i + 4 ≤ length s) × (word_at s i ≡ w) × Spells (i + 4) l

  pub spells_first : (i : ℕ) (l m : List ℕ) → Spells i (l ++ m) → Spells i l
  spells_first i [] m h = tt
  spells_first i (w ∷ l) m h = (h.0, h.1, spells_first (i + 4) l m h.2)

  pub spells_rest : (i : ℕ) (l m : List ℕ) → Spells i (l ++ m) → Spells (i + 4 * length l) m
  spells_rest i [] m h = subst (λ (j : ℕ). Spells j m) (omega arith) h
  spells_rest i (w ∷ l) m h = subst (λ (j : ℕ). Spells j m) (omega arith) (spells_rest (i + 4) l m h.2)

  pub spells_both : (i : ℕ) (l m : List ℕ) → Spells i l → Spells (i + 4 * length l) m → Spells i (l ++ m)
  spells_both i [] m h k = subst (λ (j : ℕ). Spells j m) (omega arith) k
  spells_both i (w ∷ l) m h k = (h.0, h.1, spells_both (i + 4) l m h.2 (subst (λ (j : ℕ). Spells j m) (omega arith) k))

  -- ---- words in their ranges are read

  pub word_got : (r : Range) (f : Fault) (i w : ℕ) → InRange r w → i + 4 ≤ length s → word_at s i ≡ w → read_word s r f i ≡ got w (i + 4)
  unfolding read_word
  word_got r f i w g h e = rw (e, le-leb (i + 4) (length s) h, le-leb r.least w g.0, le-leb w r.most g.1)

  pub entry_got : (e : List Range) (l : List ℕ) (i : ℕ) → Fits e l → Spells i l → read_entry s e i ≡ got l (i + 4 * length l)
  unfolding read_entry and_then
  entry_got [] [] i g h = ap (λ (j : ℕ). got [] j) (omega arith)
  entry_got [] (w ∷ l) i g h = absurd g
  entry_got (r ∷ e) [] i g h = absurd g
  entry_got (r ∷ e) (w ∷ l) i g h =
      rw (word_got r S3 i w g.0 h.0 h.1, entry_got e l (i + 4) g.1 h.2) (ap (λ (j : ℕ). got (w ∷ l) j) (omega arith))

  entries_got : (e : List Range) (l : List (List ℕ)) (i : ℕ) → Each (Fits e) l → Spells i (joined l) → read_entries s e (length l) i ≡ got l (i + 4 * length (joined l))
  unfolding read_entries and_then
  entries_got e [] i g h = ap (λ (j : ℕ). got [] j) (omega arith)
  entries_got e (x ∷ l) i g h =
      rw (entry_got e x i g.0 (spells_first i x (joined l) h), entries_got e l (i + 4 * length x) g.1 (spells_rest i x (joined l) h))
      (ap (λ (j : ℕ). got (x ∷ l) j) (omega (arith, length-append x (joined l))))

-- the words of a section: its count, then those of its entries
abbrev pub section_words : List (List ℕ) → List ℕ
section_words l = length l ∷ joined l

abbrev pub sections_words : List (List (List ℕ)) → List ℕ
sections_words l = joined (map section_words l)

module _ (s : List ℕ) where
  pub section_got : (t : Section) (l : List (List ℕ)) (i : ℕ) → SectionFits t l → Spells s i (section_words l) → read_section s t i ≡ got l (i + 4 * length (section_words l))
  unfolding read_section and_then
  section_got t l i g h =
      rw (word_got s t.count S2 i (length l) g.0 h.0 h.1, entries_got s t.entry l (i + 4) g.1 h.2) (ap (λ (j : ℕ). got l j) (omega arith))

  pub sections_got : (ts : List Section) (l : List (List (List ℕ))) (i : ℕ) → SectionsFit ts l → Spells s i (sections_words l) → read_sections s ts i ≡ got l (i + 4 * length (sections_words l))
  unfolding read_sections and_then
  sections_got [] [] i g h = ap (λ (j : ℕ). got [] j) (omega arith)
  sections_got [] (x ∷ l) i g h = absurd g
  sections_got (t ∷ ts) [] i g h = absurd g
  sections_got (t ∷ ts) (x ∷ l) i g h =
      rw (section_got t x i g.0 (spells_first s i (section_words x) (sections_words l) h), sections_got ts l (i + 4 * length (section_words x)) g.1 (spells_rest s i (section_words x) (sections_words l) h))
      (ap (λ (j : ℕ). got (x ∷ l) j) (omega (arith, length-append (section_words x) (sections_words l))))

-- ---- what is read stands there

module _ (s : List ℕ) where
  -- a word, and the words of what was read, from offset i on
  abbrev Word : ℕ → ℕ → ℕ → Type 0
  Word i w j = (j ≡ i + 4) × (i + 4 ≤ length s) × (word_at s i ≡ w)

  abbrev pub Stands : {A : Type 0} → (A → List ℕ) → ℕ → A → ℕ → Type 0
  Stands words i a j = (j ≡ i + 4 * length (words a)) × Spells s i (words a)

  word_stands : (r : Range) (f : Fault) (i : ℕ) → Reads (Word i) (read_word s r f i)
  unfolding read_word
  word_stands r f i = go (leb (i + 4) (length s)) (within r (word_at s i)) refl
    where
      go : (e t : Bool) → leb (i + 4) (length s) ≡ e → Reads (Word i) (cond e (cond t (got (word_at s i) (i + 4)) (refused f i)) (refused S1 i))
      go true true p = (refl, leb-true _ _ p, refl)
      go true false p = tt
      go false true p = tt
      go false false p = tt

  entry_stands : (e : List Range) (i : ℕ) → Reads (Stands (λ l. l) i) (read_entry s e i)
  unfolding read_entry
  entry_stands [] i = (omega arith, tt)
  entry_stands (r ∷ e) i =
      reads_then (Word i) _ (read_word s r S3 i) _ (word_stands r S3 i)
      (λ w j g. reads_then (Stands (λ l. l) j) _ (read_entry s e j) _ (entry_stands e j)
      (λ l k h. (omega (arith, g.0, h.0), (g.1, g.2, subst (λ (x : ℕ). Spells s x l) g.0 h.1))))

  entries_stand : (e : List Range) (n i : ℕ) → Reads (λ l j. (length l ≡ n) × Stands joined i l j) (read_entries s e n i)
  unfolding read_entries
  entries_stand e zero i = (refl, (omega arith, tt))
  entries_stand e (suc n) i =
      reads_then (Stands (λ l. l) i) _ (read_entry s e i) _ (entry_stands e i)
      (λ x j g. reads_then (λ l k. (length l ≡ n) × Stands joined j l k) _ (read_entries s e n j) _ (entries_stand e n j)
      (λ l k h. (ap suc h.0, (omega (arith, g.0, h.1.0, length-append x (joined l)), spells_both s i x (joined l) g.1 (subst (λ (y : ℕ). Spells s y (joined l)) g.0 h.1.1)))))

  pub section_stands : (t : Section) (i : ℕ) → Reads (Stands section_words i) (read_section s t i)
  unfolding read_section
  section_stands t i =
      reads_then (Word i) _ (read_word s t.count S2 i) _ (word_stands t.count S2 i) (λ n j g. counted n j g (read_entries s t.entry n j) (entries_stand t.entry n j))
    where
      counted : (n j : ℕ) → Word i n j → (r : Read (List (List ℕ))) → Reads (λ l k. (length l ≡ n) × Stands joined j l k) r → Reads (Stands section_words i) r
      counted n j g (got l k) h = (omega (arith, g.0, h.1.0), (g.1, g.2 ∙ sym h.0, subst (λ (x : ℕ). Spells s x (joined l)) g.0 h.1.1))
      counted n j g (refused d p) h = tt

  pub sections_stand : (ts : List Section) (i : ℕ) → Reads (Stands sections_words i) (read_sections s ts i)
  unfolding read_sections
  sections_stand [] i = (omega arith, tt)
  sections_stand (t ∷ ts) i =
      reads_then (Stands section_words i) _ (read_section s t i) _ (section_stands t i)
      (λ x j g. reads_then (Stands sections_words j) _ (read_sections s ts j) _ (sections_stand ts j)
      (λ l k h. (omega (arith, g.0, h.0, length-append (section_words x) (sections_words l)), spells_both s i (section_words x) (sections_words l) g.1 (subst (λ (y : ℕ). Spells s y (sections_words l)) g.0 h.1))))

-- ---- words and bytes

-- four bytes further on
pub word_at_behind : (a b c d : ℕ) (s : List ℕ) (i : ℕ) → word_at (a ∷ b ∷ c ∷ d ∷ s) (i + 4) ≡ word_at s i
word_at_behind a b c d s i = λ z. get_or l (first z) 0 + 256 * get_or l (at 1 z) 0 + 65536 * get_or l (at 2 z) 0 + 16777216 * get_or l (at 3 z) 0
  where
    l : List ℕ
    l = a ∷ b ∷ c ∷ d ∷ s

    first : i + 4 ≡ suc (suc (suc (suc i)))
    first = omega arith

    at : (k : ℕ) → i + 4 + k ≡ suc (suc (suc (suc (i + k))))
    at k = omega arith

module _ (a b c d : ℕ) (s : List ℕ) where
  spells_behind : (i : ℕ) (l : List ℕ) → Spells s i l → Spells (a ∷ b ∷ c ∷ d ∷ s) (i + 4) l
  spells_behind i [] h = tt
  spells_behind i (w ∷ l) h = (omega (arith, h.0), word_at_behind a b c d s i ∙ h.1, spells_behind (i + 4) l h.2)

  spells_before : (i : ℕ) (l : List ℕ) → Spells (a ∷ b ∷ c ∷ d ∷ s) (i + 4) l → Spells s i l
  spells_before i [] h = tt
  spells_before i (w ∷ l) h = (omega (arith, h.0), sym (word_at_behind a b c d s i) ∙ h.1, spells_before (i + 4) l h.2)

-- w / 65536 and w / 16777216, byte by byte
module _ (w : ℕ) where
  second : w / 256 / 256 ≡ w / 65536
  second = div-div-eq-div-mul w 256 256

  third : w / 65536 / 256 ≡ w / 16777216
  third = div-div-eq-div-mul w 65536 256

-- a 32-bit word is that of its bytes
bytes_word : (w : ℕ) → w < 2 ^ 32 → w % 256 + 256 * (w / 256 % 256) + 65536 * (w / 65536 % 256) + 16777216 * (w / 16777216 % 256) ≡ w
bytes_word w h =
    let low = div-add-mod w 256 in
    let mid = div-add-mod (w / 256) 256 in
    let high = div-add-mod (w / 65536) 256 in
    let top : w / 16777216 % 256 ≡ w / 16777216 = mod-eq_of_lt (omega (arith, h, low, mid, high, second w, third w)) in
    omega (arith, low, mid, high, top, second w, third w)

-- four bytes are those of their word
module _ (a b c d : ℕ) where
  abbrev word : ℕ
  word = a + 256 * b + 65536 * c + 16777216 * d

  -- a byte and what stands above it
  split : (b q : ℕ) → b < 256 → ((b + 256 * q) % 256 ≡ b) × ((b + 256 * q) / 256 ≡ q)
  split b q h = (
    add-mul-mod_self_left b 256 q ∙ mod-eq_of_lt h,
    add-mul-div_left b q (lit< tt) ∙ ap (λ (n : ℕ). n + q) (div-eq_of_lt h) ∙ zero-add q,
  )

  pub word_bytes_lem : a < 256 → b < 256 → c < 256 → d < 256 → word_bytes word ≡ a ∷ b ∷ c ∷ d ∷ []
  word_bytes_lem ha hb hc hd = λ z. (ap (λ (n : ℕ). n % 256) whole ∙ (split a _ ha).0) z
      ∷ (ap (λ (n : ℕ). n % 256) above ∙ (split b _ hb).0) z
      ∷ (ap (λ (n : ℕ). n % 256) higher ∙ (split c _ hc).0) z
      ∷ (ap (λ (n : ℕ). n % 256) highest ∙ mod-eq_of_lt hd) z
      ∷ []
    where
      whole : word ≡ a + 256 * (b + 256 * (c + 256 * d))
      whole = omega arith

      above : word / 256 ≡ b + 256 * (c + 256 * d)
      above = ap (λ (n : ℕ). n / 256) whole ∙ (split a _ ha).1

      higher : word / 65536 ≡ c + 256 * d
      higher = sym (second word) ∙ ap (λ (n : ℕ). n / 256) above ∙ (split b _ hb).1

      highest : word / 16777216 ≡ d
      highest = sym (third word) ∙ ap (λ (n : ℕ). n / 256) higher ∙ (split c _ hc).1

pub length_written : (l : List ℕ) → length (joined (map word_bytes l)) ≡ 4 * length l
length_written [] = refl
length_written (w ∷ l) = omega (arith, length_written l)

-- words of 32 bits stand in their bytes
pub written_spells : (l : List ℕ) → Each (λ w. w < 2 ^ 32) l → Spells (joined (map word_bytes l)) 0 l
written_spells [] h = tt
written_spells (w ∷ l) h = (omega arith, bytes_word w h.0, spells_behind _ _ _ _ (joined (map word_bytes l)) 0 l (written_spells l h.1))

-- bytes in which words stand, and nothing else, are the bytes of these words
pub spells_written : (l s : List ℕ) → Bytes s → Spells s 0 l → length s ≡ 4 * length l → s ≡ joined (map word_bytes l)
spells_written [] [] b h e = refl
spells_written [] (x ∷ s) b h e = absurd (omega (arith, e))
spells_written (w ∷ l) [] b h e = absurd (omega (arith, e))
spells_written (w ∷ l) (x ∷ []) b h e = absurd (omega (arith, e))
spells_written (w ∷ l) (x ∷ y ∷ []) b h e = absurd (omega (arith, e))
spells_written (w ∷ l) (x ∷ y ∷ z ∷ []) b h e = absurd (omega (arith, e))
spells_written (w ∷ l) (x ∷ y ∷ z ∷ t ∷ s) b h e =
    (λ k. sym (word_bytes_lem x y z t b.0 b.1.0 b.1.1.0 b.1.1.1.0) k ++ s)
    ∙ (λ k. word_bytes (h.1 k) ++ spells_written l s b.1.1.1.1 (spells_before x y z t s 0 l h.2) (omega (arith, e)) k)
