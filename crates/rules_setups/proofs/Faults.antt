-- A setup is refused exactly for its first fault. Along the words of a setup in range the reader goes on to the next word, which is not
-- whole, outside its range, or stands in another setup in range (`Next`); so it ends at the first fault. Assumes nothing.
use mathlib.Core.Bool.{Bool, true, false, cond}
use mathlib.Core.List.{List, [], ◌∷◌, ◌++◌, map, tail, append-nil}
use mathlib.Core.Logic.{◌⊎◌, inl, inr, ◌↔◌}
use mathlib.Core.Path.{◌≡◌, refl, sym, ap, ◌∙◌, subst}
use Prim.Native.Nat.{ℕ, zero, suc, ◌+◌, ◌*◌, ◌-◌, ◌≤◌, ◌<◌}
use native.Mathlib.Decide.{dec_lt}
use native.Mathlib.Omega.{arith}
use lib.Dec.{leb}
use lib.ListN.{length, get_or, take, length-append, length-map, length-replicate, replicate, get_or-append}
use lib.Seq.{get_or-append-add, get_or-take}
use borrow.Author.Tests.{le-leb, lt-leb, leb-true, leb-false}
use Rattle.rules.specs.Ids.{In, Each}
use Rattle.rules.specs.Setup.{Fault, S1, S2, S3, S4, Read, got, refused, and_then, word_at, Range, to, within, read_word, Section, priorities, sections, alarm_ranges, counters, read_entry, read_entries, read_section, read_sections, Setup, GoodSetup, entries_of, setup_of, read_with, read_setup, perhaps, at_end, setup}
use Rattle.rules.specs.Writing.{joined, task_words, seven_sections, setup_sections, setup_words, word_bytes, setup_bytes, Alone, Bytes}
use Rattle.rules_setups.specs.Faults.{section_faults, word_faults, Begins, Needs, Outside, EndsAfterSeven, HasFault}
use Rattle.rules.proofs.Waits.{both_true}
use Rattle.rules.proofs.Judge.{◌⊗◌}
use Rattle.rules.proofs.Accepted.{Reads, InRange, Fits, SectionFits, SectionsFit, good_sections}
use Rattle.rules.proofs.Spelled.{Spells, word_got, entry_got, section_words, sections_words, section_got, Stands, word_at_behind, word_bytes_lem, length_written, written_spells, spells_written}
use Rattle.rules.proofs.Setups.{sections_of, counters_of, seven_words, seven_of, joined_append, eight_words, seven_words_lem, sections_setup, counters_back, good_fits, counters_fit, seven_got, setup_got, priorities_known, six_known, seven_stand, narrow, narrow_seven, seven_back, accepted_written, accepted_exactly, each_replicate}

module _ (s : List ℕ) where
  -- ---- the first k words stand in the bytes from an offset on

  abbrev Follows : ℕ → ℕ → List ℕ → Type 0
  Follows i zero l = Unit {0}
  Follows i (suc k) [] = ⊥
  Follows i (suc k) (w ∷ l) = (i + 4 ≤ length s) × (word_at s i ≡ w) × Follows (i + 4) k l

  follows_left : (i k : ℕ) (l m : List ℕ) → Follows i k l → Follows i k (l ++ m)
  follows_left i zero l m h = tt
  follows_left i (suc k) [] m h = absurd h
  follows_left i (suc k) (w ∷ l) m h = (h.0, h.1, follows_left (i + 4) k l m h.2)

  follows_first : (i k : ℕ) (l m : List ℕ) → k ≤ length l → Follows i k (l ++ m) → Follows i k l
  follows_first i zero l m b h = tt
  follows_first i (suc k) [] m b h = absurd (omega (arith, b))
  follows_first i (suc k) (w ∷ l) m b h = (h.0, h.1, follows_first (i + 4) k l m (omega (arith, b)) h.2)

  follows_spells : (i k : ℕ) (l m : List ℕ) → length l ≤ k → Follows i k (l ++ m) → Spells s i l
  follows_spells i k [] m b h = tt
  follows_spells i zero (w ∷ l) m b h = absurd (omega (arith, b))
  follows_spells i (suc k) (w ∷ l) m b h = (h.0, h.1, follows_spells (i + 4) k l m (omega (arith, b)) h.2)

  -- the offset and the number of words, up to an equation
  follows_at : (i j k n : ℕ) (l : List ℕ) → i ≡ j → k ≡ n → Follows i k l → Follows j n l
  follows_at i j k n l e d h = subst (λ (x : ℕ). Follows x n l) e (subst (λ (y : ℕ). Follows i y l) d h)

  follows_rest : (i k : ℕ) (l m : List ℕ) → Follows i (length l + k) (l ++ m) → Follows (i + 4 * length l) k m
  follows_rest i k [] m h = follows_at i (i + 4 * 0) (0 + k) k m (omega arith) (omega arith) h
  follows_rest i k (w ∷ l) m h =
      follows_at (i + 4 + 4 * length l) (i + 4 * suc (length l)) k k m (omega arith) refl
      (follows_rest (i + 4) k l m (follows_at i i (suc (length l) + k) (suc (length l + k)) (w ∷ (l ++ m)) refl (omega arith) h).2)

  follows_both : (i k : ℕ) (l m : List ℕ) → Spells s i l → Follows (i + 4 * length l) k m → Follows i (length l + k) (l ++ m)
  follows_both i k [] m h f = follows_at (i + 4 * 0) i k (0 + k) m (omega arith) (omega arith) f
  follows_both i k (w ∷ l) m h f =
      follows_at i i (suc (length l + k)) (suc (length l) + k) (w ∷ (l ++ m)) refl (omega arith)
      (h.0, h.1, follows_both (i + 4) k l m h.2 (follows_at (i + 4 * suc (length l)) (i + 4 + 4 * length l) k k m (omega arith) refl f))

  -- ---- the next word: it is not whole; it is outside its range; or it stands in another value that fits

  data Next {A : Type 0} (words : A → List ℕ) (Ok : A → Type 0) (f : Fault) (i k : ℕ) (r : Read A) : Type 0 where
    short : length s < i + 4 * k + 4 → r ≡ refused S1 (i + 4 * k) → Next words Ok f i k r
    bad : i + 4 * k + 4 ≤ length s → r ≡ refused f (i + 4 * k) → Next words Ok f i k r
    good : (a : A) → Ok a → Follows i (suc k) (words a) → Next words Ok f i k r

  -- a read that begins with another: a refusal of that one is its own
  module _ {A B : Type 0} (words : A → List ℕ) (Ok : A → Type 0) (words' : B → List ℕ) (Ok' : B → Type 0) (f : Fault) (j k i n : ℕ) (r : Read A) (r' : Read B) where
    carry : j + 4 * k ≡ i + 4 * n → ((d : Fault) (p : ℕ) → r ≡ refused d p → r' ≡ refused d p)
        → ((a : A) → Ok a → Follows j (suc k) (words a) → (b : B) × Ok' b × Follows i (suc n) (words' b))
        → Next words Ok f j k r → Next words' Ok' f i n r'
    carry e g h (short b q) = short (omega (arith, e, b)) (g S1 _ q ∙ ap (λ (p : ℕ). refused S1 p) e)
    carry e g h (bad b q) = bad (omega (arith, e, b)) (g f _ q ∙ ap (λ (p : ℕ). refused f p) e)
    carry e g h (good a o w) = let x = h a o w in good x.0 x.1 x.2

  word_next : (r : Range) (f : Fault) (i : ℕ) → Next (λ w. w ∷ []) (InRange r) f i 0 (read_word s r f i)
  unfolding read_word
  word_next r f i = go (leb (i + 4) (length s)) (within r (word_at s i)) refl refl
    where
      go : (e t : Bool) → leb (i + 4) (length s) ≡ e → within r (word_at s i) ≡ t
          → Next (λ w. w ∷ []) (InRange r) f i 0 (cond e (cond t (got (word_at s i) (i + 4)) (refused f i)) (refused S1 i))
      go true true p q =
          let b : (leb r.least (word_at s i) ≡ true) × (leb (word_at s i) r.most ≡ true) = both_true _ _ q in
          good (word_at s i) (leb-true _ _ b.0, leb-true _ _ b.1) (leb-true (i + 4) (length s) p, refl, tt)
      go true false p q = bad (omega (arith, leb-true (i + 4) (length s) p)) (ap (λ (p : ℕ). refused f p) (omega arith))
      go false true p q = short (omega (arith, leb-false (i + 4) (length s) p)) (ap (λ (p : ℕ). refused S1 p) (omega arith))
      go false false p q = short (omega (arith, leb-false (i + 4) (length s) p)) (ap (λ (p : ℕ). refused S1 p) (omega arith))

  -- where the first read is refused, so is the whole
  stops : {A B : Type 0} (r : Read A) (g : A → ℕ → Read B) (d : Fault) (p : ℕ) → r ≡ refused d p → and_then r g ≡ refused d p
  unfolding and_then
  stops r g d p e = rw e

  goes_on : {A B : Type 0} (r : Read A) (g : A → ℕ → Read B) (a : A) (i : ℕ) → r ≡ got a i → and_then r g ≡ g a i
  unfolding and_then
  goes_on r g a i e = rw e

  entry_next : (e : List Range) (l : List ℕ) (i k : ℕ) → Fits e l → k < length l → Follows i k l → Next (λ l. l) (Fits e) S3 i k (read_entry s e i)
  unfolding read_entry
  entry_next [] [] i k g b h = absurd (omega (arith, b))
  entry_next [] (w ∷ l) i k g b h = absurd g
  entry_next (r ∷ e) [] i k g b h = absurd g
  entry_next (r ∷ e) (w ∷ l) i zero g b h =
      carry (λ w. w ∷ []) (InRange r) (λ l. l) (Fits (r ∷ e)) S3 i 0 i 0 (read_word s r S3 i) _ refl (stops (read_word s r S3 i) _)
      (λ x o f. (x ∷ l, (o, g.1), f)) (word_next r S3 i)
  entry_next (r ∷ e) (w ∷ l) i (suc k) g b h =
      carry (λ l. l) (Fits e) (λ l. l) (Fits (r ∷ e)) S3 (i + 4) k i (suc k) (read_entry s e (i + 4)) _ (omega arith)
      (λ d p q. goes_on (read_word s r S3 i) _ w (i + 4) (word_got s r S3 i w g.0 h.0 h.1) ∙ stops (read_entry s e (i + 4)) _ d p q)
      (λ m o f. (w ∷ m, (g.0, o), (h.0, h.1, f))) (entry_next e l (i + 4) k g.1 (omega (arith, b)) h.2)

  entries_next : (e : List Range) (l : List (List ℕ)) (i k : ℕ) → Each (Fits e) l → k < length (joined l) → Follows i k (joined l)
      → Next joined (λ m. (length m ≡ length l) × Each (Fits e) m) S3 i k (read_entries s e (length l) i)
  unfolding read_entries
  entries_next e [] i k g b h = absurd (omega (arith, b))
  entries_next e (x ∷ l) i k g b h = go (λ j n. entries_next e l j n g.1) (dec_lt k (length x))
    where
      go : ((j n : ℕ) → n < length (joined l) → Follows j n (joined l) → Next joined (λ m. (length m ≡ length l) × Each (Fits e) m) S3 j n (read_entries s e (length l) j))
          → Dec (k < length x) → Next joined (λ m. (length m ≡ suc (length l)) × Each (Fits e) m) S3 i k (read_entries s e (suc (length l)) i)
      go rest (yes c) =
          carry (λ l. l) (Fits e) joined _ S3 i k i k (read_entry s e i) _ refl (stops (read_entry s e i) _)
          (λ y o f. (y ∷ l, (refl, (o, g.1)), follows_left i (suc k) y (joined l) f)) (entry_next e x i k g.0 c (follows_first i k x (joined l) (omega arith) h))
      go rest (no c) =
          let n : ℕ = k - length x in
          let j : ℕ = i + 4 * length x in
          let at : length x + n ≡ k = omega arith in
          let there : Spells s i x = follows_spells i k x (joined l) (omega arith) h in
          carry joined (λ m. (length m ≡ length l) × Each (Fits e) m) joined _ S3 j n i k (read_entries s e (length l) j) _ (omega arith)
          (λ d p q. goes_on (read_entry s e i) _ x j (entry_got s e x i g.0 there) ∙ stops (read_entries s e (length l) j) _ d p q)
          (λ m o f. (x ∷ m, (ap suc o.0, (g.0, o.1)), follows_at i i (length x + suc n) (suc k) (x ++ joined m) refl (omega arith) (follows_both i (suc n) x (joined m) there f)))
          (rest j n (omega (arith, b, length-append x (joined l))) (follows_rest i n x (joined l) (follows_at i i k (length x + n) (x ++ joined l) refl (sym at) h)))

-- ---- sections whose entries can be filled

-- each range holds a number
abbrev Open : List Range → Type 0
Open e = Each (λ r. r.least ≤ r.most) e

leasts : (e : List Range) → Open e → (l : List ℕ) × Fits e l
leasts [] h = ([], tt)
leasts (r ∷ e) h = let x = leasts e h.1 in (r.least ∷ x.0, ((omega arith, h.0), x.1))

-- the faults of the words of an entry
entry_faults : (l : List ℕ) (k : ℕ) → k < length l → get_or (map (λ w. S3) l) k S1 ≡ S3
entry_faults [] k h = absurd (omega (arith, h))
entry_faults (w ∷ l) zero h = refl
entry_faults (w ∷ l) (suc k) h = entry_faults l k (omega (arith, h))

module _ (s : List ℕ) where
  section_next : (t : Section) (l : List (List ℕ)) (i k : ℕ) → Open t.entry → SectionFits t l → k < length (section_words l) → Follows s i k (section_words l)
      → Next s section_words (SectionFits t) (get_or (section_faults (section_words l)) k S1) i k (read_section s t i)
  unfolding read_section
  section_next t l i zero o g b h =
      carry s (λ n. n ∷ []) (InRange t.count) section_words (SectionFits t) S2 i 0 i 0 (read_word s t.count S2 i) _ refl (stops s (read_word s t.count S2 i) _) filled (word_next s t.count S2 i)
    where
      x : List ℕ
      x = (leasts t.entry o).0

      filled : (n : ℕ) → InRange t.count n → Follows s i 1 (n ∷ []) → (m : List (List ℕ)) × SectionFits t m × Follows s i 1 (section_words m)
      filled n r f =
          (replicate n x, (rw (length-replicate n x) r, each_replicate (Fits t.entry) n x (leasts t.entry o).1), (f.0, f.1 ∙ sym (length-replicate n x), tt))
  section_next t l i (suc k) o g b h =
      subst (λ (f : Fault). Next s section_words (SectionFits t) f i (suc k) (read_section s t i)) (sym (entry_faults (joined l) k (omega (arith, b))))
      (carry s joined (λ m. (length m ≡ length l) × Each (Fits t.entry) m) section_words (SectionFits t) S3 (i + 4) k i (suc k) (read_entries s t.entry (length l) (i + 4)) _ (omega arith)
      (λ d p q. goes_on s (read_word s t.count S2 i) _ (length l) (i + 4) (word_got s t.count S2 i (length l) g.0 h.0 h.1) ∙ q)
      (λ m e f. (m, (rw e.0 g.0, e.1), (h.0, h.1 ∙ sym e.0, f))) (entries_next s t.entry l (i + 4) k g.1 (omega (arith, b)) h.2))

  sections_next : (ts : List Section) (l : List (List (List ℕ))) (i k : ℕ) → Each (λ t. Open t.entry) ts → SectionsFit ts l → k < length (sections_words l) → Follows s i k (sections_words l)
      → Next s sections_words (SectionsFit ts) (get_or (joined (map section_faults (map section_words l))) k S1) i k (read_sections s ts i)
  unfolding read_sections
  sections_next [] [] i k o g b h = absurd (omega (arith, b))
  sections_next [] (x ∷ l) i k o g b h = absurd g
  sections_next (t ∷ ts) [] i k o g b h = absurd g
  sections_next (t ∷ ts) (x ∷ l) i k o g b h = go (λ j n. sections_next ts l j n o.1 g.1) (dec_lt k (length (section_words x)))
    where
      mine : List Fault
      mine = section_faults (section_words x)

      others : List Fault
      others = joined (map section_faults (map section_words l))

      as_many : length mine ≡ length (section_words x)
      as_many = ap suc (length-map (joined x) (λ w. S3))

      go : ((j n : ℕ) → n < length (sections_words l) → Follows s j n (sections_words l) → Next s sections_words (SectionsFit ts) (get_or others n S1) j n (read_sections s ts j))
          → Dec (k < length (section_words x)) → Next s sections_words (SectionsFit (t ∷ ts)) (get_or (mine ++ others) k S1) i k (read_sections s (t ∷ ts) i)
      go rest (yes c) =
          subst (λ (f : Fault). Next s sections_words (SectionsFit (t ∷ ts)) f i k (read_sections s (t ∷ ts) i)) (sym (get_or-append mine others S1 k (omega (arith, as_many))))
          (carry s section_words (SectionFits t) sections_words (SectionsFit (t ∷ ts)) (get_or mine k S1) i k i k (read_section s t i) _ refl (stops s (read_section s t i) _)
          (λ y e f. (y ∷ l, (e, g.1), follows_left s i (suc k) (section_words y) (sections_words l) f))
          (section_next t x i k o.0 g.0 c (follows_first s i k (section_words x) (sections_words l) (omega arith) h)))
      go rest (no c) =
          let n : ℕ = k - length (section_words x) in
          let j : ℕ = i + 4 * length (section_words x) in
          let at : length (section_words x) + n ≡ k = omega arith in
          let there : Spells s i (section_words x) = follows_spells s i k (section_words x) (sections_words l) (omega arith) h in
          subst (λ (f : Fault). Next s sections_words (SectionsFit (t ∷ ts)) f i k (read_sections s (t ∷ ts) i))
          (sym (ap (λ (m : ℕ). get_or (mine ++ others) m S1) (sym at ∙ ap (λ (m : ℕ). m + n) (sym as_many)) ∙ get_or-append-add mine others n S1))
          (carry s sections_words (SectionsFit ts) sections_words (SectionsFit (t ∷ ts)) (get_or others n S1) j n i k (read_sections s ts j) _ (omega arith)
          (λ d p q. goes_on s (read_section s t i) _ x j (section_got s t x i g.0 there) ∙ stops s (read_sections s ts j) _ d p q)
          (λ m e f. (x ∷ m, (g.0, e), follows_at s i i (length (section_words x) + suc n) (suc k) (section_words x ++ sections_words m) refl (omega arith) (follows_both s i (suc n) (section_words x) (sections_words m) there f)))
          (rest j n (omega (arith, b, length-append (section_words x) (sections_words l)))
          (follows_rest s i n (section_words x) (sections_words l) (follows_at s i i k (length (section_words x) + n) (section_words x ++ sections_words l) refl (sym at) h))))

-- ---- a setup

sections_open : (P : ℕ) → 1 ≤ P → Each (λ t. Open t.entry) (sections P)
sections_open P h =
    (h, (omega arith, tt)) ⊗ (omega arith, tt) ⊗ (omega arith, tt) ⊗ tt ⊗ tt ⊗ (omega arith, tt) ⊗ tt

-- the smallest setup with P priorities: one task
smallest : ℕ → Setup
smallest P = record { priorities = P; tasks = record { priority = 1; started = false } ∷ []; semaphores = []; flags = []; mailboxes = 0; messages = 0; pools = []; counters = [] }

smallest_good : (P : ℕ) → In P 16 → GoodSetup (smallest P)
unfolding smallest
smallest_good P h = record {
  priorities = h;
  tasks = (omega arith, omega arith);
  starts = ((omega arith, h.0), tt);
  semaphores = omega arith;
  counts = tt;
  flags = omega arith;
  patterns = tt;
  mailboxes = omega arith;
  messages = omega arith;
  pools = omega arith;
  blocks = tt;
  counters = omega arith;
  counter = tt;
}

-- the words of the six sections behind the priorities, and their faults
six : Setup → List (List ℕ)
six u = tail (seven_sections u)

six_of : (u : Setup) → six u ≡ map section_words (sections_of u)
unfolding six
six_of u = ap (λ (l : List (List ℕ)). tail l) (seven_of u)

-- the faults of the words of the seven sections, then those of the eighth
abbrev faults_of : List (List ℕ) → List Fault
faults_of l = joined (map section_faults l)

faults_split : (u : Setup) → word_faults u ≡ faults_of (seven_sections u) ++ section_faults (section_words (counters_of u))
faults_split u =
    joined_append (map section_faults (seven_sections u)) (section_faults (section_words (counters_of u)) ∷ [])
    ∙ ap (λ (l : List Fault). faults_of (seven_sections u) ++ l) (append-nil (section_faults (section_words (counters_of u))))

as_many_faults : (l : List (List ℕ)) → length (faults_of l) ≡ length (joined l)
as_many_faults [] = refl
as_many_faults ([] ∷ l) = as_many_faults l
as_many_faults ((n ∷ x) ∷ l) =
    ap suc (length-append (map (λ w. S3) x) (faults_of l) ∙ (λ z. length-map x (λ w. S3) z + as_many_faults l z) ∙ sym (length-append x (joined l)))

counter_open : (n : ℕ) → 1 ≤ n → Open (counters n).entry
counter_open n h = (omega arith, alarms 8)
  where
    alarms : (k : ℕ) → Open (alarm_ranges n k)
    alarms zero = tt
    alarms (suc k) = (h, (omega arith, alarms k))

module _ (s : List ℕ) where
  -- the priorities are read: as many empty entries
  none_read : (n j : ℕ) → read_entries s [] n j ≡ got (replicate n []) j
  unfolding read_entries read_entry and_then
  none_read zero j = refl
  none_read (suc n) j = rw (none_read n j)

  priorities_read : (P : ℕ) → In P 16 → 0 + 4 ≤ length s → word_at s 0 ≡ P
      → read_setup s 0 ≡ and_then (read_sections s (sections P) (0 + 4)) (λ l k. and_then (read_section s (counters (length (entries_of l 0))) k) (λ c m. got (setup_of P l c) m))
  unfolding read_setup read_with read_section and_then
  priorities_read P r h e = rw (word_got s (to 1 16) S2 0 P r h e, none_read P (0 + 4), length-replicate {A = List ℕ} P [])

  setup_next : (u : Setup) → GoodSetup u → (k : ℕ) → k < length (setup_words u) → Follows s 0 k (setup_words u) → Next s setup_words GoodSetup (get_or (word_faults u) k S1) 0 k (read_setup s 0)
  unfolding six
  setup_next u g zero b h =
      carry s (λ n. n ∷ []) (InRange (to 1 16)) setup_words GoodSetup S2 0 0 0 0 (read_word s (to 1 16) S2 0) (read_setup s 0) refl
      (λ d p q. unfold read_setup read_with read_section in stops s (and_then (read_word s (to 1 16) S2 0) (λ n j. read_entries s [] n j)) _ d p (stops s (read_word s (to 1 16) S2 0) _ d p q))
      (λ n r f. (smallest n, smallest_good n r, unfold smallest in (f.0, f.1, tt))) (word_next s (to 1 16) S2 0)
  setup_next u g (suc k) b h = go (dec_lt (suc k) (length (seven_words u)))
    where
      P : ℕ
      P = u.priorities

      n : ℕ
      n = length u.tasks

      c : List (List ℕ)
      c = counters_of u

      h' : Follows s 0 (suc k) (seven_words u ++ section_words c)
      h' = subst (Follows s 0 (suc k)) (eight_words u) h

      Target : Fault → Type 0
      Target f = Next s setup_words GoodSetup f 0 (suc k) (read_setup s 0)

      -- in the first seven sections: another setup need have no counter
      early : suc k < length (seven_words u) → Target (get_or (word_faults u) (suc k) S1)
      early a =
          subst Target (sym (ap (λ (l : List Fault). get_or l (suc k) S1) (faults_split u) ∙ get_or-append (faults_of (seven_sections u)) _ S1 (suc k) (omega (arith, a, as_many_faults (seven_sections u))) ∙ ap (λ (l : List (List ℕ)). get_or (faults_of l) k S1) (six_of u)))
          (carry s sections_words (SectionsFit (sections P)) setup_words GoodSetup (get_or (faults_of (map section_words (sections_of u))) k S1) (0 + 4) k 0 (suc k) (read_sections s (sections P) (0 + 4)) (read_setup s 0) (omega arith)
          (λ d p q. priorities_read P g.priorities f.0 f.1 ∙ stops s (read_sections s (sections P) (0 + 4)) _ d p q)
          (λ l o x. (setup_of P l [], good_sections P l [] g.priorities o ((omega arith, omega arith), tt), subst (Follows s 0 (suc (suc k))) (sym (eight_words (setup_of P l []))) (follows_left s 0 (suc (suc k)) (seven_words (setup_of P l [])) _ (f.0, f.1, subst (Follows s (0 + 4) (suc k)) (sym (back l o)) x))))
          (sections_next s (sections P) (sections_of u) (0 + 4) k (sections_open P g.priorities.0) (good_fits u g) (omega (arith, a, ap length words)) (subst (Follows s (0 + 4) k) words f.2)))
        where
          f : Follows s 0 (suc k) (seven_words u)
          f = follows_first s 0 (suc k) (seven_words u) (section_words c) (omega arith) h'

          words : joined (six u) ≡ sections_words (sections_of u)
          words = ap joined (six_of u)

          back : (l : List (List (List ℕ))) → SectionsFit (sections P) l → joined (six (setup_of P l [])) ≡ sections_words l
          back l o = ap joined (six_of (setup_of P l [])) ∙ ap sections_words (sections_setup P l [] o)

      -- in the eighth: the seven before it stay
      late : length (seven_words u) ≤ suc k → Target (get_or (word_faults u) (suc k) S1)
      late a =
          subst Target (sym (ap (λ (l : List Fault). get_or l (suc k) S1) (faults_split u) ∙ ap (λ (i : ℕ). get_or (faults_of (seven_sections u) ++ section_faults (section_words c)) i S1) (sym at ∙ ap (λ (i : ℕ). i + m) (sym (as_many_faults (seven_sections u)))) ∙ get_or-append-add (faults_of (seven_sections u)) (section_faults (section_words c)) m S1))
          (carry s section_words (SectionFits (counters n)) setup_words GoodSetup (get_or (section_faults (section_words c)) m S1) j m 0 (suc k) (read_section s (counters n) j) (read_setup s 0) (omega arith)
          (λ d p q. unfold read_setup in seven_got u g read_section s 0 there ∙ stops s (read_section s (counters n) j) _ d p q)
          (λ x o f. (
            setup_of P (sections_of u) x,
            good_sections P (sections_of u) x g.priorities (good_fits u g) (subst (λ (i : ℕ). SectionFits (counters i) x) (sym (length-map u.tasks task_words)) o),
            subst (Follows s 0 (suc (suc k))) (sym (back x o)) (follows_at s 0 0 (length (seven_words u) + suc m) (suc (suc k)) (seven_words u ++ section_words x) refl (omega arith) (follows_both s 0 (suc m) (seven_words u) (section_words x) there f)),
          ))
          (section_next s (counters n) c j m (counter_open n g.tasks.0) (counters_fit u g) (omega (arith, b, ap length (eight_words u), length-append (seven_words u) (section_words c)))
          (follows_rest s 0 m (seven_words u) (section_words c) (follows_at s 0 0 (suc k) (length (seven_words u) + m) (seven_words u ++ section_words c) refl (sym at) h'))))
        where
          m : ℕ
          m = suc k - length (seven_words u)

          j : ℕ
          j = 0 + 4 * length (seven_words u)

          at : length (seven_words u) + m ≡ suc k
          at = omega arith

          there : Spells s 0 (seven_words u)
          there = follows_spells s 0 (suc k) (seven_words u) (section_words c) a h'

          back : (x : List (List ℕ)) → SectionFits (counters n) x → setup_words (setup_of P (sections_of u) x) ≡ seven_words u ++ section_words x
          back x o =
              eight_words (setup_of P (sections_of u) x)
              ∙ (λ z. (seven_words_lem (setup_of P (sections_of u) x) ∙ ap (λ (l : List (List (List ℕ))). section_words (replicate P []) ++ sections_words l) (sections_setup P (sections_of u) x (good_fits u g)) ∙ sym (seven_words_lem u)) z ++ section_words (counters_back n x o.1 z))

      go : Dec (suc k < length (seven_words u)) → Target (get_or (word_faults u) (suc k) S1)
      go (yes a) = early a
      go (no a) = late (omega arith)

-- ---- along the bytes: the reader comes to the end of a setup in range, or stops at a fault, not before word k

module _ (s : List ℕ) where
  follows_few : (i k : ℕ) (l : List ℕ) → Follows s i k l → k ≤ length l
  follows_few i zero l h = omega arith
  follows_few i (suc k) [] h = absurd h
  follows_few i (suc k) (w ∷ l) h = omega (arith, follows_few (i + 4) k l h.2)

  follows_long : (i k : ℕ) (l : List ℕ) → i ≤ length s → Follows s i k l → i + 4 * k ≤ length s
  follows_long i zero l b h = omega arith
  follows_long i (suc k) [] b h = absurd h
  follows_long i (suc k) (w ∷ l) b h = omega (arith, follows_long (i + 4) k l h.0 h.2)

  spells_follows : (i : ℕ) (l : List ℕ) → Spells s i l → Follows s i (length l) l
  spells_follows i [] h = tt
  spells_follows i (w ∷ l) h = (h.0, h.1, spells_follows (i + 4) l h.2)

  -- where the reader stops at word j of u
  abbrev Stops : Setup → ℕ → Type 0
  Stops u j =
      ((length s < 4 * j + 4) × (read_setup s 0 ≡ refused S1 (4 * j)))
      ⊎ ((4 * j + 4 ≤ length s) × (read_setup s 0 ≡ refused (get_or (word_faults u) j S1) (4 * j)))

  data Outcome (k : ℕ) : Type 0 where
    ends : (u : Setup) → GoodSetup u → k ≤ length (setup_words u) → Spells s 0 (setup_words u) → Outcome k
    fails : (u : Setup) → GoodSetup u → (j : ℕ) → k ≤ j → j < length (setup_words u) → Follows s 0 j (setup_words u) → Stops u j → Outcome k

  later : (k : ℕ) → Outcome (suc k) → Outcome k
  later k (ends u g b h) = ends u g (omega arith) h
  later k (fails u g j a b h x) = fails u g j (omega arith) b h x

  outcome : (n k : ℕ) (u : Setup) → GoodSetup u → Follows s 0 k (setup_words u) → length s < 4 * (k + n) → Outcome k
  outcome zero k u g h b = absurd (omega (arith, b, follows_long 0 k (setup_words u) (omega arith) h))
  outcome (suc n) k u g h b = go (λ v e f. outcome n (suc k) v e f (omega (arith, b))) (dec_lt k (length (setup_words u)))
    where
      next : ((v : Setup) → GoodSetup v → Follows s 0 (suc k) (setup_words v) → Outcome (suc k)) → k < length (setup_words u)
          → Next s setup_words GoodSetup (get_or (word_faults u) k S1) 0 k (read_setup s 0) → Outcome k
      next rest c (short d q) = fails u g k (omega arith) c h (inl (omega (arith, d), q ∙ ap (λ (p : ℕ). refused S1 p) (omega arith)))
      next rest c (bad d q) = fails u g k (omega arith) c h (inr (omega (arith, d), q ∙ ap (λ (p : ℕ). refused (get_or (word_faults u) k S1) p) (omega arith)))
      next rest c (good v e f) = later k (rest v e f)

      go : ((v : Setup) → GoodSetup v → Follows s 0 (suc k) (setup_words v) → Outcome (suc k)) → Dec (k < length (setup_words u)) → Outcome k
      go rest (yes c) = next rest c (setup_next s u g k c h)
      go rest (no c) = ends u g (follows_few 0 k (setup_words u) h) (follows_spells s 0 k (setup_words u) [] (omega arith) (follows_left s 0 k (setup_words u) [] h))

  from_word : (k : ℕ) (u : Setup) → GoodSetup u → Follows s 0 k (setup_words u) → Outcome k
  from_word k u g h = outcome (suc (length s)) k u g h (omega arith)

-- ---- words and bytes

four : (k : ℕ) → 4 * suc k ≡ suc (suc (suc (suc (4 * k))))
four k = omega arith

-- where the first k words stand, the first bytes are theirs
follows_bytes : (k : ℕ) (l s : List ℕ) → Bytes s → Follows s 0 k l → take (4 * k) s ≡ take (4 * k) (joined (map word_bytes l))
follows_bytes zero l s b h = refl
follows_bytes (suc k) [] s b h = absurd h
follows_bytes (suc k) (w ∷ l) [] b h = absurd (omega (arith, h.0))
follows_bytes (suc k) (w ∷ l) (x ∷ []) b h = absurd (omega (arith, h.0))
follows_bytes (suc k) (w ∷ l) (x ∷ y ∷ []) b h = absurd (omega (arith, h.0))
follows_bytes (suc k) (w ∷ l) (x ∷ y ∷ z ∷ []) b h = absurd (omega (arith, h.0))
follows_bytes (suc k) (w ∷ l) (x ∷ y ∷ z ∷ t ∷ s) b h =
    rw (four k) (
    (λ i. sym (word_bytes_lem x y z t b.0 b.1.0 b.1.1.0 b.1.1.1.0) i ++ take (4 * k) s)
    ∙ (λ i. word_bytes (h.1 i) ++ follows_bytes k l s b.1.1.1.1 (follows_before 0 k l h.2) i))
  where
    follows_before : (i k : ℕ) (l : List ℕ) → Follows (x ∷ y ∷ z ∷ t ∷ s) (i + 4) k l → Follows s i k l
    follows_before i zero l h = tt
    follows_before i (suc k) [] h = absurd h
    follows_before i (suc k) (w ∷ l) h = (omega (arith, h.0), sym (word_at_behind x y z t s i) ∙ h.1, follows_before (i + 4) k l h.2)

-- where the first n bytes are the same, so are the words in them
module _ (s t : List ℕ) (n : ℕ) (e : take n s ≡ take n t) where
  byte_same : (i : ℕ) → i < n → get_or t i 0 ≡ get_or s i 0
  byte_same i h = sym (get_or-take n t i 0 h) ∙ ap (λ (l : List ℕ). get_or l i 0) (sym e) ∙ get_or-take n s i 0 h

  word_same : (i : ℕ) → i + 4 ≤ n → word_at s i ≡ word_at t i
  word_same i h = λ z.
      sym (byte_same i (omega arith)) z + 256 * sym (byte_same (i + 1) (omega arith)) z + 65536 * sym (byte_same (i + 2) (omega arith)) z + 16777216 * sym (byte_same (i + 3) (omega arith)) z

  spells_follow : (i k : ℕ) (l : List ℕ) → i + 4 * k ≤ n → n ≤ length s → k ≤ length l → Spells t i l → Follows s i k l
  spells_follow i zero l a b c h = tt
  spells_follow i (suc k) [] a b c h = absurd (omega (arith, c))
  spells_follow i (suc k) (w ∷ l) a b c h =
      (omega arith, word_same i (omega arith) ∙ h.1, spells_follow (i + 4) k l (omega arith) b (omega (arith, c)) h.2)

module _ (s : List ℕ) (k : ℕ) (u : Setup) (g : GoodSetup u) where
  begins_follows : Begins s (4 * k) u → Follows s 0 k (setup_words u)
  begins_follows h =
      spells_follow s (setup_bytes u) (4 * k) h.2 0 k (setup_words u) (omega arith) h.0 (omega (arith, h.1, length_written (setup_words u))) (written_spells (setup_words u) (narrow u g))

  follows_begins : Bytes s → Follows s 0 k (setup_words u) → Begins s (4 * k) u
  follows_begins b h = (
    omega (arith, follows_long s 0 k (setup_words u) (omega arith) h),
    omega (arith, follows_few s 0 k (setup_words u) h, length_written (setup_words u)),
    follows_bytes k (setup_words u) s b h,
  )

-- ---- what a read tells of itself

abbrev stopped_at : {A : Type 0} → Read A → ℕ
stopped_at (got a i) = 0
stopped_at (refused d p) = suc p

abbrev stopped_by : {A : Type 0} → Read A → Fault
stopped_by (got a i) = S1
stopped_by (refused d p) = d

got_refused : {A : Type 0} (a : A) (i : ℕ) (d : Fault) (p : ℕ) → got a i ≡ refused d p → ⊥
got_refused a i d p e = let z : 0 ≡ suc p = ap stopped_at e in omega arith

-- each word has the fault S2 or S3
abbrev Kind : Fault → Type 0
Kind f = (f ≡ S2) ⊎ (f ≡ S3)

kind_at : (l : List (List ℕ)) (j : ℕ) → j < length (joined l) → Kind (get_or (joined (map section_faults l)) j S1)
kind_at [] j h = absurd (omega (arith, h))
kind_at ([] ∷ l) j h = kind_at l j h
kind_at ((n ∷ x) ∷ l) zero h = inl refl
kind_at ((n ∷ x) ∷ l) (suc j) h = go x j (λ k. kind_at l k) (omega (arith, h))
  where
    go : (x : List ℕ) (j : ℕ) → ((k : ℕ) → k < length (joined l) → Kind (get_or (joined (map section_faults l)) k S1)) → j < length (x ++ joined l)
        → Kind (get_or (map (λ w. S3) x ++ joined (map section_faults l)) j S1)
    go [] j f h = f j h
    go (w ∷ x) zero f h = inr refl
    go (w ∷ x) (suc j) f h = go x j f (omega (arith, h))

-- ---- a setup alone: read like a recorded one, or its bytes end after seven sections

module _ {A B : Type 0} (E : Type 0) where
  same_or : (P : A → ℕ → Type 0) (r : Read A) (f g : A → ℕ → Read B) → Reads P r → ((a : A) (i : ℕ) → P a i → (f a i ≡ g a i) ⊎ E) → (and_then r f ≡ and_then r g) ⊎ E
  unfolding and_then
  same_or P (got a i) f g h k = k a i h
  same_or P (refused d p) f g h k = inl refl

module _ (s : List ℕ) where
  alone_or_seven : Bytes s → (read_with perhaps s 0 ≡ read_setup s 0) ⊎ EndsAfterSeven s
  unfolding read_setup read_with perhaps
  alone_or_seven b =
      same_or (EndsAfterSeven s) _ (read_section s priorities 0) _ _ (priorities_known s 0)
      (λ p j g. same_or (EndsAfterSeven s) _ (read_sections s (sections (length p)) j) _ _ (six_known s (length p) j g.0.1)
      (λ l k h. go p j l k g.0.0 g.1 h.0.0 h.0.1 h.1 (leb (length s) k) refl))
    where
      go : (p : List (List ℕ)) (j : ℕ) (l : List (List (List ℕ))) (k : ℕ) → SectionFits priorities p → Stands s section_words 0 p j
          → SectionsFit (sections (length p)) l → k ≤ length s → Stands s sections_words j l k → (t : Bool) → leb (length s) k ≡ t
          → (and_then (cond t (got [] k) (read_section s (counters (length (entries_of l 0))) k)) (λ c n. got (setup_of (length p) l c) n) ≡ and_then (read_section s (counters (length (entries_of l 0))) k) (λ c n. got (setup_of (length p) l c) n)) ⊎ EndsAfterSeven s
      go p j l k f g e d h true q = inr (record {
        setup = setup_of (length p) l [];
        good = good_sections (length p) l [] f.0 e ((omega arith, omega arith), tt);
        none = refl;
        bytes = let x = seven_stand s 0 p j l k [] f g e h in spells_written (seven_words (setup_of (length p) l [])) s b x.1 (omega (arith, x.0, d, leb-true (length s) k q));
      })
      go p j l k f g e d h false q = inl refl

  module _ (q : EndsAfterSeven s) where
    seven_there : (length s ≡ 4 * length (seven_words q.setup)) × Spells s 0 (seven_words q.setup)
    seven_there = subst (λ (t : List ℕ). (length t ≡ 4 * length (seven_words q.setup)) × Spells t 0 (seven_words q.setup)) (sym q.bytes)
        (length_written (seven_words q.setup), written_spells (seven_words q.setup) (narrow_seven q.setup q.good))

    -- Alone it is that setup;
    pub seven_accepted : setup s ≡ got q.setup (length s)
    seven_accepted = subst (λ (t : List ℕ). setup t ≡ got q.setup (length t)) (sym q.bytes) (seven_back q.setup q.good q.none)

    -- recorded it lacks a word.
    pub seven_short : read_setup s 0 ≡ refused S1 (length s)
    unfolding read_setup read_section read_word and_then
    seven_short =
        seven_got q.setup q.good read_section s 0 seven_there.1
        ∙ rw (lt-leb (0 + 4 * length (seven_words q.setup) + 4) (length s) (omega (arith, seven_there.0))) (ap (λ (i : ℕ). refused S1 i) (omega (arith, seven_there.0)))

-- ---- the first fault

module _ (s : List ℕ) (b : Bytes s) where
  -- where a setup alone is read like a recorded one
  abbrev Same : Type 0
  Same = read_with perhaps s 0 ≡ read_setup s 0

  setup_refused : Same → (d : Fault) (p : ℕ) → read_setup s 0 ≡ refused d p → setup s ≡ refused d p
  unfolding setup at_end
  setup_refused a d p e = rw (a, e)

  left_over : Same → (u : Setup) (i : ℕ) → read_setup s 0 ≡ got u i → i < length s → setup s ≡ refused S4 i
  unfolding setup at_end
  left_over a u i e h = rw (a, e, lt-leb (length s) i h)

  -- where the reader stops at word j, no setup in range has the bytes up to that word's end
  none_begins : (f : Fault) (j : ℕ) → read_setup s 0 ≡ refused f (4 * j) → (u : Setup) → GoodSetup u → Begins s (4 * j + 4) u → ⊥
  none_begins f j q u g h = go (from_word s (suc j) u g (begins_follows s (suc j) u g (subst (λ (n : ℕ). Begins s n u) e h)))
    where
      e : 4 * j + 4 ≡ 4 * suc j
      e = omega arith

      later_place : (d : Fault) (k : ℕ) → suc j ≤ k → read_setup s 0 ≡ refused d (4 * k) → ⊥
      later_place d k c r = let z : suc (4 * j) ≡ suc (4 * k) = ap stopped_at (sym q ∙ r) in omega arith

      go : Outcome s (suc j) → ⊥
      go (ends v w c x) = got_refused v _ f (4 * j) (sym (setup_got v w s 0 x) ∙ q)
      go (fails v w k c d x y) = elim y [ inl r ↦ later_place S1 k c r.1 | inr r ↦ later_place _ k c r.1 ]

  needed : (p : ℕ) (n : Needs s p) → Follows s 0 n.word (setup_words n.setup)
  needed p n = begins_follows s n.word n.setup n.good (subst (λ (i : ℕ). Begins s i n.setup) n.place n.begins)

  -- a word outside its range is refused by its fault
  outside_told : (f : Fault) (p : ℕ) (n : Needs s p) → get_or (word_faults n.setup) n.word S1 ≡ f → Outside s p → setup s ≡ refused f p
  outside_told f p n e o = elim (alone_or_seven s b) [ inl a ↦ go a (setup_next s n.setup n.good n.word n.there (needed p n)) | inr q ↦ absurd (begins q) ]
    where
      -- the bytes of the seven sections begin their setup
      begins : EndsAfterSeven s → ⊥
      begins q =
          o.1 q.setup q.good (subst (λ (i : ℕ). Begins s i q.setup) (omega (arith, n.place)) (follows_begins s (suc n.word) q.setup q.good b
          (subst (Follows s 0 (suc n.word)) (sym (eight_words q.setup)) (follows_left s 0 (suc n.word) (seven_words q.setup) _
          (spells_follow s s (length s) refl 0 (suc n.word) (seven_words q.setup) (omega (arith, o.0, n.place)) (omega arith) (omega (arith, o.0, n.place, (seven_there s q).0)) (seven_there s q).1)))))

      go : Same → Next s setup_words GoodSetup (get_or (word_faults n.setup) n.word S1) 0 n.word (read_setup s 0) → setup s ≡ refused f p
      go a (short c q) = absurd (omega (arith, o.0, n.place))
      go a (bad c q) = setup_refused a f p (q ∙ (λ z. refused (e z) (at z)))
        where
          at : 0 + 4 * n.word ≡ p
          at = omega (arith, n.place)
      go a (good u g h) = absurd (o.1 u g (subst (λ (i : ℕ). Begins s i u) at (follows_begins s (suc n.word) u g b h)))
        where
          at : 4 * suc n.word ≡ p + 4
          at = omega (arith, n.place)

  -- what comes of the bytes
  data Decided : Type 0 where
    accepted : (u : Setup) → GoodSetup u → setup s ≡ got u (length s) → Decided
    faulty : (d : Fault) (p : ℕ) → setup s ≡ refused d p → HasFault s d p → Decided

  decided : Decided
  decided = elim (alone_or_seven s b) [ inl a ↦ go a (from_word s 0 (smallest 1) (smallest_good 1 (omega arith, omega arith)) tt) | inr q ↦ accepted q.setup q.good (seven_accepted s q) ]
    where
      needs : (u : Setup) → GoodSetup u → (j : ℕ) → j < length (setup_words u) → Follows s 0 j (setup_words u) → Needs s (4 * j)
      needs u g j c h = record { setup = u; good = g; word = j; there = c; place = refl; begins = follows_begins s j u g b h }

      stopped : Same → (u : Setup) (g : GoodSetup u) (j : ℕ) → j < length (setup_words u) → Follows s 0 j (setup_words u) → Stops s u j → Decided
      stopped a u g j c h (inl r) =
          let e = setup_refused a S1 (4 * j) r.1 in
          faulty S1 (4 * j) e (needs u g j c h, r.0, λ q. got_refused q.setup (length s) S1 (4 * j) (sym (seven_accepted s q) ∙ e))
      stopped a u g j c h (inr r) = kind (get_or (word_faults u) j S1) refl (kind_at (setup_sections u) j c) r.1
        where
          outside : (f : Fault) → read_setup s 0 ≡ refused f (4 * j) → Outside s (4 * j)
          outside f q = (r.0, none_begins f j q)

          kind : (f : Fault) → get_or (word_faults u) j S1 ≡ f → Kind f → read_setup s 0 ≡ refused f (4 * j) → Decided
          kind f e (inl k) q = faulty S2 (4 * j) (setup_refused a S2 (4 * j) (q ∙ ap (λ (d : Fault). refused d (4 * j)) k)) (needs u g j c h, e ∙ k, outside f q)
          kind f e (inr k) q = faulty S3 (4 * j) (setup_refused a S3 (4 * j) (q ∙ ap (λ (d : Fault). refused d (4 * j)) k)) (needs u g j c h, e ∙ k, outside f q)

      -- a setup in range stands there whole: nothing follows, or bytes are left over
      ended : Same → (u : Setup) → GoodSetup u → Spells s 0 (setup_words u) → Decided
      ended a u g h = left (dec_lt n (length s))
        where
          n : ℕ
          n = 4 * length (setup_words u)

          starts : Begins s n u
          starts = follows_begins s (length (setup_words u)) u g b (spells_follows s 0 (setup_words u) h)

          read : read_setup s 0 ≡ got u n
          read = setup_got u g s 0 h ∙ ap (λ (i : ℕ). got u i) (omega arith)

          left : Dec (n < length s) → Decided
          left (yes c) = faulty S4 n (left_over a u n read c) (u, g, starts, sym (length_written (setup_words u)), c)
          left (no c) = accepted u g (whole (omega (arith, starts.0)))
            where
              whole : n ≡ length s → setup s ≡ got u (length s)
              whole e = unfold setup at_end in rw (a, read, e, le-leb (length s) (length s) (omega arith))

      go : Same → Outcome s 0 → Decided
      go a (ends u g c h) = ended a u g h
      go a (fails u g j e c h r) = stopped a u g j c h r

  -- a fault that is there is the one that is told
  told : (d : Fault) (p : ℕ) → HasFault s d p → setup s ≡ refused d p
  told S1 p h = elim (alone_or_seven s b) [ inl a ↦ go a (setup_next s n.setup n.good n.word n.there (needed p n)) | inr q ↦ absurd (h.2 q) ]
    where
      n : Needs s p
      n = h.0

      go : Same → Next s setup_words GoodSetup (get_or (word_faults n.setup) n.word S1) 0 n.word (read_setup s 0) → setup s ≡ refused S1 p
      go a (short c q) = setup_refused a S1 p (q ∙ ap (λ (i : ℕ). refused S1 i) (omega (arith, n.place)))
      go a (bad c q) = absurd (omega (arith, h.1, n.place))
      go a (good u g f) = absurd (omega (arith, h.1, n.place, follows_long s 0 (suc n.word) (setup_words u) (omega arith) f))
  told S2 p h = outside_told S2 p h.0 h.1 h.2
  told S3 p h = outside_told S3 p h.0 h.1 h.2
  told S4 p h = elim (alone_or_seven s b) [ inl a ↦ left_over a u p read h.4 | inr q ↦ absurd (got_refused u p S1 (length s) (sym read ∙ seven_short s q)) ]
    where
      u : Setup
      u = h.0

      g : GoodSetup u
      g = h.1

      at : p ≡ 4 * length (setup_words u)
      at = h.3 ∙ length_written (setup_words u)

      there : Spells s 0 (setup_words u)
      there =
          follows_spells s 0 (length (setup_words u)) (setup_words u) [] (omega arith)
          (follows_left s 0 (length (setup_words u)) (setup_words u) [] (begins_follows s (length (setup_words u)) u g (subst (λ (i : ℕ). Begins s i u) at h.2)))

      read : read_setup s 0 ≡ got u p
      read = setup_got u g s 0 there ∙ ap (λ (i : ℕ). got u i) (omega (arith, at))

  -- A list of bytes is refused with a fault and a place exactly if it has that fault there.
  pub refused_exactly : (d : Fault) (p : ℕ) → (setup s ≡ refused d p) ↔ HasFault s d p
  refused_exactly d p = (λ e. go e decided, told d p)
    where
      go : setup s ≡ refused d p → Decided → HasFault s d p
      go e (accepted u g q) = absurd (got_refused u (length s) d p (sym q ∙ e))
      go e (faulty f i q h) = subst (λ (j : ℕ). HasFault s d j) place (subst (λ (c : Fault). HasFault s c i) (ap stopped_by (sym q ∙ e)) h)
        where
          place : i ≡ p
          place = let z : suc i ≡ suc p = ap stopped_at (sym q ∙ e) in omega arith

  -- It is a setup in range, or it has a fault;
  pub setup_or_fault : ((u : Setup) × GoodSetup u × Alone u s) ⊎ ((d : Fault) × (p : ℕ) × HasFault s d p)
  setup_or_fault = go decided
    where
      go : Decided → ((u : Setup) × GoodSetup u × Alone u s) ⊎ ((d : Fault) × (p : ℕ) × HasFault s d p)
      go (accepted u g e) = inl (u, g, accepted_written s u (length s) e b)
      go (faulty d p e h) = inr (d, p, h)

  -- one only,
  pub one_fault : (d e : Fault) (p q : ℕ) → HasFault s d p → HasFault s e q → (d ≡ e) × (p ≡ q)
  one_fault d e p q h k = (ap stopped_by same, place)
    where
      same : ◌≡◌ {A = Read Setup} (refused d p) (refused e q)
      same = sym (told d p h) ∙ told e q k

      place : p ≡ q
      place = let z : suc p ≡ suc q = ap stopped_at same in omega arith

  -- and not both.
  pub fault_no_setup : (d : Fault) (p : ℕ) → HasFault s d p → (u : Setup) → GoodSetup u → Alone u s → ⊥
  fault_no_setup d p h u g e = got_refused u (length s) d p (sym ((accepted_exactly s b u).1 (g, e)) ∙ told d p h)
