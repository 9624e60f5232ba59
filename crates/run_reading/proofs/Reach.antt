-- How far a read reaches: what it gives depends on the bytes up to there alone, and it reaches no further than its section's size. So setup and count
-- read alike whatever follows, once they are read or refused for anything but their end. Assumes nothing.
use mathlib.Core.Bool.{Bool, true, false, cond, ◌&&◌}
use mathlib.Core.List.{List, [], ◌∷◌, ◌++◌}
use mathlib.Core.Path.{◌≡◌, refl, sym, ap, ◌∙◌, subst}
use Prim.Native.Nat.{ℕ, zero, suc, ◌+◌, ◌*◌, ◌≤◌, ◌<◌}
use native.Mathlib.Nat.{mul-le-mul_right}
use native.Mathlib.Omega.{arith}
use lib.Dec.{leb}
use lib.ListN.{length, take, get_or, length-take, length-append}
use borrow.Author.Tests.{le-leb, leb-true, leb-false}
use Rattle.rules.specs.Setup.{Fault, S1, S2, S3, S4, Read, got, refused, and_then, word_at, Range, to, within, read_word, Section, priorities, sections, counters, read_entry, read_entries, read_section, read_sections, Setup, entries_of, setup_of, read_with, read_setup, perhaps, at_end, setup}
use Rattle.rules.proofs.Accepted.{Reads, from_read, reads_both, reads_itself, reads_then}
use Rattle.rules_setups.proofs.Recorded.{from_more, more_alone}
use Rattle.setup_sections.proofs.Reading.{WordAt, word_lies}
use Rattle.run_reading.specs.Recorded.{most_events, head_bytes, Head, read_head}

-- the offset behind the last byte that decided
abbrev pub reach : {A : Type 0} → Read A → ℕ
reach (got a next) = next
reach (refused d place) = place + 4

-- a word that is read is whole and within its range
pub word_within : (s : List ℕ) (r : Range) (f : Fault) (i : ℕ) → Reads (λ w j. (i + 4 ≤ length s) × (w ≤ r.most)) (read_word s r f i)
unfolding read_word
word_within s r f i = go (leb (i + 4) (length s)) (leb r.least (word_at s i)) (leb (word_at s i) r.most) refl refl
  where
    go : (e l m : Bool) → leb (i + 4) (length s) ≡ e → leb (word_at s i) r.most ≡ m → Reads (λ w j. (i + 4 ≤ length s) × (w ≤ r.most)) (cond e (cond (l && m) (got (word_at s i) (i + 4)) (refused f i)) (refused S1 i))
    go true true true p q = (leb-true _ _ p, leb-true _ _ q)
    go true true false p q = tt
    go true false m p q = tt
    go false l m p q = tt

-- the most bytes of a section, and of a list of them
abbrev size_of : Section → ℕ
size_of x = 4 + x.count.most * (4 * length x.entry)

abbrev sizes_of : List Section → ℕ
sizes_of [] = 0
sizes_of (x ∷ l) = size_of x + sizes_of l

-- s and t have the same first n bytes
module _ (s t : List ℕ) (n : ℕ) (hs : n ≤ length s) (ht : n ≤ length t) (agree : (k : ℕ) → k < n → get_or t k 0 ≡ get_or s k 0) where
  -- r is read from i in s, and r' in t; it reaches at most b bytes
  pub record Steady {A : Type 0} (i b : ℕ) (r r' : Read A) : Type 0 where
    pub from : i ≤ reach r
    pub most : reach r ≤ i + b
    pub same : reach r ≤ n → r' ≡ r

  pub steady_got : {A : Type 0} (a : A) (i : ℕ) → Steady i 0 (got a i) (got a i)
  steady_got a i = record { from = omega arith; most = omega arith; same = λ h. refl }

  pub steady_then : {A B : Type 0} {i b c : ℕ} (r r' : Read A) {f f' : A → ℕ → Read B} → Steady i b r r'
      → ((a : A) (k : ℕ) → r ≡ got a k → Steady k c (f a k) (f' a k)) → Steady i (b + c) (and_then r f) (and_then r' f')
  unfolding and_then
  steady_then (got a k) r' {f} {f'} S g =
      let T = g a k refl in
      record { from = omega (arith, S.from, T.from); most = omega (arith, S.most, T.most); same = λ h. ap (λ x. and_then x f') (S.same (omega (arith, h, T.from))) ∙ T.same h }
  steady_then (refused d p) r' {f} {f'} S g = record { from = S.from; most = omega (arith, S.most); same = λ h. ap (λ x. and_then x f') (S.same h) }

  same_word : (i : ℕ) → i + 4 ≤ n → word_at t i ≡ word_at s i
  same_word i h = rw (agree i (omega (arith, h)), agree (i + 1) (omega (arith, h)), agree (i + 2) (omega (arith, h)), agree (i + 3) (omega (arith, h)))

  word_steady : (r : Range) (f : Fault) (i : ℕ) → Steady i 4 (read_word s r f i) (read_word t r f i)
  unfolding read_word
  word_steady r f i = record { from = omega (arith, ends); most = omega (arith, ends); same = alike }
    where
      ends : reach (read_word s r f i) ≡ i + 4
      ends = go (leb (i + 4) (length s)) (within r (word_at s i))
        where
          go : (e m : Bool) → reach (cond {A = Read ℕ} e (cond m (got (word_at s i) (i + 4)) (refused f i)) (refused S1 i)) ≡ i + 4
          go true true = refl
          go true false = refl
          go false m = refl

      alike : reach (read_word s r f i) ≤ n → read_word t r f i ≡ read_word s r f i
      alike h = let k : i + 4 ≤ n = omega (arith, h, ends) in rw (le-leb (i + 4) (length t) (omega (arith, k)), le-leb (i + 4) (length s) (omega (arith, k)), same_word i k)

  entry_steady : (e : List Range) (i : ℕ) → Steady i (4 * length e) (read_entry s e i) (read_entry t e i)
  unfolding read_entry
  entry_steady [] i = steady_got [] i
  entry_steady (r ∷ e) i =
      let m : 4 + (4 * length e + 0) ≡ 4 * suc (length e) = omega arith in
      subst (λ (b : ℕ). Steady i b (read_entry s (r ∷ e) i) (read_entry t (r ∷ e) i)) m
      (steady_then (read_word s r S3 i) (read_word t r S3 i) (word_steady r S3 i)
      (λ w j q. steady_then (read_entry s e j) (read_entry t e j) (entry_steady e j) (λ ws k p. steady_got (w ∷ ws) k)))

  entries_steady : (e : List Range) (m i : ℕ) → Steady i (m * (4 * length e)) (read_entries s e m i) (read_entries t e m i)
  unfolding read_entries
  entries_steady e zero i = let z : 0 ≡ 0 * (4 * length e) = omega arith in subst (λ (b : ℕ). Steady i b (read_entries s e 0 i) (read_entries t e 0 i)) z (steady_got [] i)
  entries_steady e (suc m) i =
      let b : 4 * length e + (m * (4 * length e) + 0) ≡ suc m * (4 * length e) = omega arith in
      subst (λ (b : ℕ). Steady i b (read_entries s e (suc m) i) (read_entries t e (suc m) i)) b
      (steady_then (read_entry s e i) (read_entry t e i) (entry_steady e i)
      (λ x j q. steady_then (read_entries s e m j) (read_entries t e m j) (entries_steady e m j) (λ xs k p. steady_got (x ∷ xs) k)))

  -- it may reach further than it does
  wider : {A : Type 0} {i b c : ℕ} {r r' : Read A} → b ≤ c → Steady i b r r' → Steady i c r r'
  wider h S = record { from = S.from; most = omega (arith, h, S.most); same = S.same }

  pub section_steady : (x : Section) (i : ℕ) → Steady i (size_of x) (read_section s x i) (read_section t x i)
  unfolding read_section
  section_steady x i =
      steady_then (read_word s x.count S2 i) (read_word t x.count S2 i) (word_steady x.count S2 i)
      (λ m j q. let h = (from_read _ _ m j q (word_within s x.count S2 i)).1 in wider (mul-le-mul_right (4 * length x.entry) h) (entries_steady x.entry m j))

  sections_steady : (l : List Section) (i : ℕ) → Steady i (sizes_of l) (read_sections s l i) (read_sections t l i)
  unfolding read_sections
  sections_steady [] i = steady_got [] i
  sections_steady (x ∷ l) i =
      let m : size_of x + (sizes_of l + 0) ≡ size_of x + sizes_of l = omega arith in
      subst (λ (b : ℕ). Steady i b (read_sections s (x ∷ l) i) (read_sections t (x ∷ l) i)) m
      (steady_then (read_section s x i) (read_section t x i) (section_steady x i)
      (λ y j q. steady_then (read_sections s l j) (read_sections t l j) (sections_steady l j) (λ ys k p. steady_got (y ∷ ys) k)))

  pub setup_steady : (i : ℕ) → Steady i 516 (read_setup s i) (read_setup t i)
  unfolding read_setup read_with
  setup_steady i =
      steady_then (read_section s priorities i) (read_section t priorities i) (section_steady priorities i)
      (λ p j q. steady_then (read_sections s (sections (length p)) j) (read_sections t (sections (length p)) j) (sections_steady (sections (length p)) j)
      (λ l k r. let x : Section = counters (length (entries_of l 0)) in steady_then (read_section s x k) (read_section t x k) (section_steady x k) (λ c m w. steady_got (setup_of (length p) l c) m)))

  head_steady : Steady 0 head_bytes (read_head s) (read_head t)
  unfolding read_head
  head_steady =
      steady_then (read_setup s 0) (read_setup t 0) (setup_steady 0)
      (λ u i q. steady_then (read_word s (to 0 most_events) S2 i) (read_word t (to 0 most_events) S2 i) (word_steady (to 0 most_events) S2 i) (λ m j p. steady_got (record { setup = u; events = m }) j))

-- ---- a setup in front of other bytes

pub get_d_take : (s : List ℕ) (n k : ℕ) → k < n → get_or (take n s) k 0 ≡ get_or s k 0
get_d_take [] zero k h = refl
get_d_take [] (suc n) k h = refl
get_d_take (x ∷ s) zero k h = absurd (omega (arith, h))
get_d_take (x ∷ s) (suc n) zero h = refl
get_d_take (x ∷ s) (suc n) (suc k) h = get_d_take s n k (omega (arith, h))

pub setup_prefix : (s : List ℕ) (u : Setup) (k : ℕ) → read_setup s 0 ≡ got u k → k ≤ length s → setup (take k s) ≡ got u k
unfolding setup at_end
setup_prefix s u k e h =
    let l : length (take k s) ≡ k = length-take k s ∙ omega (arith, h) in
    let r : read_setup (take k s) 0 ≡ read_setup s 0 = (setup_steady s (take k s) k h (omega (arith, l)) (λ j q. get_d_take s k j q) 0).same (rw e (omega arith)) in
    let a : read_with perhaps (take k s) 0 ≡ got u k = from_more (read_setup (take k s) 0) _ u k (r ∙ e) (more_alone (take k s) 0) in
    rw a (rw (le-leb (length (take k s)) k (omega (arith, l))) refl)

-- ---- a read's word is whole, but for S1

-- what was read ends within the bytes; a word that is refused for its number is whole; one refused by S1 is not
abbrev Ends : {A : Type 0} → List ℕ → Read A → Type 0
Ends s (got a k) = k ≤ length s
Ends s (refused S1 p) = length s < p + 4
Ends s (refused S2 p) = p + 4 ≤ length s
Ends s (refused S3 p) = p + 4 ≤ length s
Ends s (refused S4 p) = p + 4 ≤ length s

-- the fault of a word outside its range
abbrev pub Proper : Fault → Type 0
Proper S1 = ⊥
Proper S2 = Unit {0}
Proper S3 = Unit {0}
Proper S4 = Unit {0}

module _ (s : List ℕ) where
  ends_then : {A B : Type 0} (r : Read A) (f : A → ℕ → Read B) → Ends s r → ((a : A) (k : ℕ) → k ≤ length s → Ends s (f a k)) → Ends s (and_then r f)
  unfolding and_then
  ends_then (got a k) f h g = g a k h
  ends_then (refused S1 p) f h g = h
  ends_then (refused S2 p) f h g = h
  ends_then (refused S3 p) f h g = h
  ends_then (refused S4 p) f h g = h

  word_ends : (r : Range) (f : Fault) → Proper f → (i : ℕ) → Ends s (read_word s r f i)
  unfolding read_word
  word_ends r f proper i = go f proper (leb (i + 4) (length s)) (within r (word_at s i)) refl
    where
      go : (f : Fault) → Proper f → (e m : Bool) → leb (i + 4) (length s) ≡ e → Ends s (cond {A = Read ℕ} e (cond m (got (word_at s i) (i + 4)) (refused f i)) (refused S1 i))
      go f h true true q = leb-true _ _ q
      go S1 h true false q = absurd h
      go S2 h true false q = leb-true _ _ q
      go S3 h true false q = leb-true _ _ q
      go S4 h true false q = leb-true _ _ q
      go f h false m q = leb-false _ _ q

  entry_ends : (e : List Range) (i : ℕ) → i ≤ length s → Ends s (read_entry s e i)
  unfolding read_entry
  entry_ends [] i h = h
  entry_ends (r ∷ e) i h = ends_then (read_word s r S3 i) _ (word_ends r S3 tt i) (λ w j k. ends_then (read_entry s e j) _ (entry_ends e j k) (λ ws l m. m))

  entries_ends : (e : List Range) (n i : ℕ) → i ≤ length s → Ends s (read_entries s e n i)
  unfolding read_entries
  entries_ends e zero i h = h
  entries_ends e (suc n) i h = ends_then (read_entry s e i) _ (entry_ends e i h) (λ x j k. ends_then (read_entries s e n j) _ (entries_ends e n j k) (λ xs l m. m))

  section_ends : (x : Section) (i : ℕ) → Ends s (read_section s x i)
  unfolding read_section
  section_ends x i = ends_then (read_word s x.count S2 i) _ (word_ends x.count S2 tt i) (λ n j k. entries_ends x.entry n j k)

  sections_ends : (l : List Section) (i : ℕ) → i ≤ length s → Ends s (read_sections s l i)
  unfolding read_sections
  sections_ends [] i h = h
  sections_ends (x ∷ l) i h = ends_then (read_section s x i) _ (section_ends x i) (λ y j k. ends_then (read_sections s l j) _ (sections_ends l j k) (λ ys k m. m))

  pub head_ends : Ends s (read_head s)
  unfolding read_head read_setup read_with
  head_ends =
      ends_then (read_setup s 0) _
      (ends_then (read_section s priorities 0) _ (section_ends priorities 0) (λ p j k. ends_then (read_sections s (sections (length p)) j) _ (sections_ends (sections (length p)) j k)
      (λ l i m. ends_then (read_section s (counters (length (entries_of l 0))) i) _ (section_ends (counters (length (entries_of l 0))) i) (λ c n w. w))))
      (λ u i k. ends_then (read_word s (to 0 most_events) S2 i) _ (word_ends (to 0 most_events) S2 tt i) (λ n j m. m))

-- ---- more bytes behind

get_d_front : (a b : List ℕ) (k : ℕ) → k < length a → get_or (a ++ b) k 0 ≡ get_or a k 0
get_d_front [] b k h = absurd (omega (arith, h))
get_d_front (x ∷ a) b zero h = refl
get_d_front (x ∷ a) b (suc k) h = get_d_front a b k (omega (arith, h))

-- what was read, or refused for a number, stays whatever follows
pub head_stays : (s t : List ℕ) → reach (read_head s) ≤ length s → read_head (s ++ t) ≡ read_head s
head_stays s t h = (head_steady s (s ++ t) (length s) (omega arith) (omega (arith, length-append s t)) (λ k l. get_d_front s t k l)).same h

pub got_stays : (s t : List ℕ) (h : Head) (i : ℕ) → read_head s ≡ got h i → read_head (s ++ t) ≡ got h i
got_stays s t h i e = head_stays s t (rw e (rw e at (head_ends s))) ∙ e

pub refused_stays : (s t : List ℕ) (f : Fault) → Proper f → (p : ℕ) → read_head s ≡ refused f p → read_head (s ++ t) ≡ refused f p
refused_stays s t S1 g p e = absurd g
refused_stays s t S2 g p e = head_stays s t (rw e (rw e at (head_ends s))) ∙ e
refused_stays s t S3 g p e = head_stays s t (rw e (rw e at (head_ends s))) ∙ e
refused_stays s t S4 g p e = head_stays s t (rw e (rw e at (head_ends s))) ∙ e

abbrev Said : Read Head → Type 0
Said (got h i) = Unit {0}
Said (refused f p) = ⊥

got_refused : {h : Head} {i p : ℕ} → ◌≡◌ {A = Read Head} (got h i) (refused S1 p) → ⊥
got_refused w = subst (λ (r : Read Head). Said r) w tt

-- a head that the last byte completed ends with it
pub head_exact : (l : List ℕ) (b p : ℕ) → read_head l ≡ refused S1 p → (h : Head) (i : ℕ) → read_head (l ++ (b ∷ [])) ≡ got h i → i ≡ length (l ++ (b ∷ []))
head_exact l b p e h i g = go (leb i (length l)) refl
  where
    n : length (l ++ (b ∷ [])) ≡ length l + 1
    n = length-append l (b ∷ [])

    most : i ≤ length (l ++ (b ∷ []))
    most = rw g at (head_ends (l ++ (b ∷ [])))

    go : (t : Bool) → leb i (length l) ≡ t → i ≡ length (l ++ (b ∷ []))
    go true q =
        let a : i ≤ length l = leb-true _ _ q in
        let r : reach (read_head (l ++ (b ∷ []))) ≡ i = ap reach g in
        let z : read_head l ≡ read_head (l ++ (b ∷ [])) = (head_steady (l ++ (b ∷ [])) l (length l) (omega (arith, n)) (omega arith) (λ k m. sym (get_d_front l (b ∷ []) k m))).same (omega (arith, r, a)) in
        absurd (let w : ◌≡◌ {A = Read Head} (got h i) (refused S1 p) = sym g ∙ sym z ∙ e in got_refused w)
    go false q = let a : length l < i = leb-false i (length l) q in omega (arith, a, most, n)

-- more is needed only where fewer bytes than the most are there
pub needs_more : (s : List ℕ) (p : ℕ) → read_head s ≡ refused S1 p → length s < head_bytes
needs_more s p e =
    let S = head_steady s s (length s) (omega arith) (omega arith) (λ k h. refl) in
    let m : p + 4 ≤ 0 + head_bytes = rw e at S.most in
    let n : length s < p + 4 = rw e at (head_ends s) in
    omega (arith, m, n)

-- ---- the parts of a head

-- the setup, then the count behind it
pub record Parts (s : List ℕ) (h : Head) (i : ℕ) : Type 0 where
  pub end : ℕ
  pub setup : read_setup s 0 ≡ got h.setup end
  pub whole : i ≡ end + 4
  pub within : i ≤ length s
  pub events : h.events ≡ word_at s end
  pub few : h.events ≤ most_events

pub head_parts : (s : List ℕ) → Reads (Parts s) (read_head s)
unfolding read_head
head_parts s =
    reads_then (λ u i. read_setup s 0 ≡ got u i) _ (read_setup s 0) _ (reads_itself (read_setup s 0))
    (λ u i e. reads_then (λ n j. WordAt s i n j × ((i + 4 ≤ length s) × (n ≤ most_events))) _ (read_word s (to 0 most_events) S2 i) _
    (reads_both _ _ (read_word s (to 0 most_events) S2 i) (word_lies s (to 0 most_events) S2 i) (word_within s (to 0 most_events) S2 i))
    (λ n j h. record { end = i; setup = e; whole = h.0.1; within = rw h.0.1 h.1.0; events = h.0.0; few = h.1.1 }))
