-- Setups are complete: exactly the bytes of setups in range are accepted, each as that setup, and they are at most 516. A setup and the
-- entries of its sections are two forms of one thing. Assumes nothing.
use mathlib.Core.Bool.{Bool, true, false, cond}
use mathlib.Core.List.{List, [], ◌∷◌, ◌++◌, map, append-nil, append_assoc}
use mathlib.Core.Logic.{◌⊎◌, inl, inr, ◌↔◌}
use mathlib.Core.Path.{◌≡◌, refl, sym, ap, ◌∙◌, subst}
use Prim.Native.Nat.{ℕ, zero, suc, ◌+◌, ◌*◌, ◌-◌, ◌≤◌, ◌<◌, ◌^◌, ◌/◌}
use native.Mathlib.Nat.{le_refl, mod-lt}
use native.Mathlib.Omega.{arith}
use lib.Dec.{eqb, leb, lit<}
use lib.ListN.{length, length-map, length-append, length-replicate, replicate}
use borrow.Author.Tests.{le-leb, lt-leb, leb-true}
use Rattle.rules.specs.Ids.{In, Each, once}
use Rattle.rules.specs.Setup.{S4, Read, got, refused, and_then, Range, to, Section, priorities, sections, alarm_ranges, counters, read_section, read_sections, Entry, AlarmEntry, CounterEntry, Setup, GoodCounter, GoodSetup, entries_of, task_entry, word_of, alarm_entries, counter_entry, setup_of, read_with, read_setup, perhaps, at_end, setup}
use Rattle.rules.specs.Writing.{joined, task_words, alarm_words, counter_words, seven_sections, setup_sections, setup_words, word_bytes, setup_bytes, seven_bytes, Alone, Bytes}
use Rattle.rules.proofs.Judge.{◌⊗◌}
use Rattle.rules.proofs.Spelled.{Spells, spells_first, spells_rest, spells_both, section_words, sections_words, section_got, sections_got, Stands, section_stands, sections_stand, length_written, written_spells, spells_written}
use Rattle.rules.proofs.Accepted.{each_map, Reads, reads_both, reads_then, from_read, InRange, Fits, SectionFits, SectionsFit, Within, section_reads, sections_reads, setup_good, setup_whole}

-- ---- a setup and the entries of its sections

abbrev single : ℕ → List ℕ
single n = n ∷ []

-- the six sections behind the priorities
abbrev pub sections_of : Setup → List (List (List ℕ))
sections_of u =
    map task_words u.tasks
    ∷ map single u.semaphores
    ∷ map single u.flags
    ∷ replicate u.mailboxes []
    ∷ replicate u.messages []
    ∷ map single u.pools
    ∷ []

-- the eighth
abbrev pub counters_of : Setup → List (List ℕ)
counters_of u = map counter_words u.counters

abbrev pub seven_words : Setup → List ℕ
seven_words u = joined (seven_sections u)

-- entries of no words, and of one
none_words : (n : ℕ) → section_words (replicate n []) ≡ n ∷ []
none_words n = λ z. length-replicate {A = List ℕ} n [] z ∷ no_words_lem n z
  where
    no_words_lem : (n : ℕ) → joined {A = ℕ} (replicate n []) ≡ []
    no_words_lem zero = refl
    no_words_lem (suc n) = no_words_lem n

single_words : (l : List ℕ) → section_words (map single l) ≡ length l ∷ l
single_words l = λ z. length-map l single z ∷ words l z
  where
    words : (l : List ℕ) → joined (map single l) ≡ l
    words [] = refl
    words (x ∷ l) = ap (λ (m : List ℕ). x ∷ m) (words l)

pub seven_of : (u : Setup) → seven_sections u ≡ map section_words (replicate u.priorities [] ∷ sections_of u)
seven_of u = λ z.
    sym (none_words u.priorities) z
    ∷ (sym (length-map u.tasks task_words) z ∷ joined (map task_words u.tasks))
    ∷ sym (single_words u.semaphores) z
    ∷ sym (single_words u.flags) z
    ∷ sym (none_words u.mailboxes) z
    ∷ sym (none_words u.messages) z
    ∷ sym (single_words u.pools) z
    ∷ []

module _ {A : Type 0} where
  pub joined_append : (l m : List (List A)) → joined (l ++ m) ≡ joined l ++ joined m
  joined_append [] m = refl
  joined_append (x ∷ l) m = ap (λ (k : List A). x ++ k) (joined_append l m) ∙ sym (append_assoc x (joined l) (joined m))

pub eight_words : (u : Setup) → setup_words u ≡ seven_words u ++ section_words (counters_of u)
eight_words u =
    joined_append (seven_sections u) ((length u.counters ∷ joined (counters_of u)) ∷ [])
    ∙ (λ z. seven_words u ++ (append-nil (length u.counters ∷ joined (counters_of u)) ∙ ap (λ (n : ℕ). n ∷ joined (counters_of u)) (sym (length-map u.counters counter_words))) z)

pub seven_words_lem : (u : Setup) → seven_words u ≡ section_words (replicate u.priorities []) ++ sections_words (sections_of u)
seven_words_lem u = ap joined (seven_of u)

-- a setup is that of its sections
setup_sections_lem : (u : Setup) → setup_of u.priorities (sections_of u) (counters_of u) ≡ u
setup_sections_lem u = λ z. record {
  priorities = u.priorities;
  tasks = entries u.tasks z;
  semaphores = singles u.semaphores z;
  flags = singles u.flags z;
  mailboxes = length-replicate {A = List ℕ} u.mailboxes [] z;
  messages = length-replicate {A = List ℕ} u.messages [] z;
  pools = singles u.pools z;
  counters = entries_counters u.counters z;
}
  where
    started : (t : Bool) → eqb (once t) 1 ≡ t
    started true = refl
    started false = refl

    entries : (l : List Entry) → map task_entry (map task_words l) ≡ l
    entries [] = refl
    entries (e ∷ l) = λ z. record { priority = e.priority; started = started e.started z } ∷ entries l z

    singles : (l : List ℕ) → map (word_of 0) (map single l) ≡ l
    singles [] = refl
    singles (x ∷ l) = ap (λ (m : List ℕ). x ∷ m) (singles l)

    alarms : (l : List AlarmEntry) → alarm_entries (joined (map alarm_words l)) ≡ l
    alarms [] = refl
    alarms (e ∷ l) = λ z. record { task = e.task; wakes = started e.wakes z } ∷ alarms l z

    entries_counters : (l : List CounterEntry) → map counter_entry (map counter_words l) ≡ l
    entries_counters [] = refl
    entries_counters (c ∷ l) = λ z. record { size = c.size; alarms = alarms c.alarms z } ∷ entries_counters l z

-- sections that fit are those of their setup
module _ (P : ℕ) where
  tasks_back : (l : List (List ℕ)) → Each (Fits (to 1 P ∷ to 0 1 ∷ [])) l → map task_words (map task_entry l) ≡ l
  tasks_back [] h = refl
  tasks_back (x ∷ l) h = λ z. entry x h.0 z ∷ tasks_back l h.1 z
    where
      entry : (x : List ℕ) → Fits (to 1 P ∷ to 0 1 ∷ []) x → task_words (task_entry x) ≡ x
      entry [] f = absurd f
      entry (p ∷ []) f = absurd f.1
      entry (p ∷ zero ∷ []) f = refl
      entry (p ∷ suc zero ∷ []) f = refl
      entry (p ∷ suc (suc n) ∷ []) f = absurd (omega (arith, f.1.0.1))
      entry (p ∷ n ∷ m ∷ x) f = absurd f.1.1

  singles_back : (r : Range) (l : List (List ℕ)) → Each (Fits (r ∷ [])) l → map single (map (word_of 0) l) ≡ l
  singles_back r [] h = refl
  singles_back r (x ∷ l) h = λ z. entry x h.0 z ∷ singles_back r l h.1 z
    where
      entry : (x : List ℕ) → Fits (r ∷ []) x → single (word_of 0 x) ≡ x
      entry [] f = absurd f
      entry (n ∷ []) f = refl
      entry (n ∷ m ∷ x) f = absurd f.1

  none_back : (l : List (List ℕ)) → Each (Fits []) l → replicate (length l) [] ≡ l
  none_back [] h = refl
  none_back ([] ∷ l) h = ap (λ (m : List (List ℕ)). [] ∷ m) (none_back l h.1)
  none_back ((n ∷ x) ∷ l) h = absurd h.0

  pub sections_setup : (l : List (List (List ℕ))) (k : List (List ℕ)) → SectionsFit (sections P) l → sections_of (setup_of P l k) ≡ l
  sections_setup [] k h = absurd h
  sections_setup (a ∷ []) k h = absurd h.1
  sections_setup (a ∷ b ∷ []) k h = absurd h.1.1
  sections_setup (a ∷ b ∷ c ∷ []) k h = absurd h.1.1.1
  sections_setup (a ∷ b ∷ c ∷ d ∷ []) k h = absurd h.1.1.1.1
  sections_setup (a ∷ b ∷ c ∷ d ∷ e ∷ []) k h = absurd h.1.1.1.1.1
  sections_setup (a ∷ b ∷ c ∷ d ∷ e ∷ f ∷ []) k h = λ z.
      tasks_back a h.0.1 z
      ∷ singles_back _ b h.1.0.1 z
      ∷ singles_back _ c h.1.1.0.1 z
      ∷ none_back d h.1.1.1.0.1 z
      ∷ none_back e h.1.1.1.1.0.1 z
      ∷ singles_back _ f h.1.1.1.1.1.0.1 z
      ∷ []
  sections_setup (a ∷ b ∷ c ∷ d ∷ e ∷ f ∷ g ∷ l) k h = absurd h.1.1.1.1.1.1

-- and the counter
module _ (n : ℕ) where
  alarms_back : (k : ℕ) (w : List ℕ) → Fits (alarm_ranges n k) w → joined (map alarm_words (alarm_entries w)) ≡ w
  alarms_back zero [] h = refl
  alarms_back zero (x ∷ w) h = absurd h
  alarms_back (suc k) [] h = absurd h
  alarms_back (suc k) (t ∷ []) h = absurd h.1
  alarms_back (suc k) (t ∷ zero ∷ w) h = ap (λ (m : List ℕ). t ∷ 0 ∷ m) (alarms_back k w h.1.1)
  alarms_back (suc k) (t ∷ suc zero ∷ w) h = ap (λ (m : List ℕ). t ∷ 1 ∷ m) (alarms_back k w h.1.1)
  alarms_back (suc k) (t ∷ suc (suc x) ∷ w) h = absurd (omega (arith, h.1.0.1))

  pub counters_back : (l : List (List ℕ)) → Each (Fits (counters n).entry) l → map counter_words (map counter_entry l) ≡ l
  counters_back [] h = refl
  counters_back ([] ∷ l) h = absurd h.0
  counters_back ((m ∷ w) ∷ l) h = λ z. (m ∷ alarms_back 8 w h.0.1 z) ∷ counters_back l h.1 z

-- ---- a setup in range has sections that fit

none_fit : (t : Range) (n : ℕ) → InRange t n → SectionFits (record { count = t; entry = [] }) (replicate n [])
none_fit t n h = (rw (length-replicate {A = List ℕ} n []) h, each n)
  where
    each : (n : ℕ) → Each (Fits []) (replicate n [])
    each zero = tt
    each (suc n) = (tt, each n)

singles_fit : (t r : Range) (l : List ℕ) → InRange t (length l) → Each (InRange r) l → SectionFits (record { count = t; entry = r ∷ [] }) (map single l)
singles_fit t r l h g = (rw (length-map l single) h, each_map (InRange r) (Fits (r ∷ [])) single l (λ n k. (k, tt)) g)

module _ (u : Setup) (g : GoodSetup u) where
  least_zero : (n m : ℕ) → n ≤ m → InRange (to 0 m) n
  least_zero n m h = (omega arith, h)

  upto : (m : ℕ) (l : List ℕ) → Each (λ n. n ≤ m) l → Each (InRange (to 0 m)) l
  upto m [] h = tt
  upto m (x ∷ l) h = (least_zero x m h.0, upto m l h.1)

  below : (l : List ℕ) → Each (λ p. p < 2 ^ 32) l → Each (InRange (to 0 (2 ^ 32 - 1))) l
  below [] h = tt
  below (x ∷ l) h = ((omega arith, omega (arith, h.0)), below l h.1)

  -- a word that is 0 or 1
  flag : (t : Bool) → InRange (to 0 1) (once t)
  flag true = (omega arith, omega arith)
  flag false = (omega arith, omega arith)

  pub good_fits : SectionsFit (sections u.priorities) (sections_of u)
  good_fits =
      (rw (length-map u.tasks task_words) g.tasks, each_map _ (Fits (to 1 u.priorities ∷ to 0 1 ∷ [])) task_words u.tasks (λ e h. (h, (flag e.started, tt))) g.starts)
      ⊗ singles_fit (to 0 16) (to 0 65535) u.semaphores (least_zero _ 16 g.semaphores) (upto 65535 u.semaphores g.counts)
      ⊗ singles_fit (to 0 16) (to 0 (2 ^ 32 - 1)) u.flags (least_zero _ 16 g.flags) (below u.flags g.patterns)
      ⊗ none_fit (to 0 16) u.mailboxes (least_zero _ 16 g.mailboxes)
      ⊗ none_fit (to 0 256) u.messages (least_zero _ 256 g.messages)
      ⊗ singles_fit (to 0 8) (to 1 32) u.pools (least_zero _ 8 g.pools) g.blocks
      ⊗ tt

  alarms_fit : (k : ℕ) (l : List AlarmEntry) → length l ≡ k → Each (λ a. In a.task (length u.tasks)) l → Fits (alarm_ranges (length u.tasks) k) (joined (map alarm_words l))
  alarms_fit zero [] e h = tt
  alarms_fit zero (a ∷ l) e h = absurd (omega (arith, e))
  alarms_fit (suc k) [] e h = absurd (omega (arith, e))
  alarms_fit (suc k) (a ∷ l) e h = (h.0, (flag a.wakes, alarms_fit k l (omega (arith, e)) h.1))

  pub counters_fit : SectionFits (counters (length u.tasks)) (counters_of u)
  counters_fit = (
    rw (length-map u.counters counter_words) (least_zero _ 1 g.counters),
    each_map (GoodCounter (length u.tasks)) (Fits (counters (length u.tasks)).entry) counter_words u.counters (λ c h. (h.size, alarms_fit 8 c.alarms h.eight h.alarms)) g.counter,
  )

  -- where the words of its seven sections stand in the bytes they are read; then comes the eighth
  pub seven_got : (eighth : List ℕ → Section → ℕ → Read (List (List ℕ))) (s : List ℕ) (i : ℕ) → Spells s i (seven_words u)
      → read_with eighth s i ≡ and_then (eighth s (counters (length u.tasks)) (i + 4 * length (seven_words u))) (λ c n. got (setup_of u.priorities (sections_of u) c) n)
  unfolding read_with and_then
  seven_got eighth s i h =
      rw (section_got s priorities p i (none_fit (to 1 16) u.priorities g.priorities) (spells_first s i (section_words p) (sections_words l) h'))
      (behind (length p) (length-replicate {A = List ℕ} u.priorities []))
    where
      p : List (List ℕ)
      p = replicate u.priorities []

      l : List (List (List ℕ))
      l = sections_of u

      h' : Spells s i (section_words p ++ sections_words l)
      h' = subst (Spells s i) (seven_words_lem u) h

      place : i + 4 * length (section_words p) + 4 * length (sections_words l) ≡ i + 4 * length (seven_words u)
      place = omega (arith, length-append (section_words p) (sections_words l), ap length (seven_words_lem u))

      -- the sections behind the priorities, of which there are n
      behind : (n : ℕ) → n ≡ u.priorities
          → and_then (read_sections s (sections n) (i + 4 * length (section_words p))) (λ l k. and_then (eighth s (counters (length (entries_of l 0))) k) (λ c m. got (setup_of n l c) m))
          ≡ and_then (eighth s (counters (length u.tasks)) (i + 4 * length (seven_words u))) (λ c m. got (setup_of u.priorities l c) m)
      behind n e =
          rw (e, sections_got s (sections u.priorities) l (i + 4 * length (section_words p)) good_fits (spells_rest s i (section_words p) (sections_words l) h'))
          (λ z. and_then (eighth s (counters (length-map u.tasks task_words z)) (place z)) (λ c m. got (setup_of u.priorities l c) m))

  -- its words, where they stand in the bytes, are read as that setup, by a reader that reads its eighth section
  with_got : (eighth : List ℕ → Section → ℕ → Read (List (List ℕ))) (s : List ℕ) (i : ℕ)
      → ((k : ℕ) → k + 4 ≤ length s → eighth s (counters (length u.tasks)) k ≡ read_section s (counters (length u.tasks)) k)
      → Spells s i (setup_words u) → read_with eighth s i ≡ got u (i + 4 * length (setup_words u))
  unfolding and_then
  with_got eighth s i same h =
      seven_got eighth s i (spells_first s i (seven_words u) (section_words c) h')
      ∙ rw (same k there.0, section_got s (counters (length u.tasks)) c k counters_fit there)
      (λ z. got (setup_sections_lem u z) (place z))
    where
      c : List (List ℕ)
      c = counters_of u

      k : ℕ
      k = i + 4 * length (seven_words u)

      h' : Spells s i (seven_words u ++ section_words c)
      h' = subst (Spells s i) (eight_words u) h

      there : Spells s k (section_words c)
      there = spells_rest s i (seven_words u) (section_words c) h'

      place : k + 4 * length (section_words c) ≡ i + 4 * length (setup_words u)
      place = omega (arith, length-append (seven_words u) (section_words c), ap length (eight_words u))

  pub setup_got : (s : List ℕ) (i : ℕ) → Spells s i (setup_words u) → read_setup s i ≡ got u (i + 4 * length (setup_words u))
  unfolding read_setup
  setup_got s i h = with_got read_section s i (λ k b. refl) h

  pub alone_got : (s : List ℕ) (i : ℕ) → Spells s i (setup_words u) → read_with perhaps s i ≡ got u (i + 4 * length (setup_words u))
  alone_got s i h = with_got perhaps s i (λ k b. unfold perhaps in rw (lt-leb (length s) k (omega arith))) h

  -- with no counter, and the bytes at their end after seven
  pub alone_seven : (s : List ℕ) (i : ℕ) → u.counters ≡ [] → length s ≡ i + 4 * length (seven_words u) → Spells s i (seven_words u) → read_with perhaps s i ≡ got u (length s)
  unfolding perhaps and_then
  alone_seven s i e d h =
      seven_got perhaps s i h ∙ rw (le-leb (length s) (i + 4 * length (seven_words u)) (omega (arith, d))) (λ z. got ((ap (λ (c : List CounterEntry). setup_of u.priorities (sections_of u) (map counter_words c)) (sym e) ∙ setup_sections_lem u) z) (sym d z))

-- ---- a setup that is read has its words there

-- the words of a setup that is made of sections that fit
words_back : (p : List (List ℕ)) (l : List (List (List ℕ))) (c : List (List ℕ)) → Each (Fits []) p → SectionsFit (sections (length p)) l
    → seven_words (setup_of (length p) l c) ≡ section_words p ++ sections_words l
words_back p l c f h = seven_words_lem (setup_of (length p) l c) ∙ (λ z. section_words (none_back (length p) p f z) ++ sections_words (sections_setup (length p) l c h z))

module _ (s : List ℕ) where
  -- what is known of the first seven sections where they are read
  pub priorities_known : (i : ℕ) → Reads (λ p j. Within s (SectionFits priorities) p j × Stands s section_words i p j) (read_section s priorities i)
  priorities_known i = reads_both _ _ (read_section s priorities i) (section_reads s priorities i) (section_stands s priorities i)

  pub six_known : (n j : ℕ) → j ≤ length s → Reads (λ l k. Within s (SectionsFit (sections n)) l k × Stands s sections_words j l k) (read_sections s (sections n) j)
  six_known n j b = reads_both _ _ (read_sections s (sections n) j) (sections_reads s (sections n) j b) (sections_stand s (sections n) j)

  pub seven_stand : (i : ℕ) (p : List (List ℕ)) (j : ℕ) (l : List (List (List ℕ))) (k : ℕ) (c : List (List ℕ)) → SectionFits priorities p → Stands s section_words i p j
      → SectionsFit (sections (length p)) l → Stands s sections_words j l k → Stands s seven_words i (setup_of (length p) l c) k
  seven_stand i p j l k c f g e h = (
    omega (arith, g.0, h.0, length-append (section_words p) (sections_words l), ap length (words_back p l c f.1 e)),
    subst (Spells s i) (sym (words_back p l c f.1 e))
        (spells_both s i (section_words p) (sections_words l) g.1 (subst (λ (x : ℕ). Spells s x (sections_words l)) g.0 h.1)),
  )

module _ (s : List ℕ) (eighth : List ℕ → Section → ℕ → Read (List (List ℕ))) (Q : List (List ℕ) → ℕ → ℕ → Type 0) where
  -- the words of its seven sections up to k, and from there on what is known of the eighth
  abbrev SevenThen : ℕ → Setup → ℕ → Type 0
  SevenThen i u j = (k : ℕ) × Stands s seven_words i u k × Q (counters_of u) k j

  with_stands : ((n k : ℕ) → k ≤ length s → Reads (λ c j. SectionFits (counters n) c × Q c k j) (eighth s (counters n) k)) → (i : ℕ) → Reads (SevenThen i) (read_with eighth s i)
  unfolding read_with
  with_stands e i =
      reads_then _ _ (read_section s priorities i) _ (priorities_known s i)
      (λ p j g. reads_then _ _ (read_sections s (sections (length p)) j) _ (six_known s (length p) j g.0.1)
      (λ l k h. reads_then _ _ (eighth s (counters (length (entries_of l 0))) k) _ (e (length (entries_of l 0)) k h.0.1)
      (λ c m q. (k, seven_stand s i p j l k c g.0.0 g.1 h.0.0 h.1, subst (λ (x : List (List ℕ)). Q x k m) (sym (counters_back (length (entries_of l 0)) c q.0.1)) q.1))))

module _ (s : List ℕ) where
  reads_map : {A : Type 0} (P Q : A → ℕ → Type 0) (r : Read A) → ((a : A) (i : ℕ) → P a i → Q a i) → Reads P r → Reads Q r
  reads_map P Q (got a i) f h = f a i h
  reads_map P Q (refused d p) f h = tt

  -- seven sections and the eighth are the setup
  eight_stand : (i : ℕ) (u : Setup) (k j : ℕ) → Stands s seven_words i u k → Stands s section_words k (counters_of u) j → Stands s setup_words i u j
  eight_stand i u k j h q = (
    omega (arith, h.0, q.0, length-append (seven_words u) (section_words (counters_of u)), ap length (eight_words u)),
    subst (Spells s i) (sym (eight_words u)) (spells_both s i (seven_words u) (section_words (counters_of u)) h.1 (subst (λ (x : ℕ). Spells s x (section_words (counters_of u))) h.0 q.1)),
  )

  pub setup_stands : (i : ℕ) → Reads (Stands s setup_words i) (read_setup s i)
  unfolding read_setup
  setup_stands i =
      reads_map _ _ (read_setup s i) (λ u j h. eight_stand i u h.0 j h.1 h.2)
      (with_stands s read_section (λ c k j. Stands s section_words k c j)
      (λ n k b. reads_both _ _ (read_section s (counters n) k) (reads_map _ _ (read_section s (counters n) k) (λ c j h. h.0) (section_reads s (counters n) k)) (section_stands s (counters n) k)) i)

  -- the eighth section of a setup alone: it stands there, or the bytes end and there is none
  abbrev Last : List (List ℕ) → ℕ → ℕ → Type 0
  Last c k j = Stands s section_words k c j ⊎ ((c ≡ []) × (j ≡ k) × (length s ≤ k))

  last_stands : (n k : ℕ) → k ≤ length s → Reads (λ c j. SectionFits (counters n) c × Last c k j) (perhaps s (counters n) k)
  unfolding perhaps
  last_stands n k b = go (leb (length s) k) refl
    where
      go : (t : Bool) → leb (length s) k ≡ t → Reads (λ c j. SectionFits (counters n) c × Last c k j) (cond t (got [] k) (read_section s (counters n) k))
      go true e = (((omega arith, omega arith), tt), inr (refl, refl, leb-true _ _ e))
      go false e =
          reads_both _ _ (read_section s (counters n) k) (reads_map _ _ (read_section s (counters n) k) (λ c j h. h.0) (section_reads s (counters n) k))
          (reads_map _ _ (read_section s (counters n) k) (λ c j h. inl h) (section_stands s (counters n) k))

  -- the words of a setup alone: all eight sections, or seven where it has no counter
  abbrev StandsAlone : Setup → ℕ → Type 0
  StandsAlone u j = Stands s setup_words 0 u j ⊎ ((u.counters ≡ []) × Stands s seven_words 0 u j)

  alone_stands : Reads StandsAlone (read_with perhaps s 0)
  alone_stands = reads_map _ _ (read_with perhaps s 0) (λ u j h. go u h.0 j h.1 h.2) (with_stands s perhaps Last last_stands 0)
    where
      no_counter : (l : List CounterEntry) → map counter_words l ≡ [] → l ≡ []
      no_counter [] e = refl
      no_counter (c ∷ l) e = absurd (let z : suc (length (map counter_words l)) ≡ 0 = ap length e in omega (arith, z))

      go : (u : Setup) (k j : ℕ) → Stands s seven_words 0 u k → Last (counters_of u) k j → StandsAlone u j
      go u k j h (inl q) = inl (eight_stand 0 u k j h q)
      go u k j h (inr q) = inr (no_counter u.counters q.0, (q.1 ∙ h.0, h.1))

-- ---- the words of a setup in range have 32 bits

module _ {A : Type 0} (P : A → Type 0) where
  each_append : (l m : List A) → Each P l → Each P m → Each P (l ++ m)
  each_append [] m h g = g
  each_append (x ∷ l) m h g = (h.0, each_append l m h.1 g)

each_joined : (P : ℕ → Type 0) (l : List (List ℕ)) → Each (Each P) l → Each P (joined l)
each_joined P [] h = tt
each_joined P (x ∷ l) h = each_append P x (joined l) h.0 (each_joined P l h.1)

each_mono : (P Q : ℕ → Type 0) (l : List ℕ) → ((n : ℕ) → P n → Q n) → Each P l → Each Q l
each_mono P Q [] h g = tt
each_mono P Q (x ∷ l) h g = (h x g.0, each_mono P Q l h g.1)

-- as many words as the sections have
total : List (List ℕ) → ℕ
total [] = 0
total (x ∷ l) = length x + total l

length_joined : (l : List (List ℕ)) → length (joined l) ≡ total l
unfolding total
length_joined [] = refl
length_joined (x ∷ l) = length-append x (joined l) ∙ ap (λ (n : ℕ). length x + n) (length_joined l)

two_words : (l : List Entry) → length (joined (map task_words l)) ≡ 2 * length l
two_words [] = refl
two_words (e ∷ l) = omega (arith, two_words l)

alarm_words_lem : (l : List AlarmEntry) → length (joined (map alarm_words l)) ≡ 2 * length l
alarm_words_lem [] = refl
alarm_words_lem (e ∷ l) = omega (arith, alarm_words_lem l)

counter_words_lem : (n : ℕ) (l : List CounterEntry) → Each (GoodCounter n) l → length (joined (map counter_words l)) ≡ 17 * length l
counter_words_lem n [] h = refl
counter_words_lem n (c ∷ l) h = omega (arith, counter_words_lem n l h.1, alarm_words_lem c.alarms, h.0.eight, length-append (counter_words c) (joined (map counter_words l)))

module _ (u : Setup) (g : GoodSetup u) where
  Narrow : ℕ → Type 0
  Narrow w = w < 2 ^ 32

  bit : (t : Bool) → Narrow (once t)
  unfolding Narrow
  bit true = omega arith
  bit false = omega arith

  narrow_tasks : Each Narrow (joined (map task_words u.tasks))
  unfolding Narrow
  narrow_tasks =
      each_joined Narrow (map task_words u.tasks)
      (each_map _ (Each Narrow) task_words u.tasks (λ e h. (omega (arith, h.1, g.priorities.1), (bit e.started, tt))) g.starts)

  narrow_counters : Each Narrow (joined (counters_of u))
  unfolding Narrow
  narrow_counters =
      each_joined Narrow (counters_of u)
      (each_map _ (Each Narrow) counter_words u.counters (λ c h. (omega (arith, h.size.1), each_joined Narrow (map alarm_words c.alarms) (each_map _ (Each Narrow) alarm_words c.alarms alarm h.alarms))) g.counter)
    where
      alarm : (a : AlarmEntry) → In a.task (length u.tasks) → Each Narrow (alarm_words a)
      alarm a h = (omega (arith, h.1, g.tasks.1), (bit a.wakes, tt))

  narrow_sections : Each (Each Narrow) (setup_sections u)
  unfolding Narrow
  narrow_sections = (
    (omega (arith, g.priorities.1), tt),
    (
      (omega (arith, g.tasks.1), narrow_tasks),
      (
        (omega (arith, g.semaphores), each_mono _ Narrow u.semaphores (λ n h. omega arith) g.counts),
        (
          (omega (arith, g.flags), g.patterns),
          (
            (omega (arith, g.mailboxes), tt),
            (
              (omega (arith, g.messages), tt),
              (
                (omega (arith, g.pools), each_mono _ Narrow u.pools (λ n h. omega (arith, h.1)) g.blocks),
                (
                  (omega (arith, g.counters), narrow_counters),
                  tt,
                ),
              ),
            ),
          ),
        ),
      ),
    ),
  )

  pub narrow : Each (λ w. w < 2 ^ 32) (setup_words u)
  unfolding Narrow
  narrow = each_joined Narrow (setup_sections u) narrow_sections

  pub narrow_seven : Each (λ w. w < 2 ^ 32) (seven_words u)
  narrow_seven = each_first (seven_words u) (section_words (counters_of u)) (subst (Each (λ w. w < 2 ^ 32)) (eight_words u) narrow)
    where
      each_first : (l m : List ℕ) → Each (λ w. w < 2 ^ 32) (l ++ m) → Each (λ w. w < 2 ^ 32) l
      each_first [] m h = tt
      each_first (x ∷ l) m h = (h.0, each_first l m h.1)

  -- 129 words at most
  few : length (setup_words u) ≤ 129
  unfolding total
  few = omega (arith, length_joined (setup_sections u), two_words u.tasks, counter_words_lem (length u.tasks) u.counters g.counter, g.tasks.1, g.semaphores, g.flags, g.pools, g.counters)

-- ---- setups are complete

module _ (u : Setup) (g : GoodSetup u) where
  whole : (s : List ℕ) (r : Read Setup) (i : ℕ) → r ≡ got u i → i ≡ length s → at_end s r ≡ got u (length s)
  whole s r i e d = unfold at_end in rw (e, d, le-leb (length s) (length s) (le_refl (length s)))

  -- Every setup in range has bytes that are accepted and read back as that very setup;
  pub read_back : setup (setup_bytes u) ≡ got u (length (setup_bytes u))
  unfolding setup
  read_back =
      whole (setup_bytes u) (read_with perhaps (setup_bytes u) 0) (0 + 4 * length (setup_words u)) (alone_got u g (setup_bytes u) 0 (written_spells (setup_words u) (narrow u g)))
      (omega (arith, length_written (setup_words u)))

  -- with no counter also those of seven sections.
  pub seven_back : u.counters ≡ [] → setup (seven_bytes u) ≡ got u (length (seven_bytes u))
  unfolding setup
  seven_back e =
      whole (seven_bytes u) (read_with perhaps (seven_bytes u) 0) (length (seven_bytes u))
      (alone_seven u g (seven_bytes u) 0 e (omega (arith, length_written (seven_words u))) (written_spells (seven_words u) (narrow_seven u g))) refl

-- they are bytes
words_bytes : (l : List ℕ) → Bytes (joined (map word_bytes l))
words_bytes [] = tt
words_bytes (w ∷ l) = (mod-lt w (lit< tt), (mod-lt (w / 256) (lit< tt), (mod-lt (w / 65536) (lit< tt), (mod-lt (w / 16777216) (lit< tt), words_bytes l))))

pub setup_bytes_lem : (u : Setup) → Bytes (setup_bytes u)
setup_bytes_lem u = words_bytes (setup_words u)

pub seven_bytes_lem : (u : Setup) → Bytes (seven_bytes u)
seven_bytes_lem u = words_bytes (seven_words u)

module _ (s : List ℕ) (u : Setup) (i : ℕ) (e : setup s ≡ got u i) where
  abbrev Are : List ℕ → Type 0
  Are l = (length s ≡ 4 * length l) × Spells s 0 l

  -- the words of the setup stand in the bytes that are read as it, and nothing else does
  words_there : Are (setup_words u) ⊎ ((u.counters ≡ []) × Are (seven_words u))
  unfolding setup
  words_there = go (from_read (StandsAlone s) (setup s) u i e (ending (read_with perhaps s 0) (alone_stands s)))
    where
      ending : (r : Read Setup) → Reads (StandsAlone s) r → Reads (StandsAlone s) (at_end s r)
      ending (got a j) h = unfold at_end in go (leb (length s) j)
        where
          go : (t : Bool) → Reads (StandsAlone s) (cond t (got a j) (refused S4 j))
          go true = h
          go false = tt
      ending (refused d p) h = unfold at_end in tt

      go : StandsAlone s u i → Are (setup_words u) ⊎ ((u.counters ≡ []) × Are (seven_words u))
      go (inl h) = inl (omega (arith, h.0, setup_whole s u i e), h.1)
      go (inr h) = inr (h.0, (omega (arith, h.1.0, setup_whole s u i e), h.1.1))

  -- The longest is 129 words, 516 bytes.
  pub at_most_516 : length s ≤ 516
  at_most_516 = go words_there
    where
      go : Are (setup_words u) ⊎ ((u.counters ≡ []) × Are (seven_words u)) → length s ≤ 516
      go (inl h) = omega (arith, h.0, few u (setup_good s u i e))
      go (inr h) = omega (arith, h.1.0, few u (setup_good s u i e), ap length (eight_words u), length-append (seven_words u) (section_words (counters_of u)))

  -- Accepted bytes are the bytes of the setup that they are read as.
  pub accepted_written : Bytes s → Alone u s
  accepted_written b = go words_there
    where
      go : Are (setup_words u) ⊎ ((u.counters ≡ []) × Are (seven_words u)) → Alone u s
      go (inl h) = inl (spells_written (setup_words u) s b h.1 h.0)
      go (inr h) = inr (h.0, spells_written (seven_words u) s b h.1.1 h.1.0)

-- A list of bytes is accepted as a setup exactly if that setup is in range and these are its bytes, of all eight sections or, with no
-- counter, of seven.
pub accepted_exactly : (s : List ℕ) → Bytes s → (u : Setup) → (setup s ≡ got u (length s)) ↔ (GoodSetup u × Alone u s)
accepted_exactly s b u = (λ e. (setup_good s u (length s) e, accepted_written s u (length s) e b), λ h. go h.0 h.1)
  where
    go : GoodSetup u → Alone u s → setup s ≡ got u (length s)
    go g (inl e) = subst (λ (t : List ℕ). setup t ≡ got u (length t)) (sym e) (read_back u g)
    go g (inr e) = subst (λ (t : List ℕ). setup t ≡ got u (length t)) (sym e.1) (seven_back u g e.0)

pub each_replicate : {A : Type 0} (P : A → Type 0) (n : ℕ) (x : A) → P x → Each P (replicate n x)
each_replicate P zero x h = tt
each_replicate P (suc n) x h = (h, each_replicate P n x h)

-- There is a setup of 516 bytes.
longest : Setup
longest = record {
  priorities = 16;
  tasks = replicate 32 (record { priority = 16; started = true });
  semaphores = replicate 16 65535;
  flags = replicate 16 (2 ^ 32 - 1);
  mailboxes = 16;
  messages = 256;
  pools = replicate 8 32;
  counters = record { size = 65535; alarms = replicate 8 (record { task = 32; wakes = true }) } ∷ [];
}

pub longest_516 : (u : Setup) × GoodSetup u × (length (setup_bytes u) ≡ 516)
unfolding longest
longest_516 = (
  longest,
  record {
    priorities = (omega arith, omega arith);
    tasks = (omega arith, omega arith);
    starts = each_replicate (λ (e : Entry). In e.priority 16) 32 (record { priority = 16; started = true }) (omega arith, omega arith);
    semaphores = omega arith;
    counts = each_replicate (λ n. n ≤ 65535) 16 65535 (omega arith);
    flags = omega arith;
    patterns = each_replicate (λ p. p < 2 ^ 32) 16 (2 ^ 32 - 1) (omega arith);
    mailboxes = omega arith;
    messages = omega arith;
    pools = omega arith;
    blocks = each_replicate (λ n. In n 32) 8 32 (omega arith, omega arith);
    counters = omega arith;
    counter = (
      record { size = (omega arith, omega arith); eight = refl; alarms = each_replicate (λ (a : AlarmEntry). In a.task 32) 8 (record { task = 32; wakes = true }) (omega arith, omega arith) },
      tt,
    );
  },
  refl,
)
