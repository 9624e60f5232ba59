-- What a setup that is accepted says, and that its idle state is sound. A fact about the reader is a predicate on what is read, carried
-- from read to read (`reads_then`); a refused read has nothing to show. Assumes nothing.
use mathlib.Core.Bool.{Bool, true, false, cond, false≢true}
use mathlib.Core.List.{List, [], ◌∷◌, map}
use mathlib.Core.Logic.{inl}
use mathlib.Core.Option.{Option, none}
use mathlib.Core.Path.{◌≡◌, refl, sym, ap, ◌∙◌}
use Prim.Native.Nat.{ℕ, zero, suc, ◌+◌, ◌-◌, ◌≤◌, ◌<◌, ◌^◌}
use native.Mathlib.Nat.{le_antisymm}
use native.Mathlib.Omega.{arith}
use lib.Dec.{leb, lit<}
use lib.ListN.{length, get_or, replicate, length-map, length-replicate}
use borrow.Author.Tests.{leb-true}
use Rattle.rules.specs.Ids.{of, In, once, times}
use Rattle.rules.specs.Setup.{Fault, S1, S2, S3, S4, Read, got, refused, and_then, word_at, Range, to, within, read_word, Section, priorities, sections, alarm_ranges, counters, read_entry, read_entries, read_section, read_sections, Entry, AlarmEntry, CounterEntry, Setup, GoodCounter, entries_of, task_entry, word_of, alarm_entries, counter_entry, setup_of, read_with, read_setup, perhaps, at_end, setup}
pub use Rattle.rules.specs.Setup.{GoodSetup}
use Rattle.rules.specs.Codes.{OK}
use Rattle.rules.specs.State.{nobody, task, no_alarm, alarm_count, wait_of, is_absent, is_ready}
use Rattle.rules.specs.Places.{Place, ready_at, waiters, mail, free_in, belongs, tabulate}
use Rattle.rules.specs.Sound.{SoundTask, KeptFits, AlarmFits, CounterFits, SoundBody, AllUnserved, Sound}
use Rattle.rules.specs.Kernel.{idle_task, idle_alarm, idle_counter, idle}
use Rattle.rules.proofs.Ids.{Each, of_replicate}
use Rattle.rules.proofs.Waits.{both_true}
use Rattle.rules.proofs.Lines.{line_tabulate, shape_tabulate}

-- ---- what holds of each of a list

module _ {A : Type 0} where
  each_of : (P : A → Type 0) (l : List A) (i : ℕ) (d : A) → Each P l → In i (length l) → P (of l i d)
  each_of P l zero d h r = absurd (omega (arith, r.0))
  each_of P [] (suc i) d h r = absurd (omega (arith, r.1))
  each_of P (x ∷ l) (suc zero) d h r = h.0
  each_of P (x ∷ l) (suc (suc i)) d h r = each_of P l (suc i) d h.1 (omega arith, omega (arith, r.1))

pub each_map : {A B : Type 0} (P : A → Type 0) (Q : B → Type 0) (f : A → B) (l : List A) → ((x : A) → P x → Q (f x)) → Each P l → Each Q (map f l)
each_map P Q f [] h g = tt
each_map P Q f (x ∷ l) h g = (h x g.0, each_map P Q f l h g.1)

-- ---- what is read

-- P of what was read and the next offset
abbrev pub Reads : {A : Type 0} → (A → ℕ → Type 0) → Read A → Type 0
Reads P (got a next) = P a next
Reads P (refused d place) = Unit {0}

pub reads_both : {A : Type 0} (P Q : A → ℕ → Type 0) (r : Read A) → Reads P r → Reads Q r → Reads (λ a i. P a i × Q a i) r
reads_both P Q (got a i) h g = (h, g)
reads_both P Q (refused d p) h g = tt

pub reads_itself : {A : Type 0} (r : Read A) → Reads (λ a i. r ≡ got a i) r
reads_itself (got a i) = refl
reads_itself (refused d i) = tt

module _ {A B : Type 0} (P : A → ℕ → Type 0) (Q : B → ℕ → Type 0) where
  pub reads_then : (r : Read A) (f : A → ℕ → Read B) → Reads P r → ((a : A) (i : ℕ) → P a i → Reads Q (f a i)) → Reads Q (and_then r f)
  unfolding and_then
  reads_then (got a next) f h g = g a next h
  reads_then (refused d place) f h g = tt

abbrev pub InRange : Range → ℕ → Type 0
InRange r w = (r.least ≤ w) × (w ≤ r.most)

-- an entry has as many words as there are ranges, each in its range
abbrev pub Fits : List Range → List ℕ → Type 0
Fits [] [] = Unit {0}
Fits [] (w ∷ ws) = ⊥
Fits (r ∷ l) [] = ⊥
Fits (r ∷ l) (w ∷ ws) = InRange r w × Fits l ws

-- the number of entries lies in the count's range, and each entry fits
abbrev pub SectionFits : Section → List (List ℕ) → Type 0
SectionFits t l = InRange t.count (length l) × Each (Fits t.entry) l

abbrev pub SectionsFit : List Section → List (List (List ℕ)) → Type 0
SectionsFit [] [] = Unit {0}
SectionsFit [] (x ∷ xs) = ⊥
SectionsFit (t ∷ l) [] = ⊥
SectionsFit (t ∷ l) (x ∷ xs) = SectionFits t x × SectionsFit l xs

-- nothing is read past the end
module _ (s : List ℕ) where
  abbrev pub Within : {A : Type 0} → (A → Type 0) → A → ℕ → Type 0
  Within P a j = P a × (j ≤ length s)

  pub word_reads : (r : Range) (f : Fault) (i : ℕ) → Reads (Within (InRange r)) (read_word s r f i)
  unfolding read_word
  word_reads r f i = go (leb (i + 4) (length s)) (within r (word_at s i)) refl refl
    where
      go : (e t : Bool) → leb (i + 4) (length s) ≡ e → within r (word_at s i) ≡ t → Reads (Within (InRange r)) (cond e (cond t (got (word_at s i) (i + 4)) (refused f i)) (refused S1 i))
      go true true p q =
          let b : (leb r.least (word_at s i) ≡ true) × (leb (word_at s i) r.most ≡ true) = both_true _ _ q in
          ((leb-true _ _ b.0, leb-true _ _ b.1), leb-true _ _ p)
      go true false p q = tt
      go false true p q = tt
      go false false p q = tt

  entry_reads : (e : List Range) (i : ℕ) → i ≤ length s → Reads (Within (Fits e)) (read_entry s e i)
  unfolding read_entry
  entry_reads [] i h = (tt, h)
  entry_reads (r ∷ l) i h =
      reads_then (Within (InRange r)) _ (read_word s r S3 i) _ (word_reads r S3 i)
      (λ w j g. reads_then (Within (Fits l)) _ (read_entry s l j) _ (entry_reads l j g.1) (λ ws k a. ((g.0, a.0), a.1)))

  entries_reads : (e : List Range) (n i : ℕ) → i ≤ length s → Reads (Within (λ l. (length l ≡ n) × Each (Fits e) l)) (read_entries s e n i)
  unfolding read_entries
  entries_reads e zero i h = ((refl, tt), h)
  entries_reads e (suc n) i h =
      reads_then (Within (Fits e)) _ (read_entry s e i) _ (entry_reads e i h)
      (λ x j g. reads_then (Within (λ l. (length l ≡ n) × Each (Fits e) l)) _ (read_entries s e n j) _ (entries_reads e n j g.1)
      (λ xs k a. ((ap suc a.0.0, (g.0, a.0.1)), a.1)))

  pub section_reads : (t : Section) (i : ℕ) → Reads (Within (SectionFits t)) (read_section s t i)
  unfolding read_section
  section_reads t i =
      reads_then (Within (InRange t.count)) _ (read_word s t.count S2 i) _ (word_reads t.count S2 i)
      (λ n j g. counted n j g (read_entries s t.entry n j) (entries_reads t.entry n j g.1))
    where
      counted : (n j : ℕ) → Within (InRange t.count) n j → (r : Read (List (List ℕ))) → Reads (Within (λ l. (length l ≡ n) × Each (Fits t.entry) l)) r
          → Reads (Within (SectionFits t)) r
      counted n j g (got l next) h = ((rw h.0.0 g.0, h.0.1), h.1)
      counted n j g (refused d place) h = tt

  pub sections_reads : (l : List Section) (i : ℕ) → i ≤ length s → Reads (Within (SectionsFit l)) (read_sections s l i)
  unfolding read_sections
  sections_reads [] i h = (tt, h)
  sections_reads (t ∷ l) i h =
      reads_then (Within (SectionFits t)) _ (read_section s t i) _ (section_reads t i)
      (λ x j g. reads_then (Within (SectionsFit l)) _ (read_sections s l j) _ (sections_reads l j g.1) (λ xs k a. ((g.0, a.0), a.1)))

-- the i-th section
section_at : (ts : List Section) (l : List (List (List ℕ))) (i : ℕ) (d : Section) → SectionsFit ts l → i < length ts → SectionFits (get_or ts i d) (get_or l i [])
section_at [] l i d h r = absurd (omega (arith, r))
section_at (t ∷ ts) [] i d h r = absurd h
section_at (t ∷ ts) (x ∷ l) zero d h r = h.0
section_at (t ∷ ts) (x ∷ l) (suc i) d h r = section_at ts l i d h.1 (omega (arith, r))

-- the first word of an entry
first_fits : (r : Range) (l : List Range) (w : List ℕ) → Fits (r ∷ l) w → InRange r (word_of 0 w)
first_fits r l [] h = absurd h
first_fits r l (x ∷ w) h = h.0

alarms_good : (n k : ℕ) (w : List ℕ) → Fits (alarm_ranges n k) w → (length (alarm_entries w) ≡ k) × Each (λ a. In a.task n) (alarm_entries w)
alarms_good n zero [] h = (refl, tt)
alarms_good n zero (x ∷ w) h = absurd h
alarms_good n (suc k) [] h = absurd h
alarms_good n (suc k) (t ∷ []) h = absurd h.1
alarms_good n (suc k) (t ∷ x ∷ w) h = let r = alarms_good n k w h.1.1 in (ap suc r.0, (h.0, r.1))

counter_good : (n : ℕ) (w : List ℕ) → Fits (counters n).entry w → GoodCounter n (counter_entry w)
counter_good n [] h = absurd h
counter_good n (m ∷ w) h = let r = alarms_good n 8 w h.1 in record { size = h.0; eight = r.0; alarms = r.1 }

pub good_sections : (P : ℕ) (l : List (List (List ℕ))) (c : List (List ℕ)) → In P 16 → SectionsFit (sections P) l → SectionFits (counters (length (entries_of l 0))) c → GoodSetup (setup_of P l c)
good_sections P l c p h k = record {
  priorities = p;
  tasks = rw (length-map (get_or l 0 []) task_entry) (at 0 (omega arith)).0;
  starts = each_map (Fits (to 1 P ∷ to 0 1 ∷ [])) _ task_entry (get_or l 0 []) (first_fits (to 1 P) (to 0 1 ∷ [])) (at 0 (omega arith)).1;
  semaphores = rw (length-map (get_or l 1 []) (word_of 0)) (at 1 (omega arith)).0.1;
  counts = each_map (Fits (to 0 65535 ∷ [])) _ (word_of 0) (get_or l 1 []) (λ w f. (first_fits (to 0 65535) [] w f).1) (at 1 (omega arith)).1;
  flags = rw (length-map (get_or l 2 []) (word_of 0)) (at 2 (omega arith)).0.1;
  patterns = each_map (Fits (to 0 (2 ^ 32 - 1) ∷ [])) _ (word_of 0) (get_or l 2 []) (λ w f. omega (arith, (first_fits (to 0 (2 ^ 32 - 1)) [] w f).1)) (at 2 (omega arith)).1;
  mailboxes = (at 3 (omega arith)).0.1;
  messages = (at 4 (omega arith)).0.1;
  pools = rw (length-map (get_or l 5 []) (word_of 0)) (at 5 (omega arith)).0.1;
  blocks = each_map (Fits (to 1 32 ∷ [])) _ (word_of 0) (get_or l 5 []) (first_fits (to 1 32) []) (at 5 (omega arith)).1;
  counters = rw (length-map c counter_entry) k.0.1;
  counter = rw (length-map (get_or l 0 []) task_entry) (each_map _ (GoodCounter (length (get_or l 0 []))) counter_entry c (counter_good (length (get_or l 0 []))) k.1);
}
  where
    at : (i : ℕ) → i < 6 → SectionFits (get_or (sections P) i priorities) (get_or l i [])
    at i r = section_at (sections P) l i priorities h r

-- ---- the whole

-- P of what was read, if something was read
pub from_read : {A : Type 0} (P : A → ℕ → Type 0) (r : Read A) (a : A) (i : ℕ) → r ≡ got a i → Reads P r → P a i
from_read P r a i e h = rw e at h

module _ (s : List ℕ) where
  ending_reads : {A : Type 0} (P : A → Type 0) (r : Read A) → Reads (Within s P) r → Reads (λ a i. P a × (i ≡ length s)) (at_end s r)
  unfolding at_end
  ending_reads P (got a i) h = go (leb (length s) i) refl
    where
      go : (t : Bool) → leb (length s) i ≡ t → Reads (λ a i. P a × (i ≡ length s)) (cond t (got a i) (refused S4 i))
      go true e = (h.0, le_antisymm h.1 (leb-true _ _ e))
      go false e = tt
  ending_reads P (refused d place) h = tt

  -- however the eighth section is read
  with_reads : (eighth : List ℕ → Section → ℕ → Read (List (List ℕ))) → ((n i : ℕ) → i ≤ length s → Reads (Within s (SectionFits (counters n))) (eighth s (counters n) i))
      → (i : ℕ) → Reads (Within s GoodSetup) (read_with eighth s i)
  unfolding read_with
  with_reads eighth e i =
      reads_then (Within s (SectionFits priorities)) (Within s GoodSetup) (read_section s priorities i) _ (section_reads s priorities i)
      (λ p j g. reads_then (Within s (SectionsFit (sections (length p)))) (Within s GoodSetup) (read_sections s (sections (length p)) j) _ (sections_reads s (sections (length p)) j g.1)
      (λ l k a. reads_then (Within s (SectionFits (counters (length (entries_of l 0))))) (Within s GoodSetup) (eighth s (counters (length (entries_of l 0))) k) _ (e (length (entries_of l 0)) k a.1)
      (λ c m d. (good_sections (length p) l c g.0.0 a.0 d.0, d.1))))

  pub perhaps_reads : (n i : ℕ) → i ≤ length s → Reads (Within s (SectionFits (counters n))) (perhaps s (counters n) i)
  unfolding perhaps
  perhaps_reads n i r = go (leb (length s) i)
    where
      go : (t : Bool) → Reads (Within s (SectionFits (counters n))) (cond t (got [] i) (read_section s (counters n) i))
      go true = (((omega arith, omega arith), tt), r)
      go false = section_reads s (counters n) i

  -- a recorded setup anywhere in the bytes: its numbers lie in their ranges, and nothing is read past the end
  pub setup_within : (i : ℕ) → Reads (Within s GoodSetup) (read_setup s i)
  unfolding read_setup
  setup_within i = with_reads read_section (λ n j r. section_reads s (counters n) j) i

  setup_reads : Reads (λ u i. GoodSetup u × (i ≡ length s)) (setup s)
  unfolding setup
  setup_reads = ending_reads GoodSetup (read_with perhaps s 0) (with_reads perhaps perhaps_reads 0)

pub setup_good : (s : List ℕ) (u : Setup) (i : ℕ) → setup s ≡ got u i → GoodSetup u
setup_good s u i e = (from_read _ (setup s) u i e (setup_reads s)).0

-- Nothing follows, and nothing is read past the end.
pub setup_whole : (s : List ℕ) (u : Setup) (i : ℕ) → setup s ≡ got u i → i ≡ length s
setup_whole s u i e = (from_read _ (setup s) u i e (setup_reads s)).1

-- ---- the idle state

-- nobody is ready and nobody waits
idle_state : (l : List Entry) (i : ℕ) → (is_ready (get_or (map idle_task l) i nobody).state ≡ false) × (wait_of (get_or (map idle_task l) i nobody).state ≡ none)
idle_state [] i = (refl, refl)
idle_state (x ∷ l) zero = (refl, refl)
idle_state (x ∷ l) (suc i) = idle_state l i

all_out : (l : List ℕ) (p k : ℕ) → of (of (map (λ n. replicate n false) l) p []) k false ≡ false
all_out l p zero = refl
all_out l zero (suc k) = refl
all_out [] (suc p) (suc k) = refl
all_out (n ∷ l) (suc zero) (suc k) = of_replicate n (suc k) false
all_out (n ∷ l) (suc (suc p)) (suc k) = all_out l (suc p) (suc k)

pub nobody_belongs : (u : Setup) (q : Place) (i : ℕ) → belongs (idle u) q i ≡ false
unfolding belongs idle
nobody_belongs u (ready_at p) zero = refl
nobody_belongs u (ready_at p) (suc i) = rw (idle_state u.tasks i).0
nobody_belongs u (waiters k o) zero = refl
nobody_belongs u (waiters k o) (suc i) = rw (idle_state u.tasks i).1
nobody_belongs u (mail m) i = rw (of_replicate {A = Option ℕ} u.messages i none)
nobody_belongs u (free_in p) i = all_out u.pools p i

entries_there : (l : List Entry) (i : ℕ) → In i (length (map idle_task l)) → is_absent (of (map idle_task l) i nobody).state ≡ false
entries_there l zero r = absurd (omega (arith, r.0))
entries_there [] (suc i) r = absurd (omega (arith, r.1))
entries_there (x ∷ l) (suc zero) r = refl
entries_there (x ∷ l) (suc (suc i)) r = entries_there l (suc i) (omega arith, omega (arith, r.1))

-- all tasks of the setup exist
pub all_there : (u : Setup) (i : ℕ) → In i (length (idle u).tasks) → is_absent (task (idle u) i).state ≡ false
unfolding idle
all_there u i r = entries_there u.tasks i r

module _ (u : Setup) (g : GoodSetup u) where
  idle_task_lem : (e : Entry) → In e.priority u.priorities → SoundTask (idle u).store (idle_task e)
  unfolding idle
  idle_task_lem e h = record {
    priority = λ k. h;
    start = λ k. h;
    wakeups = omega arith;
    cell = inl (refl, lit< tt);
    wait = tt;
    sleeper = λ k. refl;
    dormant = λ k. refl;
    rest = λ k. refl;
    absent = λ k. absurd (false≢true k);
  }

  idle_alarm_lem : (m : ℕ) (e : AlarmEntry) → In e.task (length u.tasks) → AlarmFits (length u.tasks) m (idle_alarm e)
  idle_alarm_lem m e h = record { task = h; kept = nothing_kept e.wakes; setting = tt }
    where
      nothing_kept : (t : Bool) → KeptFits t OK
      nothing_kept true = inl refl
      nothing_kept false = inl refl

  idle_counter_lem : (l : List CounterEntry) → Each (GoodCounter (length u.tasks)) l → CounterFits (length u.tasks) (idle_counter l)
  idle_counter_lem [] h = record { size = omega arith; now = inl refl; count = refl; alarms = λ k r. absurd (omega (arith, r.0, r.1)) }
  idle_counter_lem (c ∷ l) h = record {
    size = h.0.size.1;
    now = inl refl;
    count = length-map c.alarms idle_alarm ∙ h.0.eight ∙ eight c.size h.0.size.0;
    alarms = λ k r. each_of (AlarmFits (length u.tasks) c.size) _ k no_alarm (each_map _ _ idle_alarm c.alarms (idle_alarm_lem c.size) h.0.alarms) r;
  }
    where
      eight : (m : ℕ) → 1 ≤ m → 8 ≡ alarm_count m
      eight zero r = absurd (omega (arith, r))
      eight (suc m) r = refl

  pub idle_sound : SoundBody (idle u)
  unfolding idle
  idle_sound = record {
    sizes = record {
      priorities = g.priorities;
      tasks = rw (length-map u.tasks idle_task) g.tasks;
      semaphores = g.semaphores;
      flags = g.flags;
      mailboxes = g.mailboxes;
      messages = rw (length-replicate {A = Option ℕ} u.messages none) g.messages;
      pools = rw (length-map u.pools _) g.pools;
    };
    store = record {
      semaphores = λ s r. each_of _ u.semaphores s 0 g.counts r;
      flags = λ f r. each_of _ u.flags f 0 g.patterns r;
      messages = λ j r. rw (of_replicate {A = Option ℕ} u.messages j none) tt;
      pools = λ p r. each_of (λ l. In (length l) 32) _ p [] (each_map _ _ _ u.pools (λ n h. rw (length-replicate n false) h) g.blocks) r;
      clock = lit< tt;
    };
    tasks = λ i r. each_of (SoundTask (idle u).store) _ i nobody (each_map _ _ idle_task u.tasks idle_task_lem g.starts) r;
    handlers = tt;
    counter = rw (length-map u.tasks idle_task) (idle_counter_lem u.counters g.counter);
  }

  idle_unserved : AllUnserved (idle u)
  unfolding idle
  idle_unserved zero r = tt
  idle_unserved (suc i) r = rw (idle_state u.tasks i).1 tt

  -- before any block is freed and any task started: nothing stands in a line
  pub unstarted_sound : Sound (record { body = idle u; lines = tabulate (idle u).store (λ q. []) })
  unfolding times
  unstarted_sound = record {
    body = idle_sound;
    shape = shape_tabulate (idle u).store (λ q. []);
    queues = λ q e. rw (line_tabulate (idle u).store (λ q. []) q e) (record { known = tt; stands = λ i r. ap once (sym (nobody_belongs u q i)) });
    unserved = idle_unserved;
  }
