-- The plan of an accepted setup shows it: each section is laid out as `part_at` says, and its rows lie where `section_lies` says.
-- Assumes nothing.
use mathlib.Core.Bool.{Bool, true, false, cond}
use mathlib.Core.List.{List, [], ◌∷◌, map}
use mathlib.Core.Path.{◌≡◌, refl, sym, ap, ◌∙◌}
use Prim.Native.Nat.{ℕ, zero, suc, ◌+◌, ◌-◌, ◌*◌, ◌≤◌, ◌<◌, min}
use native.Mathlib.Nat.{min-eq_left, min-le_right}
use native.Mathlib.Omega.{arith}
use lib.Dec.{eqb, leb}
use borrow.Author.Tests.{leb-true}
use lib.ListN.{length, drop, get_or, length-map, get_or-eq_default}
use Rattle.rules.specs.Ids.{of, In, Each}
use Rattle.rules.specs.Setup.{S4, Read, got, refused, word_at, Range, Section, section, priorities, sections, alarm_ranges, counters, read_section, read_sections, Entry, CounterEntry, Setup, entries_of, word_of, task_entry, alarm_entries, counter_entry, setup_of, read_with, read_setup, perhaps, at_end, setup}
use Rattle.rules.proofs.Accepted.{Reads, Fits, SectionFits, section_reads, reads_then, from_read}
use Rattle.setup_plan.specs.Layout.{part_at, plan_of, entry_at, alarms_at, counter_at, PlanShows, PlanFits}
use Rattle.setup_sections.proofs.Reading.{RowsAt, section_lies}

-- an entry within a table, whatever the defaults
map_at : {A B : Type 0} (f : A → B) (l : List A) (y : ℕ) (d : B) (a : A) → y < length l → get_or (map f l) y d ≡ f (get_or l y a)
map_at f [] y d a r = absurd (omega (arith, r))
map_at f (x ∷ l) zero d a r = refl
map_at f (x ∷ l) (suc y) d a r = map_at f l y d a (omega (arith, r))

module _ (s : List ℕ) where
  -- the section t, whose count stands at i, was read as these rows, up to j
  record Lies (t : Section) (i : ℕ) (rows : List (List ℕ)) (j : ℕ) : Type 0 where
    part : part_at s t.count.most (4 * length t.entry) i ≡ record { count = length rows; first = i + 4; next = j }
    words : (y x : ℕ) → y < length rows → x < length t.entry → word_of x (get_or rows y []) ≡ word_at s (i + 4 + 4 * (length t.entry * y + x))

  -- within the bytes and the largest count nothing is cut off
  part_is : (most w i n j : ℕ) → n ≡ word_at s i → n ≤ most → j ≡ i + 4 + 4 * (w * n) → j ≤ length s → part_at s most (4 * w) i ≡ record { count = n; first = i + 4; next = j }
  unfolding part_at
  part_is most w i n j count few next within =
      let a : min (word_at s i) most ≡ n = rw (← count) (min-eq_left few) in
      let b : min (i + 4) (length s) ≡ i + 4 = min-eq_left (omega arith) in
      let d : min (i + 4 + 4 * w * n) (length s) ≡ j = omega arith in
      simp (a, b, d)

  lies : (t : Section) (i : ℕ) (r : Read (List (List ℕ))) → Reads (RowsAt s (length t.entry) (word_at s i) (i + 4)) r
      → Reads (λ l j. SectionFits t l × (j ≤ length s)) r → Reads (Lies t i) r
  lies t i (got rows j) h g = record {
    part = part_is t.count.most (length t.entry) i (length rows) j h.0 g.0.0.1 (rw h.0 h.1) g.1;
    words = λ y x a b. h.2 y x (rw (← h.0) a) b;
  }
  lies t i (refused d place) h g = tt

  section_laid : (t : Section) (i : ℕ) → Reads (Lies t i) (read_section s t i)
  section_laid t i = lies t i (read_section s t i) (section_lies s t i) (section_reads s t i)

  -- a section and those behind it
  sections_then : (Q : List (List (List ℕ)) → ℕ → Type 0) (t : Section) (l : List Section) (i : ℕ)
      → ((x : List (List ℕ)) (j : ℕ) → Lies t i x j → Reads (λ xs k. Q (x ∷ xs) k) (read_sections s l j)) → Reads Q (read_sections s (t ∷ l) i)
  unfolding read_sections
  sections_then Q t l i g =
      reads_then (Lies t i) Q (read_section s t i) _ (section_laid t i)
      (λ x j h. reads_then (λ xs k. Q (x ∷ xs) k) Q (read_sections s l j) _ (g x j h) (λ xs k q. q))

  -- the entry of an id, of one word and of two
  one_word : (c r : Range) (i : ℕ) (rows : List (List ℕ)) (j : ℕ) → Lies (section c (r ∷ [])) i rows j
      → (y d : ℕ) → In y (length rows) → of (map (word_of 0) rows) y d ≡ word_at s (i + 4 + 4 * (y - 1))
  one_word c r i rows j h zero d within = absurd (omega (arith, within.0))
  one_word c r i rows j h (suc y) d within =
      map_at (word_of 0) rows y d [] within.1 ∙ h.words y 0 within.1 (omega arith) ∙ ap (word_at s) (omega arith)

  two_words : (c r q : Range) (i : ℕ) (rows : List (List ℕ)) (j : ℕ) → Lies (section c (r ∷ q ∷ [])) i rows j
      → (y : ℕ) (d : Entry) → In y (length rows) → of (map task_entry rows) y d ≡ entry_at s (i + 4 + 8 * (y - 1))
  two_words c r q i rows j h zero d within = absurd (omega (arith, within.0))
  two_words c r q i rows j h (suc y) d within =
      let first : word_of 0 (get_or rows y []) ≡ word_at s (i + 4 + 8 * (suc y - 1)) = h.words y 0 within.1 (omega arith) ∙ ap (word_at s) (omega arith) in
      let second : word_of 1 (get_or rows y []) ≡ word_at s (i + 4 + 8 * (suc y - 1) + 4) = h.words y 1 within.1 (omega arith) ∙ ap (word_at s) (omega arith) in
      map_at task_entry rows y d [] within.1 ∙ λ z. record { priority = first z; started = eqb (second z) 1 }

  -- ---- the eighth section

  -- from i on it was read as these rows, of a setup with some number of tasks; where it was left out, as none
  record Counted (i : ℕ) (rows : List (List ℕ)) : Type 0 where
    tasks : ℕ
    fits : Each (Fits (counters tasks).entry) rows
    count : (part_at s 1 68 i).count ≡ length rows
    words : (y x : ℕ) → y < length rows → x < 17 → word_of x (get_or rows y []) ≡ word_at s ((part_at s 1 68 i).first + 4 * (17 * y + x))

  counters_laid : (n i : ℕ) → Reads (λ c j. Counted i c) (read_section s (counters n) i)
  counters_laid n i = go (read_section s (counters n) i) (section_laid (counters n) i) (section_reads s (counters n) i)
    where
      go : (r : Read (List (List ℕ))) → Reads (Lies (counters n) i) r → Reads (λ l j. SectionFits (counters n) l × (j ≤ length s)) r → Reads (λ c j. Counted i c) r
      go (got rows j) h g = record { tasks = n; fits = g.0.1; count = ap (λ p. p.count) h.part; words = λ y x a b. h.words y x a b ∙ ap (λ (p : ℕ). word_at s (p + 4 * (17 * y + x))) (sym (ap (λ p. p.first) h.part)) }
      go (refused d place) h g = tt

  -- past the end every word is 0
  past : (i : ℕ) → length s ≤ i → word_at s i ≡ 0
  past i h =
      rw (get_or-eq_default s 0 h, get_or-eq_default s 0 (beyond 1), get_or-eq_default s 0 (beyond 2), get_or-eq_default s 0 (beyond 3))
    where
      beyond : (k : ℕ) → length s ≤ i + k
      beyond k = omega (arith, h)

  last_laid : (n i : ℕ) → Reads (λ c j. Counted i c) (perhaps s (counters n) i)
  unfolding perhaps
  last_laid n i = go (leb (length s) i) refl
    where
      go : (t : Bool) → leb (length s) i ≡ t → Reads (λ c j. Counted i c) (cond t (got [] i) (read_section s (counters n) i))
      go true e = record { tasks = n; fits = tt; count = none; words = λ y x a b. absurd (omega (arith, a)) }
        where
          none : (part_at s 1 68 i).count ≡ 0
          none = unfold part_at in rw (past i (leb-true _ _ e))
      go false e = counters_laid n i

  alarms_lie : (n k : ℕ) (w : List ℕ) (i : ℕ) → Fits (alarm_ranges n k) w → ((x : ℕ) → x < 2 * k → get_or w x 0 ≡ word_at s (i + 4 * x)) → alarm_entries w ≡ alarms_at s i k
  alarms_lie n zero [] i f h = refl
  alarms_lie n zero (x ∷ w) i f h = absurd f
  alarms_lie n (suc k) [] i f h = absurd f
  alarms_lie n (suc k) (t ∷ []) i f h = absurd f.1
  alarms_lie n (suc k) (t ∷ v ∷ w) i f h =
      let first : t ≡ word_at s i = h 0 (omega arith) ∙ ap (word_at s) (omega arith) in
      let second : v ≡ word_at s (i + 4) = h 1 (omega arith) ∙ ap (word_at s) (omega arith) in
      let rest = alarms_lie n k w (i + 8) f.1.1 (λ x r. h (suc (suc x)) (omega arith) ∙ ap (word_at s) (omega arith)) in
      λ z. record { task = first z; wakes = eqb (second z) 1 } ∷ rest z

  counter_lies : (n : ℕ) (w : List ℕ) (i : ℕ) → Fits (counters n).entry w → ((x : ℕ) → x < 17 → get_or w x 0 ≡ word_at s (i + 4 * x)) → counter_entry w ≡ counter_at s i
  counter_lies n [] i f h = absurd f
  counter_lies n (m ∷ w) i f h =
      let first : m ≡ word_at s i = h 0 (omega arith) ∙ ap (word_at s) (omega arith) in
      let rest = alarms_lie n 8 w (i + 4) f.1 (λ x r. h (suc x) (omega arith) ∙ ap (word_at s) (omega arith)) in
      λ z. record { size = first z; alarms = rest z }

  counter_shown_lem : (i : ℕ) (rows : List (List ℕ)) → Counted i rows → (y : ℕ) (d : CounterEntry) → In y (part_at s 1 68 i).count → of (map counter_entry rows) y d ≡ counter_at s ((part_at s 1 68 i).first + 68 * (y - 1))
  counter_shown_lem i rows h zero d within = absurd (omega (arith, within.0))
  counter_shown_lem i rows h (suc y) d within =
      map_at counter_entry rows y d [] there
      ∙ counter_lies h.tasks (get_or rows y []) ((part_at s 1 68 i).first + 68 * (suc y - 1)) (nth_fits rows y h.fits there) (λ x r. h.words y x there r ∙ ap (word_at s) (omega arith))
    where
      there : y < length rows
      there = omega (arith, within.1, h.count)

      nth_fits : (l : List (List ℕ)) (y : ℕ) → Each (Fits (counters h.tasks).entry) l → y < length l → Fits (counters h.tasks).entry (get_or l y [])
      nth_fits [] y f r = absurd (omega (arith, r))
      nth_fits (x ∷ l) zero f r = f.0
      nth_fits (x ∷ l) (suc y) f r = nth_fits l y f.1 (omega (arith, r))

  -- ---- the plan

  -- the section n behind the priorities, of which there are P
  abbrev nth : ℕ → ℕ → Section
  nth P n = get_or (sections P) n priorities

  module _ (i : ℕ) (p a b c d e f g : List (List ℕ)) (j k l m n o q : ℕ)
      (hp : Lies priorities i p j)
      (ha : Lies (nth (length p) 0) j a k)
      (hb : Lies (nth (length p) 1) k b l)
      (hc : Lies (nth (length p) 2) l c m)
      (hd : Lies (nth (length p) 3) m d n)
      (he : Lies (nth (length p) 4) n e o)
      (hf : Lies (nth (length p) 5) o f q)
      (hg : Counted q g) where
    plan_is : plan_of s i ≡ record {
      priorities = length p;
      tasks = length a;
      semaphores = length b;
      flags = length c;
      mailboxes = length d;
      messages = length e;
      pools = length f;
      counters = (part_at s 1 68 q).count;
      at = record { tasks = j + 4; semaphores = k + 4; flags = l + 4; pools = o + 4; counter = (part_at s 1 68 q).first };
    }
    unfolding plan_of
    plan_is = simp (hp.part, ha.part, hb.part, hc.part, hd.part, he.part, hf.part)

    shows : PlanShows (plan_of s i) s (setup_of (length p) (a ∷ b ∷ c ∷ d ∷ e ∷ f ∷ []) g)
    shows = rw plan_is (record {
      priorities = refl;
      tasks = sym (length-map a task_entry);
      semaphores = sym (length-map b (word_of 0));
      flags = sym (length-map c (word_of 0));
      mailboxes = refl;
      messages = refl;
      pools = sym (length-map f (word_of 0));
      counters = hg.count ∙ sym (length-map g counter_entry);
      starts = two_words _ _ _ j a k ha;
      counts = one_word _ _ k b l hb;
      patterns = one_word _ _ l c m hc;
      blocks = one_word _ _ o f q hf;
      counter = counter_shown_lem q g hg;
    })

  -- the plan shows the setup of these sections and of the eighth behind them
  abbrev Shown : ℕ → ℕ → List (List (List ℕ)) → ℕ → Type 0
  Shown i P x q = (g : List (List ℕ)) → Counted q g → PlanShows (plan_of s i) s (setup_of P x g)

  -- the sections behind that one
  abbrev behind : ℕ → ℕ → List Section
  behind P n = drop (suc n) (sections P)

  sections_show : (i : ℕ) (p : List (List ℕ)) (j : ℕ) → Lies priorities i p j → Reads (Shown i (length p)) (read_sections s (sections (length p)) j)
  unfolding read_sections
  sections_show i p j hp =
      let P = length p in
      sections_then (λ x. Shown i P x) (nth P 0) (behind P 0) j (λ a k ha.
      sections_then (λ x. Shown i P (a ∷ x)) (nth P 1) (behind P 1) k (λ b l hb.
      sections_then (λ x. Shown i P (a ∷ b ∷ x)) (nth P 2) (behind P 2) l (λ c m hc.
      sections_then (λ x. Shown i P (a ∷ b ∷ c ∷ x)) (nth P 3) (behind P 3) m (λ d n hd.
      sections_then (λ x. Shown i P (a ∷ b ∷ c ∷ d ∷ x)) (nth P 4) (behind P 4) n (λ e o he.
      sections_then (λ x. Shown i P (a ∷ b ∷ c ∷ d ∷ e ∷ x)) (nth P 5) (behind P 5) o (λ f q hf.
      λ g hg. shows i p a b c d e f g j k l m n o q hp ha hb hc hd he hf hg))))))

  plan_reads : (eighth : List ℕ → Section → ℕ → Read (List (List ℕ))) → ((n q : ℕ) → Reads (λ c j. Counted q c) (eighth s (counters n) q))
      → (i : ℕ) → Reads (λ u q. PlanShows (plan_of s i) s u) (read_with eighth s i)
  unfolding read_with
  plan_reads eighth e i =
      reads_then (Lies priorities i) _ (read_section s priorities i) _ (section_laid priorities i)
      (λ p j hp. reads_then (Shown i (length p)) _ (read_sections s (sections (length p)) j) _ (sections_show i p j hp)
      (λ x q h. reads_then (λ c j. Counted q c) _ (eighth s (counters (length (entries_of x 0))) q) _ (e (length (entries_of x 0)) q) (λ c r g. h c g)))

-- what is accepted with nothing left over was read
ended : {A : Type 0} (s : List ℕ) (r : Read A) (a : A) (k : ℕ) → at_end s r ≡ got a k → r ≡ got a k
unfolding at_end
ended {A} s (got b i) a k e = go (leb (length s) i) e
  where
    go : (t : Bool) → cond {A = Read A} t (got b i) (refused S4 i) ≡ got a k → got b i ≡ got a k
    go true e = e
    go false e = absurd (let z : ◌≡◌ {A = ℕ} 0 1 = cc in omega arith)
ended s (refused d place) a k e = absurd (let z : ◌≡◌ {A = ℕ} 0 1 = cc in omega arith)

-- The plan of a setup that is read shows it: its counts, and the entry of each id.
pub plan_law : (s : List ℕ) (at : ℕ) (u : Setup) (k : ℕ) → read_setup s at ≡ got u k → PlanShows (plan_of s at) s u
unfolding read_setup
plan_law s at u k e = from_read _ (read_setup s at) u k e (plan_reads s read_section (counters_laid s) at)

-- the same of a setup alone
pub whole_plan_law : (s : List ℕ) (u : Setup) (k : ℕ) → setup s ≡ got u k → PlanShows (plan_of s 0) s u
unfolding setup
whole_plan_law s u k e = from_read _ (read_with perhaps s 0) u k (ended s (read_with perhaps s 0) u k e) (plan_reads s perhaps (last_laid s) 0)

part_fits : (s : List ℕ) (most size i : ℕ) → ((part_at s most size i).count ≤ most) × ((part_at s most size i).first ≤ length s)
unfolding part_at
part_fits s most size i = (min-le_right _ _, min-le_right _ _)

-- Of any bytes: no count passes its section's largest, and no offset the end.
pub plan_fits : (s : List ℕ) (at : ℕ) → PlanFits (plan_of s at) (length s)
unfolding plan_of
plan_fits s at = record {
  priorities = (part_fits s _ _ _).0;
  tasks = (part_fits s _ _ _).0;
  semaphores = (part_fits s _ _ _).0;
  flags = (part_fits s _ _ _).0;
  mailboxes = (part_fits s _ _ _).0;
  messages = (part_fits s _ _ _).0;
  pools = (part_fits s _ _ _).0;
  counters = (part_fits s _ _ _).0;
  starts = (part_fits s _ _ _).1;
  counts = (part_fits s _ _ _).1;
  patterns = (part_fits s _ _ _).1;
  blocks = (part_fits s _ _ _).1;
  counter = (part_fits s _ _ _).1;
}
