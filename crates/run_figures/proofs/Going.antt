-- Items in turn, byte by byte: what has been counted so far, and one byte more. Assumes nothing.
use mathlib.Core.List.{List, [], ◌∷◌, ◌++◌, map}
use mathlib.Core.Path.{◌≡◌, refl, sym, ap, ◌∙◌, subst}
use Prim.Native.Nat.{ℕ, zero, suc, ◌+◌, ◌≤◌, ◌<◌, min}
use native.Mathlib.Omega.{arith}
use lib.IntN.{ℤ}
use lib.ListN.{length, take, get_or}
use Rattle.std.proofs.Common.{Result, Ok, Err}
use Rattle.std.specs.Result.{result_and}
use Rattle.rules.specs.Setup.{Fault, S1, S2, S3, S4, digit, got, setup, Setup}
use Rattle.rules.specs.Kernel.{fresh}
use Rattle.memory_picture.specs.Picture.{tasks_shown, Memory, memory}
use Rattle.check_damage.specs.declared.Breach.{Breach}
use Rattle.kernel_start.specs.Starting.{Starts, Holds}
use Rattle.setup_sections.specs.Judging.{Refusal, coded, digit_of}
use Rattle.kernel_steps.specs.Steps.{Reply, Link}
use Rattle.kernel_steps.specs.Serving.{Known, Serves}
use Rattle.kernel_serving.proofs.Served.{known_on}
use Rattle.call_reading.specs.Reading.{number_at}
use Rattle.run_reading.specs.Recorded.{Item, begins, occurs, refuses, event_in, event_bytes}
use Rattle.run_reading.specs.Recorder.{Recorder, items, after, eat}
use Rattle.run_reading.proofs.Division.{append_nil, items_append, after_append}
use Rattle.run_stream.specs.declared.Item.{Item as Completed}
use Rattle.run_stream.specs.declared.Item.TheVariants.{Nothing, Begins, Occurs}
use Rattle.run_stream.specs.Lent.{recorder_of, Tells, Takes, said, Said}
use Rattle.run_tally.specs.Tables.{table_counted, codes_counted}
use Rattle.run_figures.specs.Figures.{Seen, Figures, figures, counted, counted_all}
use Rattle.run_figures.specs.Counting.{Lent, seen_in, seen_link, Went, refusal_from, first_said, Counts, Goes, CountsTold}

-- ---- what is seen

-- a row's cell depends on the states of the tasks that there are alone
pub counted_alike : (n : ℕ) (f g : ℕ → ℕ) → ((i : ℕ) → i < n → f i ≡ g i) → (t : List (List ℕ)) → table_counted n f t ≡ table_counted n g t
unfolding table_counted
counted_alike zero f g h t = refl
counted_alike (suc n) f g h [] = refl
counted_alike (suc n) f g h (r ∷ t) =
    let e = h 0 (omega arith) in
    rw (e, counted_alike n (λ i. f (suc i)) (λ i. g (suc i)) (λ i k. h (suc i) (omega (arith, k))) t)

pub count_law : (b : List ℕ) (code : ℤ) (t : List (List ℕ)) (l : List ℕ) (n : ℕ) (s : List ℕ) → n ≡ min (tasks_shown b) 32 → ((i : ℕ) → i < n → get_or s i 0 ≡ number_at b (suc i))
    → {t' : List (List ℕ)} → t' ≡ table_counted (min n 32) (λ i. get_or s i 0) t → {l' : List ℕ} → l' ≡ codes_counted l code → figures t' l' ≡ counted (figures t l) (seen_in code b)
count_law b code t l n s e w p q =
    let m : min n 32 ≡ min (tasks_shown b) 32 = omega (arith, e) in
    let a : table_counted (min (tasks_shown b) 32) (λ i. get_or s i 0) t ≡ table_counted (min (tasks_shown b) 32) (λ i. number_at b (suc i)) t =
    counted_alike (min (tasks_shown b) 32) (λ i. get_or s i 0) (λ i. number_at b (suc i)) (λ i h. w i (omega (arith, e, h))) t in
    let r = p ∙ ap (λ (k : ℕ). table_counted k (λ i. get_or s i 0) t) m ∙ a in
    λ z. figures (r z) (q z)

-- ---- items behind items

pub map_append : (a b : List Link) → map seen_link (a ++ b) ≡ map seen_link a ++ map seen_link b
map_append [] b = refl
map_append (k ∷ a) b = ap (λ (l : List Seen). seen_link k ∷ l) (map_append a b)

pub counted_append : (f : Figures) (a b : List Seen) → counted_all f (a ++ b) ≡ counted_all (counted_all f a) b
unfolding counted_all
counted_append f [] b = refl
counted_append f (x ∷ a) b = counted_append (counted f x) a b

pub went_append : (a b : List Item) (old mid new : Memory) (k l : List Link) → Went a old k mid → Went b mid l new → Went (a ++ b) old (k ++ l) new
went_append [] b old mid new k l w v = rw w.0 (subst (λ (m : Memory). Went b m l new) w.1 v)
went_append (begins h ∷ a) b old mid new k l w v = (w.0, w.1, went_append a b w.0 mid new k l w.2 v)
went_append (occurs n e ∷ a) b old mid new k l w v =
    (w.0, w.1 ++ l, ap (λ (x : List Link). x ++ l) w.2, w.3, w.4, went_append a b w.0.left mid new w.1 l w.5 v)
went_append (refuses f p ∷ a) b old mid new k l w v = went_append a b old mid new k l w v

refusal_append : (s : Said) (a b : List Item) → refusal_from s (a ++ b) ≡ refusal_from (refusal_from s a) b
refusal_append s [] b = refl
refusal_append s (begins h ∷ a) b = refusal_append s a b
refusal_append s (occurs n e ∷ a) b = refusal_append s a b
refusal_append s (refuses f p ∷ a) b = refusal_append (said (digit f) p) a b

-- ---- one item

module _ (k : Result ℕ Breach) (old : Memory) (f : Figures) where
  pub told_nothing : (h : List ℕ) → CountsTold Nothing h k old old f f k
  unfolding counted_all
  told_nothing h l e K = record { links = []; went = subst (λ (x : List Item). Went x old [] old) (sym e) (refl, refl); counts = refl; known = K }

  -- a setup
  module _ (h : List ℕ) (end : ℕ) (r : Result (Unit {0}) Refusal) {b m : List ℕ} (S : Starts (take end h) r old (memory b m)) where
    fresh_holds : (u : Setup) → setup (take end h) ≡ got u end → Holds (memory b m) (fresh u)
    unfolding Starts
    fresh_holds u q = let w = rw q at S in record { accepted = w.1; view = w.2 }

    pub told_begins : {k' : Result ℕ Breach} → Known k' (memory b m) → CountsTold (Begins end) h k old (memory b m) f f k'
    unfolding counted_all
    told_begins L l T K = record {
      links = [];
      went = subst (λ (x : List Item). Went x old [] (memory b m)) (sym T.1) (memory b m, fresh_holds T.0.setup T.2, (refl, refl));
      counts = refl;
      known = L;
    }

  -- an event
  module _ (h : List ℕ) (i : ℕ) {r : Reply} {new : Memory} (S : Serves (event_in (take event_bytes h)) k old r new)
      {f' : Figures} (c : f' ≡ counted f (seen_in r.code new.words)) where
    pub told_occurs : CountsTold (Occurs i) h k old new f f' (result_and k (Ok r.runs))
    unfolding counted_all
    told_occurs l T K =
        let n : Link = record { event = event_in (take event_bytes h); reply = r; left = new } in
        record {
          links = n ∷ [];
          went = subst (λ (x : List Item). Went x old (n ∷ []) new) (sym T) (n, [], refl, refl, S K, (refl, refl));
          counts = c;
          known = known_on k K (S K);
        }

-- of a refusal nothing is done
told_refusal : (k : Result ℕ Breach) (old : Memory) (f : Figures) (h : List ℕ) (e : Refusal) (l : List Item) → Tells (Err e) h l → Known k old → Goes l old old f f k
unfolding counted_all
told_refusal k old f h e l T K = record { links = []; went = subst (λ (x : List Item). Went x old [] old) (sym T.1) (refl, refl); counts = refl; known = K }

-- what is said behind an item, and behind a refusal
quiet : (s : Said) (c : Completed) (h : List ℕ) (l : List Item) → Tells (Ok c) h l → s ≡ refusal_from s l
quiet s Nothing h l T = ap (refusal_from s) (sym T)
quiet s (Begins end) h l T = ap (refusal_from s) (sym T.1)
quiet s (Occurs i) h l T = ap (refusal_from s) (sym T)

said_refusal : (s : Said) (e : Refusal) (h : List ℕ) (l : List Item) → Tells (Err e) h l → {d : ℕ} → d ≡ digit_of e.fault → said d e.place ≡ refusal_from s l
said_refusal s e h l T q = ap (λ (n : ℕ). said n e.place) (q ∙ ap digit_of T.2 ∙ digit_coded T.0) ∙ ap (refusal_from s) (sym T.1)
  where
    digit_coded : (f : Fault) → digit_of (coded f) ≡ digit f
    digit_coded S1 = refl
    digit_coded S2 = refl
    digit_coded S3 = refl
    digit_coded S4 = refl

-- ---- byte by byte

-- the bytes so far are counted
pub record Reached (start : Lent) (s : Said) (done : List ℕ) (r : Recorder) (now : Memory) (f : Figures) (k : Result ℕ Breach) (a : Said) : Type 0 where
  pub recorder : r ≡ after start.recorder done
  pub links : List Link
  pub went : Went (items start.recorder done) start.memory links now
  pub counts : f ≡ counted_all start.figures (map seen_link links)
  pub known : Known k now
  pub says : a ≡ refusal_from s (items start.recorder done)

module _ (start : Lent) (s : Said) where
  pub reached_none : (k : Result ℕ Breach) {a : Said} → Known k start.memory → a ≡ s → Reached start s [] start.recorder start.memory start.figures k a
  unfolding items after counted_all
  reached_none k K e = record { recorder = refl; links = []; went = (refl, refl); counts = refl; known = K; says = e }

  module _ {done : List ℕ} {n h : List ℕ} {m : Memory} {f : Figures} {k : Result ℕ Breach} {a : Said} (R : Reached start s done (recorder_of n h) m f k a) (b : ℕ) {r : Result Completed Refusal} {n' h' : List ℕ} (T : Takes b n h r n' h') where
    one_items : (r : Recorder) → items r (b ∷ []) ≡ (eat r b).items
    unfolding items
    one_items r = append_nil (eat r b).items

    next_items : items start.recorder (done ++ (b ∷ [])) ≡ items start.recorder done ++ (eat (recorder_of n h) b).items
    next_items = items_append start.recorder done (b ∷ []) ∙ ap (λ (x : List Item). items start.recorder done ++ x) (one_items (after start.recorder done) ∙ ap (λ (r : Recorder). (eat r b).items) (sym R.recorder))

    next_after_lem : recorder_of n' h' ≡ after start.recorder (done ++ (b ∷ []))
    unfolding after
    next_after_lem = T.next ∙ ap (λ (r : Recorder). (eat r b).next) R.recorder ∙ sym (after_append start.recorder done (b ∷ []))

    next_reached : {m' : Memory} {f' : Figures} {k' : Result ℕ Breach} {a' : Said} → Goes (eat (recorder_of n h) b).items m m' f f' k' → a' ≡ refusal_from a (eat (recorder_of n h) b).items
        → Reached start s (done ++ (b ∷ [])) (recorder_of n' h') m' f' k' a'
    next_reached {m'} {f'} {k'} g e = record {
      recorder = next_after_lem;
      links = R.links ++ g.links;
      went = rw next_items (went_append (items start.recorder done) (eat (recorder_of n h) b).items start.memory m m' R.links g.links R.went g.went);
      counts = g.counts ∙ ap (λ (x : Figures). counted_all x (map seen_link g.links)) R.counts ∙ sym (counted_append start.figures (map seen_link R.links) (map seen_link g.links)) ∙ ap (counted_all start.figures) (sym (map_append R.links g.links));
      known = g.known;
      says = e ∙ ap (λ (x : Said). refusal_from x (eat (recorder_of n h) b).items) R.says ∙ sym (refusal_append s (items start.recorder done) (eat (recorder_of n h) b).items) ∙ ap (refusal_from s) (sym next_items);
    }

    -- an item, or a refusal
    pub reached_item : {c : Completed} → r ≡ Ok c → {m' : Memory} {f' : Figures} {k' : Result ℕ Breach} → CountsTold c h' k m m' f f' k' → Reached start s (done ++ (b ∷ [])) (recorder_of n' h') m' f' k' a
    reached_item {c} q G =
        let t : Tells (Ok c) h' (eat (recorder_of n h) b).items = rw q at T.tells in
        next_reached (G _ t R.known) (quiet a c h' _ t)

    pub reached_refusal : {e : Refusal} → r ≡ Err e → {d : ℕ} → d ≡ digit_of e.fault → Reached start s (done ++ (b ∷ [])) (recorder_of n' h') m f k (said d e.place)
    reached_refusal {e} q p =
        let t : Tells (Err e) h' (eat (recorder_of n h) b).items = rw q at T.tells in
        next_reached (told_refusal k m f h' e _ t R.known) (said_refusal a e h' _ t p)

pub take_next : (l : List ℕ) (i : ℕ) → i < length l → take (i + 1) l ≡ take i l ++ (get_or l i 0 ∷ [])
take_next [] i h = absurd (omega (arith, h))
take_next (x ∷ l) zero h = refl
take_next (x ∷ l) (suc i) h = let e : suc i + 1 ≡ suc (i + 1) = omega arith in rw e (ap (λ (m : List ℕ). x ∷ m) (take_next l i (omega (arith, h))))

take_all : (l : List ℕ) (i : ℕ) → length l ≤ i → take i l ≡ l
take_all [] zero h = refl
take_all [] (suc i) h = refl
take_all (x ∷ l) zero h = absurd (omega (arith, h))
take_all (x ∷ l) (suc i) h = ap (λ (m : List ℕ). x ∷ m) (take_all l i (omega (arith, h)))

-- all bytes are counted
pub reached_all : (start : Lent) (bytes : List ℕ) (i : ℕ) → length bytes ≤ i → {r : Recorder} {m : Memory} {f : Figures} (k : Result ℕ Breach) {number place : ℕ}
    → Reached start (first_said start.recorder (length bytes)) (take i bytes) r m f k (said number place)
    → Counts bytes start (record { recorder = r; memory = m; figures = f }) (record { number = number; place = place })
reached_all start bytes i h k R =
    let w = rw (take_all bytes i h) at R in
    record { recorder = w.recorder; links = w.links; went = w.went; counts = w.counts; says = w.says }
