-- A part, byte by byte: what was taken so far, and one byte more. Assumes nothing.
use mathlib.Core.Bool.{Bool, true, false, true≢false, cond, ◌&&◌}
use mathlib.Core.List.{List, [], ◌∷◌, ◌++◌, append-nil, append_assoc}
use mathlib.Core.Logic.{◌≢◌}
use mathlib.Core.Path.{◌≡◌, refl, sym, ap, ◌∙◌, subst}
use Prim.Native.Nat.{ℕ, zero, suc, ◌+◌, ◌-◌, ◌≤◌, ◌<◌}
use native.Mathlib.Decide.{ℕ_discrete}
use native.Mathlib.Omega.{arith}
use lib.Dec.{leb}
use lib.ListN.{length, take, drop, get_or, length-append, length-drop, drop_of_length-le}
use borrow.Rule.Slice.PartMut.{mid_of, put_mid}
use borrow.Author.Tests.{le-leb, lt-leb}
use Rattle.rules.specs.Setup.{S1, S2, S3, S4, Read, got, refused, digit}
use Rattle.std.proofs.Common.{Result, Option, None, Some}
use Rattle.setup_sections.specs.declared.Fault.{Fault as Code}
use Rattle.setup_sections.specs.declared.Fault.TheVariants as code
use Rattle.setup_sections.specs.Judging.{Refusal, digit_of}
use Rattle.memory_picture.specs.Picture.{Memory}
use Rattle.check_damage.specs.declared.Breach.{Breach}
use Rattle.kernel_steps.specs.Serving.{Known}
use Rattle.run_reading.specs.Recorded.{Head, read_head, event_bytes, event_in, Item, begins, occurs, refuses}
use Rattle.run_reading.specs.Recorder.{Recorder, heading, running, stopped, ended, closed, fed, on_head, eat, items, after}
use Rattle.run_reading.proofs.Division.{items_append, after_append}
use Rattle.run_text.specs.Lines.{longest_line}
use Rattle.run_text.specs.Output.{over, laid, Wrote}
use Rattle.run_text.proofs.Laid.{laid_over}
use Rattle.run_recorder.specs.declared.Turn.{Turn}
use Rattle.run_recorder.specs.Running.{Ran}
use Rattle.run_stream.specs.Lent.{Said, said}
use Rattle.run_recorder.specs.Recording.{Lent, recorder_in, taken, S5, full, refusal_in, said_of, Admits, Parts, Plays, Eats}

-- ---- lists

take_next : (s : List ℕ) (i : ℕ) → i < length s → take (i + 1) s ≡ take i s ++ (get_or s i 0 ∷ [])
take_next [] i h = absurd (omega (arith, h))
take_next (x ∷ s) zero h = refl
take_next (x ∷ s) (suc i) h = let e : suc i + 1 ≡ suc (i + 1) = omega arith in rw e (ap (λ (l : List ℕ). x ∷ l) (take_next s i (omega (arith, h))))

pub take_front : (a b : List ℕ) → take (length a) (a ++ b) ≡ a
take_front [] b = refl
take_front (x ∷ a) b = ap (λ (l : List ℕ). x ∷ l) (take_front a b)

drop_front : (a b : List ℕ) → drop (length a) (a ++ b) ≡ b
drop_front [] b = refl
drop_front (x ∷ a) b = drop_front a b

take_whole : (s : List ℕ) (n : ℕ) → length s ≤ n → take n s ≡ s
take_whole [] zero h = refl
take_whole [] (suc n) h = refl
take_whole (x ∷ s) zero h = absurd (omega (arith, h))
take_whole (x ∷ s) (suc n) h = ap (λ (l : List ℕ). x ∷ l) (take_whole s n (omega (arith, h)))

drop_more : (m n : ℕ) (l : List ℕ) → drop m (drop n l) ≡ drop (n + m) l
drop_more m zero l = let e : 0 + m ≡ m = omega arith in rw e
drop_more zero (suc n) [] = let e : suc n + 0 ≡ suc n = omega arith in rw e
drop_more (suc m) (suc n) [] = let e : suc n + suc m ≡ suc (n + suc m) = omega arith in rw e
drop_more m (suc n) (x ∷ l) = let e : suc n + m ≡ suc (n + m) = omega arith in rw e (drop_more m n l)

-- ---- what an output holds

-- a line behind those that stand there
over_next : (lines line text : List ℕ) {text' tail : List ℕ} {at w : ℕ} → text' ≡ over lines text → at ≡ length lines → at ≤ length text → Wrote line 0 (drop at text') tail w → w ≤ length text - at
    → take at text' ++ tail ≡ over (lines ++ line) text
over_next lines line text {text'} {tail} {at} {w} e q h W k =
    let d : drop at text' ≡ drop at text = rw (e, q) (drop_front lines (drop (length lines) text)) in
    let t : take at text' ≡ lines = rw (e, q) (take_front lines (drop (length lines) text)) in
    let m : length line ≤ length (drop at text) = omega (arith, W.next, k, length-drop at text) in
    let l : tail ≡ line ++ drop (length line) (drop at text) = W.holds ∙ ap (λ (x : List ℕ). laid line 0 x) d ∙ laid_over line (drop at text) m in
    let sum : at + length line ≡ length (lines ++ line) = omega (arith, length-append lines line, q) in
    let n : drop (length line) (drop at text) ≡ drop (length (lines ++ line)) text = drop_more (length line) at text ∙ ap (λ (x : ℕ). drop x text) sum in
    (λ z. t z ++ l z) ∙ ap (λ (x : List ℕ). lines ++ (line ++ x)) n ∙ sym (append_assoc lines line (drop (length (lines ++ line)) text))

-- the rest of an output, lent and given back, is all behind its place
mid_all : (s : List ℕ) (at : ℕ) → at ≤ length s → mid_of at (length s - at) s ≡ drop at s
mid_all s at h = let e : length (drop at s) ≤ length s - at = omega (arith, length-drop at s) in take_whole (drop at s) (length s - at) e

put_all : (s tail : List ℕ) (at : ℕ) → at ≤ length s → put_mid at (length s - at) s tail ≡ take at s ++ tail
put_all s tail at h =
    let e : length (drop at s) ≤ length s - at = omega (arith, length-drop at s) in
    ap (λ (x : List ℕ). take at s ++ x) (ap (λ (x : List ℕ). tail ++ x) (drop_of_length-le (drop at s) e) ∙ append-nil tail)

-- ---- items behind items

pub ran_append : (a b : List Item) (old middle new : Memory) (t u : List ℕ) → Ran a old t middle → Ran b middle u new → Ran (a ++ b) old (t ++ u) new
ran_append [] b old middle new t u R S = rw R.0 (subst (λ (m : Memory). Ran b m u new) R.1 S)
ran_append (i ∷ a) b old middle new t u R S = record {
  line = R.line;
  middle = R.middle;
  more = R.more ++ u;
  first = R.first;
  short = R.short;
  rest = ran_append a b R.middle middle new R.more u R.rest S;
  joins = rw R.joins (append_assoc R.line R.more u);
}

-- ---- refusals

abbrev Quiet : List Item → Type 0
Quiet l = (d : Said) → refusal_in l d ≡ d

refusal_small : (l : List Item) → (refusal_in l taken).number ≤ 4
refusal_small [] = omega arith
refusal_small (begins h ∷ l) = refusal_small l
refusal_small (occurs i e ∷ l) = refusal_small l
refusal_small (refuses S1 p ∷ l) = omega arith
refusal_small (refuses S2 p ∷ l) = omega arith
refusal_small (refuses S3 p ∷ l) = omega arith
refusal_small (refuses S4 p ∷ l) = omega arith

none_quiet : (l : List Item) → (refusal_in l taken).number ≡ 0 → Quiet l
none_quiet [] h d = refl
none_quiet (begins x ∷ l) h d = none_quiet l h d
none_quiet (occurs i e ∷ l) h d = none_quiet l h d
none_quiet (refuses S1 p ∷ l) h d = absurd (omega (arith, h))
none_quiet (refuses S2 p ∷ l) h d = absurd (omega (arith, h))
none_quiet (refuses S3 p ∷ l) h d = absurd (omega (arith, h))
none_quiet (refuses S4 p ∷ l) h d = absurd (omega (arith, h))

some_said : (l : List Item) → (refusal_in l taken).number ≢ 0 → (d : Said) → refusal_in l d ≡ refusal_in l taken
some_said [] h d = absurd (h refl)
some_said (begins x ∷ l) h d = some_said l h d
some_said (occurs i e ∷ l) h d = some_said l h d
some_said (refuses f p ∷ l) h d = refl

quiet_behind : (a b : List Item) → Quiet a → (d : Said) → refusal_in (a ++ b) d ≡ refusal_in b d
quiet_behind [] b q d = refl
quiet_behind (begins x ∷ a) b q d = quiet_behind a b q d
quiet_behind (occurs i e ∷ a) b q d = quiet_behind a b q d
quiet_behind (refuses f p ∷ a) b q d =
    let x : digit f ≡ 0 = ap (λ (s : Said). s.number) (q taken) in
    let y : digit f ≡ 6 = ap (λ (s : Said). s.number) (q full) in
    absurd (omega (arith, x, y))

digit_some : (f : Code) → digit_of f ≢ 0
digit_some code.S1 e = omega (arith, e)
digit_some code.S2 e = omega (arith, e)
digit_some code.S3 e = omega (arith, e)
digit_some code.S4 e = omega (arith, e)

-- a byte that is not refused does not close the recorder
stays_open : (r : Recorder) (b : ℕ) → closed r ≡ false → (refusal_in (eat r b).items taken).number ≡ 0 → closed (eat r b).next ≡ false
unfolding eat
stays_open (heading l) b o q = go (read_head (l ++ (b ∷ []))) q
  where
    go : (y : Read Head) → (refusal_in (on_head (l ++ (b ∷ [])) y).items taken).number ≡ 0 → closed (on_head (l ++ (b ∷ [])) y).next ≡ false
    go (got h i) q = refl
    go (refused S1 p) q = refl
    go (refused S2 p) q = absurd (omega (arith, q))
    go (refused S3 p) q = absurd (omega (arith, q))
    go (refused S4 p) q = absurd (omega (arith, q))
stays_open (running zero k p l) b o q = absurd (omega (arith, q))
stays_open (running (suc n) k p l) b o q = go (leb event_bytes (length (l ++ (b ∷ []))))
  where
    go : (t : Bool) → closed (cond t (fed (running n (suc k) (p + event_bytes) []) (occurs k (event_in (l ++ (b ∷ []))) ∷ [])) (fed (running (suc n) k p (l ++ (b ∷ []))) [])).next ≡ false
    go true = refl
    go false = refl
stays_open stopped b o q = absurd (true≢false o)
stays_open ended b o q = absurd (true≢false o)

-- more lines stand behind those of the bytes in front
admits_on : {r : Recorder} {m : Memory} {front lines : List ℕ} {room : ℕ} (line : List ℕ) → Admits r m front lines room → Admits r m front (lines ++ line) room
admits_on line T = record {
  is_open = T.is_open;
  before = T.before;
  left = T.left;
  more = T.more ++ line;
  ran = T.ran;
  joins = ap (λ (l : List ℕ). l ++ line) T.joins ∙ append_assoc T.before T.more line;
  space = T.space;
}

-- ---- so many bytes

module _ (bytes : List ℕ) (old : Lent) (text : List ℕ) where
  abbrev so_far : ℕ → List Item
  so_far i = items (recorder_in old) (take i bytes)

  -- i bytes were taken, and their lines stand in the output
  pub record Taken (i at : ℕ) (new : Lent) (text' : List ℕ) : Type 0 where
    pub few : i ≤ length bytes
    pub recorder : recorder_in new ≡ after (recorder_in old) (take i bytes)
    pub lines : List ℕ
    pub ran : Ran (so_far i) old.memory lines new.memory
    pub count : at ≡ length lines
    pub fits : at ≤ length text
    pub holds : text' ≡ over lines text
    pub each : closed (recorder_in old) ≡ false → (k : ℕ) → k < i → Admits (recorder_in old) old.memory (take k bytes) lines (length text)

  pub taken_length : {i at : ℕ} {new : Lent} {text' : List ℕ} → Taken i at new text' → length text' ≡ length text
  taken_length T = ap length T.holds ∙ length-append T.lines (drop (length T.lines) text) ∙ omega (arith, length-drop (length T.lines) text, T.count, T.fits)

  -- and there was no refusal; it is known whether the state is sound and who runs
  pub record Going (k : Result ℕ Breach) (i at : ℕ) (new : Lent) (text' : List ℕ) : Type 0 where
    pub done : Taken i at new text'
    pub quiet : Quiet (so_far i)
    pub is_open : closed (recorder_in old) ≡ false → closed (recorder_in new) ≡ false
    pub known : Known k new.memory
    pub kept : i ≡ 0 → (new ≡ old) × (text' ≡ text)

  pub going_first : {k : Result ℕ Breach} → Known k old.memory → Going k 0 0 old text
  unfolding items after
  going_first K = record {
    done = record { few = omega arith; recorder = refl; lines = []; ran = (refl, refl); count = refl; fits = omega arith; holds = refl; each = λ o k h. absurd (omega (arith, h)) };
    quiet = λ d. refl;
    is_open = λ o. o;
    known = K;
    kept = λ z. (refl, refl);
  }

  -- the next byte's items stand behind those so far
  items_next : (i : ℕ) → i < length bytes → (r : Recorder) → r ≡ after (recorder_in old) (take i bytes)
      → (so_far (i + 1) ≡ so_far i ++ (eat r (get_or bytes i 0)).items) × (after (recorder_in old) (take (i + 1) bytes) ≡ (eat r (get_or bytes i 0)).next)
  unfolding items after
  items_next i h r e =
      let b : ℕ = get_or bytes i 0 in (
        ap (items (recorder_in old)) (take_next bytes i h) ∙ items_append (recorder_in old) (take i bytes) (b ∷ []) ∙ ap (λ (l : List Item). so_far i ++ l) (append-nil (eat (after (recorder_in old) (take i bytes)) b).items ∙ ap (λ (x : Recorder). (eat x b).items) (sym e)),
        ap (after (recorder_in old)) (take_next bytes i h) ∙ after_append (recorder_in old) (take i bytes) (b ∷ []) ∙ ap (λ (x : Recorder). (eat x b).next) (sym e),
      )

  module _ {k : Result ℕ Breach} {i at : ℕ} {new : Lent} {text' : List ℕ} (G : Going k i at new text') where
    same_text : length text' ≡ length text
    same_text = taken_length G.done

    module _ (more : i < length bytes) (room : longest_line ≤ length text' - at) {later : Lent} {tail : List ℕ} {t : Turn}
        (E : Eats (get_or bytes i 0) k new later (mid_of at (length text' - at) text') tail t) where
      within : at ≤ length text'
      within = omega (arith, G.done.fits, same_text)

      played : Plays (eat (recorder_in new) (get_or bytes i 0)).items new.memory later.memory (drop at text') tail t
      played = subst (λ (x : List ℕ). Plays (eat (recorder_in new) (get_or bytes i 0)).items new.memory later.memory x tail t) (mid_all text' at within) (E.plays G.known)

      -- it is taken where there is room, as those before it
      each_more : closed (recorder_in old) ≡ false → (k : ℕ) → k < i + 1 → Admits (recorder_in old) old.memory (take k bytes) (G.done.lines ++ played.line) (length text)
      each_more o k h = elim (ℕ_discrete k i) [
        | yes e ↦ rw e
            (record {
              is_open = ap closed (sym G.done.recorder) ∙ G.is_open o;
              before = G.done.lines;
              left = new.memory;
              more = played.line;
              ran = G.done.ran;
              joins = refl;
              space = omega (arith, G.done.count, room, same_text, within);
            })
        | no ne ↦ admits_on played.line (G.done.each o k (omega (arith, h, ne)))
      ]

      pub one_more : Taken (i + 1) (at + t.written) later (put_mid at (length text' - at) text' tail)
      one_more =
          let D = G.done in
          let P = played in
          let n = items_next i more (recorder_in new) D.recorder in
          record {
            few = omega (arith, more);
            recorder = E.next ∙ sym n.1;
            lines = D.lines ++ P.line;
            ran = subst (λ (l : List Item). Ran l old.memory (D.lines ++ P.line) later.memory) (sym n.0) (ran_append (so_far i) (eat (recorder_in new) (get_or bytes i 0)).items old.memory new.memory later.memory D.lines P.line D.ran P.ran);
            count = omega (arith, D.count, P.wrote.next, length-append D.lines P.line);
            fits = omega (arith, D.fits, P.short, room, same_text);
            holds = put_all text' tail at within ∙ over_next D.lines P.line text D.holds D.count D.fits P.wrote (omega (arith, P.short, room, same_text));
            each = each_more;
          }

      -- what is said of it is said of all
      said_next : (d : Said) → refusal_in (so_far (i + 1)) d ≡ refusal_in (eat (recorder_in new) (get_or bytes i 0)).items d
      said_next d =
          let n = items_next i more (recorder_in new) G.done.recorder in
          ap (λ (l : List Item). refusal_in l d) n.0 ∙ quiet_behind (so_far i) (eat (recorder_in new) (get_or bytes i 0)).items G.quiet d

      pub goes_on : t.refusal ≡ None → Going t.known (i + 1) (at + t.written) later (put_mid at (length text' - at) text' tail)
      goes_on z = record {
        done = one_more;
        quiet = λ d. said_next d ∙ none_quiet (eat (recorder_in new) (get_or bytes i 0)).items unrefused d;
        is_open = λ o. ap closed E.next ∙ stays_open (recorder_in new) (get_or bytes i 0) (G.is_open o) unrefused;
        known = played.known;
        kept = λ e. absurd (omega (arith, e));
      }
        where
          unrefused : (refusal_in (eat (recorder_in new) (get_or bytes i 0)).items taken).number ≡ 0
          unrefused = sym (ap (λ (s : Said). s.number) played.says) ∙ ap (λ (r : Option Refusal). (said_of r).number) z

      pub part_refused : {e : Refusal} → t.refusal ≡ Some e → {d : ℕ} → d ≡ digit_of e.fault → closed (recorder_in old) ≡ false → Parts bytes old later text (put_mid at (length text' - at) text' tail) (record { number = d; place = e.place; taken = i + 1; written = at + t.written })
      part_refused {e} z {d} w o =
          let D = one_more in
          let l : List Item = (eat (recorder_in new) (get_or bytes i 0)).items in
          let q : said d e.place ≡ refusal_in l taken = ap (λ (n : ℕ). said n e.place) w ∙ sym (ap said_of z) ∙ played.says in
          let some : (refusal_in l taken).number ≢ 0 = λ (x : (refusal_in l taken).number ≡ 0). let y : digit_of e.fault ≡ 0 = sym w ∙ ap (λ (s : Said). s.number) q ∙ x in digit_some e.fault y in
          let s : refusal_in (so_far (i + 1)) (cond (leb (length bytes) (i + 1)) taken full) ≡ said d e.place = said_next _ ∙ some_said l some _ ∙ sym q in
          record {
            few = D.few;
            recorder = D.recorder;
            lines = D.lines;
            ran = D.ran;
            each = D.each o;
            written = D.count;
            fits = D.fits;
            holds = D.holds;
            says = rw o (sym (ap (λ (x : Said). x.number) s), sym (ap (λ (x : Said). x.place) s));
            full = λ e. absurd (omega (arith, e, refusal_small l, ap (λ (x : Said). x.number) q));
            kept = λ e. absurd (omega (arith, e));
          }

    pub part_full : i < length bytes → length text' - at < longest_line → closed (recorder_in old) ≡ false → Parts bytes old new text text' (record { number = 6; place = 0; taken = i; written = at })
    part_full more short o =
        let D = G.done in
        let s : refusal_in (so_far i) (cond (leb (length bytes) i) taken full) ≡ full = G.quiet _ ∙ rw (lt-leb (length bytes) i more) in
        record {
          few = D.few;
          recorder = D.recorder;
          lines = D.lines;
          ran = D.ran;
          each = D.each o;
          written = D.count;
          fits = D.fits;
          holds = D.holds;
          says = rw o (sym (ap (λ (x : Said). x.number) s), sym (ap (λ (x : Said). x.place) s));
          full = λ e. omega (arith, short, D.fits, same_text);
          kept = G.kept;
        }

    pub part_taken : length bytes ≤ i → closed (recorder_in old) ≡ false → Parts bytes old new text text' (record { number = 0; place = 0; taken = i; written = at })
    part_taken all o =
        let D = G.done in
        let s : refusal_in (so_far i) (cond (leb (length bytes) i) taken full) ≡ taken = G.quiet _ ∙ rw (le-leb (length bytes) i all) in
        record {
          few = D.few;
          recorder = D.recorder;
          lines = D.lines;
          ran = D.ran;
          each = D.each o;
          written = D.count;
          fits = D.fits;
          holds = D.holds;
          says = rw o (sym (ap (λ (x : Said). x.number) s), sym (ap (λ (x : Said). x.place) s));
          full = λ e. absurd (omega (arith, e));
          kept = G.kept;
        }

  -- nothing is taken: of an empty part, or of a recorder that is closed

  pub part_empty : length bytes ≡ 0 → Parts bytes old old text text (record { number = 0; place = 0; taken = 0; written = 0 })
  unfolding items after
  part_empty e = record {
    few = omega arith;
    recorder = refl;
    lines = [];
    ran = (refl, refl);
    each = λ k h. absurd (omega (arith, h));
    written = refl;
    fits = omega arith;
    holds = refl;
    says = empty (closed (recorder_in old));
    full = λ z. absurd (omega (arith, z));
    kept = λ z. (refl, refl);
  }
    where
      empty : (c : Bool) → (0 ≡ (cond (c && leb 1 (length bytes)) S5 (cond (leb (length bytes) 0) taken full)).number) × (0 ≡ (cond (c && leb 1 (length bytes)) S5 (cond (leb (length bytes) 0) taken full)).place)
      empty true = rw e (refl, refl)
      empty false = rw e (refl, refl)

  pub part_closed : length bytes ≢ 0 → closed (recorder_in old) ≡ true → Parts bytes old old text text (record { number = 5; place = 0; taken = 0; written = 0 })
  unfolding items after
  part_closed n c = record {
    few = omega arith;
    recorder = refl;
    lines = [];
    ran = (refl, refl);
    each = λ k h. absurd (omega (arith, h));
    written = refl;
    fits = omega arith;
    holds = refl;
    says = rw (c, le-leb 1 (length bytes) (omega (arith, n))) (refl, refl);
    full = λ z. absurd (omega (arith, z));
    kept = λ z. (refl, refl);
  }
