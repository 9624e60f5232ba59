-- However the bytes are divided, and whatever outputs were lent: the text written, the last state and what was said are those of the bytes taken. Assumes nothing.
use mathlib.Core.Bool.{Bool, true, false, true≢false, cond, ◌&&◌}
use mathlib.Core.List.{List, [], ◌∷◌, ◌++◌, map, append-nil, append_assoc}
use mathlib.Core.Path.{◌≡◌, refl, sym, ap, ◌∙◌, subst}
use Prim.Native.Nat.{ℕ, zero, suc, ◌+◌, ◌≤◌, ◌<◌}
use native.Mathlib.Omega.{arith}
use lib.Dec.{leb}
use lib.ListN.{length, take, drop}
use borrow.Author.Tests.{lt-leb, leb-true, leb-false}
use Rattle.rules.specs.Setup.{S1, S2, S3, S4, Read, got, refused}
use Rattle.rules.specs.View.{View}
use Rattle.memory_picture.specs.Picture.{Memory}
use Rattle.kernel_steps.specs.Steps.{Reply}
use Rattle.kernel_demands.specs.Demands.{figures}
use Rattle.kernel_demands.proofs.Chains.{step_holds, step_says}
use Rattle.run_reading.specs.Recorded.{event_bytes, event_in, Head, read_head, Item, begins, occurs, refuses}
use Rattle.run_reading.specs.Recorder.{Recorder, heading, running, stopped, ended, begun, closed, is_ended, Fed, fed, on_head, eat, items, after, at_input_end, on_end}
use Rattle.run_reading.proofs.Division.{items_append, after_append, closed_items, whole}
use Rattle.run_text.specs.Lines.{event_line}
use Rattle.run_text.specs.Text.{Stage, unstarted, at, line_of, onward, lines_from, stage_from, queues, text_of, state_of}
use Rattle.run_text.specs.Output.{over}
use Rattle.run_stream.specs.Lent.{recorder_of, Is, Said, said}
use Rattle.run_recorder.specs.declared.Parted.{Parted}
use Rattle.run_recorder.specs.Running.{Does, Ran}
use Rattle.run_recorder.specs.Recording.{Lent, lent, recorder_in, taken, S5, full, refusal_in, part_says, Says, Parts, Ends}
use Rattle.run_recorder.specs.Sessions.{Shows, Recorded, is_refusal, Handed, Division, last_left, bytes_taken, text_written, first_said, Whole}
use Rattle.run_recorder.proofs.Going.{take_front}

-- ---- the order of items: no event occurs before the start

abbrev Follows : Stage View → Item → Type 0
Follows x (begins h) = Unit {0}
Follows (at v) (occurs i e) = Unit {0}
Follows unstarted (occurs i e) = ⊥
Follows x (refuses f p) = Unit {0}

abbrev Ordered : Stage View → List Item → Type 0
Ordered x [] = Unit {0}
Ordered x (i ∷ l) = Follows x i × Ordered (onward queues x i) l

-- where events are to come, the run has begun
abbrev Fit : Recorder → Stage View → Type 0
Fit (heading l) x = Unit {0}
Fit (running n k p l) (at v) = Unit {0}
Fit (running n k p l) unstarted = ⊥
Fit stopped x = Unit {0}
Fit ended x = Unit {0}

pub lines_append : (x : Stage View) (a b : List Item) → lines_from queues x (a ++ b) ≡ lines_from queues x a ++ lines_from queues (stage_from queues x a) b
unfolding lines_from stage_from
lines_append x [] b = refl
lines_append x (i ∷ a) b = ap (λ (l : List ℕ). line_of queues x i ++ l) (lines_append (onward queues x i) a b) ∙ sym (append_assoc (line_of queues x i) (lines_from queues (onward queues x i) a) (lines_from queues (stage_from queues (onward queues x i) a) b))

pub stage_append : (x : Stage View) (a b : List Item) → stage_from queues x (a ++ b) ≡ stage_from queues (stage_from queues x a) b
unfolding stage_from
stage_append x [] b = refl
stage_append x (i ∷ a) b = stage_append (onward queues x i) a b

ordered_append : (x : Stage View) (a b : List Item) → Ordered x a → Ordered (stage_from queues x a) b → Ordered x (a ++ b)
unfolding stage_from
ordered_append x [] b p q = q
ordered_append x (i ∷ a) b p q = (p.0, ordered_append (onward queues x i) a b p.1 q)

-- a byte
byte_fits : (r : Recorder) (x : Stage View) (b : ℕ) → Fit r x → Ordered x (eat r b).items × Fit (eat r b).next (stage_from queues x (eat r b).items)
unfolding eat onward stage_from
byte_fits (heading l) x b f = go (read_head (l ++ (b ∷ [])))
  where
    go : (y : Read Head) → Ordered x (on_head (l ++ (b ∷ [])) y).items × Fit (on_head (l ++ (b ∷ [])) y).next (stage_from queues x (on_head (l ++ (b ∷ [])) y).items)
    go (got h i) = ((tt, tt), tt)
    go (refused S1 p) = (tt, tt)
    go (refused S2 p) = ((tt, tt), tt)
    go (refused S3 p) = ((tt, tt), tt)
    go (refused S4 p) = ((tt, tt), tt)
byte_fits (running n k p l) unstarted b f = absurd f
byte_fits (running zero k p l) (at v) b f = ((tt, tt), tt)
byte_fits (running (suc n) k p l) (at v) b f = go (leb event_bytes (length (l ++ (b ∷ []))))
  where
    one : Fed
    one = fed (running n (suc k) (p + event_bytes) []) (occurs k (event_in (l ++ (b ∷ []))) ∷ [])

    none : Fed
    none = fed (running (suc n) k p (l ++ (b ∷ []))) []

    go : (t : Bool) → Ordered (at v) (cond t one none).items × Fit (cond t one none).next (stage_from queues (at v) (cond t one none).items)
    go true = ((tt, tt), tt)
    go false = (tt, tt)
byte_fits stopped x b f = (tt, tt)
byte_fits ended x b f = (tt, tt)

fits : (r : Recorder) (x : Stage View) (s : List ℕ) → Fit r x → Ordered x (items r s) × Fit (after r s) (stage_from queues x (items r s))
unfolding items after stage_from
fits r x [] f = (tt, f)
fits r x (b ∷ s) f =
    let h = byte_fits r x b f in
    let l : List Item = (eat r b).items in
    let g = fits (eat r b).next (stage_from queues x l) s h.1 in
    (ordered_append x l (items (eat r b).next s) h.0 g.0, subst (λ (y : Stage View). Fit (after (eat r b).next s) y) (sym (stage_append x l (items (eat r b).next s))) g.1)

-- the end: a refusal or nothing, and no state changes
end_stage : (r : Recorder) (x : Stage View) → Ordered x (at_input_end r) × (stage_from queues x (at_input_end r) ≡ x)
unfolding at_input_end onward stage_from
end_stage (heading l) x = go (read_head l) x
  where
    go : (y : Read Head) (x : Stage View) → Ordered x (on_end y) × (stage_from queues x (on_end y) ≡ x)
    go (got h i) x = (tt, refl)
    go (refused f p) unstarted = ((tt, tt), refl)
    go (refused f p) (at v) = ((tt, tt), refl)
end_stage (running zero k p l) x = (tt, refl)
end_stage (running (suc n) k p l) unstarted = ((tt, tt), refl)
end_stage (running (suc n) k p l) (at v) = ((tt, tt), refl)
end_stage stopped x = (tt, refl)
end_stage ended x = (tt, refl)

-- ---- items that ran wrote the rules' lines

does_line : (x : Stage View) (i : Item) (old : Memory) (line : List ℕ) (new : Memory) → Follows x i → Shows x old → Does i old line new → (line ≡ line_of queues x i) × Shows (onward queues x i) new
unfolding line_of onward
does_line unstarted (begins h) old line new f H D = (D.1, D.0)
does_line (at v) (begins h) old line new f H D = (D.1, D.0)
does_line unstarted (occurs i e) old line new f H D = absurd f
does_line (at v) (occurs i e) old line new f H D = (D.line ∙ ap (λ (r : Reply). event_line i (figures r)) (step_says H D.step), step_holds H D.step)
does_line unstarted (refuses d p) old line new f H D = (D.1, tt)
does_line (at v) (refuses d p) old line new f H D = (D.1, subst (λ (m : Memory). Shows (at v) m) (sym D.0) H)

pub ran_lines : (x : Stage View) (l : List Item) (old : Memory) (t : List ℕ) (new : Memory) → Ordered x l → Shows x old → Ran l old t new → (t ≡ lines_from queues x l) × Shows (stage_from queues x l) new
unfolding lines_from stage_from
ran_lines x [] old t new o H R = (R.0, subst (λ (m : Memory). Shows x m) (sym R.1) H)
ran_lines x (i ∷ l) old t new o H R =
    let d = does_line x i old R.line R.middle o.0 H R.first in
    let g = ran_lines (onward queues x i) l R.middle R.more new o.1 d.1 R.rest in
    (R.joins ∙ (λ z. d.0 z ++ g.0 z), g.1)

-- ---- the memory after the bytes so far

-- where the run stands then
abbrev stage : List ℕ → Stage View
stage s = stage_from queues unstarted (items begun s)

stage_next : (s c : List ℕ) → stage (s ++ c) ≡ stage_from queues (stage s) (items (after begun s) c)
stage_next s c = ap (stage_from queues unstarted) (items_append begun s c) ∙ stage_append unstarted (items begun s) (items (after begun s) c)

stage_fits : (s : List ℕ) → Fit (after begun s) (stage s)
stage_fits s = (fits begun unstarted s tt).1

pub begin_recorded : (n h : List ℕ) (m : Memory) → Is n begun → Recorded [] (lent n h m)
unfolding items after stage_from
begin_recorded n h m I = record { recorder = I h; shows = tt }

-- what ran from there wrote the rules' lines
ran_recorded : (s c t : List ℕ) (m : Memory) {x : Lent} → Recorded s x → Ran (items (recorder_in x) c) x.memory t m
    → (t ≡ lines_from queues (stage s) (items (after begun s) c)) × Shows (stage_from queues (stage s) (items (after begun s) c)) m
ran_recorded s c t m {x} R run =
    let f = fits (after begun s) (stage s) c (stage_fits s) in
    ran_lines (stage s) (items (after begun s) c) x.memory t m f.0 R.shows (subst (λ (r : Recorder). Ran (items r c) x.memory t m) R.recorder run)

pub part_recorded : (s : List ℕ) {x y : Lent} {bytes text text' : List ℕ} {a : Parted} → Recorded s x → Parts bytes x y text text' a
    → Recorded (s ++ take a.taken bytes) y × (take a.written text' ≡ lines_from queues (stage s) (items (after begun s) (take a.taken bytes)))
part_recorded s {x} {y} {bytes} {text} {text'} {a} R P =
    let c : List ℕ = take a.taken bytes in
    let g = ran_recorded s c P.lines y.memory R P.ran in (
      record {
        recorder = P.recorder ∙ ap (λ (r : Recorder). after r c) R.recorder ∙ sym (after_append begun s c);
        shows = subst (λ (z : Stage View). Shows z y.memory) (sym (stage_next s c)) g.1;
      },
      written_front P.lines text P.written P.holds ∙ g.0,
    )
  where
    written_front : (lines text : List ℕ) {w : ℕ} {t : List ℕ} → w ≡ length lines → t ≡ lines ++ drop (length lines) text → take w t ≡ lines
    written_front lines text e q = rw (e, q) (take_front lines (drop (length lines) text))

pub division : (s : List ℕ) (x : Lent) (l : List Handed) → Recorded s x → Division x l
    → Recorded (s ++ bytes_taken l) (last_left x l) × (text_written l ≡ lines_from queues (stage s) (items (after begun s) (bytes_taken l)))
unfolding items lines_from
division s x [] R D = (subst (λ (t : List ℕ). Recorded t x) (sym (append-nil s)) R, refl)
division s x (k ∷ l) R D =
    let c : List ℕ = take k.answer.taken k.bytes in
    let rest : List ℕ = bytes_taken l in
    let p = part_recorded s R D.0 in
    let q = division (s ++ c) k.left l p.0 D.1 in
    let n : lines_from queues (stage (s ++ c)) (items (after begun (s ++ c)) rest) ≡ lines_from queues (stage_from queues (stage s) (items (after begun s) c)) (items (after (after begun s) c) rest) =
    λ z. lines_from queues (stage_next s c z) (items (after_append begun s c z) rest) in (
      subst (λ (t : List ℕ). Recorded t (last_left k.left l)) (append_assoc s c rest) q.0,
      (λ z. p.1 z ++ q.1 z)
          ∙ ap (λ (t : List ℕ). lines_from queues (stage s) (items (after begun s) c) ++ t) n
          ∙ sym (lines_append (stage s) (items (after begun s) c) (items (after (after begun s) c) rest))
          ∙ ap (lines_from queues (stage s)) (sym (items_append (after begun s) c rest)),
    )

-- ---- the end

-- the line of the end stands behind those of the parts
pub end_lines : (s : List ℕ) {x : Lent} → Recorded s x → {n' text text' : List ℕ} {a : Parted} → Ends x.numbers x.held n' text text' a → a.number < 5
    → lines_from queues unstarted (items begun s) ++ take a.written text' ≡ text_of s
unfolding text_of
end_lines s {x} R {n'} {text} {text'} {a} E h =
    let d = E.done h in
    let r : Recorder = after begun s in
    let run = subst (λ (r : Recorder). Ran (at_input_end r) x.memory E.lines x.memory) R.recorder (E.ran x.memory) in
    let g = ran_lines (stage s) (at_input_end r) x.memory E.lines x.memory (end_stage r (stage s)).0 R.shows run in
    let t : take a.written text' ≡ E.lines = rw (d.2, d.1) (take_front E.lines (drop (length E.lines) text)) in
    ap (λ (l : List ℕ). lines_from queues unstarted (items begun s) ++ l) (t ∙ g.0)
    ∙ sym (lines_append unstarted (items begun s) (at_input_end r))
    ∙ ap (lines_from queues unstarted) (whole s)

pub end_state : (s : List ℕ) {x : Lent} → Recorded s x → Shows (state_of s) x.memory
unfolding state_of
end_state s {x} R =
    let e : state_of s ≡ stage s = ap (stage_from queues unstarted) (sym (whole s)) ∙ stage_append unstarted (items begun s) (at_input_end (after begun s)) ∙ (end_stage (after begun s) (stage s)).1 in
    subst (λ (z : Stage View). Shows z x.memory) (sym e) R.shows

-- ---- what was said

-- one answer's part of what was said
said_then : (l : List Item) (d rest : Said) → is_refusal d.number ≡ false → cond (is_refusal (refusal_in l d).number) (refusal_in l d) rest ≡ refusal_in l rest
said_then [] d rest h = rw h
said_then (begins x ∷ l) d rest h = said_then l d rest h
said_then (occurs i e ∷ l) d rest h = said_then l d rest h
said_then (refuses S1 p ∷ l) d rest h = refl
said_then (refuses S2 p ∷ l) d rest h = refl
said_then (refuses S3 p ∷ l) d rest h = refl
said_then (refuses S4 p ∷ l) d rest h = refl

said_append : (a b : List Item) (d : Said) → refusal_in (a ++ b) d ≡ refusal_in a (refusal_in b d)
said_append [] b d = refl
said_append (begins x ∷ a) b d = said_append a b d
said_append (occurs i e ∷ a) b d = said_append a b d
said_append (refuses f p ∷ a) b d = refl

heard : (a : Parted) (s rest : Said) → Says a s → cond (is_refusal a.number) (said a.number a.place) rest ≡ cond (is_refusal s.number) s rest
heard a s rest e = rw (e.0, e.1)

part_said : {x y : Lent} {bytes text text' : List ℕ} {a : Parted} → Parts bytes x y text text' a → (rest : Said)
    → cond (is_refusal a.number) (said a.number a.place) rest ≡ refusal_in (items (recorder_in x) (take a.taken bytes)) rest
part_said {x} {bytes = bytes} {a = a} P rest = heard a _ rest P.says ∙ go (closed (recorder_in x)) refl (leb 1 (length bytes)) (leb (length bytes) a.taken)
  where
    l : List Item
    l = items (recorder_in x) (take a.taken bytes)

    go : (c : Bool) → closed (recorder_in x) ≡ c → (e f : Bool)
        → cond (is_refusal (cond (c && e) S5 (refusal_in l (cond f taken full))).number) (cond (c && e) S5 (refusal_in l (cond f taken full))) rest ≡ refusal_in l rest
    go true q true f = sym (ap (λ (k : List Item). refusal_in k rest) (closed_items (recorder_in x) q (take a.taken bytes)).0)
    go true q false true = said_then l taken rest refl
    go true q false false = said_then l full rest refl
    go false q e true = said_then l taken rest refl
    go false q e false = said_then l full rest refl

end_said : {n h n' text text' : List ℕ} {a : Parted} → Ends n h n' text text' a → a.number < 5 → (rest : Said)
    → cond (is_refusal a.number) (said a.number a.place) rest ≡ refusal_in (at_input_end (recorder_of n h)) rest
end_said {n} {h} {text = text} {a = a} E k rest = heard a _ rest E.says ∙ go (is_ended (recorder_of n h)) (leb (length E.lines) (length text)) (λ z. omega (arith, k, E.says.0, z))
  where
    l : List Item
    l = at_input_end (recorder_of n h)

    go : (e f : Bool) → ((5 ≤ (cond e S5 (cond f (refusal_in l taken) full)).number) → ⊥) → cond (is_refusal (cond e S5 (cond f (refusal_in l taken) full)).number) (cond e S5 (cond f (refusal_in l taken) full)) rest ≡ refusal_in l rest
    go true f z = absurd (z (omega arith))
    go false true z = said_then l taken rest refl
    go false false z = absurd (z (omega arith))

division_said : (s : List ℕ) (x : Lent) (l : List Handed) → Recorded s x → Division x l → (a : List Parted)
    → first_said (map (λ k. k.answer) l ++ a) ≡ refusal_in (items (after begun s) (bytes_taken l)) (first_said a)
unfolding items
division_said s x [] R D a = refl
division_said s x (k ∷ l) R D a =
    let c : List ℕ = take k.answer.taken k.bytes in
    let p = part_recorded s R D.0 in
    let q = division_said (s ++ c) k.left l p.0 D.1 a in
    let r : Recorder = after begun s in
    part_said D.0 _
    ∙ ap (λ (y : Recorder). refusal_in (items y c) (first_said (map (λ k. k.answer) l ++ a))) R.recorder
    ∙ ap (refusal_in (items r c)) (q ∙ ap (λ (y : Recorder). refusal_in (items y (bytes_taken l)) (first_said a)) (after_append begun s c))
    ∙ sym (said_append (items r c) (items (after r c) (bytes_taken l)) (first_said a))
    ∙ ap (λ (z : List Item). refusal_in z (first_said a)) (sym (items_append r c (bytes_taken l)))

-- ---- how much is taken

open_before : (r : Recorder) (s : List ℕ) → closed (after r s) ≡ false → closed r ≡ false
open_before r s o = go (closed r) refl
  where
    go : (c : Bool) → closed r ≡ c → closed r ≡ false
    go true q = sym (ap closed (closed_items r q s).1) ∙ o
    go false q = q

-- a byte that leaves the recorder open refuses nothing
byte_quiet : (r : Recorder) (b : ℕ) → closed (eat r b).next ≡ false → (d : Said) → refusal_in (eat r b).items d ≡ d
unfolding eat
byte_quiet (heading l) b o d = go (read_head (l ++ (b ∷ []))) o
  where
    go : (y : Read Head) → closed (on_head (l ++ (b ∷ [])) y).next ≡ false → refusal_in (on_head (l ++ (b ∷ [])) y).items d ≡ d
    go (got h i) o = refl
    go (refused S1 p) o = refl
    go (refused S2 p) o = absurd (true≢false o)
    go (refused S3 p) o = absurd (true≢false o)
    go (refused S4 p) o = absurd (true≢false o)
byte_quiet (running zero k p l) b o d = absurd (true≢false o)
byte_quiet (running (suc n) k p l) b o d = go (leb event_bytes (length (l ++ (b ∷ []))))
  where
    go : (t : Bool) → refusal_in (cond t (fed (running n (suc k) (p + event_bytes) []) (occurs k (event_in (l ++ (b ∷ []))) ∷ [])) (fed (running (suc n) k p (l ++ (b ∷ []))) [])).items d ≡ d
    go true = refl
    go false = refl
byte_quiet stopped b o d = refl
byte_quiet ended b o d = refl

open_quiet : (r : Recorder) (s : List ℕ) → closed (after r s) ≡ false → (d : Said) → refusal_in (items r s) d ≡ d
unfolding items after
open_quiet r [] o d = refl
open_quiet r (b ∷ s) o d =
    said_append (eat r b).items (items (eat r b).next s) d
    ∙ byte_quiet r b (open_before (eat r b).next s o) (refusal_in (items (eat r b).next s) d)
    ∙ open_quiet (eat r b).next s o d

module _ (s : List ℕ) {x : Lent} (R : Recorded s x) {bytes text : List ℕ} where
  -- a part that takes less than another of the same bytes was refused or had no room, and neither can be
  not_fewer : {y z : Lent} {t u : List ℕ} {a b : Parted} → Parts bytes x y text t a → Parts bytes x z text u b → a.taken < b.taken → ⊥
  not_fewer {y} {a = a} {b = b} P Q h =
      let front : List ℕ = take a.taken bytes in
      let T = Q.each a.taken h in
      let o : closed (recorder_in x) ≡ false = open_before (recorder_in x) front T.is_open in
      let short : leb (length bytes) a.taken ≡ false = lt-leb (length bytes) a.taken (omega (arith, h, Q.few)) in
      let six : (part_says (recorder_in x) bytes a.taken).number ≡ 6 = rw (o, short) (ap (λ (v : Said). v.number) (open_quiet (recorder_in x) front T.is_open full)) in
      let e : length T.before ≡ length P.lines = ap length ((ran_recorded s front T.before T.left R T.ran).0 ∙ sym (ran_recorded s front P.lines y.memory R P.ran).0) in
      omega (arith, P.full (P.says.0 ∙ six), P.written, T.space, e)

  at_least : {y z : Lent} {t u : List ℕ} {a b : Parted} → Parts bytes x y text t a → Parts bytes x z text u b → b.taken ≤ a.taken
  at_least {a = a} {b = b} P Q = go (leb b.taken a.taken) refl
    where
      go : (c : Bool) → leb b.taken a.taken ≡ c → b.taken ≤ a.taken
      go true e = leb-true b.taken a.taken e
      go false e = absurd (not_fewer P Q (leb-false b.taken a.taken e))

  -- of a recorder and its bytes so far, a part and an output there is one answer, and one text
  pub part_once : {y z : Lent} {t u : List ℕ} {a b : Parted} → Parts bytes x y text t a → Parts bytes x z text u b
      → (a.taken ≡ b.taken) × (a.written ≡ b.written) × Says a (said b.number b.place) × (t ≡ u)
  part_once {y} {z} {a = a} {b = b} P Q =
      let n : a.taken ≡ b.taken = omega (arith, at_least P Q, at_least Q P) in
      let v : part_says (recorder_in x) bytes a.taken ≡ part_says (recorder_in x) bytes b.taken = ap (part_says (recorder_in x) bytes) n in
      let l : P.lines ≡ Q.lines =
      (ran_recorded s (take a.taken bytes) P.lines y.memory R P.ran).0
      ∙ ap (λ (k : ℕ). lines_from queues (stage s) (items (after begun s) (take k bytes))) n
      ∙ sym (ran_recorded s (take b.taken bytes) Q.lines z.memory R Q.ran).0 in (
        n,
        P.written ∙ ap length l ∙ sym Q.written,
        (P.says.0 ∙ ap (λ (w : Said). w.number) v ∙ sym Q.says.0, P.says.1 ∙ ap (λ (w : Said). w.place) v ∙ sym Q.says.1),
        P.holds ∙ ap (λ (w : List ℕ). over w text) l ∙ sym Q.holds,
      )

-- ---- the whole

pub whole_division : (x : Lent) (l : List Handed) → Recorded [] x → Division x l → Whole x l
unfolding items after stage_from
whole_division x l R D =
    let q = division [] x l R D in
    record {
      recorded = q.0;
      state = end_state (bytes_taken l) q.0;
      ends = λ n' output output' a E h. (
        ap (λ (t : List ℕ). t ++ take a.written output') q.1 ∙ end_lines (bytes_taken l) q.0 E h,
        division_said [] x l R D (a ∷ [])
            ∙ ap (refusal_in (items begun (bytes_taken l))) (end_said E h taken ∙ ap (λ (y : Recorder). refusal_in (at_input_end y) taken) q.0.recorder)
            ∙ sym (said_append (items begun (bytes_taken l)) (at_input_end (after begun (bytes_taken l))) taken)
            ∙ ap (λ (z : List Item). refusal_in z taken) (whole (bytes_taken l)),
      );
    }
