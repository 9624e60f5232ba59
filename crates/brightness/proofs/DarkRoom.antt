-- Along every chain of events, from any memory: a wait that is broken off leaves the level, and a reading gives its slot's. Assumes nothing.
use mathlib.Core.Bool.{Bool, true, false, cond, true≢false}
use mathlib.Core.List.{List, [], ◌∷◌, ◌++◌}
use mathlib.Core.Logic.{◌≢◌}
use mathlib.Core.Path.{◌≡◌, refl, sym, ap, ◌∙◌}
use Prim.Native.Nat.{ℕ, ◌≤◌}
use native.Mathlib.Omega.{arith}
use lib.Dec.{eqb}
use lib.IntN.{ℤ, pos, negsuc}
use borrow.Author.Tests.{le-leb, eqb-true}
use Rattle.rules.specs.Codes.{OK, E-NOEXS, E-RLWAI, number, negative}
use Rattle.rules.specs.State.{Cell}
use Rattle.rules.specs.Events.{Event, tick, enter, exit, call}
use Rattle.rules.specs.View.{View}
use Rattle.rules.specs.Answers.{answer}
use Rattle.rules.specs.Broken.{broken, BreaksOff}
use Rattle.rules.specs.Kernel.{Outcome, served, event, cell}
use Rattle.rules.proofs.Broken.{stays_broken, broken_read}
use Rattle.rules.specs.Table.{judge}
use Rattle.rules.proofs.Events.{cell_reads, event_served, event_next}
use Rattle.memory_picture.specs.Picture.{Memory, view_in, SoundIn}
use Rattle.kernel_steps.specs.Steps.{Reply, told, Link, Step, Chain}
use Rattle.brightness_curve.specs.declared.Curve.{Curve}
use Rattle.std.specs.Prelude.{Ok, Err}
use Rattle.brightness_curve.specs.Curves.{Judged, good, judged_of}
use Rattle.brightness_light.specs.declared.Light.{Light}
use Rattle.brightness_light.specs.declared.News.TheVariants.{Set, Waits, Stays}
use Rattle.brightness_light.specs.declared.Shown.{Shown}
use Rattle.brightness_light.specs.Lights.{shown, idle, read_of, taken_of, heard_of, woken_of, Given}
use Rattle.brightness_light.proofs.Levels.{no_reading_stays, heard_or_given, woken_or_given, heard_unset, woken_unset}
use Rattle.brightness.specs.Readings.{task_word, Received, Receives, Resumed, Resumes}
use Rattle.brightness.specs.DarkRoom.{UntilFreed, LevelStays, LevelIs, BrokenStays, mail_in, waiters_in, GivesSlot}
use Rattle.brightness.proofs.Cells.{cell_of, Holds, CellIs, cell_until, until_map, sureℤ, sure_words, sure_until, not_refused}
use Rattle.brightness.proofs.Messages.{receives_first, sent_cell, sent_id}

-- ---- what `resumed` makes of a cell

-- of a task with an id
by_id : (t : ℕ) → t ≤ 2147483647 → task_word t ≡ pos t
by_id t h = rw (le-leb t 2147483647 h)

sure_id : (t : ℕ) {A : Type 0} → ((A → ⊥) → ⊥) → (A → t ≤ 32) → task_word t ≡ pos t
sure_id t n f = sureℤ n (task_word t) (pos t) (λ a. by_id t (let h = f a in omega arith))

-- by cases: another task runs; or it is that task, and what its cell reads is taken
module _ {c : Curve} {s : List ℕ} {l : Light} {m : Memory} {r : Shown} (R : Resumed c s l m r) where
  either : (P : Shown → Type 0) → P (shown l Waits) → (l.waits ≡ R.task → P (taken_of c s (idle l) R.code R.word)) → P r
  unfolding woken_of
  either P h k = rw R.shows (go (eqb l.waits R.task) refl)
    where
      go : (u : Bool) → eqb l.waits R.task ≡ u → P (cond u (taken_of c s (idle l) R.code R.word) (shown l Waits))
      go true e = k (eqb-true _ _ e)
      go false e = h

not_0 : number E-RLWAI ≡ pos 0 → ⊥
unfolding number
not_0 e = true≢false (ap negative e)

module _ (t : ℕ) (i : task_word t ≡ pos t) (m : Memory) where
  -- what is read of the task that the light waits for, if it runs
  own : {c : Curve} {s : List ℕ} {l : Light} {r : Shown} (x : Cell) → CellIs t x m → l.waits ≡ t → (G : Resumed c s l m r) → l.waits ≡ G.task → (G.code ≡ number x.code) × (G.word ≡ x.word)
  own x I e G g = let j : task_word G.task ≡ pos t = ap task_word (sym g ∙ e) ∙ i in I G.code G.word (rw j at G.reads)

  -- a cell that reads E_RLWAI leaves the level
  broken_stays : CellIs t broken m → LevelStays t m
  broken_stays I c s l r e R = go (judged_of c) refl
    where
      go : (j : Judged) → judged_of c ≡ j → r.light.level ≡ l.level
      go (Err k) f = ap (λ (x : Shown). x.light.level) (R.bad k.0 f)
      go (Ok u) f =
          let G = R.good f in
          either G (λ x. x.light.level ≡ l.level) refl
          (λ g. ap (λ (x : Light). x.level) (no_reading_stays c s (idle l) G.code G.word (λ z. not_0 (sym (own broken I e G g).0 ∙ z))))

  -- one that reads 0 and j gives the level of slot j
  reading_gives : (j : ℕ) → CellIs t (record { code = OK; word = j }) m → GivesSlot t j m
  unfolding number taken_of
  reading_gives j I c s l r f e R n =
      let G = R.good f in
      either G (λ x. (x.news ≡ Waits → ⊥) → x ≡ read_of c s (idle l) j) (λ h. absurd (h refl))
      (λ g h. let w = own (record { code = OK; word = j }) I e G g in rw (w.0, w.1, f)) n

-- ---- a wait that is broken off

-- the cell after an accepted rel_wai
broken_holds : {t : ℕ} {x y z : ℤ} {old new : Memory} {r : Reply} → Step (call x (pos 6) (pos t) y z) old r new → r.code ≡ pos 0 → SoundIn old → Holds t broken new
broken_holds {t} {x} {y} {z} {old} {new} S k A =
    let v = view_in old in
    let e = call x (pos 6) (pos t) y z in
    let n : number (event v e).answer.code ≡ pos 0 = ap (λ (q : Reply). q.code) (sym (S.answers A)) ∙ k in
    let f : cell (event v e).next (pos t) ≡ broken = stays_broken v x (pos t) y z A.sound S.words n [] tt in
    record {
      accepted = S.accepted A;
      cell = sym (cell_reads (view_in new) (pos t) (S.accepted A).sound) ∙ ap (λ (w : View). cell w (pos t)) (S.shows A) ∙ f;
    }

module _ {m : Memory} (k : Link) (l : List Link) (C : Chain m (k ∷ l)) (t : ℕ) where
  -- from the rel_wai on, whatever `resumed` reads leaves the level, up to the event that releases, starts or deletes the task
  pub broken_off : BreaksOff (pos t) k.event k.reply.code → UntilFreed t (LevelStays t) k.left l
  broken_off = go k.event refl
    where
      go : (e : Event) → k.event ≡ e → BreaksOff (pos t) e k.reply.code → UntilFreed t (LevelStays t) k.left l
      go tick f B = absurd B
      go enter f B = absurd B
      go exit f B = absurd B
      go (call x n w y z) f B =
          let S : Step (call x (pos 6) (pos t) y z) m k.reply k.left = rw (f, B.0, B.1) at C.0 in
          let g : negative k.reply.code ≡ false = ap negative B.2 in
          let i = by_id t (let h = S.words.2 in omega arith) in
          until_map t (broken_stays t i) k.left l
          (sure_until (not_refused S g) t broken k.left l (λ A. cell_until l broken_read (broken_holds S B.2 A) C.1))

-- at every rel_wai of every chain, from any memory
pub broken_leaves_level : (m : Memory) (l : List Link) → Chain m l → BrokenStays l
broken_leaves_level m [] C = tt
broken_leaves_level m (k ∷ l) C = (broken_off k l C, broken_leaves_level k.left l C.1)

-- ---- from the call to the display

-- `receive` and `resumed` change the level only where they tell that a reading was taken
module _ {c : Curve} {s : List ℕ} {l : Light} {r : Shown} (n : r.news ≡ Set → ⊥) where
  pub receive_unset : {a : ℤ} {old new : Memory} → Receives c s l a old r new → r.light.level ≡ l.level
  receive_unset R = go (judged_of c) refl
    where
      go : (j : Judged) → judged_of c ≡ j → r.light.level ≡ l.level
      go (Err k) f = ap (λ (x : Shown). x.light.level) (R.bad k.0 f).0
      go (Ok u) f = let G = R.good f in ap (λ (x : Shown). x.light.level) G.shows ∙ heard_unset c s l G.caller G.reply.code G.reply.w1 (rw G.shows at n)

  pub resumed_unset : {m : Memory} → Resumes c s l m r → r.light.level ≡ l.level
  resumed_unset R = go (judged_of c) refl
    where
      go : (j : Judged) → judged_of c ≡ j → r.light.level ≡ l.level
      go (Err k) f = ap (λ (x : Shown). x.light.level) (R.bad k.0 f)
      go (Ok u) f = let G = R.good f in ap (λ (x : Shown). x.light.level) G.shows ∙ woken_unset c s l G.task G.code G.word (rw G.shows at n)

-- no level comes about that the curve does not give
module _ {c : Curve} {s : List ℕ} {l : Light} {r : Shown} (h : Given c l.level) where
  pub receive_given : {a : ℤ} {old new : Memory} → Receives c s l a old r new → Given c r.light.level
  receive_given R = go (judged_of c) refl
    where
      go : (j : Judged) → judged_of c ≡ j → Given c r.light.level
      go (Err k) f = rw (R.bad k.0 f).0 h
      go (Ok u) f = let G = R.good f in rw G.shows (heard_or_given c s l (Given c) h (λ g x. record { lux = x; level = refl }) G.caller G.reply.code G.reply.w1)

  pub resumed_given : {m : Memory} → Resumes c s l m r → Given c r.light.level
  resumed_given R = go (judged_of c) refl
    where
      go : (j : Judged) → judged_of c ≡ j → Given c r.light.level
      go (Err k) f = rw (R.bad k.0 f) h
      go (Ok u) f = let G = R.good f in rw G.shows (woken_or_given c s l (Given c) h (λ g x. record { lux = x; level = refl }) G.task G.code G.word)

waits_not_set : (r : Shown) → r.news ≡ Waits → r.news ≡ Set → ⊥
waits_not_set r e f = let z : ◌≡◌ {A = ℕ} 0 1 = cc in omega arith

-- later in a chain
broken_later : (m : Memory) (l : List Link) (k : Link) (l' : List Link) → Chain m (l ++ k ∷ l') → (t : ℕ) → BreaksOff (pos t) k.event k.reply.code
    → UntilFreed t (LevelStays t) k.left l'
broken_later m [] k l' C t B = broken_off k l' C t B
broken_later m (x ∷ l) k l' C t B = broken_later x.left l k l' C.1 t B

-- A task asks for a reading and waits; later its wait is broken off. From then on, up to the event that releases, starts or deletes the task, whatever
-- `resumed` makes of the light has the level from before the task asked.
pub dark_room : {c : Curve} {s : List ℕ} {l : Light} {a : ℤ} {old new : Memory} {r : Shown} → Receives c s l a old r new → r.news ≡ Waits
    → (before : List Link) (k : Link) (later : List Link) → Chain new (before ++ k ∷ later) → BreaksOff (pos r.light.waits) k.event k.reply.code
    → UntilFreed r.light.waits (LevelIs r.light l.level) k.left later
dark_room {new = new} {r} R w before k later C B =
    until_map r.light.waits (λ _ L c s q Q. L c s r.light q refl Q ∙ receive_unset (waits_not_set r w) R) k.left later
    (broken_later new before k later C r.light.waits B)

-- ---- a reading

-- the answer of an event on a sound memory, by its verdict
answered : {e : Event} {old new : Memory} {r : Reply} → Step e old r new → (A : SoundIn old)
    → (r.code ≡ number (judge (view_in old) e).code) × (r.w1 ≡ (judge (view_in old) e).w1)
unfolding served answer
answered {e} {old} S A =
    let v = view_in old in
    let f = S.answers A ∙ ap (λ (o : Outcome). told o.answer) (event_served v e A.sound) in
    (ap (λ (q : Reply). q.code) f, ap (λ (q : Reply). q.w1) f)

-- what is heard of a message, and of a refusal
heard_message : (c : Curve) (s : List ℕ) (l : Light) (me j : ℕ) → judged_of c ≡ good → heard_of c s l me (pos 0) j ≡ read_of c s (idle l) j
unfolding heard_of taken_of
heard_message c s l me j g = rw g

heard_refusal : (c : Curve) (s : List ℕ) (l : Light) (me w : ℕ) (z : ℤ) → judged_of c ≡ good → negative z ≡ true → heard_of c s l me z w ≡ shown l Stays
unfolding heard_of taken_of
heard_refusal c s l me w (pos k) g n = absurd (true≢false (sym n))
heard_refusal c s l me w (negsuc k) g n = rw g

-- A message that lies first in the mailbox gives its slot's level, unless the call was refused and the light is as it was.
pub lying_gives : {c : Curve} {s : List ℕ} {l : Light} {a : ℤ} {old new : Memory} {r : Shown} → judged_of c ≡ good → Receives c s l a old r new
    → (j : ℕ) (more : List ℕ) → mail_in old a ≡ j ∷ more → (r.news ≡ Stays → ⊥) → r ≡ read_of c s (idle l) j
unfolding number
lying_gives {c} {s} {l} {a} {old} {new} {r} g R j more e n = go (negative G.reply.code) refl
  where
    G : Received c s l a old r new
    G = R.good g

    first : negative G.reply.code ≡ false → SoundIn old → (G.reply.code ≡ pos 0) × (G.reply.w1 ≡ j)
    first f A =
        let v = answered G.step A in
        let q = receives_first (view_in old) (pos 0) a (pos 0) (pos 0) e (ap negative (sym v.0) ∙ f) in
        (v.0 ∙ ap number q.0, v.1 ∙ q.1)

    go : (u : Bool) → negative G.reply.code ≡ u → r ≡ read_of c s (idle l) j
    go true f = absurd (n (ap (λ (x : Shown). x.news) (G.shows ∙ heard_refusal c s l G.caller G.reply.w1 G.reply.code g f)))
    go false f =
        let w = sure_words (not_refused G.step f) (first f) in
        G.shows ∙ ap (λ (z : ℤ). heard_of c s l G.caller z G.reply.w1) w.0 ∙ ap (λ (i : ℕ). heard_of c s l G.caller (pos 0) i) w.1 ∙ heard_message c s l G.caller j g

served_read : OK ≢ E-NOEXS
served_read e = let z : ◌≡◌ {A = ℕ} 0 1 = cc in omega arith

-- A message that arrives while a task waits first in the mailbox's queue: from then on, up to the event that releases, starts or deletes the task again,
-- whatever `resumed` makes of its light once the task runs is what the message gives.
pub arriving_gives : {m : Memory} (k : Link) (l : List Link) → Chain m (k ∷ l) → (x a z : ℤ) (j : ℕ) → k.event ≡ call x (pos 20) a (pos j) z → k.reply.code ≡ pos 0
    → (t : ℕ) (more : List ℕ) → waiters_in m a ≡ t ∷ more → UntilFreed t (GivesSlot t j) k.left l
arriving_gives {m} k l C x a z j f g t more e = until_map t (reading_gives') k.left l (sure_until sure t (record { code = OK; word = j }) k.left l (λ A. cell_until l served_read (holds A) C.1))
  where
    S : Step (call x (pos 20) a (pos j) z) m k.reply k.left
    S = rw f at C.0

    sure : (SoundIn m → ⊥) → ⊥
    sure = not_refused S (ap negative g)

    ok : SoundIn m → number (judge (view_in m) (call x (pos 20) a (pos j) z)).code ≡ pos 0
    ok A = sym (answered S A).0 ∙ g

    holds : SoundIn m → Holds t (record { code = OK; word = j }) k.left
    holds A =
        let v = view_in m in
        record {
          accepted = S.accepted A;
          cell = ap (λ (w : View). cell_of w t) (S.shows A ∙ event_next v _ A.sound) ∙ sent_cell v x a (pos j) z A.sound e (ok A);
        }

    reading_gives' : (later : Memory) → CellIs t (record { code = OK; word = j }) later → GivesSlot t j later
    reading_gives' later = reading_gives t (sure_id t sure (λ A. sent_id (view_in m) x a (pos j) z A.sound e (ok A))) later j
