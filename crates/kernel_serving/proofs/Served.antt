-- An event that is done as it is judged makes a step. Assumes nothing.
use mathlib.Core.Bool.{Bool, true, false, cond, ◌&&◌, ◌||◌, true≢false, false≢true}
use mathlib.Core.List.{List}
use mathlib.Core.Path.{◌≡◌, refl, sym, ap, ◌∙◌, subst}
use Prim.Native.Nat.{ℕ, zero, suc, ◌<◌, ◌^◌}
use native.Mathlib.Omega.{arith}
use lib.Dec.{eqb}
use lib.IntN.{ℤ, pos, negsuc}
use lib.Signed.{mag}
use denote.Ref.{MutBor}
use borrow.Author.Tests.{le-leb}
use mir.Syntax.{w32}
use mir.Val.{SFits, to_z, of_z}
use mir.Facts.{to_z-of_z}
use Rattle.std.specs.Prelude.{Result, Ok, Err}
use Rattle.std.specs.Result.{result_and}
use Rattle.rules.specs.Codes.{number, negative, in_damage, tells_damage, H-CALL}
use Rattle.rules.specs.Breach.{breach}
use Rattle.rules.specs.Events.{Event, tick, enter, exit, call, event_of, Word, Words, nat, above}
use Rattle.rules.specs.State.{is_open}
use Rattle.rules.specs.View.{View, running}
use Rattle.rules.specs.Verdicts.{Verdict, refuse}
use Rattle.rules.specs.Answers.{answer, released_count}
use Rattle.rules.specs.Table.{caller, handles, numbered, called, judge}
use Rattle.rules.specs.Kernel as Kernel
use Rattle.rules.specs.Kernel.{event, next, served}
use Rattle.rules.proofs.Breach.{breach_tells}
use Rattle.rules.proofs.Events.{event_served}
use Rattle.rules.proofs.Released.{released_by_acts}
use Rattle.memory_picture.specs.Picture.{handlers_shown, body_shown, view_shown, Accepted, Memory, memory, view_in, SoundIn}
use Rattle.memory_running.specs.Running.{running_of}
use Rattle.memory_running.proofs.Running.{running_law}
use Rattle.call_words.specs.declared.Outcome.{Outcome}
use Rattle.call_words.specs.Outcomes.{outcome}
use Rattle.call_words.specs.Doing.{Does, DoesOnWords}
use Rattle.call_words.proofs.Verdicts.{refuses_with}
use Rattle.call_dispatch.specs.Dispatching.{Dispatches}
use Rattle.call_dispatch.proofs.Done.{does_law}
use Rattle.check_damage.specs.declared.Breach.{Breach}
use Rattle.kernel_steps.specs.Steps.{Reply, reply, told, unsound, Step}
use Rattle.kernel_steps.specs.Serving.{replied, Known, Serves, Misnames}
use Rattle.kernel_serving.specs.Acting.{Acts}

-- ---- words

word_of : (z : ℤ) → mag z < 2 ^ 31 → Word z
word_of (pos n) h = h
word_of (negsuc n) h = h

pub call_words : (x n a b c : ℤ) → SFits w32 x → SFits w32 n → SFits w32 a → SFits w32 b → SFits w32 c → Words (call x n a b c)
call_words x n a b c p q r s t = (word_of x p.sfits, word_of n q.sfits, word_of a r.sfits, word_of b s.sfits, word_of c t.sfits)

-- an event of five words
pub event_words : (k n a b c : ℤ) → Words (call k n a b c) → Words (event_of k n a b c)
event_words (pos zero) n a b c w = w
event_words (pos (suc zero)) n a b c w = w
event_words (pos (suc (suc zero))) n a b c w = tt
event_words (pos (suc (suc (suc zero)))) n a b c w = tt
event_words (pos (suc (suc (suc (suc zero))))) n a b c w = tt
event_words (pos (suc (suc (suc (suc (suc k)))))) n a b c w = w
event_words (negsuc k) n a b c w = w

-- ---- steps

event_told : (v : View) (e : Event) → told (served v e).answer ≡ reply (number (judge v e).code) (judge v e).w1 (judge v e).w2 (running (next v e)) (released_count v.body.tasks (next v e).body.tasks)
unfolding served answer
event_told v e = refl

served_next : (v : View) (e : Event) → (served v e).next ≡ next v e
unfolding served
served_next v e = refl

-- on a sound state
module _ (e : Event) (b m b' m' : List ℕ) (A : Accepted b m) (w : Words e) where
  pub done_step : {s : Outcome} {r : ℕ} → Does (judge (view_shown b m) e) s b m b' m' → (Accepted b' m' → r ≡ running (view_shown b' m')) → Step e (memory b m) (replied s r) (memory b' m')
  done_step {s} {r} D g =
      let v : View = view_shown b m in
      let L = does_law b m e D A w in
      let runs : r ≡ running (next v e) = g L.0 ∙ ap running L.1 in
      record {
        words = w;
        answers = λ _. rw (event_served v e A.sound, event_told v e, released_by_acts v e A.sound, ← runs) (ap (λ (o : Outcome). replied o r) D.says);
        accepted = λ _. L.0;
        shows = λ _. L.1 ∙ sym (ap (λ (o : _). o.next) (event_served v e A.sound) ∙ served_next v e);
        refuses = λ n. absurd (n A);
        kept = λ n z. memory ((L.2 n).0 z) ((L.2 n).1 z);
      }

-- on a damaged one
pub unsound_step : (e : Event) (m : Memory) (r : Reply) → Words e → (SoundIn m → ⊥) → r ≡ unsound m → Step e m r m
unsound_step e m r w n g = record { words = w; answers = λ A. absurd (n A); accepted = λ A. absurd (n A); shows = λ A. absurd (n A); refuses = λ _. g; kept = λ _. refl }

-- ---- calls

handlers_are : (b m : List ℕ) → (view_shown b m).body.handlers ≡ handlers_shown b
unfolding view_shown body_shown
handlers_are b m = refl

-- a context other than 0 and 1
pub misnamed : (v : View) (x n a b c : ℤ) → above x 1 ≡ true → judge v (call x n a b c) ≡ refuse H-CALL
unfolding judge called
misnamed v (pos zero) n a b c e = absurd (true≢false (sym e))
misnamed v (pos (suc zero)) n a b c e = absurd (true≢false (sym e))
misnamed v (pos (suc (suc k))) n a b c e = refl
misnamed v (negsuc k) n a b c e = refl

-- a call from a context, by its number; a negative number is no call's, as 0 is
named_call : (v : View) (x n a b c : ℤ) → above x 1 ≡ false → numbered v (handles v (eqb (nat x) 1)) (caller v (eqb (nat x) 1)) (nat n) a b c ≡ judge v (call x n a b c)
unfolding judge called numbered
named_call v (pos zero) (pos n) a b c e = refl
named_call v (pos zero) (negsuc n) a b c e = refl
named_call v (pos (suc zero)) (pos n) a b c e = refl
named_call v (pos (suc zero)) (negsuc n) a b c e = refl
named_call v (pos (suc (suc k))) n a b c e = absurd (true≢false (sym (le-leb 2 (suc (suc k)) (omega arith)) ∙ e))
named_call v (negsuc k) n a b c e = absurd (true≢false e)

module _ {me : ℕ} {b m : List ℕ} (here : Accepted b m) (runs : me ≡ running (view_shown b m)) (x n a c d : ℤ) (w : Words (call x n a c d)) where
  pub call_misnamed : above x 1 ≡ true → {o : Outcome} → o ≡ outcome (number H-CALL) 0 0 0 → Step (call x n a c d) (memory b m) (replied o me) (memory b m)
  call_misnamed z e = done_step (call x n a c d) b m b m here w (rw (misnamed (view_shown b m) x n a c d z) (refuses_with H-CALL e)) (λ _. runs)

  pub call_done : above x 1 ≡ false → {h q g : Bool} {i j r : ℕ} {o : Outcome} {b' m' : List ℕ} → h ≡ eqb (nat x) 1 → j ≡ nat n → q ≡ is_open (handlers_shown b) → i ≡ cond (h || q) 0 me → g ≡ h && q
      → Dispatches g i j a c d o b m b' m' → r ≡ running_of b' → Step (call x n a c d) (memory b m) (replied o r) (memory b' m')
  call_done z {h} {q} {g} {i} {j} {r} {o} {b'} {m'} eh ej eq ei eg D er =
      let v : View = view_shown b m in
      let inside : q ≡ is_open v.body.handlers = eq ∙ ap is_open (sym (handlers_are b m)) in
      let mine : i ≡ caller v h = ei ∙ (λ k. cond (h || inside k) 0 (runs k)) in
      let from : g ≡ handles v h = eg ∙ ap (λ (y : Bool). h && y) inside in
      let y : numbered v g i j a c d ≡ judge v (call x n a c d) = rw (from, mine, ej, eh) (named_call v x n a c d z) in
      done_step (call x n a c d) b m b' m' here w (subst (λ (q : Verdict). Does q o b m b' m') y (D here)) (λ A. er ∙ running_law b' m' A)

-- from no context
pub misnamed_step : (k : Result ℕ Breach) {m : Memory} (x n a c d : ℤ) → Words (call x n a c d) → above x 1 ≡ true → {r : Reply} → Misnames k r → Serves (call x n a c d) k m r m
misnamed_step (Ok me) x n a c d w e M K = rw M (call_misnamed K.0 K.1 x n a c d w e refl)
misnamed_step (Err f) x n a c d w e M K = unsound_step (call x n a c d) _ _ w K.0 (M ∙ K.1)

-- from a context, as an event of five words
pub named_kind : (x n a b c : ℤ) → above x 1 ≡ false → event_of x n a b c ≡ call x n a b c
named_kind (pos zero) n a b c e = refl
named_kind (pos (suc zero)) n a b c e = refl
named_kind (pos (suc (suc k))) n a b c e = absurd (true≢false (sym (le-leb 2 (suc (suc k)) (omega arith)) ∙ e))
named_kind (negsuc k) n a b c e = absurd (true≢false e)

-- ---- events of five words, by the bits of the kind

module _ (k n a b c : ℤ) (f : SFits w32 k) where
  kind_is : (x : ℕ) → of_z w32 k ≡ x → k ≡ to_z w32 x
  kind_is x e = sym (to_z-of_z f) ∙ ap (to_z w32) e

  pub kind_tick : of_z w32 k ≡ 2 → event_of k n a b c ≡ tick
  kind_tick e = rw (kind_is 2 e)

  pub kind_enter : of_z w32 k ≡ 3 → event_of k n a b c ≡ enter
  kind_enter e = rw (kind_is 3 e)

  pub kind_leave : of_z w32 k ≡ 4 → event_of k n a b c ≡ exit
  kind_leave e = rw (kind_is 4 e)

pub kind_call : (k n a b c : ℤ) → (of_z w32 k ≡ 2 → ⊥) → (of_z w32 k ≡ 3 → ⊥) → (of_z w32 k ≡ 4 → ⊥) → event_of k n a b c ≡ call k n a b c
kind_call (pos zero) n a b c x y z = refl
kind_call (pos (suc zero)) n a b c x y z = refl
kind_call (pos (suc (suc zero))) n a b c x y z = absurd (x refl)
kind_call (pos (suc (suc (suc zero)))) n a b c x y z = absurd (y refl)
kind_call (pos (suc (suc (suc (suc zero))))) n a b c x y z = absurd (z refl)
kind_call (pos (suc (suc (suc (suc (suc k)))))) n a b c x y z = refl
kind_call (negsuc k) n a b c x y z = refl

-- ---- the tick, entry and return

module _ {gives : MutBor (List ℕ) → ℕ → Outcome → MutBor (List ℕ) → Type 0} {m : List ℕ} where
  -- an act that its rule tells, of whoever runs
  pub acts_step : (e : Event) (P : ℕ → View → Type 0) (rule : View → Verdict) → ((v : View) → judge v e ≡ rule v) → Words e → ((me : ℕ) (v : View) → me ≡ running v → P me v)
      → ((x y : MutBor (List ℕ)) (me : ℕ) (o : Outcome) → gives x me o y → DoesOnWords (P me) rule o x.now y.now)
      → (k : Result ℕ Breach) {b b' : List ℕ} {r : Reply} → Acts gives k b r b' → Serves e k (memory b m) r (memory b' m)
  acts_step e P rule judged w there does (Ok me) {b} {b'} D K =
      let h : DoesOnWords (P me) rule D.outcome b b' = rw (← D.shows, ← D.leaves) (does D.lent D.left me D.outcome D.gave) in
      rw D.says (done_step e b m b' m K.0 w (rw judged (h m K.0 (there me _ K.1))) (λ A. running_law b' m A))
  acts_step e P rule judged w there does (Err f) R K = rw R.kept (unsound_step e _ _ w K.0 (R.says ∙ K.1))

-- ---- what is known

-- a code of damage is negative
breach_negative : (v : View) → negative (number (breach v).code) ≡ true
unfolding tells_damage
breach_negative v = go (number (breach v).code) (breach_tells v)
  where
    go : (z : ℤ) → in_damage z ≡ true → negative z ≡ true
    go (pos n) e = absurd (false≢true e)
    go (negsuc n) e = refl

answer_runs : (v : View) (e : Event) → (served v e).answer.runs ≡ running (served v e).next
unfolding served answer
answer_runs v e = refl

-- the same is known after the event: who runs, or what is broken, which stays broken
pub known_on : (k : Result ℕ Breach) {e : Event} {old new : Memory} {r : Reply} → Known k old → Step e old r new → Known (result_and k (Ok r.runs)) new
known_on (Ok me) {e} {old} {new} {r} K S = (S.accepted K.0, runs)
  where
    runs : r.runs ≡ running (view_in new)
    runs =
        let v : View = view_in old in
        let u : event v e ≡ served v e = event_served v e K.0.sound in
        ap (λ (x : Reply). x.runs) (S.answers K.0) ∙ ap (λ (o : Kernel.Outcome). o.answer.runs) u ∙ answer_runs v e ∙ ap (λ (o : Kernel.Outcome). running o.next) (sym u) ∙ ap running (sym (S.shows K.0))
known_on (Err f) {e} {old} {new} {r} K S = rw same K
  where
    same : new ≡ old
    same = S.kept (ap (λ (x : Reply). negative x.code) (S.refuses K.0) ∙ breach_negative (view_in old))
