-- The acts of any event, performed, take the view that the memory shows to the rules' next view: what they name is there, and each finds what it
-- needs. So a call that does its verdict leaves an accepted memory that shows the next view.
use mathlib.Core.Bool.{true, false≢true}
use mathlib.Core.List.{List, []}
use mathlib.Core.Path.{◌≡◌, refl, sym, ap, ◌∙◌, subst}
use Prim.Native.Nat.{ℕ}
use Rattle.rules.specs.Codes.{negative, refuses}
use Rattle.rules.specs.State.{Body}
use Rattle.rules.specs.Events.{Event, tick, enter, exit, call, Words}
use Rattle.rules.specs.Acts.{Act}
use Rattle.rules.specs.View.{View}
use Rattle.rules.specs.Verdicts.{Verdict}
use Rattle.rules.specs.Handling.{entered, exited}
use Rattle.rules.specs.Table.{judge}
use Rattle.rules.specs.Sound.{Sound}
use Rattle.rules.specs.Kernel.{next}
use Rattle.rules.proofs.Calls.{Steps, steps_of_judge, names_of_call}
use Rattle.rules.proofs.Judge.{checked_acts}
use Rattle.rules.proofs.Clean.{refused, given, waited, CleanEvent, clean_verdict, nests, judge_clean}
use Rattle.memory_picture.specs.Picture.{view_shown, Accepted}
use Rattle.call_words.specs.declared.Outcome.{Outcome}
use Rattle.call_words.specs.Doing.{performs, performs_marks, Does}
use Rattle.call_words.proofs.Performing.{AllNames, shown_body, performs_law}
use Rattle.call_words.proofs.TickActs.{tick_names}

-- ---- an event

-- what the acts of an event name is there
names_of_judge : (v : View) (e : Event) → Sound v → Words e → AllNames v.body (judge v e).acts
unfolding judge entered exited
names_of_judge v tick h w = tick_names v
names_of_judge v enter h w = checked_acts (AllNames v.body) _ _ _ tt (λ k. (tt, tt))
names_of_judge v exit h w = checked_acts (AllNames v.body) _ _ _ tt (λ k. (tt, tt))
names_of_judge v (call x n a p c) h w = names_of_call v x n a p c h w

judged_acts : (b m : List ℕ) (e : Event) → Accepted b m → Words e
    → Accepted (performs (judge (view_shown b m) e).acts b) (performs_marks (judge (view_shown b m) e).acts m)
    × (view_shown (performs (judge (view_shown b m) e).acts b) (performs_marks (judge (view_shown b m) e).acts m) ≡ next (view_shown b m) e)
unfolding next
judged_acts b m e A w =
    performs_law (judge v e).acts b m A (subst (λ (c : Body). Steps c (judge v e).acts) (shown_body b m) (steps_of_judge v e A.sound w))
    (subst (λ (c : Body). AllNames c (judge v e).acts) (shown_body b m) (names_of_judge v e A.sound w))
  where
    v : View
    v = view_shown b m

-- a refusal has no acts
clean_unacted : (b : Body) (r : Verdict) → CleanEvent b r → refuses r.code ≡ true → r.acts ≡ []
unfolding refuses
clean_unacted b r (clean_verdict (refused c n)) e = refl
clean_unacted b r (clean_verdict (given x y l g)) e = absurd (false≢true e)
clean_unacted b r (clean_verdict (waited i w)) e = absurd (false≢true e)
clean_unacted b r (nests x) e = absurd (false≢true e)

pub refused_unacted : (v : View) (e : Event) → refuses (judge v e).code ≡ true → (judge v e).acts ≡ []
refused_unacted v e h = clean_unacted v.body (judge v e) (judge_clean v e) h

-- ---- what a call does

module _ (b m : List ℕ) (e : Event) {s : Outcome} {b' m' : List ℕ} (D : Does (judge (view_shown b m) e) s b m b' m') where
  -- a call that says a negative code leaves the memory as it was
  does_refused : negative s.code ≡ true → (b' ≡ b) × (m' ≡ m)
  unfolding refuses performs performs_marks
  does_refused n =
      let k : (judge (view_shown b m) e).acts ≡ [] = refused_unacted (view_shown b m) e (ap (λ (x : Outcome). negative x.code) (sym D.says) ∙ n) in
      (D.words ∙ ap (λ (l : List Act). performs l b) k, D.marks ∙ ap (λ (l : List Act). performs_marks l m) k)

  pub does_law : Accepted b m → Words e → Accepted b' m' × (view_shown b' m' ≡ next (view_shown b m) e) × (negative s.code ≡ true → (b' ≡ b) × (m' ≡ m))
  does_law A w = let r = judged_acts b m e A w in (rw (D.words, D.marks) r.0, rw (D.words, D.marks) r.1, does_refused)
