-- A refused event changes nothing, in either kernel, and takes no number in the plain one: a refusal has no acts. Assumes nothing.
use mathlib.Core.Bool.{true, false, false≢true}
use mathlib.Core.List.{List, [], ◌∷◌}
use mathlib.Core.Logic.{◌⊎◌, inl, inr}
use mathlib.Core.Path.{◌≡◌, refl, sym, ap, ◌∙◌}
use Prim.Native.Nat.{ℕ}
use native.Mathlib.Omega.{arith}
use lib.IntN.{pos, nat_abs}
use Rattle.rules.specs.Codes.{number, refuses, in_damage, tells_damage}
use Rattle.rules.specs.State.{State, dormant, ready, suspended, waiting, waiting_suspended, absent, Task, Body}
use Rattle.rules.specs.Events.{Event}
use Rattle.rules.specs.View.{View, running, acts}
use Rattle.rules.specs.Verdicts.{Verdict}
use Rattle.rules.specs.Table.{judge}
use Rattle.rules.specs.Answers.{is_released, released_count, answer}
use Rattle.rules.specs.Sound.{Sound}
use Rattle.rules.specs.Check.{sound?}
use Rattle.rules.specs.Kernel.{next, served, damaged, refusal, guarded, event}
use Rattle.rules.specs.Plain.{Plain, view_of, plain_acts, plain_next, plain_answer}
use Rattle.rules.proofs.Clean.{refused, given, waited, CleanEvent, clean_verdict, nests, judge_clean}
use Rattle.rules.proofs.Breach.{breach_tells}

-- ---- what a clean verdict says

pub released_none : (s : State) → is_released s s ≡ false
released_none dormant = refl
released_none absent = refl
released_none ready = refl
released_none suspended = refl
released_none (waiting w) = refl
released_none (waiting_suspended w) = refl

pub none_released : (l : List Task) → released_count l l ≡ 0
unfolding released_count
none_released [] = refl
none_released (t ∷ l) = rw (released_none t.state, none_released l)

refused_served : (v : View) (r : Verdict) → CleanEvent v.body r → refuses r.code ≡ true
    → (answer r v (acts r.acts v) ≡ (refusal v r.code).answer) × (acts r.acts v ≡ v)
unfolding answer refusal acts refuses
refused_served v r (clean_verdict (refused c n)) e = (ap (λ (n : ℕ). record { code = c; w1 = 0; w2 = 0; runs = running v; released = n }) (none_released v.body.tasks), refl)
refused_served v r (clean_verdict (given x y l g)) e = absurd (false≢true e)
refused_served v r (clean_verdict (waited i w)) e = absurd (false≢true e)
refused_served v r (nests h) e = absurd (false≢true e)

served_refused : (v : View) (e : Event) → refuses (served v e).answer.code ≡ true → served v e ≡ refusal v (served v e).answer.code
unfolding served next answer refusal
served_refused v e h = λ z. record { answer = (refused_served v (judge v e) (judge_clean v e) h).0 z; next = (refused_served v (judge v e) (judge_clean v e) h).1 z }

-- A negative code has w1 = w2 = 0, 0 released, the state unchanged and the running task as before; of a damaged state w1 tells an id and
-- the running task is given as 0.
pub refused_unchanged : (v : View) (e : Event) → refuses (event v e).answer.code ≡ true
    → (Sound v × (event v e ≡ refusal v (event v e).answer.code)) ⊎ ((Sound v → ⊥) × (event v e ≡ damaged v))
unfolding event guarded
refused_unchanged v e = go (sound? v)
  where
    go : (d : Dec (Sound v)) → refuses (guarded v e d).answer.code ≡ true
        → (Sound v × (guarded v e d ≡ refusal v (guarded v e d).answer.code)) ⊎ ((Sound v → ⊥) × (guarded v e d ≡ damaged v))
    go (yes s) h = inl (s, served_refused v e h)
    go (no n) h = inr (n, refl)

-- The words are 0 with code 1.
waits_clean : (b : Body) (r : Verdict) → CleanEvent b r → number r.code ≡ pos 1 → (r.w1 ≡ 0) × (r.w2 ≡ 0)
unfolding number
waits_clean b r (clean_verdict (refused c n)) e = (refl, refl)
waits_clean b r (clean_verdict (given x y l g)) e = absurd (pos_ne e)
  where
    pos_ne : pos 0 ≡ pos 1 → ⊥
    pos_ne e = let d : ◌≡◌ {A = ℕ} 0 1 = ap nat_abs e in omega arith
waits_clean b r (clean_verdict (waited i w)) e = (refl, refl)
waits_clean b r (nests h) e = (refl, refl)

pub waits_no_words : (v : View) (e : Event) → number (event v e).answer.code ≡ pos 1 → ((event v e).answer.w1 ≡ 0) × ((event v e).answer.w2 ≡ 0)
unfolding event guarded served damaged answer tells_damage
waits_no_words v e = go (sound? v)
  where
    go : (d : Dec (Sound v)) → number (guarded v e d).answer.code ≡ pos 1 → ((guarded v e d).answer.w1 ≡ 0) × ((guarded v e d).answer.w2 ≡ 0)
    go (yes s) h = waits_clean v.body (judge v e) (judge_clean v e) h
    go (no n) h = absurd (false≢true (ap in_damage (sym h) ∙ breach_tells v))

-- ---- the plain kernel

refused_plain : (s : Plain) (r : Verdict) → CleanEvent s.body r → refuses r.code ≡ true
    → (answer r (view_of s) (view_of (plain_acts r.acts s)) ≡ (refusal (view_of s) r.code).answer) × (plain_acts r.acts s ≡ s)
unfolding answer refusal plain_acts refuses
refused_plain s r (clean_verdict (refused c n)) e = (ap (λ (n : ℕ). record { code = c; w1 = 0; w2 = 0; runs = running (view_of s); released = n }) (none_released (view_of s).body.tasks), refl)
refused_plain s r (clean_verdict (given x y l g)) e = absurd (false≢true e)
refused_plain s r (clean_verdict (waited i w)) e = absurd (false≢true e)
refused_plain s r (nests h) e = absurd (false≢true e)

-- A refused event changes nothing and takes no number: the state after it is the state before, arrival numbers and their count
-- included. Its answer has w1 = w2 = 0, 0 released and the running task as before. Of any state, reached by a run or not.
pub plain_refused_unchanged : (s : Plain) (e : Event) → refuses (plain_answer s e).code ≡ true
    → (plain_answer s e ≡ (refusal (view_of s) (plain_answer s e).code).answer) × (plain_next s e ≡ s)
unfolding plain_answer plain_next answer view_of
plain_refused_unchanged s e h = refused_plain s (judge (view_of s) e) (judge_clean (view_of s) e) h
