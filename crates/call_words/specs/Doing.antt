-- What the function of a call does: it answers what the verdict says and performs the verdict's acts on the memory, and nothing else.
use Rattle.std.specs.Prelude.{List, [], ◌∷◌, ◌≡◌, ℕ}
use Rattle.rules.specs.Acts.{Act}
use Rattle.rules.specs.View.{View}
use Rattle.rules.specs.Verdicts.{Verdict}
use Rattle.memory_picture.specs.Perform.{performed, performed_marks}
use Rattle.memory_picture.specs.Picture.{view_shown, Accepted}
use Rattle.call_words.specs.declared.Outcome.{Outcome}
use Rattle.call_words.specs.Outcomes.{told}

-- the words after a list of acts
unfoldable pub performs : List Act → List ℕ → List ℕ
performs [] b = b
performs (a ∷ l) b = performs l (performed a b)

-- the marks of the messages after it
unfoldable pub performs_marks : List Act → List ℕ → List ℕ
performs_marks [] m = m
performs_marks (a ∷ l) m = performs_marks l (performed_marks a m)

-- The verdict is answered, and the memory is what its acts make of it. A refusal has no acts: the memory is as it was.
pub record Does (r : Verdict) (s : Outcome) (b m b' m' : List ℕ) : Type 0 where
  pub says : s ≡ told r
  pub words : b' ≡ performs r.acts b
  pub marks : m' ≡ performs_marks r.acts m

-- nothing is asked of the view
abbrev pub Anything : View → Type 0
Anything v = Unit {0}

-- A rule, judged on the view that an accepted memory shows, if P holds there: what the call names is there.
abbrev pub DoesOnBoth : (View → Type 0) → (View → Verdict) → Outcome → List ℕ → List ℕ → List ℕ → List ℕ → Type 0
DoesOnBoth P rule s b m b' m' = Accepted b m → P (view_shown b m) → Does (rule (view_shown b m)) s b m b' m'

-- The same of a call that touches no message.
abbrev pub DoesOnWords : (View → Type 0) → (View → Verdict) → Outcome → List ℕ → List ℕ → Type 0
DoesOnWords P rule s b b' = (m : List ℕ) → DoesOnBoth P rule s b m b' m
