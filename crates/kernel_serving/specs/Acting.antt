-- What an act makes of the words, and what is answered: the private function that serves ticks, entries and returns.
use Rattle.std.specs.Prelude.{List, ◌≡◌, ℕ, Result, Ok, Err}
use Rattle.std.specs.Borrow.{MutBor}
use Rattle.memory_running.specs.Running.{running_of}
use Rattle.check_damage.specs.declared.Breach.{Breach}
use Rattle.call_words.specs.declared.Outcome.{Outcome}
use Rattle.kernel_steps.specs.Steps.{Reply, reply}
use Rattle.kernel_steps.specs.Serving.{replied}

-- the call of the act gave an outcome and left the words b'; the answer is that outcome's, with who runs on b'
pub record Acted (gives : MutBor (List ℕ) → ℕ → Outcome → MutBor (List ℕ) → Type 0) (me : ℕ) (b : List ℕ) (r : Reply) (b' : List ℕ) : Type 0 where
  pub lent : MutBor (List ℕ)
  pub left : MutBor (List ℕ)
  pub outcome : Outcome
  pub shows : lent.now ≡ b
  pub gave : gives lent me outcome left
  pub leaves : left.now ≡ b'
  pub says : r ≡ replied outcome (running_of b')

-- what is broken is answered, and nothing is done
pub record Refused (f : Breach) (b : List ℕ) (r : Reply) (b' : List ℕ) : Type 0 where
  pub says : r ≡ reply f.code f.id 0 0 0
  pub kept : b' ≡ b

abbrev pub Acts : (MutBor (List ℕ) → ℕ → Outcome → MutBor (List ℕ) → Type 0) → Result ℕ Breach → List ℕ → Reply → List ℕ → Type 0
Acts gives (Ok me) b r b' = Acted gives me b r b'
Acts gives (Err f) b r b' = Refused f b r b'
