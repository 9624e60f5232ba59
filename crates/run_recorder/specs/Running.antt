-- What items make of the kernel's memory, whatever it holds, and the lines that they write.
use Rattle.std.specs.Prelude.{List, [], ◌∷◌, ◌++◌, ◌≡◌, ℕ, ◌≤◌, length}
use Rattle.rules.specs.Setup.{digit}
use Rattle.rules.specs.Events.{Event}
use Rattle.rules.specs.View.{running}
use Rattle.rules.specs.Kernel.{fresh}
use Rattle.memory_picture.specs.Picture.{Memory}
use Rattle.kernel_start.specs.Starting.{Holds}
use Rattle.kernel_steps.specs.Steps.{Reply, Step}
use Rattle.kernel_demands.specs.Demands.{figures}
use Rattle.run_reading.specs.Recorded.{Item, begins, occurs, refuses}
use Rattle.run_text.specs.Lines.{start_line, event_line, refusal, longest_line}

-- an event makes a step; its line has the reply
pub record Answered (number : ℕ) (e : Event) (old : Memory) (text : List ℕ) (new : Memory) : Type 0 where
  pub reply : Reply
  pub step : Step e old reply new
  pub line : text ≡ event_line number (figures reply)

-- A setup leaves its fresh state, whatever the memory held; a refusal leaves the memory as it was.
abbrev pub Does : Item → Memory → List ℕ → Memory → Type 0
Does (begins h) old text new = Holds new (fresh h.setup) × (text ≡ start_line (running (fresh h.setup)))
Does (occurs number e) old text new = Answered number e old text new
Does (refuses f place) old text new = (new ≡ old) × (text ≡ refusal (digit f) place)

-- one behind the other, each from the memory that the last one left
pub record Then (First Rest : Memory → List ℕ → Memory → Type 0) (old : Memory) (text : List ℕ) (new : Memory) : Type 0 where
  pub line : List ℕ
  pub middle : Memory
  pub more : List ℕ
  pub first : First old line middle
  pub short : length line ≤ longest_line
  pub rest : Rest middle more new
  pub joins : text ≡ line ++ more

-- items in turn: this text is written, and the memory is left so
abbrev pub Ran : List Item → Memory → List ℕ → Memory → Type 0
Ran [] old text new = (text ≡ []) × (new ≡ old)
Ran (i ∷ l) old text new = Then (Does i) (Ran l) old text new
