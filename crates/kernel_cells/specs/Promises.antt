-- What is promised of reading a cell, the states of all tasks and the running task, on any memory.
use Rattle.std.specs.Prelude.{List, ◌≡◌, ℕ, ◌<◌, ℤ, pos, length}
use Rattle.rules.specs.Ids.{of, In}
use Rattle.rules.specs.Codes.{number, OK}
use Rattle.rules.specs.Breach.{breach}
use Rattle.rules.specs.Answers.{read_cell}
use Rattle.rules.specs.Tasks.{tsk_sts}
use Rattle.rules.specs.View.{View, running}
use Rattle.memory_picture.specs.Picture.{code_of, Memory, view_in, SoundIn}

-- the number of the code that a cell keeps by a small number
abbrev pub kept : ℕ → ℤ
kept c = number (code_of c)

-- A cell is read by task id: the code of what is broken, then E_NOEXS for a bad id, each with word 0.
pub record Reads (m : Memory) (a : ℤ) (code : ℤ) (word : ℕ) : Type 0 where
  pub sound : SoundIn m → (code ≡ number (read_cell (view_in m).body a).code) × (word ≡ (read_cell (view_in m).body a).word)
  pub damaged : (SoundIn m → ⊥) → (code ≡ number (breach (view_in m)).code) × (word ≡ 0)

-- the running rule's task, 0 if the state is damaged
pub record Runs (m : Memory) (task : ℕ) : Type 0 where
  pub sound : SoundIn m → task ≡ running (view_in m)
  pub damaged : (SoundIn m → ⊥) → task ≡ 0

-- a table read by id: f of each id up to n, and at higher ids what stood there
pub record Listed (f : ℕ → ℕ) (n : ℕ) (old new : List ℕ) : Type 0 where
  pub each : (t : ℕ) → In t n → of new t 0 ≡ f t
  pub rest : (t : ℕ) → n < t → of new t 0 ≡ of old t 0

-- the state of each task is w1 of tsk_sts's rule, which has 6 for a task that is not there
pub record StatesOf (v : View) (tasks : ℕ) (old new : List ℕ) : Type 0 where
  pub count : tasks ≡ length v.body.tasks
  pub states : Listed (λ t. (tsk_sts v (pos t)).w1) tasks old new

-- On a damaged state: the code of what is broken, no task, and all as it was.
pub record Lists (m : Memory) (code : ℤ) (tasks : ℕ) (old new : List ℕ) : Type 0 where
  pub sound : SoundIn m → (code ≡ number OK) × StatesOf (view_in m) tasks old new
  pub damaged : (SoundIn m → ⊥) → (code ≡ number (breach (view_in m)).code) × (tasks ≡ 0) × (new ≡ old)
