-- What is promised of asking for a reading and of taking it at release, on any memory, by what the kernel's calls promise.
use Rattle.std.specs.Prelude.{cond, List, ◌≡◌, ℕ, leb, ℤ, pos}
use Rattle.rules.specs.Events.{call}
use Rattle.memory_picture.specs.Picture.{Memory}
use Rattle.kernel_steps.specs.Steps.{Reply, Step}
use Rattle.kernel_cells.specs.Promises.{Reads, Runs}
use Rattle.brightness_curve.specs.declared.Curve.{Curve}
use Rattle.brightness_curve.specs.Curves as Curves
use Rattle.brightness_curve.specs.Curves.{judged_of}
use Rattle.brightness_light.specs.declared.Light.{Light}
use Rattle.brightness_light.specs.declared.News.TheVariants.{BadCurve}
use Rattle.brightness_light.specs.declared.Shown.{Shown}
use Rattle.brightness_light.specs.Lights.{shown, heard_of, woken_of}

-- ---- at once

-- The caller is the running task; rcv_msg was called, and its code and w1 are what the light has heard.
pub record Received (c : Curve) (s : List ℕ) (l : Light) (a : ℤ) (old : Memory) (r : Shown) (new : Memory) : Type 0 where
  pub caller : ℕ
  pub runs : Runs old caller
  pub reply : Reply
  pub step : Step (call (pos 0) (pos 21) a (pos 0) (pos 0)) old reply new
  pub shows : r ≡ heard_of c s l caller reply.code reply.w1

-- A bad curve is refused with its first bad point, and nothing was called.
pub record Receives (c : Curve) (s : List ℕ) (l : Light) (a : ℤ) (old : Memory) (r : Shown) (new : Memory) : Type 0 where
  pub bad : (k : ℕ) → judged_of c ≡ Curves.bad k → (r ≡ shown l (BadCurve k)) × (new ≡ old)
  pub good : judged_of c ≡ Curves.good → Received c s l a old r new

-- ---- at release

-- a task's id as a word; no id is larger
abbrev pub task_word : ℕ → ℤ
task_word t = cond (leb t 2147483647) (pos t) (pos 0)

-- Code and word are what the running task's cell reads.
pub record Resumed (c : Curve) (s : List ℕ) (l : Light) (m : Memory) (r : Shown) : Type 0 where
  pub task : ℕ
  pub runs : Runs m task
  pub code : ℤ
  pub word : ℕ
  pub reads : Reads m (task_word task) code word
  pub shows : r ≡ woken_of c s l task code word

-- A bad curve is refused with its first bad point.
pub record Resumes (c : Curve) (s : List ℕ) (l : Light) (m : Memory) (r : Shown) : Type 0 where
  pub bad : (k : ℕ) → judged_of c ≡ Curves.bad k → r ≡ shown l (BadCurve k)
  pub good : judged_of c ≡ Curves.good → Resumed c s l m r
