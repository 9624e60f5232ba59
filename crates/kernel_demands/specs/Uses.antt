-- From the functions that a user calls to the demands: what `run` promises, and what `start` and then any mix of `call`, `tick`, `enter`, `leave` and `events`
-- promise, is a chain of steps, of which the demands are said.
use Rattle.std.specs.Prelude.{List, [], ◌∷◌, ◌++◌, ◌≡◌, ℕ, ℤ, Result, Ok, Err}
use Rattle.rules.specs.Setup.{got, Setup, setup}
use Rattle.rules.specs.Events.{Event}
use Rattle.rules.specs.Plain.{plain_fresh}
use Rattle.memory_picture.specs.Picture.{Memory}
use Rattle.kernel_start.specs.Starting.{Starts}
use Rattle.kernel_steps.specs.Steps.{Reply, Step, Link}
use Rattle.kernel_batches.specs.declared.Unfit.{Unfit}
use Rattle.kernel_batches.specs.Batches.{Lent, lent, RanThrough, fitted, BatchedAs, Batched}
use Rattle.kernel_demands.specs.Demands.{Demand3OnCode, BrokenOnCode, OnlyRelWaiOnCode, BlocksOnce, WornEvenlyOnCode, InterruptedOnCode}
use Rattle.kernel_demands.specs.Turns.{InTurnOnCode}

-- ---- what is demanded of a chain

-- from any accepted memory: a broken wait stays broken, only rel_wai breaks one off, a block is given to one at a time, blocks wear
-- evenly, handlers do not switch tasks halfway, waiters are served in turn
pub record Kept (m : Memory) (l : List Link) : Type 0 where
  pub broken : BrokenOnCode l
  pub only : OnlyRelWaiOnCode m l
  pub blocks : BlocksOnce m l
  pub wear : WornEvenlyOnCode m l
  pub interrupted : InterruptedOnCode m l
  pub turns : InTurnOnCode m l

-- from the memory that a start on setup u left: it is the plain kernel's too, link by link
pub record Demanded (u : Setup) (m : Memory) (l : List Link) : Type 0 where
  pub plain : Demand3OnCode [] m (plain_fresh u) l
  pub kept : Kept m l

-- ---- `run`

-- The bytes are a setup's; the events ran one after the other from the memory that a start left, in just these links, and what was written are
-- their replies (`RanThrough`); all that is demanded holds of them.
pub record RunDemanded (s : List ℕ) (given : List ℤ) (old new : Lent) : Type 0 where
  pub read : Setup
  pub end : ℕ
  pub accepted : setup s ≡ got read end
  pub started : Memory
  pub starts : Starts s (Ok tt) old.memory started
  pub ran : RanThrough given (lent started old.codes old.answers) new
  pub demanded : Demanded read started ran.links

-- ---- `call`, `tick`, `enter`, `leave` and `events` in any order

-- a call, a tick, an entry or a return: the event, what came back, and the memory that it left; or `events`: the words given, what was said, what was lent for codes and
-- answers, and all that it left
pub data Turn : Type 0 where
  one : Event → Reply → Memory → Turn
  many : List ℤ → Result (Unit {0}) Unfit → List ℤ → List ℕ → Lent → Turn

-- each turn is as its function promises, from the memory that the last one left
abbrev pub Mix : Memory → List Turn → Type 0
Mix m [] = Unit {0}
Mix m (one e r new ∷ t) = Step e m r new × Mix new t
Mix m (many given q codes answers new ∷ t) = Batched given q (lent m codes answers) new × Mix new.memory t

-- the links of a batch: those that it promises, none if it did not run
abbrev pub batch_links : (q : Result (Unit {0}) Unfit) (given : List ℤ) (old new : Lent) → BatchedAs q given old new → List Link
batch_links (Ok t) given old new R = R.links
batch_links (Err u) given old new R = []

-- the links of a mix, in order
unfoldable pub mix_links : (m : Memory) (t : List Turn) → Mix m t → List Link
unfolding Batched
mix_links m [] M = []
mix_links m (one e r new ∷ t) M = record { event = e; reply = r; left = new } ∷ mix_links new t M.1
mix_links m (many given q codes answers new ∷ t) M =
    batch_links (fitted given (lent m codes answers)) given (lent m codes answers) new M.0.1 ++ mix_links new.memory t M.1

-- after a start that was not refused
pub record MixDemanded (s : List ℕ) (m : Memory) (t : List Turn) (M : Mix m t) : Type 0 where
  pub read : Setup
  pub end : ℕ
  pub accepted : setup s ≡ got read end
  pub demanded : Demanded read m (mix_links m t M)
