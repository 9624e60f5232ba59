-- The walk of set_flg, for any words: it goes along the links of a flag's waiters from node to node, looks at each task once, and ends where a
-- waiter is released with clearing.
use Rattle.std.specs.Prelude.{Bool, false, cond, not, ◌&&◌, List, ℕ, zero, suc, leb}
use Rattle.rules.specs.Objects.{met, clears}
use Rattle.memory_columns.specs.Layout as Layout
use Rattle.memory_columns.specs.Layout.{entry}
use Rattle.memory_queues.specs.Moves.{wait_anchor}
use Rattle.memory_waits.specs.Waits.{released}
use Rattle.memory_columns.specs.Layout.{at_most}

-- what it has made so far: the words, how many it has released, at how many it has looked, and whether the last one cleared the pattern
pub record Walk : Type 0 where
  pub words : List ℕ
  pub released : ℕ
  pub looked : ℕ
  pub cleared : Bool

abbrev pub made : List ℕ → ℕ → ℕ → Bool → Walk
made b n j e = record { words = b; released = n; looked = j; cleared = e }

-- the pattern p meets what task x asks for
abbrev pub met_at : ℕ → ℕ → List ℕ → Bool
met_at p x b = met p (entry Layout.wish b x) (entry Layout.mode b x)

-- x is released with the pattern p; if it asked for clearing nothing is left of it
abbrev pub served_at : ℕ → ℕ → Walk → Walk
served_at p x w = made (released x 0 p w.words) (suc w.released) (suc w.looked) (clears (entry Layout.mode w.words x))

abbrev pub passed_by : Walk → Walk
passed_by w = made w.words w.released (suc w.looked) w.cleared

unfoldable pub looked_at_next : ℕ → ℕ → Walk → Walk
looked_at_next p x w = cond (met_at p x w.words) (served_at p x w) (passed_by w)

-- at most k tasks, from node x on up to the first node above n; the next node is read before x is looked at, for a release unlinks x
unfoldable pub walked : ℕ → ℕ → ℕ → ℕ → Walk → Walk
walked zero n p x w = w
walked (suc k) n p x w = cond (leb x n && not w.cleared) (walked k n p (entry Layout.next w.words x) (looked_at_next p x w)) w

-- the waiters on flag i, from its anchor on, with the pattern p; as many steps as there are tasks are enough
unfoldable pub served : ℕ → ℕ → List ℕ → Walk
served i p b = let n : ℕ = at_most (entry Layout.system b 1) 32 in walked n n p (entry Layout.next b (wait_anchor 3 i)) (made b 0 0 false)

-- what is left of the pattern then
abbrev pub left_by : ℕ → Bool → ℕ
left_by p e = cond e 0 p
