-- The best task and the running task as the code finds them, for any words: the word of nonempty ready queues names the best one by its lowest
-- bit. And that word as the queues have it, for the check.
use Rattle.std.specs.Prelude.{cond, List, ℕ, zero, suc, pred, ◌/◌, ◌%◌, ◌^◌, eqb}
use Rattle.std.specs.Int.Bits.{bit_or}
use Rattle.rules.specs.View.{reported}
use Rattle.memory_rings.specs.Links.{first_of}
use Rattle.memory_columns.specs.Layout as Layout
use Rattle.memory_columns.specs.Layout.{max_priorities, words, entry, at_most}
use Rattle.memory_queues.specs.Moves.{ready_anchor}
use Rattle.memory_picture.specs.Picture.{handlers_shown}

-- the first of the ready queue of a priority, 0 if it is empty
abbrev pub head_at : List ℕ → ℕ → ℕ
head_at b p = first_of (words Layout.next b) (ready_anchor p)

-- n priorities from p on; the marks of those before are in w
unfoldable pub marks_of : ℕ → ℕ → ℕ → List ℕ → ℕ
marks_of zero p w b = w
marks_of (suc n) p w b = marks_of n (suc p) (cond (eqb (head_at b p) 0) w (bit_or w (2 ^ pred p))) b

-- the word of nonempty ready queues as the queues have it; its bits above the priorities that the state has are 0
unfoldable pub ready_marks : List ℕ → ℕ
ready_marks b = marks_of (at_most (entry Layout.system b Layout.priorities) max_priorities) 1 0 b

-- the place of the lowest of k bits, the first of them being place p; 0 if none is set
unfoldable pub lowest_mark : ℕ → ℕ → ℕ → ℕ
lowest_mark zero p w = 0
lowest_mark (suc k) p w = cond (eqb (w % 2) 1) p (lowest_mark k (suc p) (w / 2))

-- the head of the best ready queue, which the lowest bit of the word in the state names
unfoldable pub best_of : List ℕ → ℕ
best_of b =
    let p : ℕ = lowest_mark 32 1 (entry Layout.nonempty b 0) in
    cond (eqb p 0) 0 (head_at b p)

-- the running task is the best; while a handler is open, the interrupted one
unfoldable pub running_of : List ℕ → ℕ
running_of b = reported (handlers_shown b) (best_of b)
