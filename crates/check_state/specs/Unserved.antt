-- No waiter beside what would serve it; and the check of a memory, as the rules tried in order, for any words.
use Rattle.std.specs.Prelude.{Bool, true, cond, not, ◌&&◌, ◌||◌, List, ℕ, eqb}
use Rattle.rules.specs.Objects.{met}
use Rattle.memory_rings.specs.Links.{first_of}
use Rattle.memory_columns.specs.declared.Rings.TheVariants.{Tasks, Messages, Blocks}
use Rattle.memory_columns.specs.Layout as Layout
use Rattle.memory_columns.specs.Layout.{words, entry}
use Rattle.memory_queues.specs.Moves.{mail_anchor}
use Rattle.memory_running.specs.Running.{ready_marks}
use Rattle.check_ranges.specs.Ranges.{every, many, ranges_ok}
use Rattle.check_queues.specs.Queues.{queued_in}

-- ---- No waiter beside what would serve it.

unfoldable pub wait_free : List ℕ → ℕ → ℕ → ℕ → ℕ → Bool
wait_free b k o p m =
    cond (eqb k 2) (eqb (entry Layout.semaphore b o) 0) (cond (eqb k 3) (not (met (entry Layout.flag b o) p m))
    (cond (eqb k 4) (eqb (first_of (words Layout.mail_next b) (mail_anchor o)) 0) (cond (eqb k 5) (eqb (entry Layout.free b o) 0) true)))

abbrev pub wait_free_at : List ℕ → ℕ → Bool
wait_free_at b i = wait_free b (entry Layout.kind b i) (entry Layout.object b i) (entry Layout.wish b i) (entry Layout.mode b i)

unfoldable pub unserved_ok : List ℕ → ℕ → Bool
unserved_ok b i =
    cond (eqb (entry Layout.status b i) 3 || eqb (entry Layout.status b i) 5)
    (wait_free_at b i) true

-- ---- the check

-- the word of nonempty ready queues is the one that the queues have
abbrev pub ready_marked : List ℕ → Bool
ready_marked b = eqb (entry Layout.nonempty b 0) (ready_marks b)

unfoldable pub accepts : List ℕ → List ℕ → Bool
accepts b msgs =
    ranges_ok b msgs && (queued_in b msgs Tasks && (ready_marked b && (queued_in b msgs Messages && (queued_in b msgs Blocks && every (many b Layout.tasks) 1 (unserved_ok b)))))

-- all rules, or the ranges alone
abbrev pub checks : Bool → List ℕ → List ℕ → Bool
checks whole b msgs = cond whole (accepts b msgs) (ranges_ok b msgs)
