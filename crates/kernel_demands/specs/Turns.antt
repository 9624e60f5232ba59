-- Does the last in line ever get served? Said of the code: of every chain of steps, read from the replies and from what the memories show
-- (rules_turns, specs/Turns.antt).
use Rattle.std.specs.Prelude.{true, List, [], ◌∷◌, ◌≡◌, ℕ, suc, ◌+◌, ◌≤◌, pos}
use Rattle.rules.specs.Ids.{once}
use Rattle.rules.specs.State.{Kind}
use Rattle.rules.specs.Ahead.{waits_at, ahead}
use Rattle.rules_turns.specs.Turns.{gave, served_cell, Whether}
use Rattle.memory_picture.specs.Picture.{Memory, view_in}
use Rattle.kernel_steps.specs.Steps.{Link}
use Rattle.kernel_demands.specs.Demands.{CellIs}

-- how many links are accepted calls that give to object o of kind k
abbrev pub gifts_on_code : Kind → ℕ → List Link → ℕ
gifts_on_code k o [] = 0
gifts_on_code k o (x ∷ l) = once (gave k o x.event x.reply.code) + gifts_on_code k o l

-- Task i, which waits on object o, leaves that wait at some link: the first whose memory shows that it does not wait there. If a call that gives to
-- the object did it, `cell` then reads 0 and what was given.
abbrev pub LeavesOnCode : Kind → ℕ → ℕ → List Link → Type 0
LeavesOnCode k o i [] = ⊥
LeavesOnCode k o i (x ∷ l) =
    Whether (waits_at (view_in x.left) k o i) (LeavesOnCode k o i l)
    (gave k o x.event x.reply.code ≡ true → CellIs x.left (pos i) (served_cell k x.event))

-- At the first memory of a chain and at each that a link leaves: every task that waits there on an object has left that wait once one more was
-- given to the object, from there on, than stood ahead of the task.
abbrev pub InTurnOnCode : Memory → List Link → Type 0
InTurnOnCode m [] = Unit {0}
InTurnOnCode m (x ∷ l) =
    ((k : Kind) (o i : ℕ) → waits_at (view_in m) k o i ≡ true → suc (ahead (view_in m) k o i) ≤ gifts_on_code k o (x ∷ l) → LeavesOnCode k o i (x ∷ l))
    × InTurnOnCode x.left l
