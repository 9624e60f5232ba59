-- Does the last in line ever get served? A task that waits on a semaphore, a mailbox or a pool with n tasks ahead of it has left that wait
-- once n + 1 calls that give to the object were accepted, whatever else happened between them; if such a call let it go, its cell says so.
-- That anybody gives is not said.
use Rattle.std.specs.Prelude.{Bool, true, false, ◌&&◌, List, [], ◌∷◌, ◌≡◌, ℕ, suc, ◌+◌, ◌≤◌, eqb, ℤ, pos}
use Rattle.rules.specs.Ids.{once}
use Rattle.rules.specs.Codes.{OK, number}
use Rattle.rules.specs.Setup.{got, setup, Setup}
use Rattle.rules.specs.Events.{Event, tick, enter, exit, call, AllWords, nat}
use Rattle.rules.specs.State.{Kind, semaphore, flag, mailbox, pool, Cell}
use Rattle.rules.specs.View.{View}
use Rattle.rules.specs.Kernel.{fresh, event, cell}
use Rattle.rules.specs.Runs.{states}
use Rattle.rules.specs.Blocks.{is}
use Rattle.rules.specs.Ahead.{waits_at, ahead}

-- The call that gives to an object: sig_sem, snd_msg, rel_blk. A flag has none: set_flg serves those whose condition the pattern meets, so a
-- waiter for a bit that nobody sets is passed over, whatever its place.
abbrev pub is_giver : Kind → ℤ → Bool
is_giver semaphore n = is n 13
is_giver flag n = false
is_giver mailbox n = is n 20
is_giver pool n = is n 25

-- The event is such a call, it names object o, and it was accepted: answered with 0.
abbrev pub gave : Kind → ℕ → Event → ℤ → Bool
gave k o tick code = false
gave k o enter code = false
gave k o exit code = false
gave k o (call x n a b c) code = is_giver k n && (is code 0 && eqb (nat a) o)

-- what it gives is in its second word: the message, the block; a signal has none
abbrev pub gift : Kind → Event → ℕ
gift k tick = 0
gift k enter = 0
gift k exit = 0
gift semaphore (call x n a b c) = 0
gift flag (call x n a b c) = 0
gift mailbox (call x n a b c) = nat b
gift pool (call x n a b c) = nat b

-- what a waiter that was served finds in its cell
abbrev pub served_cell : Kind → Event → Cell
served_cell k e = record { code = OK; word = gift k e }

-- how often in a run
abbrev pub gifts : Kind → ℕ → View → List Event → ℕ
gifts k o v [] = 0
gifts k o v (e ∷ l) = once (gave k o e (number (event v e).answer.code)) + gifts k o (event v e).next l

-- one or the other, by a test
abbrev pub Whether : Bool → Type 0 → Type 0 → Type 0
Whether true A B = A
Whether false A B = B

-- Task i, which waits on object o, leaves that wait at some event of the run: the first after which it does not wait there, whatever it waits
-- for later. If a call that gives to the object did it, the cell reads 0 and what was given, right after it.
abbrev pub Leaves : Kind → ℕ → ℕ → View → List Event → Type 0
Leaves k o i v [] = ⊥
Leaves k o i v (e ∷ l) =
    Whether (waits_at (event v e).next k o i) (Leaves k o i (event v e).next l)
    (gave k o e (number (event v e).answer.code) ≡ true → cell (event v e).next (pos i) ≡ served_cell k e)

-- Every waiter of a state, over a run from there: once one more was given than stood ahead, it has left. (Of the run that ends with the last of
-- these calls this says: by then.)
abbrev pub InTurn : View → List Event → Type 0
InTurn v l = (k : Kind) (o i : ℕ) → waits_at v k o i ≡ true → suc (ahead v k o i) ≤ gifts k o v l → Leaves k o i v l

-- from every state that any run from a fresh start reaches
abbrev pub EveryTurn : Type 0
EveryTurn = (s : List ℕ) (u : Setup) (n : ℕ) → setup s ≡ got u n → (past : List Event) → AllWords past → (l : List Event) → AllWords l → InTurn (states (fresh u) past) l
