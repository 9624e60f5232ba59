-- The clock and the tick.
use Rattle.std.specs.Prelude.{Bool, false, List, [], ◌∷◌, ◌++◌, map, ℕ, ◌/◌, ◌%◌, ◌^◌, eqb, length}
use Rattle.std.proofs.Math.Option.{Option, none, some}
use Rattle.rules.specs.Ids.{ids, keep}
use Rattle.rules.specs.Codes.{E-TMOUT}
use Rattle.rules.specs.State.{Wait, asleep, timed, on, Body, task, wait_of}
use Rattle.rules.specs.Acts.{Act, release, elapse, afters}
use Rattle.rules.specs.View.{View}
use Rattle.rules.specs.Verdicts.{Verdict, gives, done}
use Rattle.rules.specs.Alarms.{rings}

-- 32 get_tim: the clock, w1 its quotient by 2^32, w2 the remainder.
unfoldable pub get_tim : View → Verdict
get_tim v = gives (v.body.store.clock / 2 ^ 32) (v.body.store.clock % 2 ^ 32) []

-- a timed wait that the next tick brings to 0
abbrev pub ending : Option Wait → Bool
ending none = false
ending (some asleep) = false
ending (some (timed t)) = eqb t 1
ending (some (on k o p m)) = false

-- those whose wait ends with the next tick, in id order
abbrev pub endings : Body → List ℕ
endings b = keep (λ i. ending (wait_of (task b i).state)) (ids (length b.tasks))

abbrev pub timeout : ℕ → Act
timeout i = release i E-TMOUT 0

-- Each timed wait loses one, suspended or not; those that reach 0 are released in id order, cell E_TMOUT. (A wait that ends is left
-- before the others lose their tick, so that no state on the way has a wait of 0 ticks.)
abbrev pub lapse : Body → List Act
lapse b = map timeout (endings b) ++ elapse ∷ []

-- Timeouts come first, then alarms by number.
unfoldable pub ticked : View → Verdict
ticked v = done (lapse v.body ++ rings (afters (lapse v.body) v.body) (length v.body.counter.alarms) 1)
