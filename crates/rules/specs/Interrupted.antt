-- Between the entry of a handler and its return.
use Rattle.std.specs.Prelude.{true, List, [], ◌∷◌, ◌≡◌, ℕ}
use Rattle.rules.specs.State.{is_open}
use Rattle.rules.specs.Events.{Event, enter, exit}
use Rattle.rules.specs.View.{View, running}
use Rattle.rules.specs.Kernel.{Outcome, event}

-- Entry, event, return as one: code, words and the number released are the event's own, the running task is read at the return.
unfoldable pub handled : View → Event → Outcome
handled v e =
    let o : Outcome = event (event v enter).next e in
    let r : Outcome = event o.next exit in
    record { answer = record { code = o.answer.code; w1 = o.answer.w1; w2 = o.answer.w2; runs = r.answer.runs; released = o.answer.released }; next = r.next }

-- a handler is open before the run and behind each of its events
abbrev pub StaysOpen : View → List Event → Type 0
StaysOpen v [] = is_open v.body.handlers ≡ true
StaysOpen v (e ∷ l) = (is_open v.body.handlers ≡ true) × StaysOpen (event v e).next l

-- the running task reported is r: before the run, in the answer of each event and behind it
abbrev pub Reports : ℕ → View → List Event → Type 0
Reports r v [] = running v ≡ r
Reports r v (e ∷ l) = (running v ≡ r) × ((event v e).answer.runs ≡ r) × Reports r (event v e).next l
