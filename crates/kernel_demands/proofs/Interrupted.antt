-- From an outermost entry to its return the code reports the task that the entry found running. Assumes nothing.
use mathlib.Core.Bool.{Bool, true, false, true≢false}
use mathlib.Core.List.{List, [], ◌∷◌}
use mathlib.Core.Path.{◌≡◌, refl, sym, ap, ◌∙◌, subst}
use Prim.Native.Nat.{ℕ}
use lib.IntN.{pos}
use Rattle.rules.specs.Codes.{number}
use Rattle.rules.specs.State.{Handlers, no_handler, in_handler, is_open}
use Rattle.rules.specs.Events.{enter}
use Rattle.rules.specs.View.{View, head, running}
use Rattle.rules.specs.Sound.{Sound}
use Rattle.rules.specs.Kernel.{Outcome, event}
use Rattle.rules_turns.specs.Turns.{Whether}
use Rattle.rules.proofs.Interrupted.{Interrupts, interrupts_on, head_reported, under, quietly, head_runs, enters}
use Rattle.memory_picture.specs.Picture.{Memory, view_in, SoundIn}
use Rattle.kernel_start.specs.Starting.{Holds}
use Rattle.kernel_steps.specs.Steps.{Reply, reply, told, Link, Chain}
use Rattle.kernel_demands.specs.Demands.{open_in, UntilReturn, InterruptedOnCode}
use Rattle.kernel_demands.proofs.Chains.{step_holds, step_says}

open_is : {m : Memory} {v : View} → Holds m v → open_in m ≡ is_open v.body.handlers
open_is H = ap (λ (w : View). is_open w.body.handlers) H.view

none_open : (x : Handlers) → is_open x ≡ false → x ≡ no_handler
none_open no_handler e = refl
none_open (in_handler n i) e = absurd (true≢false e)

-- while task i is the interrupted one
until_return : (i : ℕ) {m : Memory} {v : View} (l : List Link) → Holds m v → Interrupts i v.body.handlers → Chain m l → UntilReturn i l
until_return i [] H h C = tt
until_return i {m} {v} (k ∷ l) H h C = go (open_in k.left) refl (until_return i {m = k.left} {v = (event v k.event).next} l after)
  where
    sound : Sound v
    sound = subst Sound H.view H.accepted.sound

    after : Holds k.left (event v k.event).next
    after = step_holds H C.0

    runs : k.reply.runs ≡ (event v k.event).answer.runs
    runs = ap (λ (r : Reply). r.runs) (step_says H C.0)

    go : (t : Bool) → open_in k.left ≡ t → (Interrupts i (event v k.event).next.body.handlers → Chain k.left l → UntilReturn i l)
        → Whether t ((k.reply.runs ≡ i) × UntilReturn i l) (k.reply.runs ≡ head (view_in k.left))
    go true o rest = let n = interrupts_on i v k.event sound h (sym (open_is after) ∙ o) in (runs ∙ n.0, rest n.1 C.1)
    go false o rest = runs ∙ head_reported v k.event sound (sym (open_is after) ∙ o) ∙ ap head (sym after.view)

-- an entry while no handler is open
module _ (m : Memory) (A : SoundIn m) (k : Link) (l : List Link) (C : Chain m (k ∷ l)) (e : k.event ≡ enter) (o : open_in m ≡ false) where
  v : View
  v = view_in m

  entered : event v k.event ≡ quietly (running v) 0 (under (in_handler 0 (running v)) v)
  unfolding v
  entered = let z = none_open v.body.handlers o in ap (event v) e ∙ enters v A.sound z ∙ ap (λ (r : ℕ). quietly r 0 (under (in_handler 0 r) v)) (sym (head_runs v z))

  says : k.reply ≡ reply (pos 0) 0 0 (running v) 0
  unfolding v number
  says = C.0.answers A ∙ ap (λ (x : Outcome). told x.answer) entered

  reported : (k.reply.code ≡ pos 0) × (k.reply.runs ≡ running (view_in m)) × UntilReturn (running (view_in m)) l
  unfolding v
  reported = (
    ap (λ (r : Reply). r.code) says,
    ap (λ (r : Reply). r.runs) says,
    until_return (running (view_in m)) l (record { accepted = C.0.accepted A; view = C.0.shows A ∙ ap (λ (x : Outcome). x.next) entered }) refl C.1,
  )

-- from every accepted memory
pub chain_interrupted : (m : Memory) → SoundIn m → (l : List Link) → Chain m l → InterruptedOnCode m l
chain_interrupted m A [] C = tt
chain_interrupted m A (k ∷ l) C = ((λ e o. reported m A k l C e o), chain_interrupted k.left (C.0.accepted A) l C.1)
