-- The last in line gets served, along every chain: the replies and the memories are the rules', of which it is proved. Assumes nothing.
use mathlib.Core.Bool.{Bool, true, false}
use mathlib.Core.List.{List, [], ◌∷◌, map}
use mathlib.Core.Path.{◌≡◌, refl, sym, ap, ◌∙◌, subst}
use Prim.Native.Nat.{ℕ, suc, ◌+◌, ◌≤◌}
use lib.IntN.{pos}
use Rattle.rules.specs.Ids.{once}
use Rattle.rules.specs.Codes.{number}
use Rattle.rules.specs.State.{Kind}
use Rattle.rules.specs.View.{View}
use Rattle.rules.specs.Kernel.{event}
use Rattle.rules.specs.Ahead.{waits_at, ahead}
use Rattle.rules_turns.specs.Turns.{gave, gifts, Whether, Leaves}
use Rattle.rules_turns.proofs.Turns.{in_turn_lem}
use Rattle.memory_picture.specs.Picture.{Memory, view_in, SoundIn}
use Rattle.kernel_start.specs.Starting.{Holds}
use Rattle.kernel_steps.specs.Steps.{Reply, Link, Chain}
use Rattle.kernel_demands.specs.Turns.{gifts_on_code, LeavesOnCode, InTurnOnCode}
use Rattle.kernel_demands.proofs.Chains.{chain_words, cell_is, step_holds, step_says}

whether : (t : Bool) {A B C D : Type 0} → (A → C) → (B → D) → Whether t A B → Whether t C D
whether true f g h = f h
whether false f g h = g h

module _ (k : Kind) (o : ℕ) where
  -- the code that came back is the rules'
  gave_same : {m : Memory} {v : View} (x : Link) (l : List Link) → Holds m v → Chain m (x ∷ l)
      → gave k o x.event x.reply.code ≡ gave k o x.event (number (event v x.event).answer.code)
  gave_same x l H C = ap (λ (r : Reply). gave k o x.event r.code) (step_says H C.0)

  gifts_same : {m : Memory} {v : View} (l : List Link) → Holds m v → Chain m l → gifts_on_code k o l ≡ gifts k o v (map (λ x. x.event) l)
  gifts_same [] H C = refl
  gifts_same {m = m} {v = v} (x ∷ l) H C = λ z. once (gave_same x l H C z) + gifts_same {m = x.left} {v = (event v x.event).next} l (step_holds H C.0) C.1 z

  leaves_on_code : (i : ℕ) {m : Memory} {v : View} (l : List Link) → Holds m v → Chain m l → Leaves k o i v (map (λ x. x.event) l) → LeavesOnCode k o i l
  leaves_on_code i [] H C L = L
  leaves_on_code i {m = m} {v = v} (x ∷ l) H C L =
      rw (ap (λ (w : View). waits_at w k o i) after.view)
      (whether (waits_at (event v x.event).next k o i) (leaves_on_code i {m = x.left} {v = (event v x.event).next} l after C.1) (λ f g. cell_is after (pos i) (f (sym (gave_same x l H C) ∙ g))) L)
    where
      after : Holds x.left (event v x.event).next
      after = step_holds H C.0

-- from every accepted memory
pub chain_in_turn : (m : Memory) → SoundIn m → (l : List Link) → Chain m l → InTurnOnCode m l
chain_in_turn m A [] C = tt
chain_in_turn m A (x ∷ l) C = (
  (λ k o i w h. leaves_on_code k o i (x ∷ l) H C
      (in_turn_lem (view_in m) (map (λ x. x.event) (x ∷ l)) A.sound (chain_words m (x ∷ l) C) k o i w (subst (λ (n : ℕ). suc (ahead (view_in m) k o i) ≤ n) (gifts_same k o (x ∷ l) H C) h))),
  chain_in_turn x.left (C.0.accepted A) l C.1,
)
  where
    H : Holds m (view_in m)
    H = record { accepted = A; view = refl }
