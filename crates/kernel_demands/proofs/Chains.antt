-- Chains from a memory that is accepted and shows a view: each memory on the way is accepted and shows the rules' state, each reply is the
-- rules' answer. Assumes nothing.
use mathlib.Core.List.{List, [], ◌∷◌, map}
use mathlib.Core.Path.{◌≡◌, refl, sym, ap, ◌∙◌}
use Prim.Native.Nat.{ℕ}
use lib.IntN.{ℤ}
use Rattle.rules.specs.Codes.{number}
use Rattle.rules.specs.State.{Cell}
use Rattle.rules.specs.Setup.{got, setup, Setup}
use Rattle.rules.specs.Events.{Event, AllWords}
use Rattle.rules.specs.View.{View, running}
use Rattle.rules.specs.Answers.{read_cell}
use Rattle.rules.specs.Kernel.{fresh, event, cell}
use Rattle.rules.specs.Runs.{answers, states}
use Rattle.rules.proofs.Events.{cell_reads}
use Rattle.memory_picture.specs.Picture.{Memory, view_in}
use Rattle.kernel_start.specs.Starting.{Starts, Holds}
use Rattle.std.specs.Prelude.{Result}
use Rattle.setup_sections.specs.Judging.{Refusal}
use Rattle.kernel_cells.specs.Promises.{Runs}
use Rattle.kernel_steps.specs.Steps.{Reply, told, Step, Link, Chain, last_memory}
use Rattle.kernel_demands.specs.Demands.{CellIs}

-- a start leaves the fresh state of its setup
pub start_holds : (s : List ℕ) (u : Setup) (i : ℕ) → setup s ≡ got u i → (r : Result (Unit {0}) Refusal) (old m : Memory) → Starts s r old m → Holds m (fresh u)
unfolding Starts
start_holds s u i e r old m S = let h = rw e at S in record { accepted = h.1; view = h.2 }

-- ---- what is read of such a memory

module _ {m : Memory} {v : View} (H : Holds m v) where
  pub runs_is : {r : ℕ} → Runs m r → r ≡ running v
  runs_is R = R.sound H.accepted ∙ ap running H.view

  pub cell_is : (a : ℤ) {c : Cell} → cell v a ≡ c → CellIs m a c
  cell_is a {c} e code word R =
      let f : read_cell (view_in m).body a ≡ c = sym (cell_reads (view_in m) a H.accepted.sound) ∙ ap (λ (w : View). cell w a) H.view ∙ e in
      let r = R.sound H.accepted in
      (r.0 ∙ ap (λ (x : Cell). number x.code) f, r.1 ∙ ap (λ (x : Cell). x.word) f)

  -- ---- a step

  module _ {e : Event} {r : Reply} {new : Memory} (S : Step e m r new) where
    pub step_holds : Holds new (event v e).next
    step_holds = record { accepted = S.accepted H.accepted; view = S.shows H.accepted ∙ ap (λ (w : View). (event w e).next) H.view }

    pub step_says : r ≡ told (event v e).answer
    step_says = S.answers H.accepted ∙ ap (λ (w : View). told (event w e).answer) H.view

-- ---- a chain

-- its words have 32 bits
pub chain_words : (m : Memory) (l : List Link) → Chain m l → AllWords (map (λ k. k.event) l)
chain_words m [] C = tt
chain_words m (k ∷ l) C = (C.0.words, chain_words k.left l C.1)

pub chain_holds : {m : Memory} {v : View} (l : List Link) → Holds m v → Chain m l → Holds (last_memory m l) (states v (map (λ k. k.event) l))
unfolding states
chain_holds [] H C = H
chain_holds {m = m} {v = v} (k ∷ l) H C = chain_holds {m = k.left} {v = (event v k.event).next} l (step_holds H C.0) C.1

-- whatever is read of the replies is so of the answers
pub chain_says : {A : Type 0} (f : Reply → A) {m : Memory} {v : View} (l : List Link) → Holds m v → Chain m l
    → map (λ k. f k.reply) l ≡ map (λ a. f (told a)) (answers v (map (λ k. k.event) l))
unfolding answers
chain_says f [] H C = refl
chain_says {A = A} f {m = m} {v = v} (k ∷ l) H C = λ z. f (step_says H C.0 z) ∷ chain_says {A = A} f {m = k.left} {v = (event v k.event).next} l (step_holds H C.0) C.1 z
