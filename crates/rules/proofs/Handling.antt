-- What a call and an entry find: a task calls only while no handler is open, and is then READY or RUN; the handlers after an entry and
-- after a return are sound ones.
use mathlib.Core.Bool.{Bool, true, false, cond, ◌||◌, false≢true}
use mathlib.Core.List.{List}
use mathlib.Core.Logic.{◌⊎◌, inl, inr}
use mathlib.Core.Path.{◌≡◌, refl, sym, ◌∙◌, subst}
use Prim.Native.Nat.{ℕ, zero, suc, ◌<◌}
use native.Mathlib.Omega.{arith}
use lib.Dec.{eqb}
use borrow.Author.Tests.{eq-eqb}
use Rattle.rules.specs.State.{State, dormant, ready, suspended, waiting, waiting_suspended, absent, Task, Handlers, no_handler, in_handler, depth, is_open, task, is_ready, is_freed}
use Rattle.rules.specs.View.{View, head, reported, running}
use Rattle.rules.specs.Table.{caller}
use Rattle.rules.specs.Handling.{inner, outer}
use Rattle.rules.specs.Sound.{HandlersFit, Sound}
use Rattle.rules.proofs.Queues.{head_ready}

-- ---- the caller

-- by the handlers and the head of the best queue
alone_by : (h : Bool) (x : Handlers) (r : ℕ) → eqb (cond (h || is_open x) 0 (reported x r)) 0 ≡ false → (x ≡ no_handler) × (cond (h || is_open x) 0 (reported x r) ≡ r)
alone_by true x r e = absurd (false≢true (sym e))
alone_by false no_handler r e = (refl, refl)
alone_by false (in_handler n i) r e = absurd (false≢true (sym e))

module _ (v : View) (h : Bool) (e : eqb (caller v h) 0 ≡ false) where
  -- a task calls only while no handler is open
  pub calls_alone : v.body.handlers ≡ no_handler
  unfolding running
  calls_alone = (alone_by h v.body.handlers (head v) e).0

  calls_head : caller v h ≡ head v
  unfolding running
  calls_head = (alone_by h v.body.handlers (head v) e).1

  -- and it is READY or RUN
  pub caller_ready : Sound v → is_ready (task v.body (caller v h)).state ≡ true
  caller_ready s = go (head_ready v s)
    where
      go : (head v ≡ 0) ⊎ (is_ready (task v.body (head v)).state ≡ true) → is_ready (task v.body (caller v h)).state ≡ true
      go (inl z) = absurd (false≢true (sym e ∙ eq-eqb (caller v h) 0 (calls_head ∙ z)))
      go (inr k) = subst (λ (i : ℕ). is_ready (task v.body i).state ≡ true) (sym calls_head) k

-- ---- entry and return

ready_freed : (s : State) → is_ready s ≡ true → is_freed s ≡ true
ready_freed dormant e = absurd (false≢true e)
ready_freed absent e = absurd (false≢true e)
ready_freed ready e = refl
ready_freed suspended e = refl
ready_freed (waiting w) e = absurd (false≢true e)
ready_freed (waiting_suspended w) e = absurd (false≢true e)

module _ (v : View) (s : Sound v) where
  -- whom an entry interrupts
  head_fits : (head v ≡ 0) ⊎ (is_freed (task v.body (head v)).state ≡ true)
  head_fits = elim (head_ready v s) [ inl e ↦ inl e | inr e ↦ inr (ready_freed (task v.body (head v)).state e) ]

  pub inner_fits : (x : Handlers) → depth x < 15 → HandlersFit v.body.tasks x → HandlersFit v.body.tasks (inner x (head v))
  inner_fits no_handler e g = (omega arith, head_fits)
  inner_fits (in_handler n i) e g = (omega (arith, e), g.1)

pub outer_fits : (l : List Task) (x : Handlers) → HandlersFit l x → HandlersFit l (outer x)
outer_fits l no_handler g = tt
outer_fits l (in_handler zero i) g = tt
outer_fits l (in_handler (suc n) i) g = (omega (arith, g.0), g.1)
