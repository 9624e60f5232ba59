-- `kernel_serving::serve_call` meets its contract. By the context and the number. Assumes nothing.
use mir.Facts.{to_z-of_z}
use mir.Syntax.{w32}
use mir.Val.{SFits}
use mathlib.Core.Path.{ap}
use Prim.Native.Nat.{ℕ}
use lib.Dec.{eqb}
use borrow.Author.Rules.{rules}
use Rattle.kernel_serving.proofs.Served.{call_words, call_done}
use Rattle.kernel_serving.proofs.serve_call.Goals as goal

pub returns : goal.returns
returns c =
    let e = c.args.event in
    let fk : SFits w32 e.kind = record { sfits = search rules } in
    let fn : SFits w32 e.number = record { sfits = search rules } in
    let fa : SFits w32 e.a = record { sfits = search rules } in
    let fb : SFits w32 e.b = record { sfits = search rules } in
    let fc : SFits w32 e.c = record { sfits = search rules } in
    let context = rw (to_z-of_z fk) at c.named-handler.ensures in
    rw c.answer_of.ensures (λ h A runs. call_done A runs _ _ _ _ _ (call_words _ _ _ _ _ fk fn fa fb fc) h
    (ap (λ (x : ℕ). eqb x 1) context) (rw (to_z-of_z fn) at c.named-n.ensures) c.is_open-inside.ensures c.caller.ensures c.handles.ensures
    (rw (to_z-of_z fa, to_z-of_z fb, to_z-of_z fc) at c.dispatch-o.ensures) c.running_task-runs.ensures)
