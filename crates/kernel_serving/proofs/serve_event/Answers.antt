-- `kernel_serving::serve_event` meets its contract: by the kind. Assumes nothing.
use mathlib.Core.Path.{sym, ◌∙◌}
use mir.Facts.{to_z-of_z}
use mir.Syntax.{w32}
use mir.Val.{SFits}
use Rattle.kernel_serving.proofs.Served.{call_words, event_words, unsound_step, misnamed_step, named_kind, kind_tick, kind_enter, kind_leave, kind_call}
use borrow.Author.Rules.{rules}
use Rattle.kernel_serving.proofs.serve_event.Goals as goal

pub returns-in-Ok : goal.returns-in-Ok
returns-in-Ok c =
    let e = c.args.event in
    let fk : SFits w32 e.kind = record { sfits = search rules } in
    let kind = sym (rw (to_z-of_z fk) at c.is_above.ensures) ∙ c.if-not-is_above.true in
    rw (c.in-Ok.is, named_kind e.kind e.number e.a e.b e.c kind) (λ K. c.serve_call.ensures kind K.0 K.1)

pub returns-in-Err : goal.returns-in-Err
returns-in-Err c =
    let e = c.args.event in
    let fk : SFits w32 e.kind = record { sfits = search rules } in
    let fn : SFits w32 e.number = record { sfits = search rules } in
    let fa : SFits w32 e.a = record { sfits = search rules } in
    let fb : SFits w32 e.b = record { sfits = search rules } in
    let fc : SFits w32 e.c = record { sfits = search rules } in
    rw c.in-Err.is (λ K. unsound_step _ _ _ (event_words e.kind e.number e.a e.b e.c (call_words _ _ _ _ _ fk fn fa fb fc)) K.0 (c.damaged.ensures ∙ K.1))

pub returns-in-2 : goal.returns-in-2
returns-in-2 c =
    let e = c.args.event in
    let fk : SFits w32 e.kind = record { sfits = search rules } in
    rw (kind_tick _ e.number e.a e.b e.c fk (search rules)) c.serve_tick.ensures

pub returns-in-3 : goal.returns-in-3
returns-in-3 c =
    let e = c.args.event in
    let fk : SFits w32 e.kind = record { sfits = search rules } in
    rw (kind_enter _ e.number e.a e.b e.c fk (search rules)) c.serve_enter.ensures

pub returns-in-4 : goal.returns-in-4
returns-in-4 c =
    let e = c.args.event in
    let fk : SFits w32 e.kind = record { sfits = search rules } in
    rw (kind_leave _ e.number e.a e.b e.c fk (search rules)) c.serve_leave.ensures

pub returns-in_default : goal.returns-in_default
returns-in_default c =
    let e = c.args.event in
    let fk : SFits w32 e.kind = record { sfits = search rules } in
    let fn : SFits w32 e.number = record { sfits = search rules } in
    let fa : SFits w32 e.a = record { sfits = search rules } in
    let fb : SFits w32 e.b = record { sfits = search rules } in
    let fc : SFits w32 e.c = record { sfits = search rules } in
    let kind = sym (rw (to_z-of_z fk) at c.is_above.ensures) ∙ c.if-not-is_above.false in
    rw (kind_call e.kind e.number e.a e.b e.c (search rules) (search rules) (search rules))
    (misnamed_step c.args.known _ _ _ _ _ (call_words _ _ _ _ _ fk fn fa fb fc) kind c.misnamed.ensures)
