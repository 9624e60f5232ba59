-- `call_status::stored` meets its contract. By the kind's number. Assumes nothing.
use mathlib.Core.Path.{◌∙◌, ap}
use borrow.Author.Tests.{ne_eqb}
use Rattle.call_pools.specs.Blocks.{bit_count}
use Rattle.call_status.specs.Status.{stored_at}
use Rattle.std.proofs.Common.{arith}
use Rattle.call_status.proofs.stored.Goals as goal

pub returns-in-2 : goal.returns-in-2
unfolding stored_at
returns-in-2 c = rw c.in-2.is c.get.ensures

pub returns-in-3 : goal.returns-in-3
unfolding stored_at
returns-in-3 c = rw c.in-3.is c.get-in-3.ensures

pub returns-in-4 : goal.returns-in-4
unfolding stored_at
returns-in-4 c = rw c.in-4.is c.first_message.ensures

pub returns-in_default : goal.returns-in_default
unfolding stored_at
returns-in_default c =
    rw (ne_eqb c.args.kind 2 (omega arith), ne_eqb c.args.kind 3 (omega arith), ne_eqb c.args.kind 4 (omega arith)) (c.count_blocks.ensures ∙ ap (bit_count 32) c.get-in_default.ensures)
