-- `count`: byte by byte. Assumes nothing.
use mathlib.Core.Path.{ap}
use Prim.Native.Nat.{ℕ}
use lib.ListN.{get_or}
use Rattle.run_stream.specs.Lent.{said}
use Rattle.run_figures.proofs.Going.{reached_none, reached_item, reached_refusal, take_next}
use Rattle.run_figures.proofs.count.Goals as goal
use Rattle.run_figures.proofs.count.Goals.{in-Ok, in-Err}

pub loop-b-init : goal.loop-b-init
loop-b-init c =
    reached_none _ _ _ c.look-known.ensures (ap (λ (n : ℕ). said n 0) (c.first_number.ensures _))

pub loop-b-preserved : goal.loop-b-preserved
loop-b-preserved c =
    let bytes = c.args.bytes.now in
    let R = c.loop-b.invariant in
    let b = get_or bytes c.loop-b.b-index 0 in
    rw (take_next bytes c.loop-b.b-index c.loop-b-test.true)
    (elim c.match-take_byte.branch [
      | in-Ok w ↦ rw (w.words-is, w.messages-is, w.table-is, w.codes-is, w.known-is, w.said-is) (reached_item _ _ R b c.take_byte.ensures w.in-Ok.is w.count_item-known.ensures)
      | in-Err w ↦ rw (w.words-is, w.messages-is, w.table-is, w.codes-is, w.known-is, w.said-is) (reached_refusal _ _ R b c.take_byte.ensures w.in-Err.is w.from.ensures)
    ])
