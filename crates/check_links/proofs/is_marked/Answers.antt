-- `check_links::is_marked` meets its contract. A node before the first wraps beyond the last. Assumes nothing.
use Rattle.std.proofs.Common.{◌∙◌, arith, le-ltb}
use Rattle.check_links.proofs.Steps.{mark_far, mark_near}
use Rattle.check_links.proofs.is_marked.Goals as goal

pub returns-then-k-lt-BITS : goal.returns-then-k-lt-BITS
returns-then-k-lt-BITS c = mark_near _ _ _ _ c.requires (omega arith) (omega arith) c.if-k-lt-BITS.true

pub returns-else-k-lt-BITS : goal.returns-else-k-lt-BITS
returns-else-k-lt-BITS c = le-ltb _ _ c.if-k-lt-BITS.false ∙ mark_far _ _ _ _ c.requires (omega arith) (omega arith) c.if-k-lt-BITS.false
