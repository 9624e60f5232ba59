use mathlib.Core.Path.{sym}
use Rattle.memory_rings.proofs.Columns.{col_at, col_past}
use Rattle.memory_columns.proofs.Place.read.Goals as goal

pub returns-then-k-self : goal.returns-then-k-self
returns-then-k-self c = sym (col_at _ _ _ _ c.if-k-self.true)

pub returns-else-k-self : goal.returns-else-k-self
returns-else-k-self c = sym (col_past _ _ _ _ c.if-k-self.false)
