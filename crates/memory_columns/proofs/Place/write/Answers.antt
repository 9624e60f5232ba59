use mathlib.Core.Path.{sym}
use Rattle.memory_rings.proofs.Columns.{store_at, store_past}
use Rattle.memory_columns.proofs.Place.write.Goals as goal

pub returns-then-k-self : goal.returns-then-k-self
returns-then-k-self c = sym (store_at _ _ _ _ _ c.if-k-self.true)

pub returns-else-k-self : goal.returns-else-k-self
returns-else-k-self c = sym (store_past _ _ _ _ _ c.if-k-self.false)
