-- `memory_columns::bits::with_bit` meets its contract. By its tests. Assumes nothing.
use borrow.Author.Tests.{le-ltb, lt-ltb}
use Rattle.memory_columns.proofs.OneBit.{one_bit}
use Rattle.memory_columns.proofs.bits.with_bit.Goals as goal

pub returns-then-k-ge-BITS : goal.returns-then-k-ge-BITS
returns-then-k-ge-BITS c = rw (le-ltb _ 32 c.if-k-ge-BITS.true)

pub returns-then-set : goal.returns-then-set
returns-then-set c = let h = c.if-k-ge-BITS.false in rw (lt-ltb _ 32 h, one_bit _ h, c.if-set.true)

pub returns : goal.returns
returns c = let h = c.if-k-ge-BITS.false in rw (lt-ltb _ 32 h, one_bit _ h, c.if-set.false)
