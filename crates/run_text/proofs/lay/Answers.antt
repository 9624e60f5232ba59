-- `lay`: so many bytes as there is room for. Assumes nothing.
use mathlib.Core.Path.{sym}
use native.Mathlib.Omega.{arith}
use Rattle.run_text.proofs.Laid.{laid_past, laid_placed}
use Rattle.run_text.proofs.lay.Goals as goal

pub returns-then-text-at : goal.returns-then-text-at
returns-then-text-at c = sym (laid_past _ _ _ c.if-text-at.true)

pub returns : goal.returns
returns c = laid_placed _ _ _ c.if-text-at.false c.min-n.ensures c.copy_from_slice.ensures.after (omega arith)
