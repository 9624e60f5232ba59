-- `put`: behind the end a store changes nothing. Assumes nothing.
use mathlib.Core.Path.{sym}
use Rattle.run_text.proofs.Laid.{set_behind}
use Rattle.run_text.proofs.put.Goals as goal

pub returns-else-at-text : goal.returns-else-at-text
returns-else-at-text c = sym (set_behind _ _ _ c.if-at-text.false)
