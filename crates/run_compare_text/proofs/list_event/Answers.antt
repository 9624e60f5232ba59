-- `list_event`: it is listed, or not. Assumes nothing.
use mathlib.Core.Path.{sym, ◌∙◌}
use Rattle.run_compare_text.proofs.Differ.{differ_is}
use Rattle.run_compare_text.proofs.Laid.{event_listed, event_passed}
use Rattle.run_compare_text.proofs.list_event.Goals as goal

pub returns-then-ne : goal.returns-then-ne
returns-then-ne c =
    event_listed _ _ _ (sym (c.ne.ensures ∙ differ_is _ _ _ _ _ _ _ _ _ _) ∙ c.if-ne.true) _ c.both_lines-at.ensures.0 c.both_lines-at.ensures.1

pub returns-else-ne : goal.returns-else-ne
returns-else-ne c = event_passed _ _ _ (sym (c.ne.ensures ∙ differ_is _ _ _ _ _ _ _ _ _ _) ∙ c.if-ne.false) _ _ _
