use mathlib.Core.Path.{◌∙◌}
use Rattle.memory_objects.proofs.marks.post.Goals as goal

pub returns : goal.returns
returns c = (c.link.ensures ∙ rw c.mail_anchor.ensures, c.set_mark.ensures)
