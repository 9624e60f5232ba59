use borrow.Author.Rules.{rules}
use Rattle.memory_objects.proofs.Steps.{put_at, put_past}
use Rattle.memory_objects.proofs.marks.set_mark.Goals as goal

pub returns-then-k-messages : goal.returns-then-k-messages
returns-then-k-messages c = put_at _ _ _ c.if-j-eq0.false

pub returns-else-k-messages : goal.returns-else-k-messages
returns-else-k-messages c = put_past _ _ _ c.if-j-eq0.false (search rules)
