-- `check_ranges::messages_ok` meets its contract. Assumes nothing.
use Rattle.std.proofs.Common.{take, leb, ◌∙◌, arith, rules, tests}
use Rattle.std.proofs.lemmas.Iterator.{YieldsList-from_slice}
use Rattle.memory_columns.specs.Layout as Layout
use Rattle.check_ranges.specs.Ranges.{many}
use Rattle.check_ranges.proofs.Loops.{fold_is_all, every_of}
use Rattle.check_ranges.proofs.messages_ok.Goals as goal

pub returns : goal.returns
returns c =
    let a = c.args in
    let f = λ (m : _). leb m (many a.words.now Layout.mailboxes) in
    fold_is_all f c.fold.ensures.ran (YieldsList-from_slice (take a.n a.messages.now) cc) (λ a x b q k. search (rules, tests)) ∙ every_of f a.messages.now a.n (search (rules, arith))
