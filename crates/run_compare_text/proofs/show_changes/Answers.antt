-- `show_changes`: the length is counted first. Assumes nothing.
use mathlib.Core.Path.{◌≡◌}
use Rattle.run_compare_text.specs.Rows.{Lent, lent_in}
use Rattle.run_compare_text.proofs.Laid.{shown_short, shown_written, both_lent, lent_is}
use Rattle.run_compare_text.proofs.show_changes.Goals as goal
use Rattle.run_compare_text.proofs.show_changes.Goals.{After-lent-k}

-- how many are shown
lent_of : (c : After-lent-k) → let a = c.args in
    Lent c.lent-k.result a.first.codes.now a.first.words.now a.second.codes.now a.second.words.now
    × (lent_in a.n a.first.codes.now a.first.words.now a.second.codes.now a.second.words.now ≡ c.lent-k.result)
lent_of c =
    let a = c.args in
    (both_lent a.n a.first.codes.now a.first.words.now a.second.codes.now a.second.words.now c.lent.ensures c.lent-k.ensures, lent_is a.n a.first.codes.now a.first.words.now a.second.codes.now a.second.words.now c.lent.ensures c.lent-k.ensures)

pub text_of-needed-requires : goal.text_of-needed-requires
text_of-needed-requires c = (lent_of (goal.at.text_of-needed-requires c).After-lent-k).0

pub returns-then-text-needed : goal.returns-then-text-needed
returns-then-text-needed c =
    rw (lent_of (goal.at.returns-then-text-needed c).After-lent-k).1 (shown_short c.text_of-needed.ensures.0 c.text_of-needed.ensures.1 _ c.if-text-needed.true)

pub text_of-requires : goal.text_of-requires
text_of-requires c = (lent_of (goal.at.text_of-requires c).After-lent-k).0

pub returns : goal.returns
returns c =
    rw (lent_of (goal.at.returns c).After-lent-k).1 (shown_written c.text_of-needed.ensures.0 c.text_of-needed.ensures.1 _ c.if-text-needed.false c.text_of.ensures.0)
