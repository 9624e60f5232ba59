-- `check_state::accepts_test` meets its contract. The ranges say that the tasks are few. Assumes nothing.
use Rattle.std.proofs.Common.{rules, arith}
use Rattle.check_ranges.proofs.Steps.{passed, few_ranges}
use Rattle.check_state.proofs.accepts_test.Goals as goal

pub all_unserved-requires : goal.all_unserved-requires
all_unserved-requires c =
    let f = (few_ranges c.args.words.now c.args.messages.now (passed c.ranges_ok.ensures (search rules))).tasks in
    omega (arith, c.get.ensures)
