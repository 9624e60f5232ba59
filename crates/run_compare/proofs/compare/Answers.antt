-- `compare`: what was judged decides what is shown. Assumes nothing.
use Prim.Native.Nat.{◌≤◌}
use native.Mathlib.Omega.{arith}
use Rattle.run_compare_reading.specs.Compared.{Lies}
use Rattle.run_compare_text.specs.Rows.{Lent}
use Rattle.run_compare.proofs.Verdict.{as_refused, as_good, refused_text, in_order, ran_text, shown_all}
use Rattle.run_compare.proofs.compare.Goals as goal
use Rattle.run_compare.proofs.compare.Goals.{After-word-n}

-- what was judged
facts : (c : After-word-n) → Lies c.args.input.now c.in-Ok.places.second c.in-Ok.places.events
facts c = as_good _ c.judge.ensures c.in-Ok.is

pub run_both-requires : goal.run_both-requires
run_both-requires c =
    let L = facts (goal.at.run_both-requires c).After-word-n in
    let o = in_order _ L in
    let n : c.word-n.result ≤ 3000 = rw c.word-n.ensures L.few in (o.0, o.1, n)

pub returns-in-Err : goal.returns-in-Err
returns-in-Err c =
    rw (refused_text _ (as_refused _ c.judge.ensures c.in-Err.is) c.from.ensures) c.show_refusal.ensures

pub returns-in-Ok : goal.returns-in-Ok
returns-in-Ok c =
    let L = facts (goal.at.returns-in-Ok c).After-word-n in
    let n : c.word-n.result ≤ 3000 = rw c.word-n.ensures L.few in
    let f = c.run_both.new.work.first in
    let g = c.run_both.new.work.second in
    let lent : Lent c.word-n.result f.codes f.answers g.codes g.answers = (n, omega arith, omega arith, omega arith, omega arith) in
    rw (ran_text _ L c.word-n.ensures c.run_both.ensures) (shown_all _ _ _ _ _ lent c.show_changes.ensures)
