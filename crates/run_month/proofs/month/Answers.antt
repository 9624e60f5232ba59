-- `month`: what `report` says of the sums holds of the exact ones. Assumes nothing.
use Rattle.run_month.proofs.Exact.{reported}
use Rattle.run_month.proofs.month.Goals as goal

pub returns : goal.returns
returns c = reported c.args.records.now c.total-t.result c.total-t.ensures _ _ _ c.report.ensures.0 c.report.ensures.1
