-- `okrozumba_month`: the digit of what `month` reports. Assumes nothing.
use Rattle.okrozumba.proofs.okrozumba_month.Goals as goal

pub returns : goal.returns
returns c = rw c.report_number.ensures c.month.ensures
