-- `okrozumba_call` meets its contract: that of `call`, whose words are passed as bits. Assumes nothing.
use mir.Facts.{to_z-of_z}
use Rattle.okrozumba.proofs.okrozumba_call.Goals as goal

pub returns : goal.returns
returns c =
    let f = c.ranges in
    rw (to_z-of_z f.context, to_z-of_z f.number, to_z-of_z f.a, to_z-of_z f.b, to_z-of_z f.c) at c.call.ensures
