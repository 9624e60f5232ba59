-- `call_tick::tick` meets its contract. `pass_waits` performs the releases, with `step_clock` and `step_counter` the rest of the time, then `ring` the alarms. Assumes nothing.
use Rattle.call_tick.proofs.Ticks.{tick_alone, tick_rings}
use Rattle.call_tick.proofs.tick.Goals as goal

pub returns-then-get-eq0 : goal.returns-then-get-eq0
returns-then-get-eq0 c =
    let waits = c.pass_waits-count.ensures in
    tick_alone _ waits.words_after waits.value.0 c.step_clock.ensures c.get.ensures c.if-get-eq0.true c.releases.ensures

pub returns : goal.returns
returns c =
    let waits = c.pass_waits-count.ensures in
    tick_rings _ waits.words_after waits.value.0 c.step_clock.ensures c.get.ensures c.if-get-eq0.false c.step_counter.ensures c.ring-rung.ensures.performs_on_words c.releases-2.ensures
