use Rattle.std.proofs.Common.{length, sym, ap, ◌∙◌}
use Rattle.aero_access.specs.Standing.{threads_of}
use Rattle.aero_access.proofs.Leading.{are_led, led_unspent}
use Rattle.aero_access.proofs.clocks.Clocks.led.Goals as goal

pub returns-clause-led : goal.returns-clause-led
returns-clause-led c = are_led c.args.self.now c.args.t c.requires

pub returns-clause-count : goal.returns-clause-count
returns-clause-count c = c.led.ensures (threads_of c.args.self.now) ∙ ap length (sym (led_unspent c.args.self.now c.args.t c.if-self.false))
