use Rattle.aero_program.proofs.Leading.{bytes_stay, nothing_open, merely_led_shut}
use Rattle.aero_program.proofs.traced.TracedFollowed.close.Goals as goal

pub invariant_of-self : goal.invariant_of-self
invariant_of-self g c =
    let was = c.args.self.now in
    let close = c.close in
    record {
      led = merely_led_shut g.S.Read.remaining g.O.Opener.known g.O.File.Read.remaining g.O.Opener.can_fail g.O.Opener.holds
          was.first.value was.input close.new.self was.given.bytes was.faults.number was.ends.number
          close.ensures.standing close.ensures.start close.ensures.reason close.ensures.opened was.led;
    }
