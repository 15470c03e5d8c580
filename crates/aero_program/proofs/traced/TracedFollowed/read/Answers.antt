use Rattle.std.proofs.Common.{◌∙◌, ◌++◌, ap, sym}
use Rattle.std.specs.IoError.{raw_os_error}
use Rattle.aero_program.proofs.Leading.{merely_led_on}
use Rattle.aero_program.proofs.traced.TracedFollowed.read.Goals as goal

pub invariant_of-self : goal.invariant_of-self
invariant_of-self g c =
    let was = c.args.self.now in
    let read = c.read-result in
    record {
      led = merely_led_on g.S.Read.remaining g.O.Opener.known g.O.File.Read.remaining g.O.Opener.can_open g.O.Opener.can_fail g.O.Opener.holds raw_os_error
          was.first.value was.input read.new.self read.result read.new.buf
          (record {
            unclosed = sym c.is_closed.ensures ∙ c.if-is_closed.false;
            steps = read.ensures.steps;
            fails = read.ensures.failed;
            opens = read.ensures.opened;
            starts = read.ensures.start;
            reasons = read.ensures.reason;
          })
          was.given.bytes c.with-self.result.bytes was.faults.number c.count_failure.new.faults.number was.ends.number c.count_end.new.ends.number
          (c.with-self.ensures ∙ ap (λ l. was.given.bytes ++ l) c.came.ensures) c.count_failure.ensures c.count_end.ensures was.led;
    }
