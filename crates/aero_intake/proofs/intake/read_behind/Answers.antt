use Rattle.std.proofs.Common.{◌≡◌, ◌≤◌, ◌+◌, ◌-◌, length, rules, arith}
use Rattle.aero_intake.proofs.Filled.{fills}
use Rattle.aero_intake.proofs.intake.read_behind.Goals as goal

pub returns : goal.returns
returns g c =
    let within : c.args.held ≤ length c.args.buffer.now = omega (arith, c.requires.fits) in
    let long : length c.read.new.buf ≡ c.args.room = search rules in
    fills (g.R.Followed.sight c.args.reader.now) (g.R.Followed.sight c.read.new.self) c.args.held c.args.room
    (c.args.held + c.args.room - c.args.held) c.args.buffer.now c.read.new.buf c.read.result
    within long c.requires.some c.read.ensures.bound c.read.ensures.bytes c.read.ensures.faults c.read.ensures.ends c.read.ensures.trail
    c.read.ensures.shut c.read.ensures.closed
