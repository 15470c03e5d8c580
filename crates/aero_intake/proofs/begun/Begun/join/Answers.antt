use Rattle.std.proofs.Common.{arith}
use Rattle.aero_intake.proofs.Joining.{joined_same, joined_set, nothing_joined}
use Rattle.aero_intake.proofs.begun.Begun.join.Goals as goal

pub loop-place-init : goal.loop-place-init
loop-place-init c = nothing_joined c.args.self.now.flags.items c.args.other.now.flags.items

pub returns-clause-flags : goal.returns-clause-flags
returns-clause-flags c = λ place below. c.loop-place.invariant.before place (omega (arith, c.loop-place-test.false, c.len-place-end.ensures, c.args.self.now.flags.ok.0, below))
