use Rattle.std.proofs.Common.{subst, sym, arith}
use Rattle.json.specs.Print.{IsNumber}
use Rattle.aero_report.proofs.Numbers.{IsNumber-decimal}
use Rattle.aero_report.proofs.line.Line.total.Goals as goal

pub number-requires : goal.number-requires
number-requires c = subst IsNumber (sym c.format.ensures.text) (IsNumber-decimal c.args.total (omega (arith, c.ranges.total.fits)))
