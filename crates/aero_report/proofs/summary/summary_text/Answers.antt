use Rattle.std.proofs.Common.{rules}
use Rattle.aero_report.proofs.summary.summary_text.Goals as goal

pub returns : goal.returns
returns c = search rules
