use Rattle.std.proofs.Common.{rules}
use Rattle.aero_model.proofs.except.Except.listing.Goals as goal

pub invariant_of-result : goal.invariant_of-result
invariant_of-result c = search rules

pub returns-clause-few : goal.returns-clause-few
returns-clause-few c = search rules
