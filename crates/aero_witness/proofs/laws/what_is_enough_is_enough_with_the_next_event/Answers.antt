use Rattle.aero_witness.proofs.Enough.{enough_stays}
use Rattle.aero_witness.proofs.laws.what_is_enough_is_enough_with_the_next_event.Goals as goal

pub returns : goal.returns
returns c = λ trace kept places e. enough_stays trace kept places e
