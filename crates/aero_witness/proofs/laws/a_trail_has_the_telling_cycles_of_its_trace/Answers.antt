use Rattle.aero_witness.proofs.Trail.{transaction_recorded, telling_back, telling_on}
use Rattle.aero_witness.proofs.laws.a_trail_has_the_telling_cycles_of_its_trace.Goals as goal

pub returns : goal.returns
returns c = λ trace recorded n first rest trail. (transaction_recorded trace recorded trail first.enters, (telling_back trace recorded trail n first rest, telling_on trace recorded trail n first rest))
