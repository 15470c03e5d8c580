use Rattle.aero_witness.proofs.Thinned.{one_kept, one_back, ended_kept, ended_back, all_cut}
use Rattle.aero_witness.proofs.laws.what_is_kept_has_the_transactions_of_its_trace.Goals as goal

pub returns : goal.returns
returns c = λ trace kept places i j p q thin a b. (
  (one_back trace kept places thin i j p q a b, one_kept trace kept places thin i j p q a b),
  (ended_back trace kept places thin _ _ (all_cut trace kept places thin) i p a, ended_kept trace kept places thin _ _ (all_cut trace kept places thin) i p a),
)
