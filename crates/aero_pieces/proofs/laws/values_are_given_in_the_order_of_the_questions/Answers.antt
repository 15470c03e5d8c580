use Rattle.aero_pieces.proofs.InOrder.{runs_in_order}
use Rattle.aero_pieces.proofs.laws.values_are_given_in_the_order_of_the_questions.Goals as goal

pub returns : goal.returns
returns c = λ window room workers events w run. runs_in_order window room workers events w run
