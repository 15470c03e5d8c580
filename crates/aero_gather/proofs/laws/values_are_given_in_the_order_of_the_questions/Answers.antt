use Rattle.aero_gather.proofs.InOrder.{gives_in_order}
use Rattle.aero_gather.proofs.laws.values_are_given_in_the_order_of_the_questions.Goals as goal

pub returns : goal.returns
returns c = λ window calls g run. gives_in_order window calls g run
