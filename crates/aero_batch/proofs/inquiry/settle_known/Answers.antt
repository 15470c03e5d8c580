use Rattle.aero_gather.specs.Given.{value_of}
use Rattle.aero_batch.proofs.Questions.{settles_known}
use Rattle.aero_batch.proofs.inquiry.settle_known.Goals as goal

pub returns-clause-known : goal.returns-clause-known
returns-clause-known c =
    settles_known value_of c.args.gather.now c.settle_with_question.new.self c.settle_with_question.result c.settle_with_question.ensures.settled
    c.settle_with_question.ensures.known
