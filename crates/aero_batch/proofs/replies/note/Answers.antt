use Rattle.aero_batch.proofs.Questions.{missed_stays}
use Rattle.aero_batch.proofs.replies.note.Goals as goal

pub returns-clause-stays : goal.returns-clause-stays
returns-clause-stays c = missed_stays c.args.gather.now c.note_missed.new.self c.args.ticket.number c.note_missed.ensures.noted
