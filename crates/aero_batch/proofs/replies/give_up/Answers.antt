use Rattle.std.proofs.Common.{◌≡◌, ◌-◌, length, subst, ◌∙◌, ap}
use Rattle.aero_gather.specs.Gathered.{Gathered, oldest_of}
use Rattle.aero_gather.specs.declared.gather.Oldest.TheVariants.{Awaited}
use Rattle.aero_batch.specs.Replies.{of_kind}
use Rattle.aero_batch.proofs.Questions.{missed_ends}
use Rattle.aero_batch.proofs.replies.give_up.Goals as goal

pub returns-clause-ended : goal.returns-clause-ended
returns-clause-ended c = λ awaits.
    missed_ends (of_kind c.args.kind c.args.gathers.now) c.oldest_ticket-oldest.result.number
    (c.oldest_ticket-oldest.ensures ∙ ap (λ (g : Gathered). g.tally.asked - length g.entries) c.of.ensures)
    (subst (λ (g : Gathered). oldest_of g.entries ≡ Awaited) c.miss.ensures.noted.changed awaits)
