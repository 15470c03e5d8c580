use Rattle.std.proofs.Common.{Ok, subst}
use Rattle.aero_grammar.specs.Meaning.{meaning}
use Rattle.aero_grammar.specs.Words.{named_of, ReadsMeaning}
use Rattle.aero_grammar.proofs.Events.{event_of_line}
use Rattle.aero_grammar.proofs.line.parse_line.Goals as goal

pub event_of-requires : goal.event_of-requires
event_of-requires c =
    event_of_line c.args.line.now (named_of c.in-Ok-Some.words) (subst (λ o. ReadsMeaning (Ok o) (meaning c.args.line.now)) c.in-Ok-Some.field-0-is c.in-Ok-Some.ensures)
