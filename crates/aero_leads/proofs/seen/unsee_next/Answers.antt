use Rattle.aero_leads.proofs.Handing.{left_so, left_handed}
use Rattle.aero_leads.specs.Seen.{is_seen}
use Rattle.aero_leads.proofs.seen.unsee_next.Goals as goal

pub returns-clause-so : goal.returns-clause-so
returns-clause-so c = λ v h. left_so c.args.later.now c.unless.result.now c.knows_these-all.result c.unless.ensures (is_seen c.args.seen.now c.args.o v) (is_seen c.args.seen.now c.args.o c.args.w) v (c.unsee.ensures.so v h)

pub returns-clause-handed : goal.returns-clause-handed
returns-clause-handed c = λ led whole v ne some.
    left_handed c.args.later.now c.unless.result.now c.knows_these-all.result c.unless.ensures v (is_seen c.unsee.new.seen c.args.o v)
    (λ all. c.unsee.ensures.kept v ne (c.knows_these-all.ensures all v ne some)) (c.unsee.ensures.handed led whole v ne) some
