use Rattle.std.proofs.Common.{None, Some, sym, subst}
use Rattle.aero_model.specs.declared.verdict.Ending.TheVariants.{Stopped}
use Rattle.aero_intake.specs.Alone.{StandsAlone}
use Rattle.aero_model.specs.declared.limits.Limits.{Limits}
use Rattle.aero_intake.specs.Intake.{Takes, Taking}
use Rattle.aero_intake.specs.PlanTerms.{terms_of}
use Rattle.aero_judge.specs.Judging.{judging_of}
use Rattle.aero_intake.proofs.AloneSteps.{piece_stands, stop_stands}
use Rattle.aero_intake.proofs.alone.SoFar.read_on.Goals as goal

pub returns-then-stops_here-clause-stands : goal.returns-then-stops_here-clause-stands
returns-then-stops_here-clause-stands g c before stands =
    let s = c.args.self.now in
    let terms = terms_of c.args.plan.now in
    let j = judging_of s.judge in
    let mid = g.R.Followed.sight c.args.reader.now in
    let now = g.R.Followed.sight c.close.new.self in
    let stops = c.if-stops_here.true in
    subst (λ (i : Taking). StandsAlone terms before now (Some Stopped) i j) (sym c.pass_over.ensures)
    (stop_stands terms before mid now s.intake j c.close.ensures (c.stops_here.ensures.enough stops) (c.stops_here.ensures.asked_for stops)
    (c.stops_here.ensures.within stops) stands)

pub returns-in_ok-judge_if_due-in-Piece-clause-stands : goal.returns-in_ok-judge_if_due-in-Piece-clause-stands
returns-in_ok-judge_if_due-in-Piece-clause-stands g c before stands =
    let s = c.args.self.now in
    let terms = terms_of c.args.plan.now in
    let j = judging_of s.judge in
    let mid = g.R.Followed.sight c.args.reader.now in
    let now = g.R.Followed.sight c.take.new.reader in
    let limited = subst (λ (l : Limits). Takes mid now c.args.plan.now.piece l.bytes s.intake c.take.new.self c.take.result) c.limits.ensures c.take.ensures in
    let takes = subst (λ t. Takes mid now c.args.plan.now.piece terms.rules.limits.bytes s.intake c.take.new.self t) c.in-Piece.is limited in
    let here = piece_stands terms before mid now s.intake j c.args.plan.now.piece takes.0 takes.1 stands in
    c.in_ok-judge_if_due-in-Piece.ensures.stands before now None (subst (λ (i : Taking). StandsAlone terms before now None i j) (sym takes.2) here)
