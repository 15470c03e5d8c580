use Rattle.std.proofs.Common.{◌≡◌, true, false, subst}
use Rattle.aero_engine.specs.Given.{words_of}
use Rattle.aero_verdict.specs.Monitored.{FedSo, is_spent}
use Rattle.aero_model.specs.Terms.{ruled}
use Rattle.aero_verdict.proofs.Feeding.{on_err_more, tells_certain}
use Rattle.aero_verdict.proofs.monitor.verdict_of.Goals as goal

pub at_end-requires : goal.at_end-requires
at_end-requires g c =
    let r = c.requires in
    (r.0, r.1, r.2, subst (FedSo (words_of g.E.Engine.stands_for g.E.Engine.keeps) (ruled c.args.limits.now r.0 r.1) r.2 c.args.lines c.args.checker.now) c.in-Undecided.is r.3)

pub returns-in-Undecided-clause-tells : goal.returns-in-Undecided-clause-tells
returns-in-Undecided-clause-tells g c = λ labels ends fed so.
    c.at_end.ensures.tells labels ends fed (subst (FedSo (words_of g.E.Engine.stands_for g.E.Engine.keeps) (ruled c.args.limits.now labels ends) fed c.args.lines c.args.checker.now) c.in-Undecided.is so)

pub returns-in-Decided-clause-tells : goal.returns-in-Decided-clause-tells
returns-in-Decided-clause-tells g c = λ labels ends fed so.
    let rules = ruled c.args.limits.now labels ends in
    tells_certain (words_of g.E.Engine.stands_for g.E.Engine.keeps) rules fed c.args.lines c.args.checker.now c.in-Decided.verdict
    (subst (FedSo (words_of g.E.Engine.stands_for g.E.Engine.keeps) rules fed c.args.lines c.args.checker.now) c.in-Decided.is so)

pub returns-in-Undecided-clause-spent : goal.returns-in-Undecided-clause-spent
returns-in-Undecided-clause-spent g c = λ labels ends fed so.
    on_err_more c.at_end.result (ends ≡ true) (ends ≡ false → is_spent c.args.state ≡ true) (λ on off. absurd (cc))
    (c.at_end.ensures.spent labels ends fed (subst (FedSo (words_of g.E.Engine.stands_for g.E.Engine.keeps) (ruled c.args.limits.now labels ends) fed c.args.lines c.args.checker.now) c.in-Undecided.is so))
