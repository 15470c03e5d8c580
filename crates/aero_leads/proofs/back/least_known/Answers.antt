use Rattle.std.proofs.Common.{◌+◌, ◌≤◌, sym, ◌∙◌, take, subst}
use Rattle.std.proofs.lemmas.List.{take_all}
use Rattle.aero_leads.specs.Listed.{followers}
use Rattle.aero_leads.proofs.Backs.{LeastPassing, is_back, passing_still, passing_next, is_least_back}
use Rattle.aero_leads.proofs.back.least_known.Goals.{then-is_known_back, else-is_known_back}
use Rattle.aero_leads.proofs.back.least_known.Goals as goal

pub loop-i-preserved : goal.loop-i-preserved
loop-i-preserved c =
    let us = followers c.args.led.now c.args.t in
    let i = c.loop-i.i in
    let test = is_back c.args.threads.now c.args.t in
    record {
      passing = elim c.if-is_known_back.branch [
        | then-is_known_back w ↦ subst (LeastPassing test (take (i + 1) us)) (sym (w.least-is ∙ w.least_of.ensures)) (passing_next test us i c.follower-u.result c.follower-u.ensures c.loop-i.least (sym c.is_known_back.ensures ∙ w.if-is_known_back.true) c.loop-i.invariant.passing)
        | else-is_known_back w ↦ subst (LeastPassing test (take (i + 1) us)) (sym w.least-is) (passing_still test us i c.follower-u.result c.follower-u.ensures c.loop-i.least (sym c.is_known_back.ensures ∙ w.if-is_known_back.false) c.loop-i.invariant.passing)
      ];
    }

pub returns : goal.returns
returns c =
    is_least_back c.args.threads.now c.args.led.now c.args.t c.requires.listed c.loop-i.least
    (subst (λ us. LeastPassing (is_back c.args.threads.now c.args.t) us c.loop-i.least) (take_all c.loop-i.i (followers c.args.led.now c.args.t) (subst (λ n. n ≤ c.loop-i.i) c.count-listed.ensures c.loop-i-test.false)) c.loop-i.invariant.passing)
