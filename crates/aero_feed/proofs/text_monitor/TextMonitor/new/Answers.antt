use Rattle.std.proofs.Common.{◌≡◌, [], sym, ap, subst}
use Rattle.aero_model.specs.Terms.{to_the_end}
use Rattle.aero_judge.specs.Judging.{Judging, judging_of, nothing_judged}
use Rattle.aero_feed.specs.Reads.{StandsAt}
use Rattle.aero_feed.proofs.Texts.{stands_first}
use Rattle.aero_feed.proofs.text_monitor.TextMonitor.new.Goals as goal

pub invariant_of-result : goal.invariant_of-result
invariant_of-result c =
    let terms = to_the_end c.args.terms in
    let same : judging_of c.in_ok-judge.judge ≡ nothing_judged terms = c.in_ok-judge.ensures in
    record {
      labels = sym (ap (λ (j : Judging). j.terms.rules.labels) same);
      stands = λ _.
          subst (λ (j : Judging). StandsAt c.none.result.bytes c.new-2.result j j.certain) (sym same)
          (subst (λ t. StandsAt t c.new-2.result (nothing_judged terms) (nothing_judged terms).certain) (sym c.none.ensures)
          (subst (λ k. StandsAt [] k (nothing_judged terms) (nothing_judged terms).certain) (sym c.new-2.ensures) (stands_first terms)));
    }
