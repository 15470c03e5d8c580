use Rattle.std.proofs.Common.{◌+◌, take, get_or, sym, subst}
use Rattle.std.specs.List.{AllZip}
use Rattle.std.proofs.lemmas.Option.{slice_get-get_or}
use Rattle.aero_judge.specs.Recorded.{SaysSame}
use Rattle.aero_judge.proofs.Said.{recoded_next}
use Rattle.aero_judge.proofs.recorder.recode_all.Goals as goal

pub loop-code-preserved : goal.loop-code-preserved
loop-code-preserved c =
    let labels = c.args.labels.now.names in
    let said = c.args.said.now in
    let i = c.loop-code.code-index in
    record {
      same = subst (AllZip (SaysSame labels c.recode.new.left.names) (take (i + 1) said)) (sym c.in_ok-push.ensures.items)
          (recoded_next labels c.loop-code.left.names c.recode.new.left.names said c.loop-code.codes.items i (get_or said i 0) c.in_ok-recode.field-0
          c.in_ok-recode.ensures.still (slice_get-get_or said i 0 c.loop-code-test.true) c.in_ok-recode.ensures.same c.loop-code.invariant.same);
    }
