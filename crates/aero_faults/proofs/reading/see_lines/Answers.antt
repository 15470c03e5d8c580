use Rattle.std.proofs.Common.{◌∙◌, ◌+◌, ℕ, List, IfSome, subst}
use Rattle.aero_model.specs.Named.{Named}
use Rattle.aero_grammar.specs.Meaning.{meaning}
use Rattle.aero_faults.specs.declared.search.Search.{Search}
use Rattle.aero_faults.specs.Looks.{IsSameSearch, SeesLine}
use Rattle.aero_faults.specs.Searches.{HasSeen}
use Rattle.aero_faults.proofs.Looking.{one_more_seen}
use Rattle.aero_faults.proofs.reading.see_lines.Goals as goal

pub loop-before-preserved : goal.loop-before-preserved
loop-before-preserved g c =
    let old : Search = c.loop-before.search in
    let now : Search = c.in-Some.seen in
    let n = c.loop-before.before + 1 in
    let same : IsSameSearch old now = subst (λ o. IfSome o (λ s. IsSameSearch old s)) c.in-Some.is c.in_ok-seen.ensures.same in
    let sees : (before : List (ℕ × Named)) → HasSeen old before → SeesLine now before n (meaning c.deref.result.now) =
    subst (λ o. IfSome o (λ s. (before : List (ℕ × Named)) → HasSeen old before → SeesLine s before n (meaning c.deref.result.now))) c.in-Some.is c.in_ok-seen.ensures.seen in
    let told : (before : List (ℕ × Named)) → HasSeen old before → SeesLine now before n (meaning c.next_line.new.line.items) =
    subst (λ (l : List ℕ). (before : List (ℕ × Named)) → HasSeen old before → SeesLine now before n (meaning l)) c.deref.ensures.value sees in
    record {
      same = record { event = same.event ∙ c.loop-before.invariant.same.event; fault = same.fault ∙ c.loop-before.invariant.same.fault };
      seen = one_more_seen (g.B.Read.remaining c.args.lines.now.inner) (g.B.Read.remaining c.loop-before.lines.inner) (g.B.Read.remaining c.next_line.new.lines.inner) c.loop-before.before c.next_line.new.line.items old now
          c.loop-before.invariant.seen (c.in_ok-next_line.ensures.endless c.if-not-branch.false) (c.in_ok-next_line.ensures.came c.if-not-branch.false) told;
    }
