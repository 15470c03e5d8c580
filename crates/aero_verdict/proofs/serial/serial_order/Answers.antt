use Rattle.std.proofs.Common.{◌↔◌, ◌++◌, ℕ, Vec, Global, List, length, Option, Result, ◌∙◌, ap, subst}
use Rattle.std.specs.Prelude.{IfOk, IsSome, IsTrue}
use Rattle.std.specs.declared.alloc.AllocError.{AllocError}
use Rattle.aero_model.specs.declared.verdict.Verdict.{Verdict}
use Rattle.aero_model.specs.declared.verdict.Verdict.TheVariants.{Serializable}
use Rattle.aero_model.specs.Cycle.{IsSerializable}
use Rattle.aero_grammar.specs.Reading.{Reading}
use Rattle.aero_verdict.specs.Ordered.{is_faultless}
use Rattle.aero_verdict.specs.Verdict.{IsVerdict, checked_trace}
use Rattle.aero_model.specs.Terms.{Rules}
use Rattle.aero_verdict.proofs.serial.serial_order.Goals as goal

-- what is told of parts under rules
abbrev IsExact : Result (Option (Vec ℕ Global)) AllocError → List Reading → Rules → Type 0
IsExact told parts rules =
    IfOk told (λ order. (v : Verdict) → IsVerdict parts rules v → IsSome order ↔ (IsTrue (is_faultless v) × IsSerializable (checked_trace parts rules) (length (checked_trace parts rules))))

abbrev IsThere : Result (Option (Vec ℕ Global)) AllocError → List Reading → Rules → Type 0
IsThere told parts rules = IfOk told (λ order. (events blocks : ℕ) → IsVerdict parts rules (Serializable events blocks) → IsSome order)

pub returns-clause-exact : goal.returns-clause-exact
returns-clause-exact c =
    let rules = c.feed_all.ensures.rules ∙ c.new-monitor.ensures.rules in
    let parts = c.feed_all.ensures.fed ∙ ap (λ ps. ps ++ c.args.parts.now) c.new-monitor.ensures.none in
    subst (IsExact c.finish_with_lines.result c.args.parts.now) rules (subst (λ ps. IsExact c.finish_with_lines.result ps c.feed_all.new.monitor.rules) parts c.finish_with_lines.ensures.exact)

pub returns-clause-serializable : goal.returns-clause-serializable
returns-clause-serializable c =
    let rules = c.feed_all.ensures.rules ∙ c.new-monitor.ensures.rules in
    let parts = c.feed_all.ensures.fed ∙ ap (λ ps. ps ++ c.args.parts.now) c.new-monitor.ensures.none in
    subst (IsThere c.finish_with_lines.result c.args.parts.now) rules (subst (λ ps. IsThere c.finish_with_lines.result ps c.feed_all.new.monitor.rules) parts c.finish_with_lines.ensures.serializable)
