use Rattle.std.proofs.Common.{◌∙◌, ap, sym, ◌+◌, arith}
use Rattle.std.proofs.lemmas.Grind.{common_steps}
use Rattle.aero_lines.specs.Cutting.{Cutting}
use Rattle.aero_lines.proofs.Steps.{step_shut, found_long, found_none, found_last, Longs, Holds, Cuts}
use Rattle.aero_lines.proofs.cutter.Cutter.feed.Goals as goal

pub returns-then-self-clause-block : goal.returns-then-self-clause-block
returns-then-self-clause-block c =
    (step_shut c.args.self.now c.args.piece.now (sym (ap (λ (s : Cutting). s.shut) c.self.view_is) ∙ c.if-self.true)).0

pub returns-then-self-clause-after : goal.returns-then-self-clause-after
returns-then-self-clause-after c =
    (step_shut c.args.self.now c.args.piece.now (sym (ap (λ (s : Cutting). s.shut) c.self.view_is) ∙ c.if-self.true)).1

pub returns-in-Some-clause-block : goal.returns-in-Some-clause-block
returns-in-Some-clause-block c =
    let step : Longs c.args.self.now c.args.piece.now c.in-Some.bytes =
    found_long _ _ _ _ _ c.self.view_is c.deref.ensures.value c.if-self.false c.in-Some.ensures.1 c.in-Some.ensures.2 in
    rw (← step.block) c.shut_with.ensures.block

pub returns-in-Some-clause-after : goal.returns-in-Some-clause-after
returns-in-Some-clause-after c =
    let step : Longs c.args.self.now c.args.piece.now c.in-Some.bytes =
    found_long _ _ _ _ _ c.self.view_is c.deref.ensures.value c.if-self.false c.in-Some.ensures.1 c.in-Some.ensures.2 in
    rw (← step.after) c.shut_with.ensures.after

pub hold-requires : goal.hold-requires
hold-requires c =
    let step : Holds c.args.self.now c.args.piece.now =
    found_none _ _ _ _ c.self.view_is c.deref.ensures.value c.self.invariant c.if-self.false c.in_default.ensures c.in-None.ensures in
    grind (arith, common_steps, step.open_line)

pub cut-requires : goal.cut-requires
cut-requires c =
    let step : Cuts c.args.self.now c.args.piece.now (c.in-Some-memrchr.last + 1) =
    found_last _ _ _ _ _ c.self.view_is c.deref.ensures.value c.self.invariant c.if-self.false c.in_default.ensures c.in-Some-memrchr.ensures.0.high c.in-Some-memrchr.ensures.0.after c.in-Some-memrchr.ensures.1 in
    rw c.split_at.ensures.back step.open_line

pub returns-in_ok-hold-in-None-clause-block : goal.returns-in_ok-hold-in-None-clause-block
returns-in_ok-hold-in-None-clause-block c =
    let step : Holds c.args.self.now c.args.piece.now =
    found_none _ _ _ _ c.self.view_is c.deref.ensures.value c.self.invariant c.if-self.false c.in_default.ensures c.in-None.ensures in
    step.block

pub returns-in_ok-hold-in-None-clause-after : goal.returns-in_ok-hold-in-None-clause-after
returns-in_ok-hold-in-None-clause-after c =
    let step : Holds c.args.self.now c.args.piece.now =
    found_none _ _ _ _ c.self.view_is c.deref.ensures.value c.self.invariant c.if-self.false c.in_default.ensures c.in-None.ensures in
    c.in_ok-hold-in-None.ensures.after ∙ (grind (arith, common_steps)) ∙ step.after

pub returns-in-Some-memrchr-clause-block : goal.returns-in-Some-memrchr-clause-block
returns-in-Some-memrchr-clause-block c =
    let step : Cuts c.args.self.now c.args.piece.now (c.in-Some-memrchr.last + 1) =
    found_last _ _ _ _ _ c.self.view_is c.deref.ensures.value c.self.invariant c.if-self.false c.in_default.ensures c.in-Some-memrchr.ensures.0.high c.in-Some-memrchr.ensures.0.after c.in-Some-memrchr.ensures.1 in
    rw (← step.block, ← c.split_at.ensures.front) c.cut.ensures.block

pub returns-in-Some-memrchr-clause-after : goal.returns-in-Some-memrchr-clause-after
returns-in-Some-memrchr-clause-after c =
    let step : Cuts c.args.self.now c.args.piece.now (c.in-Some-memrchr.last + 1) =
    found_last _ _ _ _ _ c.self.view_is c.deref.ensures.value c.self.invariant c.if-self.false c.in_default.ensures c.in-Some-memrchr.ensures.0.high c.in-Some-memrchr.ensures.0.after c.in-Some-memrchr.ensures.1 in
    rw (← step.after, ← c.split_at.ensures.back) c.cut.ensures.after
