use Rattle.std.proofs.Common.{◌≡◌, ◌∙◌, ap, length, rules, arith}
use Rattle.aero_intake.specs.Intake.{Taking}
use Rattle.aero_intake.proofs.Filled.{still_held, none_came}
use Rattle.aero_intake.proofs.intake.Intake.take.Goals as goal

pub returns-in-Err : goal.returns-in-Err
returns-in-Err g c =
    let i = c.self.inside in
    let count : i.count ≡ c.args.self.now.count = ap (λ (t : Taking). t.count) c.self.view_is in
    let kept : length c.read_behind.new.buffer ≡ i.buffer.len = search rules in
    let held = still_held i.buffer i.held c.deref_mut.result.now c.read_behind.new.buffer c.deref_mut.ensures.value kept c.in-Err.ensures.1 in (
      (c.in-Err.ensures.0 c.args.limit, omega (arith, c.if-left-eq0.false, c.requires.within, count)),
      ap (λ h. record { cutting = i.cutter; held = h; count = i.count; passed = i.has_passed }) held ∙ c.self.view_is,
    )

pub returns-in-Ok-eq0 : goal.returns-in-Ok-eq0
returns-in-Ok-eq0 g c =
    let i = c.self.inside in
    let count : i.count ≡ c.args.self.now.count = ap (λ (t : Taking). t.count) c.self.view_is in
    let kept : length c.read_behind.new.buffer ≡ i.buffer.len = search rules in
    let none = none_came _ _ _ _ c.in-Ok-eq0.field-0 _ _ c.in-Ok-eq0.field-0-test c.in-Ok-eq0.ensures in
    let held = still_held i.buffer i.held c.deref_mut.result.now c.read_behind.new.buffer c.deref_mut.ensures.value kept none.1 in (
      (none.0 c.args.limit, omega (arith, c.if-left-eq0.false, c.requires.within, count)),
      ap (λ h. record { cutting = i.cutter; held = h; count = i.count; passed = i.has_passed }) held ∙ c.self.view_is,
    )
