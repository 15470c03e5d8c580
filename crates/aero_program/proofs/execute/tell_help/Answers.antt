use Rattle.std.proofs.Common.{◌∙◌, ◌+◌, ap, sym, subst, refl, if◌then◌else◌}
use Rattle.std.specs.IoError.{error_kind}
use Rattle.aero_model.specs.CallCounts.{seen_by}
use Rattle.aero_telling.specs.Founds.{Took}
use Rattle.aero_program.specs.Executed.{EndsAs, Fails}
use Rattle.aero_program.specs.Failure.{cut_failure}
use Rattle.aero_program.specs.Faults.{fault_of}
use Rattle.aero_program.specs.Status.{end_of_help}
use Rattle.aero_program.specs.Streams.{Shown, WasCut, shown_by, written_by}
use Rattle.aero_program.proofs.Faulting.{is_fault}
use Rattle.aero_program.proofs.Helping.{helped, help_cut, on_err, on_ok}
use Rattle.aero_program.proofs.execute.tell_help.Goals as goal

pub returns-then-is_err : goal.returns-then-is_err
returns-then-is_err g c =
    let shown = shown_by g.O.Write.contents c.args.output.now in
    let between : Shown = record { writer = seen_by (λ w. g.O.Write.contents (written_by w)) c.tell-told.new.writer; unflushed = c.args.output.now.unflushed.number } in
    let cut : WasCut shown.writer between.writer c.args.text.now =
    subst (WasCut shown.writer between.writer) c.as_bytes.ensures.value (on_err c.tell-told.result (sym c.is_err.ensures.value ∙ c.if-is_err.true) c.tell-told.ensures.cut) in
    help_cut c.args.text.now shown between (shown_by g.O.Write.contents c.flush.new.self) (seen_by g.E.Write.contents c.args.errors.now) (seen_by g.E.Write.contents c.fail.new.errors) c.fail.result
    (fault_of error_kind c.flush.result) cut refl
    (record {
      bytes = c.flush.ensures.bytes;
      faults = c.flush.ensures.faults;
      unflushed = c.flush.ensures.unflushed ∙ ap (λ b. c.args.output.now.unflushed.number + (if b then 1 else 0)) (is_fault error_kind c.flush.result);
    })
    (subst (λ why. Fails why (seen_by g.E.Write.contents c.args.errors.now) (seen_by g.E.Write.contents c.fail.new.errors) c.fail.result)
    (c.of_cut.ensures ∙ ap cut_failure c.flush_fault-fault.ensures) c.fail.ensures)

pub returns-in-Some : goal.returns-in-Some
returns-in-Some g c =
    let shown = shown_by g.O.Write.contents c.args.output.now in
    let between : Shown = record { writer = seen_by (λ w. g.O.Write.contents (written_by w)) c.tell-told.new.writer; unflushed = c.args.output.now.unflushed.number } in
    let took : Took shown.writer between.writer c.args.text.now =
    subst (Took shown.writer between.writer) c.as_bytes.ensures.value (on_ok c.tell-told.result (sym c.is_err.ensures.value ∙ c.if-is_err.false) c.tell-told.ensures.whole) in
    helped c.args.text.now shown between (shown_by g.O.Write.contents c.flush.new.self) (seen_by g.E.Write.contents c.args.errors.now) (seen_by g.E.Write.contents c.fail-in-Some.new.errors) c.fail-in-Some.result
    (fault_of error_kind c.flush.result) took refl
    (record {
      bytes = c.flush.ensures.bytes;
      faults = c.flush.ensures.faults;
      unflushed = c.flush.ensures.unflushed ∙ ap (λ b. c.args.output.now.unflushed.number + (if b then 1 else 0)) (is_fault error_kind c.flush.result);
    })
    (subst (λ fault. EndsAs (end_of_help fault) (seen_by g.E.Write.contents c.args.errors.now) (seen_by g.E.Write.contents c.fail-in-Some.new.errors) c.fail-in-Some.result)
    (sym c.in-Some.is ∙ c.flush_fault-fault.ensures)
    (subst (λ why. Fails why (seen_by g.E.Write.contents c.args.errors.now) (seen_by g.E.Write.contents c.fail-in-Some.new.errors) c.fail-in-Some.result) c.of_write.ensures c.fail-in-Some.ensures))

pub returns-in-None : goal.returns-in-None
returns-in-None g c =
    let shown = shown_by g.O.Write.contents c.args.output.now in
    let between : Shown = record { writer = seen_by (λ w. g.O.Write.contents (written_by w)) c.tell-told.new.writer; unflushed = c.args.output.now.unflushed.number } in
    let told = seen_by g.E.Write.contents c.args.errors.now in
    let took : Took shown.writer between.writer c.args.text.now =
    subst (Took shown.writer between.writer) c.as_bytes.ensures.value (on_ok c.tell-told.result (sym c.is_err.ensures.value ∙ c.if-is_err.false) c.tell-told.ensures.whole) in
    helped c.args.text.now shown between (shown_by g.O.Write.contents c.flush.new.self) told told 0
    (fault_of error_kind c.flush.result) took refl
    (record {
      bytes = c.flush.ensures.bytes;
      faults = c.flush.ensures.faults;
      unflushed = c.flush.ensures.unflushed ∙ ap (λ b. c.args.output.now.unflushed.number + (if b then 1 else 0)) (is_fault error_kind c.flush.result);
    })
    (subst (λ fault. EndsAs (end_of_help fault) told told 0) (sym c.in-None.is ∙ c.flush_fault-fault.ensures) (refl, refl))
