use Rattle.std.proofs.Common.{◌∙◌, length, map, refl, subst, sym}
use Rattle.std.specs.Prelude.{string_bytes}
use Rattle.std.proofs.lemmas.Option.{slice_get_read}
use Rattle.aero_program.specs.LabelFiles.{FailsAt}
use Rattle.aero_program.proofs.LabelLines.{fails_at_place, listed_more_at}
use Rattle.aero_program.proofs.label_files.with_files.Goals as goal

pub returns-in-Err-clause-fault : goal.returns-in-Err-clause-fault
returns-in-Err-clause-fault g c =
    let paths = c.args.paths.now in
    let i = c.loop-path.path-index in
    let path = c.path-item.result in
    subst (λ p. FailsAt (g.F.Opener.known c.args.files.now) g.F.Opener.can_fail c.args.labels.keys (map string_bytes paths) p c.in-Err.why) (c.as_str.ensures.value ∙ sym c.as_str-path.ensures.value)
    (fails_at_place (g.F.Opener.known c.args.files.now) g.F.Opener.can_fail c.args.labels.keys string_bytes paths i path c.loop-path.labels.keys c.as_str.result.now c.in-Err.why
    (slice_get_read paths (length paths) i path refl c.loop-path-test.true c.path-item.is) c.as_str.ensures.value c.loop-path.invariant c.in-Err.ensures.fault)

pub loop-path-preserved : goal.loop-path-preserved
loop-path-preserved g c =
    let paths = c.args.paths.now in
    let i = c.loop-path.path-index in
    let path = c.path-item.result in
    listed_more_at (g.F.Opener.known c.args.files.now) c.args.labels.keys string_bytes paths i path c.loop-path.labels.keys c.add_file.new.labels.keys c.as_str.result.now
    (slice_get_read paths (length paths) i path refl c.loop-path-test.true c.path-item.is) c.as_str.ensures.value c.loop-path.invariant c.in_default.ensures.added c.in_default.ensures.few
