use Rattle.std.proofs.Common.{◌≡◌, ℕ, Some, option_map, sym, ◌∙◌, ap}
use Rattle.std.proofs.lemmas.Option.{slice_get-get_or}
use Rattle.aero_model.specs.Named.{Named}
use Rattle.aero_model.specs.Numbering.{Tables}
use Rattle.aero_grammar.specs.Reading.{Reading}
use Rattle.aero_grammar.specs.Tabled.{line_in, lines_in}
use Rattle.aero_verdict.proofs.BlockEvents.{line_at}
use Rattle.aero_verdict.proofs.OnLines.{found_here, not_here}
use Rattle.aero_verdict.proofs.on_line.place_in.Goals as goal

pub returns-then-at-line : goal.returns-then-at-line
returns-then-at-line c =
    let t : Tables = record { threads = c.part.inside.threads; variables = c.part.inside.variables; locks = c.part.inside.locks } in
    let labels = c.part.inside.labels in
    let items = c.as_slice-events.result.now in
    let i = c.loop-place.place in
    let item = c.parts-at.result in
    let same : lines_in t labels items ≡ c.args.part.now.events = ap (lines_in t labels) c.as_slice-events.ensures.value ∙ ap (λ (r : Reading). r.events) c.part.view_is in
    let at = slice_get-get_or items i c.index-events-place.result c.loop-place-test.true ∙ ap Some (sym (c.parts-at.ensures ∙ c.index-events-place.is)) in
    let here = line_at t labels items c.args.part.now.events same i item at in
    let found = found_here c.args.line i c.args.part.now.events (line_in t labels item) here c.loop-place.invariant c.if-at-line.true in
    ap (λ o. Some (option_map (λ (e : ℕ × Named). e.1) o)) here ∙ sym (ap (λ o. option_map Some (option_map (λ (e : ℕ × Named). e.1) o)) found)

pub loop-place-preserved : goal.loop-place-preserved
loop-place-preserved c =
    let t : Tables = record { threads = c.part.inside.threads; variables = c.part.inside.variables; locks = c.part.inside.locks } in
    let labels = c.part.inside.labels in
    let items = c.as_slice-events.result.now in
    let i = c.loop-place.place in
    let item = c.parts-at.result in
    let same : lines_in t labels items ≡ c.args.part.now.events = ap (lines_in t labels) c.as_slice-events.ensures.value ∙ ap (λ (r : Reading). r.events) c.part.view_is in
    let at = slice_get-get_or items i c.index-events-place.result c.loop-place-test.true ∙ ap Some (sym (c.parts-at.ensures ∙ c.index-events-place.is)) in
    not_here c.args.line i c.args.part.now.events (line_in t labels item) (line_at t labels items c.args.part.now.events same i item at) c.loop-place.invariant c.if-at-line.false
