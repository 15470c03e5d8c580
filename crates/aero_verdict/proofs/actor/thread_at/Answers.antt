use Rattle.std.proofs.Common.{ℕ, option_map, ap}
use Rattle.aero_model.specs.Named.{Named}
use Rattle.aero_model.specs.Numbering.{Tables}
use Rattle.aero_grammar.specs.Reading.{Reading}
use Rattle.aero_grammar.specs.Tabled.{named_in}
use Rattle.aero_verdict.proofs.BlockEvents.{item_at, line_at, thread_within}
use Rattle.aero_verdict.proofs.actor.thread_at.Goals as goal

pub name_in-requires : goal.name_in-requires
name_in-requires c =
    let t : Tables = record { threads = c.part.inside.threads; variables = c.part.inside.variables; locks = c.part.inside.locks } in
    let labels = c.part.inside.labels in
    let items = c.part.inside.events.items in
    let at = item_at t labels items c.args.part.now.events (ap (λ (r : Reading). r.events) c.part.view_is) c.args.place c.index.result.now c.parts.result c.requires c.parts.ensures c.index.ensures in
    thread_within t labels items c.part.invariant.tabled c.args.place c.parts.result at

pub returns : goal.returns
returns c =
    let t : Tables = record { threads = c.part.inside.threads; variables = c.part.inside.variables; locks = c.part.inside.locks } in
    let labels = c.part.inside.labels in
    let items = c.part.inside.events.items in
    let view = ap (λ (r : Reading). r.events) c.part.view_is in
    let at = item_at t labels items c.args.part.now.events view c.args.place c.index.result.now c.parts.result c.requires c.parts.ensures c.index.ensures in
    (named_in t labels c.parts.result.1, ap (option_map (λ (e : ℕ × Named). e.1)) (line_at t labels items c.args.part.now.events view c.args.place c.parts.result at), c.name_in.ensures)
