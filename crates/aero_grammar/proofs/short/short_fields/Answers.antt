use Rattle.std.proofs.Common.{◌≡◌, ◌<◌, ◌+◌, ◌-◌, take, drop, arith, sym, ap, ◌∙◌}
use Rattle.aero_grammar.specs.Meaning.{is_bar}
use Rattle.aero_grammar.proofs.Places.{list_any_found}
use Rattle.aero_grammar.proofs.CommonShape.{found_near, ends_near, field_between}
use Rattle.std.proofs.lemmas.List.{length-take, length-drop, take-take}
use Rattle.aero_grammar.proofs.short.short_fields.Goals as goal

pub returns-clause-barred : goal.returns-clause-barred
returns-clause-barred c =
    let bar = c.place_in-bar.result in
    let before : bar < c.min-near.result = omega (arith, c.place_in-bar.ensures.within, c.if-bar-near.false) in
    let at = found_near is_bar c.min-near.result c.args.end bar c.args.text.now (omega (arith, c.min-near.ensures)) (omega (arith, c.requires.within)) c.place_in-bar.ensures.place before in
    list_any_found is_bar (take c.args.end c.args.text.now) (omega (arith, at, before, c.min-near.ensures, c.requires.within, length-take c.args.end c.args.text.now))

pub returns-clause-thread : goal.returns-clause-thread
returns-clause-thread c =
    let bar = c.place_in-bar.result in
    let before : bar < c.min-near.result = omega (arith, c.place_in-bar.ensures.within, c.if-bar-near.false) in
    let at = found_near is_bar c.min-near.result c.args.end bar c.args.text.now (omega (arith, c.min-near.ensures)) (omega (arith, c.requires.within)) c.place_in-bar.ensures.place before in
    sym (take-take bar c.args.end c.args.text.now (omega (arith, before, c.min-near.ensures))) ∙ ap (λ k. take k (take c.args.end c.args.text.now)) at

pub returns-clause-field : goal.returns-clause-field
returns-clause-field c =
    let text = c.args.text.now in
    let end = c.args.end in
    let bar = c.place_in-bar.result in
    let more = c.place_in-more.result in
    let rest = end - (bar + 1) in
    let before : bar < c.min-near.result = omega (arith, c.place_in-bar.ensures.within, c.if-bar-near.false) in
    let below : bar < end = omega (arith, before, c.min-near.ensures) in
    let at = found_near is_bar c.min-near.result end bar text (omega (arith, c.min-near.ensures)) (omega (arith, c.requires.within)) c.place_in-bar.ensures.place before in
    let few : more < 32 = omega (arith, c.place_in-more.ensures.within, c.min-limit.ensures, c.if-more-eq-LANES.false) in
    let until = ends_near is_bar rest c.min-limit.result more (drop (bar + 1) text) (omega (arith, length-drop (bar + 1) text, c.requires.within, below)) c.min-limit.ensures c.place_in-more.ensures.place few in
    let same : bar + 1 + more - (bar + 1) ≡ more = omega arith in
    ap (λ k. take k (drop (bar + 1) text)) same
    ∙ field_between text end bar more below at (omega (arith, c.place_in-more.ensures.within, c.min-limit.ensures)) until
