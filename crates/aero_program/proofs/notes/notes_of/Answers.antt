use Rattle.std.proofs.Common.{◌≡◌, ◌∙◌, [], ap, sym, subst, arith, Bool, List, Option, length, map, refl, take}
use Rattle.std.specs.Prelude.{slice_get}
use Rattle.std.proofs.lemmas.List.{length-take-le, take_all}
use Rattle.std.proofs.lemmas.Option.{slice_get_read}
use Rattle.aero_telling.specs.declared.notable.Notable.{Notable}
use Rattle.aero_report.specs.Asked.{note_of}
use Rattle.aero_program.specs.Notes.{AreNotes, GrowsBy, Noted, noted_of, noted_of_all, was_too_large, notable_told}
use Rattle.aero_program.specs.Traces.{came_in, input_of}
use Rattle.aero_program.proofs.Labelling.{take_with}
use Rattle.aero_program.proofs.Noting.{looked_up, no_notes, notes_grown, one_more}
use Rattle.aero_program.proofs.notes.notes_of.Goals as goal

pub loop-place-init : goal.loop-place-init
loop-place-init g c = subst (λ l. AreNotes g.G.Opener.holds [] (map note_of l)) (sym c.new-notes.ensures.items) (no_notes g.G.Opener.holds)

pub loop-place-preserved : goal.loop-place-preserved
loop-place-preserved g c =
    let sources = c.args.sources.now in
    let i = c.loop-place.place in
    let yielded = take i sources in
    let source = c.index-sources-place.result in
    let at = slice_get_read sources (length sources) i source refl c.loop-place-test.true c.index-sources-place.is in
    let count : length yielded ≡ i = length-take-le i sources (let less = c.loop-place-test.true in omega (arith, less)) in
    let endings = c.args.endings.now in
    let notables = c.args.notables.now in
    let words = c.args.are_words in
    let told : c.is_too_large.result ≡ was_too_large (slice_get endings (length yielded)) =
    c.is_too_large.ensures ∙ ap was_too_large (looked_up c.get-in-loop-place.result endings i c.get-in-loop-place.ensures.lookup.0 c.get-in-loop-place.ensures.lookup.1 ∙ ap (slice_get endings) (sym count)) in
    let notable : c.notable_of-notable.result ≡ notable_told (slice_get notables (length yielded)) =
    c.notable_of-notable.ensures ∙ ap notable_told (looked_up c.get.result notables i c.get.ensures.lookup.0 c.get.ensures.lookup.1 ∙ ap (slice_get notables) (sym count)) in
    let before : List Noted = noted_of_all input_of came_in words yielded endings notables in
    let n : Noted = noted_of input_of came_in words source (was_too_large (slice_get endings (length yielded))) (notable_told (slice_get notables (length yielded))) in
    let old = map note_of c.loop-place.notes.items in
    let new = map note_of c.add_notes.new.notes.items in
    let grows : GrowsBy g.G.Opener.holds old new n =
    subst (λ (f : Option Notable). GrowsBy g.G.Opener.holds old new (noted_of input_of came_in words source (was_too_large (slice_get endings (length yielded))) f)) notable
    (subst (λ (b : Bool). GrowsBy g.G.Opener.holds old new (noted_of input_of came_in words source b c.notable_of-notable.result)) told c.in_ok-add_notes.ensures) in
    subst (λ (l : List Noted). AreNotes g.G.Opener.holds l new)
    (sym (one_more input_of came_in words yielded source endings notables) ∙ ap (λ l. noted_of_all input_of came_in words l endings notables) (sym (take_with sources i source at)))
    (notes_grown g.G.Opener.holds before n old new c.loop-place.invariant grows)

pub returns : goal.returns
returns g c =
    subst (λ l. AreNotes g.G.Opener.holds (noted_of_all input_of came_in c.args.are_words l c.args.endings.now c.args.notables.now) (map note_of c.loop-place.notes.items))
    (take_all c.loop-place.place c.args.sources.now c.loop-place-test.false) c.loop-place.invariant
