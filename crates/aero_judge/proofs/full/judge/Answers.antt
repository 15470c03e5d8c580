use Rattle.std.proofs.Common.{List, [], ◌∷◌, map, sym, ◌∙◌, subst}
use Rattle.std.proofs.lemmas.List.{map-append}
use Rattle.aero_model.specs.declared.numbered.Numbered.{Numbered}
use Rattle.aero_engine.specs.Given.{Given}
use Rattle.aero_engine.specs.Judging.{ComesAfter}
use Rattle.aero_order.specs.Standing as orders
use Rattle.aero_shape.specs.declared.admission.Admitted.{Admitted}
use Rattle.aero_judge.specs.declared.full.InFull.{InFull}
use Rattle.aero_judge.specs.InFull.{StandsForFull}
use Rattle.aero_verdict.specs.InOrder.{came_of}
use Rattle.aero_judge.specs.Recorded.{StandsForLeads}
use Rattle.aero_judge.proofs.full.judge.Goals as goal

-- what comes after the events for which both stand comes after those for which the record does
for_record : (full : InFull) (h : List Numbered) (e : Numbered) (admitted : Admitted) → ComesAfter (StandsForFull full) h e admitted → ComesAfter (StandsForLeads full.recorder) h e admitted
for_record full h e admitted after = record { standing = after.standing.0; well_formed = after.well_formed; in_shape = after.in_shape; kind = after.kind }

pub judge-requires : goal.judge-requires
judge-requires c =
    let (h, judged, judges, short, after) = c.requires in (h, judged, judges, short, for_record c.args.full.now h judged c.args.admitted after)

pub returns-clause-told : goal.returns-clause-told
returns-clause-told c = λ h judged judges after.
    let t = c.args.event.now.thread in
    let told = c.in_ok-told.ensures.told h judged judges (for_record c.args.full.now h judged c.args.admitted after) in
    record {
      told = told.told;
      stands = λ none. (told.stands none, c.in_ok-add.ensures.stands h judged judges (c.in_block-inside.ensures ∙ after.standing.0.state.in_block t) after.standing.1);
    }

pub returns-clause-kept : goal.returns-clause-kept
returns-clause-kept c = λ given named is keeps.
    let g : Given = record { line = c.args.line; event = c.args.event.now; admitted = c.args.admitted; label = named } in (
      c.in_ok-told.ensures.kept given named is keeps.0,
      subst (orders.KeepsCame c.add.new.self) (sym (map-append came_of given (g ∷ []))) (c.in_ok-add.ensures.kept (map came_of given) keeps.1),
    )
