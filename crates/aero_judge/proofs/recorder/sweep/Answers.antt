use Rattle.std.proofs.Common.{◌≡◌, refl, ◌∙◌, ap, subst}
use Rattle.std.specs.List.{AllZip}
use Rattle.aero_leads.specs.Standing.{state_of}
use Rattle.aero_judge.specs.Recorded.{AreMarks, SaysSame}
use Rattle.aero_judge.specs.Swept.{items_at, set_places}
use Rattle.aero_judge.proofs.Sweeping.{marked_items}
use Rattle.aero_judge.proofs.recorder.sweep.Goals as goal

pub returns : goal.returns
returns c =
    let old = c.args.recorder.now in
    let rows = (state_of old.leads).rows in
    let marks = c.in_ok-marks.marks.items in
    let led : c.in_ok-led.led.items ≡ set_places marks = c.in_ok-led.ensures ∙ ap set_places c.deref-3.ensures.value in
    let said = c.in_ok-keep_at-3.ensures ∙ ap (items_at old.said.items) (c.deref-6.ensures.value ∙ led) ∙ marked_items marks old.said.items in (
      marks,
      subst (λ es. AreMarks rows es old.places.items marks) c.deref.ensures.value
          (subst (λ ps. AreMarks rows c.deref.result.now ps marks) c.deref-2.ensures.value c.in_ok-marks.ensures),
      record {
        firsts = refl;
        events = c.in_ok-keep_at.ensures ∙ ap (items_at old.events.items) (c.deref-4.ensures.value ∙ led) ∙ marked_items marks old.events.items;
        lines = c.in_ok-keep_at-2.ensures ∙ ap (items_at old.lines.items) (c.deref-5.ensures.value ∙ led) ∙ marked_items marks old.lines.items;
        said = subst (λ codes. AllZip (SaysSame old.labels.names c.relabel.new.labels.names) codes c.relabel.new.said.items) said c.in_ok-relabel.ensures;
        places = c.in_ok-keep_at-4.ensures ∙ ap (items_at old.places.items) (c.deref-7.ensures.value ∙ led) ∙ marked_items marks old.places.items;
        count = refl;
      },
    )
