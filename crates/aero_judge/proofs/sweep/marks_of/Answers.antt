use Rattle.std.proofs.Common.{◌+◌, take, get_or, sym, subst}
use Rattle.std.proofs.lemmas.Option.{slice_get-get_or}
use Rattle.aero_model.specs.declared.numbered.Numbered.{Numbered}
use Rattle.aero_model.specs.declared.numbered.What.TheVariants.{Read}
use Rattle.aero_leads.specs.Standing.{state_of}
use Rattle.aero_judge.specs.Recorded.{AreMarks}
use Rattle.aero_judge.proofs.Sweeping.{marks_next}
use Rattle.aero_judge.proofs.sweep.marks_of.Goals as goal

pub loop-i-preserved : goal.loop-i-preserved
loop-i-preserved c =
    let rows = (state_of c.args.leads.now).rows in
    let events = c.args.events.now in
    let i = c.loop-i.i in
    let none : Numbered = record { thread = 0; what = Read 0 } in
    record {
      leasts = c.in_ok-mark.ensures.leasts;
      marks = subst (AreMarks rows (take (i + 1) events) c.args.places.now) (sym c.in_ok-push.ensures.items)
          (marks_next rows events c.args.places.now c.loop-i.marks.items i (get_or events i none) c.in_ok-mark.mark c.item_at-place.result
          (slice_get-get_or events i none c.loop-i-test.true) c.item_at-place.ensures c.in_ok-mark.ensures.mark c.loop-i.invariant.marks);
    }
