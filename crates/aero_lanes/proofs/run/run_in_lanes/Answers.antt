use Rattle.std.proofs.Common.{List, map, sym, subst}
use Rattle.aero_telling.specs.Founds.{sighted}
use Rattle.aero_telling.proofs.Tellings.{no_labels, refused_at_once}
use Rattle.aero_intake.specs.PlanTerms.{terms_of}
use Rattle.aero_lanes.proofs.Seated.{waiting_seated}
use Rattle.aero_lanes.specs.Seats.{AreSeated}
use Rattle.aero_lanes.specs.declared.seat.Seat.{Seat}
use Rattle.aero_lanes.proofs.run.run_in_lanes.Goals as goal
use Rattle.aero_model.specs.CallCounts.{seen_by}

pub returns-in_default : goal.returns-in_default
returns-in_default g c = record {
  told = rw (c.refused.ensures.endings, c.refused.ensures.notables, c.refused.ensures.counts, c.refused.ensures.cause)
      (refused_at_once (terms_of c.args.plan.now) c.args.plan.now.form (map (sighted g.R.Followed.sight) c.args.sources.items) (seen_by g.W.Write.contents c.args.writer.now));
  labels = rw (c.refused.ensures.endings)
      (no_labels (terms_of c.args.plan.now) (map (sighted g.R.Followed.sight) c.args.sources.items) (map (sighted g.R.Followed.sight) c.args.sources.items) c.refused.result.told.begun
      c.refused.ensures.begun);
}

pub returns : goal.returns
returns g c =
    let known = g.R.Followed.sight in
    let terms = terms_of c.args.plan.now in
    let sources = c.args.sources.items in
    let seated = subst (λ (xs : List (Seat g.row.R.Denot)). AreSeated known terms sources xs) (sym c.seat_all.ensures) (waiting_seated known terms sources) in
    record { told = c.judge_all.ensures.told sources seated; labels = c.judge_all.ensures.labels sources seated }
