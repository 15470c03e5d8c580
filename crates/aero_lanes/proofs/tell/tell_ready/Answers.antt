use Rattle.std.proofs.Common.{slice_get, refl, sym, subst}
use Rattle.aero_intake.specs.PlanTerms.{terms_of}
use Rattle.aero_lanes.proofs.Tellings.{telling, numbers_told}
use Rattle.aero_lanes.specs.Tellings.{TellsNextSeat}
use Rattle.aero_lanes.proofs.tell.tell_ready.Goals as goal
use Rattle.aero_model.specs.CallCounts.{seen_by}
use Rattle.aero_report.specs.declared.form.Form.{Form}

pub returns : goal.returns
returns g c =
    let seats = c.args.lanes.now.seats in
    let mid = seen_by g.W.Write.contents c.args.writer.now in
    let after = seen_by g.W.Write.contents c.tell_next_seat.new.writer in
    let a = c.args.told.now in
    let b = c.tell_next_seat.new.told in
    let r = c.tell_next_seat.result in
    let form = c.args.shared.plan.now.form in
    let tells = subst (λ (f : Form). TellsNextSeat f (slice_get seats.items a.endings.len) mid after a b r) c.style_of.ensures
    (subst (λ xs. TellsNextSeat c.style_of.result.form (slice_get xs a.endings.len) mid after a b r) c.deref.ensures.value c.tell_next_seat.ensures) in
    let t = telling g.R.Followed.sight (terms_of c.args.shared.plan.now) form seats.items mid after a b r tells in
    record {
      numbers = numbers_told _ form seats.len mid after a b c.requires seats.items (sym seats.ok.0) (slice_get seats.items a.endings.len) r refl tells;
      stands = t.stands;
      unchanged = t.unchanged;
      stopped = t.stopped;
    }
