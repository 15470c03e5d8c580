use Rattle.std.proofs.Common.{Option, sym, subst}
use Rattle.aero_telling.specs.declared.cause.Cause.{Cause}
use Rattle.aero_telling.specs.Founds.{WasTold, sighted}
use Rattle.std.proofs.Common.{map}
use Rattle.aero_intake.specs.PlanTerms.{terms_of}
use Rattle.aero_lanes.proofs.Backs.{was_told, were_labels}
use Rattle.aero_lanes.proofs.Tellings.{begun_so}
use Rattle.aero_lanes.proofs.run.judge_in.Goals as goal
use Rattle.aero_model.specs.CallCounts.{seen_by}

pub returns : goal.returns
returns g c = record {
  told = λ origin seated.
      let known = g.R.Followed.sight in
      let terms = terms_of c.args.shared.plan.now in
      let form = c.args.shared.plan.now.form in
      let before = seen_by g.W.Write.contents c.args.writer.now in
      let after = seen_by g.W.Write.contents c.tell_all-end.new.writer in
      let told = c.tell_all-end.new.told in
      let all = c.tell_all-end.new.lanes.seats.items in
      let back = c.all_back-sources.result.items in
      let st = begun_so known terms form origin before c.args.room.seats.items c.args.room.told seated c.args.room.seats.len c.requires.begun in
      let stop = c.tell_all-end.ensures.stopped origin st in
      let are_back = c.all_back-sources.ensures terms origin stop.seated in
      subst (λ (o : Option Cause). WasTold terms form (map (sighted known) origin) (map (sighted known) back) before after told.endings.items told.notables.items told.counts o)
      (sym c.cause_in-cause.ensures)
      (was_told known terms form origin all back stop.seated are_back before after told _ stop);
  labels = λ origin seated.
      let known = g.R.Followed.sight in
      let terms = terms_of c.args.shared.plan.now in
      let form = c.args.shared.plan.now.form in
      let before = seen_by g.W.Write.contents c.args.writer.now in
      let after = seen_by g.W.Write.contents c.tell_all-end.new.writer in
      let all = c.tell_all-end.new.lanes.seats.items in
      let st = begun_so known terms form origin before c.args.room.seats.items c.args.room.told seated c.args.room.seats.len c.requires.begun in
      let stop = c.tell_all-end.ensures.stopped origin st in
      were_labels known terms form origin all c.all_back-sources.result.items stop.seated (c.all_back-sources.ensures terms origin stop.seated) before after c.tell_all-end.new.told _ stop;
}
