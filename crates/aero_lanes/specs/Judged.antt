-- What the lanes come to.
use Rattle.std.specs.Prelude.{◌≡◌, ◌≤◌, ℕ, List, [], map, vec_len, vec_capacity}
use Rattle.aero_model.specs.CallCounts.{Seen}
use Rattle.aero_report.specs.declared.form.Form.{Form}
use Rattle.aero_telling.specs.Founds.{WasTold, sighted}
use Rattle.aero_telling.specs.Labels.{AreLabelsOf}
use Rattle.aero_intake.specs.Source.{Sight}
use Rattle.aero_intake.specs.declared.source.SourceOf.{SourceOf}
use Rattle.aero_lanes.specs.declared.room.Room.{Room}
use Rattle.aero_telling.specs.declared.told.Report.{Report}
use Rattle.aero_lanes.specs.declared.seat.Seat.{Seat}
use Rattle.aero_lanes.specs.Seats.{AreSeated}
use Rattle.aero_lanes.specs.Tellings.{IsBegunSo}
use Rattle.aero_model.specs.Terms.{Terms}

-- Nothing is told yet of the sources on these seats, nor of these labels, and there is room for them to come back.
pub record IsReady {R : Type 0} (labels : List (List ℕ)) (all : Room R) : Type 0 where
  pub begun : IsBegunSo labels (vec_len all.seats) all.told
  pub few : vec_len all.seats ≤ 65536
  pub none : all.back.items ≡ []
  pub room : vec_capacity all.back ≡ vec_len all.seats

-- Whatever the sources on these seats were, it was a run over them that wrote their lines, and these came back.
pub record HasJudged {R : Type 0} (known : R → Sight) (terms : Terms) (form : Form) (seats : List (Seat R)) (before after : Seen) (report : Report)
    (back : List (SourceOf R)) : Type 0 where
  pub told : (origin : List (SourceOf R)) → AreSeated known terms origin seats →
      WasTold terms form (map (sighted known) origin) (map (sighted known) back) before after report.told.endings.items report.told.notables.items report.told.counts report.cause
  pub labels : (origin : List (SourceOf R)) → AreSeated known terms origin seats →
      AreLabelsOf terms (map (sighted known) origin) (map (sighted known) back) report.told.endings.items report.told.begun
