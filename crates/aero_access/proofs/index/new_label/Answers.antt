use Rattle.std.proofs.Common.{subst, arith}
use Rattle.std.specs.Prelude.{slice_get}
use Rattle.aero_clock.specs.Numbers.{number_at}
use Rattle.aero_access.specs.Led.{GainsLabel}
use Rattle.aero_access.proofs.Outcomes.{OnOk_map}
use Rattle.aero_access.proofs.Visits.{moves_up}
use Rattle.aero_access.proofs.index.new_label.Goals as goal

pub returns : goal.returns
returns c =
    OnOk_map c.gain_label.result
    (λ gains v.
    moves_up (slice_get c.args.leds.now v) (slice_get c.gain_label.new.leds v) c.args.place 0 (number_at c.args.clock.now v) (omega arith)
    (subst (λ n. GainsLabel (slice_get c.args.leds.now v) (slice_get c.gain_label.new.leds v) c.args.place n (number_at c.args.clock.now v)) (c.requires.at v) (gains v)))
    c.gain_label.ensures
