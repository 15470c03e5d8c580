use Rattle.std.proofs.Common.{subst, refl}
use Rattle.std.specs.Prelude.{slice_get}
use Rattle.aero_clock.specs.Numbers.{number_at}
use Rattle.aero_access.specs.Led.{GainsLabel}
use Rattle.aero_access.proofs.Outcomes.{OnOk_map}
use Rattle.aero_access.proofs.Visits.{moves_up, moves_anew}
use Rattle.aero_access.proofs.index.move_label.Goals as goal

pub returns-then-at_most : goal.returns-then-at_most
returns-then-at_most c =
    OnOk_map c.gain_label.result
    (λ gains v. moves_up (slice_get c.args.leds.now v) (slice_get c.gain_label.new.leds v) c.args.place (number_at c.args.was.now v) (number_at c.args.clock.now v) ((c.if-at_most.ensures.0 refl).at v) (gains v))
    c.gain_label.ensures

pub returns : goal.returns
returns c =
    OnOk_map c.gain_label-2.result
    (λ gains v.
    moves_anew (slice_get c.args.leds.now v) (slice_get c.drop_label.new.leds v) (slice_get c.gain_label-2.new.leds v) c.args.place (number_at c.args.was.now v) (number_at c.args.clock.now v) (c.drop_label.ensures v)
    (subst (λ n. GainsLabel (slice_get c.drop_label.new.leds v) (slice_get c.gain_label-2.new.leds v) c.args.place n (number_at c.args.clock.now v)) (c.requires.at v) (gains v)))
    c.gain_label-2.ensures
