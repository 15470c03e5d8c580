use Rattle.std.proofs.Common.{ℕ, Option, get_or, subst}
use Rattle.std.specs.Prelude.{slice_get}
use Rattle.std.proofs.lemmas.Option.{slice_get-get_or}
use Rattle.aero_clock.specs.Numbers.{number_at}
use Rattle.aero_access.specs.declared.index.Led.{Led}
use Rattle.aero_access.specs.Led.{GainsLabel}
use Rattle.aero_access.proofs.Visits.{visits_next, visits_all, gains_label_none}
use Rattle.aero_access.proofs.index.gain_label.Goals as goal

pub loop-i-preserved : goal.loop-i-preserved
loop-i-preserved c =
    let p = get_or c.pairs-pairs.result.now c.loop-i.i (0, 0) in
    record {
      visits = visits_next (λ (p : ℕ × ℕ) (old new : Option Led). GainsLabel old new c.args.place (number_at c.args.was.now p.0) p.1) c.pairs-pairs.result.now c.args.clock.now c.pairs-pairs.ensures c.args.leds.now
          c.loop-i.leds c.gain_label_at.new.leds c.loop-i.i p c.loop-i.invariant.visits
          (slice_get-get_or c.pairs-pairs.result.now c.loop-i.i (0, 0) c.loop-i-test.true)
          (subst (λ (n : ℕ). GainsLabel (slice_get c.loop-i.leds p.0) (slice_get c.gain_label_at.new.leds p.0) c.args.place n p.1) c.number_near.ensures c.in_ok-gain_label_at.ensures.here)
          c.gain_label_at.ensures.others;
    }

pub returns : goal.returns
returns c =
    visits_all (λ (p : ℕ × ℕ) (old new : Option Led). GainsLabel old new c.args.place (number_at c.args.was.now p.0) p.1) c.pairs-pairs.result.now c.args.clock.now c.pairs-pairs.ensures c.args.leds.now
    c.loop-i.leds c.loop-i.i c.loop-i-test.false c.loop-i.invariant.visits (λ v o. gains_label_none o c.args.place (number_at c.args.was.now v))
