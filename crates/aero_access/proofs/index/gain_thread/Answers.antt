use Rattle.std.proofs.Common.{ℕ, Option, get_or}
use Rattle.std.proofs.lemmas.Option.{slice_get-get_or}
use Rattle.aero_access.specs.declared.index.Led.{Led}
use Rattle.aero_access.specs.Led.{GainsThread}
use Rattle.aero_access.proofs.Visits.{visits_next, visits_all, gains_thread_none}
use Rattle.aero_access.proofs.index.gain_thread.Goals as goal

pub loop-i-preserved : goal.loop-i-preserved
loop-i-preserved c = record {
  visits = visits_next (λ (p : ℕ × ℕ) (old new : Option Led). GainsThread old new c.args.s p.1) c.pairs-pairs.result.now c.args.clock.now c.pairs-pairs.ensures c.args.leds.now
      c.loop-i.leds c.gain_thread_at.new.leds c.loop-i.i (get_or c.pairs-pairs.result.now c.loop-i.i (0, 0)) c.loop-i.invariant.visits
      (slice_get-get_or c.pairs-pairs.result.now c.loop-i.i (0, 0) c.loop-i-test.true) c.in_ok-gain_thread_at.ensures.here c.gain_thread_at.ensures.others;
}

pub returns : goal.returns
returns c =
    visits_all (λ (p : ℕ × ℕ) (old new : Option Led). GainsThread old new c.args.s p.1) c.pairs-pairs.result.now c.args.clock.now c.pairs-pairs.ensures c.args.leds.now
    c.loop-i.leds c.loop-i.i c.loop-i-test.false c.loop-i.invariant.visits (λ v o. gains_thread_none o c.args.s)
