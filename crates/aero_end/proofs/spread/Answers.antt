use Rattle.std.proofs.Common.{◌≡◌, ◌<◌, length, arith, Some, sym, ap, ◌∙◌}
use Rattle.std.specs.Prelude.{slice_get}
use Rattle.aero_access.specs.Standing.{led_of}
use Rattle.aero_access.proofs.Leading.{listed_unspent}
use Rattle.aero_end.proofs.Spreading.{passed_over, leads_now, first_found, taken, spread_to_all}
use Rattle.aero_end.proofs.spread.Goals as goal

pub loop-i-preserved-then-slot-t : goal.loop-i-preserved-then-slot-t
loop-i-preserved-then-slot-t c =
    let ns = led_of c.args.clocks.now c.args.t in
    let at : slice_get ns c.loop-i.i ≡ Some c.led_slot-slot.result = ap (λ xs. slice_get xs c.loop-i.i) (sym c.loop-i.invariant.spreads.led) ∙ c.led_slot-slot.ensures in
    record {
      spreads = passed_over c.args.clocks.now c.loop-i.clocks c.args.t c.loop-i.i c.led_slot-slot.result (led_of c.args.clocks.now c.args.t) c.requires.inside c.loop-i.invariant.spreads at c.if-slot-t.true;
      tests = c.loop-i.invariant.tests;
      inside = c.loop-i.invariant.inside;
      closed = c.loop-i.invariant.closed;
      threads = c.loop-i.invariant.threads;
    }

pub returns-then-is_some-clause-named : goal.returns-then-is_some-clause-named
returns-then-is_some-clause-named c = λ u is.
    let ns = led_of c.args.clocks.now c.args.t in
    let listed : c.loop-i.i < length ns = omega (arith, c.loop-i-test.true, c.led-listed.ensures.count) in
    let led = c.led-listed.ensures.led (listed_unspent c.args.clocks.now c.args.t c.loop-i.i listed) in
    let at : slice_get ns c.loop-i.i ≡ Some c.led_slot-slot.result = ap (λ xs. slice_get xs c.loop-i.i) (sym c.loop-i.invariant.spreads.led) ∙ c.led_slot-slot.ensures in
    first_found c.args.clocks.now c.loop-i.clocks c.args.t c.loop-i.i c.led_slot-slot.result (led_of c.args.clocks.now c.args.t) c.requires.inside c.loop-i.invariant.spreads at c.loop-i.invariant.tests c.if-slot-t.false led
    c.absorb.new.self c.in_ok-closing.closing u is c.in_ok-closing.ensures.told c.in_ok-closing.ensures.answers

pub loop-i-preserved : goal.loop-i-preserved
loop-i-preserved c =
    let ns = led_of c.args.clocks.now c.args.t in
    let listed : c.loop-i.i < length ns = omega (arith, c.loop-i-test.true, c.led-listed.ensures.count) in
    let led = c.led-listed.ensures.led (listed_unspent c.args.clocks.now c.args.t c.loop-i.i listed) in
    let at : slice_get ns c.loop-i.i ≡ Some c.led_slot-slot.result = ap (λ xs. slice_get xs c.loop-i.i) (sym c.loop-i.invariant.spreads.led) ∙ c.led_slot-slot.ensures in
    let same = c.in_ok-closing.ensures.tests in
    let spreads =
    taken c.args.clocks.now c.loop-i.clocks c.args.t c.loop-i.i c.led_slot-slot.result (led_of c.args.clocks.now c.args.t) c.requires.inside c.loop-i.invariant.spreads at c.loop-i.invariant.tests c.if-slot-t.false led
    c.absorb.new.self c.in_ok-closing.closing c.if-is_some.ensures c.in_ok-closing.ensures.told c.in_ok-closing.ensures.answers c.in_ok-closing.ensures.absorbed (c.in_ok-closing.ensures.led (leads_now c.args.clocks.now c.loop-i.clocks c.args.t c.loop-i.i c.led_slot-slot.result (led_of c.args.clocks.now c.args.t) c.requires.inside c.loop-i.invariant.spreads at led))
    in
    record {
      spreads = spreads;
      tests = record {
        in_block = λ u. same.in_block u ∙ c.loop-i.invariant.tests.in_block u;
        begins = λ u. same.begins u ∙ c.loop-i.invariant.tests.begins u;
        acted = λ u. same.acted u ∙ c.loop-i.invariant.tests.acted u;
      };
      inside = same.in_block c.args.t ∙ c.loop-i.invariant.inside;
      closed = spreads.closed;
      threads = c.absorb.ensures.threads ∙ c.loop-i.invariant.threads;
    }

pub returns-clause-spreads : goal.returns-clause-spreads
returns-clause-spreads c = λ _.
    spread_to_all c.args.clocks.now c.loop-i.clocks c.args.t c.loop-i.i (led_of c.args.clocks.now c.args.t) c.led-listed.ensures.led c.loop-i.invariant.spreads (omega (arith, c.loop-i-test.false, c.led-listed.ensures.count))
