use Rattle.std.proofs.Common.{◌<◌, ℕ, List, length, refl, subst, arith}
use Rattle.std.proofs.lemmas.Option.{slice_get_within}
use Rattle.aero_model.specs.Blocks.{transaction}
use Rattle.aero_witness.specs.declared.reached.Reached.{Reached}
use Rattle.std.specs.Prelude.{Option}
use Rattle.aero_witness.specs.Levels.{AreLevels}
use Rattle.aero_witness.specs.Reached.{AreStarts, IsFront}
use Rattle.aero_witness.specs.Search.{unreached}
use Rattle.aero_witness.proofs.Starting.{start_levels, start_most, start_closed, one_reached}
use Rattle.aero_witness.proofs.rounds.begin.Goals as goal

pub returns : goal.returns
returns c =
    let trace = c.args.events.now in
    let basis = c.args.basis.now in
    let firsts = basis.transactions.firsts.items in
    let firsts_are = c.requires.basis.of.firsts in
    let first = basis.first in
    let reached = c.in_ok-reached.reached.items in
    let starts = subst (λ (xs : List ℕ). AreStarts xs first (length xs) reached) c.deref.ensures.value c.in_ok-reached.ensures in
    let levels : AreLevels trace (transaction trace basis.begin) reached 0 = start_levels trace firsts firsts_are basis.begin first c.requires.basis.first reached starts in
    let each_first = firsts_are.each in
    let begin_within = slice_get_within firsts basis.begin first c.requires.basis.first in
    let begin = levels.start basis.begin (omega arith) refl in
    let each = levels.each in
    let one : unreached reached < length reached = one_reached reached basis.begin begin.0 begin.1 in
    record {
      levels = levels;
      closed = start_closed trace firsts firsts_are basis.begin first c.requires.basis.first reached starts;
      most = start_most trace firsts firsts_are basis.begin first c.requires.basis.first reached starts;
      front = subst (λ (xs : List (Option Reached)). IsFront 0 xs c.in_ok-front.front.items) c.deref-2.ensures.value c.in_ok-front.ensures;
      left = record {
        buckets = c.in_ok-left.ensures.buckets;
        origins = c.in_ok-left.ensures.origins;
        taken = λ k m j le at. absurd (c.in_ok-left.ensures.full k m j le at);
      };
      room = omega arith;
    }
