use Rattle.std.proofs.Common.{◌≡◌, ◌<◌, ℕ, List, [], length, sym, ◌∙◌, ap}
use Rattle.std.proofs.lemmas.Bool.{eqb-true, eqb-false}
use Rattle.std.proofs.lemmas.List.{nil_from_length}
use Rattle.std.proofs.lemmas.Option.{MatchOption-at_some, MatchOption-at_none}
use Rattle.aero_witness.specs.declared.buckets.Arrival.{Arrival}
use Rattle.aero_witness.specs.Reached.{is_noted, HasNoWayBack, IsWayBack}
use Rattle.aero_witness.proofs.Advancing.{no_end, further, way_back_end}
use Rattle.aero_witness.proofs.rounds.next_round.Goals as goal

pub returns-in-Some : goal.returns-in-Some
returns-in-Some c =
    let trace = c.args.events.now in
    let basis = c.args.basis.now in
    let search = c.args.search.now in
    let firsts = basis.transactions.firsts.items in
    let noted = is_noted search.walks.reached.items search.level in
    let h = MatchOption-at_some (0 < search.level → HasNoWayBack trace firsts basis.first noted) (λ (arrival : Arrival). (0 < search.level) × IsWayBack trace firsts basis.first noted arrival) c.in-Some.arrival c.in-Some.is c.in_ok-arrival.ensures in
    way_back_end trace basis c.requires.basis search c.requires.at c.in-Some.arrival h.0 h.1

pub unreachable-requires : goal.unreachable-requires
unreachable-requires c =
    let trace = c.args.events.now in
    let basis = c.args.basis.now in
    let search = c.args.search.now in
    let firsts = basis.transactions.firsts.items in
    let noted = is_noted search.walks.reached.items search.level in
    let h = MatchOption-at_none (0 < search.level → HasNoWayBack trace firsts basis.first noted) (λ (arrival : Arrival). (0 < search.level) × IsWayBack trace firsts basis.first noted arrival) c.in_default.is c.in_ok-arrival.ensures in
    let front = c.advance.new.search.walks.front.items in
    let empty : front ≡ [] = nil_from_length front (sym (ap (λ (xs : List ℕ). length xs) c.deref-front.ensures.value) ∙ eqb-true (length c.deref-front.result.now) 0 (sym c.if-is_empty.ensures)) in
    no_end trace basis c.requires.basis search c.requires.at h c.advance.new.search c.in_ok-advance.ensures empty c.requires.begins

pub returns : goal.returns
returns c =
    let trace = c.args.events.now in
    let basis = c.args.basis.now in
    let search = c.args.search.now in
    let firsts = basis.transactions.firsts.items in
    let noted = is_noted search.walks.reached.items search.level in
    let h = MatchOption-at_none (0 < search.level → HasNoWayBack trace firsts basis.first noted) (λ (arrival : Arrival). (0 < search.level) × IsWayBack trace firsts basis.first noted arrival) c.in_default.is c.in_ok-arrival.ensures in
    further trace basis c.requires.basis search c.requires.at h c.advance.new.search c.in_ok-advance.ensures
    (λ empty. eqb-false (length c.deref-front.result.now) 0 (sym c.if-is_empty.ensures) (ap (λ (xs : List ℕ). length xs) (c.deref-front.ensures.value ∙ empty)))
