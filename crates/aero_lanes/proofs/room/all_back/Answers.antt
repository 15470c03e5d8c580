use Rattle.std.proofs.Common.{rules, ◌≡◌, List, [], ◌∷◌, length, refl, sym, subst, arith}
use Rattle.std.specs.Vec.Iter.{into_iter_items}
use Rattle.aero_lanes.specs.Seats.{BackSoFar}
use Rattle.aero_intake.specs.declared.source.SourceOf.{SourceOf}
use Rattle.aero_lanes.specs.declared.seat.Seat.{Seat}
use Rattle.aero_lanes.proofs.Backs.{nothing_back, one_back, none_back, all_are_back}
use Rattle.aero_lanes.proofs.room.all_back.Goals as goal

pub loop-seat-init : goal.loop-seat-init
loop-seat-init g c = (
  search rules,
  λ terms origin seated.
      let is : c.args.seats.items ≡ into_iter_items c.into_iter-seat-iterator.result = search rules in
      subst (λ (rest : List (Seat g.row.R.Denot)). BackSoFar g.R.Followed.sight origin c.args.seats.items c.args.back.items rest) is
      (subst (λ (back : List (SourceOf g.row.R.Denot)). BackSoFar g.R.Followed.sight origin c.args.seats.items back c.args.seats.items) (sym c.requires.none) (nothing_back g.R.Followed.sight origin c.args.seats.items)),
)

pub loop-seat-preserved-in-Some-source_of : goal.loop-seat-preserved-in-Some-source_of
loop-seat-preserved-in-Some-source_of g c =
    let was = c.loop-seat.invariant in
    let step = c.in-Some.ensures.steps in (
      search rules,
      λ terms origin seated.
          let so_far = subst (λ (rest : List (Seat g.row.R.Denot)). BackSoFar g.R.Followed.sight origin c.args.seats.items c.loop-seat.back.items rest) step.0 (was.1 terms origin seated) in
          subst (λ (back : List (SourceOf g.row.R.Denot)). BackSoFar g.R.Followed.sight origin c.args.seats.items back (into_iter_items c.next.new.self)) (sym c.push_reserved.ensures.items)
          (one_back g.R.Followed.sight terms origin c.args.seats.items c.loop-seat.back.items c.in-Some.seat (into_iter_items c.next.new.self) c.source_of.result seated
          (c.source_of.ensures terms) so_far c.in-Some-source_of.source c.in-Some-source_of.is),
    )

pub loop-seat-preserved : goal.loop-seat-preserved
loop-seat-preserved g c =
    let was = c.loop-seat.invariant in
    let step = c.in-Some.ensures.steps in (
      search rules,
      λ terms origin seated.
          let so_far = subst (λ (rest : List (Seat g.row.R.Denot)). BackSoFar g.R.Followed.sight origin c.args.seats.items c.loop-seat.back.items rest) step.0 (was.1 terms origin seated) in
          absurd (none_back g.R.Followed.sight terms origin c.args.seats.items c.loop-seat.back.items c.in-Some.seat (into_iter_items c.next.new.self) c.source_of.result seated
          (c.source_of.ensures terms) so_far (search rules)),
    )

none_left : {A : Type 0} (xs : List A) → length xs ≡ 0 → xs ≡ []
none_left [] e = refl
none_left (x ∷ xs) e = absurd (omega (arith, e))

pub returns : goal.returns
returns g c = λ terms origin seated.
    let none : length (into_iter_items c.loop-seat.seat-iterator) ≡ 0 = search rules in
    all_are_back g.R.Followed.sight terms origin c.args.seats.items c.loop-seat.back.items seated
    (subst (λ (rest : List (Seat g.row.R.Denot)). BackSoFar g.R.Followed.sight origin c.args.seats.items c.loop-seat.back.items rest) (none_left (into_iter_items c.loop-seat.seat-iterator) none)
    (c.loop-seat.invariant.1 terms origin seated))
