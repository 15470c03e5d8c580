use Rattle.std.proofs.Common.{◌≡◌, ◌∙◌, map, sym, ap, arith}
use Rattle.aero_stage.specs.Ends.{Posting}
use Rattle.aero_worker.specs.Crews.{Crewing}
use Rattle.aero_worker.specs.Shifts.{number_of}
use Rattle.aero_worker.proofs.Hands.{posted_stays, report_each, report_left, report_by_worker}
use Rattle.aero_worker.proofs.crew.Crew.close.Goals as goal

pub returns-clause-each : goal.returns-clause-each
returns-clause-each g c =
    let old = c.self.inside.poster in let new = c.take_all_back-2.new.poster in
    let posted : c.args.self.posted ≡ map number_of new.desk.posted =
    sym (ap (λ (x : Crewing). x.posted) c.self.view_is)
    ∙ posted_stays old c.take_all_back.new.poster c.stop_all.new.poster c.join_all.new.poster new c.take_all_back.ensures.rest c.stop_all.ensures
    c.join_all.ensures.rest c.take_all_back-2.ensures.rest in
    let takers : new.desk.takers ≡ 0 =
    omega (
      arith,
      ap (λ (p : Posting). p.desk.takers) c.take_all_back-2.ensures.rest,
      c.join_all.ensures.takers,
      ap (λ (p : Posting). p.desk.takers) c.stop_all.ensures,
      ap (λ (p : Posting). p.desk.takers) c.take_all_back.ensures.rest,
      c.self.invariant.takers,
    ) in
    let kept = ap (λ (p : Posting). p.desk.kept) c.take_all_back-2.ensures.rest in
    rw posted (report_each new c.join_all.new.by_worker.items c.take_all_back-2.new.left.items c.take_all_back-2.ensures.settled takers
    (rw kept c.join_all.ensures.tells) c.take_all_back-2.ensures.same)

pub returns-clause-left : goal.returns-clause-left
returns-clause-left g c =
    let old = c.self.inside.poster in let new = c.take_all_back-2.new.poster in
    let posted : c.args.self.posted ≡ map number_of new.desk.posted =
    sym (ap (λ (x : Crewing). x.posted) c.self.view_is)
    ∙ posted_stays old c.take_all_back.new.poster c.stop_all.new.poster c.join_all.new.poster new c.take_all_back.ensures.rest c.stop_all.ensures
    c.join_all.ensures.rest c.take_all_back-2.ensures.rest in
    rw posted (report_left new c.take_all_back-2.new.left.items c.take_all_back-2.ensures.settled c.take_all_back-2.ensures.same)

pub returns-clause-by_worker : goal.returns-clause-by_worker
returns-clause-by_worker g c =
    let old = c.self.inside.poster in let new = c.take_all_back-2.new.poster in
    let posted : c.args.self.posted ≡ map number_of new.desk.posted =
    sym (ap (λ (x : Crewing). x.posted) c.self.view_is)
    ∙ posted_stays old c.take_all_back.new.poster c.stop_all.new.poster c.join_all.new.poster new c.take_all_back.ensures.rest c.stop_all.ensures
    c.join_all.ensures.rest c.take_all_back-2.ensures.rest in
    let kept = ap (λ (p : Posting). p.desk.kept) c.take_all_back-2.ensures.rest in
    rw posted (report_by_worker new c.join_all.new.by_worker.items c.take_all_back-2.ensures.settled (rw kept c.join_all.ensures.tells))
