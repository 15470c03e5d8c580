use Rattle.std.proofs.Common.{◌≡◌, ◌∙◌, sym, ap, length, vec_len, eqb-true}
use Rattle.aero_stage.specs.Ends.{Posting}
use Rattle.aero_worker.proofs.Hands.{tells_push, tells_skip, no_jobs}
use Rattle.aero_worker.specs.Shifts.{lists_of}
use Rattle.aero_worker.proofs.seed.hire.Goals as goal

pub returns-then-not-is_empty-clause-tells : goal.returns-then-not-is_empty-clause-tells
returns-then-not-is_empty-clause-tells g c =
    rw (c.push_reserved-then-not-is_empty.ensures.items, ap (λ (p : Posting). p.desk.kept) c.rejoin.ensures)
    (tells_push c.args.staff.now.by_worker.items c.shift-taker.result.numbers c.args.staff.now.poster.desk.kept c.shift-taker.result.taker.hand c.requires.tells
    c.shift-taker.ensures.1)

pub returns-clause-tells : goal.returns-clause-tells
returns-clause-tells g c =
    let none : vec_len c.shift-taker.result.numbers ≡ 0 = eqb-true _ _ (sym c.is_empty.ensures ∙ c.if-not-is_empty.false) in
    let empty = no_jobs c.shift-taker.result.taker.hand.jobs (sym (ap length c.shift-taker.ensures.1) ∙ sym c.shift-taker.result.numbers.ok.0 ∙ none) in
    rw (ap (λ (p : Posting). p.desk.kept) c.rejoin.ensures)
    (tells_skip (lists_of c.args.staff.now.by_worker.items) c.args.staff.now.poster.desk.kept c.shift-taker.result.taker.hand empty c.requires.tells)
