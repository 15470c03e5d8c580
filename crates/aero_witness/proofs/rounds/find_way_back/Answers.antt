use Rattle.std.proofs.Common.{◌+◌, get_or, sym, ◌∙◌, subst, arith}
use Rattle.std.proofs.lemmas.Option.{slice_get-get_or, slice_get_within}
use Rattle.aero_model.specs.declared.numbered.Numbered.{Numbered}
use Rattle.aero_model.specs.declared.numbered.What.TheVariants.{Read}
use Rattle.aero_witness.specs.declared.marks.Marks.{Marks}
use Rattle.aero_witness.specs.Marks.{mark_of, AreNoted}
use Rattle.aero_witness.specs.Reached.{is_noted}
use Rattle.aero_witness.proofs.Returning.{none_returns, one_returns}
use Rattle.aero_witness.proofs.Noted.{noted_next, noted_same}
use Rattle.aero_witness.proofs.rounds.find_way_back.Goals as goal
use Rattle.aero_witness.proofs.rounds.find_way_back.Goals.{then-is_noted+in_ok-note, else-is_noted}

abbrev any : Numbered
any = record { thread = 0; what = Read 0 }

pub returns-in-Some : goal.returns-in-Some
returns-in-Some c =
    let trace = c.args.events.now in
    let place = c.loop-enters.enters in
    one_returns trace c.args.basis.now.transactions.firsts.items c.args.basis.now.first (is_noted c.args.reached.now c.args.level) place (get_or trace place any) (slice_get-get_or trace place any c.loop-enters-test.true) (mark_of c.loop-enters.marks) c.loop-enters.invariant c.is_origin.result c.in-Some.from c.is_origin.ensures c.in-Some.ensures

pub loop-enters-preserved : goal.loop-enters-preserved
loop-enters-preserved c =
    let trace = c.args.events.now in
    let place = c.loop-enters.enters in
    let noted = is_noted c.args.reached.now c.args.level in
    let marks = mark_of c.loop-enters.marks in
    let all = c.loop-enters.invariant in
    let e = get_or trace place any in
    let at = slice_get-get_or trace place any c.loop-enters-test.true in
    let is = c.is_noted.ensures in
    let noted_are : AreNoted trace noted (place + 1) (mark_of c.if-is_noted.marks) = elim c.if-is_noted.branch [
      | then-is_noted+in_ok-note w ↦ subst (λ (m : Marks). AreNoted trace noted (place + 1) (mark_of m)) (sym {A = Marks} w.marks-is) (noted_next trace noted place e at (sym is ∙ w.if-is_noted.true) marks (mark_of w.note.new.self) all.noted_are w.in_ok-note.ensures)
      | else-is_noted w ↦ subst (λ (m : Marks). AreNoted trace noted (place + 1) (mark_of m)) (sym {A = Marks} w.marks-is) (noted_same trace noted place (sym is ∙ w.if-is_noted.false) marks all.noted_are)
    ] in
    record {
      noted_are = noted_are;
      no_way_back = none_returns trace c.args.basis.now.transactions.firsts.items c.args.basis.now.first noted place e at marks all c.is_origin.result c.is_origin.ensures c.in_default.ensures;
    }

pub unreachable-requires : goal.unreachable-requires
unreachable-requires c =
    let ge = c.loop-enters-test.false in
    c.requires.some (λ j at has. (let h = has.2 in let l = slice_get_within c.args.events.now j h.second h.second_at in c.loop-enters.invariant.no_way_back j (omega arith) at has))
