use Rattle.std.proofs.Common.{sym}
use Rattle.aero_leads.proofs.Lowering.{low_begun}
use Rattle.aero_leads.proofs.Passing.{passed_begun}
use Rattle.aero_leads.proofs.Rising.{high_begun}
use Rattle.aero_leads.proofs.Seeing.{known_begun}
use Rattle.aero_leads.proofs.table.begin.Goals as goal

pub invariant_of-table-2-clause-known : goal.invariant_of-table-2-clause-known
invariant_of-table-2-clause-known c =
    known_begun c.args.table.now.threads.items c.begin.new.threads.items c.args.table.now.beside.seen c.see_own.new.seen c.args.t c.args.place c.in-Ok.ensures.begins
    c.see_own.ensures.so c.see_own.ensures.kept c.see_own.ensures.whole c.see_own.ensures.own c.args.table.now.known

pub invariant_of-table-2-clause-low : goal.invariant_of-table-2-clause-low
invariant_of-table-2-clause-low c =
    low_begun c.args.table.now.threads.items c.begin.new.threads.items c.args.table.now.beside.lows c.lower.new.lows c.args.t c.args.place c.in-Ok.ensures.begins c.lower.ensures.less c.lower.ensures.place c.args.table.now.low

pub invariant_of-table-2-clause-high : goal.invariant_of-table-2-clause-high
invariant_of-table-2-clause-high c =
    high_begun c.args.table.now.threads.items c.begin.new.threads.items c.args.table.now.beside.highs c.raise_high.new.highs c.args.t c.args.place c.in-Ok.ensures.begins
    c.raise_high.ensures.more c.raise_high.ensures.place c.args.table.now.high

pub invariant_of-table-2-clause-passing : goal.invariant_of-table-2-clause-passing
invariant_of-table-2-clause-passing c =
    passed_begun c.args.table.now.threads.items c.begin.new.threads.items c.args.table.now.led c.args.table.now.beside.passed c.note_begin.new.passed c.args.t c.args.place c.in-Ok.ensures.begins
    (λ v ne some. c.args.table.now.listed v c.args.t (λ e. ne (sym e)) some)
    c.note_begin.ensures.others c.note_begin.ensures.own c.note_begin.ensures.early c.note_begin.ensures.latest c.args.table.now.passing

pub invariant_of-table-2-clause-single : goal.invariant_of-table-2-clause-single
invariant_of-table-2-clause-single c = c.begin.ensures.single c.args.table.now.single
