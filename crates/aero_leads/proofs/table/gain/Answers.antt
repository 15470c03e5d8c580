use Rattle.std.proofs.Common.{ap, sym, ◌∙◌, arith}
use Rattle.aero_leads.specs.Passed.{is_early}
use Rattle.aero_leads.proofs.Lowering.{low_taken}
use Rattle.aero_leads.proofs.Passing.{passed_taken}
use Rattle.aero_leads.proofs.Rising.{high_taken}
use Rattle.aero_leads.proofs.table.gain.Goals as goal

pub invariant_of-table-2-clause-low : goal.invariant_of-table-2-clause-low
invariant_of-table-2-clause-low c =
    low_taken c.args.table.now.threads.items c.gain_row.new.threads.items c.args.table.now.beside.lows c.lower.new.lows c.args.t c.args.o c.args.below c.args.place c.in-Ok.ensures.gains
    c.lower.ensures.less c.lower.ensures.place c.args.table.now.low

pub invariant_of-table-2-clause-high : goal.invariant_of-table-2-clause-high
invariant_of-table-2-clause-high c =
    high_taken c.args.table.now.threads.items c.gain_row.new.threads.items c.args.table.now.beside.highs c.raise_high.new.highs c.args.t c.args.o c.args.below c.args.place c.in-Ok.ensures.gains
    c.raise_high.ensures.more c.raise_high.ensures.place c.args.table.now.high

pub invariant_of-table-2-clause-passing : goal.invariant_of-table-2-clause-passing
invariant_of-table-2-clause-passing c =
    passed_taken c.args.table.now.threads.items c.gain_row.new.threads.items c.gain_row.new.led c.args.table.now.beside.passed c.note_gain.new.passed c.args.t c.args.o c.args.below c.args.place c.in-Ok.ensures.gains
    (λ v ne some. c.gain_row.ensures.grows c.args.t v (c.args.table.now.listed v c.args.t (λ e. ne (sym e)) some))
    (λ u. omega (arith, c.note_gain.ensures.less u, c.lower_place.ensures.less u))
    (omega (arith, c.note_gain.ensures.less c.args.o, c.lower_place.ensures.place))
    c.note_gain.ensures.own
    (λ u p some early. c.note_gain.ensures.later u p some (ap (λ l. is_early l p) c.lower_place.ensures.latest ∙ early))
    (λ p early. c.note_gain.ensures.early p (ap (λ l. is_early l p) c.lower_place.ensures.latest ∙ early))
    c.note_gain.ensures.latest c.args.table.now.passing
