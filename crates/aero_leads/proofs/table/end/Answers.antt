use Rattle.std.proofs.Common.{ap, sym, subst, ◌∙◌}
use Rattle.std.specs.Prelude.{◌==◌, if◌then◌else◌, ◌&&◌, ◌||◌, is_some, slice_get}
use Rattle.std.proofs.lemmas.Bool.{cond-false, ne_eqb}
use Rattle.aero_leads.specs.Kept.{least_in, rows_in, thread_row, absorbed}
use Rattle.aero_leads.specs.Listed.{is_listed}
use Rattle.aero_leads.specs.Passed.{passed_of, is_early}
use Rattle.aero_leads.specs.Seen.{is_seen}
use Rattle.aero_leads.specs.Single.{IsSingle}
use Rattle.aero_leads.proofs.Ends.{ends_all}
use Rattle.aero_leads.proofs.Rising.{high_ended}
use Rattle.aero_leads.proofs.Seeing.{listed_ended, known_ended}
use Rattle.aero_leads.proofs.Lowering.{low_ended}
use Rattle.aero_leads.proofs.Passing.{passed_ended, since_own, since_fewer, since_spreads}
use Rattle.aero_leads.proofs.Handing.{high_without}
use Rattle.aero_leads.proofs.Singles.{single_row, single_rows, single_taken}
use Rattle.aero_leads.proofs.table.end.Goals as goal

pub returns-clause-ends : goal.returns-clause-ends
returns-clause-ends c =
    ends_all c.args.table.now.threads.items c.take_row-row.new.threads.items c.spread.new.threads.items c.put_row.new.threads.items c.leave.new.threads.items c.args.t
    c.take_row-row.result.items c.settle-own.new.row.items _ c.args.table.now.led c.args.table.now.listed
    c.take_row-row.ensures.row c.take_row-row.ensures.rest c.settle-own.ensures.absorbs
    (λ o w. c.in-Ok.ensures.rows o w ∙ ap (λ es. if is_listed c.args.table.now.led c.args.t o then absorbed (least_in es) (rows_in c.take_row-row.new.threads.items o) c.args.t w else rows_in c.take_row-row.new.threads.items o w) c.deref.ensures.value)
    (λ o w ne. ap (λ xs. absorbed (least_in xs) (rows_in c.args.table.now.threads.items o) c.args.t w) c.in_ok-later.ensures ∙ since_spreads c.args.table.now.threads.items c.args.table.now.beside.passed c.args.t o w ne c.args.table.now.passing)
    c.spread.ensures.same c.put_row.ensures.row c.leave.ensures.rows c.leave.ensures.in_block c.leave.ensures.begins c.leave.ensures.acted

pub invariant_of-table-2 : goal.invariant_of-table-2
invariant_of-table-2 c =
    let ends =
    ends_all c.args.table.now.threads.items c.take_row-row.new.threads.items c.spread.new.threads.items c.put_row.new.threads.items c.leave.new.threads.items c.args.t
    c.take_row-row.result.items c.settle-own.new.row.items _ c.args.table.now.led c.args.table.now.listed
    c.take_row-row.ensures.row c.take_row-row.ensures.rest c.settle-own.ensures.absorbs
    (λ o w. c.in-Ok.ensures.rows o w ∙ ap (λ es. if is_listed c.args.table.now.led c.args.t o then absorbed (least_in es) (rows_in c.take_row-row.new.threads.items o) c.args.t w else rows_in c.take_row-row.new.threads.items o w) c.deref.ensures.value)
    (λ o w ne. ap (λ xs. absorbed (least_in xs) (rows_in c.args.table.now.threads.items o) c.args.t w) c.in_ok-later.ensures ∙ since_spreads c.args.table.now.threads.items c.args.table.now.beside.passed c.args.t o w ne c.args.table.now.passing)
    c.spread.ensures.same c.put_row.ensures.row c.leave.ensures.rows c.leave.ensures.in_block c.leave.ensures.begins c.leave.ensures.acted in
    record {
      listed = listed_ended c.args.table.now.threads.items c.take_row-row.new.threads.items c.spread.new.threads.items c.put_row.new.threads.items c.leave.new.threads.items c.args.t
          c.take_row-row.result.items c.settle-own.new.row.items c.args.table.now.led c.spread.new.led c.forget.new.led c.args.table.now.listed
          c.take_row-row.ensures.row c.take_row-row.ensures.rest c.settle-own.ensures.absorbs c.spread.ensures.listed c.spread.ensures.grows c.put_row.ensures.row c.leave.ensures.rows c.forget.ensures ends;
      known = known_ended c.args.table.now.threads.items c.leave.new.threads.items c.spread.new.led c.args.table.now.beside.seen c.unsee_all.new.seen c.args.t c.in_ok-later.later.items ends
          (λ o w ne some. c.spread.ensures.grows w o (c.args.table.now.listed o w ne some))
          (λ o v h. ap (λ ls. is_seen c.args.table.now.beside.seen o v || (is_seen c.args.table.now.beside.seen o c.args.t && is_some (least_in ls v))) (sym c.deref-2.ensures.value) ∙ c.unsee_all.ensures.so o v h)
          c.unsee_all.ensures.kept c.unsee_all.ensures.own c.unsee_all.ensures.listed c.unsee_all.ensures.whole
          (λ o v other there was all ne some. c.unsee_all.ensures.handed o v other there was all ne (ap (λ ls. is_some (least_in ls v)) c.deref-2.ensures.value ∙ some))
          (λ v some. since_fewer c.args.t (passed_of c.args.table.now.beside.passed c.args.t) (thread_row (slice_get c.args.table.now.threads.items c.args.t)) v (sym (ap (λ ls. is_some (least_in ls v)) c.in_ok-later.ensures) ∙ some))
          (λ o w ne. ap (λ xs. absorbed (least_in xs) (rows_in c.args.table.now.threads.items o) c.args.t w) c.in_ok-later.ensures ∙ since_spreads c.args.table.now.threads.items c.args.table.now.beside.passed c.args.t o w ne c.args.table.now.passing)
          c.args.table.now.known;
      low = low_ended c.args.table.now.threads.items c.leave.new.threads.items c.deref-3.result.now c.args.table.now.beside.lows c.raise_all.new.lows c.args.t c.deref-3.ensures.value ends c.raise_all.ensures.kept c.args.table.now.low;
      high = high_ended c.args.table.now.threads.items c.leave.new.threads.items c.args.table.now.beside.highs c.settle_high.new.highs c.args.t c.settle-own.result ends
          (c.settle-own.ensures.own ∙ ap (λ ls. least_in ls c.args.t) c.take_row-row.ensures.row) c.settle_high.ensures c.args.table.now.high;
      passing = passed_ended c.args.table.now.threads.items c.leave.new.threads.items c.args.table.now.beside.passed c.args.t ends c.args.table.now.passing;
      single = single_rows c.put_row.new.threads.items c.leave.new.threads.items c.leave.ensures.lists (single_row c.spread.new.threads.items c.put_row.new.threads.items c.args.t c.settle-own.new.row.items c.put_row.ensures.row c.settle-own.ensures.single c.spread.ensures.single);
    }

pub spread-requires-clause-own : goal.spread-requires-clause-own
spread-requires-clause-own c = ap (λ xs. is_some (least_in xs c.args.t)) (c.deref.ensures.value ∙ c.in_ok-later.ensures) ∙ since_own c.args.t (passed_of c.args.table.now.beside.passed c.args.t) (thread_row (slice_get c.args.table.now.threads.items c.args.t))

pub spread-requires-clause-single : goal.spread-requires-clause-single
spread-requires-clause-single c = single_taken c.args.table.now.threads.items c.take_row-row.new.threads.items c.args.t c.take_row-row.ensures.rest c.args.table.now.single

pub settle-own-requires-clause-single : goal.settle-own-requires-clause-single
settle-own-requires-clause-single c = subst IsSingle (sym c.take_row-row.ensures.row) (c.args.table.now.single c.args.t)

pub settle-own-requires-clause-high : goal.settle-own-requires-clause-high
settle-own-requires-clause-high c = λ w p there.
    ap (λ h. is_early h p) c.high_place.ensures ∙ c.args.table.now.high c.args.t w p (ap (λ ls. least_in ls w) (sym c.take_row-row.ensures.row) ∙ there)

pub spread-requires-clause-whole : goal.spread-requires-clause-whole
spread-requires-clause-whole c = λ whole v some.
    c.args.table.now.known.whole c.args.t whole v (
    since_fewer c.args.t (passed_of c.args.table.now.beside.passed c.args.t) (thread_row (slice_get c.args.table.now.threads.items c.args.t)) v (sym (ap (λ ls. is_some (least_in ls v)) (c.deref.ensures.value ∙ c.in_ok-later.ensures)) ∙ some)
    )

pub unsee_all-requires : goal.unsee_all-requires
unsee_all-requires c = λ whole v ne some.
    c.args.table.now.known.whole c.args.t whole v (
    since_fewer c.args.t (passed_of c.args.table.now.beside.passed c.args.t) (thread_row (slice_get c.args.table.now.threads.items c.args.t)) v (sym (ap (λ ls. is_some (least_in ls v)) (c.deref-2.ensures.value ∙ c.in_ok-later.ensures)) ∙ some)
    )

pub spread-requires-clause-beside : goal.spread-requires-clause-beside
spread-requires-clause-beside c = record {
  high = high_without c.args.table.now.threads.items c.take_row-row.new.threads.items c.args.table.now.beside.highs c.args.t c.take_row-row.ensures.rest c.args.table.now.high;
  seen = λ o v other ne known.
      ap (λ ls. is_some (least_in ls v)) (c.take_row-row.ensures.rest.rows o ∙ cond-false (o == c.args.t) _ _ (ne_eqb o c.args.t other)) ∙ c.args.table.now.known.so o v known;
}
