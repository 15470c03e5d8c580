use Rattle.std.proofs.Common.{ap₂, sym, ◌∙◌, get_or}
use Rattle.std.specs.Prelude.{◌||◌}
use Rattle.std.proofs.lemmas.Option.{slice_get-get_or}
use Rattle.aero_leads.specs.Kept.{rows_in, last}
use Rattle.aero_leads.proofs.Takings.{any_here, any_next, leads_still, takes_next}
use Rattle.aero_leads.proofs.table.take_all.Goals as goal

pub returns-then-branch-clause-closing : goal.returns-then-branch-clause-closing
returns-then-branch-clause-closing c =
    let l = get_or c.args.lasts.now c.loop-last.last-index (last 0 0) in
    sym (any_here (rows_in c.args.table.now.threads.items) c.args.t c.args.t c.args.lasts.now l c.loop-last.last-index (slice_get-get_or c.args.lasts.now c.loop-last.last-index (last 0 0) c.loop-last-test.true)
    (sym (leads_still (rows_in c.args.table.now.threads.items) (rows_in c.loop-last.table.threads.items) c.args.place c.args.t _ c.loop-last.invariant.takes c.args.t l)
    ∙ sym c.in_ok-take.ensures.closing ∙ c.if-branch.true))

pub loop-last-preserved : goal.loop-last-preserved
loop-last-preserved c =
    let l = get_or c.args.lasts.now c.loop-last.last-index (last 0 0) in
    let at = slice_get-get_or c.args.lasts.now c.loop-last.last-index (last 0 0) c.loop-last-test.true in
    record {
      none =
          any_next (rows_in c.args.table.now.threads.items) c.args.t c.args.t c.args.lasts.now l c.loop-last.last-index at
          ∙ ap₂ (λ a b. a || b) c.loop-last.invariant.none
          (sym (leads_still (rows_in c.args.table.now.threads.items) (rows_in c.loop-last.table.threads.items) c.args.place c.args.t _ c.loop-last.invariant.takes c.args.t l)
          ∙ sym c.in_ok-take.ensures.closing ∙ c.if-branch.false);
      takes = takes_next (rows_in c.args.table.now.threads.items) (rows_in c.loop-last.table.threads.items) (rows_in c.take.new.table.threads.items) c.args.place c.args.t c.args.lasts.now c.loop-last.last-index l at c.loop-last.invariant.takes (c.in_ok-take.ensures.takes c.if-branch.false);
      same = record {
        in_block = λ u. c.take.ensures.same.in_block u ∙ c.loop-last.invariant.same.in_block u;
        begins = λ u. c.take.ensures.same.begins u ∙ c.loop-last.invariant.same.begins u;
        acted = λ u. c.take.ensures.same.acted u ∙ c.loop-last.invariant.same.acted u;
      };
      room = c.take.ensures.room ∙ c.loop-last.invariant.room;
    }
