use Rattle.std.proofs.Common.{sym, ap, ◌∙◌}
use Rattle.std.specs.Prelude.{◌||◌}
use Rattle.std.proofs.lemmas.Bool.{or_left}
use Rattle.aero_leads.specs.Kept.{rows_in, leads_to}
use Rattle.aero_leads.proofs.Takings.{any_reads, leads_still, takes_reads}
use Rattle.aero_leads.proofs.table.take_reads.Goals as goal

pub returns-then-branch-clause-closing : goal.returns-then-branch-clause-closing
returns-then-branch-clause-closing c =
    let old = rows_in c.args.table.now.threads.items in
    sym (any_reads old c.args.t c.args.t c.args.others.now c.args.latest ∙ or_left _ _ (sym c.in_ok-take_all.ensures.closing ∙ c.if-branch.true))

pub returns-clause-closing : goal.returns-clause-closing
returns-clause-closing c =
    let old = rows_in c.args.table.now.threads.items in
    let mid = rows_in c.take_all.new.table.threads.items in
    c.in_ok-closes.ensures.closing
    ∙ sym (any_reads old c.args.t c.args.t c.args.others.now c.args.latest
    ∙ ap (λ b. b || leads_to old c.args.t c.args.t c.args.latest) (sym c.in_ok-take_all.ensures.closing ∙ c.if-branch.false)
    ∙ sym (leads_still old mid c.args.place c.args.t c.args.others.now (c.in_ok-take_all.ensures.takes c.if-branch.false) c.args.t c.args.latest))

pub returns-clause-takes : goal.returns-clause-takes
returns-clause-takes c h =
    takes_reads (rows_in c.args.table.now.threads.items) (rows_in c.take_all.new.table.threads.items) (rows_in c.take.new.table.threads.items) c.args.place c.args.t c.args.others.now c.args.latest
    (c.in_ok-take_all.ensures.takes c.if-branch.false) (c.in_ok-closes.ensures.takes h)
