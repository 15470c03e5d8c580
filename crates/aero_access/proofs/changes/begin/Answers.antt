use Rattle.std.proofs.Common.{ℕ, ◌+◌, sym, ap, ◌∙◌, subst}
use Rattle.std.proofs.lemmas.Option.{slice_get-get_or}
use Rattle.aero_access.specs.Threads.{thread_begins}
use Rattle.aero_access.specs.Led.{led_at, IsOfBegin}
use Rattle.aero_access.proofs.Outcomes.{OnOk_map}
use Rattle.aero_access.proofs.Indexing.{index_begun}
use Rattle.aero_access.proofs.changes.begin.Goals as goal

pub returns-clause-index : goal.returns-clause-index
returns-clause-index c =
    let at = slice_get-get_or c.args.threads.now c.args.t c.index-threads-t.result c.requires.actor in
    OnOk_map c.begin.result
    (λ opens.
    index_begun c.args.threads.now c.begin.new.threads c.args.table.now c.args.index.now c.open.new.self c.args.t c.requires.heeded opens
    (subst (λ (n : ℕ). IsOfBegin (led_at c.open.new.self c.args.t) c.args.t n) (sym (opens.begins ∙ ap (λ o. thread_begins o + 1) at)) c.in_ok-open.ensures.begun)
    c.open.ensures.others)
    c.begin.ensures.opens
