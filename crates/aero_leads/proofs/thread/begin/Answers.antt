use Rattle.std.proofs.Common.{Some, refl, ap, ◌∙◌, sym, arith}
use Rattle.std.proofs.lemmas.Option.{slice_get-get_or}
use Rattle.aero_leads.proofs.ThreadSteps.{begins_block, listed_begin, single_at}
use Rattle.aero_leads.proofs.thread.begin.Goals as goal

pub returns-clause-begins : goal.returns-clause-begins
returns-clause-begins c =
    let at = (slice_get-get_or c.args.threads.now.items c.args.t c.index_mut-thread.result.now (omega (arith, c.requires.actor, c.args.threads.now.ok.0)) ∙ ap Some (sym c.index_mut-thread.ensures.value)) in
    begins_block c.args.threads.now.items c.args.t c.index_mut-thread.result.now _ at c.args.place c.in_ok-open.ensures.row refl refl refl

pub returns-clause-listed : goal.returns-clause-listed
returns-clause-listed c = λ led.
    let at = (slice_get-get_or c.args.threads.now.items c.args.t c.index_mut-thread.result.now (omega (arith, c.requires.actor, c.args.threads.now.ok.0)) ∙ ap Some (sym c.index_mut-thread.ensures.value)) in
    listed_begin c.args.threads.now.items c.args.t c.index_mut-thread.result.now _ at led c.open.ensures.others

pub returns-clause-single : goal.returns-clause-single
returns-clause-single c =
    let at = (slice_get-get_or c.args.threads.now.items c.args.t c.index_mut-thread.result.now (omega (arith, c.requires.actor, c.args.threads.now.ok.0)) ∙ ap Some (sym c.index_mut-thread.ensures.value)) in
    single_at c.args.threads.now.items c.args.t c.index_mut-thread.result.now _ at c.open.ensures.single

pub returns-in_err-open-clause-listed : goal.returns-in_err-open-clause-listed
returns-in_err-open-clause-listed c = λ led.
    let at = (slice_get-get_or c.args.threads.now.items c.args.t c.index_mut-thread.result.now (omega (arith, c.requires.actor, c.args.threads.now.ok.0)) ∙ ap Some (sym c.index_mut-thread.ensures.value)) in
    listed_begin c.args.threads.now.items c.args.t c.index_mut-thread.result.now _ at led c.open.ensures.others

pub returns-in_err-open-clause-single : goal.returns-in_err-open-clause-single
returns-in_err-open-clause-single c =
    let at = (slice_get-get_or c.args.threads.now.items c.args.t c.index_mut-thread.result.now (omega (arith, c.requires.actor, c.args.threads.now.ok.0)) ∙ ap Some (sym c.index_mut-thread.ensures.value)) in
    single_at c.args.threads.now.items c.args.t c.index_mut-thread.result.now _ at c.open.ensures.single
