use Rattle.std.proofs.Common.{Some, refl, ap, ◌∙◌, sym, subst, arith}
use Rattle.std.proofs.lemmas.Result.{on_ok_weaker}
use Rattle.std.proofs.lemmas.Option.{slice_get-get_or}
use Rattle.aero_leads.specs.Kept.{least_in, thread_row}
use Rattle.aero_leads.specs.Single.{IsSingle}
use Rattle.aero_leads.proofs.ThreadSteps.{absorbed_at, same_blocks, listed_at, single_at, unvisited}
use Rattle.aero_leads.proofs.thread.visit.Goals as goal

pub returns-then-o-len-clause-rows : goal.returns-then-o-len-clause-rows
returns-then-o-len-clause-rows c =
    let at = slice_get-get_or c.args.threads.now.items c.args.entry.thread c.index_mut.result.now (omega (arith, c.if-o-len.true, c.len.ensures, c.args.threads.now.ok.0)) ∙ ap Some (sym c.index_mut.ensures.value) in
    on_ok_weaker c.absorb.result (absorbed_at c.args.threads.now.items c.args.entry.thread c.index_mut.result.now _ at (least_in c.args.ended.now) c.args.t) c.absorb.ensures.absorbs

pub returns-then-o-len-clause-same : goal.returns-then-o-len-clause-same
returns-then-o-len-clause-same c =
    let at = slice_get-get_or c.args.threads.now.items c.args.entry.thread c.index_mut.result.now (omega (arith, c.if-o-len.true, c.len.ensures, c.args.threads.now.ok.0)) ∙ ap Some (sym c.index_mut.ensures.value) in
    same_blocks c.args.threads.now.items c.args.entry.thread c.index_mut.result.now _ at refl refl refl

pub returns-then-o-len-clause-listed : goal.returns-then-o-len-clause-listed
returns-then-o-len-clause-listed c =
    let at = slice_get-get_or c.args.threads.now.items c.args.entry.thread c.index_mut.result.now (omega (arith, c.if-o-len.true, c.len.ensures, c.args.threads.now.ok.0)) ∙ ap Some (sym c.index_mut.ensures.value) in
    listed_at c.args.threads.now.items c.args.entry.thread c.index_mut.result.now _ at c.args.led.now c.absorb.new.led c.absorb.ensures.grows c.absorb.ensures.listed

pub returns-clause-rows : goal.returns-clause-rows
returns-clause-rows c = unvisited c.args.threads.now.items c.args.entry.thread (least_in c.args.ended.now) c.args.t (omega (arith, c.if-o-len.false, c.len.ensures, c.args.threads.now.ok.0))

pub returns-then-o-len-clause-single : goal.returns-then-o-len-clause-single
returns-then-o-len-clause-single c =
    let at = slice_get-get_or c.args.threads.now.items c.args.entry.thread c.index_mut.result.now (omega (arith, c.if-o-len.true, c.len.ensures, c.args.threads.now.ok.0)) ∙ ap Some (sym c.index_mut.ensures.value) in
    single_at c.args.threads.now.items c.args.entry.thread c.index_mut.result.now _ at (λ _. c.absorb.ensures.single) c.requires

pub absorb-requires : goal.absorb-requires
absorb-requires c =
    let at = slice_get-get_or c.args.threads.now.items c.args.entry.thread c.index_mut.result.now (omega (arith, c.if-o-len.true, c.len.ensures, c.args.threads.now.ok.0)) ∙ ap Some (sym c.index_mut.ensures.value) in
    subst IsSingle (ap thread_row at) (c.requires c.args.entry.thread)
