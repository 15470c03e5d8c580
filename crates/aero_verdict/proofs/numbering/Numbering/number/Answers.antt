use Rattle.std.proofs.lemmas.Result.{err_from_is_err_and}
use Rattle.aero_grammar.specs.Tabled.{named_in}
use Rattle.aero_verdict.specs.Known.{tables_in}
use Rattle.aero_verdict.specs.Limited.{RefusesEvent}
use Rattle.aero_verdict.proofs.Targets.{actor_refused, target_numbered, target_refused}
use Rattle.aero_verdict.proofs.numbering.Numbering.number.Goals as goal

pub returns-in_err-thread-clause-err : goal.returns-in_err-thread-clause-err
returns-in_err-thread-clause-err c =
    let e = named_in (tables_in c.args.chunk) c.args.chunk.labels.now c.args.event in
    let h : RefusesEvent c.args.self.now e c.in_err-thread.field-0.0 = actor_refused c.args.self.now e c.in_err-thread.field-0.0 c.in_err-thread.ensures.err in
    let p = err_from_is_err_and c.from_residual.result c.from_residual.ensures.1 in rw (p.1, p.2) h

pub returns-in_err-what-clause-err : goal.returns-in_err-what-clause-err
returns-in_err-what-clause-err c =
    let e = named_in (tables_in c.args.chunk) c.args.chunk.labels.now c.args.event in
    let h : RefusesEvent c.args.self.now e c.in_err-what.field-0.0 =
    target_refused c.args.self.now c.number_known.new.names e c.in_ok-thread.thread c.in_ok-thread.ensures.ok c.in_err-what.field-0.0 c.in_err-what.ensures.err in
    let p = err_from_is_err_and c.from_residual-in_err-what.result c.from_residual-in_err-what.ensures.1 in rw (p.1, p.2) h

pub returns-clause-ok : goal.returns-clause-ok
returns-clause-ok c =
    let e = named_in (tables_in c.args.chunk) c.args.chunk.labels.now c.args.event in
    target_numbered c.args.self.now c.number_known.new.names e c.in_ok-thread.thread c.in_ok-thread.ensures.ok c.number_target.new.self c.in_ok-what.what c.in_ok-what.ensures.ok
