use Rattle.std.proofs.Common.{ap, sym, subst, ◌∙◌}
use Rattle.aero_grammar.specs.Tabled.{op_of, target_in}
use Rattle.aero_verdict.specs.Known.{tables_in}
use Rattle.aero_verdict.specs.Limited.{NumbersTarget, with_number}
use Rattle.aero_verdict.proofs.Targets.{lock_numbered, thread_numbered, variable_numbered}
use Rattle.aero_verdict.proofs.numbering.Numbering.number_target.Goals as goal

pub returns-in_ok-number-in-Read-clause-ok : goal.returns-in_ok-number-in-Read-clause-ok
returns-in_ok-number-in-Read-clause-ok c =
    let w = c.in_ok-number-in-Read in
    let self = c.args.self.now in
    let names = c.number_known-in-Read.new.names in
    subst (NumbersTarget self (record self { variables = names }) (op_of c.args.what) (target_in (tables_in c.args.chunk) c.args.chunk.labels.now c.args.what)) (sym (c.with_number-in-Read.ensures ∙ ap (λ what. with_number what w.number) c.in-Read.what-is))
    (variable_numbered self names (tables_in c.args.chunk) c.args.chunk.labels.now c.args.what w.number c.in-Read.x w.ensures.ok c.in-Read.is)

pub returns-in_ok-number-in-Acquire-clause-ok : goal.returns-in_ok-number-in-Acquire-clause-ok
returns-in_ok-number-in-Acquire-clause-ok c =
    let w = c.in_ok-number-in-Acquire in
    let self = c.args.self.now in
    let names = c.number_known-in-Acquire.new.names in
    subst (NumbersTarget self (record self { locks = names }) (op_of c.args.what) (target_in (tables_in c.args.chunk) c.args.chunk.labels.now c.args.what)) (sym (c.with_number-in-Acquire.ensures ∙ ap (λ what. with_number what w.number) c.in-Acquire.what-is))
    (lock_numbered self names (tables_in c.args.chunk) c.args.chunk.labels.now c.args.what w.number c.in-Acquire.l w.ensures.ok c.in-Acquire.is)

pub returns-in_ok-number-in-Fork-clause-ok : goal.returns-in_ok-number-in-Fork-clause-ok
returns-in_ok-number-in-Fork-clause-ok c =
    let w = c.in_ok-number-in-Fork in
    let self = c.args.self.now in
    let names = c.number_known.new.names in
    subst (NumbersTarget self (record self { threads = names }) (op_of c.args.what) (target_in (tables_in c.args.chunk) c.args.chunk.labels.now c.args.what)) (sym (c.with_number.ensures ∙ ap (λ what. with_number what w.number) c.in-Fork.what-is))
    (thread_numbered self names (tables_in c.args.chunk) c.args.chunk.labels.now c.args.what w.number c.in-Fork.u w.ensures.ok c.in-Fork.is)
