use Rattle.std.proofs.Common.{◌+◌, length, take, drop, sym, ◌∙◌, ap, arith, take_all}
use Rattle.std.proofs.lemmas.List.{take_rest, drop_all}
use Rattle.aero_grammar.proofs.FirstPart.{found_at, found_nowhere}
use Rattle.aero_grammar.proofs.bytes.split_at_byte.Goals as goal

pub returns-in-Some-clause-before : goal.returns-in-Some-clause-before
returns-in-Some-clause-before c =
    ap (λ n. take n c.args.bytes.now) (sym (found_at c.args.sought c.args.bytes.now c.in-Some.place c.in-Some.ensures.0 c.in-Some.ensures.1))

pub returns-in-Some-clause-after : goal.returns-in-Some-clause-after
returns-in-Some-clause-after c =
    take_rest c.args.bytes.now (c.in-Some.place + 1)
    ∙ ap (λ n. drop (n + 1) c.args.bytes.now) (sym (found_at c.args.sought c.args.bytes.now c.in-Some.place c.in-Some.ensures.0 c.in-Some.ensures.1))

pub returns-in-None-clause-before : goal.returns-in-None-clause-before
returns-in-None-clause-before c =
    let bytes = c.args.bytes.now in
    sym (ap (λ n. take n bytes) (found_nowhere c.args.sought bytes c.in-None.ensures) ∙ take_all (length bytes) bytes (omega arith))

pub returns-in-None-clause-after : goal.returns-in-None-clause-after
returns-in-None-clause-after c =
    let bytes = c.args.bytes.now in
    sym (ap (λ n. drop (n + 1) bytes) (found_nowhere c.args.sought bytes c.in-None.ensures) ∙ drop_all (length bytes + 1) bytes (omega arith))
