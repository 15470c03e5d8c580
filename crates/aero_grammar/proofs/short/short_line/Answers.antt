use Rattle.std.proofs.Common.{◌+◌, ◌∷◌, take, sym, ap, ◌∙◌}
use Rattle.std.proofs.lemmas.List.{take_rest}
use Rattle.std.specs.List.{list_any}
use Rattle.aero_model.specs.Lines.{lines_of}
use Rattle.aero_grammar.specs.Meaning.{is_unfit}
use Rattle.aero_grammar.proofs.Clean.{clean_behind}
use Rattle.aero_grammar.proofs.short.short_line.Goals as goal

pub returns-clause-lines : goal.returns-clause-lines
returns-clause-lines c =
    let end = c.in_ok-end.end in
    c.in_ok-end.ensures.lines ∙ ap (λ rest. take end c.args.text.now ∷ lines_of rest) (sym (take_rest c.args.text.now (end + 1)))

pub returns-clause-fit : goal.returns-clause-fit
returns-clause-fit c =
    let end = c.in_ok-end.end in
    ap (list_any is_unfit) (take_rest c.args.text.now (end + 1)) ∙ clean_behind c.args.text.now (end + 1) c.requires
