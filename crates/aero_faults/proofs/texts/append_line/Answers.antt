use Rattle.std.proofs.Common.{◌++◌, ◌∙◌, ap, ap₂, codes}
use Rattle.std.proofs.lemmas.Result.{IfOk-equal}
use Rattle.aero_grammar.specs.Meaning.{operation_field, operation_word}
use Rattle.aero_faults.specs.Texts.{shown}
use Rattle.aero_model.specs.Words.{line_words}
use Rattle.aero_faults.proofs.Parts.{line_text_any}
use Rattle.aero_faults.proofs.texts.append_line.Goals as goal

pub returns-in-UnknownOperation : goal.returns-in-UnknownOperation
returns-in-UnknownOperation c =
    rw c.in-UnknownOperation.is (IfOk-equal _ _ _ _ c.append_words.ensures
    (ap₂ (λ f b. c.args.text.now.items ++ (line_words f ++ (codes ": " ++ shown b))) c.in-UnknownOperation.is
    (c.operation_word.ensures ∙ ap (λ t. operation_word (operation_field t)) c.without_return-line.ensures)))

pub returns-in_default : goal.returns-in_default
returns-in_default c =
    IfOk-equal _ _ _ _ c.append_words-in_default.ensures
    (ap (λ b. c.args.text.now.items ++ (line_words c.args.fault ++ (codes ": " ++ shown b))) c.without_return-line.ensures
    ∙ ap (λ l. c.args.text.now.items ++ l) (line_text_any c.args.fault c.args.line.now c.in_default.not-BadByte c.in_default.not-UnknownOperation))
