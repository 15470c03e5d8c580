use Rattle.std.proofs.Common.{◌++◌, ap, ap₂}
use Rattle.std.proofs.lemmas.Result.{IfOk-equal}
use Rattle.aero_report.proofs.Names.{text_tokens, bytes_tokens}
use Rattle.aero_report.proofs.line.Line.name_alone.Goals as goal

pub returns-in-Ok : goal.returns-in-Ok
returns-in-Ok c =
    IfOk-equal _ _ _ _ c.token.ensures.ok (ap₂ (λ old ts. old ++ ts) c.self.view_is (text_tokens c.args.name.now c.in-Ok.text.now c.in-Ok.ensures.cases))

pub returns-in-Err : goal.returns-in-Err
returns-in-Err c =
    IfOk-equal _ _ _ _ c.bytes.ensures (ap (λ ts. c.args.self.now ++ ts) (bytes_tokens c.args.name.now c.in-Err.ensures.cases.0))
