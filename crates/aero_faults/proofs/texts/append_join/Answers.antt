use Rattle.std.proofs.Common.{◌++◌, ap}
use Rattle.std.proofs.lemmas.Result.{IfOk-equal}
use Rattle.aero_faults.proofs.Parts.{join_text_any}
use Rattle.aero_faults.proofs.texts.append_join.Goals as goal

pub returns-in_default : goal.returns-in_default
returns-in_default c =
    IfOk-equal _ _ _ _ c.append_deed_on.ensures
    (ap (λ l. c.args.text.now.items ++ l) (join_text_any c.args.fault c.args.event.now c.args.thread.now c.args.line c.in_default.not-ThreadJoined))
