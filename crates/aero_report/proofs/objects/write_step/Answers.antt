use Rattle.std.proofs.Common.{[], ◌∷◌, ◌++◌, codes}
use Rattle.json.specs.Token as token
use Rattle.aero_report.specs.Json.{count, name}
use Rattle.aero_report.specs.Members.{member_tokens}
use Rattle.aero_report.proofs.Appended.{joined, OnOk-joined}
use Rattle.aero_report.proofs.objects.write_step.Goals as goal

pub returns : goal.returns
returns c =
    let begin = token.begin_object ∷ [] in
    let line = member_tokens (count (codes "line") c.args.line) in
    let thread = member_tokens (name (codes "thread") c.args.thread.now) in
    let two = joined _ _ _ begin line c.in_ok-begin_object.ensures c.in_ok-count.ensures in
    OnOk-joined _ _ _ _ ((begin ++ line) ++ thread) (token.end_object ∷ []) (joined _ _ _ (begin ++ line) thread two c.in_ok-name.ensures) c.end_object.ensures
