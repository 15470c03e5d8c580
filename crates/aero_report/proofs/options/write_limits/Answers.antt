use Rattle.std.proofs.Common.{[], ◌∷◌, ◌++◌, codes}
use Rattle.json.specs.Token as token
use Rattle.aero_report.specs.Json.{count}
use Rattle.aero_report.specs.Members.{member_tokens}
use Rattle.aero_report.proofs.Appended.{joined, OnOk-joined}
use Rattle.aero_report.proofs.options.write_limits.Goals as goal

pub returns : goal.returns
returns c =
    let limits = c.args.limits.now in
    let begin = token.key (codes "limits") ∷ token.begin_object ∷ [] in
    let bytes = member_tokens (count (codes "bytes") limits.bytes) in
    let lines = member_tokens (count (codes "lines") limits.lines) in
    let threads = member_tokens (count (codes "threads") limits.threads) in
    let names = member_tokens (count (codes "names") limits.names) in
    let two = joined _ _ _ begin bytes c.in_ok-begin_member.ensures c.in_ok-long_count.ensures in
    let three = joined _ _ _ (begin ++ bytes) lines two c.in_ok-count.ensures in
    let four = joined _ _ _ ((begin ++ bytes) ++ lines) threads three c.in_ok-count-2.ensures in
    let five = joined _ _ _ (((begin ++ bytes) ++ lines) ++ threads) names four c.in_ok-count-3.ensures in
    OnOk-joined _ _ _ _ ((((begin ++ bytes) ++ lines) ++ threads) ++ names) (token.end_object ∷ []) five c.end_object.ensures
