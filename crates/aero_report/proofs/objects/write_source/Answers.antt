use Rattle.std.proofs.Common.{[], ◌∷◌, ◌++◌, codes, ap}
use Rattle.std.proofs.lemmas.Result.{IfOk-equal}
use Rattle.json.specs.Token as token
use Rattle.aero_report.specs.Json.{name, finding_members}
use Rattle.aero_report.specs.Members.{member_tokens, all_members_tokens}
use Rattle.aero_report.proofs.Appended.{joined, OnOk-joined}
use Rattle.aero_report.proofs.Tokens.{members_tokens_of}
use Rattle.aero_report.proofs.objects.write_source.Goals as goal

pub returns : goal.returns
returns c =
    let begin = token.begin_object ∷ [] in
    let source = member_tokens (name (codes "source") c.args.name.now) in
    let found = all_members_tokens (finding_members c.args.finding.now) in
    let two = joined _ _ _ begin source c.in_ok-begin_object.ensures c.in_ok-name.ensures in
    let three = joined _ _ _ (begin ++ source) found two c.in_ok-write_finding.ensures in
    IfOk-equal _ _ _ _ (OnOk-joined _ _ _ _ ((begin ++ source) ++ found) (token.end_object ∷ []) three c.end_object.ensures)
    (ap (λ ts. c.args.out.now ++ token.begin_object ∷ ts) (members_tokens_of (name (codes "source") c.args.name.now ∷ finding_members c.args.finding.now)))
