use Rattle.std.proofs.Common.{[], ◌∷◌, ◌++◌, ap}
use Rattle.std.proofs.lemmas.Result.{IfOk-equal}
use Rattle.json.specs.Token as token
use Rattle.aero_report.specs.Asked.{options_of}
use Rattle.aero_report.specs.Json.{count_members, option_members}
use Rattle.aero_report.specs.Members.{all_members_tokens}
use Rattle.aero_report.proofs.Appended.{joined, OnOk-joined}
use Rattle.aero_report.proofs.Tokens.{members_tokens_of}
use Rattle.aero_report.proofs.options.write_summary.Goals as goal

pub returns : goal.returns
returns c =
    let begin = token.begin_object ∷ [] in
    let counts = all_members_tokens (count_members c.args.counts.now) in
    let options = all_members_tokens (option_members (options_of c.args.options)) in
    let two = joined _ _ _ begin counts c.in_ok-begin_object.ensures c.in_ok-write_counts.ensures in
    let three = joined _ _ _ (begin ++ counts) options two c.in_ok-write_options.ensures in
    IfOk-equal _ _ _ _ (OnOk-joined _ _ _ _ ((begin ++ counts) ++ options) (token.end_object ∷ []) three c.end_object.ensures)
    (ap (λ ts. c.args.out.now ++ token.begin_object ∷ ts) (members_tokens_of (count_members c.args.counts.now ++ option_members (options_of c.args.options))))
