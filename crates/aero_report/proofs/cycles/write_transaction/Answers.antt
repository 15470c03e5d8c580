use Rattle.std.proofs.Common.{[], ◌∷◌, ◌++◌, codes, ap, ◌∙◌}
use Rattle.std.proofs.lemmas.Result.{IfOk-equal}
use Rattle.json.specs.Token as token
use Rattle.aero_report.specs.Json.{count, name, extent_members}
use Rattle.aero_report.specs.Members.{member_tokens, all_members_tokens}
use Rattle.aero_report.proofs.Appended.{joined, OnOk-joined}
use Rattle.aero_report.proofs.Tokens.{members_tokens_of}
use Rattle.aero_report.proofs.cycles.write_transaction.Goals as goal

pub returns : goal.returns
returns c =
    let transaction = c.args.transaction.now in
    let begin = token.begin_object ∷ [] in
    let first = member_tokens (count (codes "first") transaction.first) in
    let thread = member_tokens (name (codes "thread") transaction.thread) in
    let extent = all_members_tokens (extent_members transaction.extent) in
    let two = joined _ _ _ begin first c.in_ok-begin_object.ensures c.in_ok-count.ensures in
    let named = c.in_ok-name.ensures ∙ ap (λ bytes. c.count.new.self ++ member_tokens (name (codes "thread") bytes)) c.bytes.ensures in
    let three = joined _ _ _ (begin ++ first) thread two named in
    let four = joined _ _ _ ((begin ++ first) ++ thread) extent three c.in_ok-write_extent.ensures in
    IfOk-equal _ _ _ _ (OnOk-joined _ _ _ _ (((begin ++ first) ++ thread) ++ extent) (token.end_object ∷ []) four c.end_object.ensures)
    (ap (λ ts. c.args.out.now ++ token.begin_object ∷ ts)
    (members_tokens_of (count (codes "first") transaction.first ∷ name (codes "thread") transaction.thread ∷ extent_members transaction.extent)))
