use Rattle.std.proofs.Common.{[], ◌∷◌, ◌++◌, codes, ap, ◌∙◌}
use Rattle.std.proofs.lemmas.Result.{IfOk-equal}
use Rattle.json.specs.Token as token
use Rattle.aero_report.specs.Json.{count, name, label_members}
use Rattle.aero_report.specs.Members.{member_tokens, all_members_tokens}
use Rattle.aero_report.proofs.Appended.{joined, OnOk-joined}
use Rattle.aero_report.proofs.Tokens.{members_tokens_of}
use Rattle.aero_report.proofs.objects.write_open_block.Goals as goal

pub returns : goal.returns
returns c =
    let block = c.args.block.now in
    let begin = token.begin_object ∷ [] in
    let line = member_tokens (count (codes "line") block.line) in
    let thread = member_tokens (name (codes "thread") block.thread) in
    let label = all_members_tokens (label_members block.label) in
    let two = joined _ _ _ begin line c.in_ok-begin_object.ensures c.in_ok-count.ensures in
    let named = c.in_ok-name.ensures ∙ ap (λ bytes. c.count.new.self ++ member_tokens (name (codes "thread") bytes)) c.bytes.ensures in
    let three = joined _ _ _ (begin ++ line) thread two named in
    let four = joined _ _ _ ((begin ++ line) ++ thread) label three c.in_ok-write_label.ensures in
    IfOk-equal _ _ _ _ (OnOk-joined _ _ _ _ (((begin ++ line) ++ thread) ++ label) (token.end_object ∷ []) four c.end_object.ensures)
    (ap (λ ts. c.args.out.now ++ token.begin_object ∷ ts)
    (members_tokens_of (count (codes "line") block.line ∷ name (codes "thread") block.thread ∷ label_members block.label)))
