use Rattle.std.proofs.Common.{◌++◌, codes}
use Rattle.aero_report.specs.Json.{count, word}
use Rattle.aero_report.specs.Members.{member_tokens}
use Rattle.aero_report.proofs.Appended.{joined, OnOk-joined}
use Rattle.aero_report.proofs.objects.write_sizes.Goals as goal

pub returns : goal.returns
returns c =
    let verdict = member_tokens (word (codes "verdict") c.args.verdict.now) in
    let events = member_tokens (count (codes "events") c.args.events) in
    let blocks = member_tokens (count (codes "blocks") c.args.blocks) in
    OnOk-joined _ _ _ _ (verdict ++ events) blocks (joined _ _ _ verdict events c.in_ok-word.ensures c.in_ok-count.ensures) c.count-2.ensures
