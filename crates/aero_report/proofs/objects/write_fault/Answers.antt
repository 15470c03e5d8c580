use Rattle.std.proofs.Common.{◌++◌, codes}
use Rattle.aero_report.specs.Json.{count, word}
use Rattle.aero_report.specs.Members.{member_tokens}
use Rattle.aero_report.proofs.Appended.{joined, OnOk-joined}
use Rattle.aero_report.proofs.objects.write_fault.Goals as goal

pub returns : goal.returns
returns c =
    let verdict = member_tokens (word (codes "verdict") c.args.verdict.now) in
    let line = member_tokens (count (codes "line") c.args.line) in
    let fault = member_tokens (word (codes "fault") c.args.fault.now) in
    let note = member_tokens (word (codes "note") c.args.words.now) in
    let two = joined _ _ _ verdict line c.in_ok-word.ensures c.in_ok-count.ensures in
    OnOk-joined _ _ _ _ ((verdict ++ line) ++ fault) note (joined _ _ _ (verdict ++ line) fault two c.in_ok-word-2.ensures) c.word-3.ensures
