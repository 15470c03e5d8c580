use Rattle.std.proofs.Common.{◌++◌, ◌∙◌, ap, codes}
use Rattle.std.proofs.lemmas.Result.{IfOk-equal}
use Rattle.aero_report.specs.Asked.{options_of}
use Rattle.aero_report.specs.Json.{flag, word, limits_value, listed_member, ending_members, notes_members, stop_members, unused_members}
use Rattle.aero_report.specs.Members.{member_tokens, all_members_tokens}
use Rattle.aero_report.proofs.Appended.{joined, OnOk-joined}
use Rattle.aero_report.proofs.Tokens.{both_tokens}
use Rattle.aero_report.proofs.options.write_options.Goals as goal

pub returns : goal.returns
returns c =
    let options = options_of c.args.options in
    let version = member_tokens (word (codes "version") (codes "0.1.0")) in
    let order = member_tokens (flag (codes "order") options.terms.order) in
    let explain = member_tokens (flag (codes "explain") options.terms.explain) in
    let limits = member_tokens (codes "limits", limits_value options.terms.rules.limits) in
    let listed = member_tokens (listed_member options.terms.rules.labels) in
    let stop = stop_members options.terms.stop in
    let ending = ending_members options.terms.rules.end in
    let unused = unused_members options.unused in
    let notes = notes_members options.notes in
    let two = joined _ _ _ version order c.in_ok-word.ensures (c.in_ok-flag.ensures ∙ ap (λ b. c.word.new.self ++ member_tokens (flag (codes "order") b)) c.order.ensures) in
    let three = joined _ _ _ (version ++ order) explain two (c.in_ok-flag-2.ensures ∙ ap (λ b. c.flag.new.self ++ member_tokens (flag (codes "explain") b)) c.explain.ensures) in
    let four = joined _ _ _ ((version ++ order) ++ explain) limits three (c.in_ok-write_limits.ensures ∙ ap (λ l. c.flag-2.new.self ++ member_tokens (codes "limits", limits_value l)) c.limits.ensures) in
    let five = joined _ _ _ (((version ++ order) ++ explain) ++ limits) listed four (c.in_ok-write_listed.ensures ∙ ap (λ l. c.write_limits.new.out ++ member_tokens (listed_member l)) c.except.ensures) in
    let behind = IfOk-equal _ _ _ _ (OnOk-joined _ _ _ _ (all_members_tokens unused) (all_members_tokens notes) c.in_ok-write_unused.ensures c.write_notes.ensures)
    (ap (λ ts. c.write_ending.new.out ++ ts) (both_tokens unused notes)) in
    let ended = IfOk-equal _ _ _ _ (OnOk-joined _ _ _ _ (all_members_tokens ending) (all_members_tokens (unused ++ notes)) (c.in_ok-write_ending.ensures ∙ ap (λ b. c.write_stop.new.out ++ all_members_tokens (ending_members b)) c.end.ensures) behind)
    (ap (λ ts. c.write_stop.new.out ++ ts) (both_tokens ending (unused ++ notes))) in
    let all = IfOk-equal _ _ _ _ (OnOk-joined _ _ _ _ (all_members_tokens stop) (all_members_tokens (ending ++ (unused ++ notes))) (c.in_ok-write_stop.ensures ∙ ap (λ b. c.write_listed.new.out ++ all_members_tokens (stop_members b)) c.stop.ensures) ended)
    (ap (λ ts. c.write_listed.new.out ++ ts) (both_tokens stop (ending ++ (unused ++ notes)))) in
    OnOk-joined _ _ _ _ ((((version ++ order) ++ explain) ++ limits) ++ listed) (all_members_tokens (stop ++ (ending ++ (unused ++ notes)))) five all
