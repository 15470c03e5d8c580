use Rattle.std.proofs.Common.{[], ◌∷◌, ◌++◌, codes, ap₂}
use Rattle.std.proofs.lemmas.Result.{IfOk-equal}
use Rattle.aero_report.specs.Json.{count, word}
use Rattle.aero_report.specs.Members.{all_members_tokens}
use Rattle.aero_report.proofs.objects.write_verdict.Goals as goal

pub returns-in-Serializable : goal.returns-in-Serializable
returns-in-Serializable c = rw c.in-Serializable.is c.write_sizes.ensures

pub returns-in-IllFormed : goal.returns-in-IllFormed
returns-in-IllFormed c =
    rw c.in-IllFormed.is (IfOk-equal _ _ _ _ c.write_fault-in-IllFormed.ensures
    (ap₂ (λ fault words. c.args.out.now ++ all_members_tokens (word (codes "verdict") (codes "ill-formed") ∷ count (codes "line") c.in-IllFormed.line ∷ word (codes "fault") fault ∷ word (codes "note") words ∷ []))
    c.shape_fault_name-name.ensures c.shape_words.ensures))
