use Rattle.std.proofs.Common.{[], ◌∷◌, ◌++◌, codes, flat_map, map, ap, ◌∙◌, sym}
use Rattle.std.proofs.lemmas.Result.{IfOk-equal}
use Rattle.json.specs.Token as token
use Rattle.json.specs.Tree.{json_tokens}
use Rattle.aero_report.specs.Json.{name_value}
use Rattle.aero_report.proofs.Appended.{joined, OnOk-joined}
use Rattle.aero_report.proofs.Tokens.{unused_tokens}
use Rattle.aero_report.proofs.options.write_unused.Goals as goal

pub returns : goal.returns
returns c =
    let begin = token.key (codes "unused") ∷ token.begin_array ∷ [] in
    let labels = flat_map (λ l. json_tokens (name_value l)) (map (λ label. label.now) c.args.labels.now) in
    let two = joined _ _ _ begin labels c.in_ok-begin_array.ensures c.in_ok-write_unused_labels.ensures in
    IfOk-equal _ _ _ _ (OnOk-joined _ _ _ _ (begin ++ labels) (token.end_array ∷ []) two c.end_array.ensures)
    (ap (λ ts. c.args.out.now ++ ts) (unused_tokens (λ label. label.now) c.args.labels.now (sym c.is_empty.ensures ∙ c.if-is_empty.false)))
