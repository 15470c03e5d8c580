use Rattle.std.proofs.Common.{[], ◌∷◌, ◌++◌, codes, flat_map, if◌then◌else◌, ap, ◌∙◌}
use Rattle.std.proofs.lemmas.Result.{IfOk-equal}
use Rattle.json.specs.Token as token
use Rattle.json.specs.Tree.{json_tokens}
use Rattle.aero_report.specs.Json.{name_value}
use Rattle.aero_report.proofs.Appended.{joined, OnOk-joined}
use Rattle.aero_report.proofs.Tokens.{items_tokens_of}
use Rattle.aero_report.proofs.options.write_listed.Goals as goal

pub returns : goal.returns
returns c =
    let listed = c.args.except.now in
    let begin = token.key (if listed.only then codes "only" else codes "except") ∷ token.begin_array ∷ [] in
    let labels = flat_map (λ l. json_tokens (name_value l)) listed.labels in
    let key = c.list_key.ensures ∙ ap (λ only. if only then codes "only" else codes "except") c.is_only.ensures in
    let one = c.in_ok-begin_array.ensures ∙ ap (λ k. c.args.out.now ++ (token.key k ∷ token.begin_array ∷ [])) key in
    let named = c.in_ok-write_labels.ensures ∙ ap (λ ls. c.begin_array.new.self ++ flat_map (λ l. json_tokens (name_value l)) ls) c.labels.ensures in
    let two = joined _ _ _ begin labels one named in
    IfOk-equal _ _ _ _ (OnOk-joined _ _ _ _ (begin ++ labels) (token.end_array ∷ []) two c.end_array.ensures)
    (ap (λ ts. c.args.out.now ++ (begin ++ ts)) (items_tokens_of name_value listed.labels))
