use Rattle.std.proofs.Common.{[], ◌∷◌, ◌++◌, codes, flat_map, map, ap, ◌∙◌, sym}
use Rattle.std.proofs.lemmas.Result.{IfOk-equal}
use Rattle.json.specs.Token as token
use Rattle.json.specs.Tree.{json_tokens}
use Rattle.aero_report.specs.Asked.{note_of}
use Rattle.aero_report.specs.Json.{note_value}
use Rattle.aero_report.proofs.Appended.{joined, OnOk-joined}
use Rattle.aero_report.proofs.Tokens.{notes_tokens}
use Rattle.aero_report.proofs.notes.write_notes.Goals as goal

pub returns : goal.returns
returns c =
    let begin = token.key (codes "notes") ∷ token.begin_array ∷ [] in
    let notes = flat_map (λ n. json_tokens (note_value n)) (map note_of c.args.notes.now) in
    let two = joined _ _ _ begin notes c.in_ok-begin_array.ensures c.in_ok-write_all_notes.ensures in
    IfOk-equal _ _ _ _ (OnOk-joined _ _ _ _ (begin ++ notes) (token.end_array ∷ []) two c.end_array.ensures)
    (ap (λ ts. c.args.out.now ++ ts) (notes_tokens note_of c.args.notes.now (sym c.is_empty.ensures ∙ c.if-is_empty.false)))
