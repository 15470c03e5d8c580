use Rattle.std.proofs.Common.{[], ◌∷◌, ◌++◌, codes, flat_map, ap}
use Rattle.std.proofs.lemmas.Result.{IfOk-equal}
use Rattle.json.specs.Token as token
use Rattle.json.specs.Tree.{json_tokens}
use Rattle.aero_report.specs.Json.{open_block_value}
use Rattle.aero_report.proofs.Appended.{joined, OnOk-joined}
use Rattle.aero_report.proofs.Tokens.{items_tokens_of}
use Rattle.aero_report.proofs.objects.write_opened.Goals as goal

pub returns : goal.returns
returns c =
    let begin = token.key (codes "opened") ∷ token.begin_array ∷ [] in
    let blocks = flat_map (λ b. json_tokens (open_block_value b)) c.args.blocks.now in
    let two = joined _ _ _ begin blocks c.in_ok-begin_array.ensures c.in_ok-write_open_blocks.ensures in
    IfOk-equal _ _ _ _ (OnOk-joined _ _ _ _ (begin ++ blocks) (token.end_array ∷ []) two c.end_array.ensures)
    (ap (λ ts. c.args.out.now ++ (begin ++ ts)) (items_tokens_of open_block_value c.args.blocks.now))
