use Rattle.std.proofs.Common.{[], ◌∷◌, ◌++◌, codes, flat_map, ap}
use Rattle.std.proofs.lemmas.Result.{IfOk-equal}
use Rattle.json.specs.Token as token
use Rattle.json.specs.Tree.{json_tokens}
use Rattle.aero_report.specs.Json.{transaction_value}
use Rattle.aero_report.proofs.Appended.{joined, OnOk-joined}
use Rattle.aero_report.proofs.Tokens.{items_tokens_of}
use Rattle.aero_report.proofs.cycles.write_transactions.Goals as goal

pub returns : goal.returns
returns c =
    let begin = token.key (codes "transactions") ∷ token.begin_array ∷ [] in
    let transactions = flat_map (λ s. json_tokens (transaction_value s)) c.args.transactions.now in
    let two = joined _ _ _ begin transactions c.in_ok-begin_array.ensures c.in_ok-write_all_transactions.ensures in
    IfOk-equal _ _ _ _ (OnOk-joined _ _ _ _ (begin ++ transactions) (token.end_array ∷ []) two c.end_array.ensures)
    (ap (λ ts. c.args.out.now ++ (begin ++ ts)) (items_tokens_of transaction_value c.args.transactions.now))
