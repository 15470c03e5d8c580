use Rattle.std.proofs.Common.{◌≡◌, ◌++◌, take}
use Rattle.std.specs.Prelude.{flat_map}
use Rattle.json.specs.Tree.{json_tokens}
use Rattle.aero_report.specs.Json.{transaction_value}
use Rattle.aero_report.proofs.cycles.write_all_transactions.Given as goal

-- those of the transactions so far
abbrev pub invariant-loop-transaction : goal.invariant-loop-transaction
invariant-loop-transaction l = l.out ≡ l.initial.out ++ flat_map (λ t. json_tokens (transaction_value t)) (take l.transaction-index l.transactions)
