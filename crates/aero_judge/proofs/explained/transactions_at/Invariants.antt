use Rattle.std.proofs.Common.{take}
use Rattle.std.specs.List.{AllZip}
use Rattle.aero_judge.specs.Records.{IsTransactionAt}
use Rattle.aero_judge.proofs.explained.transactions_at.Given as goal

-- the transactions of the spans so far
abbrev pub invariant-loop-span : goal.invariant-loop-span
invariant-loop-span l = AllZip (IsTransactionAt l.names l.recorder) (take l.span-index l.spans) l.told.items
