use Rattle.aero_witness.proofs.Nests.{Known}
use Rattle.aero_witness.proofs.transactions.transactions_of.Given as goal

abbrev pub invariant-loop-place : goal.invariant-loop-place
invariant-loop-place l = Known l.events l.place l.firsts.items l.nests.items
