use Rattle.std.proofs.Common.{◌≡◌, ◌+◌, ◌-◌, ℕ, vec_len}
use Rattle.aero_order.specs.MarkWords.{reads_at}
use Rattle.aero_order.proofs.marks.reach.Given as goal

abbrev pub invariant-loop-reads : goal.invariant-loop-reads
invariant-loop-reads l = (y : ℕ) → reads_at l.reads.items y ≡ reads_at l.initial.reads.items y

abbrev pub decreases-loop-reads : goal.decreases-loop-reads
decreases-loop-reads l = l.at + 1 - vec_len l.reads
