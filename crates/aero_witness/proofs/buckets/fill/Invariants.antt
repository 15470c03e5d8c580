use Rattle.std.proofs.Common.{◌≡◌}
use Rattle.aero_witness.specs.Buckets.{IsFilled}
use Rattle.aero_witness.proofs.buckets.fill.Given as goal

abbrev pub invariant-loop-place : goal.invariant-loop-place
invariant-loop-place l = record { kind : l.bucket.kind ≡ l.fn.bucket.kind; filled : IsFilled l.events l.basis.transactions.firsts.items l.basis.first l.place l.bucket }
