use Rattle.std.proofs.Common.{ℕ, Option, length, take}
use Rattle.aero_witness.specs.declared.kinds.Kind.{Kind}
use Rattle.aero_witness.specs.Kinds.{sources}
use Rattle.aero_witness.specs.Buckets.{IsBucket, IsSameBut, AreDrawn}
use Rattle.aero_witness.proofs.left.gather_bucket.Given as goal

abbrev pub invariant-loop-place : goal.invariant-loop-place
invariant-loop-place l = record { same : IsSameBut l.fn.bucket l.bucket; drawn : (outer : Kind → ℕ → Option ℕ) → IsBucket l.events outer l.fn.bucket.kind l.fn.bucket → AreDrawn (sources l.events l.fn.bucket.kind) (outer l.fn.bucket.kind) (take l.place-index l.front) (length l.events) l.fn.bucket.heads.items l.bucket.heads.items l.fn.arrivals.items l.arrivals.items }
