use Rattle.std.proofs.Common.{◌+◌, ◌≤◌, ℕ, take}
use Rattle.std.specs.Prelude.{Contains}
use Rattle.aero_witness.specs.declared.kinds.Kind.{Kind}
use Rattle.aero_witness.specs.Kinds.{sources}
use Rattle.aero_witness.specs.Buckets.{head_of}
use Rattle.aero_witness.specs.Left.{bucket_of}
use Rattle.aero_witness.proofs.left.leads_back.Given as goal

abbrev pub invariant-loop-place : goal.invariant-loop-place
invariant-loop-place l = (i : ℕ) (k : Kind) → Contains (take l.place-index l.front) i → head_of (bucket_of l.left k).origins.items (sources l.events k i) ≤ i + 1
