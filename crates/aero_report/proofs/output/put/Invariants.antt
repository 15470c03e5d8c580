-- What has gone out so far is the front of the text, and no write has failed.
use Rattle.std.proofs.Common.{length, ◌-◌, ◌≡◌, ◌≤◌, take}
use Rattle.std.specs.Io.KnownBytes.{Appends}
use Rattle.aero_model.specs.CallCounts.{inner_of, faults_of, ends_of}
use Rattle.aero_report.proofs.output.put.Given as goal

abbrev pub invariant-loop-written : goal.invariant-loop-written
invariant-loop-written g l = record {
  within : l.written ≤ length l.text;
  bytes : Appends (g.W.Write.contents (inner_of l.initial.writer)) (g.W.Write.contents (inner_of l.writer)) (take l.written l.text);
  faults : faults_of l.writer ≡ faults_of l.initial.writer;
  ends : ends_of l.writer ≡ ends_of l.initial.writer;
}

abbrev pub decreases-loop-written : goal.decreases-loop-written
decreases-loop-written g l = length l.text - l.written
