use Rattle.aero_judge.specs.Spans.{AreLastsTo}
use Rattle.aero_judge.proofs.spans.lasts_of.Given as goal

-- the last places among the events so far
abbrev pub invariant-loop-place : goal.invariant-loop-place
invariant-loop-place l = AreLastsTo l.firsts l.place l.lasts.items
