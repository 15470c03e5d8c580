use Rattle.std.proofs.Common.{take}
use Rattle.aero_leads.specs.Standing.{state_of}
use Rattle.aero_judge.specs.Recorded.{AreMarks}
use Rattle.aero_judge.specs.Swept.{AreLeasts}
use Rattle.aero_judge.proofs.sweep.marks_of.Given as goal

abbrev pub invariant-loop-i : goal.invariant-loop-i
invariant-loop-i l = record {
  leasts : AreLeasts (state_of l.leads).rows l.leasts.items;
  marks : AreMarks (state_of l.leads).rows (take l.i l.events) l.places l.marks.items;
}
