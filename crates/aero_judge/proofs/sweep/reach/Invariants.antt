use Rattle.std.proofs.Common.{◌+◌, ◌-◌, vec_len}
use Rattle.aero_leads.specs.Standing.{state_of}
use Rattle.aero_judge.specs.Swept.{AreLeasts}
use Rattle.aero_judge.proofs.sweep.reach.Given as goal

abbrev pub invariant-loop-leasts : goal.invariant-loop-leasts
invariant-loop-leasts l = record { leasts : AreLeasts (state_of l.leads).rows l.leasts.items }

abbrev pub decreases-loop-leasts : goal.decreases-loop-leasts
decreases-loop-leasts l = l.thread + 1 - vec_len l.leasts
