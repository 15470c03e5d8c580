use Rattle.std.proofs.Common.{◌≡◌, ℕ, ◌<◌, ◌≤◌, ◌-◌, vec_len}
use Rattle.aero_leads.specs.Highs.{high_of}
use Rattle.aero_leads.proofs.highs.add_highs.Given as goal

abbrev pub invariant-loop-highs : goal.invariant-loop-highs
invariant-loop-highs l = record {
  room : l.before ≤ vec_len l.highs.places;
  same : (o : ℕ) → o < l.before → high_of l.highs o ≡ high_of l.initial.highs o;
}

abbrev pub decreases-loop-highs : goal.decreases-loop-highs
decreases-loop-highs l = l.after - vec_len l.highs.places
