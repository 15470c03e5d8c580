use Rattle.std.proofs.Common.{◌≡◌, ℕ, ◌<◌, ◌≤◌, ◌-◌}
use Rattle.std.specs.Prelude.{true, length}
use Rattle.aero_leads.specs.Seen.{seen_at}
use Rattle.aero_leads.proofs.news.next_news.Given as goal

abbrev pub invariant-loop-at : goal.invariant-loop-at
invariant-loop-at l = record {
  later : l.from ≤ l.at;
  passed : (w : ℕ) → l.from ≤ w → w < l.at → seen_at l.theirs w ≡ true → seen_at l.mine w ≡ true;
}

abbrev pub decreases-loop-at : goal.decreases-loop-at
decreases-loop-at l = length l.theirs - l.at
