use Rattle.std.proofs.Common.{◌≡◌, ℕ, ◌<◌, ◌≤◌, ◌-◌}
use Rattle.std.specs.Prelude.{is_some, true, false, length}
use Rattle.aero_leads.specs.Kept.{least_in, is_below}
use Rattle.aero_leads.specs.Listed.{IsListedRow, Grows}
use Rattle.aero_leads.specs.Seen.{seen_at}
use Rattle.aero_leads.specs.Single.{IsSingle}
use Rattle.aero_leads.specs.Steps.{gains}
use Rattle.aero_leads.proofs.gaining.gain_each.Given as goal

abbrev pub invariant-loop-at : goal.invariant-loop-at
invariant-loop-at l = record {
  gained : (w : ℕ) → w < l.at → least_in l.gainer.row.items w ≡ gains (least_in l.initial.gainer.row.items w) (is_below (least_in l.other w) l.taking.below) l.taking.place;
  rest : (w : ℕ) → l.at ≤ w → least_in l.gainer.row.items w ≡ least_in l.initial.gainer.row.items w;
  known : (w : ℕ) → l.at ≤ w → seen_at l.gainer.known.openers.items w ≡ seen_at l.initial.gainer.known.openers.items w;
  here : l.at < length l.theirs → seen_at l.gainer.known.openers.items l.at ≡ false;
  so : (w : ℕ) → seen_at l.gainer.known.openers.items w ≡ true → is_some (least_in l.gainer.row.items w) ≡ true;
  whole : l.gainer.known.whole ≡ true → (w : ℕ) → is_some (least_in l.gainer.row.items w) ≡ true → seen_at l.gainer.known.openers.items w ≡ true;
  single : IsSingle l.gainer.row.items;
  listed : IsListedRow l.initial.gainer.row.items l.initial.led l.initial.gainer.thread → IsListedRow l.gainer.row.items l.led l.gainer.thread;
  grows : Grows l.initial.led l.led;
  thread : l.gainer.thread ≡ l.initial.gainer.thread;
}

abbrev pub decreases-loop-at : goal.decreases-loop-at
decreases-loop-at l = length l.theirs - l.at
