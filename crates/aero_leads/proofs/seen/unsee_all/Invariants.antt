use Rattle.std.proofs.Common.{◌≡◌, ℕ, take}
use Rattle.std.specs.Prelude.{◌==◌, ◌≢◌, ◌&&◌, ◌||◌, is_some, true, false}
use Rattle.std.specs.List.{list_any}
use Rattle.aero_leads.specs.Kept.{least_in}
use Rattle.aero_leads.specs.Listed.{followers}
use Rattle.aero_leads.specs.Seen.{is_seen, is_whole}
use Rattle.aero_leads.proofs.seen.unsee_all.Given as goal

abbrev pub invariant-loop-i : goal.invariant-loop-i
invariant-loop-i l = record {
  so : (o v : ℕ) → is_seen l.seen o v ≡ true → (is_seen l.fn.seen o v || (is_seen l.fn.seen o l.w && is_some (least_in l.later v))) ≡ true;
  kept : (o v : ℕ) → v ≢ l.w → is_seen l.fn.seen o v ≡ true → is_seen l.seen o v ≡ true;
  own : is_seen l.seen l.w l.w ≡ false;
  gone : (o : ℕ) → list_any (λ u. u == o) (take l.i (followers l.led l.w)) ≡ true → is_seen l.seen o l.w ≡ false;
  whole : (o : ℕ) → is_whole l.seen o ≡ true → is_whole l.fn.seen o ≡ true;
  still : (o : ℕ) → o ≢ l.w → list_any (λ u. u == o) (take l.i (followers l.led l.w)) ≡ false → is_seen l.seen o l.w ≡ is_seen l.fn.seen o l.w;
  handed : (o v : ℕ) → o ≢ l.w → list_any (λ u. u == o) (take l.i (followers l.led l.w)) ≡ true → is_seen l.fn.seen o l.w ≡ true → is_whole l.seen o ≡ true → v ≢ l.w → is_some (least_in l.later v) ≡ true → is_seen l.seen o v ≡ true;
}
