use Rattle.std.proofs.Common.{◌≡◌, ℕ, Some, take, if◌then◌else◌}
use Rattle.std.specs.Prelude.{is_some, false}
use Rattle.aero_leads.specs.Kept.{least_in}
use Rattle.aero_leads.specs.Indexed.{IsIndexed}
use Rattle.aero_leads.specs.Listed.{IsListedRow, Grows, followers}
use Rattle.aero_leads.specs.Single.{IsSingle}
use Rattle.aero_leads.specs.Steps.{lesser}
use Rattle.aero_leads.proofs.row.lower_all.Given as goal

abbrev pub invariant-loop-lead : goal.invariant-loop-lead
invariant-loop-lead l = record {
  lowered : (w : ℕ) → least_in l.row.items w ≡ (if is_some (least_in (take l.lead-index l.other) w) then lesser (least_in l.initial.row.items w) (Some l.place) else least_in l.initial.row.items w);
  listed : IsListedRow l.initial.row.items l.initial.led l.o → IsListedRow l.row.items l.led l.o;
  grows : Grows l.initial.led l.led;
  indexed : IsIndexed l.row.items l.led.index;
  single : IsSingle l.initial.row.items → IsSingle l.row.items;
  others : (v : ℕ) → is_some (least_in (take l.lead-index l.other) v) ≡ false → followers l.led v ≡ followers l.initial.led v;
}
