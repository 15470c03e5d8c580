use Rattle.std.proofs.Common.{◌≡◌, ℕ, take}
use Rattle.aero_leads.specs.Kept.{least_in, is_below}
use Rattle.aero_leads.specs.Indexed.{IsIndexed}
use Rattle.aero_leads.specs.Listed.{IsListedRow, Grows}
use Rattle.aero_leads.specs.Single.{IsSingle}
use Rattle.aero_leads.specs.Steps.{gains}
use Rattle.aero_leads.proofs.row.gain_all.Given as goal

abbrev pub invariant-loop-lead : goal.invariant-loop-lead
invariant-loop-lead l = record {
  gained : (w : ℕ) → least_in l.row.items w ≡ gains (least_in l.initial.row.items w) (is_below (least_in (take l.lead-index l.other) w) l.taking.below) l.taking.place;
  listed : IsListedRow l.initial.row.items l.initial.led l.o → IsListedRow l.row.items l.led l.o;
  grows : Grows l.initial.led l.led;
  indexed : IsIndexed l.row.items l.led.index;
  single : IsSingle l.initial.row.items → IsSingle l.row.items;
}
