use Rattle.std.proofs.Common.{◌≡◌, ℕ, take, vec_len}
use Rattle.std.specs.Prelude.{◌==◌, if◌then◌else◌}
use Rattle.std.specs.List.{list_any}
use Rattle.aero_leads.specs.Kept.{least_in, rows_in, absorbed, HaveSameBlocks}
use Rattle.aero_leads.specs.Listed.{followers, AreListed, Grows}
use Rattle.aero_leads.specs.Single.{AreSingle}
use Rattle.aero_leads.proofs.spreading.spread_all.Given as goal

abbrev pub invariant-loop-i : goal.invariant-loop-i
invariant-loop-i l = record {
  rows : (o w : ℕ) → rows_in l.threads.items o w ≡ (if list_any (λ u. u == o) (take l.i (followers l.initial.led l.t)) then absorbed (least_in l.ended) (rows_in l.initial.threads.items o) l.t w else rows_in l.initial.threads.items o w);
  list : followers l.led l.t ≡ followers l.initial.led l.t;
  same : HaveSameBlocks l.initial.threads.items l.threads.items;
  listed : AreListed l.initial.threads.items l.initial.led → AreListed l.threads.items l.led;
  grows : Grows l.initial.led l.led;
  single : AreSingle l.threads.items;
  room : vec_len l.threads ≡ vec_len l.initial.threads;
}
