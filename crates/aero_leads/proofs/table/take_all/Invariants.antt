use Rattle.std.proofs.Common.{◌≡◌, take, vec_len}
use Rattle.std.specs.Prelude.{false}
use Rattle.aero_leads.specs.Kept.{rows_in, leads_to_any, TakesAll, HaveSameBlocks}
use Rattle.aero_leads.proofs.table.take_all.Given as goal

abbrev pub invariant-loop-last : goal.invariant-loop-last
invariant-loop-last l = record {
  none : leads_to_any (rows_in l.initial.table.threads.items) l.t l.t (take l.last-index l.lasts) ≡ false;
  takes : TakesAll (rows_in l.initial.table.threads.items) (rows_in l.table.threads.items) l.place l.t (take l.last-index l.lasts);
  same : HaveSameBlocks l.initial.table.threads.items l.table.threads.items;
  room : vec_len l.table.threads ≡ vec_len l.initial.table.threads;
}
