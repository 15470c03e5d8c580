use Rattle.std.proofs.Common.{◌≡◌, ◌<◌, ℕ, max, take, Some}
use Rattle.std.specs.Prelude.{◌≢◌, slice_get}
use Rattle.aero_clock.specs.Numbers.{number_at}
use Rattle.aero_access.specs.declared.kept.Kept.{Kept}
use Rattle.aero_access.specs.LastClocks.{greatest_but}
use Rattle.aero_access.specs.Threads.{IsClosedBy, HasSameBlock}
use Rattle.aero_access.specs.States.{State}
use Rattle.aero_access.specs.Heeds.{Heeds}
use Rattle.aero_access.proofs.readers.Readers.give.Given as goal

abbrev pub invariant-loop-kept : goal.invariant-loop-kept
invariant-loop-kept l = record {
  same : HasSameBlock l.initial.thread l.thread;
  none : (i : ℕ) (k : Kept) → i < l.kept-index → slice_get l.self.kept.items i ≡ Some k → k.thread ≢ l.t → ¬ IsClosedBy l.initial.thread.begin (number_at k.clock);
  clock : (u : ℕ) → number_at l.thread.clock u ≡ max (number_at l.initial.thread.clock u) (greatest_but l.t (take l.kept-index l.self.kept.items) u);
  heeds : (w : State) → Heeds w (number_at l.initial.thread.clock) → ((i : ℕ) (k : Kept) → slice_get l.self.kept.items i ≡ Some k → Heeds w (number_at k.clock)) → Heeds w (number_at l.thread.clock);
}
