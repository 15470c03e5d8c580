use Rattle.std.proofs.Common.{◌≡◌, ℕ, Option, Some, subst, sym}
use Rattle.std.specs.Prelude.{slice_get}
use Rattle.aero_clock.specs.Numbers.{number_at}
use Rattle.aero_access.specs.declared.kept.Kept.{Kept}
use Rattle.aero_access.specs.declared.readers.Readers.{Readers}
use Rattle.aero_access.specs.Table.{readers_in}
use Rattle.aero_access.specs.Threads.{CountIsTest}
use Rattle.aero_access.proofs.clock_rules.take_reads.Goals as goal

pub give-requires : goal.give-requires
give-requires c =
    subst (λ (o : Option Readers). (i : ℕ) (k : Kept) → slice_get (readers_in o) i ≡ Some k → CountIsTest c.args.thread.now c.args.t (number_at k.clock)) (sym c.in-Some.ensures) c.requires
