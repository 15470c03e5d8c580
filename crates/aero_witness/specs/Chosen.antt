-- What is left of some arrivals.
use Rattle.std.specs.Prelude.{◌⊎◌, Bool, true, false, List, Option, Some, None, IsSome, Contains}
use Rattle.aero_witness.specs.declared.buckets.Arrival.{Arrival}
use Rattle.aero_witness.specs.declared.reached.Reached.{Reached}
use Rattle.aero_witness.specs.Reached.{reached_at}

abbrev pub is_none : Option Reached → Bool
is_none None = true
is_none (Some r) = false

-- no others, and all that come in at a place that isn't reached
pub record AreChosen (reached : List (Option Reached)) (old new : List Arrival) : Type 0 where
  pub only : (c : Arrival) → Contains new c → Contains old c
  pub all : (c : Arrival) → Contains old c → Contains new c ⊎ IsSome (reached_at reached c.enters)
