-- Where a walk comes back to the transaction in which it began.
use Rattle.std.specs.Prelude.{◌≡◌, ◌<◌, true, List, Option}
use Rattle.aero_model.specs.declared.numbered.Numbered.{Numbered}
use Rattle.aero_model.specs.Blocks.{transaction}
use Rattle.aero_model.specs.Graph.{Conflict}
use Rattle.aero_witness.specs.declared.reached.Reached.{Reached}
use Rattle.aero_witness.specs.declared.search.WayBack.{WayBack}
use Rattle.aero_witness.specs.Levels.{AreLevels}
use Rattle.aero_witness.specs.Reached.{is_noted}

-- from the event at the place `out`, which is reached with so many visits before, to the one at the place `back`
pub record ComesBack (trace : List Numbered) (reached : List (Option Reached)) (h : WayBack) : Type 0 where
  pub levels : AreLevels trace (transaction trace h.begin) reached h.level
  pub some : 0 < h.level
  pub out : is_noted reached h.level h.out ≡ true
  pub back : transaction trace h.back ≡ transaction trace h.begin
  pub closes : Conflict trace h.out h.back
