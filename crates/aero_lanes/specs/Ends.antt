-- What a lane gives back.
use Rattle.std.specs.Prelude.{◌≡◌, IfSome}
use Rattle.aero_telling.specs.Founds.{sighted, whose}
use Rattle.aero_intake.specs.Alone.{IsFoundIn}
use Rattle.aero_intake.specs.Source.{Sight}
use Rattle.aero_intake.specs.declared.source.SourceOf.{SourceOf}
use Rattle.aero_lanes.specs.declared.lane.Ended.{Ended}
use Rattle.aero_model.specs.Terms.{Terms}

-- the source of the lane, by its name and what its reader was made for, and what was found of it, if that is known
pub record IsEndOf {R : Type 0} (known : R → Sight) (terms : Terms) (before : SourceOf R) (end : Ended R) : Type 0 where
  pub whose_is : whose (sighted known end.source) ≡ whose (sighted known before)
  pub found : IfSome end.found (IsFoundIn terms (known before.reader) (known end.source.reader))
