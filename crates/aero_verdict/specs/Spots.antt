-- The events of a part by their places in it.
use Rattle.std.specs.Prelude.{ℕ, ◌<◌, List, length, slice_get, Option, Some, None, option_map}
use Rattle.aero_model.specs.declared.numbered.What.{What}
use Rattle.aero_model.specs.declared.numbered.What.TheVariants.{Read, Write, Acquire, Release, Fork, Join, Begin, End, Exempt}
use Rattle.aero_model.specs.Named.{Named}
use Rattle.aero_model.specs.Numbering.{Tables}
use Rattle.aero_grammar.specs.Reading.{Reading}
use Rattle.aero_verdict.specs.declared.on_line.Spot.{Spot}

-- the event at this place, if there is one
abbrev pub named_at : Reading → ℕ → Option Named
named_at part place = option_map (λ e. e.1) (slice_get part.events place)

abbrev pub named_spot : Spot → Option Named
named_spot spot = named_at spot.part.now spot.place

-- the name of the target, or the label, if there is one, is in its table
abbrev pub HasTarget : Tables → List (List ℕ) → What → Type 0
HasTarget tables labels (Read x) = x < length tables.variables
HasTarget tables labels (Write x) = x < length tables.variables
HasTarget tables labels (Acquire l) = l < length tables.locks
HasTarget tables labels (Release l) = l < length tables.locks
HasTarget tables labels (Fork u) = u < length tables.threads
HasTarget tables labels (Join u) = u < length tables.threads
HasTarget tables labels (Begin None) = Unit {0}
HasTarget tables labels (Begin (Some l)) = l < length labels
HasTarget tables labels End = Unit {0}
HasTarget tables labels Exempt = Unit {0}
