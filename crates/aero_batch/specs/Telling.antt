-- Telling the next source of a run.
use Rattle.std.specs.Prelude.{◌≡◌, ℕ, Bool, false, List, Result, Ok}
use Rattle.aero_model.specs.CallCounts.{Seen}
use Rattle.aero_report.specs.declared.form.Form.{Form}
use Rattle.aero_intake.specs.declared.track.Track.{Track}
use Rattle.aero_intake.specs.declared.track.Track.TheVariants.{Found}
use Rattle.aero_telling.specs.declared.cause.Cause.{Cause}
use Rattle.aero_telling.specs.declared.told.Told.{Told}
use Rattle.aero_telling.specs.Telling.{TellsFound}

-- The source is told where it is found what is to be said of it, and else nothing happens.
abbrev pub TellsNext : Form → List ℕ → Track → Seen → Seen → Told → Told → Result Bool Cause → Type 0
TellsNext form name (Found f) before after old new result = TellsFound form name f before after old new result
TellsNext form name track before after old new (Ok false) = (after ≡ before) × (new ≡ old)
TellsNext form name track before after old new _ = ⊥
