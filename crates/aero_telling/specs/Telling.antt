-- Telling what was found of the sources, one after the other.
use Rattle.std.specs.Prelude.{◌≡◌, ℕ, ◌+◌, ◌<◌, Bool, true, false, List, [], ◌∷◌, ◌++◌, ◌||◌, length, take, vec_len, vec_capacity, Option, None, Some, Result, Ok}
use Rattle.std.specs.Prelude.{Err}
use Rattle.std.specs.Io.KnownBytes.{Appends}
use Rattle.aero_intake.specs.Begun.{noted_at}
use Rattle.aero_intake.specs.declared.begun.Begun.{Begun}
use Rattle.aero_intake.specs.declared.found.Found as model
use Rattle.aero_model.specs.CallCounts.{Seen}
use Rattle.aero_model.specs.Verdicts.{counted, total}
use Rattle.aero_report.specs.declared.form.Form.{Form}
use Rattle.aero_report.specs.Forms.{source_line_in}
use Rattle.aero_telling.specs.declared.cause.Cause.{Cause}
use Rattle.aero_telling.specs.declared.cause.Cause.TheVariants.{Memory, Write}
use Rattle.aero_telling.specs.declared.told.Told.{Told}
use Rattle.aero_telling.specs.Notables.{notable_of}
use Rattle.aero_telling.specs.Founds.{Took}

-- one more source may be told
pub record HasRoom (told : Told) : Type 0 where
  pub reserved : vec_len told.endings < vec_capacity told.endings
  pub notables_reserved : vec_len told.notables < vec_capacity told.notables
  pub few : total told.counts < 65536

-- A part of the text went out, and then a write failed.
pub record WasCut (before after : Seen) (text : List ℕ) : Type 0 where
  pub written : ℕ
  pub part : written < length text
  pub went : Appends before.bytes after.bytes (take written text)
  pub faults : after.faults ≡ before.faults + 1

-- The text goes out, or nothing where memory is refused, or a part where a write fails.
abbrev pub TellsText : List ℕ → Seen → Seen → Result Unit Cause → Type 0
TellsText text before after (Ok u) = Took before after text
TellsText text before after (Err Memory) = Took before after []
TellsText text before after (Err Write) = WasCut before after text

-- Behind the lines of a run that stopped for this cause, or for none, the text goes out where it stopped for none. The run stops so then.
abbrev pub SumsUp : List ℕ → (stopped : Option Cause) → Seen → Seen → Option Cause → Type 0
SumsUp text (Some why) before after cause = (after ≡ before) × (cause ≡ Some why)
SumsUp text None before after None = Took before after text
SumsUp text None before after (Some why) = TellsText text before after (Err why)

-- What was told of the labels is joined with what one more source says of them: where one of both says nothing, nothing is told.
abbrev pub JoinsLabels : (old found new : Option Begun) → Type 0
JoinsLabels None found new = new ≡ None
JoinsLabels (Some had) None new = new ≡ None
JoinsLabels (Some had) (Some more) new =
    (both : Begun) × (new ≡ Some both) × (length both.flags.items ≡ length had.flags.items)
    × ((place : ℕ) → place < length had.flags.items → noted_at both.flags.items place ≡ (noted_at had.flags.items place || noted_at more.flags.items place))

-- One more source is told, of which this was found.
pub record IsOneMore (old new : Told) (found : model.Found) : Type 0 where
  pub endings : new.endings.items ≡ old.endings.items ++ (found.bytes, found.ending) ∷ []
  pub room : vec_capacity new.endings ≡ vec_capacity old.endings
  pub notables : new.notables.items ≡ old.notables.items ++ notable_of found.finding ∷ []
  pub notables_room : vec_capacity new.notables ≡ vec_capacity old.notables
  pub counts : new.counts ≡ counted old.counts found.finding
  pub counted_one : total new.counts ≡ total old.counts + 1
  pub begun : JoinsLabels old.begun found.begun new.begun

-- The source of which this was found is told.
abbrev pub TellsFound : Form → List ℕ → model.Found → Seen → Seen → Told → Told → Result Bool Cause → Type 0
TellsFound form name f before after old new (Ok true) = Took before after (source_line_in form name f.finding) × IsOneMore old new f
TellsFound form name f before after old new (Ok false) = ⊥
TellsFound form name f before after old new (Err Memory) = Took before after [] × (new ≡ old)
TellsFound form name f before after old new (Err Write) = WasCut before after (source_line_in form name f.finding) × (new ≡ old)

-- why a run stopped, if it did
abbrev pub cause_of : Result Unit Cause → Option Cause
cause_of (Ok u) = None
cause_of (Err cause) = Some cause
