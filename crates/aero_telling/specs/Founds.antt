-- What a run found of its sources.
use Rattle.std.specs.Prelude.{◌≡◌, ℕ, ◌+◌, ◌<◌, ◌⊎◌, List, [], ◌++◌, map, length, take, slice_get, Option, Some, None}
use Rattle.std.specs.Io.KnownBytes.{Appends}
use Rattle.aero_model.specs.declared.verdict.Counts.{Counts}
use Rattle.aero_model.specs.declared.verdict.Ending.{Ending}
use Rattle.aero_model.specs.declared.verdict.Finding.{Finding}
use Rattle.aero_model.specs.CallCounts.{Seen}
use Rattle.aero_report.specs.declared.form.Form.{Form}
use Rattle.aero_report.specs.Forms.{source_line_in, source_lines_in, summary_line_in}
use Rattle.aero_model.specs.Verdicts.{counts_of}
use Rattle.aero_telling.specs.Notables.{notable_of}
use Rattle.aero_telling.specs.declared.cause.Cause.{Cause}
use Rattle.aero_telling.specs.declared.cause.Cause.TheVariants.{Memory, Write}
use Rattle.aero_telling.specs.declared.notable.Notable.{Notable}
use Rattle.aero_intake.specs.declared.source.SourceOf.{SourceOf}
use Rattle.aero_intake.specs.PlanTerms.{options_in}
use Rattle.aero_intake.specs.Source.{Place, Sight, WasRead, place_in}
use Rattle.aero_judge.specs.Finding.{IsFinding}
use Rattle.aero_model.specs.Terms.{Terms}

-- a source at a moment, as contracts see it: its name, and its reader
pub record Sighted : Type 0 where
  pub name : List ℕ
  pub reader : Sight

-- `sight` is what contracts see of a reader
abbrev pub sighted : {R : Type 0} → (R → Sight) → SourceOf R → Sighted
sighted sight source = record { name = source.name.items; reader = sight source.reader }

-- its name, and where its reader reads, if the reader says so
abbrev pub whose : Sighted → List ℕ × Option Place
whose s = (s.name, place_in s.reader)

-- what was found of a source: the bytes that came, how they ended, and what is said of them
pub record Found : Type 0 where
  pub name : List ℕ
  pub bytes : List ℕ
  pub ending : Ending
  pub finding : Finding

-- It has the source's name, its bytes came from the source's reader and ended so, and what is said of it is the finding on these bytes.
pub record IsFoundOf (terms : Terms) (before after : Sighted) (found : Found) : Type 0 where
  pub name : found.name ≡ before.name
  pub read : WasRead before.reader after.reader terms.rules.limits.bytes found.bytes found.ending
  pub finding : ∥ IsFinding found.bytes found.ending terms found.finding ∥₁

-- the source at the place was found to be that
pub record IsFoundAt (terms : Terms) (old new : List Sighted) (place : ℕ) (found : Found) : Type 0 where
  pub before : Sighted
  pub after : Sighted
  pub was : slice_get old place ≡ Some before
  pub is : slice_get new place ≡ Some after
  pub found_of : IsFoundOf terms before after found

-- these are of the first sources, one for each, in their order
abbrev pub AreOfTheFirst : Terms → List Sighted → List Sighted → List Found → Type 0
AreOfTheFirst terms old new founds = (place : ℕ) (found : Found) → slice_get founds place ≡ Some found → IsFoundAt terms old new place found

-- a source's name and what is said of it, of which its line is made
abbrev pub told : Found → List ℕ × Finding
told found = (found.name, found.finding)

-- how many bytes came, and how they ended
abbrev pub ending_of : Found → ℕ × Ending
ending_of found = (length found.bytes, found.ending)

-- what is noted of a source beside its line, if something is
abbrev pub notable : Found → Option Notable
notable found = notable_of found.finding

abbrev pub lines_of_all : Form → List Found → List ℕ
lines_of_all form founds = source_lines_in form (map told founds)

abbrev pub counts_of_all : List Found → Counts
counts_of_all founds = counts_of (map (λ f. f.finding) founds)

-- what the writer took is this text, and no write failed
pub record Took (before after : Seen) (text : List ℕ) : Type 0 where
  pub went : Appends before.bytes after.bytes text
  pub faults : after.faults ≡ before.faults

-- the text that comes after those of the founds: that of the next source, or the last one, which their counts make, where there is none
abbrev pub IsNextText : Terms → Form → (last : Counts → List ℕ) → List Sighted → List Sighted → List Found → List ℕ → Type 0
IsNextText terms form last old new founds text =
    ((found : Found) × IsFoundAt terms old new (length founds) found × (text ≡ source_line_in form found.name found.finding))
    ⊎ ((length founds ≡ length old) × (text ≡ last (counts_of_all founds)))

-- what the writer took is these lines and then a part of the next text, at which a write failed
pub record WasCutOff (terms : Terms) (form : Form) (last : Counts → List ℕ) (old new : List Sighted) (founds : List Found) (before after : Seen) : Type 0 where
  pub text : List ℕ
  pub next : IsNextText terms form last old new founds text
  pub written : ℕ
  pub part : written < length text
  pub went : Appends before.bytes after.bytes (lines_of_all form founds ++ take written text)
  pub faults : after.faults ≡ before.faults + 1

-- What was written. Without a refusal it is the lines of all sources and the last text. Where memory was refused it is the lines of the
-- founds alone, and where a write failed a part of the next text follows them.
abbrev pub IsWritten : Terms → Form → (last : Counts → List ℕ) → List Sighted → List Sighted → List Found → Seen → Seen → Option Cause → Type 0
IsWritten terms form last old new founds before after None = (length founds ≡ length old) × Took before after (lines_of_all form founds ++ last (counts_of_all founds))
IsWritten terms form last old new founds before after (Some Memory) = Took before after (lines_of_all form founds)
IsWritten terms form last old new founds before after (Some Write) = WasCutOff terms form last old new founds before after

-- A run over these sources, behind whose lines stands a last text. It tells how many bytes came of each of the first ones, how they ended,
-- what is noted of each beside its line, and how many were found to be what, and wrote of these what is said of them.
pub record WasRunTo (terms : Terms) (form : Form) (last : Counts → List ℕ) (old new : List Sighted) (before after : Seen) (endings : List (ℕ × Ending))
    (notables : List (Option Notable)) (counts : Counts) (cause : Option Cause) : Type 0 where
  pub founds : List Found
  pub found : AreOfTheFirst terms old new founds
  pub names : map whose new ≡ map whose old
  pub ended : endings ≡ map ending_of founds
  pub notable : notables ≡ map notable founds
  pub counted : counts ≡ counts_of_all founds
  pub written : IsWritten terms form last old new founds before after cause

-- a run that writes the report: the lines, and behind them the summary
abbrev pub WasRun : Terms → Form → List Sighted → List Sighted → Seen → Seen → List (ℕ × Ending) → List (Option Notable) → Counts → Option Cause → Type 0
WasRun terms form old new before after endings notables counts cause = WasRunTo terms form (summary_line_in form (options_in terms)) old new before after endings notables counts cause

-- where nothing stands behind the lines
abbrev pub no_text : Counts → List ℕ
no_text counts = []

-- a run that writes the lines alone
abbrev pub WasTold : Terms → Form → List Sighted → List Sighted → Seen → Seen → List (ℕ × Ending) → List (Option Notable) → Counts → Option Cause → Type 0
WasTold terms form old new before after endings notables counts cause = WasRunTo terms form no_text old new before after endings notables counts cause
