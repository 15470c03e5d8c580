-- What is told of sources whose bytes are known.
use Rattle.std.specs.Prelude.{◌≡◌, ◌⊎◌, ◌≤◌, ℕ, true, List, ◌++◌, [], length, slice_get, take, Option, None, Some}
use Rattle.aero_model.specs.declared.verdict.Counts.{Counts}
use Rattle.aero_model.specs.declared.verdict.Ending.{Ending}
use Rattle.aero_model.specs.declared.verdict.Ending.TheVariants.{Whole, Stopped}
use Rattle.aero_model.specs.CallCounts.{Seen}
use Rattle.aero_report.specs.declared.form.Form.{Form}
use Rattle.aero_judge.specs.Finding.{IsFinding}
use Rattle.aero_model.specs.Terms.{Terms}
use Rattle.aero_telling.specs.declared.cause.Cause.{Cause}
use Rattle.aero_telling.specs.declared.notable.Notable.{Notable}
use Rattle.aero_telling.specs.Founds.{Found, Sighted, WasRunTo}
use Rattle.aero_intake.specs.Source.{Sight}
use Rattle.aero_program.specs.declared.command.Config.{Config}
use Rattle.aero_program.specs.declared.stamp.Stamp.{Stamp}
use Rattle.aero_program.specs.Command.{are_words}
use Rattle.aero_program.specs.Executed.{WasJudged, terms_asked}
use Rattle.aero_program.specs.Notes.{Noted}
use Rattle.aero_program.specs.Sightings.{sightings}
use Rattle.aero_program.specs.Streams.{Shown}

-- these bytes are a front of the text, and all of it where they ended as a whole source does
pub record IsFrontOf (text bytes : List ℕ) (ending : Ending) : Type 0 where
  pub left : List ℕ
  pub is : text ≡ bytes ++ left
  pub whole : ending ≡ Whole → left ≡ []

-- A run over sources whose readers were made for their names, found of each that has these bytes a front of its bytes, and all where it says that the source was whole.
abbrev pub KnownBytesAreJudged : Type 0
KnownBytesAreJudged =
    (terms : Terms) (form : Form) (last : Counts → List ℕ) (made : List ℕ → Sight) (names : List (List ℕ)) (new : List Sighted) (before after : Seen)
    (endings : List (ℕ × Ending)) (notables : List (Option Notable)) (counts : Counts) (cause : Option Cause)
    (ran : WasRunTo terms form last (sightings made names) new before after endings notables counts cause) (place : ℕ) (found : Found) (text : List ℕ)
    → slice_get ran.founds place ≡ Some found → (made found.name).bytes ≡ Some text → IsFrontOf text found.bytes found.ending

-- What was found of a source is what the definitions say of this text, read to its end, and what was noted of it is of the text too, with no reason why a read failed.
pub record IsOfText (terms : Terms) (text : List ℕ) (found : Found) (n : Noted) : Type 0 where
  pub bytes : found.bytes ≡ text
  pub ending : found.ending ≡ Whole
  pub finding : ∥ IsFinding text Whole terms found.finding ∥₁
  pub start : n.start ≡ take 3 text
  pub reason : n.reason ≡ None
  pub came : n.came ≡ text

-- What was found of a source that was read no further, as the terms ask for, is what the definitions say of this text to its end.
pub record IsOfFront (terms : Terms) (text : List ℕ) (found : Found) : Type 0 where
  pub asked_for : terms.stop ≡ true
  pub ending : found.ending ≡ Stopped
  pub front : IsFrontOf text found.bytes found.ending
  pub finding : ∥ IsFinding text Whole terms found.finding ∥₁

-- Of a file that a word names, that has this text and that can't fail, the program tells what the definitions say of the text, where the text isn't too large: it was read to its end, or no further than the configuration asks for.
abbrev pub KnownFilesAreJudged : (can_fail : List ℕ → Type 0) → (holds : List ℕ → Stamp → Option (List ℕ) → Type 0) → Type 0
KnownFilesAreJudged can_fail holds =
    (known : List ℕ → Option (List ℕ)) (config : Config) (given : Option (List ℕ)) (left : Option Seen) (shown shown_after : Shown) (told told_after : Seen) (status : ℕ)
    (was : WasJudged known can_fail holds config given left shown shown_after told told_after status) (place : ℕ) (found : Found) (n : Noted) (text : List ℕ)
    → are_words config.files ≡ true → slice_get was.ran.founds place ≡ Some found → slice_get was.noted place ≡ Some n
    → known found.name ≡ Some text → (can_fail found.name → ⊥) → length text ≤ was.limits.bytes
    → ∥ IsOfText (terms_asked config was.listed was.limits) text found n ⊎ IsOfFront (terms_asked config was.listed was.limits) text found ∥₁
