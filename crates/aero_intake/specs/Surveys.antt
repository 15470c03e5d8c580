-- What a survey of the first chunks of a source stands for.
use Rattle.std.specs.Prelude.{◌≡◌, ◌⊎◌, ◌||◌, ◌-◌, ◌^◌, ℕ, min, Bool, true, false, is_some, List, [], length, take, bytes_eq, slice_get, Option, Some, None, IfSome}
use Rattle.std.specs.List.{list_all, list_any, position}
use Rattle.aero_model.specs.declared.limits.Limits.{Limits}
use Rattle.aero_model.specs.declared.verdict.Ending.{Ending}
use Rattle.aero_model.specs.declared.verdict.Ending.TheVariants.{Whole}
use Rattle.aero_model.specs.Terms.{Rules, Terms}
use Rattle.aero_grammar.specs.Reading.{Reading, whole_reading}
use Rattle.aero_intake.specs.Begun.{AreNoted, begins_in, noted_at}
use Rattle.aero_intake.specs.Held.{decides}
use Rattle.aero_intake.specs.declared.begun.Begun.{Begun}
use Rattle.aero_intake.specs.declared.survey.Survey.{Survey}

-- how many lines these parts have, up to the first fault, but no more than 2^32 - 1, and whether one is malformed
pub record CountsLines (parts : List Reading) (survey : Survey) : Type 0 where
  pub lines : survey.lines ≡ min (whole_reading parts).lines (2 ^ 32 - 1)
  pub fault : survey.has_fault ≡ is_some (whole_reading parts).fault

-- there is a flag for each of so many labels, or none at all
abbrev pub HasFlags : ℕ → List Bool → Type 0
HasFlags count flags = (flags ≡ []) ⊎ (length flags ≡ count)

-- this holds of all labels before that place, and not of the one that stands there
pub record IsFirstWithout (labels : List (List ℕ)) (holds : List ℕ → Bool) (place : ℕ) : Type 0 where
  pub before : list_all holds (take place labels) ≡ true
  pub next : IfSome (slice_get labels place) (λ label. holds label ≡ false)

-- which of the labels begin blocks of these parts
pub record NotesLabels (labels : List (List ℕ)) (parts : List Reading) (survey : Survey) : Type 0 where
  pub room : HasFlags (length labels) survey.begun.flags.items
  pub noted : AreNoted labels (begins_in parts) survey.begun.flags.items
  pub first : IsFirstWithout labels (begins_in parts) survey.passed

-- the survey is of these parts, and of this list of labels
pub record IsSurveyOf (labels : List (List ℕ)) (parts : List Reading) (survey : Survey) : Type 0 where
  pub counted : CountsLines parts survey
  pub noted : NotesLabels labels parts survey

-- a flag is set for each of the names that is listed, and no other one changes
abbrev pub MarksNames : (labels names : List (List ℕ)) → (old new : List Bool) → Type 0
MarksNames labels names old new =
    (place : ℕ) (label : List ℕ) → position (bytes_eq label) labels ≡ Some place → noted_at new place ≡ (noted_at old place || list_any (bytes_eq label) names)

-- What the parts of a whole source say of the labels: nothing, if a line is malformed, or one too many.
abbrev pub IsSaidBy : Limits → (labels : List (List ℕ)) → List Reading → Option Begun → Type 0
IsSaidBy limits labels parts None = decides limits parts ≡ true
IsSaidBy limits labels parts (Some begun) = (decides limits parts ≡ false) × AreNoted labels (begins_in parts) begun.flags.items

-- the same of a whole source that may be read no further than it must be: then nothing
abbrev pub IsSaidUnless : (stop : Bool) → Rules → List Reading → Option Begun → Type 0
IsSaidUnless true rules parts begun = begun ≡ None
IsSaidUnless false rules parts begun = IsSaidBy rules.limits rules.labels.labels parts begun

-- the same of a source that ended so: nothing, unless it is whole
abbrev pub IsSaidOf : Terms → List Reading → Ending → Option Begun → Type 0
IsSaidOf terms parts Whole begun = IsSaidUnless terms.stop terms.rules parts begun
IsSaidOf terms parts ending begun = begun ≡ None
