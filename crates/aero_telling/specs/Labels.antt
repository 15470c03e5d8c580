-- What is told of the listed labels.
use Rattle.std.specs.Prelude.{◌≡◌, ◌⊎◌, ℕ, Bool, true, false, List, [], length, map, Option, Some, None, IfSome}
use Rattle.std.specs.List.{filter, list_all, list_any}
use Rattle.aero_model.specs.declared.verdict.Ending.{Ending}
use Rattle.aero_model.specs.Terms.{Rules, Terms}
use Rattle.aero_grammar.specs.Reading.{reading_of}
use Rattle.aero_intake.specs.Begun.{AreNoted, begins, is_read_through, noted_at}
use Rattle.aero_intake.specs.declared.begun.Begun.{Begun}
use Rattle.aero_model.specs.CallCounts.{Seen}
use Rattle.aero_report.specs.declared.form.Form.{Form}
use Rattle.aero_telling.specs.declared.cause.Cause.{Cause}
use Rattle.aero_telling.specs.declared.told.Told.{Told}
use Rattle.aero_telling.specs.Founds.{AreOfTheFirst, Found, Sighted, WasTold, ending_of}

-- whether a block of one of these sources begins with the label
abbrev pub begins_among : List Found → List ℕ → Bool
begins_among founds label = list_any (λ f. begins label (reading_of f.bytes)) founds

-- whether each of these sources was read to its end, and no line of it is malformed, or one too many
abbrev pub all_read_through : Rules → List Found → Bool
all_read_through rules founds = list_all (λ f. is_read_through rules f.bytes f.ending) founds

-- Of each listed label it is told whether a block of one of these sources begins with it. Nothing is told unless each source was read through, nor where
-- sources are read no further than they must be. Where a block begins with each label it is no matter.
abbrev pub AreBegunAmong : Terms → List Found → Option Begun → Type 0
AreBegunAmong terms founds None =
    (terms.stop ≡ true) ⊎ ((all_read_through terms.rules founds ≡ false) ⊎ (list_all (begins_among founds) terms.rules.labels.labels ≡ true))
AreBegunAmong terms founds (Some begun) =
    ((all_read_through terms.rules founds ≡ true) ⊎ (list_all (begins_among founds) terms.rules.labels.labels ≡ true))
    × AreNoted terms.rules.labels.labels (begins_among founds) begun.flags.items

-- no flag is set
abbrev pub HasNoneBegun : Option Begun → Type 0
HasNoneBegun None = ⊥
HasNoneBegun (Some begun) = (place : ℕ) → noted_at begun.flags.items place ≡ false

-- there is a flag for each label, if something is told of them
abbrev pub HasFlagsFor : List (List ℕ) → Option Begun → Type 0
HasFlagsFor labels begun = IfSome begun (λ b. length b.flags.items ≡ length labels)

-- What a run tells of the labels, whose sources ended so, is so of the sources that it tells.
pub record AreLabelsOf (terms : Terms) (old new : List Sighted) (endings : List (ℕ × Ending)) (begun : Option Begun) : Type 0 where
  pub founds : List Found
  pub found : AreOfTheFirst terms old new founds
  pub ended : endings ≡ map ending_of founds
  pub begun_are : AreBegunAmong terms founds begun

-- a run that writes the lines alone, and what it told
pub record HasTold (terms : Terms) (form : Form) (old new : List Sighted) (before after : Seen) (told : Told) (cause : Option Cause) : Type 0 where
  pub lines : WasTold terms form old new before after told.endings.items told.notables.items told.counts cause
  pub labels : AreLabelsOf terms old new told.endings.items told.begun
