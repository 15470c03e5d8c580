-- What one thread finds of a source that it reads and judges.
use Rattle.std.specs.Prelude.{◌≡◌, ◌⊎◌, true, ℕ, ◌+◌, ◌<◌, ◌≤◌, ◌^◌, List, ◌++◌, map, length, Option, Some}
use Rattle.std.specs.List.{concat}
use Rattle.aero_model.specs.declared.verdict.Ending.{Ending}
use Rattle.aero_model.specs.declared.verdict.Ending.TheVariants as endings
use Rattle.aero_model.specs.declared.verdict.Finding.{Finding}
use Rattle.aero_model.specs.Terms.{Terms, to_the_end}
use Rattle.aero_grammar.specs.Reading.{reading_of}
use Rattle.aero_lines.specs.Cutting.{nothing_yet, blocks_from}
use Rattle.aero_judge.specs.Finding.{IsFinding}
use Rattle.aero_judge.specs.Judging.{Judging}
use Rattle.aero_intake.specs.Begun.{AreBegun}
use Rattle.aero_intake.specs.Held.{IsFinal}
use Rattle.aero_intake.specs.Surveys.{IsSurveyOf}
use Rattle.aero_intake.specs.declared.begun.Begun.{Begun}
use Rattle.aero_intake.specs.declared.found.Found.{Found}
use Rattle.aero_intake.specs.declared.survey.Survey.{Survey}
use Rattle.aero_intake.specs.Intake.{Taking, IsTaken, HasCome}
use Rattle.aero_intake.specs.Source.{Sight, WasRead}
use Rattle.aero_intake.specs.Stories.{AreEnough, BeginAlike}

-- Bytes came from the reader and ended so, this is the finding on them, and these labels begin a block.
pub record IsFoundIn (terms : Terms) (before after : Sight) (found : Found) : Type 0 where
  pub bytes : List ℕ
  pub read : WasRead before after terms.rules.limits.bytes bytes found.ending
  pub count : found.bytes ≡ length bytes
  pub finding : ∥ IsFinding bytes found.ending terms found.finding ∥₁
  pub begun : AreBegun terms bytes found.ending found.begun

abbrev pub found_so : ℕ → Ending → Finding → Option Begun → Found
found_so bytes ending finding begun = record { bytes = bytes; ending = ending; finding = finding; begun = begun }

-- the survey is of the chunks that the judge was fed
abbrev pub SurveysFed : Judging → Survey → Type 0
SurveysFed judging survey = IsSurveyOf judging.terms.rules.labels.labels judging.parts survey

-- no further chunk of the source counts
abbrev pub HasEnough : Terms → Taking → Judging → Type 0
HasEnough terms intake judging = (intake.passed ≡ true) ⊎ IsFinal terms judging.parts

-- The judge has these terms, what it was fed is surveyed, there is room for one read more, and the source isn't too large by more than one byte.
pub record MayRead (terms : Terms) (intake : Taking) (judging : Judging) (survey : Survey) : Type 0 where
  pub on : judging.terms ≡ to_the_end terms
  pub surveyed : SurveysFed judging survey
  pub room : length intake.held < 2 ^ 18
  pub within : intake.count ≤ terms.rules.limits.bytes + 1

-- The pieces that came were cut into chunks, and the judge was fed all chunks, or so many that they decide. If some of the source was passed over, they
-- decide. If it is read no further, the terms ask for that, and some of it was passed over. These pieces and what is held have come from the reader,
-- and its reading has ended so, if it has.
pub record StandsAlone (terms : Terms) (before now : Sight) (ended : Option Ending) (intake : Taking) (judging : Judging) : Type 0 where
  pub pieces : List (List ℕ)
  pub cut : List (List ℕ)
  pub fed : List (List ℕ)
  pub parts : judging.parts ≡ map reading_of fed
  pub taken : IsTaken intake pieces cut
  pub enough : AreEnough terms fed cut
  pub passed : intake.passed ≡ true → BeginAlike terms fed cut
  pub stopped : ended ≡ Some endings.Stopped → (terms.stop ≡ true) × (intake.passed ≡ true)
  pub come : HasCome before now terms.rules.limits.bytes (concat pieces ++ intake.held) ended

-- So many bytes of a source came, and it is whole. The judge was fed all its chunks, or so many that they decide.
pub record IsJudgedOut (terms : Terms) (before after : Sight) (count : ℕ) (judging : Judging) : Type 0 where
  pub pieces : List (List ℕ)
  pub fed : List (List ℕ)
  pub parts : judging.parts ≡ map reading_of fed
  pub enough : AreEnough terms fed (blocks_from nothing_yet pieces)
  pub read : WasRead before after terms.rules.limits.bytes (concat pieces) endings.Whole
  pub bytes : count ≡ length (concat pieces)
