-- What is kept of a text that is judged as it comes.
use Rattle.std.specs.Prelude.{◌≡◌, ◌⊎◌, ℕ, true, false, List, [], ◌∷◌, ◌++◌, map, Option, None, Some, is_some, IfSome, option_to_list}
use Rattle.std.specs.List.{concat}
use Rattle.aero_model.specs.declared.verdict.Cycle.{Cycle}
use Rattle.aero_model.specs.declared.verdict.Verdict.{Verdict}
use Rattle.aero_grammar.specs.Reading.{Reading, reading_of, whole_reading}
use Rattle.aero_lines.specs.Cutting.{Cutting, IsOpenLine, blocks_from, last_block}
use Rattle.aero_verdict.specs.Explained.{IsCycleOf}
use Rattle.aero_verdict.specs.Fed.{IsCertain, IsOpen}
use Rattle.aero_judge.specs.Judging.{Judging}
use Rattle.aero_feed.specs.Feeding.{IsCertainOf}

-- what isn't cut yet is the text's end, and has no byte 10
pub record EndsIn (text : List ℕ) (cutting : Cutting) : Type 0 where
  pub front : List ℕ
  pub joined : text ≡ front ++ cutting.rest
  pub open_line : IsOpenLine cutting.rest

-- Whatever pieces come, what was said so far and what the blocks say that are then cut is what the text says.
pub record HasRead (text : List ℕ) (cutting : Cutting) (parts : List Reading) : Type 0 where
  pub says : (more : List (List ℕ)) → whole_reading (parts ++ map reading_of (blocks_from cutting more)) ≡ reading_of (text ++ concat more)
  pub ends : cutting.shut ≡ false → EndsIn text cutting

-- the text was read, and nothing is wrong with its whole lines
pub record GoesOn (text : List ℕ) (cutting : Cutting) (fed : Judging) : Type 0 where
  pub reads : HasRead text cutting fed.parts
  pub right : IsOpen fed.parts fed.terms.rules

-- the verdict is certain of the text, and what shows it of the parts shows it of the text, whatever comes behind that
pub record IsSure (text : List ℕ) (fed : Judging) (verdict : Verdict) : Type 0 where
  pub certain : IsCertainOf text fed.terms.rules verdict
  pub shown : (rest : List ℕ) (cycle : Cycle) → IsCycleOf fed.parts fed.terms.rules verdict cycle → IsCycleOf (reading_of (text ++ rest) ∷ []) fed.terms.rules verdict cycle

-- the verdict is certain, or the text goes on
abbrev pub StandsAt : List ℕ → Cutting → Judging → Option Verdict → Type 0
StandsAt text cutting fed None = GoesOn text cutting fed
StandsAt text cutting fed (Some verdict) = IsSure text fed verdict

-- What is judged in the end: nothing more where the verdict is certain, and else the last block.
abbrev pub IsJudgedOut : Judging → Cutting → Judging → Type 0
IsJudgedOut was cutting now =
    ((is_some was.certain ≡ true) × IfSome was.certain (IsCertain was.parts was.terms.rules) × (now ≡ was))
    ⊎ ((was.certain ≡ None) × (now.parts ≡ was.parts ++ map reading_of (option_to_list (last_block cutting))) × (now.terms ≡ was.terms))
