-- An `InFull` as what its record is, and as what its transactions are.
use Rattle.std.proofs.Common.{◌≡◌, ◌≤◌, List}
use Rattle.std.specs.Prelude.{Result, Ok, Err, All, IfOk}
use Rattle.std.specs.declared.alloc.AllocError.{AllocError}
use Rattle.aero_engine.specs.Given.{words_of}
use Rattle.aero_model.specs.declared.verdict.Verdict.{Verdict}
use Rattle.aero_model.specs.Terms.{Rules}
use Rattle.aero_grammar.specs.Reading.{Reading, IsReading}
use Rattle.aero_verdict.specs.declared.checker.Checker.{Checker}
use Rattle.aero_judge.specs.declared.full.InFull.{InFull}
use Rattle.aero_verdict.specs.declared.in_order.InOrder.{InOrder}
use Rattle.aero_verdict.specs.declared.numbering.Numbering.{Numbering}
use Rattle.aero_judge.specs.declared.recorder.Recorder.{Recorder}
use Rattle.aero_judge.specs.InFull.{StandsForFull, KeepsInFull}
use Rattle.aero_verdict.specs.InOrder.{StandsForBoth, KeepsInOrder}
use Rattle.aero_verdict.specs.Monitored.{TellsFed}
use Rattle.aero_judge.specs.Recorded.{HasRecorded, StandsForLeads}
use Rattle.aero_judge.specs.Records.{IsJudged}
use Rattle.aero_judge.proofs.PartOf.{with_engine, told_of_part}

-- the engine without its record
abbrev in_order : InFull → InOrder
in_order full = record { leads = full.recorder.leads; transactions = full.transactions }

abbrev pub as_in_order : Checker InFull → Checker InOrder
as_in_order checker = with_engine checker (in_order checker.engine)

abbrev as_recorder : Checker InFull → Checker Recorder
as_recorder checker = with_engine checker checker.engine.recorder

module _ (rules : Rules) (parts : List Reading) (checker : Checker InFull) (verdict : Verdict) (tells : TellsFed (words_of StandsForFull KeepsInFull) rules parts checker verdict) where
  of_order : TellsFed (words_of StandsForBoth KeepsInOrder) rules parts (as_in_order checker) verdict
  of_order = told_of_part (words_of StandsForFull KeepsInFull) (words_of StandsForBoth KeepsInOrder) in_order (λ e trace stands. stands) (λ e given kept. kept.1) rules parts checker verdict tells

  of_record : TellsFed (words_of StandsForLeads HasRecorded) rules parts (as_recorder checker) verdict
  of_record = told_of_part (words_of StandsForFull KeepsInFull) (words_of StandsForLeads HasRecorded) (λ (e : InFull). e.recorder) (λ e trace stands. stands.0) (λ e given kept. kept.0) rules parts checker verdict tells

  pub judged : All IsReading parts → rules.limits.lines ≤ 4000000000 → (numbering : Numbering) (recorder : Recorder) → numbering ≡ checker.numbering → recorder ≡ checker.engine.recorder → IsJudged parts rules numbering recorder verdict
  judged readings few numbering recorder names engine = record { readings = readings; few = few; checker = as_recorder checker; names = names; engine = engine; tells = of_record }

pub all_of_order : (rules : Rules) (parts : List Reading) (checker : Checker InFull) (verdict : Result Verdict AllocError) → IfOk verdict (TellsFed (words_of StandsForFull KeepsInFull) rules parts checker) → IfOk verdict (TellsFed (words_of StandsForBoth KeepsInOrder) rules parts (as_in_order checker))
all_of_order rules parts checker (Ok v) tells = of_order rules parts checker v tells
all_of_order rules parts checker (Err e) tells = tt
