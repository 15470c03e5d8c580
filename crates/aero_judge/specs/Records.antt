-- What is recorded of the first events of a trace, as up to the one with which a cycle closes, and what is told of them.
use Rattle.std.specs.Prelude.{◌≡◌, ◌↔◌, ◌<◌, ◌≤◌, ℕ, suc, true, All, List, [], ◌∷◌, length, take, slice_get, Option, Some, option_map, option_and_then}
use Rattle.aero_model.specs.declared.numbered.Numbered.{Numbered}
use Rattle.aero_model.specs.declared.numbered.What.{What}
use Rattle.aero_model.specs.declared.numbered.What.TheVariants.{Begin}
use Rattle.aero_model.specs.declared.verdict.CycleStep.{CycleStep}
use Rattle.aero_model.specs.declared.verdict.CycleTransaction.{CycleTransaction}
use Rattle.aero_model.specs.declared.verdict.OpenBlock.{OpenBlock}
use Rattle.aero_model.specs.declared.verdict.Extent.{Extent}
use Rattle.aero_model.specs.declared.verdict.Extent.TheVariants as extents
use Rattle.aero_model.specs.Blocks.{is_begin, transaction, HasEnded}
use Rattle.aero_model.specs.Cycle.{HasTellingCycle}
use Rattle.aero_model.specs.Named.{Named}
use Rattle.aero_model.specs.Numbering.{tables_of}
use Rattle.aero_model.specs.Shape.{IsLawful}
use Rattle.aero_grammar.specs.Reading.{Reading, IsReading}
use Rattle.aero_witness.specs.declared.visit.Visit.{Visit}
use Rattle.aero_witness.specs.Telling.{visit_of, visits_of}
use Rattle.aero_model.specs.declared.verdict.Verdict.{Verdict}
use Rattle.aero_engine.specs.Given.{Given, words_of}
use Rattle.aero_verdict.specs.declared.checker.Checker.{Checker}
use Rattle.aero_verdict.specs.declared.numbering.Numbering.{Numbering}
use Rattle.aero_judge.specs.declared.recorder.Recorder.{Recorder}
use Rattle.aero_judge.specs.declared.spans.Span.{Span}
use Rattle.aero_verdict.specs.Explained.{round_places}
use Rattle.aero_verdict.specs.Limited.{names_in}
use Rattle.aero_verdict.specs.Standing.{AreGiven}
use Rattle.aero_verdict.specs.Monitored.{TellsFed}
use Rattle.aero_judge.specs.Recorded.{HasRecorded, StandsForLeads}
use Rattle.aero_judge.specs.Shown.{shown, CanShow}
use Rattle.aero_judge.specs.Spans.{IsSpanOf}
use Rattle.aero_verdict.specs.Verdict.{counted_events, events_of, read_trace, checked_trace, IsViolation}
use Rattle.aero_model.specs.Terms.{Rules}

-- The first n events are recorded, and the names are theirs. They are lawful, and fewer of them have no telling cycle.
pub record IsRecordTo (parts : List Reading) (rules : Rules) (numbering : Numbering) (recorder : Recorder) (n : ℕ) : Type 0 where
  pub readings : All IsReading parts
  pub within : n ≤ length (counted_events parts rules)
  pub lawful : IsLawful rules.limits (read_trace parts rules) n
  pub untold : (m : ℕ) → m < n → ¬ HasTellingCycle (checked_trace parts rules) m
  pub given : List Given
  pub are_given : AreGiven rules (counted_events parts rules) n given
  pub kept : HasRecorded recorder given
  pub names_are : names_in numbering ≡ tables_of (take n (events_of parts rules))

-- the events are recorded up to the one on this line, with which a cycle closes
pub record IsRecordOf (parts : List Reading) (rules : Rules) (numbering : Numbering) (recorder : Recorder) (line : ℕ) (thread : List ℕ) (begun : ℕ) : Type 0 where
  pub violation : IsViolation parts rules line thread begun
  pub upto : IsRecordTo parts rules numbering recorder (suc violation.place)

-- all events that count are recorded
abbrev pub IsWholeRecord : List Reading → Rules → Numbering → Recorder → Type 0
IsWholeRecord parts rules numbering recorder = IsRecordTo parts rules numbering recorder (length (counted_events parts rules))

-- the verdict on these parts, and a checker with these names and this engine has recorded them, up to an event with which a cycle closes
pub record IsJudged (parts : List Reading) (rules : Rules) (numbering : Numbering) (recorder : Recorder) (verdict : Verdict) : Type 0 where
  pub readings : All IsReading parts
  pub few : rules.limits.lines ≤ 4000000000
  pub checker : Checker Recorder
  pub names : numbering ≡ checker.numbering
  pub engine : recorder ≡ checker.engine
  pub tells : TellsFed (words_of StandsForLeads HasRecorded) rules parts checker verdict

-- all events that count in some parts are recorded
abbrev pub IsWhole : Numbering → Recorder → Type 0
IsWhole numbering recorder = (parts : List Reading) × (rules : Rules) × IsWholeRecord parts rules numbering recorder

-- so it is for some violation whose block begins on this line
abbrev pub IsRecord : Numbering → Recorder → ℕ → Type 0
IsRecord numbering recorder begun = (parts : List Reading) × (rules : Rules) × (line : ℕ) × (thread : List ℕ) × IsRecordOf parts rules numbering recorder line thread begun

-- the places of a cycle of these visits, in the order in which it is gone round
abbrev pub round_of : List Visit → List ℕ
round_of [] = []
round_of (v ∷ vs) = round_places (visit_of v) (visits_of vs)

-- of each event there is a code, and its names
pub record AreShown (numbering : Numbering) (recorder : Recorder) : Type 0 where
  pub lines_each : length recorder.lines.items ≡ length recorder.events.items
  pub said_each : length recorder.said.items ≡ length recorder.events.items
  pub can : (i : ℕ) (e : Numbered) (code : ℕ) → slice_get recorder.events.items i ≡ Some e → slice_get recorder.said.items i ≡ Some code → CanShow (names_in numbering) recorder.labels.names e code

-- each first place is that of an event
pub record CanBeShown (numbering : Numbering) (recorder : Recorder) (firsts : List ℕ) : Type 0 where
  pub shown : AreShown numbering recorder
  pub each : length firsts ≡ length recorder.events.items
  pub within : (i f : ℕ) → slice_get firsts i ≡ Some f → f < length recorder.events.items

-- the event at the place, by its names
pub record IsEventAt (numbering : Numbering) (recorder : Recorder) (place : ℕ) (event : Named) : Type 0 where
  pub e : Numbered
  pub code : ℕ
  pub at : slice_get recorder.events.items place ≡ Some e
  pub said : slice_get recorder.said.items place ≡ Some code
  pub is : event ≡ shown (names_in numbering) recorder.labels.names e code

-- the line of the event at the place, that of the first one of its transaction, and what it says
pub record IsStepAt (numbering : Numbering) (recorder : Recorder) (firsts : List ℕ) (place : ℕ) (step : CycleStep) : Type 0 where
  pub line : slice_get recorder.lines.items place ≡ Some step.line
  pub first : ℕ
  pub first_at : slice_get firsts place ≡ Some first
  pub first_line : slice_get recorder.lines.items first ≡ Some step.first
  pub event : IsEventAt numbering recorder place step.event

-- the line of the last place, if there is one
abbrev pub end_line : List ℕ → Option ℕ → Option ℕ
end_line lines last = option_and_then (slice_get lines) last

-- what a transaction is whose first event is this one, with this label and with its end on this line
abbrev pub extent_of : What → Option (List ℕ) → Option ℕ → Extent
extent_of (Begin unlabelled) label end = extents.Block label end
extent_of _ label end = extents.Alone

-- the line and the thread of the first event of the span, and what the transaction is
pub record IsTransactionAt (numbering : Numbering) (recorder : Recorder) (span : Span) (t : CycleTransaction) : Type 0 where
  pub first_line : slice_get recorder.lines.items span.first ≡ Some t.first
  pub event : Named
  pub event_is : IsEventAt numbering recorder span.first event
  pub thread : event.thread ≡ t.thread
  pub extent : t.extent ≡ extent_of event_is.e.what event.target (end_line recorder.lines.items span.last)

-- the transaction into which the visit comes
abbrev pub IsTransactionOf : Numbering → Recorder → Visit → CycleTransaction → Type 0
IsTransactionOf numbering recorder v t = (span : Span) × IsSpanOf recorder.events.items v span × IsTransactionAt numbering recorder span t

-- the event at the place is a begin, and its transaction hasn't ended
abbrev pub IsBegunAt : List Numbered → ℕ → Type 0
IsBegunAt events place =
    (option_map (λ e. is_begin e.what) (slice_get events place) ≡ Some true) × (¬ HasEnded events (length events) (transaction events place))

-- these are the places of such events among the first n, in their order
pub record AreBegunTo (events : List Numbered) (n : ℕ) (places : List ℕ) : Type 0 where
  pub rise : (i j p q : ℕ) → i < j → slice_get places i ≡ Some p → slice_get places j ≡ Some q → p < q
  pub each : (p : ℕ) → ((i : ℕ) × (slice_get places i ≡ Some p)) ↔ ((p < n) × IsBegunAt events p)

-- the line, the thread and the label of the begin at the place
pub record IsBlockAt (numbering : Numbering) (recorder : Recorder) (place : ℕ) (block : OpenBlock) : Type 0 where
  pub line : slice_get recorder.lines.items place ≡ Some block.line
  pub event : Named
  pub event_is : IsEventAt numbering recorder place event
  pub thread : event.thread ≡ block.thread
  pub label : event.target ≡ block.label
