-- For which events of a list a `Checker` stands: the first of them, as many as its shape has admitted. `words` are its engine's own, on the events for which that stands and on those that it keeps.
use Rattle.std.specs.Prelude.{◌≡◌, ◌≢◌, ℕ, suc, ◌+◌, ◌^◌, ◌<◌, ◌⊎◌, nat_le, Bool, true, All, List, length, filter, map, take, slice_get, option_map, Option, Some, None}
use Rattle.aero_model.specs.declared.numbered.Numbered.{Numbered}
use Rattle.aero_model.specs.declared.event.Op.TheVariants.{End}
use Rattle.aero_model.specs.declared.verdict.ShapeFault.{ShapeFault}
use Rattle.aero_model.specs.declared.verdict.ShapeFault.TheVariants.{Memory}
use Rattle.aero_model.specs.declared.verdict.Verdict.{Verdict}
use Rattle.aero_model.specs.declared.verdict.Verdict.TheVariants.{Violation, IllFormed}
use Rattle.aero_model.specs.Blocks.{Block, opens, blocks, transaction}
use Rattle.aero_model.specs.Exempt.{Listed, Marked, marked_trace, judged_trace, is_exempt, label_of}
use Rattle.aero_model.specs.Named.{Named}
use Rattle.aero_model.specs.Cycle.{HasTellingCycle}
use Rattle.aero_model.specs.Numbering.{tables_of, trace_of}
use Rattle.aero_model.specs.Shape.{IsLawful, fault_at}
use Rattle.aero_model.specs.BlockCounts.{count_below, is_outer_begin, is_outer_end}
use Rattle.aero_grammar.specs.Reading.{after_lines}
use Rattle.aero_grammar.specs.Words.{IsName, IsEvent}
use Rattle.aero_shape.specs.Admission.{admitted_as}
use Rattle.aero_shape.specs.Standing as shapes
use Rattle.aero_engine.specs.Judgement.{IsTold}
use Rattle.aero_engine.specs.Given.{Given, Words}
use Rattle.aero_verdict.specs.declared.checker.Checker.{Checker}
use Rattle.aero_verdict.specs.declared.checker.Stop.{Stop}
use Rattle.aero_verdict.specs.declared.checker.Stop.TheVariants.{Refused, Closed}
use Rattle.aero_verdict.specs.Begun.{begin_line}
use Rattle.aero_verdict.specs.declared.known.Exemptions.{Exemptions}
use Rattle.aero_verdict.specs.Known.{AreMarked}
use Rattle.aero_verdict.specs.Limited.{names_in, IsLimited, IsNamedThread}
use Rattle.aero_model.specs.Terms.{Rules}

abbrev pub names_of : List (ℕ × Named) → List Named
names_of events = map (λ e. e.1) events

-- the events as they are read
abbrev pub trace_in : List (ℕ × Named) → List Numbered
trace_in events = trace_of (names_of events)

abbrev pub marked_in : Rules → List (ℕ × Named) → List Marked
marked_in rules events = marked_trace rules.labels (names_of events)

-- and as they are judged
abbrev pub judged_in : Rules → List (ℕ × Named) → List Numbered
judged_in rules events = judged_trace (marked_in rules events)

-- the event at place i as an engine is given it, whose names are some
pub record IsGiven (rules : Rules) (events : List (ℕ × Named)) (i : ℕ) (g : Given) : Type 0 where
  pub line_is : option_map (λ e. e.0) (slice_get events i) ≡ Some g.line
  pub event_is : slice_get (trace_in events) i ≡ Some g.event
  pub label_is : option_map (λ e. label_of e.1.op e.1.target) (slice_get events i) ≡ Some g.label
  pub named : (e : ℕ × Named) → slice_get events i ≡ Some e → IsEvent e.1
  pub admitted_is : option_map (admitted_as (take i (judged_in rules events))) (slice_get (judged_in rules events) i) ≡ Some g.admitted

-- the first n events, as an engine is given them
pub record AreGiven (rules : Rules) (events : List (ℕ × Named)) (n : ℕ) (gs : List Given) : Type 0 where
  pub count : length gs ≡ n
  pub each : (i : ℕ) (g : Given) → slice_get gs i ≡ Some g → IsGiven rules events i g

-- the engine keeps of these what it is to keep
pub record KeepsFirst {E : Type 0} (keeps : E → List Given → Type 0) (rules : Rules) (events : List (ℕ × Named)) (n : ℕ) (engine : E) : Type 0 where
  pub given : List Given
  pub are_given : AreGiven rules events n given
  pub kept : keeps engine given

-- the latest outermost begin of thread t in the first n events stands on the line
pub record LastBegins (rules : Rules) (events : List (ℕ × Named)) (n t line : ℕ) : Type 0 where
  pub place : ℕ
  pub before : place < n
  pub outermost : opens (judged_in rules events) t place ≡ true
  pub block : transaction (judged_in rules events) place ≡ Block t (blocks (judged_in rules events) t n)
  pub line_of : option_map (λ e. e.0) (slice_get events place) ≡ Some line

-- Blocks end as the rules say. The names, the shape and the blocks are those of the events that were admitted, and none of these is ill-formed.
pub record Counts {E : Type 0} (rules : Rules) (checker : Checker E) (events : List (ℕ × Named)) : Type 0 where
  pub ends : checker.ends ≡ rules.end
  pub limited : IsLimited rules.limits checker.numbering
  pub names_are : names_in checker.numbering ≡ tables_of (take checker.shape.admitted (names_of events))
  pub shape_stands : shapes.StandsFor checker.shape (take checker.shape.admitted (marked_in rules events))
  pub begun_are : checker.blocks.begun ≡ count_below (is_outer_begin (judged_in rules events)) checker.shape.admitted
  pub ended_are : checker.blocks.ended ≡ count_below (is_outer_end (judged_in rules events)) checker.shape.admitted
  pub lines_are : (t : ℕ) → 0 < blocks (judged_in rules events) t checker.shape.admitted → LastBegins rules events checker.shape.admitted t (begin_line checker.blocks t)
  pub lawful : IsLawful rules.limits (trace_in events) checker.shape.admitted

-- They have no telling cycle, and the engine stands for them and keeps them.
pub record StandsFor {E : Type 0} (words : Words E) (rules : Rules) (checker : Checker E) (events : List (ℕ × Named)) : Type 0 where
  pub counts : Counts rules checker events
  pub untold : ¬ HasTellingCycle (judged_in rules events) checker.shape.admitted
  pub engine_stands : words.stands checker.engine (take checker.shape.admitted (judged_in rules events))
  pub engine_keeps : KeepsFirst words.keeps rules events checker.shape.admitted checker.engine

-- it stands for events of the list, and this is the event after them: an exempt begin, or none
abbrev pub IsNext : {E : Type 0} → Words E → Rules → Checker E → List (ℕ × Named) → ℕ × Named → Bool → Type 0
IsNext words rules checker events e exempt =
    StandsFor words rules checker events × (slice_get events checker.shape.admitted ≡ Some e) × (exempt ≡ is_exempt rules.labels e.1)

-- this is the event after them, for some list of fewer than 2^32 events
abbrev pub IsExpected : {E : Type 0} → Words E → Checker E → ℕ × Named → Bool → Type 0
IsExpected words checker e exempt = (rules : Rules) × (events : List (ℕ × Named)) × (length events < 2 ^ 32) × IsNext words rules checker events e exempt

-- why the event after them is ill-formed
abbrev pub Refuses : {E : Type 0} → Rules → Checker E → List (ℕ × Named) → ShapeFault → Type 0
Refuses rules checker events fault = fault ≢ Memory → fault_at rules.limits (trace_in events) checker.shape.admitted ≡ Some fault

-- After the event at place n: nothing is told, or thread t is, with whose open block a cycle closes. Then the engine keeps this event too.
abbrev pub Judged : {E : Type 0} → Words E → Rules → Checker E → List (ℕ × Named) → ℕ → Option ℕ → Type 0
Judged words rules checker events n None = StandsFor words rules checker events
Judged words rules checker events n (Some t) =
    Counts rules checker events × IsTold (judged_in rules events) n (Some t) × KeepsFirst words.keeps rules events (suc n) checker.engine

-- the events on lines up to this one
abbrev pub up_to : ℕ → List (ℕ × Named) → List (ℕ × Named)
up_to most events = filter (λ e. nat_le e.0 most) events

-- From place n on, the list goes on with these events, on lines after so many.
abbrev pub GoesOn : List (ℕ × Named) → ℕ → ℕ → List (ℕ × Named) → Type 0
GoesOn events n before more = (i : ℕ) → i < length more → slice_get events (n + i) ≡ option_map (after_lines before) (slice_get more i)

-- of a block's labels it is told which are exempt, or all of these events are ends
abbrev pub AreTold : Listed → List (List ℕ) → Exemptions → List (ℕ × Named) → Type 0
AreTold labels block exempt more = AreMarked labels block exempt ⊎ All (λ e. e.1.op ≡ End) more

-- it stands for events of the list, and these are the events after them, from a block of whose labels it is told which are exempt
abbrev pub AreNext : {E : Type 0} → Words E → Rules → Checker E → List (ℕ × Named) → List (List ℕ) → Exemptions → ℕ → List (ℕ × Named) → Type 0
AreNext words rules checker events block exempt before more =
    StandsFor words rules checker events × GoesOn events checker.shape.admitted before more × AreTold rules.labels block exempt more

-- these are the events after them, for some list of fewer than 2^32 events
abbrev pub AreExpected : {E : Type 0} → Words E → Checker E → List (List ℕ) → Exemptions → ℕ → List (ℕ × Named) → Type 0
AreExpected words checker block exempt before more =
    (rules : Rules) × (events : List (ℕ × Named)) × (length events < 2 ^ 32) × AreNext words rules checker events block exempt before more

-- The event at the place is ill-formed or closes a cycle. In a cycle's case the engine keeps the events up to it.
abbrev pub StopsAt : {E : Type 0} → Words E → Rules → Checker E → List (ℕ × Named) → ℕ → Stop → Type 0
StopsAt words rules checker events n (Refused fault) =
    IsLawful rules.limits (trace_in events) n × (¬ HasTellingCycle (judged_in rules events) n) × (fault ≢ Memory → fault_at rules.limits (trace_in events) n ≡ Some fault)
StopsAt words rules checker events n (Closed t) =
    (checker.shape.admitted ≡ suc n) × Counts rules checker events × IsTold (judged_in rules events) n (Some t) × KeepsFirst words.keeps rules events (suc n) checker.engine

-- one of these events, which the list has from place n on, stands on the line and stops
pub record StopsIn {E : Type 0} (words : Words E) (rules : Rules) (checker : Checker E) (events : List (ℕ × Named)) (n before : ℕ) (more : List (ℕ × Named)) (line : ℕ) (stop : Stop) : Type 0 where
  pub index : ℕ
  pub within : index < length more
  pub stops : StopsAt words rules checker events (n + index) stop
  pub line_of : option_map (λ e. e.0) (slice_get events (n + index)) ≡ Some line

-- the name of the event's thread is one
abbrev pub HasNamedActor : ℕ × Named → Type 0
HasNamedActor e = IsName e.1.thread

-- the thread that is to be told, if one is, has a name
abbrev pub CanBeTold : {E : Type 0} → Checker E → Stop → Type 0
CanBeTold checker (Refused fault) = Unit {0}
CanBeTold checker (Closed t) = IsNamedThread checker.numbering t

-- what is told of it
abbrev pub TellsStop : {E : Type 0} → Checker E → ℕ → Stop → Verdict → Type 0
TellsStop checker line (Refused fault) verdict = (fault ≢ Memory) × (verdict ≡ IllFormed line fault)
TellsStop checker line (Closed t) verdict =
    (name : List ℕ) × (slice_get (names_in checker.numbering).threads t ≡ Some name) × (verdict ≡ Violation line name (begin_line checker.blocks t))
