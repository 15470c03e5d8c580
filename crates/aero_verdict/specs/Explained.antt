-- The telling cycle that shows a violation, event by event.
use Rattle.std.specs.Prelude.{◌≡◌, ◌≢◌, ◌<◌, ◌≤◌, ◌==◌, ℕ, suc, Bool, true, false, if◌then◌else◌, List, [], ◌∷◌, ◌++◌, length, flat_map, slice_get, option_map, Option, Some, None, is_some, IfSome}
use Rattle.std.specs.List.{AllZip}
use Rattle.aero_model.specs.declared.numbered.Numbered.{Numbered}
use Rattle.aero_model.specs.declared.verdict.Cycle.{Cycle}
use Rattle.aero_model.specs.declared.verdict.CycleStep.{CycleStep}
use Rattle.aero_model.specs.declared.verdict.CycleTransaction.{CycleTransaction}
use Rattle.aero_model.specs.declared.verdict.Extent.{Extent}
use Rattle.aero_model.specs.declared.verdict.Extent.TheVariants as extents
use Rattle.aero_model.specs.declared.verdict.Verdict.{Verdict}
use Rattle.aero_model.specs.declared.verdict.Verdict.TheVariants.{Violation}
use Rattle.aero_model.specs.Blocks.{Block, Unary, transaction, HasEnded}
use Rattle.aero_model.specs.Graph.{Visit, IsTelling}
use Rattle.aero_grammar.specs.Reading.{Reading}
use Rattle.aero_verdict.specs.Verdict.{counted_events, checked_trace, IsOnLine, IsViolation}
use Rattle.aero_model.specs.Terms.{Rules}

-- whether a cycle goes with the verdict: it is asked for, and there is a violation
abbrev pub has_cycle : Bool → Verdict → Bool
has_cycle explain (Violation line thread begun) = explain
has_cycle explain _ = false

-- where a visit comes in, and, if that is another place, where it goes out
abbrev pub visit_places : Visit → List ℕ
visit_places v = if v.enters == v.leaves then v.enters ∷ [] else v.enters ∷ v.leaves ∷ []

-- the places of a cycle in the order in which it is gone round: from where its first visit goes out to where that comes in
abbrev pub round_places : Visit → List Visit → List ℕ
round_places first rest = first.leaves ∷ (flat_map visit_places rest ++ first.enters ∷ [])

-- the event at place first is the first one of the transaction of the event at this place
pub record IsFirstOf (trace : List Numbered) (place first : ℕ) : Type 0 where
  pub one : transaction trace first ≡ transaction trace place
  pub none : (m : ℕ) → m < first → transaction trace m ≢ transaction trace place

-- the line of the event at this place, that of the first one of its transaction, and what it says
pub record IsCycleStep (parts : List Reading) (rules : Rules) (place : ℕ) (step : CycleStep) : Type 0 where
  pub line : IsOnLine parts rules place step.line
  pub event : option_map (λ e. e.1) (slice_get (counted_events parts rules) place) ≡ Some step.event
  pub first : ℕ
  pub is_first : IsFirstOf (checked_trace parts rules) place first
  pub first_line : IsOnLine parts rules first step.first

-- among the first n events, the one at place last is the last one of the transaction of the event at this place
pub record IsLastOf (trace : List Numbered) (n place last : ℕ) : Type 0 where
  pub within : last < n
  pub one : transaction trace last ≡ transaction trace place
  pub none : (m : ℕ) → last < m → m < n → transaction trace m ≢ transaction trace place

-- the line of the end of the block that begins at place first, which is its last event, if it has ended in the first n events
abbrev pub IsEnd : List Reading → Rules → (n first : ℕ) → Option ℕ → Type 0
IsEnd parts rules n first None = ¬ HasEnded (checked_trace parts rules) n (transaction (checked_trace parts rules) first)
IsEnd parts rules n first (Some line) =
    HasEnded (checked_trace parts rules) n (transaction (checked_trace parts rules) first)
    × ((last : ℕ) × IsLastOf (checked_trace parts rules) n first last × IsOnLine parts rules last line)

-- what the transaction with this first place is: the event there, by itself, or a block, with the label of its begin and its end in the first n events
abbrev pub IsExtent : List Reading → Rules → (n first : ℕ) → Extent → Type 0
IsExtent parts rules n first extents.Alone = transaction (checked_trace parts rules) first ≡ Unary first
IsExtent parts rules n first (extents.Block label end) =
    (transaction (checked_trace parts rules) first ≢ Unary first)
    × (option_map (λ e. e.1.target) (slice_get (counted_events parts rules) first) ≡ Some label)
    × IsEnd parts rules n first end

-- the transaction of a visit: the line and the thread of its first event, and what it is
pub record IsCycleTransaction (parts : List Reading) (rules : Rules) (n : ℕ) (v : Visit) (t : CycleTransaction) : Type 0 where
  pub first : ℕ
  pub is_first : IsFirstOf (checked_trace parts rules) v.enters first
  pub first_line : IsOnLine parts rules first t.first
  pub thread : option_map (λ e. e.1.thread) (slice_get (counted_events parts rules) first) ≡ Some t.thread
  pub extent : IsExtent parts rules n first t.extent

-- The label with which the block of the opener begins, if it has one, and the events of a telling cycle that is there with the closing event and begins in that block. None that begins there has fewer visits. With them stand the transaction of each visit, and the closing event.
pub record IsExplained (parts : List Reading) (rules : Rules) (line : ℕ) (thread : List ℕ) (begun : ℕ) (cycle : Cycle) : Type 0 where
  pub violation : IsViolation parts rules line thread begun
  pub label : option_map (λ e. e.1.target) (slice_get (counted_events parts rules) violation.begins.place) ≡ Some cycle.label
  pub first : Visit
  pub rest : List Visit
  pub telling : IsTelling (checked_trace parts rules) (suc violation.place) first rest
  pub begins : transaction (checked_trace parts rules) first.enters ≡ Block violation.t violation.number
  pub fewest :
      (other : Visit) (more : List Visit)
      → IsTelling (checked_trace parts rules) (suc violation.place) other more
      → transaction (checked_trace parts rules) other.enters ≡ Block violation.t violation.number
      → length rest ≤ length more
  pub steps_are : AllZip (IsCycleStep parts rules) (round_places first rest) cycle.steps.items
  pub transactions_are : AllZip (IsCycleTransaction parts rules (suc violation.place)) (first ∷ rest) cycle.transactions.items
  pub closing_is : option_map (λ e. e.1) (slice_get (counted_events parts rules) violation.place) ≡ Some cycle.closing

-- such a cycle, where the verdict is a violation
abbrev pub IsCycleOf : List Reading → Rules → Verdict → Cycle → Type 0
IsCycleOf parts rules (Violation line thread begun) cycle = IsExplained parts rules line thread begun cycle
IsCycleOf parts rules _ cycle = ⊥

-- what shows the verdict: such a cycle where it is a violation, and else none
abbrev pub ShowsVerdict : List Reading → Rules → Verdict → Option Cycle → Type 0
ShowsVerdict parts rules verdict cycle = (is_some cycle ≡ has_cycle true verdict) × IfSome cycle (IsCycleOf parts rules verdict)

-- what shows the verdict that is certain, where one is
abbrev pub ShowsCertain : Option Verdict → List Reading → Rules → Option Cycle → Type 0
ShowsCertain None parts rules cycle = cycle ≡ None
ShowsCertain (Some verdict) parts rules cycle = ShowsVerdict parts rules verdict cycle

-- the same, if it is asked for, and else nothing
abbrev pub ShowsIfAsked : (explain : Bool) → Option Verdict → List Reading → Rules → Option Cycle → Type 0
ShowsIfAsked true certain parts rules cycle = ShowsCertain certain parts rules cycle
ShowsIfAsked false certain parts rules cycle = cycle ≡ None
