-- For which events an `InOrder` stands: those for which both its parts do. Of those that it was given it keeps the first one of each transaction.
use Rattle.std.specs.Prelude.{◌≡◌, ◌↔◌, Bool, true, List, [], length, map, slice_index_or, All, Option, Result, is_some, IfOk, IfSome}
use Rattle.std.specs.declared.alloc.AllocError.{AllocError}
use Rattle.aero_model.specs.declared.numbered.Numbered.{Numbered}
use Rattle.aero_model.specs.declared.verdict.Step.{Step}
use Rattle.aero_model.specs.declared.verdict.Verdict.{Verdict}
use Rattle.aero_grammar.specs.Reading.{Reading}
use Rattle.aero_engine.specs.Given.{Given, words_of}
use Rattle.aero_leads.specs.Standing as leads
use Rattle.aero_model.specs.Cycle.{IsSerializable}
use Rattle.aero_model.specs.Serial.{IsSerialOrder}
use Rattle.aero_model.specs.Shape.{IsWellFormed}
use Rattle.aero_order.specs.Came.{Came, places_in, IsOf}
use Rattle.aero_order.specs.Standing as orders
use Rattle.aero_order.specs.declared.first.First.{First}
use Rattle.aero_order.specs.declared.transactions.Transactions.{Transactions}
use Rattle.aero_verdict.specs.declared.checker.Checker.{Checker}
use Rattle.aero_verdict.specs.declared.in_order.InOrder.{InOrder}
use Rattle.aero_verdict.specs.declared.numbering.Numbering.{Numbering}
use Rattle.aero_verdict.specs.Standing.{KeepsFirst}
use Rattle.aero_verdict.specs.Limited.{names_in}
use Rattle.aero_verdict.specs.Monitored.{TellsFed}
use Rattle.aero_verdict.specs.Parts.{NamesAll}
use Rattle.aero_verdict.specs.Verdict.{counted_events, checked_trace}
use Rattle.aero_model.specs.Terms.{Rules}

abbrev pub StandsForBoth : InOrder → List Numbered → Type 0
StandsForBoth both trace = leads.StandsFor both.leads trace × orders.StandsFor both.transactions trace

-- the line and the thread of the event
abbrev pub came_of : Given → Came
came_of g = record { line = g.line; thread = g.event.thread }

abbrev pub KeepsFirsts : Transactions → List Given → Type 0
KeepsFirsts transactions given = orders.KeepsCame transactions (map came_of given)

abbrev pub KeepsInOrder : InOrder → List Given → Type 0
KeepsInOrder both given = KeepsFirsts both.transactions given

-- After all parts, where nothing is wrong: the transactions are those of all events that count, with the lines and the threads of first events, and the names are those of these events.
pub record AreGathered (rules : Rules) (parts : List Reading) (transactions : Transactions) (numbering : Numbering) : Type 0 where
  pub stands_for : orders.StandsFor transactions (checked_trace parts rules)
  pub firsts : KeepsFirst KeepsFirsts rules (counted_events parts rules) (length (counted_events parts rules)) transactions
  pub names : NamesAll rules parts numbering

-- A checker with these names and these transactions tells the verdict on these parts, if there is one.
pub record IsGathered (parts : List Reading) (rules : Rules) (numbering : Numbering) (transactions : Transactions) (verdict : Result Verdict AllocError) : Type 0 where
  pub checker : Checker InOrder
  pub transactions_are : transactions ≡ checker.engine.transactions
  pub names_are : numbering ≡ checker.numbering
  pub tells : IfOk verdict (TellsFed (words_of StandsForBoth KeepsInOrder) rules parts checker)

-- These are the first events of the transactions in the serial order, if it is wanted. There are none exactly where it isn't, or there is a cycle.
pub record AreFirstsInOrder (transactions : Transactions) (wanted : Bool) (found : Option (List First)) : Type 0 where
  pub only : is_some found ≡ true → wanted ≡ true
  pub exact : wanted ≡ true → (trace : List Numbered) → IsWellFormed trace → orders.StandsFor transactions trace → (is_some found ≡ true) ↔ IsSerializable trace (length trace)
  pub serial : IfSome found (λ firsts. (trace : List Numbered) → IsWellFormed trace → orders.StandsFor transactions trace → IsSerialOrder trace (places_in firsts))
  pub kept : IfSome found (λ firsts. (came : List Came) → orders.KeepsCame transactions came → All (IsOf came) firsts)

-- the line of the event, and the name of its thread
abbrev pub step_in : Numbering → First → Step
step_in numbering f = record { line = f.line; thread = slice_index_or (names_in numbering).threads f.thread [] }
