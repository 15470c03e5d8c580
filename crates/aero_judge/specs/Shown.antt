-- An event as it is shown from the record: by its numbers, the trace's names, and the code of a begin or an end.
use Rattle.std.specs.Prelude.{◌<◌, ℕ, zero, suc, List, length, Option, Some, None, option_copied}
use Rattle.aero_model.specs.declared.numbered.Numbered.{Numbered}
use Rattle.aero_model.specs.declared.numbered.What.{What}
use Rattle.aero_model.specs.declared.numbered.What.TheVariants.{Read, Write, Acquire, Release, Fork, Join}
use Rattle.aero_model.specs.declared.event.Op.{Op}
use Rattle.aero_model.specs.declared.event.Op.TheVariants as op
use Rattle.aero_model.specs.Named.{Named}
use Rattle.aero_model.specs.Numbering.{Tables}
use Rattle.aero_grammar.specs.Tabled.{name_at}
use Rattle.aero_grammar.specs.Words.{IsEvent}
use Rattle.aero_judge.specs.declared.event_words.EventWords.{EventWords}

-- the event that has these words
abbrev pub named_words : EventWords → Named
named_words w = record { thread = w.thread.now; op = w.op; target = option_copied w.target }

-- a begin or an end, by its code
abbrev pub bound_shown : ℕ → Op
bound_shown zero = op.End
bound_shown (suc n) = op.Begin

abbrev pub op_shown : What → ℕ → Op
op_shown (Read x) code = op.Read
op_shown (Write x) code = op.Write
op_shown (Acquire l) code = op.Acquire
op_shown (Release l) code = op.Release
op_shown (Fork u) code = op.Fork
op_shown (Join u) code = op.Join
op_shown _ code = bound_shown code

-- the label with this code, if there is one
abbrev pub label_shown : List (List ℕ) → ℕ → Option (List ℕ)
label_shown labels zero = None
label_shown labels (suc zero) = None
label_shown labels (suc (suc n)) = Some (name_at labels n)

abbrev pub target_shown : Tables → List (List ℕ) → What → ℕ → Option (List ℕ)
target_shown tables labels (Read x) code = Some (name_at tables.variables x)
target_shown tables labels (Write x) code = Some (name_at tables.variables x)
target_shown tables labels (Acquire l) code = Some (name_at tables.locks l)
target_shown tables labels (Release l) code = Some (name_at tables.locks l)
target_shown tables labels (Fork u) code = Some (name_at tables.threads u)
target_shown tables labels (Join u) code = Some (name_at tables.threads u)
target_shown tables labels _ code = label_shown labels code

abbrev pub shown : Tables → List (List ℕ) → Numbered → ℕ → Named
shown tables labels e code = record { thread = name_at tables.threads e.thread; op = op_shown e.what code; target = target_shown tables labels e.what code }

abbrev pub HasLabelShown : List (List ℕ) → ℕ → Type 0
HasLabelShown labels zero = Unit {0}
HasLabelShown labels (suc zero) = Unit {0}
HasLabelShown labels (suc (suc n)) = n < length labels

-- its target's name, or its label, is in the table
abbrev pub HasTargetShown : Tables → List (List ℕ) → What → ℕ → Type 0
HasTargetShown tables labels (Read x) code = x < length tables.variables
HasTargetShown tables labels (Write x) code = x < length tables.variables
HasTargetShown tables labels (Acquire l) code = l < length tables.locks
HasTargetShown tables labels (Release l) code = l < length tables.locks
HasTargetShown tables labels (Fork u) code = u < length tables.threads
HasTargetShown tables labels (Join u) code = u < length tables.threads
HasTargetShown tables labels _ code = HasLabelShown labels code

-- all its names are in the tables
pub record CanShow (tables : Tables) (labels : List (List ℕ)) (e : Numbered) (code : ℕ) : Type 0 where
  pub thread : e.thread < length tables.threads
  pub target : HasTargetShown tables labels e.what code
  pub named : IsEvent (shown tables labels e code)
