-- The lists of names that the code keeps.
use Rattle.std.specs.Prelude.{◌≡◌, ℕ, ◌+◌, ◌≤◌, List, length, fold, Option, option_map, option_to_list}
use Rattle.aero_model.specs.declared.event.Op.{Op}
use Rattle.aero_model.specs.declared.numbered.Numbered.{Numbered}
use Rattle.aero_model.specs.declared.numbered.What.{What}
use Rattle.aero_model.specs.Exempt.{label_of}
use Rattle.aero_model.specs.Named.{Named}
use Rattle.aero_model.specs.Numbering.{with_name, Tables}
use Rattle.aero_names.specs.Additions.{number_after, with_actor, what_after}
use Rattle.aero_grammar.specs.Tabled.{with_label}
use Rattle.aero_grammar.specs.declared.tables.Tables.{Tables as Kept}

abbrev pub lists_in : Kept → Tables
lists_in t = record { threads = t.threads.names; variables = t.variables.names; locks = t.locks.names }

abbrev pub labels_in : Kept → List (List ℕ)
labels_in t = t.labels.names

-- the labels, and the one of such an event
abbrev pub labels_after : List (List ℕ) → Op → Option (List ℕ) → List (List ℕ)
labels_after labels op target = fold with_name labels (option_to_list (label_of op target))

-- what such an event does, where it comes after these names
abbrev pub what_in_turn : Tables → List (List ℕ) → Op → Option (List ℕ) → What
what_in_turn tables labels op target = with_label (option_map (number_after labels) (label_of op target)) (what_after tables op target)

-- the event by its numbers, where it comes after these names: the actor's number, and then the target's
abbrev pub numbered_in_turn : Tables → List (List ℕ) → Named → Numbered
numbered_in_turn tables labels e = record { thread = number_after tables.threads e.thread; what = what_in_turn (with_actor tables e) labels e.op e.target }

-- each list has room for so many names more
pub record HasRoom (t : Kept) (more : ℕ) : Type 0 where
  pub threads : length t.threads.names + more ≤ t.threads.limit
  pub variables : length t.variables.names + more ≤ t.variables.limit
  pub locks : length t.locks.names + more ≤ t.locks.limit
  pub labels : length t.labels.names + more ≤ t.labels.limit

-- no list has grown by more than so many names, nor changed its limit
pub record HasGrown (old new : Kept) (most : ℕ) : Type 0 where
  pub threads : length new.threads.names ≤ length old.threads.names + most
  pub variables : length new.variables.names ≤ length old.variables.names + most
  pub locks : length new.locks.names ≤ length old.locks.names + most
  pub labels : length new.labels.names ≤ length old.labels.names + most
  pub threads_limit : new.threads.limit ≡ old.threads.limit
  pub variables_limit : new.variables.limit ≡ old.variables.limit
  pub locks_limit : new.locks.limit ≡ old.locks.limit
  pub labels_limit : new.labels.limit ≡ old.labels.limit
