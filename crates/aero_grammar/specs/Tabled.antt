-- A block's tables of names, and its events by their places in them.
use Rattle.std.specs.Prelude.{◌≡◌, ℕ, List, [], map, flat_map, slice_get, All, Option, Some, None, unwrap_or, option_map, option_to_list}
use Rattle.aero_model.specs.declared.numbered.Numbered.{Numbered}
use Rattle.aero_model.specs.declared.numbered.What.{What}
use Rattle.aero_model.specs.declared.numbered.What.TheVariants.{Read, Write, Acquire, Release, Fork, Join, Begin, End, Exempt}
use Rattle.aero_model.specs.declared.event.Op.{Op}
use Rattle.aero_model.specs.declared.event.Op.TheVariants as op
use Rattle.aero_model.specs.declared.verdict.LineFault.{LineFault}
use Rattle.aero_model.specs.Exempt.{label_of}
use Rattle.aero_model.specs.Named.{Named}
use Rattle.aero_model.specs.Numbering.{different_names, number_of, Tables, tables_of, numbered}
use Rattle.aero_grammar.specs.Reading.{IsReading}
use Rattle.aero_grammar.specs.Words.{IsName}

-- the label that an event names, if any
abbrev pub labels_named : Named → List (List ℕ)
labels_named e = option_to_list (label_of e.op e.target)

-- the different labels of the events, in order of first appearance
abbrev pub labels_of : List Named → List (List ℕ)
labels_of events = different_names (flat_map labels_named events)

-- the name at this place of a table
abbrev pub name_at : List (List ℕ) → ℕ → List ℕ
name_at names n = unwrap_or (slice_get names n) []

-- no block has an exempt event: it is seen as an end
abbrev pub op_of : What → Op
op_of (Read x) = op.Read
op_of (Write x) = op.Write
op_of (Acquire l) = op.Acquire
op_of (Release l) = op.Release
op_of (Fork u) = op.Fork
op_of (Join u) = op.Join
op_of (Begin label) = op.Begin
op_of End = op.End
op_of Exempt = op.End

abbrev pub target_in : Tables → List (List ℕ) → What → Option (List ℕ)
target_in tables labels (Read x) = Some (name_at tables.variables x)
target_in tables labels (Write x) = Some (name_at tables.variables x)
target_in tables labels (Acquire l) = Some (name_at tables.locks l)
target_in tables labels (Release l) = Some (name_at tables.locks l)
target_in tables labels (Fork u) = Some (name_at tables.threads u)
target_in tables labels (Join u) = Some (name_at tables.threads u)
target_in tables labels (Begin None) = None
target_in tables labels (Begin (Some l)) = Some (name_at labels l)
target_in tables labels End = None
target_in tables labels Exempt = None

-- the event by its names
abbrev pub named_in : Tables → List (List ℕ) → Numbered → Named
named_in tables labels e = record { thread = name_at tables.threads e.thread; op = op_of e.what; target = target_in tables labels e.what }

abbrev pub line_in : Tables → List (List ℕ) → ℕ × Numbered → ℕ × Named
line_in tables labels e = (e.0, named_in tables labels e.1)

-- the events by their names, with their lines
abbrev pub lines_in : Tables → List (List ℕ) → List (ℕ × Numbered) → List (ℕ × Named)
lines_in tables labels events = map (line_in tables labels) events

-- what the event does, where a begin has this label
abbrev pub with_label : Option ℕ → What → What
with_label label (Begin unlabelled) = Begin label
with_label label what = what

-- the event with its label's place, if it has a label
abbrev pub labelled : List (List ℕ) → Named → Numbered → Numbered
labelled labels e n = record { thread = n.thread; what = with_label (option_map (number_of labels) (label_of e.op e.target)) n.what }

-- the event by its names' places
abbrev pub numbered_line : Tables → List (List ℕ) → ℕ × Named → ℕ × Numbered
numbered_line tables labels e = (e.0, labelled labels e.1 (numbered tables e.1))

-- The tables and the labels are those of the events: in order of first appearance, each name once, and none that no event has. The numbers are the names' places in them.
pub record IsTabled (tables : Tables) (labels : List (List ℕ)) (events : List (ℕ × Numbered)) : Type 0 where
  pub tables_are : tables ≡ tables_of (map (λ e. e.1) (lines_in tables labels events))
  pub labels_are : labels ≡ labels_of (map (λ e. e.1) (lines_in tables labels events))
  pub numbers_are : events ≡ map (numbered_line tables labels) (lines_in tables labels events)

-- each is a name
pub record AreNames (tables : Tables) (block_labels : List (List ℕ)) : Type 0 where
  pub threads : All IsName tables.threads
  pub variables : All IsName tables.variables
  pub locks : All IsName tables.locks
  pub labels : All IsName block_labels

-- what a block that was read has
pub record IsBlock (tables : Tables) (labels : List (List ℕ)) (events : List (ℕ × Numbered)) (lines : ℕ) (fault : Option (ℕ × LineFault)) : Type 0 where
  pub reading : IsReading (record { events = lines_in tables labels events; lines = lines; fault = fault })
  pub tabled : IsTabled tables labels events
  pub names : AreNames tables labels
