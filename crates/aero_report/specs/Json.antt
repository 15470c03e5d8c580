-- The report for machines: the data of each line as JSON, with its members in this order, and the line's text.
use Rattle.std.specs.Prelude.{◌≡◌, ℕ, ◌+◌, List, [], ◌∷◌, ◌++◌, Bool, true, false, if◌then◌else◌, Option, Some, None, map, codes, decimal}
use Rattle.std.specs.Str.{is_utf8}
use Rattle.base64.specs.Engines.{standard}
use Rattle.base64.specs.GeneralPurpose.{encode_of}
use Rattle.json.specs.Json.{Json, boolean, string, number, array, object, Items, no_items, item, Members, no_members, member, document}
use Rattle.json.specs.Tree.{json_tokens}
use Rattle.json.specs.Print.{print}
use Rattle.aero_model.specs.declared.limits.Limits.{Limits}
use Rattle.aero_model.specs.declared.verdict.Verdict.{Verdict}
use Rattle.aero_model.specs.declared.verdict.Verdict.TheVariants.{Serializable, Pending, Violation, Malformed, IllFormed}
use Rattle.aero_model.specs.declared.verdict.Step.{Step}
use Rattle.aero_model.specs.declared.verdict.Cycle.{Cycle}
use Rattle.aero_model.specs.declared.verdict.CycleStep.{CycleStep}
use Rattle.aero_model.specs.declared.verdict.CycleTransaction.{CycleTransaction}
use Rattle.aero_model.specs.declared.verdict.Extent.{Extent}
use Rattle.aero_model.specs.declared.verdict.Extent.TheVariants as extents
use Rattle.aero_model.specs.declared.verdict.Finding.{Finding}
use Rattle.aero_model.specs.declared.verdict.OpenBlock.{OpenBlock}
use Rattle.aero_model.specs.declared.verdict.Finding.TheVariants.{Judged, Ordered, Explained, Opened, Broken, TooLarge}
use Rattle.aero_model.specs.declared.verdict.Counts.{Counts}
use Rattle.aero_model.specs.Exempt.{Listed}
use Rattle.aero_model.specs.Named.{Named}
use Rattle.aero_report.specs.Options.{Note, Options}
use Rattle.aero_report.specs.Texts.{line_fault_name, shape_fault_name, op_name}
use Rattle.aero_model.specs.Words.{line_words, shape_words}

-- a member of an object: its key and its value
abbrev pub Member : Type 0
Member = List ℕ × Json

abbrev pub members_of : List Member → Members
members_of [] = no_members
members_of (m ∷ ms) = member m.0 m.1 (members_of ms)

abbrev pub items_of : List Json → Items
items_of [] = no_items
items_of (j ∷ js) = item j (items_of js)

abbrev pub object_of : List Member → Json
object_of ms = object (members_of ms)

abbrev pub count : List ℕ → ℕ → Member
count key n = (key, number (decimal n))

abbrev pub word : List ℕ → List ℕ → Member
word key text = (key, string text)

abbrev pub flag : List ℕ → Bool → Member
flag key b = (key, boolean b)

-- {"bytes":BASE64}, in the standard alphabet and padded
abbrev pub bytes_value : List ℕ → Json
bytes_value bytes = object_of (word (codes "bytes") (encode_of standard bytes) ∷ [])

-- a string where the name's bytes are UTF-8
abbrev pub name_value : List ℕ → Json
name_value bytes = if is_utf8 bytes then string bytes else bytes_value bytes

abbrev pub name : List ℕ → List ℕ → Member
name key bytes = (key, name_value bytes)

abbrev pub verdict_members : Verdict → List Member
verdict_members (Serializable events blocks) = word (codes "verdict") (codes "serializable") ∷ count (codes "events") events ∷ count (codes "blocks") blocks ∷ []
verdict_members (Pending events blocks pending) = word (codes "verdict") (codes "open") ∷ count (codes "events") events ∷ count (codes "blocks") blocks ∷ count (codes "open") pending ∷ []
verdict_members (Violation line thread begun) = word (codes "verdict") (codes "violation") ∷ count (codes "line") line ∷ name (codes "thread") thread ∷ count (codes "begun") begun ∷ []
verdict_members (Malformed line fault) = word (codes "verdict") (codes "malformed") ∷ count (codes "line") line ∷ word (codes "fault") (line_fault_name fault) ∷ word (codes "note") (line_words fault) ∷ []
verdict_members (IllFormed line fault) = word (codes "verdict") (codes "ill-formed") ∷ count (codes "line") line ∷ word (codes "fault") (shape_fault_name fault) ∷ word (codes "note") (shape_words fault) ∷ []

-- a transaction of a serial order
abbrev pub step_value : Step → Json
step_value step = object_of (count (codes "line") step.line ∷ name (codes "thread") step.thread ∷ [])

-- the target of an event, if it has one
abbrev pub target_members : Option (List ℕ) → List Member
target_members None = []
target_members (Some target) = name (codes "target") target ∷ []

-- an event: its thread, its operation, and its target, if it has one
abbrev pub event_members : Named → List Member
event_members event = name (codes "thread") event.thread ∷ word (codes "op") (op_name event.op) ∷ target_members event.target

-- an event of a cycle
abbrev pub cycle_step_value : CycleStep → Json
cycle_step_value step = object_of (count (codes "line") step.line ∷ count (codes "first") step.first ∷ event_members step.event)

-- a label, if there is one
abbrev pub label_members : Option (List ℕ) → List Member
label_members None = []
label_members (Some label) = name (codes "label") label ∷ []

-- the line of the block's end, if it has ended
abbrev pub end_members : Option ℕ → List Member
end_members None = []
end_members (Some line) = count (codes "end") line ∷ []

-- whether it is a block, and then its label and its end
abbrev pub extent_members : Extent → List Member
extent_members extents.Alone = flag (codes "block") false ∷ []
extent_members (extents.Block label end) = flag (codes "block") true ∷ (label_members label ++ end_members end)

-- a transaction of a cycle
abbrev pub transaction_value : CycleTransaction → Json
transaction_value t = object_of (count (codes "first") t.first ∷ name (codes "thread") t.thread ∷ extent_members t.extent)

abbrev pub list : List ℕ → List Json → Member
list key values = (key, array (items_of values))

-- what shows a violation: the label of the block that is named, if it has one, the events of the cycle, the transactions through which it goes, and the event that closes it
abbrev pub cycle_members : Cycle → List Member
cycle_members cycle =
    label_members cycle.label
    ++ list (codes "cycle") (map cycle_step_value cycle.steps.items)
    ∷ list (codes "transactions") (map transaction_value cycle.transactions.items)
    ∷ (codes "closing", object_of (event_members cycle.closing))
    ∷ []

-- a block that is open: the line of its begin, its thread, and its label, if it has one
abbrev pub open_block_value : OpenBlock → Json
open_block_value block = object_of (count (codes "line") block.line ∷ name (codes "thread") block.thread ∷ label_members block.label)

abbrev pub finding_members : Finding → List Member
finding_members (Judged verdict) = verdict_members verdict
finding_members (Ordered verdict steps) = verdict_members verdict ++ list (codes "order") (map step_value steps.items) ∷ []
finding_members (Explained verdict cycle) = verdict_members verdict ++ cycle_members cycle
finding_members (Opened verdict blocks) = verdict_members verdict ++ list (codes "opened") (map open_block_value blocks.items) ∷ []
finding_members (Broken bytes) = word (codes "verdict") (codes "broken") ∷ count (codes "bytes") bytes ∷ []
finding_members TooLarge = word (codes "verdict") (codes "too large") ∷ []

-- the data of a source
abbrev pub source_value : List ℕ → Finding → Json
source_value bytes finding = object_of (name (codes "source") bytes ∷ finding_members finding)

abbrev pub count_members : Counts → List Member
count_members counts =
    count (codes "traces") (counts.serializable + counts.pending + counts.violations + counts.faults)
    ∷ count (codes "serializable") counts.serializable ∷ count (codes "open") counts.pending
    ∷ count (codes "violations") counts.violations ∷ count (codes "faults") counts.faults ∷ []

-- how much a source may have
abbrev pub limits_value : Limits → Json
limits_value limits =
    object_of (count (codes "bytes") limits.bytes ∷ count (codes "lines") limits.lines ∷ count (codes "threads") limits.threads ∷ count (codes "names") limits.names ∷ [])

-- the labels of the blocks that are no transactions, or of the only blocks that are, in their order
abbrev pub listed_member : Listed → Member
listed_member listed = list (if listed.only then codes "only" else codes "except") (map name_value listed.labels)

-- the labels with which no block begins, where there are any, in their order
abbrev pub unused_members : List (List ℕ) → List Member
unused_members [] = []
unused_members (label ∷ more) = list (codes "unused") (map name_value (label ∷ more)) ∷ []

-- the line of a note, if it has one
abbrev pub line_members : Option ℕ → List Member
line_members None = []
line_members (Some line) = count (codes "line") line ∷ []

-- a note on a source, or on a line of it
abbrev pub note_value : Note → Json
note_value note = object_of (name (codes "source") note.source ∷ (line_members note.line ++ name (codes "note") note.text ∷ []))

-- what is told of the sources beside their lines, where there is anything, in order
abbrev pub notes_members : List Note → List Member
notes_members [] = []
notes_members (note ∷ more) = list (codes "notes") (map note_value (note ∷ more)) ∷ []

-- whether a source was read no further once its verdict was certain, where that was asked for
abbrev pub stop_members : Bool → List Member
stop_members true = flag (codes "stop") true ∷ []
stop_members false = []

-- whether blocks that were open ended before their thread was joined and at the end of a source, where that was asked for
abbrev pub ending_members : Bool → List Member
ending_members true = flag (codes "end") true ∷ []
ending_members false = []

-- the program's version, how the sources were judged, and what is told of them beside their lines
abbrev pub option_members : Options → List Member
option_members options =
    word (codes "version") (codes "0.1.0")
    ∷ flag (codes "order") options.terms.order
    ∷ flag (codes "explain") options.terms.explain
    ∷ (codes "limits", limits_value options.terms.rules.limits)
    ∷ listed_member options.terms.rules.labels
    ∷ (stop_members options.terms.stop ++ (ending_members options.terms.rules.end ++ (unused_members options.unused ++ notes_members options.notes)))

-- the data of the summary
abbrev pub summary_value : Options → Counts → Json
summary_value options counts = object_of (count_members counts ++ option_members options)

-- the text of a value, with no blank
abbrev pub json_text : Json → List ℕ
json_text value = print (json_tokens value)

-- the line of a value: its text, and the byte 10
abbrev pub json_line : Json → List ℕ
json_line value = json_text value ++ 10 ∷ []

-- by the grammar of JSON its text is a document, and means this value
abbrev pub ReadsBack : Json → Type 0
ReadsBack value = document (json_text value) ≡ Some value
