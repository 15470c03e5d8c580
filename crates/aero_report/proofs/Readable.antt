-- What is written reads back: no value nests deeper than four.
use Rattle.std.proofs.Common.{◌≡◌, ℕ, ◌≤◌, Bool, true, false, if◌then◌else◌, List, [], ◌∷◌, ◌++◌, map, Option, Some, None, option_and_then, codes, Result, Ok, Err, OnOk, sym, ap, ◌∙◌, subst, arith, append-nil}
use Rattle.std.specs.Str.{is_utf8}
use Rattle.json.specs.Token.{Token}
use Rattle.json.specs.Lex.{tokens}
use Rattle.json.specs.Json.{Json, string, value, if_last, max_depth}
use Rattle.json.specs.Print.{print}
use Rattle.json.specs.Tree.{json_tokens, depth, items_depth, members_depth}
use Rattle.json.proofs.Printed.Trees.{value-json_tokens}
use Rattle.aero_model.specs.declared.verdict.Verdict.{Verdict}
use Rattle.aero_model.specs.declared.verdict.Verdict.TheVariants.{Serializable, Pending, Violation, Malformed, IllFormed}
use Rattle.aero_model.specs.declared.verdict.Step.{Step}
use Rattle.aero_model.specs.declared.verdict.CycleStep.{CycleStep}
use Rattle.aero_model.specs.declared.verdict.CycleTransaction.{CycleTransaction}
use Rattle.aero_model.specs.declared.verdict.OpenBlock.{OpenBlock}
use Rattle.aero_model.specs.declared.verdict.Extent.{Extent}
use Rattle.aero_model.specs.declared.verdict.Extent.TheVariants as extents
use Rattle.aero_model.specs.declared.verdict.Counts.{Counts}
use Rattle.aero_model.specs.declared.verdict.Finding.{Finding}
use Rattle.aero_model.specs.declared.verdict.Finding.TheVariants.{Judged, Ordered, Explained, Opened, Broken, TooLarge}
use Rattle.aero_model.specs.Named.{Named}
use Rattle.aero_report.specs.Options.{Note, Options}
use Rattle.aero_report.specs.Json.{Member, members_of, items_of, bytes_value, name, name_value, verdict_members, step_value, target_members, event_members, cycle_step_value, label_members, end_members, extent_members, transaction_value, open_block_value, finding_members, source_value, count_members, option_members, summary_value, stop_members, ending_members, unused_members, line_members, note_value, notes_members, ReadsBack}

pub reads_back : {T E : Type 0} (r : Result T E) (ts : List Token) (j : Json) → depth j ≤ max_depth → ts ≡ json_tokens j → OnOk r (tokens (print ts) ≡ ts) → OnOk r (ReadsBack j)
reads_back (Ok x) ts j shallow is h =
    ap (option_and_then (λ p. if_last p.0 p.1))
    (ap (value max_depth) (subst (λ us. tokens (print us) ≡ us) is h ∙ sym (append-nil (json_tokens j))) ∙ value-json_tokens j max_depth [] shallow)
reads_back (Err e) ts j shallow is h = tt

name_depth : (bytes : List ℕ) → depth (name_value bytes) ≤ 1
name_depth bytes = elim (is_utf8 bytes) as (λ b. depth (if b then string bytes else bytes_value bytes) ≤ 1) [ true ↦ omega arith | false ↦ omega arith ]

step_depth : (s : Step) → depth (step_value s) ≤ 2
step_depth s = omega (arith, name_depth s.thread)

target_depth : (t : Option (List ℕ)) → members_depth (members_of (target_members t)) ≤ 1
target_depth None = omega arith
target_depth (Some t) = omega (arith, name_depth t)

event_depth : (e : Named) → members_depth (members_of (event_members e)) ≤ 1
event_depth e = omega (arith, name_depth e.thread, target_depth e.target)

cycle_step_depth : (s : CycleStep) → depth (cycle_step_value s) ≤ 2
cycle_step_depth s = omega (arith, event_depth s.event)

label_depth : (l : Option (List ℕ)) → members_depth (members_of (label_members l)) ≤ 1
label_depth None = omega arith
label_depth (Some l) = omega (arith, name_depth l)

end_depth : (end : Option ℕ) → members_depth (members_of (end_members end)) ≤ 1
end_depth None = omega arith
end_depth (Some line) = omega arith

verdict_depth : (v : Verdict) → members_depth (members_of (verdict_members v)) ≤ 1
verdict_depth (Serializable events blocks) = omega arith
verdict_depth (Pending events blocks pending) = omega arith
verdict_depth (Violation line thread begun) = omega (arith, name_depth thread)
verdict_depth (Malformed line fault) = omega arith
verdict_depth (IllFormed line fault) = omega arith

list_depth : {A : Type 0} (f : A → Json) → ((x : A) → depth (f x) ≤ 2) → (xs : List A) → items_depth (items_of (map f xs)) ≤ 2
list_depth f h [] = omega arith
list_depth f h (x ∷ xs) = omega (arith, h x, list_depth f h xs)

both_depth : (n : ℕ) (ms ns : List Member) → members_depth (members_of ms) ≤ n → members_depth (members_of ns) ≤ n → members_depth (members_of (ms ++ ns)) ≤ n
both_depth n [] ns h k = k
both_depth n (m ∷ ms) ns h k = omega (arith, h, both_depth n ms ns (omega (arith, h)) k)

extent_depth : (e : Extent) → members_depth (members_of (extent_members e)) ≤ 1
extent_depth extents.Alone = omega arith
extent_depth (extents.Block label end) = omega (arith, both_depth 1 (label_members label) (end_members end) (label_depth label) (end_depth end))

open_block_depth : (block : OpenBlock) → depth (open_block_value block) ≤ 2
open_block_depth block = omega (arith, name_depth block.thread, label_depth block.label)

transaction_depth : (t : CycleTransaction) → depth (transaction_value t) ≤ 2
transaction_depth t = omega (arith, name_depth t.thread, extent_depth t.extent)

finding_depth : (f : Finding) → members_depth (members_of (finding_members f)) ≤ 3
finding_depth (Judged v) = omega (arith, verdict_depth v)
finding_depth (Ordered v steps) = both_depth 3 (verdict_members v) _ (omega (arith, verdict_depth v)) (omega (arith, list_depth step_value step_depth steps.items))
finding_depth (Explained v cycle) =
    both_depth 3 (verdict_members v) _ (omega (arith, verdict_depth v))
    (both_depth 3 (label_members cycle.label) _ (omega (arith, label_depth cycle.label))
    (omega (arith, list_depth cycle_step_value cycle_step_depth cycle.steps.items, list_depth transaction_value transaction_depth cycle.transactions.items, event_depth cycle.closing)))
finding_depth (Opened v blocks) =
    both_depth 3 (verdict_members v) _ (omega (arith, verdict_depth v)) (omega (arith, list_depth open_block_value open_block_depth blocks.items))
finding_depth (Broken bytes) = omega arith
finding_depth TooLarge = omega arith

pub source_depth : (bytes : List ℕ) (f : Finding) → depth (source_value bytes f) ≤ max_depth
source_depth bytes f = omega (arith, name_depth bytes, finding_depth f)

labels_depth : (labels : List (List ℕ)) → items_depth (items_of (map name_value labels)) ≤ 2
labels_depth labels = list_depth name_value (λ l. omega (arith, name_depth l)) labels

unused_depth : (labels : List (List ℕ)) → members_depth (members_of (unused_members labels)) ≤ 3
unused_depth [] = omega arith
unused_depth (label ∷ more) = omega (arith, labels_depth (label ∷ more))

line_depth : (line : Option ℕ) → members_depth (members_of (line_members line)) ≤ 1
line_depth None = omega arith
line_depth (Some line) = omega arith

note_depth : (n : Note) → depth (note_value n) ≤ 2
note_depth n = omega (arith, name_depth n.source, both_depth 1 (line_members n.line) (name (codes "note") n.text ∷ []) (line_depth n.line) (omega (arith, name_depth n.text)))

notes_depth : (notes : List Note) → members_depth (members_of (notes_members notes)) ≤ 3
notes_depth [] = omega arith
notes_depth (note ∷ more) = omega (arith, list_depth note_value note_depth (note ∷ more))

stop_depth : (stop : Bool) → members_depth (members_of (stop_members stop)) ≤ 3
stop_depth true = omega arith
stop_depth false = omega arith

ending_depth : (end : Bool) → members_depth (members_of (ending_members end)) ≤ 3
ending_depth true = omega arith
ending_depth false = omega arith

option_depth : (o : Options) → members_depth (members_of (option_members o)) ≤ 3
option_depth o = omega (
  arith,
  labels_depth o.terms.rules.labels.labels,
  both_depth 3 (stop_members o.terms.stop) (ending_members o.terms.rules.end ++ (unused_members o.unused ++ notes_members o.notes)) (stop_depth o.terms.stop)
      (both_depth 3 (ending_members o.terms.rules.end) (unused_members o.unused ++ notes_members o.notes) (ending_depth o.terms.rules.end)
      (both_depth 3 (unused_members o.unused) (notes_members o.notes) (unused_depth o.unused) (notes_depth o.notes))),
)

pub summary_depth : (o : Options) (counts : Counts) → depth (summary_value o counts) ≤ max_depth
summary_depth o counts = omega (arith, both_depth 3 (count_members counts) (option_members o) (omega arith) (option_depth o))
