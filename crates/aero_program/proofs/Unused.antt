-- The labels with which no block begins, and the notes on sources, in the summary and beside the report.
use Rattle.std.proofs.Common.{◌≡◌, ◌∙◌, ℕ, Bool, true, false, true≢false, ◌&&◌, not, if◌then◌else◌, List, [], map, Option, None, Some, Result, Ok, Err, ap, ap₂, sym, subst, refl}
use Rattle.std.proofs.KnownBytes.{Appends-nil}
use Rattle.std.specs.Prelude.{IfOk, IfSome, IsSome}
use Rattle.std.specs.List.{filter}
use Rattle.aero_model.specs.Terms.{Terms}
use Rattle.aero_model.specs.declared.verdict.Ending.{Ending}
use Rattle.aero_model.specs.CallCounts.{Seen}
use Rattle.aero_telling.specs.declared.cause.Cause.{Cause}
use Rattle.aero_telling.specs.declared.notable.Notable.{Notable}
use Rattle.aero_telling.specs.Founds.{Took}
use Rattle.aero_telling.specs.Telling.{SumsUp}
use Rattle.aero_intake.specs.declared.source.SourceOf.{SourceOf}
use Rattle.aero_report.specs.Options.{Note}
use Rattle.aero_program.specs.declared.input.Input.{Input}
use Rattle.aero_program.specs.Notes.{begins_in_one, labels_told, noted_of_all}

-- memory is refused behind the lines
pub takes_nothing : (at : Seen) → Took at at []
takes_nothing at = record { went = Appends-nil at.bytes; faults = refl }

-- what is found where nothing stopped the run
pub found_labels : {V : Type 0} (unused : Option V) (names : V → List (List ℕ)) (found told : List (List ℕ)) (stopped : Option Cause)
    → IfSome unused (λ u. names u ≡ found) → (stopped ≡ None → found ≡ told) → stopped ≡ None → IfSome unused (λ u. names u ≡ told)
found_labels None names found told stopped are same none = tt
found_labels (Some u) names found told stopped are same none = are ∙ same none

-- where the run stopped before, no text goes out
any_text : (text other : List ℕ) (stopped cause : Option Cause) (a b : Seen) → (stopped ≡ None → text ≡ other) → SumsUp text stopped a b cause → SumsUp other stopped a b cause
any_text text other None cause a b same sums = subst (λ t. SumsUp t None a b cause) (same refl) sums
any_text text other (Some why) cause a b same sums = sums

-- the summary has the labels and the notes that were wanted
pub summed_beside : {V N : Type 0} (unused : Option V) (names : V → List (List ℕ)) (told : Option N) (items : N → List Note) (text_of : List (List ℕ) → List Note → List ℕ)
    (wanted : List (List ℕ)) (notes : List Note) (stopped cause : Option Cause) (a b : Seen)
    → (stopped ≡ None → IfSome unused (λ u. names u ≡ wanted)) → IfSome told (λ n. items n ≡ notes)
    → ((text : List ℕ) → IfSome unused (λ u. IfSome told (λ n. text_of (names u) (items n) ≡ text)) → SumsUp text stopped a b cause)
    → SumsUp (text_of wanted notes) stopped a b cause
summed_beside None names told items text_of wanted notes stopped cause a b are known sums = sums (text_of wanted notes) tt
summed_beside (Some u) names None items text_of wanted notes stopped cause a b are known sums = sums (text_of wanted notes) tt
summed_beside (Some u) names (Some n) items text_of wanted notes stopped cause a b are known sums =
    any_text (text_of (names u) (items n)) (text_of wanted notes) stopped cause a b (λ none. ap₂ text_of (are none) known) (sums (text_of (names u) (items n)) refl)

-- the lines on sources and on labels are those of the notes that were wanted
pub lines_told : {T E N : Type 0} (result : Result T E) (text : T → List ℕ) (told : Option N) (items : N → List Note) (lines_of : List Note → List ℕ) (notes : List Note)
    → IfOk result (λ t. IsSome told) → IfOk result (λ t. IfSome told (λ n. text t ≡ lines_of (items n))) → IfSome told (λ n. items n ≡ notes)
    → IfOk result (λ t. text t ≡ lines_of notes)
lines_told (Err e) text told items lines_of notes some lines known = tt
lines_told (Ok t) text None items lines_of notes some lines known = absurd (true≢false (sym some))
lines_told (Ok t) text (Some n) items lines_of notes some lines known = lines ∙ ap lines_of known

-- and so have the lines beside the report, where nothing stopped it
pub told_labels : {R S O F V N : Type 0} (input : R → Input S O F) (came : R → List ℕ) (unused : Option V) (items : V → List N) (name : N → List ℕ) (told : List N) (stopped cause : Option Cause) (terms : Terms) (endings : List (ℕ × Ending)) (words : Bool)
    (sources : List (SourceOf R)) (given : List (ℕ × Ending)) (notables : List (Option Notable))
    → (stopped ≡ None → IfSome unused (λ u. map name (items u) ≡ labels_told terms None endings (noted_of_all input came words sources given notables)))
    → (cause ≡ None → IsSome unused) → (cause ≡ None → stopped ≡ None) → (cause ≡ None → IfSome unused (λ u. told ≡ items u)) → IfSome cause (λ why. told ≡ [])
    → map name told ≡ labels_told terms cause endings (noted_of_all input came words sources given notables)
told_labels input came unused items name told stopped (Some why) terms endings words sources given notables found known whole are none = ap (map name) none ∙ sym (stopped_tells terms.stop)
  where
    stopped_tells : (b : Bool) → (if not b && false then filter (λ label. not (begins_in_one (noted_of_all input came words sources given notables) label)) terms.rules.labels.labels else []) ≡ []
    stopped_tells true = refl
    stopped_tells false = refl
told_labels input came None items name told stopped None terms endings words sources given notables found known whole are none = absurd (true≢false (sym (known refl)))
told_labels input came (Some u) items name told stopped None terms endings words sources given notables found known whole are none = ap (map name) (are refl) ∙ found (whole refl)
