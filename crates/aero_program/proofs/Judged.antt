-- A run, a flush and what was told after it, as one.
use Rattle.std.proofs.Common.{◌≡◌, ◌∙◌, ℕ, Bool, if◌then◌else◌, List, [], ◌∷◌, ◌++◌, map, Option, None, Result, ap, ap₂, subst, refl}
use Rattle.std.specs.declared.io.ErrorKind.{ErrorKind}
use Rattle.aero_model.specs.declared.limits.Limits.{Limits}
use Rattle.aero_model.specs.declared.verdict.Counts.{Counts}
use Rattle.aero_model.specs.declared.verdict.Ending.{Ending}
use Rattle.aero_model.specs.CallCounts.{Seen}
use Rattle.aero_model.specs.Exempt.{Listed}
use Rattle.aero_model.specs.Terms.{Terms}
use Rattle.aero_telling.specs.declared.cause.Cause.{Cause}
use Rattle.aero_telling.specs.declared.notable.Notable.{Notable}
use Rattle.aero_report.specs.declared.form.Form.{Form}
use Rattle.aero_report.specs.Forms.{summary_line_in}
use Rattle.aero_telling.specs.Founds.{Sighted, sighted, whose, WasRunTo}
use Rattle.aero_intake.specs.PlanTerms.{options_with}
use Rattle.aero_intake.specs.Source.{Sight}
use Rattle.aero_intake.specs.declared.source.SourceOf.{SourceOf}
use Rattle.aero_program.specs.declared.command.Config.{Config}
use Rattle.aero_program.specs.declared.failure.Failure.{Failure}
use Rattle.aero_program.specs.declared.input.Input.{Input}
use Rattle.aero_program.specs.declared.stamp.Stamp.{Stamp}
use Rattle.aero_program.specs.Executed.{Ends, IsLeftBy, WasJudged, terms_asked}
use Rattle.aero_program.specs.Command.{AreLimitsFor, are_words, form_on}
use Rattle.aero_program.specs.LabelFiles.{AreListed}
use Rattle.aero_program.specs.Notes.{AreOwn, AreShown, Remark, label_lines, labels_told, note_texts, noted_of_all, notes_on}
use Rattle.aero_program.proofs.Noting.{are_notable, are_noted}
use Rattle.aero_program.specs.Sightings.{AreNames, sightings, source_made, source_sightings}
use Rattle.aero_program.specs.Status.{end_checked, end_of_run}
use Rattle.aero_program.specs.Streams.{Shown, WasFlushed}

names_of_sightings : (made : List ℕ → Sight) (names : List (List ℕ)) → map (λ s. s.name) (sightings made names) ≡ names
names_of_sightings made [] = refl
names_of_sightings made (name ∷ more) = ap (λ l. name ∷ l) (names_of_sightings made more)

-- sources that keep their names and what their readers were made for keep their names
names_kept : (new old : List Sighted) → map whose new ≡ map whose old → map (λ s. s.name) new ≡ map (λ s. s.name) old
names_kept [] [] same = refl
names_kept [] (x ∷ old) same = cc (same)
names_kept (x ∷ new) [] same = cc (same)
names_kept (x ∷ new) (y ∷ old) same =
    let first : whose x ≡ whose y = cc same in
    let rest : map whose new ≡ map whose old = cc same in
    ap₂ (λ n ns. n ∷ ns) (ap (λ w. w.0) first) (names_kept new old rest)

names_noted : {R S O F : Type 0} (input : R → Input S O F) (came : R → List ℕ) (sight : R → Sight) (words : Bool) (sources : List (SourceOf R)) (endings : List (ℕ × Ending)) (notables : List (Option Notable))
    → map (λ n. n.name) (noted_of_all input came words sources endings notables) ≡ map (λ s. s.name) (map (sighted sight) sources)
names_noted input came sight words [] endings notables = refl
names_noted input came sight words (source ∷ more) [] [] = ap (λ l. source.name.items ∷ l) (names_noted input came sight words more [] [])
names_noted input came sight words (source ∷ more) [] (notable ∷ notables) = ap (λ l. source.name.items ∷ l) (names_noted input came sight words more [] notables)
names_noted input came sight words (source ∷ more) (ending ∷ rest) [] = ap (λ l. source.name.items ∷ l) (names_noted input came sight words more rest [])
names_noted input came sight words (source ∷ more) (ending ∷ rest) (notable ∷ notables) = ap (λ l. source.name.items ∷ l) (names_noted input came sight words more rest notables)

pub judged : {R S O F : Type 0} (input : R → Input S O F) (came : R → List ℕ) (sight : R → Sight) (paths : List ℕ → Option (List ℕ)) (can_fail : List ℕ → Type 0) (holds : List ℕ → Stamp → Option (List ℕ) → Type 0) (config : Config) (listed : Listed) (given : Option (List ℕ)) (left : Option Seen) (limits : Limits) (names : List (List ℕ))
    (new : List (SourceOf R)) (were : List Sighted) (before between after : Shown) (endings : List (ℕ × Ending)) (notables : List (Option Notable)) (counts : Counts) (cause : Option Cause)
    (fault : Option ErrorKind) (end : Result ℕ Failure) (told told_after : Seen) (status : ℕ) (terms : Terms) (made : Form)
    → AreListed paths config listed → terms ≡ terms_asked config listed limits → made ≡ form_on config.terminals config.form → AreLimitsFor config.long limits
    → AreNames paths config.files given names → were ≡ source_sightings paths config.files given names
    → (remarks : List Remark) → map (λ r. r.noted) remarks ≡ noted_of_all input came (are_words config.files) new (if config.long then [] else endings) notables → AreShown holds remarks
    → AreOwn can_fail holds (map (sighted sight) new) (noted_of_all input came (are_words config.files) new (if config.long then [] else endings) notables)
    → IsLeftBy config.files given (map (sighted sight) new) left
    → WasRunTo terms made (summary_line_in made (options_with terms (labels_told terms None endings (noted_of_all input came (are_words config.files) new (if config.long then [] else endings) notables)) (notes_on remarks))) were (map (sighted sight) new) before.writer between.writer endings notables counts cause
    → between.unflushed ≡ before.unflushed → WasFlushed between after fault → end ≡ end_checked config.fail_unchecked notables (end_of_run config.fail_open cause counts fault)
    → Ends (note_texts config.terminals.errors (notes_on remarks) ++ label_lines config.terminals.errors (labels_told terms cause endings (noted_of_all input came (are_words config.files) new (if config.long then [] else endings) notables))) end told told_after status
    → WasJudged paths can_fail holds config given left before after told told_after status
judged input came sight paths can_fail holds config listed given left limits names new were before between after endings notables counts cause fault end told told_after status terms made
    are_listed on_terms in_form are named seen remarks on_noted shown_all own stays run same flushed ended ends =
    let sightings : List Sighted = source_sightings paths config.files given names in
    let wanted : Terms = terms_asked config listed limits in
    let words : Bool = are_words config.files in
    let form : Form = form_on config.terminals config.form in
    let noted_endings : List (ℕ × Ending) = if config.long then [] else endings in
    let noted = noted_of_all input came words new noted_endings notables in
    let unused : Terms → List (List ℕ) = λ r. labels_told r None endings noted in
    let ran : WasRunTo wanted form (summary_line_in form (options_with wanted (unused wanted) (notes_on remarks))) sightings (map (sighted sight) new) before.writer between.writer endings notables counts cause =
    subst (λ r. WasRunTo r form (summary_line_in form (options_with r (unused r) (notes_on remarks))) sightings (map (sighted sight) new) before.writer between.writer endings notables counts cause) on_terms
    (subst (λ (f : Form). WasRunTo terms f (summary_line_in f (options_with terms (unused terms) (notes_on remarks))) sightings (map (sighted sight) new) before.writer between.writer endings notables counts cause) in_form
    (subst (λ old. WasRunTo terms made (summary_line_in made (options_with terms (unused terms) (notes_on remarks))) old (map (sighted sight) new) before.writer between.writer endings notables counts cause) seen run)) in
    record {
      listed = listed;
      are_listed = are_listed;
      limits = limits;
      limits_are = are;
      names = names;
      names_are = named;
      sources = map (sighted sight) new;
      between = between;
      endings = endings;
      notables = notables;
      counts = counts;
      cause = cause;
      ran = ran;
      same = same;
      fault = fault;
      flushed = flushed;
      noted = noted_of_all input came words new noted_endings notables;
      of_names = names_noted input came sight words new noted_endings notables ∙ names_kept (map (sighted sight) new) sightings ran.names ∙ names_of_sightings (source_made paths config.files given) names;
      are_noted = are_noted input came words new noted_endings notables;
      are_notable = are_notable input came words new noted_endings notables;
      are_own = own;
      left_by = stays;
      remarks = remarks;
      on_noted = on_noted;
      are_shown = shown_all;
      ends = subst (λ r. Ends (note_texts config.terminals.errors (notes_on remarks) ++ label_lines config.terminals.errors (labels_told r cause endings noted)) (end_checked config.fail_unchecked notables (end_of_run config.fail_open cause counts fault)) told told_after status) on_terms
          (subst (λ e. Ends (note_texts config.terminals.errors (notes_on remarks) ++ label_lines config.terminals.errors (labels_told terms cause endings noted)) e told told_after status) ended ends);
    }
