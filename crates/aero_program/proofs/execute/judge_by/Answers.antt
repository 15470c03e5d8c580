use Rattle.std.specs.Vec.{with_items}
use Rattle.std.proofs.lemmas.List.{length-map, with_items_is}
use Rattle.std.proofs.Common.{Bool, Bor, length, arith, ◌≡◌, ◌≤◌, ◌^◌, ◌∙◌, ◌+◌, ap, ap₂, sym, subst, inl, inr, map, refl, if◌then◌else◌, [], ◌++◌, List, ℕ, Option, None}
use Rattle.aero_model.specs.CallCounts.{seen_by}
use Rattle.aero_model.specs.Exempt.{Listed}
use Rattle.aero_model.specs.declared.verdict.Ending.{Ending}
use Rattle.std.specs.IoError.{error_kind}
use Rattle.aero_model.specs.Terms.{ruled}
use Rattle.aero_telling.specs.declared.cause.Cause.{Cause}
use Rattle.aero_telling.specs.Founds.{WasTold, sighted, whose}
use Rattle.aero_telling.proofs.Tellings.{summed}
use Rattle.aero_intake.specs.PlanTerms.{options_with, terms_of}
use Rattle.aero_report.specs.Asked.{note_of}
use Rattle.aero_report.specs.Forms.{summary_line_in}
use Rattle.aero_report.specs.Options.{Note}
use Rattle.aero_program.specs.Traces.{came_in, input_of, sight_of}
use Rattle.aero_program.proofs.Unbegun.{labels_of_run}
use Rattle.aero_program.proofs.Unused.{found_labels, lines_told, summed_beside, told_labels}
use Rattle.aero_program.specs.declared.command.Sources.{Sources}
use Rattle.aero_program.specs.Executed.{Ends, TellsUnlisted}
use Rattle.aero_program.specs.Inputs.{standing_of}
use Rattle.aero_program.specs.Labels.{unflagged}
use Rattle.aero_program.specs.Led.{place_of}
use Rattle.aero_program.specs.Command.{are_words, count_named, list_path, listed_by}
use Rattle.aero_program.specs.Sizes.{name_and_reader}
use Rattle.aero_program.specs.Sightings.{AreNames, AreUnlisted, IsLeftBeside, IsLeftUnlisted, source_sightings}
use Rattle.aero_program.specs.Retries.{seen_within}
use Rattle.std.specs.Prelude.{IfSome, option_map, unwrap_or}
use Rattle.aero_program.specs.Notes.{AreNotes, label_lines, labels_told, note_texts, noted_of_all, notes_on}
use Rattle.aero_program.proofs.Noting.{told_as}
use Rattle.aero_program.specs.Faults.{fault_of}
use Rattle.aero_program.specs.Status.{end_checked}
use Rattle.aero_program.specs.Streams.{shown_by, written_by}
use Rattle.aero_program.proofs.Faulting.{is_fault}
use Rattle.aero_program.proofs.Judged.{judged}
use Rattle.aero_program.proofs.Leaving.{left_by, rest_kept, rest_none}
use Rattle.aero_program.proofs.Owning.{are_own, noted_by}
use Rattle.aero_program.proofs.Sending.{traced_row_send}
use Rattle.aero_program.proofs.Sizing.{same_sighted}
use denote.Exit
use denote.Param.{param}
use denote.Param.Send.{arg_send, param_send, sendable}
use denote.Struct.Field.{shr_ref_field}
use mir.Syntax.{named}
use Rattle.aero_program.proofs.execute.judge_by.Goals as goal

pub returns : goal.returns
returns g c =
    let given = g.S.Read.remaining c.args.stdin in
    let known : List ℕ → Option (List ℕ) = g.F.Opener.known c.args.place.files.now in
    let config = c.args.chosen.config in
    let asked_is = c.in-Ok.ensures.files in
    let names : List (List ℕ) = map (λ s. s.name.items) c.in-Ok-sources_of.gathered.sources.items in
    let named : AreNames known config.files given names = subst (λ (s : Sources). AreNames known s given names) asked_is c.in-Ok-sources_of.ensures.names in
    let listed : Listed = unwrap_or c.args.chosen.set (listed_by config.except.items config.only.items) in
    let gathered = c.in-Ok-sources_of.gathered.sources in
    let looked_at = c.look_at_all-extent.new.sources in
    let as_many : length looked_at ≡ gathered.len = omega (arith, c.look_at_all-extent.auto.sources, c.deref_mut.ensures.len) in
    let sight = sight_of g.S.Read.remaining (λ (f : Bor g.row.F.Denot). g.F.Opener.known f.now) g.F.File.Read.remaining in
    let sources = (with_items gathered looked_at).items in
    let seen = same_sighted sources gathered.items sight (ap (map name_and_reader) (with_items_is gathered looked_at as_many) ∙ c.look_at_all-extent.ensures.kept ∙ ap (map name_and_reader) c.deref_mut.ensures.value)
    ∙ c.in-Ok-sources_of.ensures.sighted ∙ ap (λ (s : Sources). source_sightings known s given names) asked_is in
    let words : Bool = are_words config.files in
    let on : Bool = config.terminals.errors in
    let terms = terms_of c.in-Ok.plan in
    let form = c.in-Ok.plan.form in
    let report = c.run_all-report.result.0 in
    let left = c.run_all-report.result.1.items in
    let unused = c.unused_labels-unused.result in
    let cause = c.sum_up_with-cause.result in
    let before = shown_by g.O.Write.contents c.args.output.now in
    let mid = seen_by (λ w. g.O.Write.contents (written_by w)) c.run_all-report.new.writer in
    let after = seen_by (λ w. g.O.Write.contents (written_by w)) c.sum_up_with-cause.new.writer in
    let noted_endings : List (ℕ × Ending) = if config.long then [] else report.told.endings.items in
    let noted = noted_of_all input_of came_in words left noted_endings report.told.notables.items in
    let found = found_labels unused (λ u. map (λ label. label.now) u.items) (unflagged terms report.told.begun) (labels_told terms None report.told.endings.items noted) report.cause c.unused_labels-unused.ensures
    (λ none. labels_of_run input_of sight came_in (λ r. place_of (standing_of g.S.Read.remaining (λ (f : Bor g.row.F.Denot). g.F.Opener.known f.now) g.F.File.Read.remaining r.first.value)) (λ r. refl)
    known config.files given names (map (sighted sight) sources) seen left terms form before.writer mid report.told.endings.items report.told.notables.items report.told.counts report.told.begun words noted_endings
    (subst (λ (o : Option Cause). WasTold terms form (map (sighted sight) sources) (map (sighted sight) left) before.writer mid report.told.endings.items report.told.notables.items report.told.counts o) none c.run_all-report.ensures.told)
    c.run_all-report.ensures.labels) in
    let told = told_as input_of came_in g.F.Opener.holds (λ ns. map note_of ns.items) c.are_words.result words left noted_endings report.told.notables.items
    (c.are_words.ensures ∙ ap are_words asked_is) c.all_notes-notes.result
    (subst (λ l. IfSome c.all_notes-notes.result (λ ns. AreNotes g.F.Opener.holds (noted_of_all input_of came_in c.are_words.result l noted_endings report.told.notables.items) (map note_of ns.items))) c.deref.ensures.value c.all_notes-notes.ensures) in
    let notes : List Note = notes_on told.remarks in
    let text : List (List ℕ) → List Note → List ℕ = λ ls ns. summary_line_in form (options_with terms ls ns) report.told.counts in
    let sums = summed_beside unused (λ u. map (λ label. label.now) u.items) c.all_notes-notes.result (λ ns. map note_of ns.items) text (labels_told terms None report.told.endings.items noted) notes
    report.cause cause mid after found told.told c.sum_up_with-cause.ensures.summed in
    let run = summed terms form (summary_line_in form (options_with terms (labels_told terms None report.told.endings.items noted) notes)) (map (sighted sight) sources) (map (sighted sight) left)
    before.writer mid after report.told.endings.items report.told.notables.items report.told.counts report.cause cause c.run_all-report.ensures.told sums in
    let labels_are_told = told_labels input_of came_in unused (λ u. u.items) (λ label. label.now) c.told_after-told.result.now report.cause cause terms report.told.endings.items words left noted_endings report.told.notables.items
    found c.sum_up_with-cause.ensures.known c.sum_up_with-cause.ensures.whole c.told_after-told.ensures.whole c.told_after-told.ensures.stopped in
    let lines_of : List Note → List ℕ = λ ns. note_texts on ns ++ label_lines on (map (λ label. label.now) c.told_after-told.result.now) in
    let lines = lines_told c.all_lines-lines.result (λ text. text.items) c.all_notes-notes.result (λ ns. map note_of ns.items) lines_of notes
    c.all_lines-lines.ensures.known c.all_lines-lines.ensures.lines told.told in
    inl (judged input_of came_in sight known g.F.Opener.can_fail g.F.Opener.holds config listed given _
    c.in-Ok.plan.terms.rules.limits names left (map (sighted sight) sources)
    before
    (record { writer = after; unflushed = c.args.output.now.unflushed.number })
    (shown_by g.O.Write.contents c.flush-flushed.new.self)
    report.told.endings.items report.told.notables.items report.told.counts cause (fault_of error_kind c.flush-flushed.result) c.end_checked-end.result _ _ c.finish.result terms form
    c.requires
    (λ i. record { rules = ruled c.in-Ok.plan.terms.rules.limits (c.in-Ok.ensures.except i) (c.in-Ok.ensures.end i); order = c.in-Ok.ensures.order i; explain = c.in-Ok.ensures.explain i; stop = c.in-Ok.ensures.stop i }) c.in-Ok.ensures.form c.in-Ok.ensures.limits
    named seen
    told.remarks told.are told.shown
    (are_own input_of came_in sight g.F.Opener.can_fail g.F.Opener.holds words
    (λ source too_large fault. noted_by g.S.Read.remaining (λ f. g.F.Opener.known f.now) g.F.File.Read.remaining g.F.Opener.can_fail g.F.Opener.holds input_of came_in source words too_large fault source.reader.first.value source.reader.given.bytes source.reader.faults.number source.reader.ends.number refl source.reader.led)
    left noted_endings report.told.notables.items)
    (left_by known config.files given names (map (sighted sight) left) (option_map (seen_within g.S.Read.remaining) c.in-Ok-sources_of.gathered.stdin) _
    (subst (λ (s : Sources). IsLeftBeside s given (option_map (seen_within g.S.Read.remaining) c.in-Ok-sources_of.gathered.stdin)) asked_is c.in-Ok-sources_of.ensures.left)
    (rest_kept (seen_within g.S.Read.remaining) c.in-Ok-sources_of.gathered.stdin c.left_beside.result c.left_beside.ensures.kept)
    (run.names ∙ ap (map whose) seen) named
    (λ none one. c.left_beside.ensures.source (rest_none (seen_within g.S.Read.remaining) c.in-Ok-sources_of.gathered.stdin none) (let whole = c.run_all-report.result.1.ok.0 in let as_many = length-map left (sighted sight) in omega (arith, whole, as_many, one))))
    run refl
    (record {
      bytes = c.flush-flushed.ensures.bytes;
      faults = c.flush-flushed.ensures.faults;
      unflushed = c.flush-flushed.ensures.unflushed ∙ ap (λ b. c.args.output.now.unflushed.number + (if b then 1 else 0)) (is_fault error_kind c.flush-flushed.result);
    })
    (c.end_checked-end.ensures ∙ ap₂ (λ ns e. end_checked config.fail_unchecked ns e) c.deref-2.ensures.value c.end_after-end.ensures)
    (subst (λ ls. Ends (note_texts on notes ++ label_lines on ls) c.end_checked-end.result (seen_by g.E.Write.contents c.args.errors.now) (seen_by g.E.Write.contents c.finish.new.errors) c.finish.result)
    labels_are_told (c.finish.ensures (lines_of notes) lines)))

pub run_all-report-requires-after_bounds : goal.run_all-report-requires-after_bounds
run_all-report-requires-after_bounds g c = λ κs within.
    let few : count_named c.in-Ok.asked ≤ 2 ^ 16 = subst (λ (s : Sources). count_named s ≤ 2 ^ 16) (sym c.in-Ok.ensures.files) c.args.chosen.config.most_files in
    c.in-Ok-sources_of.ensures.few few

pub run_all-report-requires-send-R : goal.run_all-report-requires-send-R
run_all-report-requires-send-R g c κs within = param_send 0 _ (arg_send _ Exit.no _ (traced_row_send (param 0 g.row.S)
    (shr_ref_field (record { mir = named 5; lft = κs.1.1.1.1.1.0 }) (param 1 g.row.F) tt).row (param 5 g.row.F-File) _ _ _
    c.type_bounds.send-S (search (sendable, c.type_bounds.sync-F) depth 20) c.type_bounds.send-F-File))

pub returns-in-Err : goal.returns-in-Err
returns-in-Err g c =
    let given = g.S.Read.remaining c.args.stdin in
    let asked_is = c.in-Ok.ensures.files in
    let why = c.in-Err.field-0.why in
    elim c.tell_unlisted-status.ensures [
      | inl tells ↦ inr (
        refl,
        inl (inl (record {
          why = why;
          left_by = subst (λ (s : Sources). IsLeftUnlisted s given why (option_map (seen_within g.S.Read.remaining) c.in-Err.field-0.stdin)) asked_is c.in-Err.ensures.unlisted_left;
          are = subst (λ (s : Sources). AreUnlisted (g.F.Opener.known c.args.place.files.now) g.F.Opener.can_fail s given why) asked_is c.in-Err.ensures.unlisted;
          tells = subst (λ (path : List ℕ). TellsUnlisted c.args.chosen.config.terminals.errors path why (seen_by g.E.Write.contents c.args.errors.now) (seen_by g.E.Write.contents c.tell_unlisted-status.new.errors) c.tell_unlisted-status.result) (c.list_path.ensures ∙ ap list_path asked_is) tells;
        })),
      )
      | inr fails ↦ inr (refl, inr fails)
    ]
