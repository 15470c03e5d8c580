-- What the program does with what its words ask for: what goes out on standard output and standard error, and the exit status.
use Rattle.std.specs.Prelude.{◌≡◌, ◌⊎◌, ℕ, Bool, if◌then◌else◌, List, [], ◌++◌, codes, map, slice_get, Option, None, Some, Result, Ok, Err, string_bytes}
use Rattle.std.specs.declared.io.ErrorKind.{ErrorKind}
use Rattle.aero_model.specs.declared.limits.Limits.{Limits}
use Rattle.aero_model.specs.declared.verdict.Counts.{Counts}
use Rattle.aero_model.specs.declared.verdict.Ending.{Ending}
use Rattle.aero_model.specs.CallCounts.{Seen}
use Rattle.aero_model.specs.Exempt.{Listed}
use Rattle.aero_intake.specs.PlanTerms.{options_with}
use Rattle.aero_intake.specs.Source.{Sight, Stream, place_in}
use Rattle.aero_report.specs.Forms.{summary_line_in}
use Rattle.aero_model.specs.Terms.{Terms, on, ruled}
use Rattle.aero_telling.specs.declared.cause.Cause.{Cause}
use Rattle.aero_telling.specs.declared.notable.Notable.{Notable}
use Rattle.aero_telling.specs.Founds.{Sighted, Took, WasRunTo}
use Rattle.aero_program.specs.declared.arguments.Unread.{Unread}
use Rattle.aero_program.specs.declared.arguments.Unread.TheVariants as unread
use Rattle.aero_program.specs.declared.command.Config.{Config}
use Rattle.aero_program.specs.declared.command.Sources.{Sources}
use Rattle.aero_program.specs.declared.command.Sources.TheVariants as sources
use Rattle.aero_program.specs.declared.command.Refused.TheVariants as refused
use Rattle.aero_program.specs.declared.command.Stop.{Stop}
use Rattle.aero_program.specs.declared.command.Stop.TheVariants as stop
use Rattle.aero_program.specs.declared.failure.Failure.{Failure}
use Rattle.aero_program.specs.declared.failure.Failure.TheVariants as failure
use Rattle.aero_program.specs.declared.label_files.Unlabelled.{Unlabelled}
use Rattle.aero_program.specs.declared.label_files.Unlabelled.TheVariants as unlabelled
use Rattle.aero_program.specs.declared.listing.Unlisted.{Unlisted}
use Rattle.aero_program.specs.declared.listing.Unlisted.TheVariants as unlisted
use Rattle.aero_program.specs.declared.stamp.Stamp.{Stamp}
use Rattle.aero_program.specs.Command.{AreLimitsFor, are_words, form_on, list_path}
use Rattle.aero_program.specs.Failure.{cut_failure, failure_status, line_of, word_line}
use Rattle.aero_program.specs.LabelFiles.{AreListed, AreUnlabelled}
use Rattle.aero_program.specs.Inputs.{IsUntouched}
use Rattle.aero_program.specs.Listing.{IsLeftByList}
use Rattle.aero_program.specs.Notes.{AreNotable, AreNoted, AreOwn, AreShown, Noted, Remark, label_lines, labels_told, note_at, note_text, note_texts, notes_on}
use Rattle.aero_program.specs.Reasons.{reason_words}
use Rattle.aero_program.specs.Sightings.{AreNames, AreUnlisted, IsLeftUnlisted, source_sightings}
use Rattle.aero_program.specs.Status.{end_checked, end_of_help, end_of_run}
use Rattle.aero_program.specs.Streams.{IsTold, Shown, WasCut, WasFlushed}

-- a failure is told on standard error, and has its status
pub record Fails (why : Failure) (told told_after : Seen) (status : ℕ) : Type 0 where
  pub line : IsTold told told_after (line_of why)
  pub is : status ≡ failure_status why

-- the status, of which standard error hears nothing, or the failure
abbrev pub EndsAs : Result ℕ Failure → Seen → Seen → ℕ → Type 0
EndsAs (Ok wanted) told told_after status = (told_after ≡ told) × (status ≡ wanted)
EndsAs (Err why) told told_after status = Fails why told told_after status

-- the help went out whole, and then a flush decides
pub record WasHelped (text : List ℕ) (shown shown_after : Shown) (told told_after : Seen) (status : ℕ) : Type 0 where
  pub between : Shown
  pub fault : Option ErrorKind
  pub took : Took shown.writer between.writer text
  pub same : between.unflushed ≡ shown.unflushed
  pub flushed : WasFlushed between shown_after fault
  pub ends : EndsAs (end_of_help fault) told told_after status

-- or a write failed, and then a flush
pub record HelpWasCut (text : List ℕ) (shown shown_after : Shown) (told told_after : Seen) (status : ℕ) : Type 0 where
  pub between : Shown
  pub fault : Option ErrorKind
  pub cut : WasCut shown.writer between.writer text
  pub same : between.unflushed ≡ shown.unflushed
  pub flushed : WasFlushed between shown_after fault
  pub fails : Fails (cut_failure fault) told told_after status

-- the help goes out on standard output, and standard error hears only of a write or a flush that fails
abbrev pub Helps : List ℕ → Shown → Shown → Seen → Seen → ℕ → Type 0
Helps text shown shown_after told told_after status =
    WasHelped text shown shown_after told told_after status ⊎ HelpWasCut text shown shown_after told told_after status

-- the word that isn't UTF-8 is told, or else, where memory is refused for that, that there is one
abbrev pub TellsWord : (word : List ℕ) → Seen → Seen → ℕ → Type 0
TellsWord word told told_after status = (IsTold told told_after (word_line word) × (status ≡ 3)) ⊎ Fails failure.NotUtf8 told told_after status

-- why the words can't be had is told
abbrev pub TellsNoWords : Unread → Seen → Seen → ℕ → Type 0
TellsNoWords (unread.NotUtf8 word) told told_after status = TellsWord word.items told told_after status
TellsNoWords unread.Memory told told_after status = Fails failure.Memory told told_after status

-- Why nothing is judged: all but the help goes out on standard error alone.
abbrev pub Stops : Stop → Shown → Shown → Seen → Seen → ℕ → Type 0
Stops (stop.Refused (refused.Help text)) shown shown_after told told_after status = Helps (string_bytes text) shown shown_after told told_after status
Stops (stop.Refused (refused.Usage text)) shown shown_after told told_after status =
    (shown_after ≡ shown) × IsTold told told_after (string_bytes text) × (status ≡ 3)
Stops (stop.Refused refused.TooManyFiles) shown shown_after told told_after status = (shown_after ≡ shown) × Fails failure.TooManyFiles told told_after status
Stops (stop.Refused refused.BadLabel) shown shown_after told told_after status = (shown_after ≡ shown) × Fails failure.BadLabel told told_after status
Stops (stop.Refused refused.TooManyLabels) shown shown_after told told_after status = (shown_after ≡ shown) × Fails failure.TooManyLabels told told_after status
Stops (stop.Refused refused.Memory) shown shown_after told told_after status = (shown_after ≡ shown) × Fails failure.Memory told told_after status
Stops (stop.Unread why) shown shown_after told told_after status = (shown_after ≡ shown) × TellsNoWords why told told_after status

-- After a run: the text of the notes goes out on standard error, and then why the program fails, where it does. Where memory is refused for the notes, there are none, and the program fails.
abbrev pub Ends : (text : List ℕ) → Result ℕ Failure → Seen → Seen → ℕ → Type 0
Ends text (Ok wanted) told told_after status =
    (IsTold told told_after text × (status ≡ wanted)) ⊎ Fails failure.Memory told told_after status
Ends text (Err why) told told_after status =
    (IsTold told told_after (text ++ line_of why) × (status ≡ failure_status why)) ⊎ Fails why told told_after status

-- the terms on which the configuration asks for sources to be judged, with the labels that it lists
abbrev pub terms_asked : Config → Listed → Limits → Terms
terms_asked config listed limits = record (on (ruled limits listed config.end) config.order config.explain) { stop = config.stop }

-- what is seen of a stream that is read as this reader was
abbrev pub seen_in : Sight → Seen
seen_in sight = record { bytes = sight.bytes; faults = sight.faults; ends = sight.ends }

-- where the source reads standard input, that is left with the bytes that the source has left, and has failed and found the end as often as it
abbrev pub IsLeftOf : Sighted → (left : Option Seen) → Type 0
IsLeftOf s left = place_in s.reader ≡ Some Stream → ∥ left ≡ Some (seen_in s.reader) ∥₁

-- Standard input, as it is left: where it was the source, its stream has the bytes that the source has left, and has failed and found the end as often as the source. Where files were named nothing was read of it, and a list in it was read to its end.
abbrev pub IsLeftBy : Sources → (given : Option (List ℕ)) → (judged : List Sighted) → (left : Option Seen) → Type 0
IsLeftBy (sources.Standard name) given judged left = (s : Sighted) → slice_get judged 0 ≡ Some s → ∥ left ≡ Some (seen_in s.reader) ∥₁
IsLeftBy (sources.Files words) given judged left = IsUntouched given left
IsLeftBy (sources.Listed path) given judged left = IsLeftByList (string_bytes path) given left

-- What the configuration asks for was judged: its sources, under the limits that it asks for, blocks that its labels leave out as no transactions. The report in its form went out on standard output, as every run's does, and a flush and the ends of the run decide. The notes on the sources and the listed labels with which no block begins stand in the summary, and their lines go out on standard error.
pub record WasJudged (known : List ℕ → Option (List ℕ)) (can_fail : List ℕ → Type 0) (holds : List ℕ → Stamp → Option (List ℕ) → Type 0) (config : Config) (given : Option (List ℕ)) (left : Option Seen) (shown shown_after : Shown) (told told_after : Seen) (status : ℕ) : Type 0 where
  pub listed : Listed
  pub are_listed : AreListed known config listed
  pub limits : Limits
  pub limits_are : AreLimitsFor config.long limits
  pub names : List (List ℕ)
  pub names_are : AreNames known config.files given names
  pub sources : List Sighted
  pub between : Shown
  pub endings : List (ℕ × Ending)
  pub notables : List (Option Notable)
  pub counts : Counts
  pub cause : Option Cause
  pub noted : List Noted
  pub of_names : map (λ n. n.name) noted ≡ names
  pub are_noted : AreNoted (are_words config.files) (if config.long then [] else endings) noted
  pub are_notable : AreNotable notables noted
  pub are_own : AreOwn can_fail holds sources noted
  pub left_by : IsLeftBy config.files given sources left
  pub remarks : List Remark
  pub on_noted : map (λ r. r.noted) remarks ≡ noted
  pub are_shown : AreShown holds remarks
  pub ran : WasRunTo (terms_asked config listed limits) (form_on config.terminals config.form)
      (summary_line_in (form_on config.terminals config.form) (options_with (terms_asked config listed limits) (labels_told (terms_asked config listed limits) None endings noted) (notes_on remarks)))
      (source_sightings known config.files given names) sources shown.writer between.writer endings notables counts cause
  pub same : between.unflushed ≡ shown.unflushed
  pub fault : Option ErrorKind
  pub flushed : WasFlushed between shown_after fault
  pub ends : Ends (note_texts config.terminals.errors (notes_on remarks) ++ label_lines config.terminals.errors (labels_told (terms_asked config listed limits) cause endings noted)) (end_checked config.fail_unchecked notables (end_of_run config.fail_open cause counts fault)) told told_after status

-- how it is told that there are no sources, since the list with their names, at this path, can't be had
abbrev pub TellsUnlisted : (on_terminal : Bool) → (path : List ℕ) → Unlisted → Seen → Seen → ℕ → Type 0
TellsUnlisted on_terminal path (unlisted.Unread reason) told told_after status = IsTold told told_after (note_text on_terminal (note_at path None (reason_words reason))) × (status ≡ 3)
TellsUnlisted on_terminal path unlisted.TooMany told told_after status = Fails failure.TooManyFiles told told_after status
TellsUnlisted on_terminal path unlisted.Memory told told_after status = Fails failure.Memory told told_after status

-- there are no sources, and that is told
pub record WasUnlisted (known : List ℕ → Option (List ℕ)) (can_fail : List ℕ → Type 0) (config : Config) (given : Option (List ℕ)) (left : Option Seen) (told told_after : Seen) (status : ℕ) : Type 0 where
  pub why : Unlisted
  pub are : AreUnlisted known can_fail config.files given why
  pub left_by : IsLeftUnlisted config.files given why left
  pub tells : TellsUnlisted config.terminals.errors (list_path config.files) why told told_after status

-- how it is told that there are no labels, since the file at this path, or a line of it, is at fault
abbrev pub TellsUnlabelled : (on_terminal : Bool) → (path : List ℕ) → Unlabelled → Seen → Seen → ℕ → Type 0
TellsUnlabelled on_terminal path (unlabelled.Unread reason) told told_after status = IsTold told told_after (note_text on_terminal (note_at path None (reason_words reason))) × (status ≡ 3)
TellsUnlabelled on_terminal path (unlabelled.NoLabel line) told told_after status = IsTold told told_after (note_text on_terminal (note_at path (Some line) (codes "not a label"))) × (status ≡ 3)
TellsUnlabelled on_terminal path (unlabelled.TooMany line) told told_after status = IsTold told told_after (note_text on_terminal (note_at path (Some line) (codes "more than 65536 labels"))) × (status ≡ 3)
TellsUnlabelled on_terminal path unlabelled.Memory told told_after status = Fails failure.Memory told told_after status

-- there are no labels, and that is told
pub record WasUnlabelled (known : List ℕ → Option (List ℕ)) (can_fail : List ℕ → Type 0) (config : Config) (given : Option (List ℕ)) (left : Option Seen) (told told_after : Seen) (status : ℕ) : Type 0 where
  pub path : List ℕ
  pub why : Unlabelled
  pub are : AreUnlabelled known can_fail config path why
  pub untouched : IsUntouched given left
  pub tells : TellsUnlabelled config.terminals.errors path why told told_after status

-- or memory was refused before that
abbrev pub Judges : (known : List ℕ → Option (List ℕ)) → (can_fail : List ℕ → Type 0) → (holds : List ℕ → Stamp → Option (List ℕ) → Type 0) → Config → (given : Option (List ℕ)) → (left : Option Seen) → Shown → Shown → Seen → Seen → ℕ → Type 0
Judges known can_fail holds config given left shown shown_after told told_after status =
    WasJudged known can_fail holds config given left shown shown_after told told_after status
    ⊎ ((shown_after ≡ shown) × ((WasUnlisted known can_fail config given left told told_after status ⊎ WasUnlabelled known can_fail config given left told told_after status) ⊎ Fails failure.Memory told told_after status))

-- `known` says which bytes each file has that is opened at a path, `can_fail` of which paths an open may fail, or a read of the file that it gave, `holds` which bytes a file may have that was opened at a path and had a stamp, and `given` is what standard input has, where these are known; `left` is standard input as it is left, unless memory was refused
abbrev pub Executes : (known : List ℕ → Option (List ℕ)) → (can_fail : List ℕ → Type 0) → (holds : List ℕ → Stamp → Option (List ℕ) → Type 0) → Result Config Stop → (given : Option (List ℕ)) → (left : Option Seen) → Shown → Shown → Seen → Seen → ℕ → Type 0
Executes known can_fail holds (Ok config) given left shown shown_after told told_after status = Judges known can_fail holds config given left shown shown_after told told_after status
Executes known can_fail holds (Err why) given left shown shown_after told told_after status = IsUntouched given left × Stops why shown shown_after told told_after status
