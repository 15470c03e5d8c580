-- What is to be judged, the limits under which the program runs, and when it shows the line on progress.
use Rattle.std.specs.Prelude.{◌≡◌, ◌^◌, ◌==◌, if◌then◌else◌, ℕ, Bool, false, true, List, [], length, map, Option, Some, None, string_bytes, vec_len}
use Rattle.aero_model.specs.declared.limits.Limits.{Limits}
use Rattle.aero_model.specs.Exempt.{Listed, these, all_but}
use Rattle.aero_report.specs.declared.form.Form.{Form}
use Rattle.aero_report.specs.declared.form.Form.TheVariants.{Text, Terminal}
use Rattle.aero_program.specs.declared.command.Progress.{Progress}
use Rattle.aero_program.specs.declared.command.Progress.TheVariants.{Auto, Always, Never}
use Rattle.aero_program.specs.declared.command.Sources.{Sources}
use Rattle.aero_program.specs.declared.command.Sources.TheVariants as sources
use Rattle.aero_program.specs.declared.command.Terminals.{Terminals}

-- the files that words name, in order
abbrev pub files_named : Sources → List (List ℕ)
files_named (sources.Standard name) = []
files_named (sources.Files words) = map string_bytes words.items
files_named (sources.Listed path) = []

-- how many these are
abbrev pub count_named : Sources → ℕ
count_named (sources.Standard name) = 0
count_named (sources.Files words) = vec_len words
count_named (sources.Listed path) = 0

-- whether they are files that words name
abbrev pub are_words : Sources → Bool
are_words (sources.Standard name) = false
are_words (sources.Files words) = true
are_words (sources.Listed path) = false

-- the path of the list with the names of the files
abbrev pub list_path : Sources → List ℕ
list_path (sources.Standard name) = []
list_path (sources.Files words) = []
list_path (sources.Listed path) = string_bytes path

-- just the blocks with these labels are no transactions, or, where labels of the only transactions are given, all blocks without one of those
abbrev pub listed_by : (except : List (List ℕ)) → (only : List (List ℕ)) → Listed
listed_by except only = if length only == 0 then these except else all_but only

-- the greatest limits: 2^30 bytes and 2^28 lines of a source, 65,536 threads, 2^26 variables and locks
abbrev pub AreGreatest : Limits → Type 0
AreGreatest limits = (limits.bytes ≡ 2 ^ 30) × (limits.lines ≡ 2 ^ 28) × (limits.threads ≡ 2 ^ 16) × (limits.names ≡ 2 ^ 26)

-- the limits of long sources: 2^46 bytes and 4,000,000,000 lines of a source, and as many threads and names as the greatest
abbrev pub AreLong : Limits → Type 0
AreLong limits = (limits.bytes ≡ 2 ^ 46) × (limits.lines ≡ 4000000000) × (limits.threads ≡ 2 ^ 16) × (limits.names ≡ 2 ^ 26)

-- the greatest limits, or those of long sources where these are asked for
abbrev pub AreLimitsFor : (long : Bool) → Limits → Type 0
AreLimitsFor false limits = AreGreatest limits
AreLimitsFor true limits = AreLong limits

-- the form of a report on standard output: a text is one for a terminal where that is one
abbrev pub form_on : Terminals → Form → Form
form_on terminals Text = if terminals.output then Terminal else Text
form_on terminals form = form

-- after how many milliseconds the line on progress is shown first, where standard error is a terminal, or isn't
abbrev pub shown_after : Progress → Bool → Option ℕ
shown_after Auto true = Some 2000
shown_after Auto false = None
shown_after Always is_terminal = Some 200
shown_after Never is_terminal = None
