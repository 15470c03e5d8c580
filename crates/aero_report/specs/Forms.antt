-- The report in each of its forms.
use Rattle.std.specs.Prelude.{ℕ, List, [], ◌++◌, flat_map, ⊤}
use Rattle.json.specs.Json as value
use Rattle.aero_report.specs.Shown.{shown_text, shown_lines}
use Rattle.aero_model.specs.declared.verdict.Finding.{Finding}
use Rattle.aero_model.specs.declared.verdict.Counts.{Counts}
use Rattle.aero_report.specs.declared.form.Form.{Form}
use Rattle.aero_report.specs.declared.form.Form.TheVariants.{Text, Terminal, Json}
use Rattle.aero_report.specs.Texts.{source_line, summary_line}
use Rattle.aero_report.specs.Options.{Options}
use Rattle.aero_report.specs.Json.{json_line, source_value, summary_value, ReadsBack}

-- the lines of a source as a terminal is shown them: its name, which may have any byte, and what stands behind it, where each byte 10 ends a line, since no name there has one
abbrev pub shown_source_line : List ℕ → Finding → List ℕ
shown_source_line name finding = shown_text name ++ shown_lines (source_line [] finding)

-- what is said of a source with this name and finding
abbrev pub source_line_in : Form → List ℕ → Finding → List ℕ
source_line_in Text name finding = source_line name finding
source_line_in Terminal name finding = shown_source_line name finding
source_line_in Json name finding = json_line (source_value name finding)

-- what is said of the counts, and, where it is JSON, of how the sources were judged
abbrev pub summary_line_in : Form → Options → Counts → List ℕ
summary_line_in Text options counts = summary_line counts
summary_line_in Terminal options counts = summary_line counts
summary_line_in Json options counts = json_line (summary_value options counts)

-- where it is JSON, its text without the newline is a document that means this value
abbrev pub IsReadable : Form → value.Json → Type 0
IsReadable Text value = ⊤
IsReadable Terminal value = ⊤
IsReadable Json value = ReadsBack value

-- the lines of sources with these names and findings, in order
abbrev pub source_lines_in : Form → List (List ℕ × Finding) → List ℕ
source_lines_in form sources = flat_map (λ s. source_line_in form s.0 s.1) sources
