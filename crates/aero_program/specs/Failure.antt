-- What the program says and answers where it stops without a whole report.
use Rattle.std.specs.Prelude.{ℕ, List, [], ◌∷◌, ◌++◌, Option, Some, None, codes}
use Rattle.std.specs.declared.io.ErrorKind.{ErrorKind}
use Rattle.std.specs.declared.io.ErrorKind.TheVariants.{BrokenPipe}
use Rattle.aero_report.specs.Shown.{shown_text}
use Rattle.aero_program.specs.declared.failure.Failure.{Failure}
use Rattle.aero_program.specs.declared.failure.Failure.TheVariants.{Memory, Write, Closed, TooManyFiles, BadLabel, TooManyLabels, NotUtf8}

-- the line on standard error, with the byte 10 that ends it; there is none where a pipe's reader has gone, who knows
abbrev pub line_of : Failure → List ℕ
line_of Memory = codes "aerodrome: out of memory" ++ 10 ∷ []
line_of Write = codes "aerodrome: write failed" ++ 10 ∷ []
line_of Closed = []
line_of TooManyFiles = codes "aerodrome: more than 65536 files" ++ 10 ∷ []
line_of BadLabel = codes "aerodrome: not a label" ++ 10 ∷ []
line_of TooManyLabels = codes "aerodrome: more than 64 labels" ++ 10 ∷ []
line_of NotUtf8 = codes "aerodrome: a word is not UTF-8" ++ 10 ∷ []

-- the exit status: 3 where the command line was refused
abbrev pub failure_status : Failure → ℕ
failure_status Memory = 4
failure_status Write = 4
failure_status Closed = 4
failure_status TooManyFiles = 3
failure_status BadLabel = 3
failure_status TooManyLabels = 3
failure_status NotUtf8 = 3

-- the line that says how files are judged of which one has a name that isn't UTF-8
abbrev pub way_line : List ℕ
way_line = codes "aerodrome: to judge a file of this name, run aerodrome < FILE; a list for --files0-from may have such names, and its other files are judged" ++ 10 ∷ []

-- the line on a word that isn't UTF-8, and the one behind it
abbrev pub word_line : List ℕ → List ℕ
word_line word = codes "aerodrome: a word is not UTF-8: " ++ (shown_text word ++ 10 ∷ way_line)

-- a write or a flush that fails so stops the program so
abbrev pub write_failure : ErrorKind → Failure
write_failure BrokenPipe = Closed
write_failure kind = Write

-- a write failed, and the flush then, where it did, told how
abbrev pub cut_failure : Option ErrorKind → Failure
cut_failure None = Write
cut_failure (Some kind) = write_failure kind
