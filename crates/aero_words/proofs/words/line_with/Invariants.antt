use Rattle.std.proofs.Common.{◌≡◌, map, take}
use Rattle.clap.specs.Words.{app_of}
use Rattle.aero_words.specs.Line.{program_with}
use Rattle.aero_words.specs.Words.{rule_of_row}
use Rattle.aero_words.proofs.words.line_with.Given as goal

-- the options so far
abbrev pub invariant-loop-row : goal.invariant-loop-row
invariant-loop-row l = app_of l.line ≡ program_with (map rule_of_row (take l.row-index l.fn.rows))
