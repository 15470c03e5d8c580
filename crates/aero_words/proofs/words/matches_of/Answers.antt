use Rattle.std.proofs.Common.{◌∙◌, ap, map, string_bytes}
use Rattle.clap.specs.Words.{App, is_simple, matches_of}
use Rattle.aero_words.proofs.LineRead.{line_read, program_is_simple}
use Rattle.aero_words.proofs.words.matches_of.Goals as goal

pub returns-in-Ok-clause-read : goal.returns-in-Ok-clause-read
returns-in-Ok-clause-read c = line_read c.in_ok-line.line c.in-Ok.matches c.in-Ok.ensures.parsed c.in_ok-line.ensures

pub returns-in-Ok-clause-rows : goal.returns-in-Ok-clause-rows
returns-in-Ok-clause-rows c = (c.in-Ok.ensures.matches (ap is_simple c.in_ok-line.ensures ∙ program_is_simple)).0
    ∙ ap (λ (a : App). matches_of a (map string_bytes c.args.words.now)) c.in_ok-line.ensures
