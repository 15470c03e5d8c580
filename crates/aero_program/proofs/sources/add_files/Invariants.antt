use Rattle.std.proofs.Common.{◌≡◌, map, take, None}
use Rattle.std.specs.Prelude.{string_bytes}
use Rattle.aero_program.specs.Traces.{input_of, sight_of}
use Rattle.aero_telling.specs.Founds.{sighted}
use Rattle.aero_program.specs.Inputs.{standing_of, reason_of, unopened}
use Rattle.aero_program.specs.Sightings.{file_made, sightings}
use Rattle.aero_program.proofs.sources.add_files.Given as goal

-- the files so far
abbrev pub invariant-loop-word : goal.invariant-loop-word
invariant-loop-word g l =
    (map (λ s. s.name.items) l.sources.items ≡ map string_bytes (take l.word-index l.fn.words))
    × (map (λ s. standing_of g.S.Read.remaining (λ f. g.F.Opener.known f.now) g.F.File.Read.remaining (input_of s.reader)) l.sources.items ≡ map (unopened (g.F.Opener.known l.fn.files)) (map string_bytes (take l.word-index l.fn.words)))
    × (map (λ s. reason_of (input_of s.reader)) l.sources.items ≡ map (λ _. None) (map string_bytes (take l.word-index l.fn.words)))
    × (map (sighted (sight_of g.S.Read.remaining (λ f. g.F.Opener.known f.now) g.F.File.Read.remaining)) l.sources.items ≡ sightings (file_made (g.F.Opener.known l.fn.files)) (map string_bytes (take l.word-index l.fn.words)))
