use Rattle.std.proofs.Common.{◌≡◌, ◌++◌, length, map}
use Rattle.aero_program.specs.Traces.{input_of, sight_of}
use Rattle.aero_telling.specs.Founds.{sighted}
use Rattle.aero_program.specs.Inputs.{reason_of, standing_of}
use Rattle.aero_program.specs.Listing.{names_in}
use Rattle.aero_program.specs.Sightings.{listed_made, listed_reason, listed_standing, sightings}
use Rattle.aero_program.proofs.sources.add_listed.Given as goal

-- the files so far, and the names that are left
abbrev pub invariant-loop-rest : goal.invariant-loop-rest
invariant-loop-rest g l = record {
  names : map (λ s. s.name.items) l.sources.items ++ names_in l.rest ≡ names_in l.list;
  readers : map (λ s. standing_of g.S.Read.remaining (λ f. g.F.Opener.known f.now) g.F.File.Read.remaining (input_of s.reader)) l.sources.items ≡ map (listed_standing (g.F.Opener.known l.files)) (map (λ s. s.name.items) l.sources.items);
  reasons : map (λ s. reason_of (input_of s.reader)) l.sources.items ≡ map listed_reason (map (λ s. s.name.items) l.sources.items);
  sighted : map (sighted (sight_of g.S.Read.remaining (λ f. g.F.Opener.known f.now) g.F.File.Read.remaining)) l.sources.items ≡ sightings (listed_made (g.F.Opener.known l.files)) (map (λ s. s.name.items) l.sources.items);
}

abbrev pub decreases-loop-rest : goal.decreases-loop-rest
decreases-loop-rest g l = length l.rest
