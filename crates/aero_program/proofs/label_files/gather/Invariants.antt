use Rattle.std.specs.Io.KnownBytes.{Consumes}
use Rattle.aero_program.specs.Inputs.{MayFailFrom, bytes_left, standing_of}
use Rattle.aero_program.proofs.label_files.gather.Given as goal

-- what came so far
abbrev pub invariant-loop : goal.invariant-loop
invariant-loop g l = record {
  came : Consumes (bytes_left (standing_of g.S.Read.remaining g.O.Opener.known g.O.File.Read.remaining l.fn.input)) (bytes_left (standing_of g.S.Read.remaining g.O.Opener.known g.O.File.Read.remaining l.input)) l.text.items;
  may : MayFailFrom g.O.Opener.can_fail (standing_of g.S.Read.remaining g.O.Opener.known g.O.File.Read.remaining l.input) → MayFailFrom g.O.Opener.can_fail (standing_of g.S.Read.remaining g.O.Opener.known g.O.File.Read.remaining l.fn.input);
}
