use Rattle.aero_program.specs.Inputs.{standing_of}
use Rattle.aero_program.proofs.Gathering.{stands_err, stands_ok}
use Rattle.aero_program.proofs.listing.read_list.Goals as goal

pub returns-in-Ok-clause-stream : goal.returns-in-Ok-clause-stream
returns-in-Ok-clause-stream g c =
    stands_ok (standing_of g.S.Read.remaining g.O.Opener.known g.O.File.Read.remaining c.args.input.now) (standing_of g.S.Read.remaining g.O.Opener.known g.O.File.Read.remaining c.gather.new.input) c.gather.result _ _ c.in-Ok.is c.gather.ensures.stream

pub returns-clause-stream : goal.returns-clause-stream
returns-clause-stream g c =
    stands_err _ _ (standing_of g.S.Read.remaining g.O.Opener.known g.O.File.Read.remaining c.args.input.now) (standing_of g.S.Read.remaining g.O.Opener.known g.O.File.Read.remaining c.gather.new.input) c.gather.result c.in-Err.why c.in-Err.is c.gather.ensures.stream
