use Rattle.std.proofs.Common.{subst, sym, take}
use Rattle.std.specs.Io.KnownBytes.{Consumes}
use Rattle.std.proofs.KnownBytes.{Consumes-trans}
use Rattle.aero_program.specs.Inputs.{bytes_left, standing_of}
use Rattle.aero_program.proofs.Gathering.{may_before}
use Rattle.aero_program.proofs.label_files.gather.Goals as goal

pub loop-preserved : goal.loop-preserved
loop-preserved g c =
    let stdin = g.S.Read.remaining in
    let known = g.O.Opener.known in
    let file = g.O.File.Read.remaining in
    let piece = take c.in-Ok.count c.read.new.buf in
    record {
      came = subst (Consumes (bytes_left (standing_of stdin known file c.args.input.now)) (bytes_left (standing_of stdin known file c.read.new.self))) (sym c.in_ok-extend_from_slice.ensures.items)
          (Consumes-trans (bytes_left (standing_of stdin known file c.args.input.now)) (bytes_left (standing_of stdin known file c.loop.input)) (bytes_left (standing_of stdin known file c.read.new.self)) c.loop.text.items piece
          c.loop.invariant.came c.in-Ok.ensures.bytes.0);
      may = λ m. c.loop.invariant.may (may_before g.O.Opener.can_open g.O.Opener.can_fail (standing_of stdin known file c.loop.input) (standing_of stdin known file c.read.new.self) c.read.new.buf c.read.result c.in-Ok.count c.in-Ok.is c.read.ensures.steps m);
    }
