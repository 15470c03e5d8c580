use Rattle.std.proofs.Common.{◌≡◌, ◌∙◌, ap, subst, length, option_map, Some, arith}
use Rattle.aero_telling.specs.Founds.{Sighted, sighted}
use Rattle.aero_intake.specs.Source.{Stream, place_in}
use Rattle.aero_program.specs.Executed.{seen_in}
use Rattle.aero_program.specs.Inputs.{IsStandardOf, standing_of}
use Rattle.aero_program.specs.Led.{place_of}
use Rattle.aero_program.specs.Retries.{seen_within}
use Rattle.aero_program.specs.Traces.{sight_of}
use Rattle.aero_program.proofs.Leaving.{left_of, one_source, the_some}
use Rattle.aero_program.proofs.execute.standard_left.Goals as goal

pub returns : goal.returns
returns g c = λ one s at place.
    let stdin = g.S.Read.remaining in
    let known = g.F.Opener.known in
    let file = g.F.File.Read.remaining in
    let sight = sight_of stdin known file in
    let source = c.in_ok-source.source in
    let first = source.reader.first.value in
    let whole = c.args.sources.ok.0 in
    let count : length c.args.sources.items ≡ 1 = omega (arith, whole, one) in
    let same : sighted sight source ≡ s = one_source (sighted sight) c.args.sources.items c.pop.new.self.items source s c.in_ok-source.ensures.items count at in
    let stream : place_of (standing_of stdin known file first) ≡ Stream = the_some (place_of (standing_of stdin known file first)) Stream (ap (λ (x : Sighted). place_in x.reader) same ∙ place) in
    let is = subst (λ input. IsStandardOf (standing_of stdin known file input) (option_map (seen_within stdin) c.into_standard.result)) c.into_inner.ensures c.into_standard.ensures in
    subst (λ (x : Sighted). ∥ option_map (seen_within stdin) c.into_standard.result ≡ Some (seen_in x.reader) ∥₁) same
    (left_of stdin known file g.F.Opener.can_fail g.F.Opener.holds first source.reader.input source.reader.given.bytes source.reader.faults.number source.reader.ends.number
    (option_map (seen_within stdin) c.into_standard.result) is source.reader.led stream)
