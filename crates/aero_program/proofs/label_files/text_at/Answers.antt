use Rattle.aero_program.specs.Inputs.{MayFailFrom, standing_of}
use Rattle.aero_program.proofs.LabelLines.{unread_as}
use Rattle.aero_program.proofs.label_files.text_at.Goals as goal

pub returns-clause-fault : goal.returns-clause-fault
returns-clause-fault g c =
    unread_as (MayFailFrom g.F.Opener.can_fail (standing_of g.F.File.Read.remaining (λ f. g.F.Opener.known f.now) g.F.File.Read.remaining c.in_ok-input.input)) (g.F.Opener.can_fail c.args.path.now) c.in-Err.why
    c.in_ok-input.ensures.failing c.in-Err.ensures.fault
