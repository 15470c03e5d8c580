use Rattle.aero_program.proofs.Looking.{ill_formed_second, malformed_second, on_line}
use Rattle.aero_program.proofs.looker.Looker.seen_at.Goals as goal

pub returns-in_ok-look-in-IllFormed : goal.returns-in_ok-look-in-IllFormed
returns-in_ok-look-in-IllFormed g c =
    ill_formed_second (g.F.Opener.can_open c.args.path.now) (g.F.Opener.holds c.args.path.now c.args.stamp) c.args.faulty c.in-IllFormed.fault c.in_ok-look-in-IllFormed.look _ _ c.in-Some.bytes.items c.deref.result.now c.in_ok-file.ensures.worked c.in_ok-file.ensures.held c.in_ok-file-in-IllFormed.ensures.held
    (on_line (λ v. v.items) _ c.args.faulty.line c.in_ok-bytes.field-0 c.in-Some.bytes c.in-Some.is c.in_ok-bytes.ensures)
    c.deref.ensures.value c.in-IllFormed.is c.in_ok-look-in-IllFormed.ensures

pub returns-in-Malformed : goal.returns-in-Malformed
returns-in-Malformed g c =
    malformed_second (g.F.Opener.can_open c.args.path.now) (g.F.Opener.holds c.args.path.now c.args.stamp) c.args.faulty c.in-Malformed.fault c.malformed_look.result _ c.in-Some.bytes.items
    c.in_ok-file.ensures.worked c.in_ok-file.ensures.held
    (on_line (λ v. v.items) _ c.args.faulty.line c.in_ok-bytes.field-0 c.in-Some.bytes c.in-Some.is c.in_ok-bytes.ensures)
    c.in-Malformed.is c.malformed_look.ensures
