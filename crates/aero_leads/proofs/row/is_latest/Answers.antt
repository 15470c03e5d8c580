use Rattle.std.proofs.Common.{◌∙◌, arith}
use Rattle.std.proofs.lemmas.Option.{same_Some}
use Rattle.aero_leads.proofs.row.is_latest.Goals as goal

pub returns-in-Some : goal.returns-in-Some
returns-in-Some c = λ e v p q here there.
    let same = same_Some c.place_there.result p (c.place_there.ensures ∙ here) in
    let le = c.is_up_to.ensures e q (c.requires.high v q there) in
    omega (arith, same, le)
