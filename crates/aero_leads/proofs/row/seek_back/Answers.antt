use Rattle.std.proofs.Common.{◌≡◌, ◌-◌, Some, length, get_or, ⊎_elim, arith, subst}
use Rattle.std.specs.Prelude.{slice_get}
use Rattle.std.proofs.lemmas.Bool.{cases_eq}
use Rattle.std.proofs.lemmas.Option.{slice_get-get_or}
use Rattle.aero_leads.specs.Indexed.{opener_of}
use Rattle.aero_leads.proofs.Leasts.{lead, found_other}
use Rattle.aero_leads.proofs.Singles.{none_stands, none_some}
use Rattle.aero_leads.proofs.row.seek_back.Goals as goal

pub loop-i-preserved : goal.loop-i-preserved
loop-i-preserved c =
    let at = length c.args.row.now - 1 - c.loop-i.i in
    record {
      none = λ j last.
          ⊎_elim
          (λ e h. found_other c.args.row.now c.args.w at (get_or c.args.row.now at (lead 0 0)) (slice_get-get_or c.args.row.now at (lead 0 0) (omega (arith, c.loop-i-test.true))) c.if-row-at.false (subst (λ m. opener_of (slice_get c.args.row.now m) ≡ Some c.args.w) e h))
          (λ ne. c.loop-i.invariant.none j (omega (arith, last, ne, c.loop-i-test.true)))
          (cases_eq j at);
    }

pub returns : goal.returns
returns c = none_some (none_stands c.args.row.now c.args.w (λ j. c.loop-i.invariant.none j (omega (arith, c.loop-i-test.false))))
