use Rattle.std.proofs.Common.{◌≡◌, ℕ, length, Option, Some, refl, subst}
use Rattle.std.proofs.lemmas.Result.{on_ok_weaker}
use Rattle.aero_pieces.specs.declared.answer.Value.{Value}
use Rattle.aero_intake.specs.PlanTerms.{most_kept}
use Rattle.aero_batch.specs.Inquiries.{Gives, open_of, with_open}
use Rattle.aero_batch.proofs.Stepping.{settles_from_gives}
use Rattle.aero_batch.proofs.checking.settle_next.Goals as goal

pub returns : goal.returns
returns g c =
    let p = c.args.underway.now in
    let is : c.in_ok-trace.field-0 ≡ Some (c.in-Some.trace, c.in-Some.value) = cc in
    let gives = subst (λ (o : Option (ℕ × Value)). Gives (open_of c.args.kind p.inquiry) (with_open c.args.kind p.inquiry) c.settle.new.self o) is
    c.in_ok-trace.ensures in
    on_ok_weaker c.give_value.result
    (λ given. record {
      settles = settles_from_gives (open_of c.args.kind p.inquiry) (with_open c.args.kind p.inquiry) c.settle.new.self c.in-Some.trace c.in-Some.value
          (most_kept c.args.setting.now.plan.now.keeping c.in-Some.trace (length p.tracks.items)) given.0 p.tracks.items c.give_value.new.tracks.items gives
          given.1;
      read = refl;
      checked = refl;
      intake = refl;
      chunks = refl;
      ended = refl;
    }) c.give_value.ensures
