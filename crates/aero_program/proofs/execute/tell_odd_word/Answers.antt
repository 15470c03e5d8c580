use Rattle.std.proofs.Common.{◌∙◌, subst, inl, refl}
use Rattle.aero_model.specs.CallCounts.{seen_by}
use Rattle.aero_program.specs.Streams.{IsTold}
use Rattle.aero_program.proofs.Tells.{is_told}
use Rattle.aero_program.proofs.execute.tell_odd_word.Goals as goal

pub returns : goal.returns
returns g c =
    let before = seen_by g.E.Write.contents c.args.errors.now in
    let after = seen_by g.E.Write.contents c.tell.new.writer in
    inl (subst (IsTold before after) (c.deref.ensures.value ∙ c.in-Ok.ensures) (is_told c.tell.result before after c.deref.result.now c.tell.ensures.whole c.tell.ensures.cut), refl)
