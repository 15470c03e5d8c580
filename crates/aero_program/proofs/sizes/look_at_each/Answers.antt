use Rattle.std.proofs.Common.{◌∙◌, IfSome, arith, map, sym, subst, take}
use Rattle.std.proofs.Math.Seq.{map-set_same}
use Rattle.aero_program.specs.Sizes.{AreSizes, HasSize, name_and_reader}
use Rattle.aero_intake.specs.declared.source.SourceOf.{SourceOf}
use Rattle.aero_program.proofs.Sizing.{more_sizes, names_more}
use Rattle.aero_program.proofs.sizes.look_at_each.Goals as goal

pub loop-source-preserved : goal.loop-source-preserved
loop-source-preserved g c =
    let has = HasSize g.F.Opener.holds in
    let now = c.loop-source.sources in
    let all = c.args.sources.now in
    let i = c.loop-source.source-index in
    let source = c.source-item.result in
    let so_far = c.loop-source.invariant in
    let longer = names_more now all i source so_far.kept c.source-item.is (omega (arith, c.loop-source-test.true, c.loop-source.auto.sources)) in
    let size = subst (λ (s : SourceOf _). IfSome c.look_at.result (has s.name.items)) (sym c.source-item.is) c.look_at.ensures.size in
    record {
      kept = map-set_same name_and_reader now i c.look_at.new.source source c.look_at.ensures.kept ∙ so_far.kept;
      count = c.with-extent.ensures.sources ∙ so_far.count;
      whole = subst (λ names. IfSome c.with-extent.result.work.size (AreSizes has names)) (sym longer)
          (more_sizes has (map (λ s. s.name.items) (take i all)) source.name.items c.loop-source.extent.work.size c.look_at.result c.with-extent.result.work.size so_far.whole size c.with-extent.ensures.size);
    }
