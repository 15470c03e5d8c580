use Rattle.std.proofs.Common.{◌≡◌, IfSome, length, map, take}
use Rattle.aero_program.specs.Sizes.{AreSizes, HasSize, name_and_reader}
use Rattle.aero_program.proofs.sizes.look_at_each.Given as goal

-- the files so far
abbrev pub invariant-loop-source : goal.invariant-loop-source
invariant-loop-source g l = record {
  kept : map name_and_reader l.sources ≡ map name_and_reader l.initial.sources;
  count : l.extent.work.sources ≡ length l.initial.sources;
  whole : IfSome l.extent.work.size (AreSizes (HasSize g.F.Opener.holds) (map (λ s. s.name.items) (take l.source-index l.initial.sources)));
}
