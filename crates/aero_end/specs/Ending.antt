-- For which events clocks stand that are an engine, and what callers see of it.
use Rattle.std.specs.Prelude.{List}
use Rattle.aero_model.specs.declared.numbered.Numbered.{Numbered}
use Rattle.aero_engine.specs.Protocol.{View}
use Rattle.aero_access.specs.Standing as clocks
use Rattle.aero_end.specs.declared.ending_clocks.EndingClocks.{EndingClocks}

abbrev pub StandsFor : EndingClocks → List Numbered → Type 0
StandsFor engine = clocks.StandsFor engine.clocks

abbrev pub view_of : EndingClocks → View
view_of engine = clocks.view_of engine.clocks
