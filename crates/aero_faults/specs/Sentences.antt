-- The sentence on a faulty line.
use Rattle.std.specs.Prelude.{ℕ, List}
use Rattle.aero_model.specs.declared.verdict.LineFault.{LineFault}
use Rattle.aero_model.specs.declared.verdict.ShapeFault.{ShapeFault}
use Rattle.aero_faults.specs.Texts.{line_text, hindrance_text}
use Rattle.aero_model.specs.Words.{line_words, shape_words}
use Rattle.aero_faults.specs.declared.look.Look.{Look}
use Rattle.aero_faults.specs.declared.look.Look.TheVariants.{Line, Event}

-- what is told of the line's bytes, or the fault in words
abbrev pub line_sentence : LineFault → Look → List ℕ
line_sentence fault (Line line) = line_text fault line.items
line_sentence fault look = line_words fault

-- what is told of the event and of what stands in its way, or the fault in words
abbrev pub shape_sentence : ShapeFault → Look → List ℕ
shape_sentence fault (Event e hindrance) = hindrance_text fault e hindrance
shape_sentence fault look = shape_words fault
