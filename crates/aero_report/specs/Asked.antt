-- How the sources of a report were judged, as the code hands it on.
use Rattle.std.specs.Prelude.{map}
use Rattle.aero_report.specs.declared.notes.Note as declared_note
use Rattle.aero_report.specs.declared.options.Options as declared
use Rattle.aero_report.specs.Options.{Note, Options}

abbrev pub note_of : declared_note.Note → Note
note_of n = record { source = n.source.items; line = n.line; text = n.text.items }

abbrev pub options_of : declared.Options → Options
options_of o = record { terms = o.terms.now; unused = map (λ label. label.now) o.unused.now; notes = map note_of o.notes.now }
