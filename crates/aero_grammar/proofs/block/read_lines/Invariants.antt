use Rattle.std.proofs.Common.{◌≡◌, ◌≤◌, ◌+◌, ◌*◌, None, length, true, false}
use Rattle.std.specs.List.{list_any}
use Rattle.aero_grammar.specs.Meaning.{is_unfit}
use Rattle.aero_grammar.specs.Lists.{lists_in, labels_in, HasRoom}
use Rattle.aero_grammar.specs.Reading.{followed_by, reading_of}
use Rattle.aero_grammar.specs.Tabled.{lines_in, IsTabled, AreNames}
use Rattle.aero_grammar.proofs.block.read_lines.Given as goal

abbrev pub invariant-lines : goal.invariant-lines
invariant-lines l = record {
  read : reading_of l.bytes ≡ followed_by (record { events = lines_in (lists_in l.tables) (labels_in l.tables) l.events.items; lines = l.lines; fault = None }) (reading_of l.rest);
  tabled : IsTabled (lists_in l.tables) (labels_in l.tables) l.events.items;
  names : AreNames (lists_in l.tables) (labels_in l.tables);
  room : HasRoom l.tables (2 * length l.rest);
  fit : l.is_clean ≡ true → list_any is_unfit l.rest ≡ false;
  counted : l.lines + length l.rest ≤ length l.bytes;
}

abbrev pub decreases-lines : goal.decreases-lines
decreases-lines l = length l.rest
