-- The words of a line that has an event.
use Rattle.std.specs.Prelude.{◌≡◌, ℕ, List, Option, Some, None, Result, Ok, Err, IfSome, option_copied}
use Rattle.aero_model.specs.declared.verdict.LineFault.{LineFault}
use Rattle.aero_model.specs.Named.{Named, HasItsTarget}
use Rattle.aero_model.specs.Names.{name_fault}
use Rattle.aero_grammar.specs.declared.words.Words.{Words}
use Rattle.aero_grammar.specs.Meaning.{Meaning, Blank, Means, Faulty}

-- the event that they say
abbrev pub named_of : Words → Named
named_of w = record { thread = w.thread.now; op = w.op; target = option_copied w.target }

-- the bytes are a name
abbrev pub IsName : List ℕ → Type 0
IsName bytes = name_fault bytes ≡ None

-- what every event of a line has
pub record IsEvent (e : Named) : Type 0 where
  pub thread : IsName e.thread
  pub target : IfSome e.target IsName
  pub has_target : HasItsTarget e.op e.target

-- the answer for a line with this meaning, where no name is copied
abbrev pub ReadsMeaning : Result (Option Words) LineFault → Meaning → Type 0
ReadsMeaning (Ok None) m = m ≡ Blank
ReadsMeaning (Ok (Some w)) m = m ≡ Means (named_of w)
ReadsMeaning (Err f) m = m ≡ Faulty f

-- the answer for a line that has an event or a fault
abbrev pub ReadsEvent : Result Words LineFault → Meaning → Type 0
ReadsEvent (Ok w) m = ReadsMeaning (Ok (Some w)) m
ReadsEvent (Err f) m = ReadsMeaning (Err f) m
