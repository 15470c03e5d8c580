-- What a second look at the faulty line of a source shows.
use Rattle.std.specs.Prelude.{ℕ, List, ⊤, Option, None, Some}
use Rattle.aero_telling.specs.declared.notable.Fault.{Fault}
use Rattle.aero_telling.specs.declared.notable.Fault.TheVariants.{Malformed, IllFormed}
use Rattle.aero_telling.specs.declared.notable.FaultyLine.{FaultyLine}
use Rattle.aero_faults.specs.declared.look.Look.{Look}
use Rattle.aero_faults.specs.declared.look.Look.TheVariants.{Nothing, Line, Event}
use Rattle.aero_faults.specs.Looks.{IsEventLook, IsLine, IsLineLook}
use Rattle.aero_program.specs.declared.stamp.Stamp.{Stamp}

-- the look at this line, of a fault on the line of this number; `given` is what a source has that is read once more up to the line, where it is known
abbrev pub LooksAt : (given : Option (List ℕ)) → (number : ℕ) → (line : List ℕ) → Fault → Look → Type 0
LooksAt given number line (Malformed fault) look = IsLineLook fault line look
LooksAt given number line (IllFormed fault) look = IsEventLook given number line fault look

-- A source was read up to the line of this number, and that shows this of the fault; `held` says which bytes it may have, and it is read once or twice.
pub record Shows (held : Option (List ℕ) → Type 0) (number : ℕ) (fault : Fault) (look : Look) : Type 0 where
  pub first : Option (List ℕ)
  pub again : Option (List ℕ)
  pub first_held : held first
  pub again_held : held again
  pub line : List ℕ
  pub is : IsLine first number line
  pub looks : LooksAt again number line fault look

-- a look that shows something is one at the lines of a file that can be opened, and shows this fault of this line
abbrev pub IsSecondLook : (can_open : Type 0) → (held : Option (List ℕ) → Type 0) → FaultyLine → Look → Type 0
IsSecondLook can_open held faulty Nothing = ⊤
IsSecondLook can_open held faulty (Line seen) = can_open × Shows held faulty.line faulty.fault (Line seen)
IsSecondLook can_open held faulty (Event e hindrance) = can_open × Shows held faulty.line faulty.fault (Event e hindrance)

-- a look that shows something of the faulty line of a file that had a stamp when it was opened, if it has both
abbrev pub IsShown : (holds : Stamp → Option (List ℕ) → Type 0) → Look → (opened : Option Stamp) → Option FaultyLine → Type 0
IsShown holds Nothing opened fault = ⊤
IsShown holds (Line seen) opened None = ⊥
IsShown holds (Line seen) None (Some faulty) = ⊥
IsShown holds (Line seen) (Some stamp) (Some faulty) = Shows (holds stamp) faulty.line faulty.fault (Line seen)
IsShown holds (Event e hindrance) opened None = ⊥
IsShown holds (Event e hindrance) None (Some faulty) = ⊥
IsShown holds (Event e hindrance) (Some stamp) (Some faulty) = Shows (holds stamp) faulty.line faulty.fault (Event e hindrance)

-- What is shown of the faulty line of the source of this name, whose file had this stamp when it was opened. `holds` says which bytes a file may have that was opened at a path and had a stamp.
abbrev pub ShowsAs : (holds : List ℕ → Stamp → Option (List ℕ) → Type 0) → (name : List ℕ) → (opened : Option Stamp) → Option FaultyLine → Look → Type 0
ShowsAs holds name opened fault look = IsShown (holds name) look opened fault
