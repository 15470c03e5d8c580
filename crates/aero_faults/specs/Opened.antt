-- How many blocks of a thread are open.
use Rattle.std.specs.Prelude.{◌≡◌, ℕ, ◌+◌, ◌&&◌, true, List, ◌∷◌, ◌++◌, Option, None, Some}
use Rattle.aero_model.specs.Named.{Named}
use Rattle.aero_faults.specs.Before.{is_by, is_end, begins, ends}

-- an end of the thread where none of its blocks was open
pub record HasEarlyEnd (before : List (ℕ × Named)) (t : List ℕ) : Type 0 where
  pub front : List (ℕ × Named)
  pub event : ℕ × Named
  pub back : List (ℕ × Named)
  pub is : before ≡ front ++ event ∷ back
  pub end : (is_by t event.1 && is_end event.1.op) ≡ true
  pub none : begins front t ≡ ends front t

-- so many blocks of the thread are open, as long as none has ended that hadn't begun
abbrev pub AreOpen : List ℕ → List (ℕ × Named) → Option ℕ → Type 0
AreOpen t before (Some count) = begins before t ≡ ends before t + count
AreOpen t before None = HasEarlyEnd before t
