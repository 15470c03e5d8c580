-- The first event that joined a thread, or with which it came too late to fork it.
use Rattle.std.specs.Prelude.{◌≡◌, ℕ, Bool, true, false, if◌then◌else◌, List, ◌∷◌, ◌++◌, Option, None, Some}
use Rattle.std.specs.List.{list_any}
use Rattle.aero_model.specs.Named.{Named}
use Rattle.aero_faults.specs.Before.{is_by, is_fork_of, is_join_of, is_start_of}
use Rattle.aero_faults.specs.declared.first.Deed.{Deed}
use Rattle.aero_faults.specs.declared.first.Deed.TheVariants.{Acted, Forked, Joined}
use Rattle.aero_faults.specs.declared.first.FirstDeed.{FirstDeed}
use Rattle.aero_faults.specs.declared.first.Sought.{Sought}
use Rattle.aero_faults.specs.declared.first.Sought.TheVariants.{Joins, Starts}

-- the event, on this line, is the first that passes the test
pub record IsFirst (test : Named → Bool) (before : List (ℕ × Named)) (line : ℕ) (event : Named) : Type 0 where
  pub front : List (ℕ × Named)
  pub back : List (ℕ × Named)
  pub is : before ≡ front ++ (line, event) ∷ back
  pub passes : test event ≡ true
  pub none : list_any (λ e. test e.1) front ≡ false

abbrev pub is_sought : Sought → (thread : List ℕ) → Named → Bool
is_sought Joins u e = is_join_of u e
is_sought Starts u e = is_start_of u e

-- what the event was to the thread
abbrev pub deed_of : (thread : List ℕ) → Named → Deed
deed_of u e = if is_by u e then Acted else if is_fork_of u e then Forked else Joined

-- an event passed the test first, and this is kept of it
pub record CameFirst (test : Named → Bool) (u : List ℕ) (before : List (ℕ × Named)) (f : FirstDeed) : Type 0 where
  pub event : Named
  pub first : IsFirst test before f.line event
  pub thread : f.thread ≡ event.thread
  pub deed : f.deed ≡ deed_of u event

-- the first event that passes the test, if one does
abbrev pub IsFound : (Named → Bool) → (thread : List ℕ) → List (ℕ × Named) → Option FirstDeed → Type 0
IsFound test u before None = list_any (λ e. test e.1) before ≡ false
IsFound test u before (Some f) = CameFirst test u before f
