-- What the limits on threads, variables and locks mean in the words of names.
use Rattle.std.specs.Prelude.{◌≡◌, ◌↔◌, ℕ, ◌⊎◌, false, List, [], ◌∷◌, length, take, slice_get, bytes_eq, Some}
use Rattle.std.specs.List.{list_any}
use Rattle.aero_model.specs.declared.limits.Limits.{Limits}
use Rattle.aero_model.specs.declared.verdict.ShapeFault.{ShapeFault}
use Rattle.aero_model.specs.declared.verdict.ShapeFault.TheVariants.{TooManyThreads, TooManyNames}
use Rattle.aero_model.specs.Named.{Named, HasItsTarget}
use Rattle.aero_model.specs.Numbering.{with_name, threads_named, variables_named, locks_named, Tables, tables_of, trace_of}
use Rattle.aero_model.specs.Shape.{fault_at, IsLawful}

-- the name is new, and there are as many as the limit allows
pub record IsOneTooMany (limit : ℕ) (names : List (List ℕ)) (name : List ℕ) : Type 0 where
  pub new : list_any (bytes_eq name) names ≡ false
  pub full : length names ≡ limit

-- so it is with one of these, which come after those names and after each other
abbrev pub HasOneTooMany : ℕ → List (List ℕ) → List (List ℕ) → Type 0
HasOneTooMany limit names [] = ⊥
HasOneTooMany limit names (name ∷ more) = IsOneTooMany limit names name ⊎ HasOneTooMany limit (with_name names name) more

module _ (limits : Limits) (tables : Tables) (e : Named) where
  -- after the names in the tables, the event's actor or its target is a thread too many
  abbrev pub NamesThreadTooMany : Type 0
  NamesThreadTooMany = HasOneTooMany limits.threads tables.threads (threads_named e)

  -- its target is a variable or a lock too many
  abbrev pub NamesTargetTooMany : Type 0
  NamesTargetTooMany = HasOneTooMany limits.names tables.variables (variables_named e) ⊎ HasOneTooMany limits.names tables.locks (locks_named e)

-- the event at place n has this fault exactly where what the names before it say holds, as long as none before it is ill-formed
abbrev pub FaultMeans : ShapeFault → (Limits → Tables → Named → Type 0) → Type 0
FaultMeans fault Meaning =
    (limits : Limits) (events : List Named) (n : ℕ) (e : Named)
    → ((i : ℕ) (x : Named) → slice_get events i ≡ Some x → HasItsTarget x.op x.target)
    → IsLawful limits (trace_of events) n
    → slice_get events n ≡ Some e
    → (fault_at limits (trace_of events) n ≡ Some fault) ↔ Meaning limits (tables_of (take n events)) e

-- too many threads: a thread is new, and so many are numbered before it
abbrev pub TooManyThreadsMeans : Type 0
TooManyThreadsMeans = FaultMeans TooManyThreads (λ limits before e. NamesThreadTooMany limits before e)

-- too many names: the target is new, so many are numbered before it, and no thread is one too many
abbrev pub TooManyNamesMeans : Type 0
TooManyNamesMeans = FaultMeans TooManyNames (λ limits before e. (NamesThreadTooMany limits before e → ⊥) × NamesTargetTooMany limits before e)
