-- A trace from which whole transactions are left out.
use Rattle.std.specs.Prelude.{◌≡◌, ◌↔◌, ℕ, ◌<◌, Bool, true, if◌then◌else◌, List, [], ◌∷◌, ◌++◌, length, slice_get, Some}
use Rattle.std.specs.List.{AllZip}
use Rattle.aero_model.specs.declared.numbered.Numbered.{Numbered}
use Rattle.aero_model.specs.Blocks.{transaction, HasEnded, IsOpen}
use Rattle.aero_model.specs.Graph as graph
use Rattle.aero_witness.specs.declared.visit.Visit.{Visit}
use Rattle.aero_witness.specs.Led.{IsLed}
use Rattle.aero_witness.specs.Telling.{IsShortest, visits_of}

-- the place is one of these
abbrev pub IsAmong : List ℕ → ℕ → Type 0
IsAmong places p = (i : ℕ) × (slice_get places i ≡ Some p)

-- What is kept of a trace are the events at these places, in their order. Of each transaction all events are kept, or none.
pub record IsThinned (trace kept : List Numbered) (places : List ℕ) : Type 0 where
  pub each : length places ≡ length kept
  pub rise : (i j p q : ℕ) → i < j → slice_get places i ≡ Some p → slice_get places j ≡ Some q → p < q
  pub within : (i p : ℕ) → slice_get places i ≡ Some p → p < length trace
  pub event : (i p : ℕ) → slice_get places i ≡ Some p → slice_get kept i ≡ slice_get trace p
  pub whole : (p q : ℕ) → IsAmong places p → q < length trace → transaction trace p ≡ transaction trace q → IsAmong places q

-- it has at least each event to which an open block leads
pub record IsEnough (trace kept : List Numbered) (places : List ℕ) : Type 0 where
  pub thinned : IsThinned trace kept places
  pub led : (p : ℕ) → p < length trace → IsLed trace (length trace) p → IsAmong places p

-- the items that are marked, in their order
abbrev pub marked : {X : Type 0} → List Bool → List X → List X
marked [] xs = []
marked (b ∷ bs) [] = []
marked (b ∷ bs) (x ∷ xs) = if b then x ∷ marked bs xs else marked bs xs

-- the one visit is at the places at which the other one is in the trace
pub record IsPlaced (places : List ℕ) (v w : graph.Visit) : Type 0 where
  pub enters : slice_get places v.enters ≡ Some w.enters
  pub leaves : slice_get places v.leaves ≡ Some w.leaves

-- events that are kept are of one transaction exactly where they were, and it has ended exactly where it had
abbrev pub ThinnedHasTransactions : Type 0
ThinnedHasTransactions =
    (trace kept : List Numbered) (places : List ℕ) (i j p q : ℕ)
    → IsThinned trace kept places
    → slice_get places i ≡ Some p
    → slice_get places j ≡ Some q
    → ((transaction kept i ≡ transaction kept j) ↔ (transaction trace p ≡ transaction trace q))
    × (HasEnded kept (length kept) (transaction kept i) ↔ HasEnded trace (length trace) (transaction trace p))

-- visits are a telling cycle of what is kept exactly where they are one of the trace
abbrev pub ThinnedHasTellingCycles : Type 0
ThinnedHasTellingCycles =
    (trace kept : List Numbered) (places : List ℕ) (v w : graph.Visit) (vs ws : List graph.Visit)
    → IsThinned trace kept places
    → IsPlaced places v w
    → AllZip (IsPlaced places) vs ws
    → graph.IsTelling kept (length kept) v vs ↔ graph.IsTelling trace (length trace) w ws

-- What is enough is still enough with the next event.
abbrev pub EnoughStays : Type 0
EnoughStays =
    (trace kept : List Numbered) (places : List ℕ) (e : Numbered)
    → IsEnough trace kept places
    → IsEnough (trace ++ e ∷ []) (kept ++ e ∷ []) (places ++ length trace ∷ [])

-- What open blocks lead to is enough.
abbrev pub LedIsEnough : Type 0
LedIsEnough =
    (trace kept : List Numbered) (places : List ℕ) (marks : List Bool)
    → IsEnough trace kept places
    → length marks ≡ length places
    → ((i p : ℕ) → slice_get places i ≡ Some p → (slice_get marks i ≡ Some true) ↔ IsLed trace (length trace) p)
    → IsEnough trace (marked marks kept) (marked marks places)

-- Of what is enough: telling cycles of the trace that begin in an open block begin there among what is kept too, and a shortest one of these is, at its places in the trace, a shortest one there.
abbrev pub EnoughHasShortest : Type 0
EnoughHasShortest =
    (trace kept : List Numbered) (places : List ℕ) (i p : ℕ)
    → IsEnough trace kept places
    → slice_get places i ≡ Some p
    → IsOpen trace (length trace) (transaction trace p)
    → (graph.BeginsCycle trace (length trace) (transaction trace p) → graph.BeginsCycle kept (length kept) (transaction kept i))
    × ((visits : List Visit)
    → IsShortest kept (transaction kept i) visits
    → (placed : List Visit) × AllZip (IsPlaced places) (visits_of visits) (visits_of placed) × IsShortest trace (transaction trace p) placed)
