-- Places that are reached, and what is made of them.
use Rattle.std.specs.Prelude.{◌≡◌, ◌⊎◌, ℕ, ◌+◌, ◌<◌, ◌≤◌, ◌==◌, if◌then◌else◌, Bool, true, false, List, length, Option, Some, None, IsSome, Contains, slice_index_or, slice_get}
use Rattle.aero_model.specs.declared.numbered.Numbered.{Numbered}
use Rattle.aero_model.specs.Graph as graph
use Rattle.aero_model.specs.Graph.{Conflict, IsVisit, IsForward}
use Rattle.aero_witness.specs.declared.reached.Reached.{Reached}
use Rattle.aero_witness.specs.declared.buckets.Arrival.{Arrival}

-- how the place is reached, if it is
abbrev pub reached_at : List (Option Reached) → ℕ → Option Reached
reached_at reached i = slice_index_or reached i None

abbrev pub level_of : Option Reached → ℕ
level_of None = 0
level_of (Some r) = r.level

abbrev pub has_level : ℕ → Option Reached → Bool
has_level level None = false
has_level level (Some r) = r.level == level

abbrev pub is_noted : List (Option Reached) → ℕ → ℕ → Bool
is_noted reached level i = has_level level (reached_at reached i)

abbrev pub visit : ℕ → ℕ → graph.Visit
visit i k = record { enters = i; leaves = k }

abbrev pub start_at : ℕ → ℕ → Option Reached
start_at f first = if f == first then Some (record { level = 0; enters = 0; from = 0 }) else None

-- of the first n places those are reached that are of the transaction with this first place
pub record AreStarts (firsts : List ℕ) (first n : ℕ) (reached : List (Option Reached)) : Type 0 where
  pub each : length reached ≡ n
  pub at : (k : ℕ) → k < n → reached_at reached k ≡ start_at (slice_index_or firsts k 0) first

-- the places of the front are those of this level
pub record IsFront (level : ℕ) (reached : List (Option Reached)) (front : List ℕ) : Type 0 where
  pub noted : (k : ℕ) → Contains front k → is_noted reached level k ≡ true
  pub all : (k : ℕ) → is_noted reached level k ≡ true → Contains front k

-- with a noted event the one at place j conflicts as a later one
abbrev pub HasSource : List Numbered → (ℕ → Bool) → ℕ → Type 0
HasSource trace noted j = (i : ℕ) × (noted i ≡ true) × Conflict trace i j

-- with a place of the transaction from place p on each later one of it is reached
pub record IsClosedFrom (firsts : List ℕ) (p : ℕ) (reached : List (Option Reached)) : Type 0 where
  pub later :
      (j k : ℕ) → p ≤ j → j ≤ k → k < length firsts → slice_get firsts j ≡ slice_get firsts p → slice_get firsts k ≡ slice_get firsts p
      → IsSome (reached_at reached j) → IsSome (reached_at reached k)

-- the places of the transaction from place p on are reached, those that weren't as `how`
pub record IsWalked (firsts : List ℕ) (p : ℕ) (how : Reached) (old new : List (Option Reached)) : Type 0 where
  pub each : length new ≡ length old
  pub kept : (k : ℕ) (r : Reached) → reached_at old k ≡ Some r → reached_at new k ≡ Some r
  pub only :
      (k : ℕ) (r : Reached) → reached_at new k ≡ Some r
      → (reached_at old k ≡ Some r) ⊎ ((reached_at old k ≡ None) × (r ≡ how) × (p ≤ k) × (slice_get firsts k ≡ slice_get firsts p))
  pub all : (k : ℕ) → p ≤ k → k < length firsts → slice_get firsts k ≡ slice_get firsts p → IsSome (reached_at new k)

-- a walk that comes in at place i may leave at the places of its transaction from this one on
pub record IsFrom (trace : List Numbered) (firsts : List ℕ) (i from : ℕ) : Type 0 where
  pub within : from < length trace
  pub of : slice_get firsts from ≡ slice_get firsts i
  pub until : (k : ℕ) → IsVisit trace (length trace) (visit i k) → IsForward trace (length trace) (visit i k) → from ≤ k
  pub on : (k : ℕ) → IsVisit trace (length trace) (visit i k) → from ≤ k → IsForward trace (length trace) (visit i k)

module _ (trace : List Numbered) where
  -- where a walk may leave at place j, it may leave at each place at which one may that comes in at place j
  abbrev pub IsClosed : List (Option Reached) → Type 0
  IsClosed reached =
      (j k : ℕ) → IsVisit trace (length trace) (visit j k) → IsForward trace (length trace) (visit j k)
      → IsSome (reached_at reached j) → IsSome (reached_at reached k)

  -- the places are reached at which a walk may leave that comes in so
  pub record IsEntered (how : Reached) (old new : List (Option Reached)) : Type 0 where
    pub each : length new ≡ length old
    pub kept : (k : ℕ) (r : Reached) → reached_at old k ≡ Some r → reached_at new k ≡ Some r
    pub only :
        (k : ℕ) (r : Reached) → reached_at new k ≡ Some r
        → (reached_at old k ≡ Some r)
        ⊎ ((reached_at old k ≡ None) × (r ≡ how) × IsVisit trace (length trace) (visit how.enters k) × IsForward trace (length trace) (visit how.enters k))
    pub all :
        (k : ℕ) → IsVisit trace (length trace) (visit how.enters k) → IsForward trace (length trace) (visit how.enters k)
        → IsSome (reached_at new k)

  module _ (level : ℕ) (old : List (Option Reached)) where
    -- with one visit more place k is reached so
    pub record IsNew (k : ℕ) (r : Reached) : Type 0 where
      pub none : reached_at old k ≡ None
      pub one_more : r.level ≡ level + 1
      pub noted : is_noted old level r.from ≡ true
      pub conflict : Conflict trace r.from r.enters
      pub is : IsVisit trace (length trace) (visit r.enters k)
      pub forward : IsForward trace (length trace) (visit r.enters k)

    -- it comes in at a place to which a noted event leads
    abbrev pub IsArrival : Arrival → Type 0
    IsArrival c = (is_noted old level c.from ≡ true) × Conflict trace c.from c.enters

    -- what comes of these
    pub record AreEntered (arrivals : List Arrival) (new : List (Option Reached)) : Type 0 where
      pub each : length new ≡ length old
      pub kept : (k : ℕ) (r : Reached) → reached_at old k ≡ Some r → reached_at new k ≡ Some r
      pub only : (k : ℕ) (r : Reached) → reached_at new k ≡ Some r → (reached_at old k ≡ Some r) ⊎ IsNew k r
      pub entered : (c : Arrival) → Contains arrivals c → IsSome (reached_at new c.enters)
      pub closed : IsClosed new

    -- what comes of the conflicts of noted events with any
    pub record IsSwept (new : List (Option Reached)) : Type 0 where
      pub each : length new ≡ length old
      pub kept : (k : ℕ) (r : Reached) → reached_at old k ≡ Some r → reached_at new k ≡ Some r
      pub only : (k : ℕ) (r : Reached) → reached_at new k ≡ Some r → (reached_at old k ≡ Some r) ⊎ IsNew k r
      pub covered :
          (j k : ℕ) → HasSource trace (is_noted old level) j
          → IsVisit trace (length trace) (visit j k) → IsForward trace (length trace) (visit j k)
          → IsSome (reached_at new k)
      pub closed : IsClosed new

  -- no noted event leads to the transaction with this first place
  abbrev pub HasNoWayBack : List ℕ → ℕ → (ℕ → Bool) → Type 0
  HasNoWayBack firsts first noted = (j : ℕ) → slice_get firsts j ≡ Some first → HasSource trace noted j → ⊥

-- a noted event leads to one of the transaction with this first place
abbrev pub IsWayBack : List Numbered → List ℕ → ℕ → (ℕ → Bool) → Arrival → Type 0
IsWayBack trace firsts first noted c = (slice_get firsts c.enters ≡ Some first) × (noted c.from ≡ true) × Conflict trace c.from c.enters

-- none is reached with more
abbrev pub AreAtMost : ℕ → List (Option Reached) → Type 0
AreAtMost level reached = (k : ℕ) (r : Reached) → reached_at reached k ≡ Some r → r.level ≤ level
