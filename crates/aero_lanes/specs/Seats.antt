-- Where a source is.
use Rattle.std.specs.Prelude.{◌≡◌, ℕ, ◌<◌, List, ◌++◌, map, length, slice_get, Option, Some, None}
use Rattle.aero_telling.specs.Founds.{Found, IsFoundOf, sighted, whose}
use Rattle.aero_intake.specs.Source.{Sight}
use Rattle.aero_intake.specs.PlanTerms.{terms_of}
use Rattle.aero_intake.specs.declared.source.SourceOf.{SourceOf}
use Rattle.aero_lanes.specs.Ends.{IsEndOf}
use Rattle.aero_lanes.specs.declared.lane.Ended.{Ended}
use Rattle.aero_lanes.specs.declared.seat.Seat.{Seat}
use Rattle.aero_lanes.specs.declared.seat.Seat.TheVariants.{Waiting, Running, Done, Empty}
use Rattle.aero_model.specs.Terms.{Terms}

-- the seat of a source that was this at first, and is judged on these terms
abbrev pub FitsSeat : {R : Type 0} → (R → Sight) → Terms → SourceOf R → Seat R → Type 0
FitsSeat known terms before (Waiting source) = source ≡ before
FitsSeat known terms before (Running handle) = (handle.promise.0.value ≡ before) × (terms_of handle.promise.1.value ≡ terms)
FitsSeat known terms before (Done end) = IsEndOf known terms before end
FitsSeat known terms before Empty = ⊥

-- a seat whose lane has ended stays as it is
abbrev pub StaysDone : {R : Type 0} → Seat R → Seat R → Type 0
StaysDone {R} old new = (end : Ended R) → old ≡ Done end → new ≡ Done end

-- the source that a seat gives back: that of its lane, where this has ended
abbrev pub IsBack : {R : Type 0} → (R → Sight) → SourceOf R → Seat R → SourceOf R → Type 0
IsBack known before (Done end) source = source ≡ end.source
IsBack known before seat source = whose (sighted known source) ≡ whose (sighted known before)

abbrev pub GivesBack : {R : Type 0} → (R → Sight) → SourceOf R → Seat R → Option (SourceOf R) → Type 0
GivesBack known before seat (Some source) = IsBack known before seat source
GivesBack known before seat None = ⊥

-- the seats of sources that wait
abbrev pub waiting : {R : Type 0} → List (SourceOf R) → List (Seat R)
waiting sources = map Waiting sources

-- these are what the seats give back
pub record AreBack {R : Type 0} (known : R → Sight) (origin : List (SourceOf R)) (seats : List (Seat R)) (back : List (SourceOf R)) : Type 0 where
  pub each : (k : ℕ) (before : SourceOf R) (seat : Seat R) → slice_get origin k ≡ Some before → slice_get seats k ≡ Some seat →
      (source : SourceOf R) × (slice_get back k ≡ Some source) × IsBack known before seat source
  pub count : length back ≡ length origin

-- The first seats have given these back, and the rest not yet.
pub record BackSoFar {R : Type 0} (known : R → Sight) (origin : List (SourceOf R)) (all : List (Seat R)) (back : List (SourceOf R)) (rest : List (Seat R)) : Type 0 where
  pub each : (k : ℕ) (before : SourceOf R) (seat : Seat R) → k < length back → slice_get origin k ≡ Some before → slice_get all k ≡ Some seat →
      (source : SourceOf R) × (slice_get back k ≡ Some source) × IsBack known before seat source
  pub front : List (Seat R)
  pub whole : all ≡ front ++ rest
  pub count : length front ≡ length back

-- each source has its seat
pub record AreSeated {R : Type 0} (known : R → Sight) (terms : Terms) (origin : List (SourceOf R)) (seats : List (Seat R)) : Type 0 where
  pub fits : (k : ℕ) (before : SourceOf R) (seat : Seat R) → slice_get origin k ≡ Some before → slice_get seats k ≡ Some seat → FitsSeat known terms before seat
  pub count : length seats ≡ length origin

-- Each seat fits the source that it fitted, and those whose lanes had ended are the same.
pub record GoOn {R : Type 0} (known : R → Sight) (terms : Terms) (old new : List (Seat R)) : Type 0 where
  pub fits : (origin : List (SourceOf R)) → AreSeated known terms origin old → AreSeated known terms origin new
  pub done : (k : ℕ) (end : Ended R) → slice_get old k ≡ Some (Done end) → slice_get new k ≡ Some (Done end)
  pub count : length new ≡ length old

-- that was found by the lane of the source at the place
pub record IsFoundBy {R : Type 0} (known : R → Sight) (terms : Terms) (origin : List (SourceOf R)) (seats : List (Seat R)) (place : ℕ) (found : Found) : Type 0 where
  pub before : SourceOf R
  pub end : Ended R
  pub was : slice_get origin place ≡ Some before
  pub is : slice_get seats place ≡ Some (Done end)
  pub found_of : IsFoundOf terms (sighted known before) (sighted known end.source) found
