-- Places that are reached from a transaction with few visits.
use Rattle.std.specs.Prelude.{◌≡◌, ◌≢◌, ℕ, ◌+◌, ◌<◌, ◌≤◌, List, length, Option, Some}
use Rattle.aero_model.specs.declared.numbered.Numbered.{Numbered}
use Rattle.aero_model.specs.Blocks.{Transaction, transaction}
use Rattle.aero_model.specs.Graph.{Conflict, IsVisit, IsForward}
use Rattle.aero_witness.specs.declared.reached.Reached.{Reached}
use Rattle.aero_witness.specs.Reached.{reached_at, visit}

module _ (trace : List Numbered) (x : Transaction) (reached : List (Option Reached)) where
  -- a visit leaves at place k, to which an event conflicts that is reached with one visit fewer, of another transaction
  pub record ByVisit (k : ℕ) (r : Reached) : Type 0 where
    pub is : IsVisit trace (length trace) (visit r.enters k)
    pub forward : IsForward trace (length trace) (visit r.enters k)
    pub conflict : Conflict trace r.from r.enters
    pub apart : transaction trace r.from ≢ transaction trace r.enters
    pub before : Reached
    pub before_at : reached_at reached r.from ≡ Some before
    pub one_fewer : r.level ≡ before.level + 1
    pub outside : transaction trace k ≢ x

  -- All of the transaction is reached with none. What else is reached is reached so, and what is reached with fewer than
  -- d visits leads on. From no place outside that is reached with fewer an event conflicts with one of the transaction.
  pub record AreLevels (d : ℕ) : Type 0 where
    pub each : length reached ≡ length trace
    pub start :
        (i : ℕ) → i < length trace → transaction trace i ≡ x
        → (r : Reached) × (reached_at reached i ≡ Some r) × (r.level ≡ 0)
    pub at_start : (k : ℕ) (r : Reached) → reached_at reached k ≡ Some r → r.level ≡ 0 → transaction trace k ≡ x
    pub sound : (k : ℕ) (r : Reached) → reached_at reached k ≡ Some r → 0 < r.level → ByVisit k r
    pub leads :
        (i j k : ℕ) (r : Reached) → reached_at reached i ≡ Some r → r.level < d → Conflict trace i j
        → IsVisit trace (length trace) (visit j k) → IsForward trace (length trace) (visit j k)
        → (q : Reached) × (reached_at reached k ≡ Some q) × (q.level ≤ r.level + 1)
    pub no_return :
        (i j : ℕ) (r : Reached) → reached_at reached i ≡ Some r → 0 < r.level → r.level < d → transaction trace j ≡ x
        → Conflict trace i j → ⊥
