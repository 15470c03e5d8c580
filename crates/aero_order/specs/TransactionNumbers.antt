-- The transactions of a trace by numbers, in the order of their first events, and edges between these numbers.
use Rattle.std.specs.Prelude.{◌≡◌, ◌≢◌, ℕ, ◌<◌, List, length, Contains, Some, slice_get}
use Rattle.aero_model.specs.declared.numbered.Numbered.{Numbered}
use Rattle.aero_model.specs.Blocks.{Transaction, transaction}
use Rattle.aero_model.specs.Graph.{Edge}
use Rattle.aero_model.specs.Serial.{IsFirstPlace}
use Rattle.aero_order.specs.Near.{Near}

module _ (trace : List Numbered) where
  -- the list has the first place of each transaction, in their order
  pub record AreFirsts (firsts : List ℕ) : Type 0 where
    pub places : (v n : ℕ) → slice_get firsts v ≡ Some n → IsFirstPlace trace n
    pub rising : (u v m n : ℕ) → u < v → slice_get firsts u ≡ Some m → slice_get firsts v ≡ Some n → m < n
    pub all : (n : ℕ) → IsFirstPlace trace n → Contains firsts n

  -- the transaction has the number v
  abbrev pub HasNumber : List ℕ → Transaction → ℕ → Type 0
  HasNumber firsts x v = (n : ℕ) × (slice_get firsts v ≡ Some n) × (transaction trace n ≡ x)

  -- each edge leads between transactions of which it is one, and near events of two transactions have theirs
  pub record AreEdges (firsts : List ℕ) (edges : List (ℕ × ℕ)) : Type 0 where
    pub sound : (u v : ℕ) → Contains edges (u, v) → (x y : Transaction) × HasNumber firsts x u × HasNumber firsts y v × Edge trace (length trace) x y
    pub near : (i j : ℕ) → Near trace i j → transaction trace i ≢ transaction trace j → (u v : ℕ) × HasNumber firsts (transaction trace i) u × HasNumber firsts (transaction trace j) v × Contains edges (u, v)
