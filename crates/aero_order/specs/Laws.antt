-- The laws of near events, and of the order along them.
use Rattle.std.specs.Prelude.{◌≡◌, ◌↔◌, ℕ, List, length, map, slice_index_or}
use Rattle.aero_model.specs.declared.numbered.Numbered.{Numbered}
use Rattle.aero_model.specs.Graph.{Conflict}
use Rattle.aero_model.specs.Serial.{IsSerialOrder, IsComplete}
use Rattle.aero_model.specs.Shape.{IsWellFormed}
use Rattle.aero_order.specs.Near.{Near, Chain}
use Rattle.aero_order.specs.TransactionNumbers.{AreFirsts, AreEdges}
use Rattle.aero_order.specs.Order.{IsOrder}

abbrev pub NearIsConflict : Type 0
NearIsConflict = (trace : List Numbered) (i j : ℕ) → Near trace i j → Conflict trace i j

abbrev pub ConflictIsChained : Type 0
ConflictIsChained = (trace : List Numbered) (i j : ℕ) → IsWellFormed trace → Conflict trace i j → Chain trace i j

-- the order of the transactions' numbers along near edges is the serial order
abbrev pub OrderIsSerial : Type 0
OrderIsSerial =
    (trace : List Numbered) (firsts : List ℕ) (edges : List (ℕ × ℕ)) (order : List ℕ)
    → IsWellFormed trace
    → AreFirsts trace firsts
    → AreEdges trace firsts edges
    → IsOrder (length firsts) edges order
    → IsSerialOrder trace (map (λ v. slice_index_or firsts v 0) order)

-- it has every transaction exactly where it is as long as there are transactions
abbrev pub OrderCompleteByLength : Type 0
OrderCompleteByLength =
    (trace : List Numbered) (firsts : List ℕ) (edges : List (ℕ × ℕ)) (order : List ℕ)
    → IsWellFormed trace
    → AreFirsts trace firsts
    → AreEdges trace firsts edges
    → IsOrder (length firsts) edges order
    → (length order ≡ length firsts) ↔ IsComplete trace (map (λ v. slice_index_or firsts v 0) order)
