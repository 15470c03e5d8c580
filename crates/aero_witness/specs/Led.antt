-- To which events open blocks lead, after further events too.
use Rattle.std.specs.Prelude.{◌≡◌, ◌↔◌, ℕ, ◌<◌, List, ◌∷◌, Contains}
use Rattle.aero_model.specs.declared.numbered.Numbered.{Numbered}
use Rattle.aero_model.specs.Blocks.{Transaction, transaction, Occurs, IsOpen}
use Rattle.aero_model.specs.Graph.{Visit, IsTelling, LeadsTo}
use Rattle.aero_witness.specs.Trail.{IsTrail}

-- among the first n events, a block that is open leads to the one at place p, or has it
abbrev pub IsLed : List Numbered → ℕ → ℕ → Type 0
IsLed trace n p = (x : Transaction) × IsOpen trace n x × LeadsTo trace n x p

-- where the transaction has an event among the first n, it is a block that is still open
abbrev pub GoesOnAt : List Numbered → ℕ → Transaction → Type 0
GoesOnAt trace n x = Occurs trace n x → IsOpen trace n x

-- What such a transaction leads to after more events, an open block leads to already, unless it is one of these events.
abbrev pub NoneIsLedLater : Type 0
NoneIsLedLater =
    (trace : List Numbered) (n m : ℕ) (x : Transaction) (p : ℕ) → GoesOnAt trace n x → LeadsTo trace m x p → p < n → IsLed trace n p

-- A telling cycle that there is after more events, and that begins in such a transaction, has of the first n events only those to which an open block leads already.
abbrev pub LaterCyclesAreLed : Type 0
LaterCyclesAreLed =
    (trace : List Numbered) (n m : ℕ) (first : Visit) (rest : List Visit)
    → GoesOnAt trace n (transaction trace first.enters)
    → IsTelling trace m first rest
    → (v : Visit) → Contains (first ∷ rest) v
    → (v.enters < n → IsLed trace n v.enters) × (v.leaves < n → IsLed trace n v.leaves)

-- A transaction has all its events led to, or none.
abbrev pub LedAsAWhole : Type 0
LedAsAWhole =
    (trace : List Numbered) (n p q : ℕ) → IsLed trace n p → transaction trace p ≡ transaction trace q → q < n → IsLed trace n q

-- To what open blocks lead in what is recorded of a trace, they lead in the trace.
abbrev pub TrailIsLed : Type 0
TrailIsLed = (trace recorded : List Numbered) (n p : ℕ) → IsTrail trace recorded → IsLed recorded n p ↔ IsLed trace n p
