-- The number of an event's transaction.
use Rattle.std.specs.Prelude.{◌≡◌, ℕ, ◌++◌, List, [], ◌∷◌, length, Option, Some, None}

-- it is the known one, or the next, and then the list of first events has the event at its end
abbrev pub IsNumbered : {X : Type 0} → Option ℕ → X → List X → List X → ℕ → Type 0
IsNumbered (Some u) first old new v = (v ≡ u) × (new ≡ old)
IsNumbered None first old new v = (v ≡ length old) × (new ≡ old ++ first ∷ [])
