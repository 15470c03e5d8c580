-- What holds of every crew's report.
use Rattle.std.specs.Prelude.{ℕ, ◌<◌, List, [], ◌∷◌, All, ⊤}
use Rattle.aero_pieces.specs.Invariants.{IsSubsequence}

-- each number is below all that stand behind it
abbrev pub Rises : List ℕ → Type 0
Rises [] = ⊤
Rises (x ∷ xs) = All (λ y. x < y) xs × Rises xs

-- Where the numbers posted rise, so do those of each list that is a part of them in order.
abbrev pub PartsRise : Type 0
PartsRise = (xs posted : List ℕ) → IsSubsequence xs posted → Rises posted → Rises xs
