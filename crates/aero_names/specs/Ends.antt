-- A list of names as one text and the places where the names end.
use Rattle.std.specs.Prelude.{◌≡◌, ◌<◌, ◌≤◌, ◌-◌, ◌^◌, ℕ, List, [], ◌∷◌, length, take, drop}

-- the names in the text from `start` on: each goes up to its end, and the next begins there
abbrev pub names_from : List ℕ → ℕ → List ℕ → List (List ℕ)
names_from text start [] = []
names_from text start (end ∷ ends) = take (end - start) (drop start text) ∷ names_from text end ends

-- from `start` on the ends never fall, and the last is that of the whole text
abbrev pub EndsRise : ℕ → List ℕ → ℕ → Type 0
EndsRise start [] whole = start ≡ whole
EndsRise start (end ∷ ends) whole = (start ≤ end) × EndsRise end ends whole

-- the ends cut the text into names, and there are few enough of them to be numbered
pub record IsCut (text ends : List ℕ) : Type 0 where
  pub rising : EndsRise 0 ends (length text)
  pub within : length text < 2 ^ 32
  pub few : length ends < 2 ^ 32
