-- A list of pairs of a thread and a number, rising by thread.
use Rattle.std.specs.Prelude.{◌≡◌, ℕ, ◌<◌, ◌≤◌, ◌==◌, nat_lt, if◌then◌else◌, max, List, [], ◌∷◌, map, length, Some, slice_get}

-- the number that the list gives thread t, 0 where it gives none
abbrev pub number_in : List (ℕ × ℕ) → ℕ → ℕ
number_in [] t = 0
number_in (p ∷ ps) t = if p.0 == t then p.1 else number_in ps t

-- each thread stands once, behind those with a lesser number
abbrev pub IsRising : List (ℕ × ℕ) → Type 0
IsRising ps = (i j : ℕ) (p q : ℕ × ℕ) → i < j → slice_get ps i ≡ Some p → slice_get ps j ≡ Some q → p.0 < q.0

-- no thread stands with 0
abbrev pub HasNoZero : List (ℕ × ℕ) → Type 0
HasNoZero ps = (i : ℕ) (p : ℕ × ℕ) → slice_get ps i ≡ Some p → 0 < p.1

-- the threads before this place are below t, and the others aren't
pub record IsPlace (ps : List (ℕ × ℕ)) (t place : ℕ) : Type 0 where
  pub within : place ≤ length ps
  pub below : (i : ℕ) (p : ℕ × ℕ) → i < place → slice_get ps i ≡ Some p → p.0 < t
  pub above : (i : ℕ) (p : ℕ × ℕ) → place ≤ i → slice_get ps i ≡ Some p → t ≤ p.0

-- each thread of qs stands in ps
pub record Covers (ps qs : List (ℕ × ℕ)) : Type 0 where
  pub at : (j : ℕ) (q : ℕ × ℕ) → slice_get qs j ≡ Some q → 0 < number_in ps q.0

-- the threads of qs are the first of those of ps, each in its place
pub record LeadsWith (ps qs : List (ℕ × ℕ)) : Type 0 where
  pub within : length qs ≤ length ps
  pub at : (j : ℕ) (p q : ℕ × ℕ) → slice_get ps j ≡ Some p → slice_get qs j ≡ Some q → p.0 ≡ q.0

-- ps with each number raised to that in qs
abbrev pub raised_to : List (ℕ × ℕ) → List (ℕ × ℕ) → List (ℕ × ℕ)
raised_to qs ps = map (λ (p : ℕ × ℕ). (p.0, max p.1 (number_in qs p.0))) ps

-- p ∷ ps merged with the last argument, where `on` merges ps with a list
abbrev pub merge_step : ℕ × ℕ → (List (ℕ × ℕ) → List (ℕ × ℕ)) → List (ℕ × ℕ) → List (ℕ × ℕ)
merge_step p on [] = p ∷ on []
merge_step p on (q ∷ qs) = if nat_lt p.0 q.0 then p ∷ on (q ∷ qs) else (if nat_lt q.0 p.0 then q ∷ merge_step p on qs else (p.0, max p.1 q.1) ∷ on qs)

-- two lists merged by thread, with the greater number where a thread stands in both
abbrev pub merge : List (ℕ × ℕ) → List (ℕ × ℕ) → List (ℕ × ℕ)
merge [] qs = qs
merge (p ∷ ps) qs = merge_step p (merge ps) qs
