-- What each number waits for while the order is made: edges from numbers that are not in the list yet.
use Rattle.std.specs.Prelude.{◌≡◌, ℕ, ◌-◌, ◌<◌, ◌≤◌, ◌==◌, ◌&&◌, nat_lt, not, Bool, if◌then◌else◌, List, length, count_by, slice_index_or, Contains}
use Rattle.std.specs.List.{list_any}

abbrev pub Pair : Type 0
Pair = ℕ × ℕ

-- whether the number is in the list
abbrev pub is_in : List ℕ → ℕ → Bool
is_in order v = list_any (λ w. w == v) order

-- whether the edge leads to v from a number that isn't in the list
abbrev pub is_missing : List ℕ → ℕ → Pair → Bool
is_missing order v e = (e.1 == v) && not (is_in order e.0)

abbrev pub missing_count : List Pair → List ℕ → ℕ → ℕ
missing_count edges order v = count_by (is_missing order v) edges

abbrev pub is_edge : ℕ → ℕ → Pair → Bool
is_edge u v e = (e.0 == u) && (e.1 == v)

-- how many edges lead from u to v
abbrev pub edge_count : List Pair → ℕ → ℕ → ℕ
edge_count edges u v = count_by (is_edge u v) edges

abbrev pub one_if : Bool → ℕ
one_if b = if b then 1 else 0

-- whether a number that waits for n edges is free
abbrev pub is_due : ℕ → List ℕ → ℕ → ℕ → Bool
is_due count order v n = nat_lt v count && (not (is_in order v) && (n == 0))

-- each number below count waits for as many edges as are due, and is held once where it is free
pub record Waits (count : ℕ) (order : List ℕ) (due waits held : ℕ → ℕ) : Type 0 where
  pub counts : (v : ℕ) → v < count → waits v ≡ due v
  pub holds : (v : ℕ) → held v ≡ one_if (is_due count order v (due v))

-- what the list has at each place
abbrev pub numbers_of : List ℕ → ℕ → ℕ
numbers_of xs v = slice_index_or xs v 0

-- how often the list has the number
abbrev pub times : ℕ → List ℕ → ℕ
times v xs = count_by (λ w. w == v) xs

-- an edge to each of the targets is no longer due
abbrev pub GivesWay : List ℕ → List ℕ → (ℕ → ℕ) → List ℕ → (ℕ → ℕ) → Type 0
GivesWay targets waiting held fewer more =
    (order : List ℕ) (due : ℕ → ℕ)
    → Waits (length waiting) order due (numbers_of waiting) held
    → ((v : ℕ) → times v targets ≤ due v)
    → ((v : ℕ) → 0 < times v targets → ¬ Contains order v)
    → Waits (length waiting) order (λ v. due v - times v targets) (numbers_of fewer) more
