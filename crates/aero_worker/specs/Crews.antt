-- What contracts see of a crew.
use Rattle.std.specs.Prelude.{ℕ, List}

-- the numbers of the jobs that were posted, in order, and how many workers were started
pub record Crewing : Type 0 where
  pub posted : List ℕ
  pub workers : ℕ
