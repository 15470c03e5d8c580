-- What a plan may say.
use Rattle.std.specs.Prelude.{ℕ, ◌<◌, ◌≤◌, ◌^◌}

-- 1 to 16 workers, and pieces of 1 to 1,048,576 bytes
pub record IsPlan (workers piece : ℕ) : Type 0 where
  pub some_workers : 0 < workers
  pub most_workers : workers ≤ 16
  pub some_piece : 0 < piece
  pub most_piece : piece ≤ 2 ^ 20
