-- The greatest limits.
use Rattle.std.specs.Prelude.{ℕ, ◌<◌, ◌≤◌, ◌^◌}

-- each number is 1 at least, and at most the greatest of its kind
pub record AreLimits (bytes lines threads names : ℕ) : Type 0 where
  pub some_bytes : 0 < bytes
  pub most_bytes : bytes ≤ 2 ^ 30
  pub some_lines : 0 < lines
  pub most_lines : lines ≤ 2 ^ 28
  pub some_threads : 0 < threads
  pub most_threads : threads ≤ 2 ^ 16
  pub some_names : 0 < names
  pub most_names : names ≤ 2 ^ 26
