-- A call that was interrupted so far, each time.
use Rattle.std.proofs.Common.{◌≡◌, ◌+◌, ℕ}
use Rattle.aero_program.specs.declared.retrying.Retrying.{Retrying}
use Rattle.aero_program.specs.Calls.{failed_by}
use Rattle.aero_program.specs.Retries.{done_of, idle_of, flushed_of, interrupted_of, given_up_of}

pub record WasInterrupted {T : Type 0} (before after : Retrying T) (times : ℕ) : Type 0 where
  pub done : done_of after ≡ done_of before
  pub idle : idle_of after ≡ idle_of before
  pub flushed : flushed_of after ≡ flushed_of before
  pub failed : failed_by after.inner ≡ failed_by before.inner
  pub given_up : given_up_of after ≡ given_up_of before
  pub interrupted : interrupted_of after ≡ interrupted_of before + times
