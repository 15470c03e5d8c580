-- What contracts see of a watched stream: the stream, and what its calls have answered, in numbers.
use Rattle.std.specs.Prelude.{◌≡◌, ◌+◌, ℕ}
use Rattle.aero_program.specs.declared.watched.Failings.{Failings}
use Rattle.aero_program.specs.declared.watched.Watched.{Watched}

abbrev pub stream_of : {T : Type 0} → Watched T → T
stream_of w = w.inner

-- how many reads and writes were done
abbrev pub done_by : {T : Type 0} → Watched T → ℕ
done_by w = w.done.number

-- how many of these moved no byte, though there was one to move
abbrev pub idle_by : {T : Type 0} → Watched T → ℕ
idle_by w = w.idle.number

-- how many flushes were done
abbrev pub flushed_by : {T : Type 0} → Watched T → ℕ
flushed_by w = w.flushed.number

abbrev pub failings_of : {T : Type 0} → Watched T → Failings
failings_of w = w.failings

-- how many calls were interrupted
abbrev pub interrupted_by : {T : Type 0} → Watched T → ℕ
interrupted_by w = w.failings.interrupted.number

-- how many calls failed otherwise
abbrev pub failed_by : {T : Type 0} → Watched T → ℕ
failed_by w = w.failings.failed.number

-- one call more was interrupted
pub record OneInterrupted (before after : Failings) : Type 0 where
  pub interrupted : after.interrupted.number ≡ before.interrupted.number + 1
  pub failed : after.failed.number ≡ before.failed.number

-- one call more failed otherwise
pub record OneFailed (before after : Failings) : Type 0 where
  pub interrupted : after.interrupted.number ≡ before.interrupted.number
  pub failed : after.failed.number ≡ before.failed.number + 1
