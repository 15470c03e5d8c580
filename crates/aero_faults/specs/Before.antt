-- The events before one, each with its line, and what they do to a lock, to a thread and to blocks.
use Rattle.std.specs.Prelude.{ℕ, ◌-◌, ◌&&◌, ◌||◌, Bool, true, false, List, bytes_eq, count_by, Option, None, Some}
use Rattle.aero_model.specs.declared.event.Op.{Op}
use Rattle.aero_model.specs.declared.event.Op.TheVariants.{Acquire, Release, Fork, Join, Begin, End}
use Rattle.aero_model.specs.Named.{Named}

abbrev pub is_acquire : Op → Bool
is_acquire Acquire = true
is_acquire _ = false

abbrev pub is_release : Op → Bool
is_release Release = true
is_release _ = false

abbrev pub is_fork : Op → Bool
is_fork Fork = true
is_fork _ = false

abbrev pub is_join : Op → Bool
is_join Join = true
is_join _ = false

abbrev pub is_begin : Op → Bool
is_begin Begin = true
is_begin _ = false

abbrev pub is_end : Op → Bool
is_end End = true
is_end _ = false

abbrev pub is_target : List ℕ → Option (List ℕ) → Bool
is_target name None = false
is_target name (Some target) = bytes_eq target name

-- whether the event acquires the lock, releases it, forks the thread, joins it
abbrev pub is_acquire_of : List ℕ → Named → Bool
is_acquire_of l e = is_acquire e.op && is_target l e.target

abbrev pub is_release_of : List ℕ → Named → Bool
is_release_of l e = is_release e.op && is_target l e.target

abbrev pub is_fork_of : List ℕ → Named → Bool
is_fork_of u e = is_fork e.op && is_target u e.target

abbrev pub is_join_of : List ℕ → Named → Bool
is_join_of u e = is_join e.op && is_target u e.target

-- whether the thread made the event
abbrev pub is_by : List ℕ → Named → Bool
is_by t e = bytes_eq e.thread t

-- how often the thread has acquired the lock, and how often it has released it
abbrev pub acquires : List (ℕ × Named) → (t l : List ℕ) → ℕ
acquires before t l = count_by (λ e. is_by t e.1 && is_acquire_of l e.1) before

abbrev pub releases : List (ℕ × Named) → (t l : List ℕ) → ℕ
releases before t l = count_by (λ e. is_by t e.1 && is_release_of l e.1) before

-- how often the thread holds the lock
abbrev pub held : List (ℕ × Named) → (t l : List ℕ) → ℕ
held before t l = acquires before t l - releases before t l

-- how many blocks of the thread have begun, and how many have ended
abbrev pub begins : List (ℕ × Named) → (t : List ℕ) → ℕ
begins before t = count_by (λ e. is_by t e.1 && is_begin e.1.op) before

abbrev pub ends : List (ℕ × Named) → (t : List ℕ) → ℕ
ends before t = count_by (λ e. is_by t e.1 && is_end e.1.op) before

-- whether with the event it is too late to fork the thread: it is its own, or it forks or joins the thread
abbrev pub is_start_of : List ℕ → Named → Bool
is_start_of u e = is_by u e || is_fork_of u e || is_join_of u e
