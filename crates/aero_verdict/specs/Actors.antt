-- The event on a line, and who made it.
use Rattle.std.specs.Prelude.{ℕ, ◌==◌, Bool, List, Option, option_map, find}
use Rattle.aero_model.specs.Named.{Named}

abbrev pub is_on : ℕ → ℕ × Named → Bool
is_on line e = e.0 == line

-- the actor of the event on the line, if there is one
abbrev pub actor_on : ℕ → List (ℕ × Named) → Option (List ℕ)
actor_on line events = option_map (λ e. e.1.thread) (find (is_on line) events)

-- the event on the line by its names, if there is one
abbrev pub named_on : ℕ → List (ℕ × Named) → Option Named
named_on line events = option_map (λ e. e.1) (find (is_on line) events)
