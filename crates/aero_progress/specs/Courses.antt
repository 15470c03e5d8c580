-- What is told of a run on its course.
use Rattle.std.specs.Prelude.{ℕ, ◌≡◌, ◌≤◌, ◌⊎◌, List, Option, Some, None}
use Rattle.std.specs.Io.KnownBytes.{Appends}
use Rattle.aero_progress.specs.declared.line.Surface.{Surface}
use Rattle.aero_progress.specs.declared.reached.Reached.{Reached}
use Rattle.aero_progress.specs.declared.reached.Work.{Work}
use Rattle.aero_progress.specs.Texts.{shown_text}

-- the line went out with numbers of which at most as many sources are judged as there are
pub record Tells (surface : Surface) (work : Work) (before after : Option (List ℕ)) : Type 0 where
  pub reached : Reached
  pub judged : reached.judged ≤ work.sources
  pub went : Appends before after (shown_text surface work reached)

-- It went out so of the work that was known from the start. Where none was, it did of some work, or nothing went out.
abbrev pub TellsOf : Option Work → Surface → Option (List ℕ) → Option (List ℕ) → Type 0
TellsOf (Some work) surface before after = Tells surface work before after
TellsOf None surface before after = (after ≡ before) ⊎ ((work : Work) × Tells surface work before after)
