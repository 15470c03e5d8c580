-- Whether two events conflict, as a test.
use Rattle.std.specs.Prelude.{◌==◌, ◌||◌, Bool, false}
use Rattle.aero_model.specs.declared.numbered.Numbered.{Numbered}
use Rattle.aero_model.specs.declared.numbered.What.{What}
use Rattle.aero_model.specs.declared.numbered.What.TheVariants.{Read, Write, Acquire, Release}
use Rattle.aero_model.specs.Shape.{is_fork_of, is_join_of}

-- whether the two access one variable and one writes it, or the first releases a lock that the second acquires
abbrev pub deeds_conflict : What → What → Bool
deeds_conflict (Write x) (Read y) = x == y
deeds_conflict (Read x) (Write y) = x == y
deeds_conflict (Write x) (Write y) = x == y
deeds_conflict (Release l) (Acquire m) = l == m
deeds_conflict _ _ = false

abbrev pub conflicting : Numbered → Numbered → Bool
conflicting a b = ((a.thread == b.thread) || deeds_conflict a.what b.what) || (is_fork_of b.thread a.what || is_join_of a.thread b.what)
