-- What an event is that is admitted, and what the answer to an event tells of it.
use Rattle.std.specs.Prelude.{◌≡◌, ℕ, ◌==◌, nat_lt, true, if◌then◌else◌, List, length, Some, None, Result, Ok, Err}
use Rattle.aero_model.specs.declared.numbered.Numbered.{Numbered}
use Rattle.aero_model.specs.declared.numbered.What.{What}
use Rattle.aero_model.specs.declared.numbered.What.TheVariants.{Join, Begin, End}
use Rattle.aero_model.specs.declared.verdict.ShapeFault.{ShapeFault}
use Rattle.aero_model.specs.declared.verdict.ShapeFault.TheVariants.{Memory}
use Rattle.aero_model.specs.Blocks.{depth}
use Rattle.aero_model.specs.Exempt.{Marked, read_events, judged, judged_trace}
use Rattle.aero_model.specs.Shape.{has_acted, shape_fault}
use Rattle.aero_shape.specs.declared.admission.Admitted.{Admitted}
use Rattle.aero_shape.specs.declared.admission.Admitted.TheVariants.{Plain, OuterBegin, OuterEnd, IdleJoin}

-- what a thread does that has `deep` open blocks
abbrev pub deed_as : List Numbered → ℕ → What → Admitted
deed_as before deep (Begin label) = if deep == 0 then OuterBegin else Plain true
deed_as before deep End = if deep == 1 then OuterEnd else Plain (nat_lt 0 deep)
deed_as before deep (Join u) = if has_acted before u then Plain (nat_lt 0 deep) else IdleJoin
deed_as before deep _ = Plain (nat_lt 0 deep)

-- what the event is after those before it, if it is well-formed
abbrev pub admitted_as : List Numbered → Numbered → Admitted
admitted_as before e = deed_as before (depth before e.thread (length before)) e.what

-- The answer to an event, after those before it: a fault as it was read, and what it is as it is judged. Where memory is refused, it is well-formed.
abbrev pub TellsEvent : List Marked → Marked → Result Admitted ShapeFault → Type 0
TellsEvent before m (Ok admitted) = (shape_fault (read_events before) m.event ≡ None) × (admitted ≡ admitted_as (judged_trace before) (judged before m))
TellsEvent before m (Err Memory) = shape_fault (read_events before) m.event ≡ None
TellsEvent before m (Err fault) = shape_fault (read_events before) m.event ≡ Some fault
