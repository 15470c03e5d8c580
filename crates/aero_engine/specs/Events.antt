-- An event, by which thread one is, and which one no clock rule speaks of.
use Rattle.std.specs.Prelude.{◌≡◌, ℕ, ◌<◌, false, List, length, Option, Some, None, slice_get}
use Rattle.aero_model.specs.declared.numbered.Numbered.{Numbered}
use Rattle.aero_model.specs.declared.numbered.What.{What}
use Rattle.aero_model.specs.declared.numbered.What.TheVariants.{Begin, End, Exempt, Join}
use Rattle.aero_model.specs.Blocks.{depth}
use Rattle.aero_model.specs.Shape.{has_acted}

-- an event of thread t
abbrev pub event : ℕ → What → Numbered
event t what = record { thread = t; what = what }

abbrev pub thread_of : Option Numbered → Option ℕ
thread_of None = None
thread_of (Some e) = Some e.thread

-- by which thread the event at a place is
abbrev pub actor_at : List Numbered → Option ℕ → Option ℕ
actor_at trace None = None
actor_at trace (Some place) = thread_of (slice_get trace place)

-- an event of thread t that no clock rule speaks of: an exempt begin or end, a begin or an end within a block, or a join of a thread that has made no event
pub data IsIdle (h : List Numbered) (t : ℕ) : What → Type 0 where
  exempt : IsIdle h t Exempt
  inner_begin : 0 < depth h t (length h) → IsIdle h t (Begin None)
  inner_end : 1 < depth h t (length h) → IsIdle h t End
  idle_join : (u : ℕ) → has_acted h u ≡ false → IsIdle h t (Join u)
