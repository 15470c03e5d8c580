-- What a pointer owns: the memory of a trace that is fed, or nothing.
use Rattle.std.specs.Prelude.{Option, Some, None}
use base.Fml.{Fml, ftrue}
use denote.RawPtr.{Ptr}
use Rattle.std.specs.Box.Ownership.{box_owns}
use Rattle.std.specs.Global.{Global}
use Rattle.std.specs.contracts.impls.GlobalAllocator.TheImpl.{ghosts}
use Rattle.aero_feed.specs.contracts.feed.Feed.{the_row}
use Rattle.aero_feed.specs.Feeding.{Feeding}

-- the C library's heap
abbrev pub heap : Global
heap = record { memory = record { seal = tt } }

abbrev pub held_owns : Ptr → Option Feeding → Fml
held_owns p None = ftrue
held_owns p (Some feed) = box_owns (ghosts.dealloc_token heap) the_row p feed
