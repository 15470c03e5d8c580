-- What rows tell of a trace's events.
use Rattle.std.specs.Prelude.{◌≡◌, ◌↔◌, ℕ, ◌<◌, true, List, Option, Some, slice_get}
use Rattle.aero_model.specs.declared.numbered.Numbered.{Numbered}
use Rattle.aero_model.specs.Blocks.{Transaction, IsOpen}
use Rattle.aero_model.specs.Graph.{LeadsTo}
use Rattle.aero_model.specs.Shape.{IsWellFormed}
use Rattle.aero_leads.specs.Leads.{Rows, is_led, AreFirst}
use Rattle.aero_leads.specs.Leasts.{IsLeastOf}

-- an open block leads to an event exactly where the least place that the rows have for its thread is that of the event, or an earlier one
abbrev pub LeastTellsWhatIsLed : Type 0
LeastTellsWhatIsLed =
    (trace : List Numbered) (n : ℕ) (rows : Rows) (p : ℕ) (e : Numbered) (least : Option ℕ)
    → IsWellFormed trace
    → AreFirst trace n rows
    → p < n
    → slice_get trace p ≡ Some e
    → IsLeastOf (rows e.thread) least
    → (is_led least p ≡ true) ↔ ((x : Transaction) × IsOpen trace n x × LeadsTo trace n x p)
