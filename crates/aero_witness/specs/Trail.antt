-- Events that are recorded of a trace, with begins and ends where they are outermost alone.
use Rattle.std.specs.Prelude.{◌≡◌, ◌↔◌, ℕ, Bool, true, false, List, length, slice_get, Some}
use Rattle.aero_model.specs.declared.numbered.Numbered.{Numbered}
use Rattle.aero_model.specs.declared.numbered.What.{What}
use Rattle.aero_model.specs.declared.numbered.What.TheVariants.{Begin, End, Exempt}
use Rattle.aero_model.specs.Blocks.{is_begin, is_end, opens, closes, transaction}
use Rattle.aero_model.specs.Graph.{Visit, IsTelling}

-- whether it is no begin, no end and no exempt one of either
abbrev pub is_deed : What → Bool
is_deed (Begin label) = false
is_deed End = false
is_deed Exempt = false
is_deed _ = true

-- the event at place i as it is recorded: as it is, but that a begin or an end is one where it is outermost alone
pub record IsRecorded (trace : List Numbered) (i : ℕ) (e r : Numbered) : Type 0 where
  pub thread : r.thread ≡ e.thread
  pub deed : is_deed e.what ≡ true → r.what ≡ e.what
  pub none : is_deed e.what ≡ false → is_deed r.what ≡ false
  pub begins : is_begin r.what ≡ opens trace e.thread i
  pub ends : is_end r.what ≡ closes trace e.thread i

pub record IsTrail (trace recorded : List Numbered) : Type 0 where
  pub each : length recorded ≡ length trace
  pub at : (i : ℕ) (e r : Numbered) → slice_get trace i ≡ Some e → slice_get recorded i ≡ Some r → IsRecorded trace i e r

-- what is recorded of a trace has the transactions and the telling cycles of the trace
abbrev pub TrailHasTellingCycles : Type 0
TrailHasTellingCycles =
    (trace recorded : List Numbered) (n : ℕ) (first : Visit) (rest : List Visit)
    → IsTrail trace recorded
    → (transaction recorded first.enters ≡ transaction trace first.enters)
    × (IsTelling recorded n first rest ↔ IsTelling trace n first rest)
