-- What contracts see of a table as a whole.
use Rattle.std.specs.Prelude.{◌≡◌, ℕ, max, List, length, Option, Some, None, slice_get, if◌then◌else◌}
use Rattle.aero_engine.specs.declared.slot.Slot.{Slot}
use Rattle.aero_access.specs.declared.kept.Kept.{Kept}
use Rattle.aero_access.specs.declared.table.Table.{Table}
use Rattle.aero_access.specs.LastClocks.{same_slot, kept_clock, kept_thread}
use Rattle.aero_access.specs.Table.{readers_in, kept_in}

abbrev pub kept_of : Table → Slot → Option Kept
kept_of table = kept_in table.entries

-- the last reads of the variable that are kept
abbrev pub readers_of : Table → ℕ → List Kept
readers_of table x = readers_in (slice_get table.entries.reads.items x)

abbrev pub labels_of : Table → List Slot
labels_of table = table.entries.labels.items

abbrev pub label_or : ℕ → Option Kept → ℕ
label_or n None = n
label_or n (Some k) = k.label

-- the place of the slot's label, or that of the next label
abbrev pub place_of : Table → Slot → ℕ
place_of table s = label_or (length (labels_of table)) (kept_of table s)

-- the clock that is kept of the slot whose label has this place, zero where none has
abbrev pub slot_clock : Table → Option Slot → ℕ → ℕ
slot_clock table None u = 0
slot_clock table (Some s) u = kept_clock (kept_of table s) u

abbrev pub label_clock : Table → ℕ → ℕ → ℕ
label_clock table i = slot_clock table (slice_get (labels_of table) i)

-- this is kept of the slot now, and of the others what was
pub record Keeps (old new : Table) (slot : Slot) (kept : Kept) : Type 0 where
  pub at : (s : Slot) → kept_of new s ≡ (if same_slot s slot then Some kept else kept_of old s)

-- the slot's clock is joined with this one, and the others stay
pub record JoinsSlot (old new : Table) (slot : Slot) (K : ℕ → ℕ) : Type 0 where
  pub clock : (s : Slot) (u : ℕ) → kept_clock (kept_of new s) u ≡ (if same_slot s slot then max (kept_clock (kept_of old s) u) (K u) else kept_clock (kept_of old s) u)
  pub thread : (s : Slot) → kept_thread (kept_of new s) ≡ kept_thread (kept_of old s)
  pub labels : labels_of new ≡ labels_of old
