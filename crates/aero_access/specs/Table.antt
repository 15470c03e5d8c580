-- What contracts see of the table.
use Rattle.std.specs.Prelude.{◌≡◌, ℕ, List, Option, Some, None, slice_get, find, is_some, [], if◌then◌else◌}
use Rattle.std.specs.List.{list_any}
use Rattle.aero_engine.specs.declared.slot.Slot.{Slot}
use Rattle.aero_engine.specs.declared.slot.Slot.TheVariants.{OfThread, LastWrite, LastRead, LastRelease}
use Rattle.aero_access.specs.declared.kept.Kept.{Kept}
use Rattle.aero_access.specs.declared.readers.Readers.{Readers}
use Rattle.aero_access.specs.declared.entries.Entries.{Entries}
use Rattle.aero_access.specs.LastClocks.{is_by, flat, same_slot}

abbrev pub readers_in : Option Readers → List Kept
readers_in None = []
readers_in (Some r) = r.kept.items

-- what is kept of a slot's last event, by its place
abbrev pub kept_in : Entries → Slot → Option Kept
kept_in entries (OfThread t) = None
kept_in entries (LastWrite x) = flat (slice_get entries.writes.items x)
kept_in entries (LastRead x t) = find (is_by t) (readers_in (slice_get entries.reads.items x))
kept_in entries (LastRelease l) = flat (slice_get entries.releases.items l)

-- this is kept of the slot now, and of the others what was
abbrev pub KeepsIn : Entries → Entries → Slot → Kept → Type 0
KeepsIn old new slot kept = (s : Slot) → kept_in new s ≡ (if same_slot s slot then Some kept else kept_in old s)

-- of all what was
abbrev pub KeepsAll : Entries → Entries → Type 0
KeepsAll old new = (s : Slot) → kept_in new s ≡ kept_in old s

-- the slots of which something is kept have labels, and no others
abbrev pub AreLabelled : (Slot → Option Kept) → List Slot → Type 0
AreLabelled kept labels = (s : Slot) → list_any (same_slot s) labels ≡ is_some (kept s)

-- what is kept of a slot has the place of the slot's label, and the slot has no other
pub record ArePlaced (kept : Slot → Option Kept) (labels : List Slot) : Type 0 where
  pub at : (s : Slot) (k : Kept) → kept s ≡ Some k → slice_get labels k.label ≡ Some s
  pub only : (s : Slot) (k : Kept) (i : ℕ) → kept s ≡ Some k → slice_get labels i ≡ Some s → i ≡ k.label
