-- To which place of each thread the open blocks lead first.
use Rattle.std.specs.Prelude.{◌≡◌, ℕ, ◌<◌, ◌≤◌, nat_le, Bool, true, false, List, Option, Some, None, slice_get}
use Rattle.aero_model.specs.declared.numbered.Numbered.{Numbered}
use Rattle.aero_model.specs.Blocks.{depth, blocks, Transaction, Block}
use Rattle.aero_model.specs.Graph.{LeadsTo}
use Rattle.aero_engine.specs.declared.slot.Slot.TheVariants.{OfThread}
use Rattle.aero_engine.specs.Slots.{of_slot}

-- for a thread, and a thread with an open block, a place or none
abbrev pub Rows : Type 0
Rows = ℕ → ℕ → Option ℕ

-- whether there is a place, and it is p or earlier
abbrev pub is_led : Option ℕ → ℕ → Bool
is_led None p = false
is_led (Some q) p = nat_le q p

-- no place that the rows have for thread o is p or earlier
abbrev pub IsUnled : Rows → ℕ → ℕ → Type 0
IsUnled rows o p = (w : ℕ) → is_led (rows o w) p ≡ false

module _ (trace : List Numbered) (n : ℕ) where
  -- among the first n events, the one at place p is of thread o, or is its fork
  pub record IsPlaceOf (o p : ℕ) : Type 0 where
    pub below : p < n
    pub event : Numbered
    pub event_at : slice_get trace p ≡ Some event
    pub of_thread : of_slot (OfThread o) event ≡ true

  -- the least place of thread o to which the transaction leads, or none where it leads to none
  abbrev pub IsFirst : Transaction → ℕ → Option ℕ → Type 0
  IsFirst x o None = (p : ℕ) → IsPlaceOf o p → ¬ LeadsTo trace n x p
  IsFirst x o (Some p) = IsPlaceOf o p × LeadsTo trace n x p × ((q : ℕ) → IsPlaceOf o q → LeadsTo trace n x q → p ≤ q)

  -- the rows have, for each thread o and each thread t, the first place of o to which t's open block leads, and none where t is in no block
  pub record AreFirst (rows : Rows) : Type 0 where
    pub is_open : (o t : ℕ) → 0 < depth trace t n → IsFirst (Block t (blocks trace t n)) o (rows o t)
    pub outside : (o t : ℕ) → depth trace t n ≡ 0 → rows o t ≡ None
