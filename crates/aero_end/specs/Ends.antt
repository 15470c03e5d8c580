-- What the end of a block does to the clocks.
use Rattle.std.specs.Prelude.{◌≡◌, ◌≢◌, ◌⊎◌, ◌<◌, ℕ, max, true, false, None, Some, List, slice_get}
use Rattle.aero_engine.specs.declared.slot.Slot.{Slot}
use Rattle.aero_engine.specs.declared.slot.Slot.TheVariants.{OfThread}
use Rattle.aero_access.specs.declared.clocks.Clocks.{Clocks}
use Rattle.aero_access.specs.Standing.{state_of, clock_of, begin_clock_of, closed_by, is_spent, slots_of, slot_at, IsBehind, ClosesBack, HaveSameSlots, led_of}

-- the block of thread t that ends leads to another thread u, whose open block t's clock closes
pub record ClosesAtEnd (c : Clocks) (t u : ℕ) : Type 0 where
  pub other : u ≢ t
  pub given : IsBehind c t (clock_of c (OfThread u))
  pub taken : ClosesBack c t (OfThread u) u

-- thread u is the least whose block closes, and it is told
pub record IsFirst (old new : Clocks) (t u : ℕ) : Type 0 where
  pub closes : ClosesAtEnd old t u
  pub first : (v : ℕ) → v < u → ¬ ClosesAtEnd old t v
  pub was_unspent : is_spent old ≡ false
  pub unspent : is_spent new ≡ false
  pub closed : closed_by new ≡ Some u

-- memory was refused
pub record IsRefused (old new : Clocks) : Type 0 where
  pub spent : is_spent new ≡ true
  pub closed : closed_by new ≡ closed_by old

-- the clock of slot s is what it was
abbrev pub Stays : Clocks → Clocks → Slot → Type 0
Stays old new s = (u : ℕ) → clock_of new s u ≡ clock_of old s u

-- or has taken the clock of thread t
abbrev pub Joins : Clocks → Clocks → ℕ → Slot → Type 0
Joins old new t s = (u : ℕ) → clock_of new s u ≡ max (clock_of old s u) (clock_of old (OfThread t) u)

-- the slots with numbers below k whose clocks are at least the begin clock of thread t have taken t's clock, and no thread among them closes
pub record Spreads (old new : Clocks) (t k : ℕ) : Type 0 where
  pub none : (u : ℕ) → u < k → ¬ ClosesAtEnd old t u
  pub joined : (n : ℕ) → n < k → IsBehind old t (clock_of old (slot_at old n)) → Joins old new t (slot_at old n)
  pub clock : (s : Slot) → Stays old new s ⊎ (IsBehind old t (clock_of old s) × Joins old new t s)
  pub actor : (s : Slot) → (state_of new).actor s ≡ (state_of old).actor s
  pub begin_clock : (u v : ℕ) → begin_clock_of new u v ≡ begin_clock_of old u v
  pub slots : HaveSameSlots old new
  pub spent : is_spent new ≡ is_spent old
  pub closed : closed_by new ≡ None

-- the same of the first k slots of a list of numbers, which is listed for thread t still
pub record SpreadsAlong (old new : Clocks) (t : ℕ) (ns : List ℕ) (k : ℕ) : Type 0 where
  pub none : (i u : ℕ) → i < k → slice_get ns i ≡ Some u → ¬ ClosesAtEnd old t u
  pub joined : (i n : ℕ) → i < k → slice_get ns i ≡ Some n → Joins old new t (slot_at old n)
  pub clock : (s : Slot) → Stays old new s ⊎ (IsBehind old t (clock_of old s) × Joins old new t s)
  pub actor : (s : Slot) → (state_of new).actor s ≡ (state_of old).actor s
  pub begin_clock : (u v : ℕ) → begin_clock_of new u v ≡ begin_clock_of old u v
  pub slots : HaveSameSlots old new
  pub spent : is_spent new ≡ is_spent old
  pub closed : closed_by new ≡ None
  pub led : led_of new t ≡ ns

-- all slots are done, if memory wasn't refused
pub record SpreadsToAll (old new : Clocks) (t : ℕ) : Type 0 where
  pub spent : is_spent new ≡ is_spent old
  pub closed : closed_by new ≡ None
  pub spreads : is_spent old ≡ false → Spreads old new t (slots_of old)
