-- What is kept of a trace: the numbers of the transactions of last events, and of reads since the last write.
use Rattle.std.specs.Prelude.{◌≡◌, ◌≢◌, ◌⊎◌, ℕ, ◌<◌, ◌==◌, ◌++◌, Bool, true, false, List, [], length, Option, Some, None, slice_get, Contains}
use Rattle.std.specs.Option.{option_to_list}
use Rattle.aero_model.specs.declared.numbered.Numbered.{Numbered}
use Rattle.aero_model.specs.declared.numbered.What.{What}
use Rattle.aero_model.specs.declared.numbered.What.TheVariants.{Read, Write, Acquire, Join}
use Rattle.aero_model.specs.Blocks.{transaction}
use Rattle.aero_engine.specs.declared.slot.Slot.{Slot}
use Rattle.aero_engine.specs.declared.slot.Slot.TheVariants.{OfThread, LastWrite, LastRead, LastRelease}
use Rattle.aero_engine.specs.Slots.{last_of, last_event}
use Rattle.aero_order.specs.Near.{NoWriteBetween}
use Rattle.aero_order.specs.TransactionNumbers.{HasNumber}

-- a number is kept of the last event, if there is one
abbrev pub IsKept : List Numbered → List ℕ → Option ℕ → Option ℕ → Type 0
IsKept trace firsts None None = Unit {0}
IsKept trace firsts (Some i) (Some v) = HasNumber trace firsts (transaction trace i) v
IsKept trace firsts _ _ = ⊥

-- the numbers of the reads of the variable since its last write
pub record AreReads (trace : List Numbered) (firsts : List ℕ) (x : ℕ) (us : List ℕ) : Type 0 where
  pub all : (i : ℕ) (d : Numbered) → i < length trace → slice_get trace i ≡ Some d → d.what ≡ Read x → NoWriteBetween trace x i (length trace) → (u : ℕ) × HasNumber trace firsts (transaction trace i) u × Contains us u
  pub only : (u : ℕ) → Contains us u → (i : ℕ) × (d : Numbered) × (i < length trace) × (slice_get trace i ≡ Some d) × (d.what ≡ Read x) × NoWriteBetween trace x i (length trace) × HasNumber trace firsts (transaction trace i) u

-- the numbers with this one: those of before, and it
pub record AreReadersWith (old : List ℕ) (u : ℕ) (new : List ℕ) : Type 0 where
  pub stay : (w : ℕ) → Contains old w → Contains new w
  pub one : Contains new u
  pub only : (w : ℕ) → Contains new w → Contains old w ⊎ (w ≡ u)

-- the reads of each variable since its last write, once the transaction with the number v has done this
pub record AreReadsAfter (what : What) (v : ℕ) (old new : ℕ → List ℕ) : Type 0 where
  pub read : (x : ℕ) → what ≡ Read x → AreReadersWith (old x) v (new x)
  pub write : (x : ℕ) → what ≡ Write x → new x ≡ []
  pub other : (x : ℕ) → what ≢ Read x → what ≢ Write x → new x ≡ old x

-- whether the slot is looked back to: reads are kept in lists instead
abbrev pub is_looked_at : Slot → Bool
is_looked_at (LastRead x t) = false
is_looked_at _ = true

-- what is kept of the slots, of the reads, and of the threads' own last events
pub record Keeps (trace : List Numbered) (firsts : List ℕ) (kept : Slot → Option ℕ) (reads : ℕ → List ℕ) (own_last : ℕ → Option ℕ) : Type 0 where
  pub slots : (s : Slot) → is_looked_at s ≡ true → IsKept trace firsts (last_event trace (length trace) s) (kept s)
  pub read : (x : ℕ) → AreReads trace firsts x (reads x)
  pub owns : (u : ℕ) → IsKept trace firsts (last_of (λ f. f.thread == u) trace (length trace)) (own_last u)

-- the numbers that the event looks back to, beside those of its own thread
abbrev pub looked_at : (Slot → Option ℕ) → (ℕ → List ℕ) → (ℕ → Option ℕ) → What → List ℕ
looked_at kept reads own_last (Read x) = option_to_list (kept (LastWrite x))
looked_at kept reads own_last (Write x) = option_to_list (kept (LastWrite x)) ++ reads x
looked_at kept reads own_last (Acquire l) = option_to_list (kept (LastRelease l))
looked_at kept reads own_last (Join u) = option_to_list (own_last u)
looked_at kept reads own_last _ = []

-- all numbers that the event looks back to
abbrev pub looked_back : (Slot → Option ℕ) → (ℕ → List ℕ) → (ℕ → Option ℕ) → Numbered → List ℕ
looked_back kept reads own_last e = option_to_list (kept (OfThread e.thread)) ++ looked_at kept reads own_last e.what

-- the edges with one to v from each of these numbers but v: those of before, and these
pub record AreLinked (old : List (ℕ × ℕ)) (v : ℕ) (us : List ℕ) (new : List (ℕ × ℕ)) : Type 0 where
  pub stay : (d : ℕ × ℕ) → Contains old d → Contains new d
  pub each : (u : ℕ) → Contains us u → u ≢ v → Contains new (u, v)
  pub only : (u w : ℕ) → Contains new (u, w) → Contains old (u, w) ⊎ (Contains us u × (u ≢ v) × (w ≡ v))
