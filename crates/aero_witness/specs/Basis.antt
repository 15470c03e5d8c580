-- What a search goes by: of each place the next one of its transaction.
use Rattle.std.specs.Prelude.{◌≡◌, ◌≢◌, ℕ, ◌<◌, ◌≤◌, List, length, slice_get, slice_index_or, Some}
use Rattle.aero_model.specs.declared.numbered.Numbered.{Numbered}
use Rattle.aero_witness.specs.declared.basis.Basis.{Basis}
use Rattle.aero_witness.specs.Parts.{AreOf}

-- place k is the first after place i with the same first place, or where there is none the number of places
pub record IsNextOf (firsts : List ℕ) (i k : ℕ) : Type 0 where
  pub later : i < k
  pub within : k ≤ length firsts
  pub same : k < length firsts → slice_get firsts k ≡ slice_get firsts i
  pub none : (m : ℕ) → i < m → m < k → slice_get firsts m ≢ slice_get firsts i

-- so of each place from p on
pub record AreNext (firsts : List ℕ) (p : ℕ) (next : List ℕ) : Type 0 where
  pub each : length next ≡ length firsts
  pub at : (i : ℕ) → p ≤ i → i < length firsts → IsNextOf firsts i (slice_index_or next i 0)

-- the transactions are those of the trace, the next places theirs, and the first place that of the event at place `begin`
pub record IsBasis (trace : List Numbered) (basis : Basis) : Type 0 where
  pub of : AreOf trace basis.transactions
  pub next : AreNext basis.transactions.firsts.items 0 basis.next.items
  pub first : slice_get basis.transactions.firsts.items basis.begin ≡ Some basis.first
