-- The transactions of a trace's events, each named by its first place, and the depth of each thread.
use Rattle.std.specs.Prelude.{◌≡◌, ◌≢◌, ℕ, ◌+◌, ◌-◌, ◌<◌, ◌==◌, ◌&&◌, not, nat_lt, Bool, if◌then◌else◌, List, length, slice_get, slice_index_or, Some}
use Rattle.aero_model.specs.declared.numbered.Numbered.{Numbered}
use Rattle.aero_model.specs.declared.numbered.What.{What}
use Rattle.aero_model.specs.Blocks.{is_begin, is_end, depth, blocks, Transaction, Block, transaction}
use Rattle.aero_witness.specs.declared.transactions.Nest.{Nest}
use Rattle.aero_witness.specs.declared.transactions.TransactionTable.{TransactionTable}

abbrev pub no_nest : Nest
no_nest = record { depth = 0; first = 0 }

abbrev pub nest_at : List Nest → ℕ → Nest
nest_at nests t = slice_index_or nests t no_nest

-- with this event of its thread
abbrev pub nest_after : What → ℕ → Nest → Nest
nest_after what place nest =
    if is_begin what then
    (if nest.depth == 0 then record { depth = nest.depth + 1; first = place } else record { depth = nest.depth + 1; first = nest.first })
    else if is_end what then record { depth = nest.depth - 1; first = nest.first }
    else nest

-- the first place of the event's transaction, where its thread was so deep before it
abbrev pub first_with : ℕ → Nest → ℕ
first_with place before = if nat_lt 0 before.depth then before.first else place

-- it is the first place of the transaction
pub record IsFirst (trace : List Numbered) (x : Transaction) (f : ℕ) : Type 0 where
  pub at : transaction trace f ≡ x
  pub none : (m : ℕ) → m < f → transaction trace m ≢ x

-- each thread's depth before place n, and the first place of the block that is open
pub record AreNests (trace : List Numbered) (n : ℕ) (nests : List Nest) : Type 0 where
  pub depths : (t : ℕ) → (nest_at nests t).depth ≡ depth trace t n
  pub firsts : (t : ℕ) → 0 < depth trace t n → IsFirst trace (Block t (blocks trace t n)) (nest_at nests t).first

-- the first places of the transactions of the first n events
pub record AreFirstsTo (trace : List Numbered) (n : ℕ) (firsts : List ℕ) : Type 0 where
  pub each : length firsts ≡ n
  pub at : (i f : ℕ) → slice_get firsts i ≡ Some f → IsFirst trace (transaction trace i) f

-- whether the transaction with this first place, of this thread, has ended: it is no block that is open at the end
abbrev pub ended_test : List Nest → ℕ → ℕ → Bool
ended_test nests t f = not (nat_lt 0 (nest_at nests t).depth && ((nest_at nests t).first == f))

-- all events are known
pub record AreOf (trace : List Numbered) (all : TransactionTable) : Type 0 where
  pub firsts : AreFirstsTo trace (length trace) all.firsts.items
  pub nests : AreNests trace (length trace) all.nests.items
