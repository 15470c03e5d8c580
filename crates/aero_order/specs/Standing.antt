-- For which trace the numbers of its transactions stand, and of which events the first ones are kept.
use Rattle.std.specs.Prelude.{◌≡◌, ℕ, List, length}
use Rattle.aero_model.specs.declared.numbered.Numbered.{Numbered}
use Rattle.aero_order.specs.declared.transactions.Transactions.{Transactions}
use Rattle.aero_order.specs.Came.{Came, places_in, AreOf}
use Rattle.aero_order.specs.LastNumbers.{Keeps}
use Rattle.aero_order.specs.MarkWords.{kept_of, reads_of, own_of}
use Rattle.aero_order.specs.TransactionNumbers.{AreFirsts, AreEdges}

-- the events are those of the trace: its transactions' numbers, the edges between them, and what is kept
pub record StandsFor (s : Transactions) (trace : List Numbered) : Type 0 where
  pub events : s.events ≡ length trace
  pub firsts : AreFirsts trace (places_in s.firsts.items)
  pub edges : AreEdges trace (places_in s.firsts.items) s.edges.items
  pub keeps : Keeps trace (places_in s.firsts.items) (kept_of s.marks) (reads_of s.marks) (own_of s.marks)

-- these events came, and of each first one the line and the thread are kept
pub record KeepsCame (s : Transactions) (came : List Came) : Type 0 where
  pub events : s.events ≡ length came
  pub firsts : AreOf came s.firsts.items

abbrev pub events_of : Transactions → ℕ
events_of s = s.events
