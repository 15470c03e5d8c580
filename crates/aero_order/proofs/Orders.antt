-- What the length of the order says.
use Rattle.std.proofs.Common.{◌≡◌, ℕ, ◌<◌, ◌≤◌, List, length, get_or, Some, inl, inr, arith}
use Rattle.std.specs.Prelude.{All, slice_get}
use Rattle.std.proofs.lemmas.List.Elements.{Contains-get_or}
use Rattle.std.proofs.lemmas.Bool.{cases_order}
use Rattle.std.proofs.lemmas.Option.{slice_get_within}
use Rattle.aero_model.specs.declared.numbered.Numbered.{Numbered}
use Rattle.aero_model.specs.Cycle.{IsSerializable}
use Rattle.aero_model.specs.Serial.{IsSerialOrder}
use Rattle.aero_model.specs.Shape.{IsWellFormed}
use Rattle.aero_model.proofs.Completeness.{complete_where_serializable}
use Rattle.aero_model.proofs.Distinct.{few}
use Rattle.aero_model.proofs.SerialOrders.{sound_order, no_cycle}
use Rattle.aero_order.specs.TransactionNumbers.{AreFirsts, AreEdges}
use Rattle.aero_order.specs.Order.{IsOrder}
use Rattle.aero_order.specs.Waiting.{Pair}
use Rattle.aero_order.proofs.ByNumbers.{places_of, serial_from_order}
use Rattle.aero_order.proofs.Lengths.{follows_order, complete_by_length, length_by_complete}

-- edges lead between numbers
pub edges_within : (trace : List Numbered) (firsts : List ℕ) (edges : List Pair) → AreEdges trace firsts edges → All (λ e. (e.0 < length firsts) × (e.1 < length firsts)) edges
edges_within trace firsts edges leads k d l =
    let e = get_or edges k d in
    let r = leads.sound e.0 e.1 (Contains-get_or edges k d l) in
    let u = r.2 in
    let v = r.3 in
    (slice_get_within firsts e.0 u.0 u.1, slice_get_within firsts e.1 v.0 v.1)

-- no more first places than events
pub firsts_few : (trace : List Numbered) (firsts : List ℕ) → AreFirsts trace firsts → length firsts ≤ length trace
firsts_few trace firsts are = few (length trace) firsts once (λ v n at. (are.places v n at).within)
  where
    once : (u v n : ℕ) → slice_get firsts u ≡ Some n → slice_get firsts v ≡ Some n → u ≡ v
    once u v n a b = elim (cases_order u v) [
      | inl q ↦ q
      | inr (inl l) ↦ absurd (omega (arith, are.rising u v n n l a b))
      | inr (inr l) ↦ absurd (omega (arith, are.rising v u n n l b a))
    ]

module _ (trace : List Numbered) (ok : IsWellFormed trace) (firsts : List ℕ) (are : AreFirsts trace firsts) (edges : List Pair) (leads : AreEdges trace firsts edges) (order : List ℕ) (g : IsOrder (length firsts) edges order) where
  abbrev places : List ℕ
  places = places_of trace ok firsts are edges leads order

  pub in_serial_order : IsSerialOrder trace places
  in_serial_order = serial_from_order trace ok firsts are edges leads order g

  pub no_cycle_where_long : length firsts ≤ length order → IsSerializable trace (length trace)
  no_cycle_where_long long =
      let f = follows_order (length firsts) edges order g in
      let all : length order ≡ length firsts = omega (arith, few (length firsts) order f.once f.below) in
      no_cycle trace places (sound_order trace places in_serial_order) (complete_by_length trace ok firsts are edges leads order g all)

  pub long_where_no_cycle : IsSerializable trace (length trace) → length order ≡ length firsts
  long_where_no_cycle none = length_by_complete trace ok firsts are edges leads order g (complete_where_serializable trace places in_serial_order none)
