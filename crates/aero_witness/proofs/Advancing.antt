-- A round of a search: what the front leads to is reached and taken.
use Rattle.std.proofs.Common.{◌≡◌, ℕ, ◌+◌, ◌<◌, ◌≤◌, List, [], ◌∷◌, length, get_or, Option, Some, None, inl, inr, refl, sym, ◌∙◌, subst, arith}
use Rattle.std.specs.Prelude.{IsSome, Contains, slice_get}
use Rattle.std.specs.List.{All}
use Rattle.std.proofs.lemmas.List.Elements.{Contains-get_or}
use Rattle.std.proofs.lemmas.Option.{slice_get_within}
use Rattle.aero_model.proofs.Elements.{none_in, here}
use Rattle.aero_model.specs.declared.numbered.Numbered.{Numbered}
use Rattle.aero_model.specs.Blocks.{transaction}
use Rattle.aero_model.specs.Graph.{BeginsCycle}
use Rattle.aero_witness.specs.declared.kinds.Kind.{Kind}
use Rattle.aero_witness.specs.declared.buckets.Arrival.{Arrival}
use Rattle.aero_witness.specs.declared.left.Left.{Left}
use Rattle.aero_witness.specs.declared.basis.Basis.{Basis}
use Rattle.aero_witness.specs.declared.reached.Reached.{Reached}
use Rattle.aero_witness.specs.declared.rounds.Search.{Search}
use Rattle.aero_witness.specs.Kinds.{sources, targets, outside}
use Rattle.aero_witness.specs.Buckets.{head_at, head_of, IsLast, IsOriginOf, AreOrigins}
use Rattle.aero_witness.specs.Left.{bucket_of, AreGathered}
use Rattle.aero_witness.specs.Levels.{AreLevels}
use Rattle.aero_witness.specs.Basis.{IsBasis}
use Rattle.aero_witness.specs.Reached.{reached_at, is_noted, HasSource, IsFront, IsArrival, AreEntered, IsSwept, HasNoWayBack, IsWayBack, AreAtMost}
use Rattle.aero_witness.specs.Search.{IsLeft, IsAt, IsAdvanced, IsEnd, IsRound}
use Rattle.aero_witness.proofs.Filling.{origin_or_outside}
use Rattle.aero_witness.proofs.Kinded.{kind_between}
use Rattle.aero_witness.proofs.Round.{fewer, most_next, next_levels, stuck}
use Rattle.aero_witness.proofs.Walked.{noted_is, some_is, some_from, reached_within, same_transaction}

module _ (trace : List Numbered) (level : ℕ) (reached : List (Option Reached)) (front : List ℕ) (f : IsFront level reached front) where
  pub front_within : length reached ≡ length trace → All (λ i. i < length trace) front
  front_within each = λ k d l. (let i = get_or front k d in let r = noted_is level (reached_at reached i) (f.noted i (Contains-get_or front k d l)) in let m = reached_within reached i r.0 r.1 in omega arith)

  -- no head of the places at the origin is behind a place of the front
  pub no_way_back_by : (firsts : List ℕ) (first : ℕ) (left : Left) → ((k : Kind) → AreOrigins trace firsts first k (bucket_of left k)) → ((i : ℕ) (k : Kind) → Contains front i → head_of (bucket_of left k).origins.items (sources trace k i) ≤ i + 1) → HasNoWayBack trace firsts first (is_noted reached level)
  no_way_back_by firsts first left origins low j at (i, n, c) =
      let h = kind_between trace i j c in
      let k = h.0 in
      let m = h.1 in
      let earlier = c.earlier in
      let le : head_at (bucket_of left k).origins.items m ≤ i + 1 = subst (λ o. head_of (bucket_of left k).origins.items o ≤ i + 1) h.2 (low i k (f.all i n)) in
      let last : IsLast (IsOriginOf (targets trace k) firsts first m) (length trace) (head_at (bucket_of left k).origins.items m) = origins k m in
      last.none j (omega arith) (slice_get_within trace j c.second c.second_at) (at, h.3)

  module _ (outer : Kind → ℕ → Option ℕ) (old new : Left) (arrivals : List Arrival) (g : AreGathered trace outer front old new [] arrivals) where
    pub all_arrivals : All (IsArrival trace level reached) arrivals
    all_arrivals = λ k d l. (let c = get_or arrivals k d in elim (g.only c (Contains-get_or arrivals k d l)) [
      | inl none ↦ absurd (none_in {x = c} none)
      | inr h ↦ (f.noted c.from h.0, h.1)
    ])

  module _ (firsts : List ℕ) (first : ℕ) (old new : Left) (arrivals : List Arrival) (g : AreGathered trace (outside trace firsts first) front old new [] arrivals) (at_origin : (j : ℕ) → slice_get firsts j ≡ Some first → IsSome (reached_at reached j)) (left : IsLeft trace firsts first reached old) (reached' : List (Option Reached)) (e : AreEntered trace level reached arrivals reached') where
    stays : (j : ℕ) → IsSome (reached_at reached j) → IsSome (reached_at reached' j)
    stays j some = let r = some_is (reached_at reached j) some in some_from (reached_at reached' j) r.0 (e.kept j r.0 r.1)

    taken : (k : Kind) (m j : ℕ) → head_at (bucket_of new k).heads.items m ≤ j → outside trace firsts first k j ≡ Some m → IsSome (reached_at reached' j)
    taken k m j le at = elim (g.all k m j le at) [
      | inl past ↦ stays j (left.taken k m j past at)
      | inr (c, h, is) ↦ subst (λ i. IsSome (reached_at reached' i)) is (e.entered c h)
    ]

    source_reached : (j : ℕ) → HasSource trace (is_noted reached level) j → IsSome (reached_at reached' j)
    source_reached j (i, n, c) =
        let h = kind_between trace i j c in
        let low = g.low h.0 i h.1 (f.all i n) h.2 in
        let earlier = c.earlier in
        elim (origin_or_outside trace firsts first h.0 h.1 j h.3) [
          | inl origin ↦ stays j (at_origin j origin)
          | inr out ↦ taken h.0 h.1 j (omega arith) out
        ]

    pub swept : IsSwept trace level reached reached'
    swept = record { each = e.each; kept = e.kept; only = e.only; covered = λ j k h v w. e.closed j k v w (source_reached j h); closed = e.closed }

    pub still_left : IsLeft trace firsts first reached' new
    still_left =
        record {
          buckets = g.buckets;
          origins = λ k m. subst (λ (xs : List ℕ). IsLast (IsOriginOf (targets trace k) firsts first m) (length trace) (head_at xs m)) (sym {A = List ℕ} (g.origins k)) (left.origins k m);
          taken = taken;
        }

-- in another order
pub sorted_front : (level : ℕ) (reached : List (Option Reached)) (xs ys : List ℕ) → ((i : ℕ) → Contains xs i → Contains ys i) → ((i : ℕ) → Contains ys i → Contains xs i) → IsFront level reached xs → IsFront level reached ys
sorted_front level reached xs ys to from f = record { noted = λ k h. f.noted k (from k h); all = λ k e. to k (f.all k e) }

some_in : (front : List ℕ) → (front ≡ [] → ⊥) → (k : ℕ) × Contains front k
some_in [] ne = absurd (ne refl)
some_in (k ∷ ks) ne = (k, here ks)

module _ (trace : List Numbered) (basis : Basis) (is : IsBasis trace basis) (old : Search) (at : IsAt trace basis old) (no_way_back : 0 < old.level → HasNoWayBack trace basis.transactions.firsts.items basis.first (is_noted old.walks.reached.items old.level)) (new : Search) (h : IsAdvanced trace basis old new) where
  abbrev firsts : List ℕ
  firsts = basis.transactions.firsts.items

  front_is : IsFront (old.level + 1) new.walks.reached.items new.walks.front.items
  front_is = subst (λ n. IsFront n new.walks.reached.items new.walks.front.items) h.level h.front

  pub no_end : new.walks.front.items ≡ [] → BeginsCycle trace (length trace) (transaction trace basis.begin) → ⊥
  no_end empty = stuck trace basis.begin basis.first firsts is.of.firsts is.first old.level old.walks.reached.items at.levels at.most new.walks.reached.items h.swept no_way_back (subst (IsFront (old.level + 1) new.walks.reached.items) empty front_is)

  pub further : (new.walks.front.items ≡ [] → ⊥) → IsRound trace basis old new None
  further ne =
      let k = some_in new.walks.front.items ne in
      let less = fewer trace basis.begin basis.first firsts is.of.firsts is.first old.level old.walks.reached.items at.levels at.most new.walks.reached.items h.swept k.0 (front_is.noted k.0 k.1) in
      let level = h.level in
      let room = at.room in
      let next : IsAt trace basis new =
      record {
        levels = subst (AreLevels trace (transaction trace basis.begin) new.walks.reached.items) (sym level) (next_levels trace basis.begin basis.first firsts is.of.firsts is.first old.level old.walks.reached.items at.levels at.most new.walks.reached.items h.swept no_way_back);
        closed = h.swept.closed;
        most = subst (λ n. AreAtMost n new.walks.reached.items) (sym level) (most_next trace basis.begin basis.first firsts is.of.firsts is.first old.level old.walks.reached.items at.levels at.most new.walks.reached.items h.swept);
        front = h.front;
        left = h.left;
        room = omega arith;
      }
      in
      (next, less)

module _ (trace : List Numbered) (basis : Basis) (is : IsBasis trace basis) (search : Search) (at : IsAt trace basis search) where
  pub origin_reached : (j : ℕ) → slice_get basis.transactions.firsts.items j ≡ Some basis.first → IsSome (reached_at search.walks.reached.items j)
  origin_reached j of =
      let firsts = basis.transactions.firsts.items in
      let begin_l = slice_get_within firsts basis.begin basis.first is.first in
      let l = slice_get_within firsts j basis.first of in
      let each = is.of.firsts.each in
      let r = at.levels.start j (omega arith) (same_transaction trace firsts is.of.firsts j basis.begin (omega arith) (omega arith) (of ∙ sym is.first)) in
      some_from (reached_at search.walks.reached.items j) r.0 r.1

  pub way_back_end : (arrival : Arrival) → 0 < search.level → IsWayBack trace basis.transactions.firsts.items basis.first (is_noted search.walks.reached.items search.level) arrival → IsEnd trace basis search arrival
  way_back_end arrival pos (of, out, closes) =
      let begin_l = slice_get_within basis.transactions.firsts.items basis.begin basis.first is.first in
      let each = is.of.firsts.each in
      record {
        levels = at.levels;
        some = pos;
        out = out;
        back = same_transaction trace basis.transactions.firsts.items is.of.firsts arrival.enters basis.begin (slice_get_within trace arrival.enters closes.second closes.second_at) (omega arith) (of ∙ sym is.first);
        closes = closes;
      }
