-- What comes of the conflicts of noted events, one after another.
use Rattle.std.proofs.Common.{◌≡◌, ℕ, ◌+◌, ◌<◌, true, List, [], ◌∷◌, ◌++◌, length, Option, Some, None, inl, inr, refl, sym, ◌∙◌, ap, subst, arith}
use Rattle.std.specs.Prelude.{IsSome}
use Rattle.std.proofs.lemmas.List.Elements.{Contains-push_cases}
use Rattle.std.proofs.lemmas.Option.{slice_get_within}
use Rattle.aero_model.proofs.Elements.{none_in}
use Rattle.aero_model.specs.declared.numbered.Numbered.{Numbered}
use Rattle.aero_model.specs.Blocks.{HasEnded}
use Rattle.aero_model.specs.Graph.{Conflict, IsVisit, IsForward}
use Rattle.aero_witness.specs.declared.buckets.Arrival.{Arrival}
use Rattle.aero_witness.specs.declared.reached.Reached.{Reached}
use Rattle.aero_witness.specs.Reached.{reached_at, is_noted, visit, IsClosed, IsEntered, IsNew, IsArrival, AreEntered}
use Rattle.aero_witness.proofs.Walked.{some_is, some_from, some_or_none, not_both}

-- a place to which a walk may go on where it may leave at one to which it may
pub forward_on : (trace : List Numbered) (i j k : ℕ) → IsVisit trace (length trace) (visit i j) → IsForward trace (length trace) (visit i j) → IsVisit trace (length trace) (visit j k) → IsForward trace (length trace) (visit j k) → IsVisit trace (length trace) (visit i k) × IsForward trace (length trace) (visit i k)
forward_on trace i j k v f w g =
    let on : IsForward trace (length trace) (visit i k) = elim f [
      | inr ended ↦ inr ended
      | inl le ↦ elim g [ inl le' ↦ inl (omega arith) | inr ended ↦ inr (subst (HasEnded trace (length trace)) (sym v.one) ended) ]
    ] in
    (record { enters = v.enters; leaves = w.leaves; one = v.one ∙ w.one }, on)

module _ (trace : List Numbered) (level : ℕ) (old : List (Option Reached)) where
  pub none_entered : IsClosed trace old → AreEntered trace level old [] old
  none_entered closed = record { each = refl; kept = λ k r h. h; only = λ k r h. inl h; entered = λ c h. absurd (none_in {x = c} h); closed = closed }

  module _ (arrivals : List Arrival) (arrival : Arrival) (how : Reached) (cur new : List (Option Reached)) (how_is : how ≡ record { level = level + 1; enters = arrival.enters; from = arrival.from }) (is_arrival : IsArrival trace level old arrival) (s : AreEntered trace level old arrivals cur) (e : IsEntered trace how cur new) where
    stays : (k : ℕ) → IsSome (reached_at cur k) → IsSome (reached_at new k)
    stays k h = let r = some_is (reached_at cur k) h in some_from (reached_at new k) r.0 (e.kept k r.0 r.1)

    enters_is : how.enters ≡ arrival.enters
    enters_is = ap (λ (r : Reached). r.enters) how_is

    from_is : how.from ≡ arrival.from
    from_is = ap (λ (r : Reached). r.from) how_is

    was_none : (k : ℕ) → reached_at cur k ≡ None → reached_at old k ≡ None
    was_none k none = elim (some_or_none (reached_at old k)) [
      | inl is ↦ is
      | inr some ↦ (let r = some_is (reached_at old k) some in absurd (not_both (reached_at cur k) r.0 none (s.kept k r.0 r.1)))
    ]

    -- a place that is reached so
    is_new : (k : ℕ) → reached_at old k ≡ None → IsVisit trace (length trace) (visit how.enters k) → IsForward trace (length trace) (visit how.enters k) → IsNew trace level old k how
    is_new k none v f =
        record {
          none = none;
          one_more = ap (λ (r : Reached). r.level) how_is;
          noted = subst (λ i. is_noted old level i ≡ true) (sym from_is) is_arrival.0;
          conflict = subst (λ i. Conflict trace i how.enters) (sym from_is) (subst (Conflict trace arrival.from) (sym enters_is) is_arrival.1);
          is = v;
          forward = f;
        }

    within : arrival.enters < length trace
    within = let c = is_arrival.1 in slice_get_within trace arrival.enters c.second c.second_at

    here_is : IsSome (reached_at new arrival.enters)
    here_is = subst (λ i. IsSome (reached_at new i)) enters_is (e.all how.enters (record { enters = subst (λ i. i < length trace) (sym enters_is) within; leaves = subst (λ i. i < length trace) (sym enters_is) within; one = refl }) (inl (omega arith)))

    closed : IsClosed trace new
    closed j k v f some = go (some_is (reached_at new j) some)
      where
        go : (r : Reached) × (reached_at new j ≡ Some r) → IsSome (reached_at new k)
        go (r, at) = elim (e.only j r at) [
          | inl was ↦ stays k (s.closed j k v f (some_from (reached_at cur j) r was))
          | inr h ↦ (let on = forward_on trace how.enters j k h.2 h.3 v f in e.all k on.0 on.1)
        ]

    pub one_entered : AreEntered trace level old (arrivals ++ arrival ∷ []) new
    one_entered =
        record {
          each = e.each ∙ s.each;
          kept = λ k r h. e.kept k r (s.kept k r h);
          only = λ k r h. elim (e.only k r h) [
            | inl was ↦ s.only k r was
            | inr n ↦ inr (subst (IsNew trace level old k) (sym n.1) (is_new k (was_none k n.0) n.2 n.3))
          ];
          entered = λ c h. elim (Contains-push_cases arrivals arrival c h) [
            | inl was ↦ stays c.enters (s.entered c was)
            | inr same ↦ subst (λ (d : Arrival). IsSome (reached_at new d.enters)) same here_is
          ];
          closed = closed;
        }
