-- The levels of reached places with one level more.
use Rattle.std.proofs.Common.{◌≡◌, ◌≢◌, ℕ, ◌+◌, ◌<◌, ◌≤◌, true, List, [], length, Option, Some, inl, inr, sym, ◌∙◌, subst, arith}
use Rattle.std.specs.Prelude.{slice_get}
use Rattle.std.proofs.lemmas.Bool.{cases_eq, cases_lt}
use Rattle.std.proofs.lemmas.Option.{slice_get_within}
use Rattle.aero_model.proofs.Elements.{none_in}
use Rattle.aero_model.specs.declared.numbered.Numbered.{Numbered}
use Rattle.aero_model.specs.Blocks.{Transaction, transaction, HasEnded}
use Rattle.aero_model.specs.Graph.{Conflict, IsVisit, IsForward, BeginsCycle}
use Rattle.aero_witness.specs.declared.reached.Reached.{Reached}
use Rattle.aero_witness.specs.Parts.{AreFirstsTo}
use Rattle.aero_witness.specs.Reached.{reached_at, is_noted, visit, IsNew, IsSwept, HasNoWayBack, IsFront, AreAtMost}
use Rattle.aero_witness.specs.Levels.{ByVisit, AreLevels}
use Rattle.aero_witness.specs.Search.{unreached}
use Rattle.aero_witness.proofs.Starting.{fewer_left}
use Rattle.aero_witness.proofs.Walked.{noted_is, noted_from, some_is, some_from, not_both, reached_within, same_first}
use Rattle.aero_witness.proofs.Walking.{none_left}

module _ (trace : List Numbered) (begin first : ℕ) (firsts : List ℕ) (firsts_are : AreFirstsTo trace (length trace) firsts) (first_at : slice_get firsts begin ≡ Some first) (d : ℕ) (old : List (Option Reached)) (levels : AreLevels trace (transaction trace begin) old d) (most : AreAtMost d old) where
  abbrev x : Transaction
  x = transaction trace begin

  begin_within : begin < length trace
  begin_within = let l = slice_get_within firsts begin first first_at in let each = firsts_are.each in omega arith

  module _ (new : List (Option Reached)) (s : IsSwept trace d old new) where
    -- a place that is newly reached
    module _ (k : ℕ) (r : Reached) (h : IsNew trace d old k r) where
      outside : transaction trace k ≢ x
      outside e = let is = h.is in let q = levels.start k is.leaves e in not_both (reached_at old k) q.0 h.none q.1

      -- a visit that leaves at its source would leave here too, had it the same transaction
      apart : transaction trace r.from ≢ transaction trace r.enters
      apart e = go (noted_is d (reached_at old r.from) h.noted)
        where
          go : (q : Reached) × (reached_at old r.from ≡ Some q) × (q.level ≡ d) → ⊥
          go (q, at, level) =
              let is = h.is in
              elim (cases_eq q.level 0) [
                | inl z ↦ outside (sym is.one ∙ sym e ∙ levels.at_start r.from q at z)
                | inr pos ↦
                    let v = levels.sound r.from q at (omega arith) in
                    let was = v.is in
                    let one : transaction trace q.enters ≡ transaction trace k = was.one ∙ e ∙ is.one in
                    let visits : IsVisit trace (length trace) (visit q.enters k) = record { enters = was.enters; leaves = is.leaves; one = one } in
                    let conflict = h.conflict in
                    let earlier = conflict.earlier in
                    let on : IsForward trace (length trace) (visit q.enters k) = elim v.forward [
                      | inr ended ↦ inr ended
                      | inl le ↦ elim h.forward [ inl le' ↦ inl (omega arith) | inr ended ↦ inr (subst (HasEnded trace (length trace)) (sym (was.one ∙ e)) ended) ]
                    ] in
                    let fewer = v.one_fewer in
                    let reached = levels.leads q.from q.enters k v.before v.before_at (omega arith) v.conflict visits on in
                    not_both (reached_at old k) reached.0 h.none reached.1
              ]

      new_visit : ByVisit trace x new k r
      new_visit =
          let q = noted_is d (reached_at old r.from) h.noted in
          let level = q.2 in
          let more = h.one_more in
          record {
            is = h.is;
            forward = h.forward;
            conflict = h.conflict;
            apart = apart;
            before = q.0;
            before_at = s.kept r.from q.0 q.1;
            one_fewer = omega arith;
            outside = outside;
          }

    old_visit : (k : ℕ) (r : Reached) → ByVisit trace x old k r → ByVisit trace x new k r
    old_visit k r v = record { is = v.is; forward = v.forward; conflict = v.conflict; apart = v.apart; before = v.before; before_at = s.kept r.from v.before v.before_at; one_fewer = v.one_fewer; outside = v.outside }

    start : (i : ℕ) → i < length trace → transaction trace i ≡ x → (r : Reached) × (reached_at new i ≡ Some r) × (r.level ≡ 0)
    start i l e = let q = levels.start i l e in (q.0, s.kept i q.0 q.1, q.2)

    at_start : (k : ℕ) (r : Reached) → reached_at new k ≡ Some r → r.level ≡ 0 → transaction trace k ≡ x
    at_start k r at z = elim (s.only k r at) [ inl before ↦ levels.at_start k r before z | inr h ↦ (let more = h.one_more in absurd (omega arith)) ]

    sound : (k : ℕ) (r : Reached) → reached_at new k ≡ Some r → 0 < r.level → ByVisit trace x new k r
    sound k r at pos = elim (s.only k r at) [ inl before ↦ old_visit k r (levels.sound k r before pos) | inr h ↦ new_visit k r h ]

    pub most_next : AreAtMost (d + 1) new
    most_next k r at = elim (s.only k r at) [ inl before ↦ (let le = most k r before in omega arith) | inr h ↦ (let more = h.one_more in omega arith) ]

    -- what isn't reached before is
    module _ (k : ℕ) (noted : is_noted new (d + 1) k ≡ true) where
      here_is : (r : Reached) × (reached_at new k ≡ Some r) × (r.level ≡ d + 1)
      here_is = noted_is (d + 1) (reached_at new k) noted

      pub fewer : unreached new < unreached old
      fewer =
          let r = here_is in
          let more = r.2 in
          let each = levels.each in
          let new_each = s.each in
          let l = reached_within new k r.0 r.1 in
          elim (s.only k r.0 r.1) [
            | inl before ↦ (let le = most k r.0 before in absurd (omega arith))
            | inr h ↦ fewer_left old new k s.each s.kept (omega arith) h.none (some_from (reached_at new k) r.0 r.1)
          ]

    leads_on : (i j k : ℕ) (r : Reached) → reached_at old i ≡ Some r → r.level ≡ d → Conflict trace i j → IsVisit trace (length trace) (visit j k) → IsForward trace (length trace) (visit j k) → (q : Reached) × (reached_at new k ≡ Some q) × (q.level ≤ r.level + 1)
    leads_on i j k r at level c is f =
        let q = some_is (reached_at new k) (s.covered j k (i, noted_from d (reached_at old i) r at level, c) is f) in
        let le = most_next k q.0 q.1 in
        (q.0, q.1, omega arith)

    module _ (no_way_back : 0 < d → HasNoWayBack trace firsts first (is_noted old d)) where
      none_returns : (i j : ℕ) (r : Reached) → reached_at old i ≡ Some r → r.level ≡ d → 0 < d → transaction trace j ≡ x → Conflict trace i j → ⊥
      none_returns i j r at level pos e c =
          let l = slice_get_within trace j c.second c.second_at in
          no_way_back pos j (same_first trace firsts firsts_are j begin l begin_within e ∙ first_at) (i, noted_from d (reached_at old i) r at level, c)

      pub next_levels : AreLevels trace x new (d + 1)
      next_levels =
          record {
            each = s.each ∙ levels.each;
            start = start;
            at_start = at_start;
            sound = sound;
            leads = λ i j k r at less c is f. elim (s.only i r at) [
              | inl before ↦ elim (cases_lt r.level d) [
                | inl l ↦ (let q = levels.leads i j k r before l c is f in (q.0, s.kept k q.0 q.1, q.2))
                | inr ge ↦ leads_on i j k r before (omega arith) c is f
              ]
              | inr h ↦ (let more = h.one_more in absurd (omega arith))
            ];
            no_return = λ i j r at pos less e c. elim (s.only i r at) [
              | inl before ↦ elim (cases_lt r.level d) [
                | inl l ↦ levels.no_return i j r before pos l e c
                | inr ge ↦ none_returns i j r before (omega arith) (omega arith) e c
              ]
              | inr h ↦ (let more = h.one_more in absurd (omega arith))
            ];
          }

      -- where nothing is newly reached, no telling cycle begins there
      pub stuck : IsFront (d + 1) new [] → BeginsCycle trace (length trace) x → ⊥
      stuck front begins =
          none_left trace x new (d + 1) next_levels
          (λ i r at. elim (s.only i r at) [
            | inl before ↦ (let le = most i r before in omega arith)
            | inr h ↦ absurd (none_in {x = i} (front.all i (noted_from (d + 1) (reached_at new i) r at h.one_more)))
          ])
          begins
