-- Walks by levels: how far they lead, and the one that is taken back.
use Rattle.std.proofs.Common.{◌≡◌, ◌≢◌, ℕ, suc, ◌+◌, ◌<◌, ◌≤◌, List, [], ◌∷◌, length, Option, Some, inl, inr, refl, sym, ◌∙◌, ap, subst, arith}
use Rattle.std.proofs.lemmas.Bool.{cases_eq, cases_lt}
use Rattle.std.proofs.lemmas.Option.{slice_get_within}
use Rattle.aero_model.specs.declared.numbered.Numbered.{Numbered}
use Rattle.aero_model.specs.Blocks.{Transaction, transaction}
use Rattle.aero_model.specs.Graph as graph
use Rattle.aero_model.specs.Graph.{Conflict, IsVisit, IsForward, GoesOn, IsTelling, BeginsCycle, last_visit}
use Rattle.aero_model.proofs.Walks.{last_is}
use Rattle.aero_witness.specs.declared.reached.Reached.{Reached}
use Rattle.aero_witness.specs.declared.visit.Visit.{Visit}
use Rattle.aero_witness.specs.Reached.{reached_at, level_of, visit}
use Rattle.aero_witness.specs.Telling.{visit_of, visits_of, IsShortest}
use Rattle.aero_witness.specs.Following.{AreFollowing}
use Rattle.aero_witness.specs.Levels.{AreLevels}
use Rattle.aero_witness.proofs.Following.{goes, telling_from}

visits_length : (vs : List Visit) → length (visits_of vs) ≡ length vs
visits_length [] = refl
visits_length (v ∷ vs) = ap suc (visits_length vs)

-- these visits lead from an event at the place to the last place
pub record Back (trace : List Numbered) (reached : List (Option Reached)) (d out last : ℕ) (visits : List Visit) : Type 0 where
  pub at : Reached
  pub is_at : reached_at reached out ≡ Some at
  pub count : length visits + at.level ≡ d
  pub on : (v : graph.Visit) → v.leaves ≡ out → transaction trace v.enters ≡ transaction trace out → AreFollowing trace v (visits_of visits)
  pub end : (v : graph.Visit) → v.leaves ≡ out → (last_visit v (visits_of visits)).leaves ≡ last

module _ (trace : List Numbered) (x : Transaction) (reached : List (Option Reached)) (d : ℕ) (levels : AreLevels trace x reached d) where
  -- what a walk reaches
  abbrev ReachedWith : ℕ → ℕ → Type 0
  ReachedWith k most = (q : Reached) × (reached_at reached k ≡ Some q) × (q.level ≤ most)

  walk : (v : graph.Visit) (ws : List graph.Visit) (r : Reached) → reached_at reached v.leaves ≡ Some r → GoesOn trace (length trace) v ws → r.level + length ws ≤ d → ReachedWith (last_visit v ws).leaves (r.level + length ws)
  walk v [] r at g le = (r, at, omega arith)
  walk v (w ∷ ws) r at g le =
      let q = levels.leads v.leaves w.enters w.leaves r at (omega arith) g.0 g.1 g.2 in
      let more = q.2 in
      let rest = walk w ws q.0 q.1 g.3 (omega arith) in
      let last = rest.2 in
      (rest.0, rest.1, omega arith)

  walk_on : ((i : ℕ) (r : Reached) → reached_at reached i ≡ Some r → r.level < d) → (v : graph.Visit) (ws : List graph.Visit) (r : Reached) → reached_at reached v.leaves ≡ Some r → GoesOn trace (length trace) v ws → (q : Reached) × (reached_at reached (last_visit v ws).leaves ≡ Some q)
  walk_on all v [] r at g = (r, at)
  walk_on all v (w ∷ ws) r at g =
      let q = levels.leads v.leaves w.enters w.leaves r at (all v.leaves r at) g.0 g.1 g.2 in
      walk_on all w ws q.0 q.1 g.3

  -- a cycle's last visit leaves at no place that is reached with fewer
  no_last : (first : graph.Visit) (rest : List graph.Visit) → IsTelling trace (length trace) first rest → transaction trace first.enters ≡ x → (q : Reached) → reached_at reached (last_visit first rest).leaves ≡ Some q → q.level < d → ⊥
  no_last first rest telling of q at less =
      let last = last_is trace (length trace) first rest telling.visit telling.walk in
      elim (cases_eq q.level 0) [
        | inl z ↦ telling.ends_apart (last.one ∙ levels.at_start (last_visit first rest).leaves q at z ∙ sym of)
        | inr pos ↦ levels.no_return (last_visit first rest).leaves first.enters q at (omega arith) less of telling.closed
      ]

  pub fewest : (first : graph.Visit) (rest : List graph.Visit) → IsTelling trace (length trace) first rest → transaction trace first.enters ≡ x → d ≤ length rest
  fewest first rest telling of =
      elim (cases_lt (length rest) d) [
        | inr ge ↦ ge
        | inl less ↦
            let is = telling.visit in
            let s = levels.start first.leaves is.leaves (sym is.one ∙ of) in
            let zero = s.2 in
            let q = walk first rest s.0 s.1 telling.walk (omega arith) in
            let le = q.2 in
            absurd (no_last first rest telling of q.0 q.1 (omega arith))
      ]

  pub none_left : ((i : ℕ) (r : Reached) → reached_at reached i ≡ Some r → r.level < d) → BeginsCycle trace (length trace) x → ⊥
  none_left all (first, rest, telling, of) =
      let is = telling.visit in
      let s = levels.start first.leaves is.leaves (sym is.one ∙ of) in
      let q = walk_on all first rest s.0 s.1 telling.walk in
      no_last first rest telling of q.0 q.1 (all (last_visit first rest).leaves q.0 q.1)

  pub falls : (out : ℕ) (r : Reached) → reached_at reached out ≡ Some r → (r.level ≡ 0 → ⊥) → level_of (reached_at reached r.from) < level_of (reached_at reached out)
  falls out r at pos =
      let v = levels.sound out r at (omega arith) in
      let now : level_of (reached_at reached out) ≡ r.level = ap level_of at in
      let next : level_of (reached_at reached r.from) ≡ v.before.level = ap level_of v.before_at in
      let fewer = v.one_fewer in
      omega arith

  pub none_back : (out : ℕ) (r : Reached) → reached_at reached out ≡ Some r → r.level ≡ d → Back trace reached d out out []
  none_back out r at level = record { at = r; is_at = at; count = omega arith; on = λ v e t. tt; end = λ v e. e }

  pub one_back : (out last : ℕ) (visits : List Visit) (w : Visit) (r : Reached) → Back trace reached d out last visits → reached_at reached out ≡ Some r → (r.level ≡ 0 → ⊥) → w.enters ≡ r.enters → w.leaves ≡ out → Back trace reached d r.from last (w ∷ visits)
  one_back out last visits w r b at pos enters leaves =
      let by = levels.sound out r at (omega arith) in
      let is = by.is in
      let same : visit r.enters out ≡ visit_of w = ap (λ k. visit r.enters k) (sym leaves) ∙ ap (λ j. visit j w.leaves) (sym enters) in
      let here = b.is_at in
      let one : Some b.at ≡ Some r = sym here ∙ at in
      let level : b.at.level ≡ r.level = ap level_of one in
      let fewer = by.one_fewer in
      let count = b.count in
      record {
        at = by.before;
        is_at = by.before_at;
        count = omega arith;
        on = λ v e t. (
          record {
            conflict = subst (λ (u : graph.Visit). Conflict trace v.leaves u.enters) same (subst (λ k. Conflict trace k r.enters) (sym e) by.conflict);
            is = subst (IsVisit trace (length trace)) same is;
            forward = subst (IsForward trace (length trace)) same by.forward;
            apart = λ a. by.apart (sym t ∙ a ∙ ap (transaction trace) enters);
          },
          b.on (visit_of w) leaves (ap (transaction trace) enters ∙ is.one),
        );
        end = λ v e. b.end (visit_of w) leaves;
      }

  pub shortest : (out last back : ℕ) (visits : List Visit) (first : Visit) (r q : Reached) → Back trace reached d out last visits → reached_at reached out ≡ Some r → r.level ≡ 0 → reached_at reached last ≡ Some q → 0 < q.level → transaction trace back ≡ x → Conflict trace last back → out < length trace → first.enters ≡ back → first.leaves ≡ out → IsShortest trace x (first ∷ visits)
  shortest out last back visits first r q b at zero last_at pos of c l enters leaves =
      let in_x = levels.at_start out r at zero in
      let one : transaction trace first.enters ≡ transaction trace out = ap (transaction trace) enters ∙ of ∙ sym in_x in
      let earlier = c.earlier in
      let v = visit_of first in
      let back_within = slice_get_within trace back c.second c.second_at in
      let is : IsVisit trace (length trace) v = record { enters = subst (λ k. k < length trace) (sym enters) back_within; leaves = subst (λ k. k < length trace) (sym leaves) l; one = one ∙ ap (transaction trace) (sym leaves) } in
      let following = b.on v leaves one in
      let end = b.end v leaves in
      let last_visit_is = last_is trace (length trace) v (visits_of visits) is (goes trace v (visits_of visits) following) in
      let by = levels.sound last q last_at pos in
      let closed : Conflict trace (last_visit v (visits_of visits)).leaves v.enters = subst (λ k. Conflict trace k v.enters) (sym end) (subst (Conflict trace last) (sym enters) c) in
      let apart : transaction trace (last_visit v (visits_of visits)).enters ≢ transaction trace v.enters = λ e. by.outside (ap (transaction trace) (sym end) ∙ sym last_visit_is.one ∙ e ∙ ap (transaction trace) enters ∙ of) in
      let here = b.is_at in
      let level : b.at.level ≡ 0 = ap level_of (let e : Some b.at ≡ Some r = sym here ∙ at in e) ∙ zero in
      let count = b.count in
      record {
        telling = telling_from trace v (last_visit v (visits_of visits)) (visits_of visits) is following refl closed apart;
        begins = ap (transaction trace) enters ∙ of;
        fewest = λ f rest t e. (let most = fewest f rest t e in omega arith);
      }
