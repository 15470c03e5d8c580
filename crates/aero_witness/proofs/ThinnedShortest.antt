-- Where all is kept to which open blocks lead, so are the telling cycles that begin in one, and the shortest of them.
use Rattle.std.proofs.Common.{◌≡◌, ℕ, suc, ◌<◌, List, [], ◌∷◌, length, Some, inl, inr, refl, sym, ap, subst, arith}
use Rattle.std.specs.Prelude.{slice_get, Contains}
use Rattle.std.specs.List.{AllZip}
use Rattle.aero_model.specs.declared.numbered.Numbered.{Numbered}
use Rattle.aero_model.specs.Blocks.{transaction, IsOpen}
use Rattle.aero_model.specs.Graph as graph
use Rattle.aero_model.specs.Graph.{IsVisit, GoesOn, IsTelling, BeginsCycle}
use Rattle.aero_model.proofs.Elements.{none_in, here, there, first_or_rest}
use Rattle.aero_witness.specs.declared.visit.Visit.{Visit}
use Rattle.aero_witness.specs.Telling.{IsShortest, visit_of, visits_of}
use Rattle.aero_witness.specs.Led.{IsLed}
use Rattle.aero_witness.specs.Thinned.{IsAmong, IsThinned, IsPlaced}
use Rattle.aero_witness.proofs.Led.{later_cycles_are_led}
use Rattle.aero_witness.proofs.Thinning.{place_at}
use Rattle.aero_witness.proofs.Thinned.{one_kept, one_back, all_cut}
use Rattle.aero_witness.proofs.ThinnedCycles.{telling_trace, telling_kept, found, all_found}

visit_among : (trace : List Numbered) (n : ℕ) (v : graph.Visit) (ws : List graph.Visit) → GoesOn trace n v ws → (w : graph.Visit) → Contains ws w → IsVisit trace n w
visit_among trace n v [] g w among = absurd (none_in among)
visit_among trace n v (u ∷ us) g w among = elim (first_or_rest u us among) [
  | inl same ↦ subst (IsVisit trace n) (sym same) g.1
  | inr later ↦ visit_among trace n u us g.3 w later
]

as_many : (places : List ℕ) (vs ws : List graph.Visit) → AllZip (IsPlaced places) vs ws → length vs ≡ length ws
as_many places [] [] h = refl
as_many places [] (w ∷ ws) h = absurd h
as_many places (v ∷ vs) [] h = absurd h
as_many places (v ∷ vs) (w ∷ ws) h = ap suc (as_many places vs ws h.1)

visits_as_many : (vs : List Visit) → length (visits_of vs) ≡ length vs
visits_as_many [] = refl
visits_as_many (v ∷ vs) = ap suc (visits_as_many vs)

module _ (trace kept : List Numbered) (places : List ℕ) (thin : IsThinned trace kept places) where
  -- the visits of what is kept, at their places in the trace
  put_one : (v : Visit) → v.enters < length kept → v.leaves < length kept → (w : Visit) × IsPlaced places (visit_of v) (visit_of w)
  put_one v le ll =
      let e = place_at places v.enters (let each = thin.each in omega arith) in
      let l = place_at places v.leaves (let each = thin.each in omega arith) in
      (record { enters = e.0; leaves = l.0 }, record { enters = e.1; leaves = l.1 })

  put_all : (v : graph.Visit) (vs : List Visit) → GoesOn kept (length kept) v (visits_of vs) → (ws : List Visit) × AllZip (IsPlaced places) (visits_of vs) (visits_of ws)
  put_all v [] g = ([], tt)
  put_all v (u ∷ us) g =
      let one = put_one u (g.1).enters (g.1).leaves in
      let rest = put_all (visit_of u) us g.3 in
      (one.0 ∷ rest.0, (one.1, rest.1))

  module _ (led : (p : ℕ) → p < length trace → IsLed trace (length trace) p → IsAmong places p) (i p : ℕ) (at : slice_get places i ≡ Some p) (is_open : IsOpen trace (length trace) (transaction trace p)) where
    -- a telling cycle that begins in the block has kept places alone
    cycle_kept : (w : graph.Visit) (ws : List graph.Visit) → IsTelling trace (length trace) w ws → transaction trace w.enters ≡ transaction trace p → (x : graph.Visit) → Contains (w ∷ ws) x → IsAmong places x.enters × IsAmong places x.leaves
    cycle_kept w ws h e x among =
        let r = later_cycles_are_led trace (length trace) (length trace) w ws (λ occurs. subst (IsOpen trace (length trace)) (sym e) is_open) h x among in
        let is : IsVisit trace (length trace) x = elim (first_or_rest w ws among) [ inl same ↦ subst (IsVisit trace (length trace)) (sym same) h.visit | inr later ↦ visit_among trace (length trace) w ws h.walk x later ] in
        (led x.enters is.enters (r.0 is.enters), led x.leaves is.leaves (r.1 is.leaves))

    -- so it is one of what is kept, with as many visits
    pub record IsFound (w : graph.Visit) (ws : List graph.Visit) : Type 0 where
      pub first : graph.Visit
      pub rest : List graph.Visit
      pub telling : IsTelling kept (length kept) first rest
      pub begins : transaction kept first.enters ≡ transaction kept i
      pub each : length rest ≡ length ws

    pub cycle_found : (w : graph.Visit) (ws : List graph.Visit) → IsTelling trace (length trace) w ws → transaction trace w.enters ≡ transaction trace p → IsFound w ws
    cycle_found w ws h e =
        let v = found places w (cycle_kept w ws h e w (here ws)) in
        let vs = all_found places ws (λ x among. cycle_kept w ws h e x (there w ws among)) in
        record {
          first = v.0;
          rest = vs.0;
          telling = telling_kept trace kept places thin (length trace) (length kept) (all_cut trace kept places thin) v.0 w vs.0 ws v.1 vs.1 h;
          begins = one_kept trace kept places thin (v.0).enters i w.enters p (v.1).enters at e;
          each = as_many places vs.0 ws vs.1;
        }

    pub begins_kept : BeginsCycle trace (length trace) (transaction trace p) → BeginsCycle kept (length kept) (transaction kept i)
    begins_kept (w, ws, h, e) = let f = cycle_found w ws h e in (f.first, f.rest, f.telling, f.begins)

    pub shortest_trace : (visits : List Visit) → IsShortest kept (transaction kept i) visits → (placed : List Visit) × AllZip (IsPlaced places) (visits_of visits) (visits_of placed) × IsShortest trace (transaction trace p) placed
    shortest_trace [] s = absurd s.telling
    shortest_trace (v ∷ vs) s =
        let h = s.telling in
        let is = h.visit in
        let one = put_one v is.enters is.leaves in
        let rest = put_all (visit_of v) vs h.walk in
        let same = as_many places (visits_of vs) (visits_of rest.0) rest.1 in (
          one.0 ∷ rest.0,
          (one.1, rest.1),
          record {
            telling = telling_trace trace kept places thin (length trace) (length kept) (all_cut trace kept places thin) (visit_of v) (visit_of one.0) (visits_of vs) (visits_of rest.0) one.1 rest.1 h;
            begins = one_back trace kept places thin v.enters i (one.0).enters p (one.1).enters at s.begins;
            fewest = λ w ws g e. (let f = cycle_found w ws g e in omega (arith, s.fewest f.first f.rest f.telling f.begins, f.each, same, visits_as_many vs, visits_as_many rest.0));
          },
        )
