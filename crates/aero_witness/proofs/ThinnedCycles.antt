-- The telling cycles of what is kept are those of the trace that have kept places alone.
use Rattle.std.proofs.Common.{◌≡◌, ℕ, ◌<◌, List, [], ◌∷◌, Some, inl, inr, sym, ◌∙◌, arith}
use Rattle.std.specs.Prelude.{slice_get, Contains}
use Rattle.std.specs.List.{AllZip}
use Rattle.std.proofs.lemmas.Bool.{cases_lt}
use Rattle.aero_model.specs.declared.numbered.Numbered.{Numbered}
use Rattle.aero_model.specs.Graph.{Conflict, Visit, IsVisit, IsForward, GoesOn, AreApart, IsTelling, last_visit}
use Rattle.aero_model.proofs.Elements.{here, there}
use Rattle.aero_witness.specs.Thinned.{IsAmong, IsThinned, IsPlaced}
use Rattle.aero_witness.proofs.Thinning.{IsCut, place_at, earlier_index, later_place}
use Rattle.aero_witness.proofs.Thinned.{one_kept, one_back, ended_kept, ended_back}

module _ (trace kept : List Numbered) (places : List ℕ) (thin : IsThinned trace kept places) (n m : ℕ) (cut : IsCut places n m) where
  conflict_trace : (i j p q : ℕ) → slice_get places i ≡ Some p → slice_get places j ≡ Some q → Conflict kept i j → Conflict trace p q
  conflict_trace i j p q a b c =
      record { earlier = thin.rise i j p q c.earlier a b; first = c.first; first_at = sym (thin.event i p a) ∙ c.first_at; second = c.second; second_at = sym (thin.event j q b) ∙ c.second_at; conflict = c.conflict }

  conflict_kept : (i j p q : ℕ) → slice_get places i ≡ Some p → slice_get places j ≡ Some q → Conflict trace p q → Conflict kept i j
  conflict_kept i j p q a b c =
      record { earlier = earlier_index trace kept places thin i j p q a b c.earlier; first = c.first; first_at = thin.event i p a ∙ c.first_at; second = c.second; second_at = thin.event j q b ∙ c.second_at; conflict = c.conflict }

  within_cut : (j p : ℕ) → slice_get places j ≡ Some p → p < n → j < m
  within_cut j p at l = elim (cases_lt j m) [ inl less ↦ less | inr le ↦ absurd (omega (arith, cut.above j p at le)) ]

  module _ (v w : Visit) (at : IsPlaced places v w) where
    visit_trace : IsVisit kept m v → IsVisit trace n w
    visit_trace is = record {
      enters = cut.below v.enters w.enters at.enters is.enters;
      leaves = cut.below v.leaves w.leaves at.leaves is.leaves;
      one = one_back trace kept places thin v.enters v.leaves w.enters w.leaves at.enters at.leaves is.one;
    }

    visit_kept : IsVisit trace n w → IsVisit kept m v
    visit_kept is = record {
      enters = within_cut v.enters w.enters at.enters is.enters;
      leaves = within_cut v.leaves w.leaves at.leaves is.leaves;
      one = one_kept trace kept places thin v.enters v.leaves w.enters w.leaves at.enters at.leaves is.one;
    }

    forward_trace : IsForward kept m v → IsForward trace n w
    forward_trace f = elim f as (λ _. IsForward trace n w) [
      | inl le ↦ inl (later_place trace kept places thin v.enters v.leaves w.enters w.leaves at.enters at.leaves le)
      | inr ended ↦ inr (ended_back trace kept places thin n m cut v.enters w.enters at.enters ended)
    ]

    forward_kept : IsForward trace n w → IsForward kept m v
    forward_kept f = elim f as (λ _. IsForward kept m v) [
      | inl le ↦ inl (elim (cases_lt v.leaves v.enters) [ inr le' ↦ le' | inl less ↦ absurd (omega (arith, thin.rise v.leaves v.enters w.leaves w.enters less at.leaves at.enters)) ])
      | inr ended ↦ inr (ended_kept trace kept places thin n m cut v.enters w.enters at.enters ended)
    ]

  goes_trace : (v w : Visit) (vs ws : List Visit) → IsPlaced places v w → AllZip (IsPlaced places) vs ws → GoesOn kept m v vs → GoesOn trace n w ws
  goes_trace v w [] [] at ats g = tt
  goes_trace v w [] (x ∷ ws) at ats g = absurd ats
  goes_trace v w (u ∷ vs) [] at ats g = absurd ats
  goes_trace v w (u ∷ vs) (x ∷ ws) at ats g = (
    conflict_trace v.leaves u.enters w.leaves x.enters at.leaves (ats.0).enters g.0,
    visit_trace u x ats.0 g.1,
    forward_trace u x ats.0 g.2,
    goes_trace u x vs ws ats.0 ats.1 g.3,
  )

  goes_kept : (v w : Visit) (vs ws : List Visit) → IsPlaced places v w → AllZip (IsPlaced places) vs ws → GoesOn trace n w ws → GoesOn kept m v vs
  goes_kept v w [] [] at ats g = tt
  goes_kept v w [] (x ∷ ws) at ats g = absurd ats
  goes_kept v w (u ∷ vs) [] at ats g = absurd ats
  goes_kept v w (u ∷ vs) (x ∷ ws) at ats g = (
    conflict_kept v.leaves u.enters w.leaves x.enters at.leaves (ats.0).enters g.0,
    visit_kept u x ats.0 g.1,
    forward_kept u x ats.0 g.2,
    goes_kept u x vs ws ats.0 ats.1 g.3,
  )

  apart_trace : (v w : Visit) (vs ws : List Visit) → IsPlaced places v w → AllZip (IsPlaced places) vs ws → AreApart kept m v vs → AreApart trace n w ws
  apart_trace v w [] [] at ats a = tt
  apart_trace v w [] (x ∷ ws) at ats a = absurd ats
  apart_trace v w (u ∷ vs) [] at ats a = absurd ats
  apart_trace v w (u ∷ vs) (x ∷ ws) at ats a = ((λ e. a.0 (one_kept trace kept places thin v.enters u.enters w.enters x.enters at.enters (ats.0).enters e)), apart_trace u x vs ws ats.0 ats.1 a.1)

  apart_kept : (v w : Visit) (vs ws : List Visit) → IsPlaced places v w → AllZip (IsPlaced places) vs ws → AreApart trace n w ws → AreApart kept m v vs
  apart_kept v w [] [] at ats a = tt
  apart_kept v w [] (x ∷ ws) at ats a = absurd ats
  apart_kept v w (u ∷ vs) [] at ats a = absurd ats
  apart_kept v w (u ∷ vs) (x ∷ ws) at ats a = ((λ e. a.0 (one_back trace kept places thin v.enters u.enters w.enters x.enters at.enters (ats.0).enters e)), apart_kept u x vs ws ats.0 ats.1 a.1)

  last_placed : (v w : Visit) (vs ws : List Visit) → IsPlaced places v w → AllZip (IsPlaced places) vs ws → IsPlaced places (last_visit v vs) (last_visit w ws)
  last_placed v w [] [] at ats = at
  last_placed v w [] (x ∷ ws) at ats = absurd ats
  last_placed v w (u ∷ vs) [] at ats = absurd ats
  last_placed v w (u ∷ vs) (x ∷ ws) at ats = last_placed u x vs ws ats.0 ats.1

  module _ (v w : Visit) (vs ws : List Visit) (at : IsPlaced places v w) (ats : AllZip (IsPlaced places) vs ws) where
    abbrev last_at : IsPlaced places (last_visit v vs) (last_visit w ws)
    last_at = last_placed v w vs ws at ats

    pub telling_trace : IsTelling kept m v vs → IsTelling trace n w ws
    telling_trace h =
        let l = last_at in
        record {
          visit = visit_trace v w at h.visit;
          walk = goes_trace v w vs ws at ats h.walk;
          closed = conflict_trace (last_visit v vs).leaves v.enters (last_visit w ws).leaves w.enters l.leaves at.enters h.closed;
          apart = apart_trace v w vs ws at ats h.apart;
          ends_apart = λ e. h.ends_apart (one_kept trace kept places thin (last_visit v vs).enters v.enters (last_visit w ws).enters w.enters l.enters at.enters e);
        }

    pub telling_kept : IsTelling trace n w ws → IsTelling kept m v vs
    telling_kept h =
        let l = last_at in
        record {
          visit = visit_kept v w at h.visit;
          walk = goes_kept v w vs ws at ats h.walk;
          closed = conflict_kept (last_visit v vs).leaves v.enters (last_visit w ws).leaves w.enters l.leaves at.enters h.closed;
          apart = apart_kept v w vs ws at ats h.apart;
          ends_apart = λ e. h.ends_apart (one_back trace kept places thin (last_visit v vs).enters v.enters (last_visit w ws).enters w.enters l.enters at.enters e);
        }

  -- each visit of what is kept is at places of the trace
  placed : (v : Visit) → IsVisit kept m v → (w : Visit) × IsPlaced places v w
  placed v is =
      let e = place_at places v.enters (let w = cut.within in let l = is.enters in omega arith) in
      let l = place_at places v.leaves (let w = cut.within in let l = is.leaves in omega arith) in
      (record { enters = e.0; leaves = l.0 }, record { enters = e.1; leaves = l.1 })

  pub all_placed : (v : Visit) (vs : List Visit) → GoesOn kept m v vs → (ws : List Visit) × AllZip (IsPlaced places) vs ws
  all_placed v [] g = ([], tt)
  all_placed v (u ∷ us) g =
      let one = placed u g.1 in
      let rest = all_placed u us g.3 in
      (one.0 ∷ rest.0, (one.1, rest.1))

  pub first_placed : (v : Visit) → IsVisit kept m v → (w : Visit) × IsPlaced places v w
  first_placed = placed

-- each visit that has kept places is one of what is kept
module _ (places : List ℕ) where
  pub found : (w : Visit) → IsAmong places w.enters × IsAmong places w.leaves → (v : Visit) × IsPlaced places v w
  found w (e, l) = (record { enters = e.0; leaves = l.0 }, record { enters = e.1; leaves = l.1 })

  pub all_found : (ws : List Visit) → ((w : Visit) → Contains ws w → IsAmong places w.enters × IsAmong places w.leaves) → (vs : List Visit) × AllZip (IsPlaced places) vs ws
  all_found [] h = ([], tt)
  all_found (w ∷ ws) h =
      let one = found w (h w (here ws)) in
      let rest = all_found ws (λ x among. h x (there w ws among)) in
      (one.0 ∷ rest.0, (one.1, rest.1))
