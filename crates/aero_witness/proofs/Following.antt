-- A telling cycle, visit by visit.
use Rattle.std.proofs.Common.{◌≡◌, ◌≢◌, ℕ, ◌+◌, ◌<◌, List, [], ◌∷◌, length, drop, get_or, refl, sym, ◌∙◌, ap, subst, add-one, drop-cons}
use Rattle.aero_model.specs.declared.numbered.Numbered.{Numbered}
use Rattle.aero_model.specs.Blocks.{transaction}
use Rattle.aero_model.specs.Graph as graph
use Rattle.aero_model.specs.Graph.{Conflict, IsVisit, GoesOn, AreApart, IsTelling, last_visit}
use Rattle.aero_witness.specs.declared.visit.Visit.{Visit}
use Rattle.aero_witness.specs.Telling.{visit_of, visits_of}
use Rattle.aero_witness.specs.Following.{Follows, AreFollowing}

module _ (trace : List Numbered) where
  pub goes : (v : graph.Visit) (ws : List graph.Visit) → AreFollowing trace v ws → GoesOn trace (length trace) v ws
  goes v [] h = tt
  goes v (w ∷ ws) h = let f = h.0 in (f.conflict, f.is, f.forward, goes w ws h.1)

  apart : (v : graph.Visit) (ws : List graph.Visit) → AreFollowing trace v ws → AreApart trace (length trace) v ws
  apart v [] h = tt
  apart v (w ∷ ws) h = let f = h.0 in (f.apart, apart w ws h.1)

  following : (v : graph.Visit) (ws : List graph.Visit) → GoesOn trace (length trace) v ws → AreApart trace (length trace) v ws → AreFollowing trace v ws
  following v [] g a = tt
  following v (w ∷ ws) g a = (record { conflict = g.0; is = g.1; forward = g.2; apart = a.0 }, following w ws g.3 a.1)

  -- from the first visit to the last, and back
  pub telling_from : (v last : graph.Visit) (ws : List graph.Visit) → IsVisit trace (length trace) v → AreFollowing trace v ws → last ≡ last_visit v ws → Conflict trace last.leaves v.enters → transaction trace last.enters ≢ transaction trace v.enters → IsTelling trace (length trace) v ws
  telling_from v last ws is h e c d =
      record {
        visit = is;
        walk = goes v ws h;
        closed = subst (λ (w : graph.Visit). Conflict trace w.leaves v.enters) e c;
        apart = apart v ws h;
        ends_apart = subst (λ (w : graph.Visit). transaction trace w.enters ≢ transaction trace v.enters) e d;
      }

  pub following_from : (v : graph.Visit) (ws : List graph.Visit) → IsTelling trace (length trace) v ws → AreFollowing trace v ws
  following_from v ws h = following v ws h.walk h.apart

  pub closed_from : (v last : graph.Visit) (ws : List graph.Visit) → last ≡ last_visit v ws → IsTelling trace (length trace) v ws → Conflict trace last.leaves v.enters × (transaction trace last.enters ≢ transaction trace v.enters)
  closed_from v last ws e h =
      (subst (λ (w : graph.Visit). Conflict trace w.leaves v.enters) (sym e) h.closed, subst (λ (w : graph.Visit). transaction trace w.enters ≢ transaction trace v.enters) (sym e) h.ends_apart)

  -- a walk from the first visit has come to the last one, and these are left
  pub record Walked (first : graph.Visit) (all : List graph.Visit) (last : graph.Visit) (left : List graph.Visit) : Type 0 where
    pub is : IsVisit trace (length trace) last
    pub on : AreFollowing trace first all → AreFollowing trace last left
    pub back : AreFollowing trace last left → AreFollowing trace first all
    pub end : last_visit first all ≡ last_visit last left

  pub none_walked : (first : graph.Visit) (all : List graph.Visit) → IsVisit trace (length trace) first → Walked first all first all
  none_walked first all is = record { is = is; on = λ h. h; back = λ h. h; end = refl }

  pub one_walked : (first : graph.Visit) (all : List graph.Visit) (last next : graph.Visit) (left : List graph.Visit) → Walked first all last (next ∷ left) → Follows trace last next → Walked first all next left
  one_walked first all last next left w f = record { is = f.is; on = λ h. (w.on h).1; back = λ h. w.back (f, h); end = w.end }

left_at : (rest : List Visit) (i : ℕ) (d : Visit) → i < length rest → visits_of (drop i rest) ≡ visit_of (get_or rest i d) ∷ visits_of (drop (i + 1) rest)
left_at rest i d l = ap visits_of (drop-cons rest i d l) ∙ ap (λ k. visit_of (get_or rest i d) ∷ visits_of (drop k rest)) (sym (add-one i))

module _ (trace : List Numbered) (first last : graph.Visit) (rest : List Visit) (i : ℕ) (d : Visit) (l : i < length rest) (w : Walked trace first (visits_of rest) last (visits_of (drop i rest))) where
  pub walked_on : Follows trace last (visit_of (get_or rest i d)) → Walked trace first (visits_of rest) (visit_of (get_or rest i d)) (visits_of (drop (i + 1) rest))
  walked_on f = one_walked trace first (visits_of rest) last (visit_of (get_or rest i d)) (visits_of (drop (i + 1) rest)) (subst (Walked trace first (visits_of rest) last) (left_at rest i d l) w) f

  pub stopped : (Follows trace last (visit_of (get_or rest i d)) → ⊥) → AreFollowing trace first (visits_of rest) → ⊥
  stopped none h =
      let left = subst (AreFollowing trace last) (left_at rest i d l) (w.on h) in
      none left.0
