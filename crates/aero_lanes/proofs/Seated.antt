-- What changes one seat keeps what holds of all.
use Rattle.std.proofs.Common.{◌≡◌, ℕ, zero, suc, List, [], ◌∷◌, length, slice_get, slice_set, Some, refl, sym, ◌∙◌, ap, subst, inl, inr, ◌⊎◌}
use Rattle.std.specs.Prelude.{option_map}
use Rattle.std.proofs.lemmas.List.{length-map}
use Rattle.std.proofs.lemmas.Option.{slice_get-map}
use Rattle.aero_intake.specs.Source.{Sight}
use Rattle.aero_intake.specs.declared.source.SourceOf.{SourceOf}
use Rattle.aero_lanes.specs.declared.seat.Seat.{Seat}
use Rattle.aero_lanes.specs.declared.seat.Seat.TheVariants.{Waiting, Done}
use Rattle.aero_lanes.specs.Seats.{FitsSeat, StaysDone, AreSeated, GoOn, waiting}
use Rattle.aero_model.specs.Terms.{Terms}

the_some : {A : Type 0} (x y : A) → Some x ≡ Some y → x ≡ y
the_some x y p = cc p

-- the element at a place of a list in which one was set
set_cases : {A : Type 0} (xs : List A) (place : ℕ) (new : A) (k : ℕ) (y : A) → slice_get (slice_set xs place new) k ≡ Some y →
    ((k ≡ place) × (y ≡ new)) ⊎ (slice_get xs k ≡ Some y)
set_cases [] place new k y at = inr at
set_cases (x ∷ xs) zero new zero y at = inl (refl, sym (the_some new y at))
set_cases (x ∷ xs) zero new (suc k) y at = inr at
set_cases (x ∷ xs) (suc place) new zero y at = inr at
set_cases (x ∷ xs) (suc place) new (suc k) y at = elim (set_cases xs place new k y at) [ inl is ↦ inl (ap suc is.0, is.1) | inr is ↦ inr is ]

set_length : {A : Type 0} (xs : List A) (place : ℕ) (new : A) → length (slice_set xs place new) ≡ length xs
set_length [] place new = refl
set_length (x ∷ xs) zero new = refl
set_length (x ∷ xs) (suc place) new = ap suc (set_length xs place new)

-- what was at a place stays, or is what was changed there
set_stays : {A : Type 0} (xs : List A) (place : ℕ) (old new x : A) (k : ℕ) → slice_get xs place ≡ Some old → slice_get xs k ≡ Some x →
    (slice_get (slice_set xs place new) k ≡ Some x) ⊎ ((x ≡ old) × (slice_get (slice_set xs place new) k ≡ Some new))
set_stays [] place old new x k was at = inl at
set_stays (y ∷ xs) zero old new x zero was at = inr (the_some x old (sym at ∙ was), refl)
set_stays (y ∷ xs) zero old new x (suc k) was at = inl at
set_stays (y ∷ xs) (suc place) old new x zero was at = inl at
set_stays (y ∷ xs) (suc place) old new x (suc k) was at = set_stays xs place old new x k was at

pub goes_on_same : {R : Type 0} (known : R → Sight) (terms : Terms) (seats : List (Seat R)) → GoOn known terms seats seats
goes_on_same known terms seats = record { fits = λ origin is. is; done = λ k end at. at; count = refl }

-- one seat changes
pub goes_on : {R : Type 0} (known : R → Sight) (terms : Terms) (seats : List (Seat R)) (place : ℕ) (old new : Seat R) → slice_get seats place ≡ Some old →
    ((before : SourceOf R) → FitsSeat known terms before old → FitsSeat known terms before new) → StaysDone old new →
    GoOn known terms seats (slice_set seats place new)
goes_on {R} known terms seats place old new was fits done = record {
  fits = λ origin is. record {
    fits = λ k before seat at at_seat. elim (set_cases seats place new k seat at_seat) [
      | inl here ↦ subst (λ (x : Seat R). FitsSeat known terms before x) (sym here.1)
          (fits before (is.fits k before old at (subst (λ n. slice_get seats n ≡ Some old) (sym here.0) was)))
      | inr there ↦ is.fits k before seat at there
    ];
    count = set_length seats place new ∙ is.count;
  };
  done = λ k end at. elim (set_stays seats place old new (Done end) k was at) [
    | inl there ↦ there
    | inr here ↦ here.1 ∙ ap (λ (x : Seat R). Some x) (done end (sym here.0))
  ];
  count = set_length seats place new;
}

-- the seats of sources that wait
pub waiting_seated : {R : Type 0} (known : R → Sight) (terms : Terms) (sources : List (SourceOf R)) → AreSeated known terms sources (waiting sources)
waiting_seated {R} known terms sources = record {
  fits = λ k before seat at at_seat.
      let is : Some (Waiting before) ≡ Some seat = ap (option_map Waiting) (sym at) ∙ (sym (slice_get-map Waiting sources k) ∙ at_seat) in
      subst (λ (x : Seat R). FitsSeat known terms before x) (the_some (Waiting before) seat is) refl;
  count = length-map sources Waiting;
}
