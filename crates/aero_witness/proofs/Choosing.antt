-- What of some arrivals is entered.
use Rattle.std.proofs.Common.{◌≡◌, ◌⊎◌, ℕ, Bool, true, false, if◌then◌else◌, List, [], ◌∷◌, get_or, Option, Some, None, inl, inr, refl, sym, subst}
use Rattle.std.specs.Prelude.{IsSome, Contains, filter}
use Rattle.std.specs.List.{All}
use Rattle.std.specs.List.Sorted.{IsPermutation}
use Rattle.std.proofs.lemmas.List.Elements.{All-contains, All-contains_itself, All-filter, Contains-get_or}
use Rattle.std.proofs.lemmas.List.Sorted.{IsPermutation-sym, Contains-permutation}
use Rattle.aero_model.proofs.Elements.{none_in, here, there, first_or_rest}
use Rattle.aero_model.specs.declared.numbered.Numbered.{Numbered}
use Rattle.aero_witness.specs.declared.buckets.Arrival.{Arrival}
use Rattle.aero_witness.specs.declared.reached.Reached.{Reached}
use Rattle.aero_witness.specs.Reached.{reached_at, IsArrival, AreEntered}
use Rattle.aero_witness.specs.Chosen.{is_none, AreChosen}
use Rattle.aero_witness.proofs.Walked.{some_is, some_from}

pub was_in : {A : Type 0} (p : A → Bool) (xs : List A) (x : A) → Contains (filter p xs) x → Contains xs x
was_in p xs x h = All-contains (Contains xs) (filter p xs) x (All-filter p (Contains xs) xs (All-contains_itself xs)) h

module _ {A : Type 0} (p : A → Bool) (x : A) where
  kept_first : (b : Bool) (xs : List A) → b ≡ true → Contains (if b then x ∷ xs else xs) x
  kept_first true xs e = here xs
  kept_first false xs e = absurd (cc)

  kept_rest : (b : Bool) (y : A) (xs : List A) → Contains xs x → Contains (if b then y ∷ xs else xs) x
  kept_rest true y xs h = there y xs h
  kept_rest false y xs h = h

  pub stays_in : (xs : List A) → Contains xs x → p x ≡ true → Contains (filter p xs) x
  stays_in [] h e = absurd (none_in {x = x} h)
  stays_in (y ∷ ys) h e = elim (first_or_rest y ys h) [
    | inl same ↦ subst (λ z. Contains (if p z then z ∷ filter p ys else filter p ys) x) same (kept_first (p x) (filter p ys) e)
    | inr rest ↦ kept_rest (p y) y (filter p ys) (stays_in ys rest e)
  ]

new_or_reached : (o : Option Reached) → (is_none o ≡ true) ⊎ IsSome o
new_or_reached None = inl refl
new_or_reached (Some r) = inr (some_from (Some r) r refl)

pub chosen : (reached : List (Option Reached)) (old mid new : List Arrival) → mid ≡ filter (λ (c : Arrival). is_none (reached_at reached c.enters)) old → IsPermutation mid new → AreChosen reached old new
chosen reached old mid new is moved =
    record {
      only = λ c h. was_in (λ (d : Arrival). is_none (reached_at reached d.enters)) old c (subst (λ (xs : List Arrival). Contains xs c) is (Contains-permutation new mid c (IsPermutation-sym mid new moved) h));
      all = λ c h. elim (new_or_reached (reached_at reached c.enters)) [
        | inl none ↦ inl (Contains-permutation mid new c moved (subst (λ (xs : List Arrival). Contains xs c) (sym {A = List Arrival} is) (stays_in (λ (d : Arrival). is_none (reached_at reached d.enters)) c old h none)))
        | inr some ↦ inr some
      ];
    }

module _ (trace : List Numbered) (level : ℕ) (reached : List (Option Reached)) (old new : List Arrival) (chosen : AreChosen reached old new) where
  pub chosen_arrivals : All (IsArrival trace level reached) old → All (IsArrival trace level reached) new
  chosen_arrivals all = λ k d l. All-contains (IsArrival trace level reached) old (get_or new k d) all (chosen.only (get_or new k d) (Contains-get_or new k d l))

  pub all_entered : (reached' : List (Option Reached)) → AreEntered trace level reached new reached' → AreEntered trace level reached old reached'
  all_entered reached' e =
      record {
        each = e.each;
        kept = e.kept;
        only = e.only;
        entered = λ c h. elim (chosen.all c h) [
          | inl stays ↦ e.entered c stays
          | inr some ↦ (let r = some_is (reached_at reached c.enters) some in some_from (reached_at reached' c.enters) r.0 (e.kept c.enters r.0 r.1))
        ];
        closed = e.closed;
      }
