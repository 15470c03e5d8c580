-- One more event that an engine is given.
use Rattle.std.proofs.Common.{◌≡◌, ◌⊎◌, ℕ, zero, suc, List, [], ◌∷◌, ◌++◌, length, Some, inl, inr, refl, sym, ◌∙◌, ap, subst, arith, length-append}
use Rattle.std.specs.Prelude.{slice_get}
use Rattle.std.proofs.lemmas.Option.{same_Some}
use Rattle.aero_model.specs.Named.{Named}
use Rattle.aero_engine.specs.Given.{Given}
use Rattle.aero_verdict.specs.Standing.{IsGiven, AreGiven, KeepsFirst}
use Rattle.aero_model.specs.Terms.{Rules}

-- what stands in a list with one item more stood there, or is that item
pub at_pushed : {X : Type 0} (xs : List X) (x : X) (i : ℕ) (y : X) → slice_get (xs ++ x ∷ []) i ≡ Some y → (slice_get xs i ≡ Some y) ⊎ ((i ≡ length xs) × (x ≡ y))
at_pushed [] x zero y at = inr (refl, same_Some x y at)
at_pushed [] x (suc i) y at = absurd (cc)
at_pushed (z ∷ xs) x zero y at = inl at
at_pushed (z ∷ xs) x (suc i) y at = elim (at_pushed xs x i y at) [ inl old ↦ inl old | inr new ↦ inr (ap suc new.0, new.1) ]

module _ (rules : Rules) (events : List (ℕ × Named)) where
  given_none : AreGiven rules events 0 []
  given_none = record { count = refl; each = λ i g at. absurd (cc) }

  given_more : (n : ℕ) (given : List Given) (g : Given) → AreGiven rules events n given → IsGiven rules events n g → AreGiven rules events (suc n) (given ++ g ∷ [])
  given_more n given g are is = record {
    count = let longer = length-append given (g ∷ []) in omega (arith, are.count, longer);
    each = λ i h at. elim (at_pushed given g i h at) [
      | inl old ↦ are.each i h old
      | inr new ↦ subst (IsGiven rules events i) new.1 (subst (λ k. IsGiven rules events k g) (sym (new.0 ∙ are.count)) is)
    ];
  }

  module _ {E : Type 0} (keeps : E → List Given → Type 0) where
    pub keeps_none : (n : ℕ) (engine : E) → n ≡ 0 → keeps engine [] → KeepsFirst keeps rules events n engine
    keeps_none n engine none kept = record { given = []; are_given = subst (λ k. AreGiven rules events k []) (sym none) given_none; kept = kept }

    pub keeps_more : (n : ℕ) (old new : E) (g : Given) → KeepsFirst keeps rules events n old → IsGiven rules events n g → ((given : List Given) → keeps old given → keeps new (given ++ g ∷ [])) → KeepsFirst keeps rules events (suc n) new
    keeps_more n old new g first is kept = record {
      given = first.given ++ g ∷ [];
      are_given = given_more n first.given g first.are_given is;
      kept = kept first.given first.kept;
    }
