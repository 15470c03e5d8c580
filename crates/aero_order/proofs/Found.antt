-- First events: what is added to them, and what is found of them.
use Rattle.std.proofs.Common.{◌≡◌, ◌⊎◌, ℕ, zero, suc, ◌<◌, List, [], ◌∷◌, ◌++◌, length, map, Option, Some, None, inl, inr, refl, sym, ◌∙◌, ap, ap₂, subst, arith}
use Rattle.std.specs.Prelude.{slice_get, slice_index_or, All}
use Rattle.std.proofs.lemmas.List.{length-map, map-append}
use Rattle.std.proofs.lemmas.Option.{same_Some}
use Rattle.aero_order.specs.declared.first.First.{First}
use Rattle.aero_order.specs.Came.{Came, places_in, first_of, IsOf, AreOf}
use Rattle.aero_order.specs.Numbering.{IsNumbered}

-- the number by first events is that by their places
pub numbered_places : (known : Option ℕ) (first : First) (old new : List First) (v : ℕ) → IsNumbered known first old new v → IsNumbered known first.place (places_in old) (places_in new) v
numbered_places (Some u) first old new v (q, r) = (q, ap places_in r)
numbered_places None first old new v (q, r) = (q ∙ sym (length-map old (λ (f : First). f.place)), ap places_in r ∙ map-append (λ (f : First). f.place) old (first ∷ []))

-- with an item more at the end
there_still : {X : Type 0} (xs : List X) (x y : X) (i : ℕ) → slice_get xs i ≡ Some y → slice_get (xs ++ x ∷ []) i ≡ Some y
there_still [] x y i at = absurd (cc)
there_still (z ∷ xs) x y zero at = at
there_still (z ∷ xs) x y (suc i) at = there_still xs x y i at

at_end : {X : Type 0} (xs : List X) (x : X) → slice_get (xs ++ x ∷ []) (length xs) ≡ Some x
at_end [] x = refl
at_end (z ∷ xs) x = at_end xs x

old_or_new : {X : Type 0} (xs : List X) (x : X) (i : ℕ) (y : X) → slice_get (xs ++ x ∷ []) i ≡ Some y → (slice_get xs i ≡ Some y) ⊎ (x ≡ y)
old_or_new [] x zero y at = inr (same_Some x y at)
old_or_new [] x (suc i) y at = absurd (cc)
old_or_new (z ∷ xs) x zero y at = inl at
old_or_new (z ∷ xs) x (suc i) y at = old_or_new xs x i y at

-- one more event came, which is the first of a new transaction or belongs to a known one
pub of_more : (known : Option ℕ) (first : First) (old new : List First) (v : ℕ) (came : List Came) → IsNumbered known first old new v → first.place ≡ length came → AreOf came old → AreOf (came ++ record { line = first.line; thread = first.thread } ∷ []) new
of_more (Some u) first old new v came (q, r) place are w f at = there_still came _ _ f.place (are w f (ap (λ fs. slice_get fs w) (sym r) ∙ at))
of_more None first old new v came (q, r) place are w f at = elim (old_or_new old first w f (ap (λ fs. slice_get fs w) (sym r) ∙ at)) [
  | inl there ↦ there_still came _ _ f.place (are w f there)
  | inr same ↦ subst (IsOf (came ++ record { line = first.line; thread = first.thread } ∷ [])) same (ap (slice_get (came ++ record { line = first.line; thread = first.thread } ∷ [])) place ∙ at_end came _)
]

-- the place that is looked up
place_at : (firsts : List First) (v : ℕ) → (first_of firsts v).place ≡ slice_index_or (places_in firsts) v 0
place_at [] v = refl
place_at (f ∷ firsts) zero = refl
place_at (f ∷ firsts) (suc v) = place_at firsts v

pub places_found : (firsts : List First) (order : List ℕ) → places_in (map (first_of firsts) order) ≡ map (λ v. slice_index_or (places_in firsts) v 0) order
places_found firsts [] = refl
places_found firsts (v ∷ order) = ap₂ (λ (p : ℕ) (ps : List ℕ). p ∷ ps) (place_at firsts v) (places_found firsts order)

there : (firsts : List First) (v : ℕ) → v < length firsts → slice_get firsts v ≡ Some (first_of firsts v)
there [] v less = absurd (omega (arith, less))
there (f ∷ firsts) zero less = refl
there (f ∷ firsts) (suc v) less = there firsts v (omega (arith, less))

-- what is found of numbers is first events
pub found_are_of : (firsts : List First) (came : List Came) → AreOf came firsts → (order : List ℕ) → ((i v : ℕ) → slice_get order i ≡ Some v → v < length firsts) → All (IsOf came) (map (first_of firsts) order)
found_are_of firsts came are [] below k d less = absurd (omega (arith, less))
found_are_of firsts came are (v ∷ order) below zero d less = are v (first_of firsts v) (there firsts v (below 0 v refl))
found_are_of firsts came are (v ∷ order) below (suc k) d less = found_are_of firsts came are order (λ i w at. below (suc i) w at) k d (omega (arith, less))
