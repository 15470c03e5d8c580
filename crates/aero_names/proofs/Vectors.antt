-- The definitions at lists of names that are known from elsewhere.
use Rattle.std.proofs.Common.{◌≡◌, [], ◌∷◌, Some, None, slice_get, refl}
use Rattle.std.specs.Prelude.{codes}
use Rattle.aero_model.specs.Numbering.{different_names, number_of}

two_names : different_names (codes "x" ∷ codes "y" ∷ codes "x" ∷ []) ≡ codes "x" ∷ codes "y" ∷ []
two_names = refl

first_number : number_of (codes "x" ∷ codes "y" ∷ []) (codes "x") ≡ 0
first_number = refl

second_number : number_of (codes "x" ∷ codes "y" ∷ []) (codes "y") ≡ 1
second_number = refl

second_name : slice_get (codes "x" ∷ codes "y" ∷ []) 1 ≡ Some (codes "y")
second_name = refl

no_third_name : slice_get (codes "x" ∷ codes "y" ∷ []) 2 ≡ None
no_third_name = refl
