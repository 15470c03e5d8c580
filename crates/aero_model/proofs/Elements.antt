-- `Contains` by cases on the list, as an inductive definition would have it.
use Rattle.std.proofs.Common.{◌≡◌, ◌⊎◌, inl, inr, zero, suc, List, [], ◌∷◌, map, refl, sym, ap, arith}
use Rattle.std.specs.Prelude.{Contains}

pub none_in : {A : Type 0} {x : A} → Contains [] x → ⊥
none_in (k, l, e) = omega arith

pub here : {A : Type 0} {x : A} (xs : List A) → Contains (x ∷ xs) x
here xs = (0, omega arith, refl)

pub there : {A : Type 0} {x : A} (y : A) (xs : List A) → Contains xs x → Contains (y ∷ xs) x
there y xs (k, l, e) = (suc k, omega arith, e)

pub first_or_rest : {A : Type 0} {x : A} (y : A) (xs : List A) → Contains (y ∷ xs) x → (x ≡ y) ⊎ Contains xs x
first_or_rest y xs (zero, l, e) = inl (sym e)
first_or_rest y xs (suc k, l, e) = inr (k, omega arith, e)

pub Contains-map : {A B : Type 0} (f : A → B) (xs : List A) (x : A) → Contains xs x → Contains (map f xs) (f x)
Contains-map f [] x c = absurd (none_in c)
Contains-map f (y ∷ ys) x (zero, l, e) = (0, omega arith, ap f e)
Contains-map f (y ∷ ys) x (suc k, l, e) = there (f y) (map f ys) (Contains-map f ys x (k, omega arith, e))

pub Contains-map_from : {A B : Type 0} (f : A → B) (xs : List A) (y : B) → Contains (map f xs) y → (x : A) × Contains xs x × (f x ≡ y)
Contains-map_from f [] y c = absurd (none_in c)
Contains-map_from f (z ∷ zs) y (zero, l, e) = (z, here zs, e)
Contains-map_from f (z ∷ zs) y (suc k, l, e) = let r = Contains-map_from f zs y (k, omega arith, e) in (r.0, there z zs r.1, r.2)
