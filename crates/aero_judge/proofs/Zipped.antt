-- Two lists, place by place.
use Rattle.std.proofs.Common.{◌≡◌, ℕ, zero, suc, ◌+◌, List, [], ◌∷◌, ◌++◌, length, take, Some, refl, sym, ap, subst, add-one}
use Rattle.std.specs.Prelude.{slice_get}
use Rattle.std.specs.List.{AllZip}
use Rattle.std.proofs.lemmas.Option.{same_Some}

module _ {A B : Type 0} (R : A → B → Type 0) where
  longer : (xs : List A) (ys : List B) (i : ℕ) (x : A) (y : B) → AllZip R (take i xs) ys → slice_get xs i ≡ Some x → R x y → AllZip R (take (suc i) xs) (ys ++ y ∷ [])
  longer [] ys i x y zip at r = absurd (cc)
  longer (z ∷ xs) [] zero x y zip at r = (subst (λ w. R w y) (sym (same_Some z x at)) r, tt)
  longer (z ∷ xs) (w ∷ ys) zero x y zip at r = absurd zip
  longer (z ∷ xs) [] (suc i) x y zip at r = absurd zip
  longer (z ∷ xs) (w ∷ ys) (suc i) x y zip at r = (zip.0, longer xs ys i x y zip.1 at r)

  -- one place more
  pub zip_more : (xs : List A) (ys : List B) (i : ℕ) (x : A) (y : B) → AllZip R (take i xs) ys → slice_get xs i ≡ Some x → R x y → AllZip R (take (i + 1) xs) (ys ++ y ∷ [])
  zip_more xs ys i x y zip at r = subst (λ k. AllZip R (take k xs) (ys ++ y ∷ [])) (sym (add-one i)) (longer xs ys i x y zip at r)

-- a pair more at the end
pub zip_end : {A B : Type 0} (R : A → B → Type 0) (xs : List A) (ys : List B) (x : A) (y : B) → AllZip R xs ys → R x y → AllZip R (xs ++ x ∷ []) (ys ++ y ∷ [])
zip_end R [] [] x y zip r = (r, tt)
zip_end R [] (w ∷ ys) x y zip r = absurd zip
zip_end R (z ∷ xs) [] x y zip r = absurd zip
zip_end R (z ∷ xs) (w ∷ ys) x y zip r = (zip.0, zip_end R xs ys x y zip.1 r)

-- what stands at a place of the first list has its like in the second
pub zip_at : {A B : Type 0} (R : A → B → Type 0) (xs : List A) (ys : List B) (i : ℕ) (x : A) (y : B) → AllZip R xs ys → slice_get xs i ≡ Some x → slice_get ys i ≡ Some y → R x y
zip_at R [] ys i x y zip at there = absurd (cc)
zip_at R (z ∷ xs) [] i x y zip at there = absurd zip
zip_at R (z ∷ xs) (w ∷ ys) zero x y zip at there = subst (λ a. R a y) (same_Some z x at) (subst (R z) (same_Some w y there) zip.0)
zip_at R (z ∷ xs) (w ∷ ys) (suc i) x y zip at there = zip_at R xs ys i x y zip.1 at there

pub zip_long : {A B : Type 0} (R : A → B → Type 0) (xs : List A) (ys : List B) → AllZip R xs ys → length ys ≡ length xs
zip_long R [] [] zip = refl
zip_long R [] (w ∷ ys) zip = absurd zip
zip_long R (z ∷ xs) [] zip = absurd zip
zip_long R (z ∷ xs) (w ∷ ys) zip = ap suc (zip_long R xs ys zip.1)

-- an item of the first list has one beside it
pub zip_beside : {A B : Type 0} (R : A → B → Type 0) (xs : List A) (ys : List B) (i : ℕ) (x : A) → AllZip R xs ys → slice_get xs i ≡ Some x → (y : B) × (slice_get ys i ≡ Some y) × R x y
zip_beside R [] ys i x zip at = absurd (cc)
zip_beside R (z ∷ xs) [] i x zip at = absurd zip
zip_beside R (z ∷ xs) (w ∷ ys) zero x zip at = (w, refl, subst (λ a. R a w) (same_Some z x at) zip.0)
zip_beside R (z ∷ xs) (w ∷ ys) (suc i) x zip at = zip_beside R xs ys i x zip.1 at

-- the same of pairs that are so as well
pub zip_as : {A B : Type 0} (R S : A → B → Type 0) → ((x : A) (y : B) → R x y → S x y) → (xs : List A) (ys : List B) → AllZip R xs ys → AllZip S xs ys
zip_as R S thus [] [] zip = zip
zip_as R S thus [] (y ∷ ys) zip = absurd zip
zip_as R S thus (x ∷ xs) [] zip = absurd zip
zip_as R S thus (x ∷ xs) (y ∷ ys) zip = (thus x y zip.0, zip_as R S thus xs ys zip.1)

-- what joins the first list to the second, and that to a third
pub zip_on : {A B C : Type 0} (R : A → B → Type 0) (S : B → C → Type 0) (T : A → C → Type 0) → ((x : A) (y : B) (z : C) → R x y → S y z → T x z) → (xs : List A) (ys : List B) (zs : List C) → AllZip R xs ys → AllZip S ys zs → AllZip T xs zs
zip_on R S T thus [] [] [] r s = tt
zip_on R S T thus [] [] (z ∷ zs) r s = absurd s
zip_on R S T thus [] (y ∷ ys) zs r s = absurd r
zip_on R S T thus (x ∷ xs) [] zs r s = absurd r
zip_on R S T thus (x ∷ xs) (y ∷ ys) [] r s = absurd s
zip_on R S T thus (x ∷ xs) (y ∷ ys) (z ∷ zs) r s = (thus x y z r.0 s.0, zip_on R S T thus xs ys zs r.1 s.1)
