-- Sources with watches, and what is missing in each.
use Rattle.std.proofs.Common.{◌≡◌, ◌∙◌, ◌+◌, ℕ, List, [], ◌∷◌, ◌++◌, map, take, Some, ap, ap₂, sym}
use Rattle.std.specs.Prelude.{slice_get}
use Rattle.std.proofs.lemmas.Option.{get_or_from_slice_get, slice_get_within}
use Rattle.std.proofs.lemmas.List.{map-append, take_more}

-- one more of a list
pub take_with : {X : Type 0} (xs : List X) (i : ℕ) (x : X) → slice_get xs i ≡ Some x → take (i + 1) xs ≡ take i xs ++ x ∷ []
take_with xs i x at = take_more xs i x (slice_get_within xs i x at) ∙ ap (λ y. take i xs ++ y ∷ []) (get_or_from_slice_get xs i x x at)

-- one more of what is the same by two views
pub map_more : {X Y Z : Type 0} (f : X → Z) (g : Y → Z) (xs all : List X) (ys : List Y) (x : X) (y : Y) → all ≡ xs ++ x ∷ [] → map f xs ≡ map g ys → f x ≡ g y → map f all ≡ map g (ys ++ y ∷ [])
map_more f g xs all ys x y is so_far last =
    ap (map f) is ∙ map-append f xs (x ∷ []) ∙ ap₂ (λ a b. a ++ b ∷ []) so_far last ∙ sym (map-append g ys (y ∷ []))
