-- One item more at the end keeps a part a part.
use Rattle.std.proofs.Common.{List, [], ◌∷◌, ◌++◌, sym, refl, ap, ◌∙◌, inl, inr, ⊎_elim, append_assoc, append-nil}
use Rattle.aero_stage.specs.Lists.{IsSubsequence, Begins}

module _ {A : Type 0} where
  pub part_skip : (xs ys : List A) (y : A) → IsSubsequence xs ys → IsSubsequence xs (ys ++ y ∷ [])
  part_skip xs [] y h = inl h
  part_skip xs (z ∷ ys) y h = ⊎_elim (λ a. inl (part_skip xs ys y a)) (λ b. inr (b.0, b.1, part_skip b.0 ys y b.2)) h

  pub part_keep : (xs ys : List A) (y : A) → IsSubsequence xs ys → IsSubsequence (xs ++ y ∷ []) (ys ++ y ∷ [])
  part_keep xs [] y h = inr ([], ap (λ l. l ++ y ∷ []) h, refl)
  part_keep xs (z ∷ ys) y h = ⊎_elim (λ a. inl (part_keep xs ys y a)) (λ b. inr (b.0 ++ y ∷ [], ap (λ l. l ++ y ∷ []) b.1, part_keep b.0 ys y b.2)) h

  pub part_none : (ys : List A) → IsSubsequence [] ys
  part_none [] = refl
  part_none (y ∷ ys) = inl (part_none ys)

  pub begins_all : (xs : List A) → Begins xs xs
  begins_all xs = ([], append-nil xs)

  pub begins_more : (xs ys zs : List A) → Begins xs ys → Begins xs (ys ++ zs)
  begins_more xs ys zs b = (b.0 ++ zs, sym (append_assoc xs b.0 zs) ∙ ap (λ l. l ++ zs) b.1)
