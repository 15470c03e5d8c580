-- A list of which one place is written, or to whose end one item is put.
use Rattle.std.proofs.Common.{◌≡◌, ◌≢◌, ◌<◌, ◌⊎◌, inl, inr, ⊎_elim, ℕ, zero, suc, List, [], ◌∷◌, ◌++◌, length, Option, Some, refl, sym, ap, ◌∙◌, arith}
use Rattle.std.specs.Prelude.{◌==◌, Bool, true, false, if◌then◌else◌, slice_get, slice_set}
use Rattle.std.proofs.lemmas.Bool.{cases_eq, eq-eqb, ne_eqb, cond-true, cond-false}
use Rattle.std.proofs.lemmas.Option.{slice_get_within}

-- after a write at place i
pub set_here : {X : Type 0} (xs : List X) (i : ℕ) (v : X) → i < length xs → slice_get (slice_set xs i v) i ≡ Some v
set_here [] i v l = absurd (omega arith)
set_here (x ∷ xs) zero v l = refl
set_here (x ∷ xs) (suc i) v l = set_here xs i v (omega arith)

pub set_other : {X : Type 0} (xs : List X) (i : ℕ) (v : X) (n : ℕ) → (i ≡ n → ⊥) → slice_get (slice_set xs i v) n ≡ slice_get xs n
set_other [] i v n ne = refl
set_other (x ∷ xs) zero v zero ne = absurd (ne refl)
set_other (x ∷ xs) zero v (suc n) ne = refl
set_other (x ∷ xs) (suc i) v zero ne = refl
set_other (x ∷ xs) (suc i) v (suc n) ne = set_other xs i v n (λ e. ne (ap suc e))

pub slice_get-set : {X : Type 0} (xs : List X) (i : ℕ) (v : X) (n : ℕ) → i < length xs → slice_get (slice_set xs i v) n ≡ (if i == n then Some v else slice_get xs n)
slice_get-set xs i v n l =
    ⊎_elim
    (λ e. ap (slice_get (slice_set xs i v)) (sym e) ∙ set_here xs i v l ∙ sym (cond-true (i == n) _ _ (eq-eqb i n e)))
    (λ ne. set_other xs i v n ne ∙ sym (cond-false (i == n) _ _ (ne_eqb i n ne)))
    (cases_eq i n)

-- after a push
pub pushed_here : {X : Type 0} (xs : List X) (v : X) → slice_get (xs ++ v ∷ []) (length xs) ≡ Some v
pushed_here [] v = refl
pushed_here (x ∷ xs) v = pushed_here xs v

pub pushed_other : {X : Type 0} (xs : List X) (v : X) (n : ℕ) → (n ≡ length xs → ⊥) → slice_get (xs ++ v ∷ []) n ≡ slice_get xs n
pushed_other [] v zero ne = absurd (ne refl)
pushed_other [] v (suc n) ne = refl
pushed_other (x ∷ xs) v zero ne = refl
pushed_other (x ∷ xs) v (suc n) ne = pushed_other xs v n (λ e. ne (ap suc e))

pub slice_get-pushed : {X : Type 0} (xs : List X) (v : X) (n : ℕ) → slice_get (xs ++ v ∷ []) n ≡ (if n == length xs then Some v else slice_get xs n)
slice_get-pushed xs v n =
    ⊎_elim
    (λ e. ap (slice_get (xs ++ v ∷ [])) e ∙ pushed_here xs v ∙ sym (cond-true (n == length xs) _ _ (eq-eqb n (length xs) e)))
    (λ ne. pushed_other xs v n ne ∙ sym (cond-false (n == length xs) _ _ (ne_eqb n (length xs) ne)))
    (cases_eq n (length xs))

-- what is read of a place, after a write at place i
module _ {T : Type 0} (xs : List T) (i : ℕ) (old new : T) (at : slice_get xs i ≡ Some old) where
  pub written : {X : Type 0} (f : Option T → X) (n : ℕ) → f (slice_get (slice_set xs i new) n) ≡ (if i == n then f (Some new) else f (slice_get xs n))
  written f n = ap f (slice_get-set xs i new n (slice_get_within xs i old at)) ∙ into (i == n)
    where
      into : (b : Bool) → f (if b then Some new else slice_get xs n) ≡ (if b then f (Some new) else f (slice_get xs n))
      into true = refl
      into false = refl

  -- where it is a function of what was read before
  pub rewritten : {X : Type 0} (f : Option T → X) (g : X → X) (n : ℕ) → f (Some new) ≡ g (f (Some old)) → f (slice_get (slice_set xs i new) n) ≡ (if i == n then g (f (slice_get xs n)) else f (slice_get xs n))
  rewritten f g n is = written f n ∙ go (cases_eq i n)
    where
      go : (i ≡ n) ⊎ (i ≢ n) → (if i == n then f (Some new) else f (slice_get xs n)) ≡ (if i == n then g (f (slice_get xs n)) else f (slice_get xs n))
      go (inl e) = cond-true (i == n) _ _ (eq-eqb i n e) ∙ is ∙ ap (λ o. g (f o)) (sym at) ∙ ap (λ m. g (f (slice_get xs m))) e ∙ sym (cond-true (i == n) _ _ (eq-eqb i n e))
      go (inr ne) = cond-false (i == n) _ _ (ne_eqb i n ne) ∙ sym (cond-false (i == n) _ _ (ne_eqb i n ne))

  -- where it is the same
  pub unwritten : {X : Type 0} (f : Option T → X) (n : ℕ) → f (Some new) ≡ f (Some old) → f (slice_get (slice_set xs i new) n) ≡ f (slice_get xs n)
  unwritten f n is = written f n ∙ go (cases_eq i n)
    where
      go : (i ≡ n) ⊎ (i ≢ n) → (if i == n then f (Some new) else f (slice_get xs n)) ≡ f (slice_get xs n)
      go (inl e) = cond-true (i == n) _ _ (eq-eqb i n e) ∙ is ∙ sym (ap f at) ∙ ap (λ m. f (slice_get xs m)) e
      go (inr ne) = cond-false (i == n) _ _ (ne_eqb i n ne)
