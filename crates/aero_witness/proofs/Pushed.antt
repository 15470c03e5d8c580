-- The items of a list with one more, and those of a list that are marked.
use Rattle.std.proofs.Common.{◌≡◌, ◌⊎◌, ℕ, zero, suc, ◌<◌, Bool, true, false, List, [], ◌∷◌, ◌++◌, length, Some, None, inl, inr, refl, sym, ap, arith}
use Rattle.std.specs.Prelude.{slice_get}
use Rattle.std.proofs.lemmas.Bool.{true≢false}
use Rattle.std.proofs.lemmas.Option.{same_Some}
use Rattle.aero_witness.specs.Thinned.{marked}

pub push_front : {X : Type 0} (xs : List X) (x : X) (i : ℕ) → i < length xs → slice_get (xs ++ x ∷ []) i ≡ slice_get xs i
push_front [] x i l = absurd (omega arith)
push_front (y ∷ xs) x zero l = refl
push_front (y ∷ xs) x (suc i) l = push_front xs x i (omega arith)

pub push_last : {X : Type 0} (xs : List X) (x : X) → slice_get (xs ++ x ∷ []) (length xs) ≡ Some x
push_last [] x = refl
push_last (y ∷ xs) x = push_last xs x

-- an item is one that was there, or the last
pub push_cases : {X : Type 0} (xs : List X) (x : X) (i : ℕ) (y : X) → slice_get (xs ++ x ∷ []) i ≡ Some y → (slice_get xs i ≡ Some y) ⊎ ((i ≡ length xs) × (y ≡ x))
push_cases [] x zero y e = inr (refl, sym (same_Some x y e))
push_cases [] x (suc i) y e = absurd (let none : None ≡ Some y = e in cc)
push_cases (z ∷ xs) x zero y e = inl e
push_cases (z ∷ xs) x (suc i) y e = elim (push_cases xs x i y e) [
  | inl there ↦ inl there
  | inr last ↦ inr (ap suc last.0, last.1)
]

-- the place of the marked item with so many before it
abbrev pub nth_mark : List Bool → ℕ → ℕ
nth_mark [] j = 0
nth_mark (true ∷ bs) zero = 0
nth_mark (true ∷ bs) (suc j) = suc (nth_mark bs j)
nth_mark (false ∷ bs) j = suc (nth_mark bs j)

pub marked_at : {X : Type 0} (bs : List Bool) (xs : List X) (j : ℕ) (x : X) → slice_get (marked bs xs) j ≡ Some x → slice_get xs (nth_mark bs j) ≡ Some x
marked_at [] xs j x e = absurd (let none : None ≡ Some x = e in cc)
marked_at (b ∷ bs) [] j x e = absurd (let none : None ≡ Some x = e in cc)
marked_at (true ∷ bs) (y ∷ xs) zero x e = e
marked_at (true ∷ bs) (y ∷ xs) (suc j) x e = marked_at bs xs j x e
marked_at (false ∷ bs) (y ∷ xs) j x e = marked_at bs xs j x e

-- it is marked
pub mark_at : {X : Type 0} (bs : List Bool) (xs : List X) (j : ℕ) (x : X) → slice_get (marked bs xs) j ≡ Some x → slice_get bs (nth_mark bs j) ≡ Some true
mark_at [] xs j x e = absurd (let none : None ≡ Some x = e in cc)
mark_at (b ∷ bs) [] j x e = absurd (let none : None ≡ Some x = e in cc)
mark_at (true ∷ bs) (y ∷ xs) zero x e = refl
mark_at (true ∷ bs) (y ∷ xs) (suc j) x e = mark_at bs xs j x e
mark_at (false ∷ bs) (y ∷ xs) j x e = mark_at bs xs j x e

-- of two lists of one length the same items are marked
pub marked_same : {X Y : Type 0} (bs : List Bool) (xs : List X) (ys : List Y) (j : ℕ) (y : Y) → length xs ≡ length ys → slice_get (marked bs ys) j ≡ Some y → slice_get (marked bs xs) j ≡ slice_get xs (nth_mark bs j)
marked_same [] xs ys j y e at = absurd (let none : None ≡ Some y = at in cc)
marked_same (b ∷ bs) xs [] j y e at = absurd (let none : None ≡ Some y = at in cc)
marked_same (b ∷ bs) [] (z ∷ ys) j y e at = absurd (omega arith)
marked_same (true ∷ bs) (x ∷ xs) (z ∷ ys) zero y e at = refl
marked_same (true ∷ bs) (x ∷ xs) (z ∷ ys) (suc j) y e at = marked_same bs xs ys j y (omega arith) at
marked_same (false ∷ bs) (x ∷ xs) (z ∷ ys) j y e at = marked_same bs xs ys j y (omega arith) at

pub marked_long : {X Y : Type 0} (bs : List Bool) (xs : List X) (ys : List Y) → length xs ≡ length ys → length (marked bs xs) ≡ length (marked bs ys)
marked_long [] xs ys e = refl
marked_long (b ∷ bs) [] [] e = refl
marked_long (b ∷ bs) [] (y ∷ ys) e = absurd (omega arith)
marked_long (b ∷ bs) (x ∷ xs) [] e = absurd (omega arith)
marked_long (true ∷ bs) (x ∷ xs) (y ∷ ys) e = ap suc (marked_long bs xs ys (omega arith))
marked_long (false ∷ bs) (x ∷ xs) (y ∷ ys) e = marked_long bs xs ys (omega arith)

-- they stand in their order
pub marks_rise : {X : Type 0} (bs : List Bool) (xs : List X) (i j : ℕ) (y : X) → i < j → slice_get (marked bs xs) j ≡ Some y → nth_mark bs i < nth_mark bs j
marks_rise [] xs i j y l at = absurd (let none : None ≡ Some y = at in cc)
marks_rise (b ∷ bs) [] i j y l at = absurd (let none : None ≡ Some y = at in cc)
marks_rise (true ∷ bs) (x ∷ xs) i zero y l at = absurd (omega arith)
marks_rise (true ∷ bs) (x ∷ xs) zero (suc j) y l at = omega arith
marks_rise (true ∷ bs) (x ∷ xs) (suc i) (suc j) y l at = omega (arith, marks_rise bs xs i j y (omega arith) at)
marks_rise (false ∷ bs) (x ∷ xs) i j y l at = omega (arith, marks_rise bs xs i j y l at)

-- each marked item is there
pub marked_among : {X : Type 0} (bs : List Bool) (xs : List X) (i : ℕ) (x : X) → slice_get bs i ≡ Some true → slice_get xs i ≡ Some x → (j : ℕ) × (slice_get (marked bs xs) j ≡ Some x)
marked_among [] xs i x b at = absurd (let none : None ≡ Some true = b in cc)
marked_among (b ∷ bs) [] i x m at = absurd (let none : None ≡ Some x = at in cc)
marked_among (true ∷ bs) (y ∷ xs) zero x m at = (0, at)
marked_among (false ∷ bs) (y ∷ xs) zero x m at = absurd (true≢false (sym (same_Some false true m)))
marked_among (true ∷ bs) (y ∷ xs) (suc i) x m at = let r = marked_among bs xs i x m at in (suc r.0, r.1)
marked_among (false ∷ bs) (y ∷ xs) (suc i) x m at = marked_among bs xs i x m at
