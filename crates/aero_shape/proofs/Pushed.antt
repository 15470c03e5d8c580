-- What the words of the rules say of a list of events with one more at its end.
use Rattle.std.proofs.Common.{◌≡◌, ◌⊎◌, ℕ, zero, suc, ◌+◌, ◌-◌, ◌<◌, ◌≤◌, ◌==◌, ◌&&◌, ◌||◌, Bool, true, false, cond, if◌then◌else◌, List, [], ◌∷◌, ◌++◌, length, take, Option, Some, None, inl, inr, refl, sym, ◌∙◌, ap, ap₂, subst, arith, length-append}
use Rattle.std.specs.Prelude.{slice_get, count_by}
use Rattle.std.specs.List.{list_any}
use Rattle.std.proofs.lemmas.Bool.{cases_Bool, cases_eq, and_parts, eqb-true}
use Rattle.std.proofs.lemmas.List.{take_all}
use Rattle.std.proofs.lemmas.List.Folds.{list_any-append}
use Rattle.std.proofs.lemmas.List.Sums.{sum_by-append}
use Rattle.std.proofs.lemmas.Option.{same_Some, slice_get_within}
use Rattle.aero_model.specs.declared.numbered.Numbered.{Numbered}
use Rattle.aero_model.specs.Blocks.{is_begin, is_end, by_thread, depth}
use Rattle.aero_model.specs.Shape.{is_acquire_of, is_release_of, held, shape_fault, IsWellFormed}
use Rattle.aero_model.proofs.Stability.{agree_front, depth_same}
use Rattle.aero_model.proofs.WellFormed.{count_by_more, take_past, released_held}
use Rattle.aero_model.proofs.Locks.{release_is}

pub slice_get_last : {X : Type 0} (xs : List X) (x : X) → slice_get (xs ++ x ∷ []) (length xs) ≡ Some x
slice_get_last [] x = refl
slice_get_last (y ∷ ys) x = slice_get_last ys x

pub slice_get_front : {X : Type 0} (xs ys : List X) (n : ℕ) → n < length xs → slice_get (xs ++ ys) n ≡ slice_get xs n
slice_get_front [] ys n l = absurd (omega arith)
slice_get_front (x ∷ xs) ys zero l = refl
slice_get_front (x ∷ xs) ys (suc n) l = slice_get_front xs ys n (omega arith)

pub take_front : {X : Type 0} (xs ys : List X) (n : ℕ) → n ≤ length xs → take n (xs ++ ys) ≡ take n xs
take_front xs ys zero l = refl
take_front [] ys (suc n) l = absurd (omega arith)
take_front (x ∷ xs) ys (suc n) l = ap (λ zs. x ∷ zs) (take_front xs ys n (omega arith))

pub or_false : (b : Bool) → (b || false) ≡ b
or_false true = refl
or_false false = refl

pub length_pushed : {X : Type 0} (xs : List X) (x : X) → length (xs ++ x ∷ []) ≡ suc (length xs)
length_pushed xs x = let e = length-append xs (x ∷ []) in omega arith

module _ (h : List Numbered) (e : Numbered) where
  pub depth_pushed :
      (t : ℕ)
      → depth (h ++ e ∷ []) t (length (h ++ e ∷ []))
      ≡ (if by_thread t is_begin (Some e) then depth h t (length h) + 1 else if by_thread t is_end (Some e) then depth h t (length h) - 1 else depth h t (length h))
  depth_pushed t =
      ap (depth (h ++ e ∷ []) t) (length_pushed h e)
      ∙ ap₂ (λ o d. if by_thread t is_begin o then d + 1 else if by_thread t is_end o then d - 1 else d) (slice_get_last h e) (sym (depth_same h (h ++ e ∷ []) t (length h) (agree_front (length h) h (e ∷ []) (omega arith))))

  pub any_pushed : (p : Numbered → Bool) → list_any p (h ++ e ∷ []) ≡ (list_any p h || p e)
  any_pushed p = list_any-append p h (e ∷ []) ∙ ap (λ b. list_any p h || b) (or_false (p e))

  pub count_pushed : (p : Numbered → Bool) → count_by p (h ++ e ∷ []) ≡ count_by p h + cond {A = ℕ} (p e) 1 0
  count_pushed p =
      let one : count_by p (h ++ e ∷ []) ≡ count_by p h + (0 + cond {A = ℕ} (p e) 1 0) = sum_by-append (λ y. cond {A = ℕ} (p y) 1 0) h (e ∷ []) in
      omega arith

  pub well_formed_pushed : IsWellFormed h → shape_fault h e ≡ None → IsWellFormed (h ++ e ∷ [])
  well_formed_pushed ok fits n f at = go (cases_eq n (length h))
    where
      go : (n ≡ length h) ⊎ (n ≡ length h → ⊥) → shape_fault (take n (h ++ e ∷ [])) f ≡ None
      go (inl same) =
          let front = ap (λ m. take m (h ++ e ∷ [])) same ∙ take_front h (e ∷ []) (length h) (omega arith) ∙ take_all (length h) h (omega arith) in
          let last = same_Some f e (sym at ∙ ap (slice_get (h ++ e ∷ [])) same ∙ slice_get_last h e) in
          ap₂ shape_fault front last ∙ fits
      go (inr apart) =
          let within : n < length (h ++ e ∷ []) = slice_get_within (h ++ e ∷ []) n f at in
          let l : n < length h = omega (arith, length_pushed h e) in
          ap (λ before. shape_fault before f) (take_front h (e ∷ []) n (omega arith)) ∙ ok n f (sym (slice_get_front h (e ∷ []) n l) ∙ at)

-- a thread releases a lock no more often than it acquires it
module _ (h : List Numbered) (ok : IsWellFormed h) (t l : ℕ) where
  abbrev acquires : Numbered → Bool
  acquires e = (e.thread == t) && is_acquire_of l e.what

  abbrev releases : Numbered → Bool
  releases e = (e.thread == t) && is_release_of l e.what

  paired_up_to : (n : ℕ) → count_by releases (take n h) ≤ count_by acquires (take n h)
  paired_up_to zero = omega arith
  paired_up_to (suc n) = go (slice_get h n) refl (paired_up_to n)
    where
      at_event : (b : Numbered) → slice_get h n ≡ Some b → (releases b ≡ true) ⊎ (releases b ≡ false) → count_by releases (take n h) ≤ count_by acquires (take n h) → count_by releases (take (suc n) h) ≤ count_by acquires (take (suc n) h)
      at_event b at (inl r) before =
          let parts = and_parts (b.thread == t) (is_release_of l b.what) r in
          let some = released_held h ok n l b at (release_is l b.what parts.1) in
          let some_of : 0 < held (take n h) t l = subst (λ u. 0 < held (take n h) u l) (eqb-true b.thread t parts.0) some in
          let one : cond {A = ℕ} (releases b) 1 0 ≡ 1 = ap (λ x. cond {A = ℕ} x 1 0) r in
          omega (arith, count_by_more acquires h n b at, count_by_more releases h n b at)
      at_event b at (inr r) before =
          let none : cond {A = ℕ} (releases b) 1 0 ≡ 0 = ap (λ x. cond {A = ℕ} x 1 0) r in
          omega (arith, count_by_more acquires h n b at, count_by_more releases h n b at)

      go : (o : Option Numbered) → slice_get h n ≡ o → count_by releases (take n h) ≤ count_by acquires (take n h) → count_by releases (take (suc n) h) ≤ count_by acquires (take (suc n) h)
      go None at before = subst (λ xs. count_by releases xs ≤ count_by acquires xs) (sym (take_past h n at)) before
      go (Some b) at before = at_event b at (cases_Bool (releases b)) before

  pub paired : count_by releases h ≤ count_by acquires h
  paired = subst (λ xs. count_by releases xs ≤ count_by acquires xs) (take_all (length h) h (omega arith)) (paired_up_to (length h))
