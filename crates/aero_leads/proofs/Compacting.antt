-- Reads that are left out, since others cover them.
use Rattle.std.proofs.Common.{◌≡◌, ◌≢◌, ◌⊎◌, inl, inr, ⊎_elim, ℕ, suc, ◌+◌, ◌≤◌, Bool, true, false, not, cond, ltb, get_or, List, [], ◌∷◌, ◌++◌, Contains, IsPermutation, IsSortedBy, refl, sym, ap, ◌∙◌, subst, le_refl, arith}
use Rattle.std.specs.Prelude.{◌==◌, if◌then◌else◌}
use Rattle.std.specs.List.{dedup, dedup_from}
use Rattle.std.specs.Cmp.{IsStrictWeakOrder}
use Rattle.std.specs.Ordering.{is_lt, nat_cmp}
use Rattle.std.specs.Fn.{Called, ComparesAs}
use denote.Param.Members.{Mut}
use denote.Ref.{Bor}
use Rattle.std.specs.declared.cmp.Ordering.{Ordering}
use Rattle.std.specs.declared.cmp.Ordering.TheVariants.{Less, Equal, Greater}
use Rattle.std.proofs.lemmas.Fn.{always_returns_same}
use Rattle.std.proofs.lemmas.Bool.{eqb-true, ltb-false}
use Rattle.std.proofs.lemmas.List.Elements.{Contains-append_left, Contains-append_right, Contains-append_cases}
use Rattle.std.proofs.lemmas.List.Sorted.{sorted_far, Contains-permutation, IsPermutation-sym, IsStrictWeakOrder-flip, IsStrictWeakOrder-by_number}
use Rattle.std.proofs.lemmas.List.Kept.{Contains-from_dedup}
use Rattle.aero_model.proofs.Elements.{none_in, here, there, first_or_rest}
use Rattle.aero_leads.specs.declared.last.Last.{Last}
use Rattle.aero_leads.specs.Kept.{reads_but, rank, IsCovered, AreCompacted, AreKept}

-- what is left of a list without a thread's
among_but : (t : ℕ) (l : Last) (ls : List Last) → Contains (reads_but t ls) l → Contains ls l
among_but t l [] a = absurd (none_in a)
among_but t l (k ∷ ks) a = go (among_but t l ks) (k.thread == t) a
  where
    go : (Contains (reads_but t ks) l → Contains ks l) → (b : Bool) → Contains (if not b then k ∷ reads_but t ks else reads_but t ks) l → Contains (k ∷ ks) l
    go on true a = there k ks (on a)
    go on false a = ⊎_elim (λ same. subst (λ j. Contains (j ∷ ks) l) same (here ks)) (λ more. there k ks (on more)) (first_or_rest k (reads_but t ks) a)

but_among : (t : ℕ) (l : Last) (ls : List Last) → Contains ls l → l.thread ≢ t → Contains (reads_but t ls) l
but_among t l [] a ne = absurd (none_in a)
but_among t l (k ∷ ks) a ne = go (λ m. but_among t l ks m ne) (k.thread == t) refl (first_or_rest k ks a)
  where
    go : (Contains ks l → Contains (reads_but t ks) l) → (b : Bool) → k.thread == t ≡ b → (l ≡ k) ⊎ Contains ks l → Contains (if not b then k ∷ reads_but t ks else reads_but t ks) l
    go on true e (inl same) = absurd (ne (ap (λ (j : Last). j.thread) same ∙ eqb-true k.thread t e))
    go on true e (inr m) = on m
    go on false e (inl same) = subst (λ j. Contains (j ∷ reads_but t ks) l) same (here (reads_but t ks))
    go on false e (inr m) = there k (reads_but t ks) (on m)

pub but_kept : (t : ℕ) (ls : List Last) → AreKept t ls (reads_but t ls)
but_kept t ls = record { each = λ l a. among_but t l ls a; all = λ l a ne. (l, but_among t l ls a ne, refl, le_refl l.count) }

pub compact_kept : (t : ℕ) (old mid new : List Last) → AreCompacted old mid → new ≡ mid → AreKept t old new
compact_kept t old mid new h is = subst (AreKept t old) (sym is) (record { each = h.each; all = λ l a ne. h.all l a })

-- more reads behind both
kept_append : (t : ℕ) (old new more : List Last) → AreKept t old new → AreKept t (old ++ more) (new ++ more)
kept_append t old new more h = record {
  each = λ l a. ⊎_elim (λ m. Contains-append_left old more l (h.each l m)) (λ m. Contains-append_right old more l m) (Contains-append_cases new more l a);
  all = λ l a ne. ⊎_elim
      (λ m. let c = h.all l m ne in (c.0, Contains-append_left new more c.0 c.1, c.2, c.3))
      (λ m. (l, Contains-append_right new more l m, refl, le_refl l.count))
      (Contains-append_cases old more l a);
}

pub put_kept : (t : ℕ) (old mid new more : List Last) → AreKept t old mid → new ≡ mid ++ more → AreKept t (old ++ more) new
put_kept t old mid new more h is = subst (AreKept t (old ++ more)) (sym is) (kept_append t old mid more h)

-- no read of the list by the same thread is later
abbrev Leads : Last → List Last → Type 0
Leads k ls = (y : Last) → Contains ls y → y.thread ≡ k.thread → y.count ≤ k.count

abbrev Falls : List Last → Type 0
Falls [] = Unit {0}
Falls (x ∷ xs) = Leads x xs × Falls xs

-- the order that is sorted by
abbrev later : Last → Last → Bool
later x y = ltb (rank y) (rank x)

later_order : IsStrictWeakOrder later
later_order = IsStrictWeakOrder-flip (λ x y. ltb (rank x) (rank y)) (IsStrictWeakOrder-by_number rank)

is_lt_cmp : (x y : ℕ) → is_lt (nat_cmp x y) ≡ ltb x y
is_lt_cmp x y = go (ltb x y) (x == y)
  where
    go : (a b : Bool) → is_lt (cond a Less (cond b Equal Greater)) ≡ a
    go true b = refl
    go false true = refl
    go false false = refl

-- from the clause of the sort, of which each call compares two ranks
pub sorted_later : {F : Type 0} {g : Mut F (Bor Last × (Bor Last × Unit {0})) Ordering} {f : F} (xs : List Last)
    → ((lt : Last → Last → Bool) → IsStrictWeakOrder lt → ComparesAs g lt f → IsSortedBy lt xs)
    → ((a : Bor Last × (Bor Last × Unit {0})) (r : Ordering) (f' : F) → Called g f a r f' → (r ≡ nat_cmp (rank a.1.0.now) (rank a.0.now)) × (f' ≡ f)) → IsSortedBy later xs
sorted_later {g = g} {f = f} xs up calls =
    up later later_order (always_returns_same g (λ a r. is_lt r ≡ later a.0.now a.1.0.now) f (λ a r f' k. let h = calls a r f' k in (ap is_lt h.0 ∙ is_lt_cmp (rank a.1.0.now) (rank a.0.now), h.1)))

falls_of : (xs : List Last) → IsSortedBy later xs → Falls xs
falls_of [] up = tt
falls_of (x ∷ xs) up = (
  first,
  falls_of xs (λ k d z l.
      let next : suc k + 1 ≡ suc (k + 1) = omega arith in
      subst (λ i. later (get_or (x ∷ xs) i d) (get_or xs k d) ≡ false) next (up (suc k) d (omega arith) (omega (arith, l)))),
)
  where
    first : Leads x xs
    first y a same =
        let far : rank (get_or xs a.0 y) ≤ rank x = ltb-false (rank x) (rank (get_or xs a.0 y)) (sorted_far later later_order (x ∷ xs) up 0 (suc a.0) y (omega arith) (omega (arith, a.1))) in
        let le : rank y ≤ rank x = subst (λ z. rank z ≤ rank x) a.2 far in
        omega (arith, le, same)

abbrev pub same_thread : Last → Last → Bool
same_thread x k = x.thread == k.thread

-- the first of each run covers the run
covers_step : (k x : Last) (xs : List Last) → Leads k (x ∷ xs)
    → ((m : Last) → (m ≡ k) ⊎ Contains xs m → IsCovered (dedup_from same_thread k xs) m)
    → ((m : Last) → (m ≡ x) ⊎ Contains xs m → IsCovered (dedup_from same_thread x xs) m)
    → (b : Bool) → x.thread == k.thread ≡ b → (l : Last) → (l ≡ k) ⊎ ((l ≡ x) ⊎ Contains xs l) → IsCovered (cond b (dedup_from same_thread k xs) (k ∷ dedup_from same_thread x xs)) l
covers_step k x xs top on_k on_x true e l (inl h) = on_k l (inl h)
covers_step k x xs top on_k on_x true e l (inr (inl h)) =
    let c = on_k k (inl refl) in
    let thread : x.thread ≡ k.thread = eqb-true x.thread k.thread e in
    let le : x.count ≤ k.count = top x (here xs) thread in
    let same : l.count ≡ x.count = ap (λ (j : Last). j.count) h in
    (c.0, c.1, c.2 ∙ sym thread ∙ ap (λ (j : Last). j.thread) (sym h), omega (arith, le, same, c.3))
covers_step k x xs top on_k on_x true e l (inr (inr a)) = on_k l (inr a)
covers_step k x xs top on_k on_x false e l (inl h) = let same : l.count ≡ k.count = ap (λ (j : Last). j.count) h in (k, here (dedup_from same_thread x xs), ap (λ (j : Last). j.thread) (sym h), omega (arith, same))
covers_step k x xs top on_k on_x false e l (inr m) = let c = on_x l m in (c.0, there k (dedup_from same_thread x xs) c.1, c.2, c.3)

covers_from : (k : Last) (xs : List Last) → Leads k xs → Falls xs → (l : Last) → (l ≡ k) ⊎ Contains xs l → IsCovered (dedup_from same_thread k xs) l
covers_from k [] top falls l (inl h) = let same : l.count ≡ k.count = ap (λ (j : Last). j.count) h in (k, here [], ap (λ (j : Last). j.thread) (sym h), omega (arith, same))
covers_from k [] top falls l (inr a) = absurd (none_in a)
covers_from k (x ∷ xs) top falls l at =
    covers_step k x xs top (covers_from k xs (λ y a. top y (there x xs a)) falls.1) (covers_from x xs falls.0 falls.1) (x.thread == k.thread) refl l
    (⊎_elim (λ h. inl h) (λ a. inr (first_or_rest x xs a)) at)

dedup_covers : (xs : List Last) → Falls xs → (l : Last) → Contains xs l → IsCovered (dedup same_thread xs) l
dedup_covers [] falls l a = absurd (none_in a)
dedup_covers (x ∷ xs) falls l a = covers_from x xs falls.0 falls.1 l (first_or_rest x xs a)

pub compacted : (old mid new : List Last) → IsPermutation old mid → IsSortedBy later mid → new ≡ dedup same_thread mid → AreCompacted old new
compacted old mid new moved up is = record {
  each = λ l a. Contains-permutation mid old l (IsPermutation-sym old mid moved) (Contains-from_dedup same_thread mid l (subst (λ ls. Contains ls l) is a));
  all = λ l a. subst (λ ls. IsCovered ls l) (sym is) (dedup_covers mid (falls_of mid up) l (Contains-permutation old mid l moved a));
}
