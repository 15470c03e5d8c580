-- Lists of what is kept: what is found by a thread.
use Rattle.std.proofs.Common.{ap₂, max, take, ◌+◌, add-one, ◌≡◌, ◌<◌, ◌⊎◌, inl, inr, ⊎_elim, ℕ, zero, suc, List, [], ◌∷◌, ◌++◌, length, Option, Some, None, refl, sym, ap, ◌∙◌, arith}
use Rattle.std.specs.Prelude.{◌==◌, ◌||◌, is_some, is_none, nat_lt, Bool, true, false, if◌then◌else◌, slice_get, slice_set, find}
use Rattle.std.specs.List.{list_any, position, position_or_len}
use Rattle.std.specs.Option.{option_or}
use Rattle.std.proofs.lemmas.Bool.{cases_eq, cases_lt, cases_Bool, lt-ltb, and_parts, and_from, eqb-true, eq-eqb, ne_eqb, cond-true, cond-false}
use Rattle.std.proofs.lemmas.List.Folds.{find_at, find-append, list_any-append}
use Rattle.std.proofs.lemmas.List.Quantifiers.{position-Some}
use Rattle.std.proofs.lemmas.Option.{slice_get_past, slice_get-get_or, same_Some}
use Rattle.aero_engine.specs.declared.slot.Slot.{Slot}
use Rattle.aero_engine.specs.declared.slot.Slot.TheVariants.{OfThread, LastWrite, LastRead, LastRelease}
use Rattle.aero_engine.proofs.Written.{slice_get-set, slice_get-pushed}
use Rattle.aero_access.specs.declared.kept.Kept.{Kept}
use Rattle.aero_access.specs.declared.readers.Readers.{Readers}
use Rattle.aero_access.specs.Table.{readers_in, AreLabelled}
use Rattle.aero_access.specs.LastClocks.{kept_thread, is_by, flat, clock_but, greatest_but, same_slot, AreApart}

-- what is kept by a thread
apart_rest : (k : Kept) (ks : List Kept) → AreApart (k ∷ ks) → AreApart ks
apart_rest k ks h i j t a b = let e : suc i ≡ suc j = h (suc i) (suc j) t a b in omega arith

pub find_kept : (ks : List Kept) (i t : ℕ) (k : Kept) → AreApart ks → slice_get ks i ≡ Some k → k.thread ≡ t → find (is_by t) ks ≡ Some k
find_kept [] i t k h at by = cc
find_kept (x ∷ ks) zero t k h at by =
    let same : x ≡ k = same_Some x k at in
    cond-true (x.thread == t) _ _ (eq-eqb x.thread t (ap (λ (a : Kept). a.thread) same ∙ by)) ∙ at
find_kept (x ∷ ks) (suc i) t k h at by =
    ⊎_elim
    (λ e. let z : 0 ≡ suc i = h 0 (suc i) t (ap Some (eqb-true x.thread t e)) (ap kept_thread at ∙ ap Some by) in absurd (omega arith))
    (λ e. cond-false (x.thread == t) _ _ e ∙ find_kept ks i t k (apart_rest x ks h) at by)
    (cases_Bool (x.thread == t))

pub find_by : (ks : List Kept) (t : ℕ) (k : Kept) → find (is_by t) ks ≡ Some k → k.thread ≡ t
find_by [] t k h = cc
find_by (x ∷ ks) t k h =
    ⊎_elim
    (λ e. let same : x ≡ k = same_Some x k (sym (cond-true (x.thread == t) _ _ e) ∙ h) in ap (λ (a : Kept). a.thread) (sym same) ∙ eqb-true x.thread t e)
    (λ e. find_by ks t k (sym (cond-false (x.thread == t) _ _ e) ∙ h))
    (cases_Bool (x.thread == t))

-- where the kept at a place is replaced by another of its thread
module _ (ks : List Kept) (i : ℕ) (v : Kept) (apart : AreApart ks) (within : i < length ks) (by : kept_thread (slice_get ks i) ≡ Some v.thread) where
  threads_same : (n : ℕ) → kept_thread (slice_get (slice_set ks i v) n) ≡ kept_thread (slice_get ks n)
  threads_same n =
      ⊎_elim
      (λ e. ap kept_thread (slice_get-set ks i v n within ∙ cond-true (i == n) _ _ (eq-eqb i n e)) ∙ sym by ∙ ap (λ m. kept_thread (slice_get ks m)) e)
      (λ ne. ap kept_thread (slice_get-set ks i v n within ∙ cond-false (i == n) _ _ (ne_eqb i n ne)))
      (cases_eq i n)

  pub apart_set : AreApart (slice_set ks i v)
  apart_set m n t a b = apart m n t (sym (threads_same m) ∙ a) (sym (threads_same n) ∙ b)

  other_past : (n t : ℕ) (xs : List Kept) → n < length xs → kept_thread (slice_get xs n) ≡ Some v.thread → v.thread == t ≡ false → find (is_by t) (slice_set xs n v) ≡ find (is_by t) xs
  other_past n t [] l h ne = absurd (omega arith)
  other_past zero t (x ∷ xs) l h ne =
      let same : x.thread ≡ v.thread = same_Some x.thread v.thread h in
      cond-false (v.thread == t) _ _ ne ∙ sym (cond-false (x.thread == t) _ _ (ap (λ a. a == t) same ∙ ne))
  other_past (suc n) t (x ∷ xs) l h ne = ap (λ o. if x.thread == t then Some x else o) (other_past n t xs (omega arith) h ne)

  pub find-set : (t : ℕ) → find (is_by t) (slice_set ks i v) ≡ (if v.thread == t then Some v else find (is_by t) ks)
  find-set t =
      ⊎_elim
      (λ e.
      find_kept (slice_set ks i v) i t v apart_set (slice_get-set ks i v i within ∙ cond-true (i == i) _ _ (eq-eqb i i refl)) (eqb-true v.thread t e)
      ∙ sym (cond-true (v.thread == t) _ _ e))
      (λ e. other_past i t ks within by e ∙ sym (cond-false (v.thread == t) _ _ e))
      (cases_Bool (v.thread == t))

-- where one is put to the end whose thread has none
module _ (ks : List Kept) (v : Kept) (apart : AreApart ks) (none : find (is_by v.thread) ks ≡ None) where
  by_others : (n : ℕ) → kept_thread (slice_get ks n) ≡ Some v.thread → ⊥
  by_others n h = go (slice_get ks n) refl h
    where
      go : (o : Option Kept) → slice_get ks n ≡ o → kept_thread o ≡ Some v.thread → ⊥
      go None at h = cc
      go (Some k) at h = let f = find_kept ks n v.thread k apart at (same_Some k.thread v.thread h) in cc

  pub apart_push : AreApart (ks ++ v ∷ [])
  apart_push m n t a b = go (cases_eq m (length ks)) (cases_eq n (length ks))
    where
      at_end : (i : ℕ) → i ≡ length ks → kept_thread (slice_get (ks ++ v ∷ []) i) ≡ Some t → v.thread ≡ t
      at_end i e h = same_Some v.thread t (sym (ap kept_thread (slice_get-pushed ks v i ∙ cond-true (i == length ks) _ _ (eq-eqb i (length ks) e))) ∙ h)

      before : (i : ℕ) → (i ≡ length ks → ⊥) → kept_thread (slice_get (ks ++ v ∷ []) i) ≡ Some t → kept_thread (slice_get ks i) ≡ Some t
      before i ne h = sym (ap kept_thread (slice_get-pushed ks v i ∙ cond-false (i == length ks) _ _ (ne_eqb i (length ks) ne))) ∙ h

      go : (m ≡ length ks) ⊎ (m ≡ length ks → ⊥) → (n ≡ length ks) ⊎ (n ≡ length ks → ⊥) → m ≡ n
      go (inl e) (inl f) = e ∙ sym f
      go (inl e) (inr nf) = absurd (by_others n (before n nf b ∙ ap Some (sym (at_end m e a))))
      go (inr ne) (inl f) = absurd (by_others m (before m ne a ∙ ap Some (sym (at_end n f b))))
      go (inr ne) (inr nf) = apart m n t (before m ne a) (before n nf b)

  pub find-push : (t : ℕ) → find (is_by t) (ks ++ v ∷ []) ≡ (if v.thread == t then Some v else find (is_by t) ks)
  find-push t = find-append (is_by t) ks (v ∷ []) ∙ go (v.thread == t) refl (find (is_by t) ks) refl
    where
      go : (b : Bool) → v.thread == t ≡ b → (o : Option Kept) → find (is_by t) ks ≡ o → option_or o (if b then Some v else None) ≡ (if b then Some v else o)
      go true e None h = refl
      go true e (Some k) h = let z : find (is_by v.thread) ks ≡ Some k = ap (λ u. find (is_by u) ks) (eqb-true v.thread t e) ∙ h in cc
      go false e None h = refl
      go false e (Some k) h = refl

-- what a look for the place of a thread finds
pub position_at : (ks : List Kept) (t i : ℕ) (d : Kept) → position (is_by t) ks ≡ Some i → (i < length ks) × (kept_thread (slice_get ks i) ≡ Some t)
position_at ks t i d h =
    let p = position-Some (is_by t) ks i d h in
    (p.0, ap kept_thread (slice_get-get_or ks i d p.0) ∙ ap Some (eqb-true _ t p.1))

pub position_none : (ks : List Kept) (t : ℕ) → position (is_by t) ks ≡ None → find (is_by t) ks ≡ None
position_none ks t h =
    find_at (is_by t) ks
    ∙ ⊎_elim
    (λ l. let z : Some (position_or_len (is_by t) ks) ≡ None = sym (cond-true (nat_lt (position_or_len (is_by t) ks) (length ks)) _ _ (lt-ltb _ _ l)) ∙ h in cc)
    (λ le. slice_get_past ks (position_or_len (is_by t) ks) le)
    (cases_lt (position_or_len (is_by t) ks) (length ks))

-- after a write at a number
pub flat-set : (xs old : List (Option Kept)) (i : ℕ) (e : Kept) → i < length xs → ((n : ℕ) → flat (slice_get xs n) ≡ flat (slice_get old n)) → (n : ℕ) → flat (slice_get (slice_set xs i (Some e)) n) ≡ (if i == n then Some e else flat (slice_get old n))
flat-set xs old i e l same n =
    ⊎_elim
    (λ h. ap flat (slice_get-set xs i (Some e) n l ∙ cond-true (i == n) _ _ h) ∙ sym (cond-true (i == n) _ _ h))
    (λ h. ap flat (slice_get-set xs i (Some e) n l ∙ cond-false (i == n) _ _ h) ∙ same n ∙ sym (cond-false (i == n) _ _ h))
    (cases_Bool (i == n))

-- the greatest of one more
pub greatest_but-take : (t : ℕ) (ks : List Kept) (i : ℕ) (k : Kept) (u : ℕ) → slice_get ks i ≡ Some k → greatest_but t (take (suc i) ks) u ≡ max (clock_but t k u) (greatest_but t (take i ks) u)
greatest_but-take t [] i k u h = cc
greatest_but-take t (x ∷ ks) zero k u h = ap (λ (a : Kept). max (clock_but t a u) 0) (same_Some x k h)
greatest_but-take t (x ∷ ks) (suc i) k u h =
    ap (λ m. max (clock_but t x u) m) (greatest_but-take t ks i k u h) ∙ omega arith

pub greatest_but-more : (t : ℕ) (ks : List Kept) (i : ℕ) (k : Kept) (u : ℕ) → slice_get ks i ≡ Some k → greatest_but t (take (i + 1) ks) u ≡ max (clock_but t k u) (greatest_but t (take i ks) u)
greatest_but-more t ks i k u h = ap (λ m. greatest_but t (take m ks) u) (add-one i) ∙ greatest_but-take t ks i k u h

-- after a write among the readers
pub read-set : (reads old : List Readers) (x : ℕ) (r : Readers) (y t : ℕ) → x < length reads → ((n : ℕ) → readers_in (slice_get reads n) ≡ readers_in (slice_get old n)) → find (is_by t) (readers_in (slice_get (slice_set reads x r) y)) ≡ (if x == y then find (is_by t) r.kept.items else find (is_by t) (readers_in (slice_get old y)))
read-set reads old x r y t l same =
    ⊎_elim
    (λ h. ap (λ o. find (is_by t) (readers_in o)) (slice_get-set reads x r y l ∙ cond-true (x == y) _ _ h) ∙ sym (cond-true (x == y) _ _ h))
    (λ h. ap (λ o. find (is_by t) (readers_in o)) (slice_get-set reads x r y l ∙ cond-false (x == y) _ _ h) ∙ ap (find (is_by t)) (same y) ∙ sym (cond-false (x == y) _ _ h))
    (cases_Bool (x == y))

-- which slots are the same
pub same_slot_is : (s r : Slot) → same_slot s r ≡ true → s ≡ r
same_slot_is (OfThread t) (OfThread u) h = ap OfThread (eqb-true t u h)
same_slot_is (LastWrite x) (LastWrite y) h = ap LastWrite (eqb-true x y h)
same_slot_is (LastRead x t) (LastRead y u) h = let p = and_parts (x == y) (t == u) h in ap₂ LastRead (eqb-true x y p.0) (eqb-true t u p.1)
same_slot_is (LastRelease l) (LastRelease m) h = ap LastRelease (eqb-true l m h)
same_slot_is _ _ h = cc

pub same_slot_self : (s : Slot) → same_slot s s ≡ true
same_slot_self (OfThread t) = eq-eqb t t refl
same_slot_self (LastWrite x) = eq-eqb x x refl
same_slot_self (LastRead x t) = and_from _ _ (eq-eqb x x refl) (eq-eqb t t refl)
same_slot_self (LastRelease l) = eq-eqb l l refl

-- labels follow what is kept
module _ (old new : Slot → Option Kept) (before after : List Slot) (slot : Slot) (kept : Kept) (labelled : AreLabelled old before) where
  pub labelled_keep : (is_new : Bool) → is_new ≡ is_none (old slot) → ((s : Slot) → new s ≡ (if same_slot s slot then Some kept else old s)) → after ≡ (if is_new then before ++ slot ∷ [] else before) → AreLabelled new after
  labelled_keep true n at l s =
      ap (list_any (same_slot s)) l ∙ list_any-append (same_slot s) before (slot ∷ []) ∙ ap (λ b. b || (same_slot s slot || false)) (labelled s)
      ∙ cases (same_slot s slot) (old s) ∙ sym (ap is_some (at s))
    where
      cases : (b : Bool) (o : Option Kept) → (is_some o || (b || false)) ≡ is_some (if b then Some kept else o)
      cases true None = refl
      cases true (Some k) = refl
      cases false None = refl
      cases false (Some k) = refl
  labelled_keep false n at l s =
      ap (list_any (same_slot s)) l ∙ labelled s ∙ cases (same_slot s slot) refl ∙ sym (ap is_some (at s))
    where
      held : (o : Option Kept) → false ≡ is_none o → is_some o ≡ true
      held None h = cc
      held (Some k) h = refl

      cases : (b : Bool) → same_slot s slot ≡ b → is_some (old s) ≡ is_some (if b then Some kept else old s)
      cases true e = ap (λ r. is_some (old r)) (same_slot_is s slot e) ∙ held (old slot) n
      cases false e = refl

  pub labelled_same : ((s : Slot) → new s ≡ old s) → after ≡ before → AreLabelled new after
  labelled_same at l s = ap (list_any (same_slot s)) l ∙ labelled s ∙ sym (ap is_some (at s))
