-- The places of labels.
use Rattle.std.proofs.Common.{◌≡◌, ◌≢◌, ⊎_elim, ℕ, List, [], ◌∷◌, ◌++◌, length, max, Option, Some, None, refl, sym, ap, ◌∙◌, arith, le_refl, Bor}
use Rattle.std.specs.Prelude.{◌==◌, Bool, true, false, if◌then◌else◌, slice_get, is_some, is_none, not, Result, Ok, Err, OnOk, OnErr}
use Rattle.std.proofs.lemmas.Bool.{cases_Bool, cases_eq, both_ways, cond-true, cond-false, eq-eqb, ne_eqb}
use Rattle.std.proofs.lemmas.Option.{slice_get_within, slice_get_past, same_Some}
use Rattle.std.specs.Option.{option_copied}
use Rattle.aero_engine.specs.declared.slot.Slot.{Slot}
use Rattle.aero_engine.proofs.Written.{pushed_here, pushed_other}
use Rattle.aero_access.specs.declared.kept.Kept.{Kept}
use Rattle.aero_access.specs.declared.table.Table.{Table}
use Rattle.aero_access.specs.LastClocks.{same_slot, kept_clock}
use Rattle.aero_access.specs.Table.{AreLabelled, ArePlaced}
use Rattle.aero_access.specs.TableWords.{kept_of, labels_of, label_or, place_of, slot_clock, label_clock}
use Rattle.aero_access.proofs.KeptLists.{same_slot_is, same_slot_self, labelled_keep, labelled_same}
use Rattle.aero_access.proofs.SlotNumbers.{labelled_at, label_kept}

module _ (old new : Slot → Option Kept) (before after : List Slot) (slot : Slot) (kept : Kept) (labelled : AreLabelled old before) (placed : ArePlaced old before) (keeps : (s : Slot) → new s ≡ (if same_slot s slot then Some kept else old s)) where
  at_slot : (s : Slot) (k : Kept) → same_slot s slot ≡ true → new s ≡ Some k → kept ≡ k
  at_slot s k e h = same_Some kept k (sym (keeps s ∙ cond-true (same_slot s slot) _ _ e) ∙ h)

  at_other : (s : Slot) (k : Kept) → same_slot s slot ≡ false → new s ≡ Some k → old s ≡ Some k
  at_other s k e h = sym (keeps s ∙ cond-false (same_slot s slot) _ _ e) ∙ h

  module _ (none : old slot ≡ None) (pushed : after ≡ before ++ slot ∷ []) (label : kept.label ≡ length before) where
    at_end : (i : ℕ) → i ≡ length before → slice_get after i ≡ Some slot
    at_end i e = ap (λ ls. slice_get ls i) pushed ∙ ap (slice_get (before ++ slot ∷ [])) e ∙ pushed_here before slot

    at_front : (i : ℕ) → i ≢ length before → slice_get after i ≡ slice_get before i
    at_front i ne = ap (λ ls. slice_get ls i) pushed ∙ pushed_other before slot i ne

    pub placed_new : ArePlaced new after
    placed_new = record {
      at = λ s k h. ⊎_elim
          (λ (e : same_slot s slot ≡ true). at_end k.label (ap (λ (a : Kept). a.label) (sym (at_slot s k e h)) ∙ label) ∙ ap Some (sym (same_slot_is s slot e)))
          (λ e. let p = placed.at s k (at_other s k e h) in let l = slice_get_within before k.label s p in at_front k.label (λ z. omega (arith, l, z)) ∙ p)
          (cases_Bool (same_slot s slot));
      only = λ s k i h l. ⊎_elim
          (λ (e : same_slot s slot ≡ true). ⊎_elim
          (λ (z : i ≡ length before). z ∙ sym label ∙ ap (λ (a : Kept). a.label) (at_slot s k e h))
          (λ ne. absurd (both_ways (is_some (old s)) (ap (λ r. is_some (old r)) (same_slot_is s slot e) ∙ ap is_some none) (sym (labelled s) ∙ labelled_at s before i (sym (at_front i ne) ∙ l))))
          (cases_eq i (length before)))
          (λ e. ⊎_elim
          (λ (z : i ≡ length before). let same : slot ≡ s = same_Some slot s (sym (at_end i z) ∙ l) in absurd (both_ways (same_slot s slot) e (ap (same_slot s) same ∙ same_slot_self s)))
          (λ ne. placed.only s k i (at_other s k e h) (sym (at_front i ne) ∙ l))
          (cases_eq i (length before)))
          (cases_Bool (same_slot s slot));
    }

  module _ (known : Kept) (some : old slot ≡ Some known) (same : after ≡ before) (label : kept.label ≡ known.label) where
    pub placed_known : ArePlaced new after
    placed_known = record {
      at = λ s k h. ap (λ ls. slice_get ls k.label) same ∙ ⊎_elim
          (λ (e : same_slot s slot ≡ true). ap (slice_get before) (ap (λ (a : Kept). a.label) (sym (at_slot s k e h)) ∙ label) ∙ placed.at slot known some ∙ ap Some (sym (same_slot_is s slot e)))
          (λ e. placed.at s k (at_other s k e h))
          (cases_Bool (same_slot s slot));
      only = λ s k i h l. let at = sym (ap (λ ls. slice_get ls i) same) ∙ l in ⊎_elim
          (λ (e : same_slot s slot ≡ true). placed.only slot known i some (at ∙ ap Some (same_slot_is s slot e)) ∙ sym label ∙ ap (λ (a : Kept). a.label) (at_slot s k e h))
          (λ e. placed.only s k i (at_other s k e h) at)
          (cases_Bool (same_slot s slot));
    }

pub placed_same : (old new : Slot → Option Kept) (before after : List Slot) → ArePlaced old before → ((s : Slot) → new s ≡ old s) → after ≡ before → ArePlaced new after
placed_same old new before after placed same labels = record {
  at = λ s k h. ap (λ ls. slice_get ls k.label) labels ∙ placed.at s k (sym (same s) ∙ h);
  only = λ s k i h l. placed.only s k i (sym (same s) ∙ h) (sym (ap (λ ls. slice_get ls i) labels) ∙ l);
}

-- a slot is kept, or memory is refused
pub placed_set : {A E : Type 0} (r : Result A E) (old new : Slot → Option Kept) (before after : List Slot) (slot : Slot) (kept : Kept) (is_new : Bool) → AreLabelled old before → ArePlaced old before → is_new ≡ is_none (old slot) → kept.label ≡ label_or (length before) (old slot)
    → OnOk r ((s : Slot) → new s ≡ (if same_slot s slot then Some kept else old s)) → OnErr r ((s : Slot) → new s ≡ old s) → OnOk r (after ≡ (if is_new then before ++ slot ∷ [] else before)) → OnErr r (after ≡ before) → ArePlaced new after
placed_set (Err e) old new before after slot kept is_new labelled placed fresh label keeps same labels labels_same = placed_same old new before after placed same labels_same
placed_set (Ok x) old new before after slot kept is_new labelled placed fresh label keeps same labels labels_same = go (old slot) refl
  where
    go : (o : Option Kept) → old slot ≡ o → ArePlaced new after
    go None e =
        placed_new old new before after slot kept labelled placed keeps e (labels ∙ ap (λ b. if b then before ++ slot ∷ [] else before) (fresh ∙ ap is_none e)) (label ∙ ap (label_or (length before)) e)
    go (Some k) e =
        placed_known old new before after slot kept labelled placed keeps k e (labels ∙ ap (λ b. if b then before ++ slot ∷ [] else before) (fresh ∙ ap is_none e)) (label ∙ ap (label_or (length before)) e)

-- and the slots that have labels are those of which something is kept
pub labelled_set : {A E : Type 0} (r : Result A E) (old new : Slot → Option Kept) (before after : List Slot) (slot : Slot) (kept : Kept) (is_new : Bool) → AreLabelled old before → is_new ≡ is_none (old slot)
    → OnOk r ((s : Slot) → new s ≡ (if same_slot s slot then Some kept else old s)) → OnErr r ((s : Slot) → new s ≡ old s) → OnOk r (after ≡ (if is_new then before ++ slot ∷ [] else before)) → OnErr r (after ≡ before) → AreLabelled new after
labelled_set (Err e) old new before after slot kept is_new labelled fresh keeps same labels labels_same = labelled_same old new before after slot kept labelled same labels_same
labelled_set (Ok x) old new before after slot kept is_new labelled fresh keeps same labels labels_same = labelled_keep old new before after slot kept labelled is_new fresh keeps labels

-- a label's clock

-- what is kept of a slot is its label's clock
pub clock_at_place : (table : Table) (slot : Slot) (u : ℕ) → kept_clock (kept_of table slot) u ≡ label_clock table (place_of table slot) u
clock_at_place table slot u = go (kept_of table slot) refl
  where
    go : (o : Option Kept) → kept_of table slot ≡ o → kept_clock o u ≡ label_clock table (label_or (length (labels_of table)) o) u
    go None e = sym (ap (λ s. slot_clock table s u) (slice_get_past (labels_of table) (length (labels_of table)) (le_refl (length (labels_of table)))))
    go (Some k) e = sym (ap (λ s. slot_clock table s u) (table.placed.at slot k e) ∙ ap (λ o. kept_clock o u) e)

module _ (old new : Table) (slot : Slot) (K : ℕ → ℕ) (clock : (s : Slot) (u : ℕ) → kept_clock (kept_of new s) u ≡ (if same_slot s slot then K u else kept_clock (kept_of old s) u)) where
  clock_other : (i u : ℕ) (o : Option Slot) → slice_get (labels_of old) i ≡ o → slice_get (labels_of new) i ≡ o → i ≢ place_of old slot → label_clock new i u ≡ label_clock old i u
  clock_other i u None e f ne = ap (λ s. slot_clock new s u) f ∙ sym (ap (λ s. slot_clock old s u) e)
  clock_other i u (Some s) e f ne =
      ap (λ r. slot_clock new r u) f ∙ clock s u ∙ cond-false (same_slot s slot) _ _ (⊎_elim (λ (b : same_slot s slot ≡ true). absurd (here b (kept_of old slot) refl)) (λ b. b) (cases_Bool (same_slot s slot)))
      ∙ sym (ap (λ r. slot_clock old r u) e)
    where
      here : same_slot s slot ≡ true → (o : Option Kept) → kept_of old slot ≡ o → ⊥
      here b None g = both_ways (is_some (kept_of old slot)) (ap is_some g) (label_kept old i slot (e ∙ ap Some (same_slot_is s slot b)))
      here b (Some k) g = ne (old.placed.only slot k i g (e ∙ ap Some (same_slot_is s slot b)) ∙ sym (ap (label_or (length (labels_of old))) g))

  clock_here : (i u : ℕ) → slice_get (labels_of new) i ≡ Some slot → label_clock new i u ≡ K u
  clock_here i u f = ap (λ s. slot_clock new s u) f ∙ clock slot u ∙ cond-true (same_slot slot slot) _ _ (same_slot_self slot)

  -- after a slot is kept
  pub clock_set : labels_of new ≡ (if is_some (kept_of old slot) then labels_of old else labels_of old ++ slot ∷ []) → (i u : ℕ) → label_clock new i u ≡ (if i == place_of old slot then K u else label_clock old i u)
  clock_set labels i u = ⊎_elim
      (λ (e : i ≡ place_of old slot). clock_here i u (ap (slice_get (labels_of new)) e ∙ place (kept_of old slot) refl) ∙ sym (cond-true (i == place_of old slot) _ _ (eq-eqb i (place_of old slot) e)))
      (λ ne. clock_other i u (slice_get (labels_of old) i) refl (others (kept_of old slot) refl ne) ne ∙ sym (cond-false (i == place_of old slot) _ _ (ne_eqb i (place_of old slot) ne)))
      (cases_eq i (place_of old slot))
    where
      is : (o : Option Kept) → kept_of old slot ≡ o → labels_of new ≡ (if is_some o then labels_of old else labels_of old ++ slot ∷ [])
      is o g = labels ∙ ap (λ p. if is_some p then labels_of old else labels_of old ++ slot ∷ []) g

      place : (o : Option Kept) → kept_of old slot ≡ o → slice_get (labels_of new) (place_of old slot) ≡ Some slot
      place None g = ap (λ ls. slice_get ls (place_of old slot)) (is None g) ∙ ap (slice_get (labels_of old ++ slot ∷ [])) (ap (label_or (length (labels_of old))) g) ∙ pushed_here (labels_of old) slot
      place (Some k) g = ap (λ ls. slice_get ls (place_of old slot)) (is (Some k) g) ∙ ap (slice_get (labels_of old)) (ap (label_or (length (labels_of old))) g) ∙ old.placed.at slot k g

      others : (o : Option Kept) → kept_of old slot ≡ o → i ≢ place_of old slot → slice_get (labels_of new) i ≡ slice_get (labels_of old) i
      others None g ne = ap (λ ls. slice_get ls i) (is None g) ∙ pushed_other (labels_of old) slot i (λ z. ne (z ∙ sym (ap (label_or (length (labels_of old))) g)))
      others (Some k) g ne = ap (λ ls. slice_get ls i) (is (Some k) g)

-- after what is kept of a slot is joined with a clock
pub clock_joined : (old new : Table) (slot : Slot) (i : ℕ) (K : ℕ → ℕ) → ((s : Slot) (u : ℕ) → kept_clock (kept_of new s) u ≡ (if same_slot s slot then max (kept_clock (kept_of old s) u) (K u) else kept_clock (kept_of old s) u)) → labels_of new ≡ labels_of old → slice_get (labels_of old) i ≡ Some slot
    → (k u : ℕ) → label_clock new k u ≡ (if k == i then max (label_clock old i u) (K u) else label_clock old k u)
clock_joined old new slot i K clock labels at k u = ⊎_elim
    (λ (e : k ≡ i).
    ap (λ ls. slot_clock new (slice_get ls k) u) labels ∙ ap (λ s. slot_clock new s u) (ap (slice_get (labels_of old)) e ∙ at) ∙ clock slot u ∙ cond-true (same_slot slot slot) _ _ (same_slot_self slot)
    ∙ ap (λ m. max m (K u)) (sym (ap (λ s. slot_clock old s u) at)) ∙ sym (cond-true (k == i) _ _ (eq-eqb k i e)))
    (λ ne. ap (λ ls. slot_clock new (slice_get ls k) u) labels ∙ other (slice_get (labels_of old) k) refl ne ∙ sym (cond-false (k == i) _ _ (ne_eqb k i ne)))
    (cases_eq k i)
  where
    unlike : (s : Slot) → slice_get (labels_of old) k ≡ Some s → k ≢ i → (o : Option Kept) → kept_of old slot ≡ o → same_slot s slot ≡ true → ⊥
    unlike s e ne None g b = both_ways (is_some (kept_of old slot)) (ap is_some g) (label_kept old i slot at)
    unlike s e ne (Some q) g b = ne (old.placed.only slot q k g (e ∙ ap Some (same_slot_is s slot b)) ∙ sym (old.placed.only slot q i g at))

    other : (o : Option Slot) → slice_get (labels_of old) k ≡ o → k ≢ i → slot_clock new o u ≡ slot_clock old o u
    other None e ne = refl
    other (Some s) e ne = clock s u ∙ cond-false (same_slot s slot) _ _ (⊎_elim (λ (b : same_slot s slot ≡ true). absurd (unlike s e ne (kept_of old slot) refl b)) (λ b. b) (cases_Bool (same_slot s slot)))

-- what a look into the table says of a slot that is new
pub is_fresh : (is_new : Bool) (found : Option (Bor Kept)) (o : Option Kept) → option_copied found ≡ o → is_some found ≡ not is_new → is_new ≡ is_none o
is_fresh true None o e f = ap is_none e
is_fresh true (Some k) o e f = cc
is_fresh false None o e f = cc
is_fresh false (Some k) o e f = ap is_none e
