-- What is marked of a record, event by event.
use Rattle.std.proofs.Common.{◌≡◌, ℕ, zero, suc, ◌+◌, ◌<◌, Bool, true, false, if◌then◌else◌, List, [], ◌∷◌, ◌++◌, length, map, take, Option, Some, None, inl, inr, refl, sym, ◌∙◌, ap, subst, append-nil, append_assoc, add-one, arith}
use Rattle.std.specs.Prelude.{slice_get}
use Rattle.std.proofs.lemmas.Bool.{cases_lt}
use Rattle.std.proofs.lemmas.List.{length_push, map-append}
use Rattle.std.proofs.lemmas.Option.{same_Some, slice_get_within}
use Rattle.aero_model.specs.declared.numbered.Numbered.{Numbered}
use Rattle.aero_model.proofs.WellFormed.{slice_get-take, length-take_at}
use Rattle.aero_leads.specs.Leads.{Rows, is_led}
use Rattle.aero_leads.specs.Leasts.{IsLeastOf}
use Rattle.aero_witness.specs.Thinned.{marked}
use Rattle.aero_witness.proofs.Pushed.{push_front, push_last}
use Rattle.aero_judge.specs.Recorded.{AreMarks}
use Rattle.aero_judge.specs.Swept.{IsMarkedAt, items_at, one_or_none, set_places}

pub marks_next : (rows : Rows) (events : List Numbered) (places : List ℕ) (marks : List Bool) (i : ℕ) (e : Numbered) (mark : Bool) (place : Option ℕ)
    → slice_get events i ≡ Some e → place ≡ slice_get places i → IsMarkedAt (rows e.thread) place mark → AreMarks rows (take i events) places marks → AreMarks rows (take (i + 1) events) places (marks ++ mark ∷ [])
marks_next rows events places marks i e mark place here place_is (least, is, marked_so) so_far = record { each = each; at = at }
  where
    within : i < length events
    within = slice_get_within events i e here

    short : length (take i events) ≡ i
    short = length-take_at events i (omega (arith, within))

    each : length (marks ++ mark ∷ []) ≡ length (take (i + 1) events)
    each = let s = short in let w = within in let before = so_far.each in omega (arith, length_push marks mark, length-take_at events (i + 1) (omega arith))

    at : (j p : ℕ) (f : Numbered) → slice_get (take (i + 1) events) j ≡ Some f → slice_get places j ≡ Some p → (least : Option ℕ) × IsLeastOf (rows f.thread) least × (slice_get (marks ++ mark ∷ []) j ≡ Some (is_led least p))
    at j p f at_j place_j =
        let w = within in
        let less : j < i + 1 = (let l = slice_get_within (take (i + 1) events) j f at_j in let long = length-take_at events (i + 1) (omega arith) in omega arith) in
        let f_at : slice_get events j ≡ Some f = sym (slice_get-take events (i + 1) j less) ∙ at_j in
        elim (cases_lt j i) [
          | inl before ↦
              let old = so_far.at j p f (slice_get-take events i j before ∙ f_at) place_j in
              let long = so_far.each in
              let s = short in
              (old.0, old.1, push_front marks mark j (omega arith) ∙ old.2)
          | inr past ↦
              let same : j ≡ i = omega arith in
              let event = same_Some e f (sym here ∙ ap (slice_get events) (sym same) ∙ f_at) in
              let long = so_far.each in
              let s = short in
              let last : j ≡ length marks = omega arith in
              (least, subst (λ (x : Numbered). IsLeastOf (rows x.thread) least) event is, ap (slice_get (marks ++ mark ∷ [])) last ∙ push_last marks mark ∙ ap Some (marked_so p (place_is ∙ ap (slice_get places) (sym same) ∙ place_j)))
        ]

items_shifted : {X : Type 0} (x : X) (xs : List X) (places : List ℕ) → items_at (x ∷ xs) (map suc places) ≡ items_at xs places
items_shifted x xs [] = refl
items_shifted x xs (p ∷ ps) = ap (λ ys. one_or_none (slice_get xs p) ++ ys) (items_shifted x xs ps)

items_none : {X : Type 0} (places : List ℕ) → ◌≡◌ {A = List X} (items_at [] places) []
items_none [] = refl
items_none (p ∷ ps) = items_none ps

-- what stands at the places of marks that are set is what is marked
pub marked_items : {X : Type 0} (marks : List Bool) (xs : List X) → items_at xs (set_places marks) ≡ marked marks xs
marked_items [] xs = refl
marked_items (b ∷ bs) [] = items_none (set_places (b ∷ bs))
marked_items (true ∷ bs) (x ∷ xs) = ap (λ ys. x ∷ ys) (items_shifted x xs (set_places bs) ∙ marked_items bs xs)
marked_items (false ∷ bs) (x ∷ xs) = items_shifted x xs (set_places bs) ∙ marked_items bs xs

if_suc : (b : Bool) (n : ℕ) → map suc (if b then n ∷ [] else []) ≡ (if b then suc n ∷ [] else [])
if_suc true n = refl
if_suc false n = refl

next_place : (marks : List Bool) (i : ℕ) (b : Bool) → slice_get marks i ≡ Some b → set_places (take (suc i) marks) ≡ set_places (take i marks) ++ (if b then i ∷ [] else [])
next_place [] i b at = absurd (let none : None ≡ Some b = at in cc)
next_place (c ∷ cs) zero b at = append-nil (if c then 0 ∷ [] else []) ∙ ap (λ d. if d then 0 ∷ [] else []) (same_Some c b at)
next_place (c ∷ cs) (suc i) b at =
    ap (λ ps. (if c then 0 ∷ [] else []) ++ map suc ps) (next_place cs i b at)
    ∙ ap (λ ps. (if c then 0 ∷ [] else []) ++ ps) (map-append suc (set_places (take i cs)) (if b then i ∷ [] else []) ∙ ap (λ ps. map suc (set_places (take i cs)) ++ ps) (if_suc b i))
    ∙ sym (append_assoc (if c then 0 ∷ [] else []) (map suc (set_places (take i cs))) (if b then suc i ∷ [] else []))

-- with one mark more
pub places_next : (marks : List Bool) (i : ℕ) (b : Bool) → slice_get marks i ≡ Some b → set_places (take (i + 1) marks) ≡ set_places (take i marks) ++ (if b then i ∷ [] else [])
places_next marks i b at = ap (λ k. set_places (take k marks)) (add-one i) ∙ next_place marks i b at
