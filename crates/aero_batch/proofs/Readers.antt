-- Using the reader of one source changes nothing else of the sources.
use Rattle.std.proofs.Common.{◌≡◌, ℕ, zero, suc, List, [], ◌∷◌, map, slice_get, slice_set, Option, Some, refl, sym, ◌∙◌, ap}
use Rattle.std.specs.Prelude.{option_map, unwrap_or}
use Rattle.std.proofs.lemmas.Option.{slice_get-map}
use Rattle.aero_intake.specs.declared.source.SourceOf.{SourceOf}
use Rattle.aero_intake.specs.Source.{Sight, place_in}
use Rattle.aero_telling.specs.Founds.{Sighted, sighted, whose}
use Rattle.aero_batch.specs.Steps.{IsReadFrom}
use Rattle.aero_intake.proofs.Tracked.{changed_there, changed_elsewhere, set_changed}
use Rattle.aero_intake.specs.Stories.{changed}

module _ {R : Type 0} (sight : R → Sight) (sources : List (SourceOf R)) (place : ℕ) (x : SourceOf R) (reader : R)
    (at : slice_get sources place ≡ Some x) where
  abbrev used : SourceOf R
  used = record x { reader = reader }

  set_is : slice_set sources place used ≡ changed place (λ s. used) sources
  set_is = set_changed sources place x used (λ s. used) at refl

  pub others_stay : (s : ℕ) → (place ≡ s → ⊥) → slice_get (map (sighted sight) (slice_set sources place used)) s ≡ slice_get (map (sighted sight) sources) s
  others_stay s other =
      slice_get-map (sighted sight) (slice_set sources place used) s
      ∙ (ap (λ xs. option_map (sighted sight) (slice_get xs s)) set_is
      ∙ (ap (option_map (sighted sight)) (changed_elsewhere place s (λ y. used) sources other)
      ∙ sym (slice_get-map (sighted sight) sources s)))

  pub read_from : IsReadFrom (map (sighted sight) sources) (map (sighted sight) (slice_set sources place used)) place (sight x.reader)
      (sight reader)
  read_from = record {
    was = sighted sight x;
    was_there = slice_get-map (sighted sight) sources place ∙ ap (option_map (sighted sight)) at;
    used = refl;
    is_there = slice_get-map (sighted sight) (slice_set sources place used) place
        ∙ (ap (λ xs. option_map (sighted sight) (slice_get xs place)) set_is
        ∙ (ap (option_map (sighted sight)) (changed_there place (λ y. used) sources)
        ∙ ap (λ o. option_map (sighted sight) (option_map (λ y. used) o)) at));
    others = others_stay;
  }

pub names_stay : {R : Type 0} (sight : R → Sight) (sources : List (SourceOf R)) (place : ℕ) (x : SourceOf R) (reader : R) →
    slice_get sources place ≡ Some x → place_in (sight reader) ≡ place_in (sight x.reader) →
    map whose (map (sighted sight) (slice_set sources place (record x { reader = reader }))) ≡ map whose (map (sighted sight) sources)
names_stay sight [] place x reader at kept = refl
names_stay sight (c ∷ more) zero x reader at kept =
    let same : c ≡ x = cc at in
    ap (λ o. (x.name.items, o) ∷ map whose (map (sighted sight) more)) kept ∙ ap (λ s. whose (sighted sight s) ∷ map whose (map (sighted sight) more)) (sym same)
names_stay sight (c ∷ more) (suc place) x reader at kept = ap (λ ns. whose (sighted sight c) ∷ ns) (names_stay sight more place x reader at kept)

pub name_there : {R : Type 0} (sight : R → Sight) (sources : List (SourceOf R)) (place : ℕ) (s : SourceOf R) (x : Sighted) →
    slice_get sources place ≡ Some s →
    slice_get (map (sighted sight) sources) place ≡ Some x → x.name ≡ s.name.items
name_there sight sources place s x at is =
    let same : Some (sighted sight s) ≡ Some x = sym (slice_get-map (sighted sight) sources place ∙ ap (option_map (sighted sight)) at) ∙ is in
    sym (ap (λ (o : Option Sighted). unwrap_or (option_map (λ y. y.name) o) []) same)
