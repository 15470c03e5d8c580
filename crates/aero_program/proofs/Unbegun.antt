-- The listed labels whose flags aren't set are those with which no block begins.
use Rattle.std.proofs.Common.{◌≡◌, ◌⊎◌, ◌&&◌, ◌||◌, ℕ, zero, suc, Bool, true, false, not, true≢false, if◌then◌else◌, List, [], ◌∷◌, ◌++◌, length, map, Option, Some, None, refl, sym, ◌∙◌, ap, ap₂, subst, inl, inr, arith}
use Rattle.std.specs.Prelude.{bytes_eq, is_some, option_map, slice_get, IfSome}
use Rattle.std.specs.Str.{is_utf8}
use Rattle.std.specs.List.{filter, list_all, list_any, position}
use Rattle.std.proofs.lemmas.Bool.{cases_Bool, or_right}
use Rattle.std.proofs.lemmas.List.{length-map}
use Rattle.std.proofs.lemmas.List.Folds.{list_all-map}
use Rattle.std.proofs.lemmas.Option.{slice_get-map}
use Rattle.std.proofs.lemmas.Slice.Eq.{bytes_eq-Decides}
use Rattle.aero_model.specs.declared.verdict.Counts.{Counts}
use Rattle.aero_model.specs.declared.verdict.Ending.{Ending}
use Rattle.aero_model.specs.declared.verdict.Ending.TheVariants.{Whole, Broken, TooLarge, Stopped}
use Rattle.aero_model.specs.CallCounts.{Seen}
use Rattle.aero_model.specs.Terms.{Rules, Terms}
use Rattle.aero_grammar.specs.Reading.{malformed_line, reading_of}
use Rattle.aero_report.specs.declared.form.Form.{Form}
use Rattle.aero_intake.specs.Begun.{AreNoted, begins, is_read_through}
use Rattle.aero_intake.specs.declared.begun.Begun.{Begun}
use Rattle.aero_intake.specs.declared.source.SourceOf.{SourceOf}
use Rattle.aero_intake.specs.Source.{File, Nowhere, Place, Sight, Stream, Trail, Trails}
use Rattle.aero_intake.proofs.Surveyed.{has_place}
use Rattle.aero_telling.specs.declared.cause.Cause.{Cause}
use Rattle.aero_telling.specs.declared.notable.Notable.{Notable}
use Rattle.aero_telling.specs.Founds.{AreOfTheFirst, Found, IsFoundAt, Sighted, WasTold, ending_of, sighted, whose}
use Rattle.aero_telling.specs.Labels.{AreBegunAmong, AreLabelsOf, all_read_through, begins_among}
use Rattle.aero_program.specs.declared.command.Sources.{Sources}
use Rattle.aero_program.specs.declared.command.Sources.TheVariants as sources
use Rattle.aero_program.specs.declared.input.Input.{Input}
use Rattle.aero_program.specs.Labels.{flag_at, is_flagged, unflagged, without_flag}
use Rattle.aero_program.specs.Notes.{Noted, all_read, begins_in_one, is_sound, is_whole, labels_told, noted_of_all}
use Rattle.aero_program.specs.Sightings.{file_made, made_at, sightings, source_made, source_sightings}
use Rattle.aero_program.proofs.Noting.{came_noted}

-- flags and labels

same_bytes : (x : List ℕ) → bytes_eq x x ≡ true
same_bytes x = (bytes_eq-Decides x x).1 refl

filter_same : (f g : List ℕ → Bool) (xs : List (List ℕ)) → ((x : List ℕ) → list_any (bytes_eq x) xs ≡ true → f x ≡ g x) → filter f xs ≡ filter g xs
filter_same f g [] same = refl
filter_same f g (x ∷ xs) same =
    let here : f x ≡ g x = same x (ap (λ b. b || list_any (bytes_eq x) xs) (same_bytes x)) in
    let later : filter f xs ≡ filter g xs = filter_same f g xs (λ y is. same y (or_right (bytes_eq y x) (list_any (bytes_eq y) xs) is)) in
    ap (λ b. if b then x ∷ filter f xs else filter f xs) here ∙ ap (λ ys. if g x then x ∷ ys else ys) later

flags_are : (labels : List (List ℕ)) (holds : List ℕ → Bool) (flags : List Bool) → AreNoted labels holds flags → (x : List ℕ) → list_any (bytes_eq x) labels ≡ true → is_flagged labels flags x ≡ holds x
flags_are labels holds flags noted x is = go (position (bytes_eq x) labels) refl
  where
    go : (o : Option ℕ) → position (bytes_eq x) labels ≡ o → flag_at flags o ≡ holds x
    go None e = absurd (has_place labels x is e)
    go (Some place) e = noted place x e

both_hold : (a b : Bool) → (a && b) ≡ true → (a ≡ true) × (b ≡ true)
both_hold true b is = (refl, is)
both_hold false b is = cc (is)

none_left : (holds : List ℕ → Bool) (xs : List (List ℕ)) → list_all holds xs ≡ true → filter (λ x. not (holds x)) xs ≡ []
none_left holds [] all = refl
none_left holds (x ∷ xs) all =
    let each = both_hold (holds x) (list_all holds xs) all in
    let rest : List (List ℕ) = filter (λ y. not (holds y)) xs in
    ap (λ b. if not b then x ∷ rest else rest) each.0 ∙ none_left holds xs each.1

-- what came of the sources

-- the reader says where it reads, and has given nothing
HasGivenNothing : Sight → Type 0
HasGivenNothing sight = (t : Trail) × (sight.trail ≡ Some t) × (t.given ≡ [])

made_for_list : (b : Bool) (known : List ℕ → Option (List ℕ)) (name : List ℕ) → HasGivenNothing (if b then file_made known name else made_at Nowhere None)
unfolding HasGivenNothing
made_for_list true known name = (record { place = File name; given = [] }, refl, refl)
made_for_list false known name = (record { place = Nowhere; given = [] }, refl, refl)

made_unread : (known : List ℕ → Option (List ℕ)) (files : Sources) (given : Option (List ℕ)) (name : List ℕ) → HasGivenNothing (source_made known files given name)
unfolding HasGivenNothing
made_unread known (sources.Standard word) given name = (record { place = Stream; given = [] }, refl, refl)
made_unread known (sources.Files words) given name = (record { place = File name; given = [] }, refl, refl)
made_unread known (sources.Listed path) given name = made_for_list (is_utf8 name) known name

all_unread : (made : List ℕ → Sight) → ((name : List ℕ) → HasGivenNothing (made name)) → (names : List (List ℕ)) (place : ℕ) → IfSome (slice_get (sightings made names) place) (λ s. HasGivenNothing s.reader)
all_unread made each [] place = tt
all_unread made each (name ∷ more) zero = each name
all_unread made each (name ∷ more) (suc place) = all_unread made each more place

-- a reader gave exactly the bytes that came
came_from : (before after : Option Trail) (t : Trail) (place : Place) (came bytes : List ℕ) → before ≡ Some t → t.given ≡ [] → after ≡ Some (record { place = place; given = came }) → Trails before after bytes → bytes ≡ came
came_from before after t place came bytes is_before nothing is_after trails =
    let moved : Trails (Some t) (Some (record { place = place; given = came })) bytes = subst (λ (o : Option Trail). Trails (Some t) o bytes) is_after (subst (λ (o : Option Trail). Trails o after bytes) is_before trails) in
    sym (moved.1 ∙ ap (λ (g : List ℕ). g ++ bytes) nothing)

the_some : {A : Type 0} (x y : A) → Some x ≡ Some y → x ≡ y
the_some x y p = cc p

module _ {R : Type 0} (sight : R → Sight) (came : R → List ℕ) (place_of : R → Place) (gives : (r : R) → (sight r).trail ≡ Some (record { place = place_of r; given = came r })) where
  -- what was found of the source at a place has the bytes that its reader gave
  found_came : (terms : Terms) (old : List Sighted) (left : List (SourceOf R)) (place : ℕ) (found : Found) (source : SourceOf R) → IfSome (slice_get old place) (λ s. HasGivenNothing s.reader)
      → IsFoundAt terms old (map (sighted sight) left) place found → slice_get left place ≡ Some source → found.bytes ≡ came source.reader
  unfolding HasGivenNothing
  found_came terms old left place found source unread here at =
      let first : HasGivenNothing here.before.reader = subst (λ o. IfSome o (λ s. HasGivenNothing s.reader)) here.was unread in
      let after : here.after ≡ sighted sight source =
      the_some here.after (sighted sight source) (sym here.is ∙ slice_get-map (sighted sight) left place ∙ ap (option_map (sighted sight)) at) in
      came_from here.before.reader.trail here.after.reader.trail first.0 (place_of source.reader) (came source.reader) found.bytes first.1 first.2 (ap (λ (s : Sighted). s.reader.trail) after ∙ gives source.reader) here.found_of.read.trail

  all_came : (founds : List Found) (left : List (SourceOf R)) → length founds ≡ length left
      → ((place : ℕ) (found : Found) (source : SourceOf R) → slice_get founds place ≡ Some found → slice_get left place ≡ Some source → found.bytes ≡ came source.reader)
      → map (λ f. f.bytes) founds ≡ map (λ s. came s.reader) left
  all_came [] [] count each = refl
  all_came [] (source ∷ left) count each = absurd (omega (arith, count))
  all_came (found ∷ founds) [] count each = absurd (omega (arith, count))
  all_came (found ∷ founds) (source ∷ left) count each =
      ap₂ (λ (b : List ℕ) (bs : List (List ℕ)). b ∷ bs) (each 0 found source refl refl)
      (all_came founds left (let n = count in omega (arith, n)) (λ place f s at there. each (suc place) f s at there))

-- what is told of labels

any_of_map : {A B : Type 0} (p : B → Bool) (f : A → B) (xs : List A) → list_any (λ x. p (f x)) xs ≡ list_any p (map f xs)
any_of_map p f [] = refl
any_of_map p f (x ∷ xs) = ap (λ b. p (f x) || b) (any_of_map p f xs)

both_of : (a b c d : Bool) → ((a && b) && (c && d)) ≡ ((a && c) && (b && d))
both_of true true c d = refl
both_of true false true d = refl
both_of true false false d = refl
both_of false b c d = refl

all_both : {A : Type 0} (p q : A → Bool) (xs : List A) → list_all (λ x. p x && q x) xs ≡ (list_all p xs && list_all q xs)
all_both p q [] = refl
all_both p q (x ∷ xs) = ap (λ b. (p x && q x) && b) (all_both p q xs) ∙ both_of (p x) (q x) (list_all p xs) (list_all q xs)

all_same : {A : Type 0} (p q : A → Bool) → ((x : A) → p x ≡ q x) → (xs : List A) → list_all p xs ≡ list_all q xs
all_same p q same [] = refl
all_same p q same (x ∷ xs) = ap₂ (λ a b. a && b) (same x) (all_same p q same xs)

abbrev sound : Rules → List ℕ → Bool
sound rules bytes = not (is_some (malformed_line rules.limits.lines (reading_of bytes)))

read_through_is : (rules : Rules) (bytes : List ℕ) (ending : Ending) → is_read_through rules bytes ending ≡ (is_whole ending && sound rules bytes)
read_through_is rules bytes Whole = refl
read_through_is rules bytes Broken = refl
read_through_is rules bytes TooLarge = refl
read_through_is rules bytes Stopped = refl

module _ (terms : Terms) (founds : List Found) (endings : List (ℕ × Ending)) (noted : List Noted) (ended : endings ≡ map ending_of founds) (came : map (λ f. f.bytes) founds ≡ map (λ n. n.came) noted) where
  begin_alike : (label : List ℕ) → begins_among founds label ≡ begins_in_one noted label
  begin_alike label =
      let p : List ℕ → Bool = λ bytes. begins label (reading_of bytes) in
      any_of_map p (λ f. f.bytes) founds ∙ ap (list_any p) came ∙ sym (any_of_map p (λ n. n.came) noted)

  abbrev through : Bool
  through = all_read None endings && list_all (is_sound terms.rules) noted

  read_alike : all_read_through terms.rules founds ≡ through
  read_alike =
      all_same (λ (f : Found). is_read_through terms.rules f.bytes f.ending) (λ f. is_whole f.ending && sound terms.rules f.bytes) (λ f. read_through_is terms.rules f.bytes f.ending) founds
      ∙ all_both (λ (f : Found). is_whole f.ending) (λ f. sound terms.rules f.bytes) founds
      ∙ ap₂ (λ a b. a && b)
      (sym (list_all-map (λ (e : ℕ × Ending). is_whole e.1) ending_of founds) ∙ ap (list_all (λ (e : ℕ × Ending). is_whole e.1)) (sym ended))
      (sym (list_all-map (sound terms.rules) (λ (f : Found). f.bytes) founds) ∙ ap (list_all (sound terms.rules)) came ∙ list_all-map (sound terms.rules) (λ (n : Noted). n.came) noted)

  abbrev labels : List (List ℕ)
  labels = terms.rules.labels.labels

  abbrev unused : List (List ℕ)
  unused = filter (λ label. not (begins_in_one noted label)) labels

  -- no label is left where a block begins with each
  all_used : list_all (begins_among founds) labels ≡ true → unused ≡ []
  all_used all = none_left (begins_in_one noted) labels (sym (all_same (begins_among founds) (begins_in_one noted) begin_alike labels) ∙ all)

  told_none : (b : Bool) → unused ≡ [] → [] ≡ (if b then unused else [])
  told_none true none = sym none
  told_none false none = refl

  told_all : (b : Bool) → (b ≡ true) ⊎ (unused ≡ []) → unused ≡ (if b then unused else [])
  told_all b (inl is) = ap (λ c. if c then unused else []) (sym is)
  told_all true (inr none) = refl
  told_all false (inr none) = none

  by_flags : (begun : Option Begun) → terms.stop ≡ false → AreBegunAmong terms founds begun → without_flag labels begun ≡ (if through then unused else [])
  by_flags None goes (inl stops) = absurd (true≢false (sym stops ∙ goes))
  by_flags None goes (inr (inl short)) = ap (λ b. if b then unused else []) (sym short ∙ read_alike)
  by_flags None goes (inr (inr all)) = told_none through (all_used all)
  by_flags (Some begun) goes are =
      filter_same (λ label. not (is_flagged labels begun.flags.items label)) (λ label. not (begins_in_one noted label)) labels
      (λ x is. ap not (flags_are labels (begins_among founds) begun.flags.items are.1 x is ∙ begin_alike x))
      ∙ told_all through (elim are.0 [
        | inl all_read ↦ inl (sym read_alike ∙ all_read)
        | inr all ↦ inr (all_used all)
      ])

  told_by : (begun : Option Begun) (b : Bool) → terms.stop ≡ b → AreBegunAmong terms founds begun → (if b then [] else without_flag labels begun) ≡ (if not b && through then unused else [])
  told_by begun true is are = refl
  told_by begun false is are = by_flags begun is are

  labels_by_flags : (begun : Option Begun) → AreBegunAmong terms founds begun → unflagged terms begun ≡ labels_told terms None endings noted
  labels_by_flags begun are = told_by begun terms.stop refl are

-- a run that wasn't stopped told something of each source
all_told : (terms : Terms) (form : Form) (old new : List Sighted) (before after : Seen) (endings : List (ℕ × Ending)) (notables : List (Option Notable)) (counts : Counts)
    → WasTold terms form old new before after endings notables counts None → length endings ≡ length new
all_told terms form old new before after endings notables counts ran =
    ap length ran.ended ∙ length-map ran.founds ending_of ∙ ran.written.0 ∙ sym (length-map old whose) ∙ sym (ap length ran.names) ∙ length-map new whose

-- What is told of the labels by a run over the sources that were asked for, unless it stopped.
module _ {R S O F : Type 0} (input : R → Input S O F) (sight : R → Sight) (came : R → List ℕ) (place_of : R → Place) (gives : (r : R) → (sight r).trail ≡ Some (record { place = place_of r; given = came r }))
    (known : List ℕ → Option (List ℕ)) (files : Sources) (given : Option (List ℕ)) (names : List (List ℕ)) (old : List Sighted) (made : old ≡ source_sightings known files given names) (left : List (SourceOf R)) where
  pub labels_of_run : (terms : Terms) (form : Form) (before after : Seen) (endings : List (ℕ × Ending)) (notables : List (Option Notable)) (counts : Counts) (begun : Option Begun)
      (words : Bool) (noted_endings : List (ℕ × Ending))
      → WasTold terms form old (map (sighted sight) left) before after endings notables counts None → AreLabelsOf terms old (map (sighted sight) left) endings begun
      → unflagged terms begun ≡ labels_told terms None endings (noted_of_all input came words left noted_endings notables)
  labels_of_run terms form before after endings notables counts begun words noted_endings ran are =
      let noted = noted_of_all input came words left noted_endings notables in
      let count : length are.founds ≡ length left =
      sym (length-map are.founds ending_of) ∙ sym (ap length are.ended) ∙ all_told terms form old (map (sighted sight) left) before after endings notables counts ran ∙ length-map left (sighted sight) in
      let unread : (place : ℕ) → IfSome (slice_get old place) (λ s. HasGivenNothing s.reader) =
      subst (λ (l : List Sighted). (place : ℕ) → IfSome (slice_get l place) (λ s. HasGivenNothing s.reader)) (sym made) (all_unread (source_made known files given) (made_unread known files given) names) in
      let bytes : map (λ f. f.bytes) are.founds ≡ map (λ s. came s.reader) left =
      all_came sight came place_of gives are.founds left count (λ place found source at there.
      found_came sight came place_of gives terms old left place found source (unread place) (are.found place found at) there) in
      labels_by_flags terms are.founds endings noted are.ended (bytes ∙ sym (came_noted input came words left noted_endings notables)) begun are.begun_are
