-- What is told of sources whose bytes are known.
use Rattle.std.proofs.Common.{◌≡◌, ◌∙◌, ◌+◌, ◌≤◌, ℕ, zero, suc, true, if◌then◌else◌, List, [], ◌∷◌, ◌++◌, length, length-append, take, Option, None, Some, IfSome, ap, sym, subst, refl, arith, slice_get, inl, inr}
use Rattle.std.proofs.Math.Logic.{∥∥₁_elim}
use Rattle.std.proofs.lemmas.Grind.{merely}
use Rattle.std.proofs.lemmas.List.{append-nil}
use Rattle.std.specs.Prelude.{◌⊎◌}
use Rattle.std.specs.Io.KnownBytes.{Consumes}
use Rattle.aero_model.specs.declared.verdict.Ending.{Ending}
use Rattle.aero_model.specs.declared.verdict.Ending.TheVariants.{Whole, Broken, TooLarge, Stopped}
use Rattle.aero_telling.specs.Founds.{Found}
use Rattle.aero_intake.specs.Source.{FitsLimit, NothingIsLeft, Place, File, Sight, Trail, Trails, WasRead, is_broken}
use Rattle.aero_judge.specs.Finding.{IsCertainFinding, IsFinding}
use Rattle.aero_model.specs.Terms.{Terms}
use Rattle.aero_program.specs.declared.command.Sources.{Sources}
use Rattle.aero_program.specs.declared.command.Sources.TheVariants as sources
use Rattle.aero_program.specs.declared.stamp.Stamp.{Stamp}
use Rattle.aero_program.specs.Command.{are_words}
use Rattle.aero_program.specs.Executed.{terms_asked}
use Rattle.aero_program.specs.Laws.{IsFrontOf, IsOfFront, IsOfText, KnownBytesAreJudged, KnownFilesAreJudged}
use Rattle.aero_program.specs.Led.{MayFailAt, reason_at}
use Rattle.aero_program.specs.Notes.{IsNotedBy, IsNotedFrom, Noted}
use Rattle.aero_program.specs.Sightings.{file_made, sightings, source_made}

-- each source has the bytes of the reader that was made for its name
all_known : (made : List ℕ → Sight) (names : List (List ℕ)) (place : ℕ) → IfSome (slice_get (sightings made names) place) (λ s. s.reader.bytes ≡ (made s.name).bytes)
all_known made [] place = tt
all_known made (name ∷ more) zero = refl
all_known made (name ∷ more) (suc place) = all_known made more place

front_of : (text bytes : List ℕ) (left : Option (List ℕ)) (ending : Ending) → Consumes (Some text) left bytes → NothingIsLeft ending left → IsFrontOf text bytes ending
front_of text bytes None ending came rest = absurd came
front_of text bytes (Some left) ending came rest = record { left = left; is = came; whole = λ is. subst (λ e. NothingIsLeft e (Some left)) is rest }

pub known_bytes_are_judged : KnownBytesAreJudged
known_bytes_are_judged terms form last made names new before after endings notables counts cause ran place found text at is =
    let here = ran.found place found at in
    let was : here.before.reader.bytes ≡ (made here.before.name).bytes = subst (λ o. IfSome o (λ s. s.reader.bytes ≡ (made s.name).bytes)) here.was (all_known made names place) in
    let bytes : here.before.reader.bytes ≡ Some text = was ∙ ap (λ n. (made n).bytes) (sym here.found_of.name) ∙ is in
    front_of text found.bytes here.after.reader.bytes found.ending (subst (λ b. Consumes b here.after.reader.bytes found.bytes) bytes here.found_of.read.came) here.found_of.read.rest

-- each source has the reader that was made for its name
all_made : (made : List ℕ → Sight) (names : List (List ℕ)) (place : ℕ) → IfSome (slice_get (sightings made names) place) (λ s. s.reader ≡ made s.name)
all_made made [] place = tt
all_made made (name ∷ more) zero = refl
all_made made (name ∷ more) (suc place) = all_made made more place

-- the reader that was made for a word
made_for_word : (known : List ℕ → Option (List ℕ)) (files : Sources) (given : Option (List ℕ)) (name : List ℕ) → are_words files ≡ true → source_made known files given name ≡ file_made known name
made_for_word known (sources.Standard word) given name words = absurd (cc)
made_for_word known (sources.Files all) given name words = refl
made_for_word known (sources.Listed path) given name words = absurd (cc)

-- a text that isn't too large, and of which no read failed, was read to its end, or was read no further
whole_of : (text bytes : List ℕ) (limit : ℕ) (ending : Ending) → IsFrontOf text bytes ending → length text ≤ limit → FitsLimit limit ending (length bytes) → (ending ≡ Broken → ⊥) → ((ending ≡ Whole) × (bytes ≡ text)) ⊎ (ending ≡ Stopped)
whole_of text bytes limit Stopped front few fits never = inr refl
whole_of text bytes limit Whole front few fits never = inl (refl, sym (front.is ∙ ap (λ l. bytes ++ l) (front.whole refl) ∙ append-nil bytes))
whole_of text bytes limit Broken front few fits never = absurd (never refl)
whole_of text bytes limit TooLarge front few fits never = absurd (let long = ap length front.is ∙ length-append bytes front.left in omega (arith, long, few, fits))

-- what a reader that was made for a file says of itself at the end
trail_of : (place : Place) (bytes : List ℕ) (after : Option Trail) → Trails (Some (record { place = place; given = [] })) after bytes → (t : Trail) × (after ≡ Some t) × (t.place ≡ place) × (t.given ≡ bytes)
trail_of place bytes None trails = absurd trails
trail_of place bytes (Some t) trails = (t, refl, trails.0, trails.1)

module _ (can_fail : List ℕ → Type 0) (holds : List ℕ → Stamp → Option (List ℕ) → Type 0) (known : List ℕ → Option (List ℕ)) (terms : Terms)
    (found : Found) (n : Noted) (text : List ℕ) (after : Sight) (is : known found.name ≡ Some text) (never : can_fail found.name → ⊥) (few : length text ≤ terms.rules.limits.bytes)
    (read : WasRead (file_made known found.name) after terms.rules.limits.bytes found.bytes found.ending) (finding : IsFinding found.bytes found.ending terms found.finding) where
  -- the source was read to its end, where no read of it may fail, or no further than is asked for
  of_text : (t : Trail) → t.place ≡ File found.name → t.given ≡ found.bytes → IsNotedFrom can_fail holds n after.faults t →
      IsOfText terms text found n ⊎ IsOfFront terms text found
  of_text t at came own =
      let front = front_of text found.bytes after.bytes found.ending (subst (λ b. Consumes b after.bytes found.bytes) is read.came) read.rest in
      let unbroken : found.ending ≡ Broken → ⊥ = λ broken.
      let failed : after.faults ≡ 1 = read.faults ∙ ap (λ (e : Ending). 0 + (if is_broken e then 1 else 0)) broken in
      never (subst (MayFailAt can_fail) at (own.may (omega (arith, failed)))) in
      elim (whole_of text found.bytes terms.rules.limits.bytes found.ending front few read.fits unbroken) [
        | inl ended ↦
            (let none : after.faults ≡ 0 = read.faults ∙ ap (λ (e : Ending). 0 + (if is_broken e then 1 else 0)) ended.0 in
            let all : t.given ≡ text = came ∙ ended.1 in
            inl (record {
              bytes = ended.1;
              ending = ended.0;
              finding = merely (subst (λ b. IsFinding b Whole terms found.finding) ended.1 (subst (λ e. IsFinding found.bytes e terms found.finding) ended.0 finding));
              start = own.start ∙ ap (take 3) all;
              reason = own.reason none ∙ ap reason_at at;
              came = own.came ∙ all;
            }))
        | inr stopped ↦
            (let certain : (terms.stop ≡ true) × IsCertainFinding found.bytes terms found.finding = subst (λ e. IsFinding found.bytes e terms found.finding) stopped finding in
            inr (record {
              asked_for = certain.0;
              ending = stopped;
              front = front;
              finding = merely (subst (λ b. IsFinding b Whole terms found.finding) (sym front.is) (certain.1 front.left));
            }))
      ]

pub known_files_are_judged : (can_fail : List ℕ → Type 0) (holds : List ℕ → Stamp → Option (List ℕ) → Type 0) → KnownFilesAreJudged can_fail holds
known_files_are_judged can_fail holds known config given left shown shown_after told told_after status was place found n text words at noted_at is never few =
    let terms : Terms = terms_asked config was.listed was.limits in
    let here = was.ran.found place found at in
    let made : here.before.reader ≡ file_made known found.name =
    subst (λ o. IfSome o (λ s. s.reader ≡ source_made known config.files given s.name)) here.was (all_made (source_made known config.files given) was.names place)
    ∙ made_for_word known config.files given here.before.name words ∙ ap (file_made known) (sym here.found_of.name) in
    let read = subst (λ r. WasRead r here.after.reader was.limits.bytes found.bytes found.ending) made here.found_of.read in
    let trail = trail_of (File found.name) found.bytes here.after.reader.trail read.trail in
    let own = subst (IsNotedBy can_fail holds n here.after.reader.faults) trail.1 (was.are_own place n here.after noted_at here.is) in
    ∥∥₁_elim own squash₁ (λ o. ∥∥₁_elim here.found_of.finding squash₁ (λ f.
    merely (of_text can_fail holds known terms found n text here.after.reader is never few read f trail.0 trail.2 trail.3 o)))
