-- Standard input, as a run leaves it.
use Rattle.std.proofs.Common.{◌≡◌, ◌∙◌, ℕ, List, [], ◌∷◌, ◌++◌, length, length-append, map, Option, None, Some, ap, sym, refl, arith, true≢false}
use Rattle.std.specs.Prelude.{IsSome, is_some, option_map, slice_get, true}
use Rattle.std.proofs.Math.Logic.{∥∥₁_elim}
use Rattle.std.proofs.lemmas.Grind.{merely}
use Rattle.std.proofs.lemmas.List.{length-map}
use Rattle.aero_telling.specs.Founds.{Sighted, whose}
use Rattle.aero_intake.specs.Source.{Place, Stream, place_in}
use Rattle.aero_model.specs.CallCounts.{Seen}
use Rattle.aero_program.specs.declared.command.Sources.{Sources}
use Rattle.aero_program.specs.declared.command.Sources.TheVariants as sources
use Rattle.aero_program.specs.declared.input.Input.{Input}
use Rattle.aero_program.specs.declared.stamp.Stamp.{Stamp}
use Rattle.aero_program.specs.Executed.{IsLeftBy, IsLeftOf, seen_in}
use Rattle.aero_program.specs.Inputs.{Standing, Standard, Unopened, Reading, Ended, Failed, Closed, IsStandardOf, bytes_left, standing_of}
use Rattle.aero_program.specs.Led.{IsLed, StaysStream, place_of, sight_at}
use Rattle.aero_program.specs.Sightings.{AreNames, IsLeftBeside, source_sightings}

pub the_some : {A : Type 0} (x y : A) → Some x ≡ Some y → x ≡ y
the_some x y p = cc p

the_head : {A : Type 0} (x y : A) (xs ys : List A) → x ∷ xs ≡ y ∷ ys → x ≡ y
the_head x y xs ys p = cc p

-- Where standard input is the source, it is the one, and its reader was made for it. Else it is left as beside the sources.
pub left_by : (paths : List ℕ → Option (List ℕ)) (files : Sources) (given : Option (List ℕ)) (names : List (List ℕ)) (new : List Sighted) (rest left : Option Seen)
    → IsLeftBeside files given rest → (is_some rest ≡ true → left ≡ rest)
    → map whose new ≡ map whose (source_sightings paths files given names) → AreNames paths files given names
    → (rest ≡ None → length new ≡ 1 → (s : Sighted) → slice_get new 0 ≡ Some s → IsLeftOf s left) → IsLeftBy files given new left
left_by paths (sources.Files words) given names new rest left beside same kept named of_one = same (ap is_some beside) ∙ beside
left_by paths (sources.Listed path) given names new rest left beside same kept named of_one = record {
  stream = λ is. let read = beside.stream is in (read.0, same (ap is_some read.1) ∙ read.1, read.2, read.3);
  file = λ is. same (ap is_some (beside.file is)) ∙ beside.file is;
}
left_by paths (sources.Standard name) given names [] rest left beside same kept named of_one = λ s at. absurd (cc)
left_by paths (sources.Standard name) given names (x ∷ more) rest left beside same kept named of_one = λ s at.
    let one = kept ∙ ap (λ ns. map whose (source_sightings paths (sources.Standard name) given ns)) named in
    let count : length (x ∷ more) ≡ 1 = sym (length-map (x ∷ more) whose) ∙ ap length one in
    let first : place_in x.reader ≡ Some Stream = ap (λ (w : List ℕ × Option Place). w.1) (the_head (whose x) _ (map whose more) [] one) in
    let is : x ≡ s = the_some x s at in
    of_one beside count s at (ap (λ (y : Sighted). place_in y.reader) (sym is) ∙ first)

-- a stream that has failed and found the end so often is seen so
seen_as : (bytes : Option (List ℕ)) (reader : Seen) (faults ends : ℕ) → bytes ≡ reader.bytes → reader.faults ≡ faults → reader.ends ≡ ends
    → Some reader ≡ Some (record { bytes = bytes; faults = faults; ends = ends })
seen_as bytes reader faults ends same_bytes same_faults same_ends = λ i. Some (record { bytes = (sym same_bytes) i; faults = same_faults i; ends = same_ends i })

-- an input that was standard input at first is that, and its stream is seen as the input is
stream_left : (first now : Standing) (faults ends : ℕ) (given : Option Seen) → place_of first ≡ Stream → StaysStream first now faults ends → IsStandardOf now given
    → (reader : Seen) × (now ≡ Standard reader) × (given ≡ Some reader) × (reader.faults ≡ faults) × (reader.ends ≡ ends)
stream_left (Standard at_first) (Standard reader) faults ends given is stays left = (reader, refl, left, stays.0, stays.1)
stream_left (Standard at_first) (Unopened path had) faults ends given is stays left = absurd stays
stream_left (Standard at_first) (Reading had) faults ends given is stays left = absurd stays
stream_left (Standard at_first) Ended faults ends given is stays left = absurd stays
stream_left (Standard at_first) (Failed had) faults ends given is stays left = absurd stays
stream_left (Standard at_first) (Closed had) faults ends given is stays left = absurd stays
stream_left (Unopened path had) now faults ends given is stays left = absurd (cc)
stream_left (Reading had) now faults ends given is stays left = absurd (cc)
stream_left Ended now faults ends given is stays left = absurd (cc)
stream_left (Failed had) now faults ends given is stays left = absurd (cc)
stream_left (Closed had) now faults ends given is stays left = absurd (cc)

-- what is left of an input that was led so, and was standard input at first
pub left_of : {S O F : Type 0} (stdin : S → Option (List ℕ)) (known : O → List ℕ → Option (List ℕ)) (file : F → Option (List ℕ)) (can_fail : List ℕ → Type 0) (holds : List ℕ → Stamp → Option (List ℕ) → Type 0)
    (first now : Input S O F) (given : List ℕ) (faults ends : ℕ) (left : Option Seen)
    → IsStandardOf (standing_of stdin known file now) left → ∥ IsLed stdin known file can_fail holds first now given faults ends ∥₁
    → place_of (standing_of stdin known file first) ≡ Stream → ∥ left ≡ Some (seen_in (sight_at stdin known file first now given faults ends)) ∥₁
left_of stdin known file can_fail holds first now given faults ends left is led at = ∥∥₁_elim led squash₁ (λ l. merely (
    let found = stream_left (standing_of stdin known file first) (standing_of stdin known file now) faults ends left at l.stream is in
    found.2 ∙ seen_as (bytes_left (standing_of stdin known file now)) found.0 faults ends (ap bytes_left found.1) found.3 found.4))

-- the one source is the last
pub one_source : {A : Type 0} (f : A → Sighted) (all front : List A) (last : A) (s : Sighted) → all ≡ front ++ last ∷ [] → length all ≡ 1 → slice_get (map f all) 0 ≡ Some s → f last ≡ s
one_source f all [] last s is one at = the_some (f last) s (sym (ap (λ l. slice_get (map f l) 0) is) ∙ at)
one_source f all (x ∷ front) last s is one at = absurd (let long = ap length is in let more = length-append front (last ∷ []) in omega (arith, long, more, one))

-- what was kept of an option is kept of what is seen of it
pub rest_kept : {A B : Type 0} (f : A → B) (rest result : Option A) → (IsSome rest → result ≡ rest) → is_some (option_map f rest) ≡ true → option_map f result ≡ option_map f rest
rest_kept f None result kept is = absurd (true≢false (sym is))
rest_kept f (Some x) result kept is = ap (option_map f) (kept refl)

pub rest_none : {A B : Type 0} (f : A → B) (rest : Option A) → option_map f rest ≡ None → rest ≡ None
rest_none f None is = refl
rest_none f (Some x) is = cc (is)
