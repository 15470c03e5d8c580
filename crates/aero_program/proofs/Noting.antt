-- What was noted of the sources, one after another.
use Rattle.std.proofs.Common.{◌≡◌, ◌∙◌, ◌&&◌, ℕ, zero, suc, Bool, true, false, if◌then◌else◌, List, [], ◌∷◌, ◌++◌, length, get_or, nat_lt, Option, None, Some, map, append_assoc, inl, inr, ap, sym, subst, refl}
use Rattle.std.specs.Borrow.{Bor}
use Rattle.std.specs.Option.{option_copied}
use Rattle.std.specs.Prelude.{bytes_eq, slice_get, is_some, IfSome}
use Rattle.std.specs.List.{filter, list_all, list_any}
use Rattle.std.proofs.lemmas.Bool.{cases_lt, lt-ltb, ltb-true}
use Rattle.std.proofs.lemmas.Option.{slice_get_past, slice_get_read}
use Rattle.std.proofs.lemmas.List.{append-nil, map-append}
use Rattle.std.proofs.lemmas.Grind.{flat_map-append}
use Rattle.aero_model.specs.declared.verdict.Ending.{Ending}
use Rattle.aero_telling.specs.declared.notable.FaultyLine.{FaultyLine}
use Rattle.aero_telling.specs.declared.notable.Notable.{Notable}
use Rattle.aero_intake.specs.declared.source.SourceOf.{SourceOf}
use Rattle.aero_report.specs.Options.{Note}
use Rattle.aero_program.specs.declared.input.Input.{Input}
use Rattle.aero_program.specs.declared.stamp.Stamp.{Stamp}
use Rattle.aero_program.specs.Notes.{AreNotable, AreNoted, AreNotes, AreShown, GrowsBy, Noted, Remark, notable_told, note_items, noted_of, noted_of_all, notes_on, was_too_large}
use Rattle.aero_program.specs.Looks.{ShowsAs}
use Rattle.aero_faults.specs.declared.look.Look.TheVariants.{Nothing}

pub one_more : {R S O F : Type 0} (input : R → Input S O F) (came : R → List ℕ) (words : Bool) (sources : List (SourceOf R)) (source : SourceOf R) (endings : List (ℕ × Ending)) (notables : List (Option Notable))
    → noted_of_all input came words (sources ++ source ∷ []) endings notables
    ≡ noted_of_all input came words sources endings notables ++ noted_of input came words source (was_too_large (slice_get endings (length sources))) (notable_told (slice_get notables (length sources))) ∷ []
one_more input came words [] source [] [] = refl
one_more input came words [] source [] (notable ∷ notables) = refl
one_more input came words [] source (ending ∷ rest) [] = refl
one_more input came words [] source (ending ∷ rest) (notable ∷ notables) = refl
one_more input came words (first ∷ more) source [] [] = ap (λ l. noted_of input came words first false None ∷ l) (one_more input came words more source [] [])
one_more input came words (first ∷ more) source [] (notable ∷ notables) = ap (λ l. noted_of input came words first false notable ∷ l) (one_more input came words more source [] notables)
one_more input came words (first ∷ more) source (ending ∷ rest) [] = ap (λ l. noted_of input came words first (was_too_large (Some ending)) None ∷ l) (one_more input came words more source rest [])
one_more input came words (first ∷ more) source (ending ∷ rest) (notable ∷ notables) = ap (λ l. noted_of input came words first (was_too_large (Some ending)) notable ∷ l) (one_more input came words more source rest notables)

-- nothing is told of no sources
pub no_notes : (holds : List ℕ → Stamp → Option (List ℕ) → Type 0) → AreNotes holds [] []
no_notes holds = record { remarks = []; are = refl; shown = tt; told = refl }

shown_more : (holds : List ℕ → Stamp → Option (List ℕ) → Type 0) (remarks : List Remark) (remark : Remark) → AreShown holds remarks → ShowsAs holds remark.noted.name remark.noted.opened remark.noted.fault remark.look → AreShown holds (remarks ++ remark ∷ [])
shown_more holds [] remark all last = (last, tt)
shown_more holds (first ∷ more) remark all last = (all.0, shown_more holds more remark all.1 last)

-- the notes on one source more
pub notes_grown : (holds : List ℕ → Stamp → Option (List ℕ) → Type 0) (noted : List Noted) (n : Noted) (old new : List Note) → AreNotes holds noted old → GrowsBy holds old new n → AreNotes holds (noted ++ n ∷ []) new
notes_grown holds noted n old new before grows =
    let last : Remark = record { noted = n; look = grows.look } in
    record {
      remarks = before.remarks ++ last ∷ [];
      are = map-append (λ r. r.noted) before.remarks (last ∷ []) ∙ ap (λ l. l ++ n ∷ []) before.are;
      shown = shown_more holds before.remarks last before.shown grows.shown;
      told = grows.grown ∙ ap (λ l. l ++ note_items last) before.told
          ∙ sym (flat_map-append note_items before.remarks (last ∷ []) ∙ ap (λ l. notes_on before.remarks ++ l) (append-nil (note_items last)));
    }

-- the notes on a source
pub five_parts : (old a b c d e one two three four five : List Note) → one ≡ old ++ a → two ≡ one ++ b → three ≡ two ++ c → four ≡ three ++ d → five ≡ four ++ e
    → five ≡ old ++ (a ++ (b ++ (c ++ (d ++ e))))
five_parts old a b c d e one two three four five p q r s t =
    t ∙ ap (λ l. l ++ e) (s ∙ ap (λ l. l ++ d) (r ∙ ap (λ l. l ++ c) (q ∙ ap (λ l. l ++ b) p))) ∙ append_assoc (((old ++ a) ++ b) ++ c) d e
    ∙ append_assoc ((old ++ a) ++ b) c (d ++ e) ∙ append_assoc (old ++ a) b (c ++ (d ++ e)) ∙ append_assoc old a (b ++ (c ++ (d ++ e)))

abbrev large_in : Option Noted → Bool
large_in None = false
large_in (Some noted) = noted.too_large

abbrev word_in : Bool → Option Noted → Bool
word_in words None = words
word_in words (Some noted) = noted.is_word

abbrev fault_in : Option Noted → Option FaultyLine
fault_in None = None
fault_in (Some noted) = noted.fault

abbrev unchecked_in : Option Noted → Bool
unchecked_in None = false
unchecked_in (Some noted) = noted.unchecked

pub are_noted : {R S O F : Type 0} (input : R → Input S O F) (came : R → List ℕ) (words : Bool) (sources : List (SourceOf R)) (endings : List (ℕ × Ending)) (notables : List (Option Notable))
    → AreNoted words endings (noted_of_all input came words sources endings notables)
are_noted input came words [] endings notables at n is = absurd (cc)
are_noted input came words (source ∷ more) [] [] zero n is = (sym (ap large_in is), sym (ap (word_in words) is))
are_noted input came words (source ∷ more) [] [] (suc at) n is = are_noted input came words more [] [] at n is
are_noted input came words (source ∷ more) [] (notable ∷ notables) zero n is = (sym (ap large_in is), sym (ap (word_in words) is))
are_noted input came words (source ∷ more) [] (notable ∷ notables) (suc at) n is = are_noted input came words more [] notables at n is
are_noted input came words (source ∷ more) (ending ∷ rest) [] zero n is = (sym (ap large_in is), sym (ap (word_in words) is))
are_noted input came words (source ∷ more) (ending ∷ rest) [] (suc at) n is = are_noted input came words more rest [] at n is
are_noted input came words (source ∷ more) (ending ∷ rest) (notable ∷ notables) zero n is = (sym (ap large_in is), sym (ap (word_in words) is))
are_noted input came words (source ∷ more) (ending ∷ rest) (notable ∷ notables) (suc at) n is = are_noted input came words more rest notables at n is

pub are_notable : {R S O F : Type 0} (input : R → Input S O F) (came : R → List ℕ) (words : Bool) (sources : List (SourceOf R)) (endings : List (ℕ × Ending)) (notables : List (Option Notable))
    → AreNotable notables (noted_of_all input came words sources endings notables)
are_notable input came words [] endings notables at n is = absurd (cc)
are_notable input came words (source ∷ more) [] [] zero n is = (sym (ap fault_in is), sym (ap unchecked_in is))
are_notable input came words (source ∷ more) [] [] (suc at) n is = are_notable input came words more [] [] at n is
are_notable input came words (source ∷ more) [] (notable ∷ notables) zero n is = (sym (ap fault_in is), sym (ap unchecked_in is))
are_notable input came words (source ∷ more) [] (notable ∷ notables) (suc at) n is = are_notable input came words more [] notables at n is
are_notable input came words (source ∷ more) (ending ∷ rest) [] zero n is = (sym (ap fault_in is), sym (ap unchecked_in is))
are_notable input came words (source ∷ more) (ending ∷ rest) [] (suc at) n is = are_notable input came words more rest [] at n is
are_notable input came words (source ∷ more) (ending ∷ rest) (notable ∷ notables) zero n is = (sym (ap fault_in is), sym (ap unchecked_in is))
are_notable input came words (source ∷ more) (ending ∷ rest) (notable ∷ notables) (suc at) n is = are_notable input came words more rest notables at n is

-- what a look-up gives
pub looked_up : {A : Type 0} (o : Option (Bor A)) (xs : List A) (i : ℕ) → is_some o ≡ nat_lt i (length xs) → IfSome o (λ x. x.now ≡ get_or xs i x.now) → option_copied o ≡ slice_get xs i
looked_up None xs i none value = elim (cases_lt i (length xs)) [
  | inl less ↦ absurd (let test = lt-ltb i (length xs) less in cc)
  | inr past ↦ sym (slice_get_past xs i past)
]
looked_up (Some x) xs i some value = sym (slice_get_read xs (length xs) i x.now refl (ltb-true i (length xs) (sym some)) value)

unseen : Noted → Remark
unseen n = record { noted = n; look = Nothing }

unseen_are : (noted : List Noted) → map (λ r. r.noted) (map unseen noted) ≡ noted
unfolding unseen
unseen_are [] = refl
unseen_are (n ∷ more) = ap (λ l. n ∷ l) (unseen_are more)

unseen_shown : (holds : List ℕ → Stamp → Option (List ℕ) → Type 0) (noted : List Noted) → AreShown holds (map unseen noted)
unfolding unseen
unseen_shown holds [] = tt
unseen_shown holds (n ∷ more) = (tt, unseen_shown holds more)

-- what was noted, with what second looks showed, and the notes of it, where there are any
pub record ToldRemarks {V : Type 0} (holds : List ℕ → Stamp → Option (List ℕ) → Type 0) (items : V → List Note) (noted : List Noted) (notes : Option V) : Type 0 where
  pub remarks : List Remark
  pub are : map (λ r. r.noted) remarks ≡ noted
  pub shown : AreShown holds remarks
  pub told : IfSome notes (λ n. items n ≡ notes_on remarks)

-- what was noted of the sources has the bytes that came of them
pub came_noted : {R S O F : Type 0} (input : R → Input S O F) (came : R → List ℕ) (words : Bool) (sources : List (SourceOf R)) (endings : List (ℕ × Ending)) (notables : List (Option Notable))
    → map (λ n. n.came) (noted_of_all input came words sources endings notables) ≡ map (λ s. came s.reader) sources
came_noted input came words [] endings notables = refl
came_noted input came words (source ∷ more) [] [] = ap (λ l. came source.reader ∷ l) (came_noted input came words more [] [])
came_noted input came words (source ∷ more) [] (notable ∷ notables) = ap (λ l. came source.reader ∷ l) (came_noted input came words more [] notables)
came_noted input came words (source ∷ more) (ending ∷ rest) [] = ap (λ l. came source.reader ∷ l) (came_noted input came words more rest [])
came_noted input came words (source ∷ more) (ending ∷ rest) (notable ∷ notables) = ap (λ l. came source.reader ∷ l) (came_noted input came words more rest notables)

told_on : {V : Type 0} (holds : List ℕ → Stamp → Option (List ℕ) → Type 0) (items : V → List Note) (noted : List Noted) (notes : Option V)
    → IfSome notes (λ n. AreNotes holds noted (items n)) → ToldRemarks holds items noted notes
told_on holds items noted (Some n) h = record { remarks = h.remarks; are = h.are; shown = h.shown; told = h.told }
told_on holds items noted None h = record { remarks = map unseen noted; are = unseen_are noted; shown = unseen_shown holds noted; told = tt }

-- the notes on sources that are named so
pub told_as : {R S O F V : Type 0} (input : R → Input S O F) (came : R → List ℕ) (holds : List ℕ → Stamp → Option (List ℕ) → Type 0) (items : V → List Note) (is words : Bool) (sources : List (SourceOf R))
    (given : List (ℕ × Ending)) (notables : List (Option Notable))
    → is ≡ words → (notes : Option V)
    → IfSome notes (λ n. AreNotes holds (noted_of_all input came is sources given notables) (items n))
    → ToldRemarks holds items (noted_of_all input came words sources given notables) notes
told_as input came holds items is words sources given notables known notes h =
    told_on holds items (noted_of_all input came words sources given notables) notes
    (subst (λ w. IfSome notes (λ n. AreNotes holds (noted_of_all input came w sources given notables) (items n))) known h)
