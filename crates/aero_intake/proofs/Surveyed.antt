-- What a survey stands for, chunk by chunk.
use Rattle.std.proofs.Common.{◌≡◌, ◌≤◌, ◌<◌, ◌+◌, ◌⊎◌, ℕ, zero, suc, Bool, true, false, not, cond, nat_lt, ◌||◌, ◌&&◌, List, [], ◌∷◌, ◌++◌, map, length, take, get_or, Option, Some, None, refl, sym, ◌∙◌, ap, ap₂, subst, inl, inr, arith}
use Rattle.std.specs.Prelude.{is_some, min, bytes_eq, IfSome, replicate}
use Rattle.std.specs.List.{list_all, list_any, position, position_or_len, slice_get, slice_set}
use Rattle.std.proofs.lemmas.Bool.{cases_Bool, cond-true, lt-ltb, or_left, or_right, true≢false}
use Rattle.std.proofs.lemmas.List.Folds.{list_any-append, list_all_at, list_all_more}
use Rattle.std.proofs.lemmas.List.{take_all}
use Rattle.std.proofs.lemmas.List.Quantifiers.{position-Some}
use Rattle.std.proofs.lemmas.Option.{slice_get-get_or, slice_get_past}
use Rattle.std.proofs.lemmas.Slice.Eq.{bytes_eq-Decides}
use Rattle.aero_grammar.specs.Reading.{Reading, whole_reading}
use Rattle.aero_intake.specs.Begun.{AreNoted, begins, begins_in, noted_at}
use Rattle.aero_intake.specs.Surveys.{CountsLines, HasFlags, IsFirstWithout, IsSurveyOf, MarksNames, NotesLabels}
use Rattle.aero_intake.specs.declared.survey.Survey.{Survey}
use Rattle.aero_intake.proofs.Begins.{all_weaker, begins_more, listed_holds}
use Rattle.aero_intake.proofs.Decided.{fault_more, lines_more, read_after_fault}

pub or_nothing : (b : Bool) → (b || false) ≡ b
or_nothing true = refl
or_nothing false = refl

pub last_begins : (parts : List Reading) (part : Reading) (label : List ℕ) → begins_in (parts ++ part ∷ []) label ≡ (begins_in parts label || begins label part)
last_begins parts part label =
    list_any-append (begins label) parts (part ∷ []) ∙ ap (λ b. begins_in parts label || b) (or_nothing (begins label part))

-- no chunk has come

nothing_at : (place : ℕ) → noted_at [] place ≡ false
nothing_at zero = refl
nothing_at (suc place) = refl

first_of_all : (labels : List (List ℕ)) → IsFirstWithout labels (begins_in []) 0
first_of_all [] = record { before = refl; next = tt }
first_of_all (label ∷ labels) = record { before = refl; next = refl }

pub nothing_surveyed : (labels : List (List ℕ)) (s : Survey) → s.begun.flags.items ≡ [] → s.passed ≡ 0 → s.lines ≡ 0 → s.has_fault ≡ false → IsSurveyOf labels [] s
nothing_surveyed labels s flags passed lines fault = record {
  counted = record { lines = lines; fault = fault };
  noted = record {
    room = inl flags;
    noted = λ place label at. ap (λ fs. noted_at fs place) flags ∙ nothing_at place;
    first = subst (IsFirstWithout labels (begins_in [])) (sym passed) (first_of_all labels);
  };
}

-- the lines of one chunk more

pub lines_counted : (parts : List Reading) (part : Reading) (old new : Survey) → CountsLines parts old → old.has_fault ≡ false →
    new.lines ≡ min (old.lines + part.lines) 4294967295 → new.has_fault ≡ is_some part.fault → CountsLines (parts ++ part ∷ []) new
lines_counted parts part old new is none lines fault =
    let faultless : is_some (whole_reading parts).fault ≡ false = sym is.fault ∙ none in
    record {
      lines = omega (arith, lines, is.lines, lines_more parts part faultless);
      fault = fault ∙ sym (fault_more parts part faultless);
    }

pub lines_stay : (parts : List Reading) (part : Reading) (old new : Survey) → CountsLines parts old → old.has_fault ≡ true →
    new.lines ≡ old.lines → new.has_fault ≡ old.has_fault → CountsLines (parts ++ part ∷ []) new
lines_stay parts part old new is faulty lines fault =
    let same = read_after_fault parts part (sym is.fault ∙ faulty) in
    record {
      lines = lines ∙ (is.lines ∙ ap (λ (r : Reading). min r.lines 4294967295) (sym same));
      fault = fault ∙ (is.fault ∙ ap (λ (r : Reading). is_some r.fault) (sym same));
    }

-- the labels of one chunk more

both_hold : (a b : Bool) → (a && b) ≡ true → (a ≡ true) × (b ≡ true)
both_hold true b is = (refl, is)
both_hold false b is = cc (is)

holds_there : (holds : List ℕ → Bool) (xs : List (List ℕ)) (i : ℕ) (x : List ℕ) → slice_get xs i ≡ Some x → list_all holds xs ≡ true → holds x ≡ true
holds_there holds [] i x at all = cc (at)
holds_there holds (y ∷ ys) zero x at all =
    let same : y ≡ x = cc (at) in
    sym (ap holds same) ∙ (both_hold (holds y) (list_all holds ys) all).0
holds_there holds (y ∷ ys) (suc i) x at all = holds_there holds ys i x at (both_hold (holds y) (list_all holds ys) all).1

-- all labels have begun a block
pub all_noted : (labels : List (List ℕ)) (parts : List Reading) (part : Reading) (s : Survey) → NotesLabels labels parts s → list_all (begins_in parts) labels ≡ true →
    NotesLabels labels (parts ++ part ∷ []) s
all_noted labels parts part s is all =
    let more : list_all (begins_in (parts ++ part ∷ [])) labels ≡ true =
    all_weaker (begins_in parts) (begins_in (parts ++ part ∷ [])) (begins_more parts (part ∷ [])) labels all in
    record {
      room = is.room;
      noted = λ place label at.
          is.noted place label at
          ∙ (listed_holds (begins_in parts) labels place label at all ∙ sym (listed_holds (begins_in (parts ++ part ∷ [])) labels place label at more));
      first = record {
        before = all_weaker (begins_in parts) (begins_in (parts ++ part ∷ [])) (begins_more parts (part ∷ [])) (take s.passed labels) is.first.before;
        next = go (slice_get labels s.passed) refl is.first.next;
      };
    }
  where
    go : (o : Option (List ℕ)) → slice_get labels s.passed ≡ o → IfSome o (λ label. begins_in parts label ≡ false) →
        IfSome o (λ label. begins_in (parts ++ part ∷ []) label ≡ false)
    go None at none = tt
    go (Some label) at none = absurd (true≢false (sym (holds_there (begins_in parts) labels s.passed label at all) ∙ none))

-- no flag is set of any number of them
pub none_of_many : (count place : ℕ) → noted_at (replicate count false) place ≡ false
none_of_many zero place = nothing_at place
none_of_many (suc count) zero = refl
none_of_many (suc count) (suc place) = none_of_many count place

-- there is room for the flags of a list, and there was none, or just that
pub made_anew : (count : ℕ) (old : List Bool) → (length old ≡ count → ⊥) → HasFlags count old → (place : ℕ) →
    noted_at (replicate count false) place ≡ noted_at old place
made_anew count old other (inl none) place = none_of_many count place ∙ sym (ap (λ fs. noted_at fs place) none ∙ nothing_at place)
made_anew count old other (inr same) place = absurd (other same)

-- a flag was set for each of the names of its table that is listed
pub labels_marked : (labels names : List (List ℕ)) (parts : List Reading) (part : Reading) (old new : Survey) (made : List Bool) → NotesLabels labels parts old →
    ((place : ℕ) → noted_at made place ≡ noted_at old.begun.flags.items place) → MarksNames labels names made new.begun.flags.items →
    ((label : List ℕ) → list_any (bytes_eq label) names ≡ begins label part) → length new.begun.flags.items ≡ length labels →
    ((holds : List ℕ → Bool) → AreNoted labels holds new.begun.flags.items → list_all holds (take old.passed labels) ≡ true → IsFirstWithout labels holds new.passed) →
    NotesLabels labels (parts ++ part ∷ []) new
labels_marked labels names parts part old new made is same marks table room first =
    let noted : AreNoted labels (begins_in (parts ++ part ∷ [])) new.begun.flags.items = λ place label at.
    marks place label at
    ∙ (ap₂ (λ a b. a || b) (same place ∙ is.noted place label at) (table label) ∙ sym (last_begins parts part label)) in
    record {
      room = inr room;
      noted = noted;
      first = first (begins_in (parts ++ part ∷ [])) noted
          (all_weaker (begins_in parts) (begins_in (parts ++ part ∷ [])) (begins_more parts (part ∷ [])) (take old.passed labels) is.first.before);
    }

-- a flag is set

pub set_length : (flags : List Bool) (place : ℕ) → length (slice_set flags place true) ≡ length flags
set_length [] place = refl
set_length (flag ∷ flags) zero = refl
set_length (flag ∷ flags) (suc place) = ap suc (set_length flags place)

pub set_there : (flags : List Bool) (place : ℕ) → place < length flags → noted_at (slice_set flags place true) place ≡ true
set_there [] place within = absurd (omega (arith, within))
set_there (flag ∷ flags) zero within = refl
set_there (flag ∷ flags) (suc place) within = set_there flags place (omega (arith, within))

pub set_elsewhere : (flags : List Bool) (place other : ℕ) → (other ≡ place → ⊥) → noted_at (slice_set flags place true) other ≡ noted_at flags other
set_elsewhere [] place other apart = refl
set_elsewhere (flag ∷ flags) zero zero apart = absurd (apart refl)
set_elsewhere (flag ∷ flags) zero (suc other) apart = refl
set_elsewhere (flag ∷ flags) (suc place) zero apart = refl
set_elsewhere (flag ∷ flags) (suc place) (suc other) apart = set_elsewhere flags place other (λ e. apart (ap suc e))

same_place : (labels : List (List ℕ)) (name label : List ℕ) (place : ℕ) → position (bytes_eq name) labels ≡ Some place → position (bytes_eq label) labels ≡ Some place →
    label ≡ name
same_place labels name label place named labelled =
    let first = position-Some (bytes_eq name) labels place [] named in
    let second = position-Some (bytes_eq label) labels place [] labelled in
    (bytes_eq-Decides label (get_or labels place [])).0 second.1 ∙ sym ((bytes_eq-Decides name (get_or labels place [])).0 first.1)

some_same : {A : Type 0} (x y : A) → Some x ≡ Some y → x ≡ y
some_same x y p = cc p

pub one_marked : (labels : List (List ℕ)) (name : List ℕ) (place : ℕ) (flags : List Bool) → position (bytes_eq name) labels ≡ Some place → length flags ≡ length labels →
    MarksNames labels (name ∷ []) flags (slice_set flags place true)
one_marked labels name place flags named room other label at =
    elim (cases_Bool (bytes_eq label name)) [
      | inl is ↦
          let same : label ≡ name = (bytes_eq-Decides label name).0 is in
          let there : other ≡ place = some_same other place (sym at ∙ (ap (λ l. position (bytes_eq l) labels) same ∙ named)) in
          let within = (position-Some (bytes_eq name) labels place [] named).0 in
          ap (noted_at (slice_set flags place true)) there
          ∙ (set_there flags place (subst (λ n. place < n) (sym room) within)
          ∙ sym (ap (λ b. noted_at flags other || (b || false)) is ∙ or_right (noted_at flags other) true refl))
      | inr not ↦
          set_elsewhere flags place other (λ e. true≢false (sym ((bytes_eq-Decides label name).1 (same_place labels name label place named (subst (λ n. position (bytes_eq label) labels ≡ Some n) e at))) ∙ not))
          ∙ sym (ap (λ b. noted_at flags other || (b || false)) not ∙ or_nothing (noted_at flags other))
    ]

pub none_marked : (labels : List (List ℕ)) (name : List ℕ) (flags : List Bool) → position (bytes_eq name) labels ≡ None → MarksNames labels (name ∷ []) flags flags
none_marked labels name flags none other label at =
    elim (cases_Bool (bytes_eq label name)) [
      | inl is ↦
          let same : label ≡ name = (bytes_eq-Decides label name).0 is in
          let clash : None ≡ Some other = sym none ∙ (sym (ap (λ l. position (bytes_eq l) labels) same) ∙ at) in
          cc (clash)
      | inr not ↦ sym (ap (λ b. noted_at flags other || (b || false)) not ∙ or_nothing (noted_at flags other))
    ]

-- one name after another
pub marked_on : (labels names : List (List ℕ)) (name : List ℕ) (old mid new : List Bool) → MarksNames labels names old mid → MarksNames labels (name ∷ []) mid new →
    MarksNames labels (names ++ name ∷ []) old new
marked_on labels names name old mid new first second place label at =
    second place label at
    ∙ (ap (λ b. b || (bytes_eq label name || false)) (first place label at)
    ∙ (or_three (noted_at old place) (list_any (bytes_eq label) names) (bytes_eq label name || false)
    ∙ ap (λ b. noted_at old place || b) (sym (list_any-append (bytes_eq label) names (name ∷ [])))))
  where
    or_three : (a b c : Bool) → ((a || b) || c) ≡ (a || (b || c))
    or_three true b c = refl
    or_three false b c = refl

-- whether all labels have begun a block, where it is known how many of the first ones have

pub not_all : (labels : List (List ℕ)) (holds : List ℕ → Bool) (place : ℕ) → IsFirstWithout labels holds place → place < length labels → list_all holds labels ≡ false
not_all labels holds place is within =
    list_all_at holds labels place [] within (subst (λ o. IfSome o (λ label. holds label ≡ false)) (slice_get-get_or labels place [] within) is.next)

pub all_hold : (labels : List (List ℕ)) (holds : List ℕ → Bool) (place : ℕ) → IsFirstWithout labels holds place → length labels ≤ place → list_all holds labels ≡ true
all_hold labels holds place is past = ap (list_all holds) (sym (take_all place labels past)) ∙ is.before

-- each label stands in its list
pub stands_there : (labels : List (List ℕ)) (place : ℕ) → place < length labels → list_any (bytes_eq (get_or labels place [])) labels ≡ true
stands_there [] place within = absurd (omega (arith, within))
stands_there (label ∷ labels) zero within = or_left (bytes_eq label label) (list_any (bytes_eq label) labels) ((bytes_eq-Decides label label).1 refl)
stands_there (label ∷ labels) (suc place) within =
    or_right (bytes_eq (get_or labels place []) label) (list_any (bytes_eq (get_or labels place [])) labels) (stands_there labels place (omega (arith, within)))

-- one more label has begun a block
pub one_more_holds : (labels : List (List ℕ)) (holds : List ℕ → Bool) (place : ℕ) → place < length labels → list_all holds (take place labels) ≡ true →
    holds (get_or labels place []) ≡ true → list_all holds (take (place + 1) labels) ≡ true
one_more_holds labels holds place within before here =
    list_all_more holds labels place [] within ∙ (ap₂ (λ a b. a && b) before here)

pub next_fails : (labels : List (List ℕ)) (holds : List ℕ → Bool) (place : ℕ) → place < length labels → list_all holds (take place labels) ≡ true →
    holds (get_or labels place []) ≡ false → IsFirstWithout labels holds place
next_fails labels holds place within before fails = record {
  before = before;
  next = subst (λ o. IfSome o (λ label. holds label ≡ false)) (sym (slice_get-get_or labels place [] within)) fails;
}

pub none_next : (labels : List (List ℕ)) (holds : List ℕ → Bool) (place : ℕ) → length labels ≤ place → list_all holds (take place labels) ≡ true →
    IsFirstWithout labels holds place
none_next labels holds place past before = record {
  before = before;
  next = subst (λ o. IfSome o (λ label. holds label ≡ false)) (sym (slice_get_past labels place past)) tt;
}

-- a label that is listed has a place

place_within : (p : List ℕ → Bool) (xs : List (List ℕ)) → list_any p xs ≡ true → position_or_len p xs < length xs
place_within p [] is = cc (is)
place_within p (x ∷ xs) is = go (place_within p xs) (p x) refl
  where
    go : (list_any p xs ≡ true → position_or_len p xs < length xs) → (b : Bool) → p x ≡ b → position_or_len p (x ∷ xs) < length (x ∷ xs)
    go later true e =
        let here : position_or_len p (x ∷ xs) ≡ 0 = ap (λ b. cond (not b) (1 + position_or_len p xs) 0) e in
        omega (arith, here)
    go later false e =
        let rest : list_any p xs ≡ true = sym (ap (λ b. b || list_any p xs) e) ∙ is in
        let there : position_or_len p (x ∷ xs) ≡ 1 + position_or_len p xs = ap (λ b. cond (not b) (1 + position_or_len p xs) 0) e in
        let within = later rest in
        omega (arith, there, within)

pub has_place : (labels : List (List ℕ)) (label : List ℕ) → list_any (bytes_eq label) labels ≡ true → position (bytes_eq label) labels ≡ None → ⊥
has_place labels label is none =
    let p = bytes_eq label in
    let some : position p labels ≡ Some (position_or_len p labels) =
    cond-true (nat_lt (position_or_len p labels) (length labels)) _ _ (lt-ltb (position_or_len p labels) (length labels) (place_within p labels is)) in
    cc (some, none)
