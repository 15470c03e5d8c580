-- What is told grows by one source at a time.
use Rattle.std.proofs.Common.{◌≡◌, ℕ, zero, suc, ◌+◌, ◌<◌, ◌⊎◌, Bool, true, false, ◌&&◌, ◌||◌, List, [], ◌∷◌, ◌++◌, map, length, take, slice_get, Option, Some, None, refl, sym, ◌∙◌, ap, ap₂, subst, inl, inr, arith}
use Rattle.std.specs.Prelude.{bytes_eq}
use Rattle.std.specs.List.{list_all, list_any}
use Rattle.std.proofs.KnownBytes.{Appends-nil, Appends-trans}
use Rattle.std.proofs.lemmas.Grind.{flat_map-append}
use Rattle.std.proofs.lemmas.Bool.{and_from, and_left, and_right, or_left, or_right}
use Rattle.std.proofs.lemmas.List.{append-nil, map-append}
use Rattle.std.proofs.lemmas.List.Folds.{list_all-append, list_any-append}
use Rattle.std.proofs.lemmas.List.Quantifiers.{position-Some}
use Rattle.std.proofs.lemmas.List.Sums.{fold-append}
use Rattle.aero_model.specs.declared.verdict.Counts.{Counts}
use Rattle.aero_model.specs.declared.verdict.Ending.{Ending}
use Rattle.aero_model.specs.CallCounts.{Seen}
use Rattle.aero_model.specs.Terms.{Rules, Terms}
use Rattle.aero_grammar.specs.Reading.{reading_of}
use Rattle.aero_intake.specs.Begun.{AreBegun, AreNoted, all_begin, begins, is_read_through, noted_at}
use Rattle.aero_intake.specs.declared.begun.Begun.{Begun}
use Rattle.aero_intake.proofs.Begins.{all_weaker}
use Rattle.aero_model.specs.Verdicts.{counts_of, counted, no_counts}
use Rattle.aero_report.specs.declared.form.Form.{Form}
use Rattle.aero_report.specs.Forms.{source_line_in, source_lines_in}
use Rattle.aero_telling.specs.declared.cause.Cause.{Cause}
use Rattle.aero_telling.specs.declared.cause.Cause.TheVariants.{Memory, Write}
use Rattle.aero_telling.specs.declared.notable.Notable.{Notable}
use Rattle.aero_telling.specs.Founds.{Sighted, Found, told, lines_of_all, counts_of_all, no_text, Took, WasCutOff, IsNextText, IsWritten, WasRunTo, WasTold}
use Rattle.aero_telling.specs.Labels.{AreBegunAmong, AreLabelsOf, HasFlagsFor, HasNoneBegun, all_read_through, begins_among}
use Rattle.aero_telling.specs.Telling.{JoinsLabels, SumsUp, WasCut}

pub the_some : {A : Type 0} (x y : A) → Some x ≡ Some y → x ≡ y
the_some x y p = cc p

-- the element at a place of a list with one more
pub get_push : {A : Type 0} (xs : List A) (x : A) (s : ℕ) (y : A) → slice_get (xs ++ x ∷ []) s ≡ Some y → (slice_get xs s ≡ Some y) ⊎ ((s ≡ length xs) × (y ≡ x))
get_push [] x zero y at = inr (refl, sym (the_some x y at))
get_push [] x (suc s) y at = cc
get_push (c ∷ xs) x zero y at = inl at
get_push (c ∷ xs) x (suc s) y at = elim (get_push xs x s y at) [ inl is ↦ inl is | inr is ↦ inr (ap suc is.0, is.1) ]

pub slice_get_some : {A : Type 0} (xs : List A) (i : ℕ) → i < length xs → (x : A) × (slice_get xs i ≡ Some x)
slice_get_some [] i less = absurd (omega (arith, less))
slice_get_some (x ∷ xs) zero less = (x, refl)
slice_get_some (x ∷ xs) (suc i) less = slice_get_some xs i (omega (arith, less))

pub lines_more : (form : Form) (founds : List Found) (f : Found) →
    lines_of_all form (founds ++ f ∷ []) ≡ lines_of_all form founds ++ source_line_in form f.name f.finding
lines_more form founds f =
    ap (source_lines_in form) (map-append told founds (f ∷ []))
    ∙ (flat_map-append (λ s. source_line_in form s.0 s.1) (map told founds) (told f ∷ [])
    ∙ ap (λ bs. lines_of_all form founds ++ bs) (append-nil (source_line_in form f.name f.finding)))

pub counts_more : (founds : List Found) (f : Found) → counts_of_all (founds ++ f ∷ []) ≡ counted (counts_of_all founds) f.finding
counts_more founds f =
    ap counts_of (map-append (λ x. x.finding) founds (f ∷ [])) ∙ fold-append counted no_counts (map (λ x. x.finding) founds) (f.finding ∷ [])

pub took_more : (before mid after : Seen) (text more : List ℕ) → Took before mid text → Took mid after more → Took before after (text ++ more)
took_more before mid after text more first then = record {
  went = Appends-trans before.bytes mid.bytes after.bytes text more first.went then.went;
  faults = then.faults ∙ first.faults;
}

pub took_nothing : (before mid after : Seen) (text : List ℕ) → Took before mid text → Took mid after [] → Took before after text
took_nothing before mid after text first then = subst (λ t. Took before after t) (append-nil text) (took_more before mid after text [] first then)

-- memory was refused before the first step
pub refused_at_once : (terms : Terms) (form : Form) (old : List Sighted) (before : Seen) → WasTold terms form old old before before [] [] no_counts (Some Memory)
refused_at_once terms form old before = record {
  founds = [];
  found = λ place f at. cc (at);
  names = refl;
  ended = refl;
  notable = refl;
  counted = refl;
  written = record { went = Appends-nil before.bytes; faults = refl };
}

-- no text is cut off that has nothing
no_part : (written : ℕ) (text : List ℕ) → text ≡ [] → written < length text → ⊥
no_part written text none part = let nothing : length text ≡ 0 = ap length none in omega (arith, nothing, part)

-- where the lines were cut off, what stands behind them doesn't count
cut_before : (terms : Terms) (form : Form) (last : Counts → List ℕ) (old new : List Sighted) (founds : List Found) (before after : Seen) →
    WasCutOff terms form no_text old new founds before after → WasCutOff terms form last old new founds before after
cut_before terms form last old new founds before after cut = record {
  text = cut.text;
  next = elim cut.next [ inl is ↦ inl is | inr is ↦ absurd (no_part cut.written cut.text is.1 cut.part) ];
  written = cut.written;
  part = cut.part;
  went = cut.went;
  faults = cut.faults;
}

pub cut_off : (terms : Terms) (form : Form) (last : Counts → List ℕ) (old now : List Sighted) (before mid after : Seen) (founds : List Found) (text : List ℕ) →
    IsNextText terms form last old now founds text → Took before mid (lines_of_all form founds) → WasCut mid after text →
    WasCutOff terms form last old now founds before after
cut_off terms form last old now before mid after founds text next took cut = record {
  text = text;
  next = next;
  written = cut.written;
  part = cut.part;
  went = Appends-trans before.bytes mid.bytes after.bytes (lines_of_all form founds) (take cut.written text) took.went cut.went;
  faults = cut.faults ∙ ap (λ n. n + 1) took.faults;
}

-- behind the lines stands the last text, or not
pub summed : (terms : Terms) (form : Form) (last : Counts → List ℕ) (old new : List Sighted) (before mid after : Seen) (endings : List (ℕ × Ending))
    (faults : List (Option Notable)) (counts : Counts) (first cause : Option Cause) →
    WasTold terms form old new before mid endings faults counts first → SumsUp (last counts) first mid after cause →
    WasRunTo terms form last old new before after endings faults counts cause
summed terms form last old new before mid after endings faults counts first cause was sums = record {
  founds = was.founds;
  found = was.found;
  names = was.names;
  ended = was.ended;
  notable = was.notable;
  counted = was.counted;
  written = go first cause was.written sums;
}
  where
    alone : Took before mid (lines_of_all form was.founds ++ []) → Took before mid (lines_of_all form was.founds)
    alone took = subst (λ text. Took before mid text) (append-nil (lines_of_all form was.founds)) took

    go : (first cause : Option Cause) → IsWritten terms form no_text old new was.founds before mid first → SumsUp (last counts) first mid after cause →
        IsWritten terms form last old new was.founds before after cause
    go (Some Memory) cause written sums = subst (λ c. IsWritten terms form last old new was.founds before after c) (sym sums.1)
        (subst (λ (s : Seen). Took before s (lines_of_all form was.founds)) (sym sums.0) written)
    go (Some Write) cause written sums = subst (λ c. IsWritten terms form last old new was.founds before after c) (sym sums.1)
        (subst (λ (s : Seen). WasCutOff terms form last old new was.founds before s) (sym sums.0)
        (cut_before terms form last old new was.founds before mid written))
    go None None written sums = (
      written.0,
      subst (λ c. Took before after (lines_of_all form was.founds ++ last c)) was.counted
          (took_more before mid after (lines_of_all form was.founds) (last counts) (alone written.1) sums),
    )
    go None (Some Memory) written sums = took_nothing before mid after (lines_of_all form was.founds) (alone written.1) sums
    go None (Some Write) written sums =
        cut_off terms form last old new before mid after was.founds (last (counts_of_all was.founds)) (inr (written.0, refl)) (alone written.1)
        (subst (λ c. WasCut mid after (last c)) was.counted sums)

-- the same by lists and counts that are the same
pub summed_so : (terms : Terms) (form : Form) (last : Counts → List ℕ) (old new : List Sighted) (before mid after : Seen) (es endings : List (ℕ × Ending))
    (fs faults : List (Option Notable)) (cs counts : Counts) (first cause : Option Cause) → endings ≡ es → faults ≡ fs → counts ≡ cs →
    WasTold terms form old new before mid es fs cs first → SumsUp (last cs) first mid after cause →
    WasRunTo terms form last old new before after endings faults counts cause
summed_so terms form last old new before mid after es endings fs faults cs counts first cause same_endings same_faults same_counts was sums =
    subst (λ x. WasRunTo terms form last old new before after x faults counts cause) (sym same_endings)
    (subst (λ x. WasRunTo terms form last old new before after es x counts cause) (sym same_faults)
    (subst (λ (x : Counts). WasRunTo terms form last old new before after es fs x cause) (sym same_counts)
    (summed terms form last old new before mid after es fs cs first cause was sums)))

-- what is told of the labels, with one more source

or_nothing : (b : Bool) → (b || false) ≡ b
or_nothing true = refl
or_nothing false = refl

last_any : {X : Type 0} (p : X → Bool) (xs : List X) (x : X) → list_any p (xs ++ x ∷ []) ≡ (list_any p xs || p x)
last_any p xs x = list_any-append p xs (x ∷ []) ∙ ap (λ b. list_any p xs || b) (or_nothing (p x))

last_all : {X : Type 0} (p : X → Bool) (xs : List X) (x : X) → list_all p (xs ++ x ∷ []) ≡ (list_all p xs && p x)
last_all p xs x = list_all-append p xs (x ∷ []) ∙ ap (λ b. list_all p xs && b) (and_nothing (p x))
  where
    and_nothing : (b : Bool) → (b && true) ≡ b
    and_nothing true = refl
    and_nothing false = refl

pub none_begun : (terms : Terms) (begun : Option Begun) → HasNoneBegun begun → AreBegunAmong terms [] begun
none_begun terms None none = absurd none
none_begun terms (Some begun) none = (inl refl, λ place label at. none place)

-- no source was told
pub no_labels : (terms : Terms) (old new : List Sighted) (begun : Option Begun) → HasNoneBegun begun → AreLabelsOf terms old new [] begun
no_labels terms old new begun none = record { founds = []; found = λ place f at. cc (at); ended = refl; begun_are = none_begun terms begun none }

pub flags_more : (labels : List (List ℕ)) (had more new : Option Begun) → HasFlagsFor labels had → JoinsLabels had more new → HasFlagsFor labels new
flags_more labels None more new room joins = subst (HasFlagsFor labels) (sym joins) tt
flags_more labels (Some had) None new room joins = subst (HasFlagsFor labels) (sym joins) tt
flags_more labels (Some had) (Some more) new room joins = subst (HasFlagsFor labels) (sym joins.1) (joins.2 ∙ room)

pub begun_more : (terms : Terms) (founds : List Found) (f : Found) (had more new : Option Begun) → HasFlagsFor terms.rules.labels.labels had →
    AreBegunAmong terms founds had → AreBegun terms f.bytes f.ending more → JoinsLabels had more new →
    AreBegunAmong terms (founds ++ f ∷ []) new
begun_more terms founds f had more new room before is joins = go had more room before is joins
  where
    rules : Rules
    rules = terms.rules

    labels : List (List ℕ)
    labels = rules.labels.labels

    Read : Found → Bool
    Read g = is_read_through rules g.bytes g.ending

    unread_before : all_read_through rules founds ≡ false → all_read_through rules (founds ++ f ∷ []) ≡ false
    unread_before e = last_all Read founds f ∙ and_left (list_all Read founds) (Read f) e

    unread_now : Read f ≡ false → all_read_through rules (founds ++ f ∷ []) ≡ false
    unread_now e = last_all Read founds f ∙ and_right (list_all Read founds) (Read f) e

    among : (label : List ℕ) → begins_among (founds ++ f ∷ []) label ≡ (begins_among founds label || begins label (reading_of f.bytes))
    among label = last_any (λ g. begins label (reading_of g.bytes)) founds f

    all_before : list_all (begins_among founds) labels ≡ true → list_all (begins_among (founds ++ f ∷ [])) labels ≡ true
    all_before = all_weaker (begins_among founds) (begins_among (founds ++ f ∷ []))
        (λ label there. among label ∙ or_left (begins_among founds label) (begins label (reading_of f.bytes)) there) labels

    all_now : all_begin rules f.bytes ≡ true → list_all (begins_among (founds ++ f ∷ [])) labels ≡ true
    all_now = all_weaker (λ label. begins label (reading_of f.bytes)) (begins_among (founds ++ f ∷ []))
        (λ label here. among label ∙ or_right (begins_among founds label) (begins label (reading_of f.bytes)) here) labels

    nothing_told : new ≡ None → AreBegunAmong terms (founds ++ f ∷ []) None → AreBegunAmong terms (founds ++ f ∷ []) new
    nothing_told none why = subst (AreBegunAmong terms (founds ++ f ∷ [])) (sym none) why

    go : (had more : Option Begun) → HasFlagsFor labels had → AreBegunAmong terms founds had → AreBegun terms f.bytes f.ending more →
        JoinsLabels had more new → AreBegunAmong terms (founds ++ f ∷ []) new
    go None more room before is joins = nothing_told joins (elim before [ inl stop ↦ inl stop | inr why ↦ inr (elim why [ inl unread ↦ inl (unread_before unread) | inr all ↦ inr (all_before all) ]) ])
    go (Some had) None room before is joins = nothing_told joins (elim is [ inl stop ↦ inl stop | inr why ↦ inr (elim why [ inl unread ↦ inl (unread_now unread) | inr all ↦ inr (all_now all) ]) ])
    go (Some had) (Some more) room before is joins =
        subst (AreBegunAmong terms (founds ++ f ∷ [])) (sym joins.1) (
          elim before.0 [
            | inr all ↦ inr (all_before all)
            | inl read ↦ elim is.0 [
              | inr all ↦ inr (all_now all)
              | inl here ↦ inl (last_all Read founds f ∙ and_from (list_all Read founds) (Read f) read here)
            ]
          ],
          λ place label at.
              let there = position-Some (bytes_eq label) labels place [] at in
              joins.3 place (subst (λ n. place < n) (sym room) there.0)
              ∙ (ap₂ (λ a b. a || b) (before.1 place label at) (is.1 place label at) ∙ sym (among label)),
        )

pub joins_both : (old found : Option Begun) (had more both : Begun) → old ≡ Some had → found ≡ Some more → length both.flags.items ≡ length had.flags.items →
    ((place : ℕ) → place < length had.flags.items → noted_at both.flags.items place ≡ (noted_at had.flags.items place || noted_at more.flags.items place)) →
    JoinsLabels old found (Some both)
joins_both None found had more both old_is found_is count flags = cc (old_is)
joins_both (Some a) None had more both old_is found_is count flags = cc (found_is)
joins_both (Some a) (Some b) had more both old_is found_is count flags =
    let first : a ≡ had = the_some a had old_is in
    let second : b ≡ more = the_some b more found_is in
    subst (λ (x : Begun). JoinsLabels (Some x) (Some b) (Some both)) (sym first)
    (subst (λ (x : Begun). JoinsLabels (Some had) (Some x) (Some both)) (sym second) (both, refl, count, flags))
