-- Which labels begin a block of several chunks, and of the text that they are.
use Rattle.std.proofs.Common.{◌≡◌, ◌≢◌, ◌<◌, ◌⊎◌, ℕ, suc, Bool, true, false, not, ◌||◌, ◌&&◌, List, [], ◌∷◌, ◌++◌, map, length, take, get_or, Option, Some, None, refl, sym, ◌∙◌, ap, subst, inl, inr, arith}
use Rattle.std.specs.Prelude.{is_some, option_map, if◌then◌else◌, bytes_eq, flat_map, fold, option_to_list}
use Rattle.std.specs.List.{concat, list_all, list_any, position, slice_set}
use Rattle.std.proofs.lemmas.Bool.{cases_Bool, cases_eq, or_left, or_right, true≢false}
use Rattle.std.proofs.lemmas.List.{map-append}
use Rattle.std.proofs.lemmas.List.Folds.{list_any-append, list_all_at}
use Rattle.std.proofs.lemmas.List.Quantifiers.{position-Some}
use Rattle.std.proofs.lemmas.Slice.Eq.{bytes_eq-Decides}
use Rattle.aero_model.specs.declared.limits.Limits.{Limits}
use Rattle.aero_model.specs.declared.numbered.Numbered.{Numbered}
use Rattle.aero_model.specs.declared.verdict.Ending.TheVariants.{Whole}
use Rattle.aero_model.specs.declared.verdict.LineFault.{LineFault}
use Rattle.aero_model.specs.Exempt.{label_of}
use Rattle.aero_model.specs.Named.{Named}
use Rattle.aero_model.specs.Numbering.{Tables, different_names, with_name}
use Rattle.aero_model.specs.Terms.{Rules, Terms}
use Rattle.aero_grammar.specs.Reading.{Reading, after_lines, fault_within, followed_by, malformed_line, reading_of, whole_reading}
use Rattle.aero_grammar.specs.Tabled.{IsBlock, labels_named, lines_in}
use Rattle.aero_grammar.proofs.Joined.{whole_reading-append}
use Rattle.aero_lines.specs.Cutting.{nothing_yet, blocks_from}
use Rattle.aero_verdict.proofs.Readings.{after_faulty, after_faultless, begins_with}
use Rattle.aero_intake.specs.Begun.{AreBegun, AreNoted, all_begin, begins, begins_in, is_label, is_read_through, noted_at}
use Rattle.aero_intake.specs.Held.{decides, IsFinal}
use Rattle.aero_intake.specs.Stories.{AreEnough, BeginAlike}
use Rattle.aero_intake.specs.Surveys.{IsSaidBy, IsSaidOf, IsSaidUnless}
use Rattle.aero_intake.specs.declared.begun.Begun.{Begun}
use Rattle.aero_intake.proofs.Decided.{front_counts}
use Rattle.aero_intake.proofs.Decisive.{faulty_decides, more_decide}
use Rattle.aero_intake.proofs.Judged.{chunks_read}

-- tests

not_both : (b : Bool) → b ≡ true → b ≡ false → ⊥
not_both b is_true is_false = cc (is_true, is_false)

or_nothing : (b : Bool) → (b || false) ≡ b
or_nothing true = refl
or_nothing false = refl

or_three : (a b c : Bool) → ((a || b) || c) ≡ (a || (b || c))
or_three true b c = refl
or_three false b c = refl

or_again : (a b : Bool) → (b ≡ true → a ≡ true) → a ≡ (a || b)
or_again true b same = refl
or_again false true same = same refl
or_again false false same = refl

both_hold : (a b : Bool) → (a && b) ≡ true → (a ≡ true) × (b ≡ true)
both_hold true b is = (refl, is)
both_hold false b is = cc (is)

hold_both : (a b : Bool) → a ≡ true → b ≡ true → (a && b) ≡ true
hold_both true b first second = second
hold_both false b first second = cc (first)

pub all_weaker : (f g : List ℕ → Bool) → ((x : List ℕ) → f x ≡ true → g x ≡ true) → (xs : List (List ℕ)) → list_all f xs ≡ true → list_all g xs ≡ true
all_weaker f g to [] is = refl
all_weaker f g to (x ∷ xs) is =
    let each = both_hold (f x) (list_all f xs) is in
    hold_both (g x) (list_all g xs) (to x each.0) (all_weaker f g to xs each.1)

-- what holds of all labels holds of each that is listed
pub listed_holds : (holds : List ℕ → Bool) (labels : List (List ℕ)) (place : ℕ) (label : List ℕ) → position (bytes_eq label) labels ≡ Some place →
    list_all holds labels ≡ true → holds label ≡ true
listed_holds holds labels place label at all =
    let there = position-Some (bytes_eq label) labels place [] at in
    let same : label ≡ get_or labels place [] = (bytes_eq-Decides label (get_or labels place [])).0 there.1 in
    ap holds same ∙ (elim (cases_Bool (holds (get_or labels place []))) [
      | inl is ↦ is
      | inr none ↦ absurd (not_both (list_all holds labels) all (list_all_at holds labels place [] there.0 none))
    ])

-- the labels of texts, one after the other

abbrev says : List ℕ → ℕ × Named → Bool
says label e = is_label label (label_of e.1.op e.1.target)

later_says : (label : List ℕ) (n : ℕ) (es : List (ℕ × Named)) → list_any (says label) (map (after_lines n) es) ≡ list_any (says label) es
later_says label n [] = refl
later_says label n (e ∷ es) = ap (λ b. says label e || b) (later_says label n es)

begins_both : (label : List ℕ) (p r : Reading) → is_some p.fault ≡ false → begins label (followed_by p r) ≡ (begins label p || begins label r)
begins_both label p r faultless =
    ap (begins label) (after_faultless p r faultless)
    ∙ (list_any-append (says label) p.events (map (after_lines p.lines) r.events)
    ∙ ap (λ b. begins label p || b) (later_says label p.lines r.events))

begins_first : (label : List ℕ) (p r : Reading) → begins label p ≡ true → begins label (followed_by p r) ≡ true
begins_first label p r is =
    let behind = begins_with p r in
    ap (list_any (says label)) behind.1
    ∙ (list_any-append (says label) p.events behind.0 ∙ or_left (begins label p) (list_any (says label) behind.0) is)

later_fault : (n : ℕ) (f : Option (ℕ × LineFault)) → is_some (option_map (after_lines n) f) ≡ is_some f
later_fault n None = refl
later_fault n (Some f) = refl

faultless_parts : (r : Reading) (more : List Reading) → is_some (whole_reading (r ∷ more)).fault ≡ false →
    (is_some r.fault ≡ false) × (is_some (whole_reading more).fault ≡ false)
faultless_parts r more none = go (is_some r.fault) refl
  where
    go : (b : Bool) → is_some r.fault ≡ b → (is_some r.fault ≡ false) × (is_some (whole_reading more).fault ≡ false)
    go true e = absurd (not_both (is_some r.fault) e (sym (ap (λ (x : Reading). is_some x.fault) (after_faulty r (whole_reading more) e)) ∙ none))
    go false e = (
      e,
      sym (later_fault r.lines (whole_reading more).fault)
          ∙ (sym (ap (λ (x : Reading). is_some x.fault) (after_faultless r (whole_reading more) e)) ∙ none),
    )

-- the chunks begin blocks as their text does, if no line is malformed
pub begins_parts : (label : List ℕ) (parts : List Reading) → is_some (whole_reading parts).fault ≡ false →
    begins label (whole_reading parts) ≡ begins_in parts label
begins_parts label [] none = refl
begins_parts label (r ∷ more) none =
    let each = faultless_parts r more none in
    begins_both label r (whole_reading more) each.0 ∙ ap (λ b. begins label r || b) (begins_parts label more each.1)

some_either : (b : Bool) (x y : ℕ × LineFault) → is_some (if b then Some x else Some y) ≡ true
some_either true x y = refl
some_either false x y = refl

no_fault : (limits : Limits) (parts : List Reading) → decides limits parts ≡ false → is_some (whole_reading parts).fault ≡ false
no_fault limits parts none = go (whole_reading parts).fault none
  where
    go : (f : Option (ℕ × LineFault)) → is_some (fault_within limits.lines (whole_reading parts).lines f) ≡ false → is_some f ≡ false
    go None none = refl
    go (Some f) none = absurd (not_both (is_some (fault_within limits.lines (whole_reading parts).lines (Some f))) (some_either _ _ _) none)

-- with more chunks

pub decides_more : (rules : Rules) (parts : List Reading) (more : List (List ℕ)) → decides rules.limits parts ≡ true →
    decides rules.limits (parts ++ map reading_of more) ≡ true
decides_more rules parts more is = sym (ap is_some (front_counts rules parts more is).fault) ∙ is

pub begins_more : (parts more : List Reading) (label : List ℕ) → begins_in parts label ≡ true → begins_in (parts ++ more) label ≡ true
begins_more parts more label is = list_any-append (begins label) parts more ∙ or_left (begins_in parts label) (begins_in more label) is

pub faulty_final : (terms : Terms) (parts : List Reading) → decides terms.rules.limits parts ≡ true → IsFinal terms parts
faulty_final terms parts is = record { decisive = faulty_decides terms parts is; labels = inr (inl is) }

pub more_final : (terms : Terms) (parts : List Reading) (chunks : List (List ℕ)) → IsFinal terms parts → IsFinal terms (parts ++ map reading_of chunks)
more_final terms parts chunks is = record {
  decisive = more_decide terms parts chunks is.decisive;
  labels = elim is.labels [
    | inl stop ↦ inl stop
    | inr needs ↦ elim needs [
      | inl faulty ↦ inr (inl (decides_more terms.rules parts chunks faulty))
      | inr all ↦ inr (inr (all_weaker (begins_in parts) (begins_in (parts ++ map reading_of chunks)) (begins_more parts (map reading_of chunks)) terms.rules.labels.labels all))
    ]
  ];
}

-- what enough chunks say of the labels is what the text that the pieces are says
pub begun_of_text : (terms : Terms) (asked pieces : List (List ℕ)) (begun : Option Begun) → AreEnough terms asked (blocks_from nothing_yet pieces) →
    IsSaidOf terms (map reading_of asked) Whole begun → AreBegun terms (concat pieces) Whole begun
begun_of_text terms asked pieces begun enough said = elim (cases_Bool terms.stop) [
  | inl stop ↦
      let none : begun ≡ None = subst (λ s. IsSaidUnless s terms.rules (map reading_of asked) begun) stop said in
      subst (AreBegun terms (concat pieces) Whole) (sym none) (inl stop)
  | inr on ↦ by on enough begun (subst (λ s. IsSaidUnless s terms.rules (map reading_of asked) begun) on said)
]
  where
    rules : Rules
    rules = terms.rules

    all : List (List ℕ)
    all = blocks_from nothing_yet pieces

    text : Reading
    text = reading_of (concat pieces)

    faults_same : decides rules.limits (map reading_of all) ≡ is_some (malformed_line rules.limits.lines text)
    faults_same = ap (λ (r : Reading). is_some (malformed_line rules.limits.lines r)) (chunks_read pieces)

    faulty_text : decides rules.limits (map reading_of all) ≡ true → is_read_through rules (concat pieces) Whole ≡ false
    faulty_text is = ap not (sym faults_same ∙ is)

    joined : (chunks front rest : List (List ℕ)) → chunks ≡ front ++ rest → map reading_of chunks ≡ map reading_of front ++ map reading_of rest
    joined chunks front rest are = ap (map reading_of) are ∙ map-append reading_of front rest

    by_all : asked ≡ all → (begun : Option Begun) → IsSaidBy rules.limits rules.labels.labels (map reading_of asked) begun → AreBegun terms (concat pieces) Whole begun
    by_all same None said = inr (inl (faulty_text (subst (λ bs. decides rules.limits (map reading_of bs) ≡ true) same said)))
    by_all same (Some b) said =
        let here = subst (λ bs. IsSaidBy rules.limits rules.labels.labels (map reading_of bs) (Some b)) same said in (
          inl (ap not (sym faults_same ∙ here.0)),
          λ place label at. here.1 place label at
              ∙ (sym (begins_parts label (map reading_of all) (no_fault rules.limits (map reading_of all) here.0)) ∙ ap (begins label) (chunks_read pieces)),
        )

    by_fault : (alike : BeginAlike terms asked all) → decides rules.limits (map reading_of alike.front) ≡ true → (begun : Option Begun) →
        IsSaidBy rules.limits rules.labels.labels (map reading_of asked) begun → AreBegun terms (concat pieces) Whole begun
    by_fault alike faulty None said =
        inr (inl (faulty_text (subst (λ rs. decides rules.limits rs ≡ true) (sym (joined all alike.front alike.others alike.all_are))
        (decides_more rules (map reading_of alike.front) alike.others faulty))))
    by_fault alike faulty (Some b) said =
        absurd (not_both (decides rules.limits (map reading_of asked)) (subst (λ rs. decides rules.limits rs ≡ true) (sym (joined asked alike.front alike.rest alike.asked_are))
        (decides_more rules (map reading_of alike.front) alike.rest faulty)) said.0)

    by_labels : (alike : BeginAlike terms asked all) → decides rules.limits (map reading_of alike.front) ≡ false →
        list_all (begins_in (map reading_of alike.front)) rules.labels.labels ≡ true → (begun : Option Begun) →
        IsSaidBy rules.limits rules.labels.labels (map reading_of asked) begun → AreBegun terms (concat pieces) Whole begun
    by_labels alike faultless front_all = go
      where
        front : List Reading
        front = map reading_of alike.front

        in_text : (label : List ℕ) → begins_in front label ≡ true → begins label text ≡ true
        in_text label is =
            let here : begins label (whole_reading front) ≡ true = begins_parts label front (no_fault rules.limits front faultless) ∙ is in
            let there = begins_first label (whole_reading front) (whole_reading (map reading_of alike.others)) here in
            let same : text ≡ followed_by (whole_reading front) (whole_reading (map reading_of alike.others)) =
            sym (chunks_read pieces) ∙ (ap whole_reading (joined all alike.front alike.others alike.all_are) ∙ whole_reading-append front (map reading_of alike.others)) in
            ap (begins label) same ∙ there

        text_all : all_begin rules (concat pieces) ≡ true
        text_all = all_weaker (begins_in front) (λ label. begins label text) in_text rules.labels.labels front_all

        go : (begun : Option Begun) → IsSaidBy rules.limits rules.labels.labels (map reading_of asked) begun → AreBegun terms (concat pieces) Whole begun
        go None said = inr (inr text_all)
        go (Some b) said = (
          inr text_all,
          λ place label at.
              let listed = listed_holds (begins_in front) rules.labels.labels place label at front_all in
              let in_asked : begins_in (map reading_of asked) label ≡ true =
              ap (λ rs. begins_in rs label) (joined asked alike.front alike.rest alike.asked_are) ∙ begins_more front (map reading_of alike.rest) label listed in
              said.1 place label at ∙ (in_asked ∙ sym (in_text label listed)),
        )

    by : terms.stop ≡ false → AreEnough terms asked all → (begun : Option Begun) → IsSaidBy rules.limits rules.labels.labels (map reading_of asked) begun →
        AreBegun terms (concat pieces) Whole begun
    by on (inl same) begun said = by_all same begun said
    by on (inr alike) begun said = elim (cases_Bool (decides rules.limits (map reading_of alike.front))) [
      | inl faulty ↦ by_fault alike faulty begun said
      | inr faultless ↦ elim alike.decided.labels [
        | inl stop ↦ absurd (not_both terms.stop stop on)
        | inr needs ↦ elim needs [
          | inl faulty ↦ by_fault alike faulty begun said
          | inr front_all ↦ by_labels alike faultless front_all begun said
        ]
      ]
    ]

-- the table of a block's labels

any_with : (x name : List ℕ) (names : List (List ℕ)) → list_any (bytes_eq x) (with_name names name) ≡ (list_any (bytes_eq x) names || bytes_eq x name)
any_with x name names = both (list_any (bytes_eq name) names) refl
  where
    both : (b : Bool) → list_any (bytes_eq name) names ≡ b → list_any (bytes_eq x) (with_name names name) ≡ (list_any (bytes_eq x) names || bytes_eq x name)
    both true there =
        ap (λ b. list_any (bytes_eq x) (if b then names else names ++ name ∷ [])) there
        ∙ or_again (list_any (bytes_eq x) names) (bytes_eq x name) (λ same. ap (λ l. list_any (bytes_eq l) names) ((bytes_eq-Decides x name).0 same) ∙ there)
    both false absent =
        ap (λ b. list_any (bytes_eq x) (if b then names else names ++ name ∷ [])) absent
        ∙ (list_any-append (bytes_eq x) names (name ∷ []) ∙ ap (λ b. list_any (bytes_eq x) names || b) (or_nothing (bytes_eq x name)))

any_folded : (x : List ℕ) (names had : List (List ℕ)) → list_any (bytes_eq x) (fold with_name had names) ≡ (list_any (bytes_eq x) had || list_any (bytes_eq x) names)
any_folded x [] had = sym (or_nothing (list_any (bytes_eq x) had))
any_folded x (name ∷ names) had =
    any_folded x names (with_name had name)
    ∙ (ap (λ b. b || list_any (bytes_eq x) names) (any_with x name had) ∙ or_three (list_any (bytes_eq x) had) (bytes_eq x name) (list_any (bytes_eq x) names))

any_label : (x : List ℕ) (label : Option (List ℕ)) → list_any (bytes_eq x) (option_to_list label) ≡ is_label x label
any_label x None = refl
any_label x (Some label) = or_nothing (bytes_eq x label)

any_named : (x : List ℕ) (es : List (ℕ × Named)) → list_any (bytes_eq x) (flat_map labels_named (map (λ e. e.1) es)) ≡ list_any (says x) es
any_named x [] = refl
any_named x (e ∷ es) =
    list_any-append (bytes_eq x) (labels_named e.1) (flat_map labels_named (map (λ e. e.1) es))
    ∙ (ap (λ b. b || list_any (bytes_eq x) (flat_map labels_named (map (λ e. e.1) es))) (any_label x (label_of e.1.op e.1.target))
    ∙ ap (λ b. says x e || b) (any_named x es))

-- a block's table has just the labels of its begins
pub table_begins : (tables : Tables) (labels : List (List ℕ)) (events : List (ℕ × Numbered)) (lines : ℕ) (fault : Option (ℕ × LineFault)) →
    IsBlock tables labels events lines fault → (x : List ℕ) →
    list_any (bytes_eq x) labels ≡ begins x (record { events = lines_in tables labels events; lines = lines; fault = fault })
table_begins tables labels events lines fault is x =
    ap (list_any (bytes_eq x)) is.tabled.labels_are
    ∙ (any_folded x (flat_map labels_named (map (λ e. e.1) (lines_in tables labels events))) [] ∙ any_named x (lines_in tables labels events))
