-- Events that are admitted behind those for which a checker stands.
use Rattle.std.proofs.Common.{◌≡◌, ℕ, ◌+◌, ◌<◌, ◌≤◌, ◌^◌, nat_le, not, suc, Bool, true, false, if◌then◌else◌, List, [], ◌∷◌, ◌++◌, length, take, map, fold, flat_map, Option, Some, None, Result, Ok, Err, inl, inr, refl, sym, ◌∙◌, ap, subst, arith, append-nil, length-append}
use Rattle.std.specs.Prelude.{bytes_eq, slice_get, All, IfErr, IfSome, OnOk, get_or, unwrap_or}
use Rattle.std.specs.List.{list_any}
use Rattle.std.specs.Result.{result_err}
use Rattle.std.proofs.lemmas.Bool.{and_parts, cases_lt, cond_both, cond-false, cond-true, le-leb, lt-leb, or_cases}
use Rattle.std.proofs.lemmas.Option.{slice_get-get_or, unwrap_or-slice_get}
use Rattle.std.proofs.lemmas.Slice.Eq.{bytes_eq-Decides}
use Rattle.std.proofs.lemmas.List.{length-map, take_all}
use Rattle.std.proofs.lemmas.List.Elements.{All-append, All-cons, All-filter, All-map, All-nil, All-replicate}
use Rattle.aero_model.specs.declared.event.Op.{Op}
use Rattle.aero_model.specs.declared.event.Op.TheVariants as op
use Rattle.aero_model.specs.declared.numbered.Numbered.{Numbered}
use Rattle.aero_model.specs.Ended.{end_of, ended_after, ends_at_end, ends_before, ends_of, is_join, joins_another, open_of, target_of, without_lines}
use Rattle.aero_model.specs.Exempt.{Listed, marked, marked_trace}
use Rattle.aero_model.specs.Named.{HasItsTarget, Named}
use Rattle.aero_model.specs.Numbering.{Tables, tables_of, thread_target, threads_named, with_name}
use Rattle.aero_model.specs.Terms.{Rules}
use Rattle.aero_grammar.specs.Reading.{after_lines}
use Rattle.aero_grammar.specs.Tabled.{AreNames, IsTabled, line_in, lines_in, named_in}
use Rattle.aero_grammar.specs.Words.{IsEvent, IsName}
use Rattle.aero_engine.specs.Given.{Words}
use Rattle.aero_verdict.specs.declared.checker.Checker.{Checker}
use Rattle.aero_verdict.specs.declared.checker.Stop.{Stop}
use Rattle.aero_verdict.specs.declared.known.Exemptions.{Exemptions}
use Rattle.aero_names.specs.Indexed.{AreDistinct}
use Rattle.aero_shape.specs.Standing as shapes
use Rattle.aero_verdict.specs.Ending.{AreOpen, HasAdmitted, HasEnded, IsFrom, IsWithin, StandsBehind, an_end, ends_behind}
use Rattle.aero_verdict.specs.Known.{HasLabel}
use Rattle.aero_verdict.specs.Limited.{names_in}
use Rattle.aero_verdict.specs.Standing.{AreExpected, AreNext, AreTold, HasNamedActor, StandsFor, StopsIn, marked_in, names_of, up_to}
use Rattle.aero_verdict.specs.Verdict.{with_ends}
use Rattle.aero_verdict.proofs.BlockEvents.{chunk_events, chunk_within}
use Rattle.aero_verdict.proofs.Chunks.{are_open, distinct_threads}
use Rattle.aero_verdict.proofs.Ending.{last_ones, with_all, with_on}
use Rattle.aero_verdict.proofs.Readings.{all_up_to, goes_on, slice_get_front}
use Rattle.aero_verdict.proofs.Staying.{given_named}
use Rattle.aero_verdict.proofs.ThreadNames.{at_place}

module _ {E : Type 0} (words : Words E) (rules : Rules) (checker : Checker E) (front : List (ℕ × Named)) (behind : StandsBehind words rules checker front) where
  -- these events come next
  pub next_behind : (block : List (List ℕ)) (flags : Exemptions) (before : ℕ) (more later : List (ℕ × Named)) → AreTold rules.labels block flags more →
      AreNext words rules checker (front ++ (map (after_lines before) more ++ later)) block flags before more
  next_behind block flags before more later told =
      (behind.kept (map (after_lines before) more ++ later), goes_on front later more before checker.shape.admitted behind.count_is, told)

  pub expected_behind : (block : List (List ℕ)) (flags : Exemptions) (before : ℕ) (more : List (ℕ × Named)) → AreTold rules.labels block flags more → checker.shape.admitted + length more < 2 ^ 32 →
      AreExpected words checker block flags before more
  expected_behind block flags before more told short =
      let first = length-append front (map (after_lines before) more ++ []) in
      let second = length-append (map (after_lines before) more) [] in
      let same = length-map more (after_lines before) in
      let count = behind.count_is in
      (rules, front ++ (map (after_lines before) more ++ []), omega (arith, first, second, same, count, short), next_behind block flags before more [] told)

  -- all of them are events with names
  pub events_behind : All (λ e. IsEvent e.1) front
  events_behind = λ i d less.
      let keeps = (behind.kept []).engine_keeps in
      let e : ℕ × Named = get_or front i d in
      let at : slice_get (front ++ []) i ≡ Some e = slice_get_front front [] i less ∙ there front i d less in
      given_named rules (front ++ []) checker.shape.admitted keeps.given keeps.are_given i e (omega (arith, less, behind.count_is)) at
    where
      there : (xs : List (ℕ × Named)) (i : ℕ) (d : ℕ × Named) → i < length xs → slice_get xs i ≡ Some (get_or xs i d)
      there xs i d less = slice_get-get_or xs i d less

  -- blocks end as the rules say
  pub ends_behind_are : checker.ends ≡ rules.end
  ends_behind_are = (behind.kept []).counts.ends

  front_alone : front ++ [] ≡ front
  front_alone = append-nil front

  -- the names and the shape are those of these events
  pub names_behind : names_in checker.numbering ≡ tables_of (names_of front)
  names_behind =
      let counts = (behind.kept []).counts in
      counts.names_are
      ∙ ap (λ es. tables_of (take checker.shape.admitted (names_of es))) front_alone
      ∙ ap tables_of (take_all checker.shape.admitted (names_of front) (let long = length-map front (λ (e : ℕ × Named). e.1) in omega (arith, long, behind.count_is)))

  pub shape_behind : shapes.StandsFor checker.shape (marked_trace rules.labels (names_of front))
  shape_behind =
      let counts = (behind.kept []).counts in
      let all = marked_trace rules.labels (names_of front) in
      let long = length-map (names_of front) (marked rules.labels (tables_of (names_of front))) in
      let own = length-map front (λ (e : ℕ × Named). e.1) in
      subst (shapes.StandsFor checker.shape) (ap (λ es. take checker.shape.admitted (marked_in rules es)) front_alone ∙ take_all checker.shape.admitted all (omega (arith, long, own, behind.count_is))) counts.shape_stands

-- what is told by the answer
pub has_admitted : {E : Type 0} (words : Words E) (rules : Rules) (old new : Checker E) (block : List (List ℕ)) (flags : Exemptions) (before : ℕ) (more : List (ℕ × Named)) (r : Result (Unit {0}) (ℕ × Stop)) →
    OnOk r (new.shape.admitted ≡ old.shape.admitted + length more) → OnOk r ((rules : Rules) (all : List (ℕ × Named)) → AreNext words rules old all block flags before more → StandsFor words rules new all) →
    IfErr r (λ stopped. (rules : Rules) (all : List (ℕ × Named)) → AreNext words rules old all block flags before more → StopsIn words rules new all old.shape.admitted before more stopped.0 stopped.1) →
    (o : Option (ℕ × Stop)) → o ≡ result_err r → HasAdmitted words rules old new block flags before more o
has_admitted words rules old new block flags before more r counted kept stops o is = subst (HasAdmitted words rules old new block flags before more) (sym is) (go r counted kept stops)
  where
    go : (r : Result (Unit {0}) (ℕ × Stop)) → OnOk r (new.shape.admitted ≡ old.shape.admitted + length more) → OnOk r ((rules : Rules) (all : List (ℕ × Named)) → AreNext words rules old all block flags before more → StandsFor words rules new all) →
        IfErr r (λ stopped. (rules : Rules) (all : List (ℕ × Named)) → AreNext words rules old all block flags before more → StopsIn words rules new all old.shape.admitted before more stopped.0 stopped.1) →
        HasAdmitted words rules old new block flags before more (result_err r)
    go (Ok u) counted kept stops = (counted, kept rules)
    go (Err stopped) counted kept stops = stops rules

-- the names of threads

names_kept : (names more : List (List ℕ)) → All IsName names → All IsName more → All IsName (fold with_name names more)
names_kept names [] all rest = all
names_kept names (name ∷ more) all rest =
    names_kept (with_name names name) more
    (cond_both (list_any (bytes_eq name) names) names (names ++ name ∷ []) (All IsName) (λ _. all) (λ _. All-append IsName names (name ∷ []) all (All-cons IsName name [] (rest 0 name (omega arith)) (All-nil IsName))))
    (λ k d less. rest (suc k) d (omega (arith, less)))

target_named : (o : Op) (target : Option (List ℕ)) → IfSome target IsName → All IsName (thread_target o target)
target_named op.Fork (Some name) is = All-cons IsName name [] is (All-nil IsName)
target_named op.Fork None is = All-nil IsName
target_named op.Join (Some name) is = All-cons IsName name [] is (All-nil IsName)
target_named op.Join None is = All-nil IsName
target_named op.Read target is = All-nil IsName
target_named op.Write target is = All-nil IsName
target_named op.Acquire target is = All-nil IsName
target_named op.Release target is = All-nil IsName
target_named op.Begin target is = All-nil IsName
target_named op.End target is = All-nil IsName

all_named : (events : List (ℕ × Named)) → All (λ e. IsEvent e.1) events → All IsName (flat_map threads_named (names_of events))
all_named [] all = All-nil IsName
all_named (e ∷ events) all =
    let is : IsEvent e.1 = all 0 e (omega arith) in
    All-append IsName (threads_named e.1) (flat_map threads_named (names_of events))
    (All-cons IsName e.1.thread (thread_target e.1.op e.1.target) is.thread (target_named e.1.op e.1.target is.target))
    (all_named events (λ k d less. all (suc k) d (omega (arith, less))))

pub threads_are_names : (events : List (ℕ × Named)) → All (λ e. IsEvent e.1) events → All IsName (tables_of (names_of events)).threads
threads_are_names events all = names_kept [] (flat_map threads_named (names_of events)) (All-nil IsName) (all_named events all)

-- so the ends at the end are made by threads with names
pub ends_named_behind : (rules : Rules) (front : List (ℕ × Named)) → All (λ e. IsEvent e.1) front → All HasNamedActor (ends_behind rules front)
ends_named_behind rules front all = go rules.end
  where
    is_name : (names : List (List ℕ)) → All IsName names → (name : List ℕ) → list_any (bytes_eq name) names ≡ true → IsName name
    is_name [] each name there = absurd (cc)
    is_name (x ∷ names) each name there = elim (or_cases (bytes_eq name x) (list_any (bytes_eq name) names) there) [
      | inl same ↦ subst IsName (sym ((bytes_eq-Decides name x).0 same)) (each 0 x (omega arith))
      | inr later ↦ is_name names (λ k d less. each (suc k) d (omega (arith, less))) name later
    ]

    go : (b : Bool) → All HasNamedActor (if b then ends_at_end (names_of front) 1 else [])
    go true = last_ones HasNamedActor 1 (names_of front) (λ name there. is_name (tables_of (names_of front)).threads (threads_are_names front all) name there)
    go false = All-nil HasNamedActor

pub ends_are_ends : (rules : Rules) (front : List (ℕ × Named)) → All (λ e. e.1.op ≡ op.End) (ends_behind rules front)
ends_are_ends rules front = go rules.end
  where
    go : (b : Bool) → All (λ e. e.1.op ≡ op.End) (if b then ends_at_end (names_of front) 1 else [])
    go true = last_ones (λ e. e.1.op ≡ op.End) 1 (names_of front) (λ name there. refl)
    go false = All-nil (λ (e : ℕ × Named). e.1.op ≡ op.End)

-- ends that are made of an event's list

pub from_all : (P : ℕ × Numbered → Type 0) (threads : ℕ) (events ended : List (ℕ × Numbered)) → All P events → ((line u : ℕ) → u < threads → P (line, an_end u)) → All (IsFrom threads events) ended → All P ended
from_all P threads events ended all ends from = λ k d less. go (get_or ended k d) (from k d less)
  where
    go : (e : ℕ × Numbered) → IsFrom threads events e → P e
    go e (inl (j, at)) = at_place P events j e all at
    go (line, event) (inr (is_end, within)) = subst (λ w. P (line, record { thread = event.thread; what = w })) (sym is_end) (ends line event.thread within)

end_named : (T : Tables) (L : List (List ℕ)) → All IsName T.threads → (u : ℕ) → u < length T.threads → IsEvent (named_in T L (an_end u))
end_named T L names u less = record { thread = subst IsName (sym (unwrap_or-slice_get T.threads u [])) (names u [] less); target = tt; has_target = refl }

pub ended_labels : (T : Tables) (L : List (List ℕ)) (threads : ℕ) (events ended : List (ℕ × Numbered)) → All (λ e. HasLabel L e.1.what) events → All (IsFrom threads events) ended → All (λ e. HasLabel L e.1.what) ended
ended_labels T L threads events ended all from = from_all (λ e. HasLabel L e.1.what) threads events ended all (λ line u less. tt) from

pub ended_events : (T : Tables) (L : List (List ℕ)) (events ended : List (ℕ × Numbered)) → All IsName T.threads → All (λ e. IsEvent (named_in T L e.1)) events → All (IsFrom (length T.threads) events) ended → All (λ e. IsEvent (named_in T L e.1)) ended
ended_events T L events ended names all from = from_all (λ e. IsEvent (named_in T L e.1)) (length T.threads) events ended all (λ line u less. end_named T L names u less) from

-- the actors of events and of the ends between them have names
target_is_name : (e : Named) → IsEvent e → joins_another e ≡ true → IsName (target_of e)
target_is_name e is joins = of_op e.op (and_parts (is_join e.op) (not (bytes_eq (target_of e) e.thread)) joins).0 e.target is.target is.has_target
  where
    of_op : (o : Op) → is_join o ≡ true → (target : Option (List ℕ)) → IfSome target IsName → HasItsTarget o target → IsName (unwrap_or target [])
    of_op op.Join join (Some name) named has = named
    of_op op.Join join None named has = absurd (cc)
    of_op op.Read join target named has = absurd (cc)
    of_op op.Write join target named has = absurd (cc)
    of_op op.Acquire join target named has = absurd (cc)
    of_op op.Release join target named has = absurd (cc)
    of_op op.Fork join target named has = absurd (cc)
    of_op op.Begin join target named has = absurd (cc)
    of_op op.End join target named has = absurd (cc)

ended_actors : (before : List Named) (es : List (ℕ × Named)) → All (λ e. IsEvent e.1) es → All HasNamedActor (ended_after before es)
ended_actors before [] all = All-nil HasNamedActor
ended_actors before (e ∷ es) all =
    let here : IsEvent e.1 = all 0 e (omega arith) in
    let next = before ++ without_lines (ends_before before e) ++ e.1 ∷ [] in
    All-append HasNamedActor (ends_before before e) (e ∷ ended_after next es) (go here (joins_another e.1) refl)
    (All-cons HasNamedActor e (ended_after next es) here.thread (ended_actors next es (λ k d less. all (suc k) d (omega (arith, less)))))
  where
    go : IsEvent e.1 → (b : Bool) → joins_another e.1 ≡ b → All HasNamedActor (if b then ends_of before e.0 (target_of e.1) else [])
    go here true joins = All-replicate HasNamedActor (open_of before (target_of e.1)) (e.0, end_of (target_of e.1)) (target_is_name e.1 here joins)
    go here false joins = All-nil HasNamedActor

pub with_actors : (rules : Rules) (before : List Named) (es : List (ℕ × Named)) → All (λ e. IsEvent e.1) es → All HasNamedActor (with_ends rules before es)
with_actors rules before es all = go rules.end
  where
    go : (b : Bool) → All HasNamedActor (if b then ended_after before es else es)
    go true = ended_actors before es all
    go false = λ k d less. (all k d less).thread

pub counted_events_named : (t : Tables) (labels : List (List ℕ)) (events : List (ℕ × Numbered)) (most : ℕ) → IsTabled t labels events → AreNames t labels → All (λ e. IsEvent e.1) (up_to most (lines_in t labels events))
counted_events_named t labels events most tabled names =
    All-filter (λ e. nat_le e.0 most) (λ (e : ℕ × Named). IsEvent e.1) (lines_in t labels events) (All-map (λ (e : ℕ × Named). IsEvent e.1) (line_in t labels) events (chunk_events t labels events tabled names))

-- the ends of a chunk come before its joins

up_to_within : (most : ℕ) (es : List (ℕ × Named)) → All (λ e. e.0 ≤ most) (up_to most es)
up_to_within most [] = All-nil (λ (e : ℕ × Named). e.0 ≤ most)
up_to_within most (e ∷ es) = elim (cases_lt most e.0) [
  | inl beyond ↦ subst (All (λ (x : ℕ × Named). x.0 ≤ most)) (sym (cond-false (nat_le e.0 most) (e ∷ up_to most es) (up_to most es) (lt-leb e.0 most beyond))) (up_to_within most es)
  | inr within ↦
      subst (All (λ (x : ℕ × Named). x.0 ≤ most)) (sym (cond-true (nat_le e.0 most) (e ∷ up_to most es) (up_to most es) (le-leb e.0 most within)))
      (All-cons (λ (x : ℕ × Named). x.0 ≤ most) e (up_to most es) within (up_to_within most es))
]

module _ {E : Type 0} (words : Words E) (rules : Rules) (checker : Checker E) (front : List (ℕ × Named)) (behind : StandsBehind words rules checker front) (on : checker.ends ≡ true) (T : Tables) (L : List (List ℕ)) (events : List (ℕ × Numbered)) (most : ℕ) (tabled : IsTabled T L events)
    (counts : List ℕ) (counts_are : (labels : Listed) (names : List Named) → names_in checker.numbering ≡ tables_of names → shapes.StandsFor checker.shape (marked_trace labels names) → counts ≡ map (open_of names) T.threads)
    (ended : List (ℕ × Numbered)) (named : (tables : Tables) (labels : List (List ℕ)) (before : List Named) → AreDistinct tables.threads → AreOpen before tables.threads counts → All (λ e. IsWithin (length tables.threads) e.1) events →
    lines_in tables labels ended ≡ ended_after before (up_to most (lines_in tables labels events))) where
  abbrev own : List (ℕ × Named)
  own = up_to most (lines_in T L events)

  pub counts_open : AreOpen (names_of front) T.threads counts
  counts_open = are_open (names_of front) T.threads counts (counts_are rules.labels (names_of front) (names_behind words rules checker front behind) (shape_behind words rules checker front behind))

  ended_is : lines_in T L ended ≡ with_ends rules (names_of front) own
  ended_is =
      named T L (names_of front) (distinct_threads T (map (λ e. e.1) (lines_in T L events)) tabled.tables_are) counts_open (chunk_within T L events tabled)
      ∙ sym (with_all rules (names_of front) own (sym (ends_behind_are words rules checker front behind) ∙ on))

  pub ended_counted : up_to most (lines_in T L ended) ≡ with_ends rules (names_of front) own
  ended_counted =
      ap (up_to most) ended_is ∙ all_up_to most (with_ends rules (names_of front) own) (with_on (λ n. n ≤ most) rules (names_of front) own (up_to_within most (lines_in T L events)))

  pub ended_many : length (with_ends rules (names_of front) own) ≡ length ended
  ended_many = ap (λ (es : List (ℕ × Named)). length es) (sym ended_is) ∙ length-map ended (line_in T L)

-- the ends at the end

pub ends_none : (rules : Rules) (front : List (ℕ × Named)) → rules.end ≡ false → ends_behind rules front ≡ []
ends_none rules front none = ap (λ b. if b then ends_at_end (names_of front) 1 else []) none

module _ {E : Type 0} (words : Words E) (rules : Rules) (checker : Checker E) (front : List (ℕ × Named)) (behind : StandsBehind words rules checker front) where
  module _ (on : checker.ends ≡ true) (threads none : List (List ℕ)) (none_is : none ≡ []) (ends : List (ℕ × Numbered))
      (told : (labels : Listed) (names : List Named) → names_in checker.numbering ≡ tables_of names → shapes.StandsFor checker.shape (marked_trace labels names) →
      lines_in (record { threads = threads; variables = []; locks = [] }) [] ends ≡ ends_at_end names 1) where
    last_told : lines_in (record { threads = threads; variables = none; locks = none }) none ends ≡ ends_behind rules front
    last_told =
        ap (λ ns. lines_in (record { threads = threads; variables = ns; locks = ns }) ns ends) none_is
        ∙ told rules.labels (names_of front) (names_behind words rules checker front behind) (shape_behind words rules checker front behind)
        ∙ sym (ap (λ b. if b then ends_at_end (names_of front) 1 else []) (sym (ends_behind_are words rules checker front behind) ∙ on))

    pub last_counted : up_to 1 (lines_in (record { threads = threads; variables = none; locks = none }) none ends) ≡ ends_behind rules front
    last_counted = ap (up_to 1) last_told ∙ all_up_to 1 (ends_behind rules front) (go rules.end)
      where
        go : (b : Bool) → All (λ (e : ℕ × Named). e.0 ≤ 1) (if b then ends_at_end (names_of front) 1 else [])
        go true = last_ones (λ (e : ℕ × Named). e.0 ≤ 1) 1 (names_of front) (λ name there. omega arith)
        go false = All-nil (λ (e : ℕ × Named). e.0 ≤ 1)

    pub last_many : length (ends_behind rules front) ≡ length ends
    last_many = ap (λ (es : List (ℕ × Named)). length es) (sym last_told) ∙ length-map ends (line_in (record { threads = threads; variables = none; locks = none }) none)

  pub last_events : (threads none : List (List ℕ)) (ends : List (ℕ × Numbered)) → threads ≡ checker.numbering.threads.names → All (IsFrom (length threads) []) ends →
      All (λ e. IsEvent (named_in (record { threads = threads; variables = none; locks = none }) none e.1)) ends
  last_events threads none ends are from =
      let T : Tables = record { threads = threads; variables = none; locks = none } in
      let names : All IsName threads =
      subst (All IsName) (sym (are ∙ ap (λ (t : Tables). t.threads) (names_behind words rules checker front behind))) (threads_are_names front (events_behind words rules checker front behind)) in
      ended_events T none [] ends names (All-nil (λ e. IsEvent (named_in T none e.1))) from

  pub has_ended : (new : Checker E) (block : List (List ℕ)) (flags : Exemptions) (before : ℕ) (more : List (ℕ × Named)) → more ≡ ends_behind rules front → (r : Result (Unit {0}) (ℕ × Stop)) →
      OnOk r (new.shape.admitted ≡ checker.shape.admitted + length more) → OnOk r ((rules : Rules) (all : List (ℕ × Named)) → AreNext words rules checker all block flags before more → StandsFor words rules new all) →
      IfErr r (λ stopped. (rules : Rules) (all : List (ℕ × Named)) → AreNext words rules checker all block flags before more → StopsIn words rules new all checker.shape.admitted before more stopped.0 stopped.1) →
      (o : Option (ℕ × Stop)) → o ≡ result_err r → HasEnded words rules checker new before front o
  has_ended new block flags before more more_is r counted kept stops o is =
      go o (subst (λ es. HasAdmitted words rules checker new block flags before es o) more_is (has_admitted words rules checker new block flags before more r counted kept stops o is))
    where
      next : (later : List (ℕ × Named)) → AreNext words rules checker (front ++ (map (after_lines before) (ends_behind rules front) ++ later)) block flags before (ends_behind rules front)
      next later = next_behind words rules checker front behind block flags before (ends_behind rules front) later (inr (ends_are_ends rules front))

      go : (o : Option (ℕ × Stop)) → HasAdmitted words rules checker new block flags before (ends_behind rules front) o → HasEnded words rules checker new before front o
      go None admitted = (admitted.0, λ later. admitted.1 (front ++ (map (after_lines before) (ends_behind rules front) ++ later)) (next later))
      go (Some stopped) admitted = λ later. admitted (front ++ (map (after_lines before) (ends_behind rules front) ++ later)) (next later)
