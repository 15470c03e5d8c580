-- What explains a violation explains it whatever events come after the one that closes the cycle.
use Rattle.std.proofs.Common.{◌≡◌, ◌↔◌, nat_le, ℕ, zero, suc, ◌<◌, ◌≤◌, ◌==◌, true, List, [], ◌∷◌, ◌++◌, length, take, drop, map, Option, Some, None, option_map, inl, inr, refl, sym, ◌∙◌, ap, ap₂, subst, arith}
use Rattle.std.specs.Prelude.{slice_get, All, filter, option_and_then}
use Rattle.std.specs.List.{AllZip}
use Rattle.std.specs.Option.{option_or}
use Rattle.std.proofs.lemmas.Bool.{cases_lt, and_parts, eqb-true}
use Rattle.std.proofs.lemmas.List.{append_assoc}
use Rattle.std.proofs.lemmas.List.Elements.{filter-append}
use Rattle.std.proofs.lemmas.Option.{slice_get-map, same_Some}
use Rattle.aero_model.specs.declared.numbered.Numbered.{Numbered}
use Rattle.aero_model.specs.declared.verdict.Cycle.{Cycle}
use Rattle.aero_model.specs.declared.verdict.CycleStep.{CycleStep}
use Rattle.aero_model.specs.declared.verdict.CycleTransaction.{CycleTransaction}
use Rattle.aero_model.specs.declared.verdict.Extent.{Extent}
use Rattle.aero_model.specs.declared.verdict.Extent.TheVariants as extents
use Rattle.aero_model.specs.declared.verdict.Verdict.{Verdict}
use Rattle.aero_model.specs.declared.verdict.Verdict.TheVariants.{Serializable, Pending, Violation, Malformed, IllFormed}
use Rattle.aero_model.specs.Blocks.{Block, transaction, blocks, depth, is_begin, by_thread, HasEnded}
use Rattle.aero_model.specs.Graph.{Visit}
use Rattle.aero_model.specs.Cycle.{HasTellingCycle, IsClosing, IsOpener}
use Rattle.aero_model.specs.Exempt.{Marked, marked, judged, judged_trace}
use Rattle.aero_model.specs.Named.{Named, HasItsTarget}
use Rattle.aero_model.specs.Numbering.{tables_of, number_of, numbered}
use Rattle.aero_model.specs.Shape.{fault_at, limit_fault, shape_fault}
use Rattle.aero_model.proofs.Depths.{opening_at}
use Rattle.aero_model.proofs.Exempt.{judged_at, judged_taken}
use Rattle.aero_model.proofs.Stability.{Agree, agree_back, opens_same, transaction_same, ended_same}
use Rattle.aero_model.proofs.TellingCycles.{telling_same}
use Rattle.aero_model.proofs.WellFormed.{slice_get-take}
use Rattle.aero_grammar.specs.Reading.{Reading, whole_reading}
use Rattle.aero_grammar.specs.Words.{IsEvent}
use Rattle.aero_grammar.proofs.Joined.{whole_reading-append}
use Rattle.aero_names.specs.Additions.{with_event, numbered_after}
use Rattle.aero_names.proofs.Fronts.{Extends, tables_pushed, tables_extended, numbered_kept}
use Rattle.aero_witness.proofs.Nests.{opening_first}
use Rattle.aero_engine.specs.Given.{Given}
use Rattle.aero_verdict.specs.declared.checker.Checker.{Checker}
use Rattle.aero_verdict.specs.Explained.{round_places, IsFirstOf, IsEnd, IsExtent, IsCycleStep, IsCycleTransaction, IsExplained, IsCycleOf}
use Rattle.aero_verdict.specs.Fed.{IsCertain}
use Rattle.aero_verdict.specs.Parts.{KeepsAt, ClosesEarly}
use Rattle.aero_verdict.specs.Standing.{names_of, marked_in, AreGiven}
use Rattle.aero_verdict.specs.Verdict.{counted_events, own_events, with_ends, read_trace, checked_trace, HasName, IsOnLine, IsViolation, IsVerdict}
use Rattle.aero_model.specs.Terms.{Rules}
use Rattle.aero_verdict.proofs.Ending.{so_far, last_ends, counted_is, with_append}
use Rattle.aero_verdict.proofs.Readings.{begins_with, slice_get_front, none_past}
use Rattle.aero_verdict.proofs.Rounds.{round_within, enters_within}
use Rattle.aero_verdict.proofs.Steps.{take_pushed, front_and_rest}
use Rattle.aero_verdict.proofs.Stops.{named_still}
use Rattle.aero_verdict.proofs.ThreadNames.{was, was_at, in_first}

take_map : {A B : Type 0} (f : A → B) (xs : List A) (n : ℕ) → take n (map f xs) ≡ map f (take n xs)
take_map f [] zero = refl
take_map f [] (suc n) = refl
take_map f (x ∷ xs) zero = refl
take_map f (x ∷ xs) (suc n) = ap (λ ys. f x ∷ ys) (take_map f xs n)

-- lists that are alike at each of the first n places begin alike
take_same : {A : Type 0} (n : ℕ) (xs ys : List A) → ((i : ℕ) → i < n → slice_get xs i ≡ slice_get ys i) → take n xs ≡ take n ys
take_same zero [] [] same = refl
take_same zero [] (y ∷ ys) same = refl
take_same zero (x ∷ xs) [] same = refl
take_same zero (x ∷ xs) (y ∷ ys) same = refl
take_same (suc n) [] [] same = refl
take_same (suc n) [] (y ∷ ys) same = absurd (let h = same 0 (omega arith) in cc)
take_same (suc n) (x ∷ xs) [] same = absurd (let h = same 0 (omega arith) in cc)
take_same (suc n) (x ∷ xs) (y ∷ ys) same = ap₂ (λ z zs. z ∷ zs) (same_Some x y (same 0 (omega arith))) (take_same n xs ys (λ i less. same (suc i) (omega (arith, less))))

-- an event is numbered by those before it alone
numbered_front : (all : List Named) (i : ℕ) (d : Named) → slice_get all i ≡ Some d → HasItsTarget d.op d.target → numbered (tables_of all) d ≡ numbered_after (tables_of (take i all)) d
numbered_front all i d at has =
    let next : tables_of (take (suc i) all) ≡ with_event (tables_of (take i all)) d = ap tables_of (take_pushed all i d at) ∙ tables_pushed (take i all) d in
    let extends : Extends (with_event (tables_of (take i all)) d) (tables_of all) =
    subst (λ t. Extends t (tables_of all)) next
    (subst (λ es. Extends (tables_of (take (suc i) all)) (tables_of es)) (front_and_rest all (suc i)) (tables_extended (take (suc i) all) (drop (suc i) all))) in
    numbered_kept (tables_of (take i all)) (tables_of all) d has extends

-- pairs of a list of which all elements are so
zip_where : {A B : Type 0} (P : A → Type 0) (R S : A → B → Type 0) → ((x : A) (y : B) → P x → R x y → S x y) → (xs : List A) (ys : List B) → All P xs → AllZip R xs ys → AllZip S xs ys
zip_where P R S thus [] [] all zip = zip
zip_where P R S thus [] (y ∷ ys) all zip = absurd zip
zip_where P R S thus (x ∷ xs) [] all zip = absurd zip
zip_where P R S thus (x ∷ xs) (y ∷ ys) all zip = (thus x y (all 0 x (omega arith)) zip.0, zip_where P R S thus xs ys (λ k d less. all (suc k) d (omega (arith, less))) zip.1)

opener_same : (n : ℕ) (a b : List Numbered) → Agree n a b → (t k : ℕ) → IsOpener a n t k → IsOpener b n t k
opener_same n a b h t k o =
    let c = o.begins in
    record {
      begins = (c.0, c.1, telling_same n a b h n (omega arith) c.0 c.1 c.2, sym (transaction_same n a b h (c.0).enters c.2.visit.enters) ∙ c.3);
      least = λ first rest e telling at. o.least first rest e (telling_same n b a (agree_back n a b h) n (omega arith) first rest telling) (h.same first.enters telling.visit.enters ∙ at);
    }

has_cycle_same : (n : ℕ) (a b : List Numbered) → Agree n a b → (m : ℕ) → m ≤ n → HasTellingCycle a m → HasTellingCycle b m
has_cycle_same n a b h m le c = (c.0, c.1, telling_same n a b h m le c.0 c.1 c.2)

pub closing_same : (n : ℕ) (a b : List Numbered) → Agree (suc n) a b → IsClosing a n → IsClosing b n
closing_same n a b h c = record {
  closed = has_cycle_same (suc n) a b h (suc n) (omega arith) c.closed;
  before = λ m le has. c.before m le (has_cycle_same (suc n) b a (agree_back (suc n) a b h) m (omega (arith, le)) has);
}

-- parts whose first n events that count are alike
pub record BeginSame (parts others : List Reading) (rules : Rules) (n : ℕ) : Type 0 where
  pub at_same : (i : ℕ) → i < n → slice_get (counted_events parts rules) i ≡ slice_get (counted_events others rules) i
  pub named : (i : ℕ) (e : ℕ × Named) → i < n → slice_get (counted_events parts rules) i ≡ Some e → IsEvent e.1

pub begin_back : (parts others : List Reading) (rules : Rules) (n : ℕ) → BeginSame parts others rules n → BeginSame others parts rules n
begin_back parts others rules n same = record {
  at_same = λ i less. sym (same.at_same i less);
  named = λ i e less at. same.named i e less (same.at_same i less ∙ at);
}

module _ (parts others : List Reading) (rules : Rules) (n : ℕ) (same : BeginSame parts others rules n) where
  abbrev here : List (ℕ × Named)
  here = counted_events parts rules

  abbrev there : List (ℕ × Named)
  there = counted_events others rules

  names_at : (i : ℕ) → i < n → slice_get (names_of here) i ≡ slice_get (names_of there) i
  names_at i less =
      slice_get-map (λ (e : ℕ × Named). e.1) here i
      ∙ ap (option_map (λ (e : ℕ × Named). e.1)) (same.at_same i less)
      ∙ sym (slice_get-map (λ (e : ℕ × Named). e.1) there i)

  pub names_front : take n (names_of here) ≡ take n (names_of there)
  names_front = take_same n (names_of here) (names_of there) names_at

  names_before : (i : ℕ) → i < n → take i (names_of here) ≡ take i (names_of there)
  names_before i less = take_same i (names_of here) (names_of there) (λ k l. names_at k (omega (arith, l, less)))

  number_same : (i : ℕ) (d : Named) → i < n → slice_get (names_of here) i ≡ Some d → numbered (tables_of (names_of here)) d ≡ numbered (tables_of (names_of there)) d
  number_same i d less at =
      let e = was_at (λ (x : ℕ × Named). x.1) here i d at in
      let is = subst IsEvent e.gives (same.named i e.value less e.here) in
      numbered_front (names_of here) i d at is.has_target
      ∙ ap (λ es. numbered_after (tables_of es) d) (names_before i less)
      ∙ sym (numbered_front (names_of there) i d (sym (names_at i less) ∙ at) is.has_target)

  marked_at : (i : ℕ) → i < n → slice_get (marked_in rules here) i ≡ slice_get (marked_in rules there) i
  marked_at i less =
      slice_get-map (marked rules.labels (tables_of (names_of here))) (names_of here) i
      ∙ go (slice_get (names_of here) i) refl
      ∙ ap (option_map (marked rules.labels (tables_of (names_of there)))) (names_at i less)
      ∙ sym (slice_get-map (marked rules.labels (tables_of (names_of there))) (names_of there) i)
    where
      go : (o : Option Named) → slice_get (names_of here) i ≡ o → option_map (marked rules.labels (tables_of (names_of here))) (slice_get (names_of here) i) ≡ option_map (marked rules.labels (tables_of (names_of there))) (slice_get (names_of here) i)
      go None none = ap (option_map (marked rules.labels (tables_of (names_of here)))) none ∙ sym (ap (option_map (marked rules.labels (tables_of (names_of there)))) none)
      go (Some d) at =
          ap (option_map (marked rules.labels (tables_of (names_of here)))) at
          ∙ ap (λ (x : Numbered). Some (record { event = x; exempt = (marked rules.labels (tables_of (names_of here)) d).exempt })) (number_same i d less at)
          ∙ sym (ap (option_map (marked rules.labels (tables_of (names_of there)))) at)

  judged_front : take n (checked_trace parts rules) ≡ take n (checked_trace others rules)
  judged_front =
      judged_taken (marked_in rules here) n
      ∙ ap judged_trace (take_same n (marked_in rules here) (marked_in rules there) marked_at)
      ∙ sym (judged_taken (marked_in rules there) n)

  pub agree : Agree n (checked_trace parts rules) (checked_trace others rules)
  agree = record { same = λ i less. sym (slice_get-take (checked_trace parts rules) n i less) ∙ ap (λ es. slice_get es i) judged_front ∙ slice_get-take (checked_trace others rules) n i less }

  read_at_same : (i : ℕ) → i < n → slice_get (read_trace parts rules) i ≡ slice_get (read_trace others rules) i
  read_at_same i less =
      slice_get-map (numbered (tables_of (names_of here))) (names_of here) i
      ∙ go (slice_get (names_of here) i) refl
      ∙ ap (option_map (numbered (tables_of (names_of there)))) (names_at i less)
      ∙ sym (slice_get-map (numbered (tables_of (names_of there))) (names_of there) i)
    where
      go : (o : Option Named) → slice_get (names_of here) i ≡ o → option_map (numbered (tables_of (names_of here))) (slice_get (names_of here) i) ≡ option_map (numbered (tables_of (names_of there))) (slice_get (names_of here) i)
      go None none = ap (option_map (numbered (tables_of (names_of here)))) none ∙ sym (ap (option_map (numbered (tables_of (names_of there)))) none)
      go (Some d) at =
          ap (option_map (numbered (tables_of (names_of here)))) at ∙ ap Some (number_same i d less at) ∙ sym (ap (option_map (numbered (tables_of (names_of there)))) at)

  fault_same : (i : ℕ) → i < n → fault_at rules.limits (read_trace parts rules) i ≡ fault_at rules.limits (read_trace others rules) i
  fault_same i less =
      ap₂ (λ before o. option_and_then (λ e. option_or (limit_fault rules.limits e) (shape_fault before e)) o)
      (take_same i (read_trace parts rules) (read_trace others rules) (λ k l. read_at_same k (omega (arith, l, less)))) (read_at_same i less)

  -- the name of a thread that opens a block among them
  name_same : (t b : ℕ) (name : List ℕ) → b < n → by_thread t is_begin (slice_get (checked_trace parts rules) b) ≡ true → HasName parts rules t name → HasName others rules t name
  name_same t b name less opens has = go (slice_get (checked_trace parts rules) b) refl
    where
      go : (o : Option Numbered) → slice_get (checked_trace parts rules) b ≡ o → HasName others rules t name
      go None none = absurd (let h = sym (ap (by_thread t is_begin) none) ∙ opens in cc)
      go (Some x) at =
          let thread_is : x.thread ≡ t = eqb-true x.thread t (and_parts (x.thread == t) (is_begin x.what) (sym (ap (by_thread t is_begin) at) ∙ opens)).0 in
          let mark = was (judged (take b (marked_in rules here))) (slice_get (marked_in rules here) b) x (sym (judged_at (marked_in rules here) b) ∙ at) in
          let d = was_at (marked rules.labels (tables_of (names_of here))) (names_of here) b mark.value mark.here in
          let number : number_of (tables_of (names_of here)).threads d.value.thread ≡ t =
          ap (λ (m : Marked). m.event.thread) d.gives ∙ ap (λ (y : Numbered). y.thread) mark.gives ∙ thread_is in
          let front : slice_get (tables_of (take n (names_of here))).threads t ≡ Some d.value.thread =
          ap (slice_get (tables_of (take n (names_of here))).threads) (sym number) ∙ in_first (names_of here) b d.value d.here n less in
          let same_name : d.value.thread ≡ name = same_Some d.value.thread name (sym (named_still (names_of here) n t d.value.thread front) ∙ has) in
          named_still (names_of there) n t name (ap (λ es. slice_get (tables_of es).threads t) (sym names_front) ∙ front ∙ ap Some same_name)

-- so what explains it of one explains it of the other
module _ (parts others : List Reading) (rules : Rules) (line : ℕ) (thread : List ℕ) (begun : ℕ) (cycle : Cycle) (e : IsExplained parts rules line thread begun cycle) (same : BeginSame parts others rules (suc e.violation.place)) where
  abbrev v : IsViolation parts rules line thread begun
  v = e.violation

  abbrev m : ℕ
  m = suc v.place

  abbrev a : List Numbered
  a = checked_trace parts rules

  abbrev b : List Numbered
  b = checked_trace others rules

  agrees : Agree m a b
  agrees = agree parts others rules m same

  abbrev q : ℕ
  q = v.begins.place

  q_within : q < m
  q_within =
      let c = v.opener.begins in
      let first = opening_first a v.t q (opening_at a v.t q v.begins.outermost) in
      let one : Block v.t (blocks a v.t (suc q)) ≡ Block v.t v.number = sym first.at ∙ v.begins.block in
      let less = c.2.visit.enters in
      elim (cases_lt (c.0).enters q) [
        | inl before ↦ absurd (first.none (c.0).enters before (c.3 ∙ sym one))
        | inr from ↦ omega (arith, less, from)
      ]

  violation : IsViolation others rules line thread begun
  violation = record {
    place = v.place;
    lawful = λ i less. sym (fault_same parts others rules m same i less) ∙ v.lawful i less;
    closing = closing_same v.place a b agrees v.closing;
    line_of = ap (option_map (λ (x : ℕ × Named). x.0)) (sym (same.at_same v.place (omega arith))) ∙ v.line_of;
    t = v.t;
    number = v.number;
    opener = opener_same m a b agrees v.t v.number v.opener;
    name = name_same parts others rules m same v.t q thread q_within (and_parts (by_thread v.t is_begin (slice_get a q)) (depth a v.t q == 0) v.begins.outermost).0 v.name;
    begins = record {
      place = q;
      outermost = sym (opens_same m a b agrees v.t q q_within) ∙ v.begins.outermost;
      block = sym (transaction_same m a b agrees q q_within) ∙ v.begins.block;
      line_of = ap (option_map (λ (x : ℕ × Named). x.0)) (sym (same.at_same q q_within)) ∙ v.begins.line_of;
    };
  }

  one_same : (place : ℕ) → place < m → transaction a place ≡ transaction b place
  one_same place less = transaction_same m a b agrees place less

  on_same : (place l : ℕ) → place < m → IsOnLine parts rules place l → IsOnLine others rules place l
  on_same place l less on = ap (option_map (λ (x : ℕ × Named). x.0)) (sym (same.at_same place less)) ∙ on

  -- the first event of a transaction is no later than its others
  first_within : (place first : ℕ) → place < m → IsFirstOf a place first → first < m
  first_within place first less is = elim (cases_lt place first) [ inl later ↦ absurd (is.none place later refl) | inr le ↦ omega (arith, le, less) ]

  first_same : (place first : ℕ) → place < m → IsFirstOf a place first → IsFirstOf b place first
  first_same place first less is =
      let first_less = first_within place first less is in
      record {
        one = sym (one_same first first_less) ∙ is.one ∙ one_same place less;
        none = λ k l eq. is.none k l (one_same k (omega (arith, l, first_less)) ∙ eq ∙ sym (one_same place less));
      }

  step_same : (place : ℕ) (step : CycleStep) → place < m → IsCycleStep parts rules place step → IsCycleStep others rules place step
  step_same place step less is = record {
    line = on_same place step.line less is.line;
    event = ap (option_map (λ (x : ℕ × Named). x.1)) (sym (same.at_same place less)) ∙ is.event;
    first = is.first;
    is_first = first_same place is.first less is.is_first;
    first_line = on_same is.first step.first (first_within place is.first less is.is_first) is.first_line;
  }

  end_same : (first : ℕ) (end : Option ℕ) → first < m → IsEnd parts rules m first end → IsEnd others rules m first end
  end_same first None less going =
      λ ended. going (subst (HasEnded a m) (sym (one_same first less)) (ended_same m b a (agree_back m a b agrees) m (transaction b first) (omega arith) ended))
  end_same first (Some l) less (ended, (last, is, on)) = (
    subst (HasEnded b m) (one_same first less) (ended_same m a b agrees m (transaction a first) (omega arith) ended),
    (
      last,
      record {
        within = is.within;
        one = sym (one_same last is.within) ∙ is.one ∙ one_same first less;
        none = λ k later below eq. is.none k later below (one_same k below ∙ eq ∙ sym (one_same first less));
      },
      on_same last l is.within on,
    ),
  )

  extent_same : (first : ℕ) (extent : Extent) → first < m → IsExtent parts rules m first extent → IsExtent others rules m first extent
  extent_same first extents.Alone less is = sym (one_same first less) ∙ is
  extent_same first (extents.Block label end) less (block, labelled, ends) = (
    λ single. block (one_same first less ∙ single),
    ap (option_map (λ (x : ℕ × Named). x.1.target)) (sym (same.at_same first less)) ∙ labelled,
    end_same first end less ends,
  )

  transaction_kept : (w : Visit) (t : CycleTransaction) → w.enters < m → IsCycleTransaction parts rules m w t → IsCycleTransaction others rules m w t
  transaction_kept w t less is =
      let first_less = first_within w.enters is.first less is.is_first in
      record {
        first = is.first;
        is_first = first_same w.enters is.first less is.is_first;
        first_line = on_same is.first t.first first_less is.first_line;
        thread = ap (option_map (λ (x : ℕ × Named). x.1.thread)) (sym (same.at_same is.first first_less)) ∙ is.thread;
        extent = extent_same is.first t.extent first_less is.extent;
      }

  pub explained_same : IsExplained others rules line thread begun cycle
  unfolding violation
  explained_same = record {
    violation = violation;
    label = ap (option_map (λ (x : ℕ × Named). x.1.target)) (sym (same.at_same q q_within)) ∙ e.label;
    first = e.first;
    rest = e.rest;
    telling = telling_same m a b agrees m (omega arith) e.first e.rest e.telling;
    begins = sym (transaction_same m a b agrees e.first.enters e.telling.visit.enters) ∙ e.begins;
    fewest = λ other more tells from. e.fewest other more (telling_same m b a (agree_back m a b agrees) m (omega arith) other more tells) (transaction_same m a b agrees other.enters tells.visit.enters ∙ from);
    steps_are = zip_where (λ p. p < m) (IsCycleStep parts rules) (IsCycleStep others rules) (λ p s less is. step_same p s less is) (round_places e.first e.rest) cycle.steps.items (round_within a m e.first e.rest e.telling) e.steps_are;
    transactions_are = zip_where (λ (w : Visit). w.enters < m) (IsCycleTransaction parts rules m) (IsCycleTransaction others rules m) (λ w t less is. transaction_kept w t less is) (e.first ∷ e.rest) cycle.transactions.items (enters_within a m e.first e.rest e.telling) e.transactions_are;
    closing_is = ap (option_map (λ (x : ℕ × Named). x.1)) (sym (same.at_same v.place (omega arith))) ∙ e.closing_is;
  }

-- the closing event is one
one_closing : (trace : List Numbered) (a b : ℕ) → IsClosing trace a → IsClosing trace b → a ≡ b
one_closing trace a b first second = elim (cases_lt a b) [
  | inl less ↦ absurd (second.before (suc a) (omega (arith, less)) first.closed)
  | inr le ↦ elim (cases_lt b a) [
    | inl more ↦ absurd (first.before (suc b) (omega (arith, more)) second.closed)
    | inr ge ↦ omega (arith, le, ge)
  ]
]

-- the events that count of parts, up to the ends at the end, come first where more parts follow
counted_more : (parts rest : List Reading) (rules : Rules) → (more : List (ℕ × Named)) × (counted_events (parts ++ rest) rules ≡ so_far parts rules ++ more)
counted_more parts rest rules =
    let most = rules.limits.lines in
    let b = begins_with (whole_reading parts) (whole_reading rest) in
    let later = filter (λ e. nat_le e.0 most) b.0 in
    let own : own_events (parts ++ rest) rules ≡ own_events parts rules ++ later =
    ap (λ r. filter (λ e. nat_le e.0 most) r.events) (whole_reading-append parts rest) ∙ ap (filter (λ e. nat_le e.0 most)) b.1 ∙ filter-append (λ e. nat_le e.0 most) (whole_reading parts).events b.0 in
    let tail = with_ends rules (names_of (so_far parts rules)) later in (
      tail ++ last_ends (parts ++ rest) rules,
      counted_is (parts ++ rest) rules
          ∙ ap (λ es. es ++ last_ends (parts ++ rest) rules) (ap (with_ends rules []) own ∙ with_append rules [] (own_events parts rules) later)
          ∙ append_assoc (so_far parts rules) tail (last_ends (parts ++ rest) rules),
    )

pub given_named : (rules : Rules) (events : List (ℕ × Named)) (n : ℕ) (gs : List Given) → AreGiven rules events n gs → (i : ℕ) (e : ℕ × Named) → i < n → slice_get events i ≡ Some e → IsEvent e.1
given_named rules events n gs are i e less at = go (slice_get gs i) refl
  where
    go : (o : Option Given) → slice_get gs i ≡ o → IsEvent e.1
    go None none = absurd (let past = none_past gs i none in let count = are.count in omega (arith, less, past, count))
    go (Some g) some = (are.each i g some).named e at

module _ {E : Type 0} (keeps : E → List Given → Type 0) (rules : Rules) (fed : List Reading) (checker : Checker E) where
  -- at a violation they begin alike
  begin_same : (rest : List Reading) (line : ℕ) (thread : List ℕ) (begun : ℕ) → (k : KeepsAt keeps rules fed checker (Violation line thread begun)) → k.0 < length (so_far fed rules) → BeginSame fed (fed ++ rest) rules (suc k.0)
  begin_same rest line thread begun (place, closing, on_line, kept, names) early =
      let more = counted_more fed rest rules in
      record {
        at_same = λ i l.
            ap (λ es. slice_get es i) (counted_is fed rules) ∙ slice_get_front (so_far fed rules) (last_ends fed rules) i (omega (arith, l, early))
            ∙ sym (ap (λ es. slice_get es i) more.1 ∙ slice_get_front (so_far fed rules) more.0 i (omega (arith, l, early)));
        named = given_named rules (counted_events fed rules) (suc place) kept.given kept.are_given;
      }

  -- a cycle stays whatever comes, and is there before it comes
  pub cycle_stays : (verdict : Verdict) → KeepsAt keeps rules fed checker verdict → ClosesEarly fed rules verdict → (rest : List Reading) (cycle : Cycle) → IsCycleOf (fed ++ rest) rules verdict cycle ↔ IsCycleOf fed rules verdict cycle
  cycle_stays (Violation line thread begun) k early rest cycle =
      let before : k.0 < length (so_far fed rules) = let same = one_closing (checked_trace fed rules) k.0 early.0 k.1 early.1 in omega (arith, same, early.2) in
      let same = begin_same rest line thread begun k before in
      let there : IsClosing (checked_trace (fed ++ rest) rules) k.0 =
      closing_same k.0 (checked_trace fed rules) (checked_trace (fed ++ rest) rules) (agree fed (fed ++ rest) rules (suc k.0) same) k.1 in (
        λ e. explained_same (fed ++ rest) fed rules line thread begun cycle e
            (begin_back fed (fed ++ rest) rules (suc e.violation.place) (subst (λ p. BeginSame fed (fed ++ rest) rules (suc p)) (one_closing (checked_trace (fed ++ rest) rules) k.0 e.violation.place there e.violation.closing) same)),
        λ e. explained_same fed (fed ++ rest) rules line thread begun cycle e
            (subst (λ p. BeginSame fed (fed ++ rest) rules (suc p)) (one_closing (checked_trace fed rules) k.0 e.violation.place k.1 e.violation.closing) same),
      )
  cycle_stays (Serializable events blocks) k early rest cycle = (λ e. e, λ e. e)
  cycle_stays (Pending events blocks pending) k early rest cycle = (λ e. e, λ e. e)
  cycle_stays (Malformed line fault) k early rest cycle = (λ e. e, λ e. e)
  cycle_stays (IllFormed line fault) k early rest cycle = (λ e. e, λ e. e)

-- what is certain of parts is so with more
pub certain_more : (parts more : List Reading) (rules : Rules) (verdict : Verdict) → IsCertain parts rules verdict → IsCertain (parts ++ more) rules verdict
certain_more parts more rules verdict is = record {
  is_verdict = λ rest. subst (λ ps. IsVerdict ps rules verdict) (sym (append_assoc parts more rest)) (is.is_verdict (more ++ rest));
  own_fault = is.own_fault;
  wrong = is.wrong;
  explained = λ rest cycle.
      (let far = is.explained (more ++ rest) cycle in
      let near = is.explained more cycle in
      let same = append_assoc parts more rest in (
        λ e. near.1 (far.0 (subst (λ ps. IsCycleOf ps rules verdict cycle) same e)),
        λ e. subst (λ ps. IsCycleOf ps rules verdict cycle) (sym same) (far.1 (near.0 e)),
      ));
}
