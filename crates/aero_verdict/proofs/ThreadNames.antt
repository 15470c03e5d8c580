-- The name of a thread that is told: a thread that begins a block is the actor of an event, whose name stands at its number.
use Rattle.std.proofs.Common.{◌≡◌, ℕ, zero, suc, ◌+◌, ◌<◌, ◌==◌, true, List, [], ◌∷◌, get_or, take, drop, map, Option, Some, None, refl, sym, ◌∙◌, ap, subst, arith}
use Rattle.std.specs.Prelude.{slice_get, option_map, All, bytes_eq}
use Rattle.std.specs.List.{list_any}
use Rattle.std.proofs.lemmas.Bool.{and_parts, eqb-true}
use Rattle.std.proofs.lemmas.Option.{slice_get-map, slice_get_within, slice_get-get_or, get_or_from_slice_get, unwrap_or-slice_get}
use Rattle.aero_model.specs.declared.numbered.Numbered.{Numbered}
use Rattle.aero_model.specs.Blocks.{is_begin, by_thread, blocks, depth}
use Rattle.aero_model.specs.Exempt.{Marked, judged, marked}
use Rattle.aero_model.specs.Named.{Named}
use Rattle.aero_model.specs.Numbering.{Tables, tables_of, number_of, thread_target}
use Rattle.aero_model.specs.Shape.{IsWellFormed}
use Rattle.aero_model.proofs.Exempt.{judged_at}
use Rattle.aero_grammar.specs.Tabled.{name_at, lines_in, IsTabled}
use Rattle.aero_grammar.specs.Words.{IsName}
use Rattle.aero_names.proofs.Fronts.{Extends, tables_pushed, tables_extended}
use Rattle.aero_names.proofs.Listings.{number_of-place}
use Rattle.aero_names.proofs.NewNames.{still_has_name, number_stays}
use Rattle.aero_engine.specs.Given.{Words}
use Rattle.aero_verdict.specs.declared.checker.Checker.{Checker}
use Rattle.aero_verdict.specs.declared.checker.Stop.{Stop}
use Rattle.aero_verdict.specs.declared.checker.Stop.TheVariants.{Refused, Closed}
use Rattle.aero_verdict.specs.Begun.{begin_line}
use Rattle.aero_verdict.specs.Standing.{names_of, marked_in, judged_in, LastBegins, HasNamedActor, CanBeTold, StopsIn}
use Rattle.aero_model.specs.Terms.{Rules}
use Rattle.aero_verdict.proofs.BlockEvents.{thread_within}
use Rattle.aero_verdict.proofs.Judged.{read_so_far, judged_well}
use Rattle.aero_verdict.proofs.Openers.{opener_number}
use Rattle.aero_verdict.proofs.Steps.{take_pushed, front_and_rest}
use Rattle.aero_verdict.proofs.Stops.{named_still}

-- what holds of each element holds of the one at a place
pub at_place : {X : Type 0} (P : X → Type 0) (xs : List X) (k : ℕ) (x : X) → All P xs → slice_get xs k ≡ Some x → P x
at_place P xs k x all at = subst P (get_or_from_slice_get xs k x x at) (all k x (slice_get_within xs k x at))

-- what a mapped option was
pub record Was {A B : Type 0} (f : A → B) (o : Option A) (y : B) : Type 0 where
  pub value : A
  pub here : o ≡ Some value
  pub gives : f value ≡ y

pub was : {A B : Type 0} (f : A → B) (o : Option A) (y : B) → option_map f o ≡ Some y → Was f o y
was f None y is = absurd (cc)
was f (Some x) y is = record { value = x; here = refl; gives = same_value (f x) y is }
  where
    same_value : {B : Type 0} (a b : B) → Some a ≡ Some b → a ≡ b
    same_value a b same = cc

pub was_at : {A B : Type 0} (f : A → B) (xs : List A) (k : ℕ) (y : B) → slice_get (map f xs) k ≡ Some y → Was f (slice_get xs k) y
was_at f xs k y at = was f (slice_get xs k) y (sym (slice_get-map f xs k) ∙ at)

pub take_again : {A : Type 0} (xs : List A) (m n : ℕ) → m < suc n → take m (take n xs) ≡ take m xs
take_again [] zero n less = refl
take_again [] (suc m) zero less = refl
take_again [] (suc m) (suc n) less = refl
take_again (x ∷ xs) zero n less = refl
take_again (x ∷ xs) (suc m) zero less = absurd (omega (arith, less))
take_again (x ∷ xs) (suc m) (suc n) less = ap (λ ys. x ∷ ys) (take_again xs m n (omega (arith, less)))

-- the name of the actor of the event at place q stands at its number among the names of the first n events, which have it
module _ (named : List Named) (q : ℕ) (e : Named) (at : slice_get named q ≡ Some e) where
  abbrev front : List Named
  front = take (suc q) named

  abbrev number : ℕ
  number = number_of (tables_of named).threads e.thread

  listed : list_any (bytes_eq e.thread) (tables_of front).threads ≡ true
  listed =
      ap (λ (t : Tables). list_any (bytes_eq e.thread) t.threads) (ap tables_of (take_pushed named q e at) ∙ tables_pushed (take q named) e)
      ∙ still_has_name (tables_of (take q named)).threads (thread_target e.op e.target) e.thread

  in_front : slice_get (tables_of front).threads number ≡ Some e.thread
  in_front =
      let more : Extends (tables_of front) (tables_of named) = subst (λ es. Extends (tables_of front) (tables_of es)) (front_and_rest named (suc q)) (tables_extended front (drop (suc q) named)) in
      ap (slice_get (tables_of front).threads) (ap (λ ns. number_of ns e.thread) more.threads.1 ∙ number_stays (tables_of front).threads more.threads.0 e.thread listed)
      ∙ number_of-place (tables_of front).threads e.thread listed

  pub in_all : slice_get (tables_of named).threads number ≡ Some e.thread
  in_all = named_still named (suc q) number e.thread in_front

  pub in_first : (n : ℕ) → q < n → slice_get (tables_of (take n named)).threads number ≡ Some e.thread
  in_first n less =
      named_still (take n named) (suc q) number e.thread
      (subst (λ es. slice_get (tables_of es).threads number ≡ Some e.thread) (sym (take_again named (suc q) n (omega (arith, less)))) in_front)

-- the actors of a block's events have names
pub actors_named : (tables : Tables) (labels : List (List ℕ)) (events : List (ℕ × Numbered)) → IsTabled tables labels events → All IsName tables.threads → All HasNamedActor (lines_in tables labels events)
actors_named tables labels events tabled names = λ k d within.
    let lines = lines_in tables labels events in
    let named = map (λ (e : ℕ × Named). e.1) lines in
    let e = (get_or lines k d).1 in
    let at : slice_get named k ≡ Some e = slice_get-map (λ (e : ℕ × Named). e.1) lines k ∙ ap (option_map (λ (e : ℕ × Named). e.1)) (slice_get-get_or lines k d within) in
    let number = number_of (tables_of named).threads e.thread in
    at_place IsName tables.threads number e.thread names (ap (λ (t : Tables). slice_get t.threads number) tabled.tables_are ∙ in_all named k e at)

-- the actor of a block's event stands at its number in the block's table
pub actor_listed : (tables : Tables) (labels : List (List ℕ)) (events : List (ℕ × Numbered)) → IsTabled tables labels events → (k : ℕ) (e : ℕ × Numbered) → slice_get events k ≡ Some e →
    slice_get tables.threads e.1.thread ≡ Some (name_at tables.threads e.1.thread)
actor_listed tables labels events tabled k e at =
    slice_get-get_or tables.threads e.1.thread [] (thread_within tables labels events tabled k e at) ∙ ap Some (sym (unwrap_or-slice_get tables.threads e.1.thread []))

-- who begins a block
record Begins (o : Option Numbered) (t : ℕ) : Type 0 where
  pub event : Numbered
  pub here : o ≡ Some event
  pub thread_is : event.thread ≡ t

begun_by : (o : Option Numbered) (t : ℕ) → by_thread t is_begin o ≡ true → Begins o t
begun_by None t is = absurd (cc)
begun_by (Some x) t is = record { event = x; here = refl; thread_is = eqb-true x.thread t (and_parts (x.thread == t) (is_begin x.what) is).0 }

module _ {E : Type 0} (words : Words E) (rules : Rules) (checker : Checker E) (events : List (ℕ × Named)) (actors : All HasNamedActor events) where
  abbrev all : List Marked
  all = marked_in rules events

  abbrev trace : List Numbered
  trace = judged_in rules events

  -- a thread that has begun a block has a name
  named_by : (n t line : ℕ) → LastBegins rules events n t line → (name : List ℕ) × (slice_get (tables_of (take n (names_of events))).threads t ≡ Some name) × IsName name
  named_by n t line last =
      let begins = begun_by (slice_get trace last.place) t (and_parts (by_thread t is_begin (slice_get trace last.place)) (depth trace t last.place == 0) last.outermost).0 in
      let mark = was (judged (take last.place all)) (slice_get all last.place) begins.event (sym (judged_at all last.place) ∙ begins.here) in
      let named = was_at (marked rules.labels (tables_of (names_of events))) (names_of events) last.place mark.value mark.here in
      let line_of = was_at (λ (e : ℕ × Named). e.1) events last.place named.value named.here in
      let number : number_of (tables_of (names_of events)).threads named.value.thread ≡ t =
      ap (λ (x : Marked). x.event.thread) named.gives ∙ ap (λ (x : Numbered). x.thread) mark.gives ∙ begins.thread_is in (
        named.value.thread,
        ap (slice_get (tables_of (take n (names_of events))).threads) (sym number) ∙ in_first (names_of events) last.place named.value named.here n last.before,
        subst (λ (e : Named). IsName e.thread) line_of.gives (at_place HasNamedActor events last.place line_of.value actors line_of.here),
      )

  pub can_be_told : (n before : ℕ) (more : List (ℕ × Named)) (line : ℕ) (stop : Stop) → StopsIn words rules checker events n before more line stop → CanBeTold checker stop
  can_be_told n before more line (Refused fault) stops = tt
  can_be_told n before more line (Closed t) stops =
      let p = n + stops.index in
      let count : checker.shape.admitted ≡ suc p = stops.stops.0 in
      let counts = stops.stops.1 in
      let told = stops.stops.2 in
      let well : IsWellFormed (take (suc p) trace) =
      subst (λ k. IsWellFormed (take k trace)) count
      (judged_well rules.labels (names_of events) checker.shape.admitted (subst IsWellFormed (read_so_far rules.labels (names_of events) checker.shape.admitted) counts.shape_stands.well_formed)) in
      let number = opener_number trace p t (blocks trace t p) well told.0 told.1 in
      let last : LastBegins rules events checker.shape.admitted t (begin_line checker.blocks t) = counts.lines_are t (subst (λ k. 0 < blocks trace t k) (sym count) number.0) in
      let named = named_by checker.shape.admitted t (begin_line checker.blocks t) last in
      (named.0, ap (λ (ts : Tables). slice_get ts.threads t) counts.names_are ∙ named.1, named.2)
