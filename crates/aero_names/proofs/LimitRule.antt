-- A number from the limit on is that of a new name, and as many are numbered before it as the limit allows.
use Rattle.std.proofs.Common.{◌≡◌, ◌⊎◌, ℕ, zero, suc, ◌<◌, ◌≤◌, ◌==◌, nat_le, Bool, true, false, if◌then◌else◌, List, [], ◌∷◌, ◌++◌, length, take, drop, Option, Some, None, inl, inr, refl, sym, ◌∙◌, ap, subst, arith, length-append}
use Rattle.std.specs.Prelude.{◌↔◌, slice_get, bytes_eq, option_map, option_and_then}
use Rattle.std.specs.List.{list_any}
use Rattle.std.specs.Option.{option_or}
use Rattle.std.proofs.lemmas.Bool.{cases_Bool, leb-true, leb-false, le-leb, cond-true, cond-false, both_ways}
use Rattle.std.proofs.lemmas.List.{take-append-drop}
use Rattle.std.proofs.lemmas.Option.{same_Some, slice_get_within, slice_get-map}
use Rattle.aero_model.specs.declared.numbered.Numbered.{Numbered}
use Rattle.aero_model.specs.declared.numbered.What.{What}
use Rattle.aero_model.specs.declared.numbered.What.TheVariants.{Read, Write, Acquire, Release, Fork, Join, Begin, End, Exempt}
use Rattle.aero_model.specs.declared.limits.Limits.{Limits}
use Rattle.aero_model.specs.declared.event.Op.{Op}
use Rattle.aero_model.specs.declared.event.Op.TheVariants as op
use Rattle.aero_model.specs.declared.verdict.ShapeFault.{ShapeFault}
use Rattle.aero_model.specs.declared.verdict.ShapeFault.TheVariants.{TooManyThreads, TooManyNames, ThreadJoined, LockHeldByOther, LockNotHeld, ForkSelf, ForkStarted, JoinSelf, EndWithoutBegin}
use Rattle.aero_model.specs.Blocks.{depth}
use Rattle.aero_model.specs.Named.{Named, HasItsTarget}
use Rattle.aero_model.specs.Numbering.{with_name, number_of, thread_target, variable_target, lock_target, Tables, tables_of, numbered, trace_of}
use Rattle.aero_model.specs.Shape.{held, is_held_by_other, was_joined, has_started, deed_fault, shape_fault, target_limit_fault, limit_fault, fault_at, IsLawful}
use Rattle.aero_names.specs.Additions.{number_after, with_actor, with_target, with_event, what_after, numbered_after}
use Rattle.aero_names.specs.Laws.{TooManyThreadsMeans, TooManyNamesMeans, IsOneTooMany, HasOneTooMany, NamesThreadTooMany, NamesTargetTooMany}
use Rattle.aero_names.proofs.Fronts.{Extends, tables_pushed, tables_extended, numbered_kept}
use Rattle.aero_names.proofs.Listings.{number_of-place}
use Rattle.aero_names.proofs.NewNames.{has_name, number_of_new, number_stays}

-- the test says whether it holds
abbrev Says : Bool → Type 0 → Type 0
Says b P = (b ≡ true → P) × (P → b ≡ true)

-- one name

module _ (limit : ℕ) (names : List (List ℕ)) (name : List ℕ) (within : length names ≤ limit) where
  abbrev is_over : Bool
  is_over = nat_le limit (number_after names name)

  stays_known : list_any (bytes_eq name) names ≡ true → with_name names name ≡ names
  stays_known known = cond-true (list_any (bytes_eq name) names) names (names ++ name ∷ []) known

  known_below : list_any (bytes_eq name) names ≡ true → number_after names name < length names
  known_below known = let same = ap (λ ns. number_of ns name) (stays_known known) in let below = slice_get_within names (number_of names name) name (number_of-place names name known) in omega arith

  over_is : Says is_over (IsOneTooMany limit names name)
  over_is = (λ over. from (cases_Bool (list_any (bytes_eq name) names)) over, λ many. to many)
    where
      from : (list_any (bytes_eq name) names ≡ true) ⊎ (list_any (bytes_eq name) names ≡ false) → is_over ≡ true → IsOneTooMany limit names name
      from (inl known) over = absurd (omega (arith, leb-true limit (number_after names name) over, known_below known, within))
      from (inr new) over = record { new = new; full = (let least = leb-true limit (number_after names name) over in let number = number_of_new names name new in omega arith) }

      to : IsOneTooMany limit names name → is_over ≡ true
      to many = le-leb limit (number_after names name) (let number = number_of_new names name many.new in let full = many.full in omega arith)

  pub fits : is_over ≡ false → length (with_name names name) ≤ limit
  fits not_over = go (cases_Bool (list_any (bytes_eq name) names))
    where
      go : (list_any (bytes_eq name) names ≡ true) ⊎ (list_any (bytes_eq name) names ≡ false) → length (with_name names name) ≤ limit
      go (inl known) = let same = ap (λ ns. length ns) (stays_known known) in omega arith
      go (inr new) =
          let grown = ap (λ ns. length ns) (cond-false (list_any (bytes_eq name) names) names (names ++ name ∷ []) new) in
          let one = length-append names (name ∷ []) in
          omega (arith, grown, one, number_of_new names name new, leb-false limit (number_after names name) not_over)

-- the fault of an event, where a name is one too many

record Rule (fault : Option ShapeFault) (Threads Names : Type 0) : Type 0 where
  threads_told : fault ≡ Some TooManyThreads → Threads
  threads_tell : Threads → fault ≡ Some TooManyThreads
  names_told : fault ≡ Some TooManyNames → (Threads → ⊥) × Names
  names_tell : (Threads → ⊥) → Names → fault ≡ Some TooManyNames

says_left : {P : Type 0} (b : Bool) → Says b P → Says b (P ⊎ ⊥)
says_left b says = (λ yes. inl (says.0 yes), λ p. elim p [ inl p ↦ says.1 p | inr none ↦ absurd none ])

says_right : {P : Type 0} (b : Bool) → Says b P → Says b (⊥ ⊎ P)
says_right b says = (λ yes. inr (says.0 yes), λ p. elim p [ inl none ↦ absurd none | inr p ↦ says.1 p ])

-- a thread and then another name, a thread and then a thread, and a thread alone
rule_name : {A B : Type 0} (a b : Bool) → Says a A → Says b B → Rule (if a then Some TooManyThreads else if b then Some TooManyNames else None) A B
rule_name true b pa pb = record { threads_told = λ e. pa.0 refl; threads_tell = λ p. refl; names_told = λ e. absurd (cc); names_tell = λ none p. absurd (none (pa.0 refl)) }
rule_name false true pa pb = record { threads_told = λ e. absurd (cc); threads_tell = λ p. absurd (let no = pa.1 p in cc); names_told = λ e. (λ p. (let no = pa.1 p in cc), pb.0 refl); names_tell = λ none p. refl }
rule_name false false pa pb = record { threads_told = λ e. absurd (cc); threads_tell = λ p. absurd (let no = pa.1 p in cc); names_told = λ e. absurd (cc); names_tell = λ none p. absurd (let no = pb.1 p in cc) }

rule_thread : {A B : Type 0} (a b : Bool) → Says a A → (a ≡ false → Says b B) → Rule (if a then Some TooManyThreads else if b then Some TooManyThreads else None) (A ⊎ B) (⊥ ⊎ ⊥)
rule_thread true b pa pb = record { threads_told = λ e. inl (pa.0 refl); threads_tell = λ p. refl; names_told = λ e. absurd (cc); names_tell = λ none p. absurd (none (inl (pa.0 refl))) }
rule_thread false true pa pb = record { threads_told = λ e. inr ((pb refl).0 refl); threads_tell = λ p. refl; names_told = λ e. absurd (cc); names_tell = λ none p. absurd (none (inr ((pb refl).0 refl))) }
rule_thread false false pa pb = record { threads_told = λ e. absurd (cc); threads_tell = λ p. elim p [ inl p ↦ absurd (let no = pa.1 p in cc) | inr p ↦ absurd (let no = (pb refl).1 p in cc) ]; names_told = λ e. absurd (cc); names_tell = λ other p. elim p [ inl none ↦ absurd none | inr none ↦ absurd none ] }

rule_alone : {A : Type 0} (a : Bool) → Says a A → Rule (if a then Some TooManyThreads else None) A (⊥ ⊎ ⊥)
rule_alone true pa = record { threads_told = λ e. pa.0 refl; threads_tell = λ p. refl; names_told = λ e. absurd (cc); names_tell = λ none p. absurd (none (pa.0 refl)) }
rule_alone false pa = record { threads_told = λ e. absurd (cc); threads_tell = λ p. absurd (let no = pa.1 p in cc); names_told = λ e. absurd (cc); names_tell = λ other p. elim p [ inl none ↦ absurd none | inr none ↦ absurd none ] }

-- no name in the tables is one too many
record IsWithin (limits : Limits) (tables : Tables) : Type 0 where
  threads : length tables.threads ≤ limits.threads
  variables : length tables.variables ≤ limits.names
  locks : length tables.locks ≤ limits.names

fault_free : (b : Bool) (f : ShapeFault) (o : Option ShapeFault) → (if b then Some f else o) ≡ None → (b ≡ false) × (o ≡ None)
fault_free true f o e = absurd (cc)
fault_free false f o e = (refl, e)

module _ (limits : Limits) (tables : Tables) (within : IsWithin limits tables) (e : Named) where
  abbrev many_actors : Bool
  many_actors = nat_le limits.threads (number_after tables.threads e.thread)

  abbrev fault_with : What → Option ShapeFault
  fault_with what = if many_actors then Some TooManyThreads else target_limit_fault limits what

  abbrev actor : Says many_actors (IsOneTooMany limits.threads tables.threads e.thread)
  actor = over_is limits.threads tables.threads e.thread within.threads

  abbrev TargetRule : Op → Option (List ℕ) → Type 0
  TargetRule o target =
      Rule (fault_with (what_after (with_actor tables e) o target)) (HasOneTooMany limits.threads tables.threads (e.thread ∷ thread_target o target))
      (HasOneTooMany limits.names tables.variables (variable_target o target) ⊎ HasOneTooMany limits.names tables.locks (lock_target o target))

  variable_says : (x : List ℕ) → Says (nat_le limits.names (number_after tables.variables x)) ((IsOneTooMany limits.names tables.variables x ⊎ ⊥) ⊎ ⊥)
  variable_says x = says_left _ (says_left _ (over_is limits.names tables.variables x within.variables))

  lock_says : (l : List ℕ) → Says (nat_le limits.names (number_after tables.locks l)) (⊥ ⊎ (IsOneTooMany limits.names tables.locks l ⊎ ⊥))
  lock_says l = says_right _ (says_left _ (over_is limits.names tables.locks l within.locks))

  thread_says : (u : List ℕ) → many_actors ≡ false → Says (nat_le limits.threads (number_after (with_name tables.threads e.thread) u)) (IsOneTooMany limits.threads (with_name tables.threads e.thread) u ⊎ ⊥)
  thread_says u few = says_left _ (over_is limits.threads (with_name tables.threads e.thread) u (fits limits.threads tables.threads e.thread within.threads few))

  target_rule : (o : Op) (target : Option (List ℕ)) → HasItsTarget o target → TargetRule o target
  target_rule op.Read (Some x) has = rule_name _ _ (says_left _ actor) (variable_says x)
  target_rule op.Write (Some x) has = rule_name _ _ (says_left _ actor) (variable_says x)
  target_rule op.Acquire (Some l) has = rule_name _ _ (says_left _ actor) (lock_says l)
  target_rule op.Release (Some l) has = rule_name _ _ (says_left _ actor) (lock_says l)
  target_rule op.Fork (Some u) has = rule_thread _ _ actor (thread_says u)
  target_rule op.Join (Some u) has = rule_thread _ _ actor (thread_says u)
  target_rule op.Read None has = absurd (cc)
  target_rule op.Write None has = absurd (cc)
  target_rule op.Acquire None has = absurd (cc)
  target_rule op.Release None has = absurd (cc)
  target_rule op.Fork None has = absurd (cc)
  target_rule op.Join None has = absurd (cc)
  target_rule op.Begin target has = rule_alone _ (says_left _ actor)
  target_rule op.End target has = rule_alone _ (says_left _ actor)

  actor_number : (numbered_after tables e).thread ≡ number_after tables.threads e.thread
  actor_number = number_stays (with_name tables.threads e.thread) (thread_target e.op e.target) e.thread (has_name tables.threads e.thread)

  fault_is : limit_fault limits (numbered_after tables e) ≡ fault_with (numbered_after tables e).what
  fault_is = ap (λ k. if nat_le limits.threads k then Some TooManyThreads else target_limit_fault limits (numbered_after tables e).what) actor_number

  limit_rule : HasItsTarget e.op e.target → Rule (limit_fault limits (numbered_after tables e)) (NamesThreadTooMany limits tables e) (NamesTargetTooMany limits tables e)
  limit_rule has = subst (λ f. Rule f (NamesThreadTooMany limits tables e) (NamesTargetTooMany limits tables e)) (sym fault_is) (target_rule e.op e.target has)

  few : (names : List (List ℕ)) (name : List ℕ) (limit : ℕ) (f : ShapeFault) → length names ≤ limit → (if nat_le limit (number_after names name) then Some f else None) ≡ None → length (with_name names name) ≤ limit
  few names name limit f le none = fits limit names name le (fault_free (nat_le limit (number_after names name)) f None none).0

  target_fits : length (with_name tables.threads e.thread) ≤ limits.threads → (o : Op) (target : Option (List ℕ)) → HasItsTarget o target → target_limit_fault limits (what_after (with_actor tables e) o target) ≡ None →
      IsWithin limits (with_target (with_actor tables e) o target)
  target_fits le op.Read (Some x) has none = record { threads = le; variables = few tables.variables x limits.names TooManyNames within.variables none; locks = within.locks }
  target_fits le op.Write (Some x) has none = record { threads = le; variables = few tables.variables x limits.names TooManyNames within.variables none; locks = within.locks }
  target_fits le op.Acquire (Some l) has none = record { threads = le; variables = within.variables; locks = few tables.locks l limits.names TooManyNames within.locks none }
  target_fits le op.Release (Some l) has none = record { threads = le; variables = within.variables; locks = few tables.locks l limits.names TooManyNames within.locks none }
  target_fits le op.Fork (Some u) has none = record { threads = few (with_name tables.threads e.thread) u limits.threads TooManyThreads le none; variables = within.variables; locks = within.locks }
  target_fits le op.Join (Some u) has none = record { threads = few (with_name tables.threads e.thread) u limits.threads TooManyThreads le none; variables = within.variables; locks = within.locks }
  target_fits le op.Read None has none = absurd (cc)
  target_fits le op.Write None has none = absurd (cc)
  target_fits le op.Acquire None has none = absurd (cc)
  target_fits le op.Release None has none = absurd (cc)
  target_fits le op.Fork None has none = absurd (cc)
  target_fits le op.Join None has none = absurd (cc)
  target_fits le op.Begin target has none = record { threads = le; variables = within.variables; locks = within.locks }
  target_fits le op.End target has none = record { threads = le; variables = within.variables; locks = within.locks }

  event_fits : HasItsTarget e.op e.target → limit_fault limits (numbered_after tables e) ≡ None → IsWithin limits (with_event tables e)
  event_fits has none =
      let parts = fault_free many_actors TooManyThreads (target_limit_fault limits (numbered_after tables e).what) (sym fault_is ∙ none) in
      target_fits (fits limits.threads tables.threads e.thread within.threads parts.0) e.op e.target has parts.1

-- no rule on well-formed events has one of these faults
is_rule : Option ShapeFault → Bool
is_rule (Some TooManyThreads) = false
is_rule (Some TooManyNames) = false
is_rule _ = true

either : (b : Bool) (x y : Option ShapeFault) → is_rule x ≡ true → is_rule y ≡ true → is_rule (if b then x else y) ≡ true
either true x y p q = p
either false x y p q = q

deed_is_rule : (before : List Numbered) (t : ℕ) (w : What) → is_rule (deed_fault before t w) ≡ true
unfolding is_rule
deed_is_rule before t (Acquire l) = either (is_held_by_other before t l) (Some LockHeldByOther) None refl refl
deed_is_rule before t (Release l) = either (held before t l == 0) (Some LockNotHeld) None refl refl
deed_is_rule before t (Fork u) = either (u == t) (Some ForkSelf) _ refl (either (has_started before u) (Some ForkStarted) None refl refl)
deed_is_rule before t (Join u) = either (u == t) (Some JoinSelf) None refl refl
deed_is_rule before t End = either (depth before t (length before) == 0) (Some EndWithoutBegin) None refl refl
deed_is_rule before t (Begin label) = refl
deed_is_rule before t Exempt = refl
deed_is_rule before t (Read x) = refl
deed_is_rule before t (Write x) = refl

shape_is_rule : (before : List Numbered) (e : Numbered) → is_rule (shape_fault before e) ≡ true
unfolding is_rule
shape_is_rule before e = either (was_joined before e.thread) (Some ThreadJoined) (deed_fault before e.thread e.what) refl (deed_is_rule before e.thread e.what)

by_limit : (fault : ShapeFault) → is_rule (Some fault) ≡ false → (l r : Option ShapeFault) → is_rule r ≡ true → option_or l r ≡ Some fault → l ≡ Some fault
by_limit fault limit (Some f) r rule is = is
by_limit fault limit None r rule is = absurd (both_ways (is_rule r) (ap is_rule is ∙ limit) rule)

first_none : (l r : Option ShapeFault) → option_or l r ≡ None → l ≡ None
first_none None r is = refl
first_none (Some f) r is = absurd (cc)

-- a list of events

take_pushed : {A : Type 0} (xs : List A) (n : ℕ) (x : A) → slice_get xs n ≡ Some x → take (suc n) xs ≡ take n xs ++ x ∷ []
take_pushed [] n x at = absurd (cc)
take_pushed (y ∷ ys) zero x at = ap (λ z. z ∷ []) (same_Some y x at)
take_pushed (y ∷ ys) (suc n) x at = ap (λ zs. y ∷ zs) (take_pushed ys n x at)

event_in : {A : Type 0} (xs : List A) (n : ℕ) → n < length xs → (x : A) × (slice_get xs n ≡ Some x)
event_in [] n less = absurd (omega arith)
event_in (x ∷ xs) zero less = (x, refl)
event_in (x ∷ xs) (suc n) less = event_in xs n (omega arith)

module _ (limits : Limits) (events : List Named) (targets : (i : ℕ) (x : Named) → slice_get events i ≡ Some x → HasItsTarget x.op x.target) where
  abbrev before : ℕ → Tables
  before n = tables_of (take n events)

  module _ (n : ℕ) (e : Named) (at : slice_get events n ≡ Some e) where
    has : HasItsTarget e.op e.target
    has = targets n e at

    abbrev here : Numbered
    here = numbered_after (before n) e

    tables_next : before (suc n) ≡ with_event (before n) e
    tables_next = ap tables_of (take_pushed events n e at) ∙ tables_pushed (take n events) e

    extends : Extends (with_event (before n) e) (tables_of events)
    extends =
        subst (λ t. Extends t (tables_of events)) tables_next
        (subst (λ es. Extends (before (suc n)) (tables_of es)) (take-append-drop (suc n) events) (tables_extended (take (suc n) events) (drop (suc n) events)))

    here_at : slice_get (trace_of events) n ≡ Some here
    here_at =
        slice_get-map (numbered (tables_of events)) events n
        ∙ ap (option_map (numbered (tables_of events))) at
        ∙ ap Some (numbered_kept (before n) (tables_of events) e has extends)

    abbrev by_shape : Option ShapeFault
    by_shape = shape_fault (take n (trace_of events)) here

    fault_here : fault_at limits (trace_of events) n ≡ option_or (limit_fault limits here) by_shape
    fault_here = ap (option_and_then (λ y. option_or (limit_fault limits y) (shape_fault (take n (trace_of events)) y))) here_at

    next_within : IsWithin limits (before n) → fault_at limits (trace_of events) n ≡ None → IsWithin limits (before (suc n))
    next_within within none =
        subst (IsWithin limits) (sym tables_next) (event_fits limits (before n) within e has (first_none (limit_fault limits here) by_shape (sym fault_here ∙ none)))

    limit_told : (fault : ShapeFault) → is_rule (Some fault) ≡ false → fault_at limits (trace_of events) n ≡ Some fault → limit_fault limits here ≡ Some fault
    limit_told fault limit is = by_limit fault limit (limit_fault limits here) by_shape (shape_is_rule (take n (trace_of events)) here) (sym fault_here ∙ is)

    limit_tells : (fault : ShapeFault) → limit_fault limits here ≡ Some fault → fault_at limits (trace_of events) n ≡ Some fault
    limit_tells fault is = fault_here ∙ ap (λ l. option_or l by_shape) is

  within_before : (n : ℕ) → n ≤ length events → IsLawful limits (trace_of events) n → IsWithin limits (before n)
  within_before zero le lawful = record { threads = omega arith; variables = omega arith; locks = omega arith }
  within_before (suc n) le lawful =
      let e = event_in events n (omega arith) in
      next_within n e.0 e.1 (within_before n (omega arith) (λ i less. lawful i (omega arith))) (lawful n (omega arith))

  module _ (n : ℕ) (e : Named) (lawful : IsLawful limits (trace_of events) n) (at : slice_get events n ≡ Some e) where
    rule : Rule (limit_fault limits (numbered_after (before n) e)) (NamesThreadTooMany limits (before n) e) (NamesTargetTooMany limits (before n) e)
    rule = limit_rule limits (before n) (within_before n (let less = slice_get_within events n e at in omega arith) lawful) e (has n e at)

    threads_mean : (fault_at limits (trace_of events) n ≡ Some TooManyThreads) ↔ NamesThreadTooMany limits (before n) e
    unfolding is_rule
    threads_mean = (λ is. rule.threads_told (limit_told n e at TooManyThreads refl is), λ many. limit_tells n e at TooManyThreads (rule.threads_tell many))

    names_mean : (fault_at limits (trace_of events) n ≡ Some TooManyNames) ↔ ((NamesThreadTooMany limits (before n) e → ⊥) × NamesTargetTooMany limits (before n) e)
    unfolding is_rule
    names_mean = (λ is. rule.names_told (limit_told n e at TooManyNames refl is), λ many. limit_tells n e at TooManyNames (rule.names_tell many.0 many.1))

pub too_many_threads : TooManyThreadsMeans
too_many_threads limits events n e targets lawful at = threads_mean limits events targets n e lawful at

pub too_many_names : TooManyNamesMeans
too_many_names limits events n e targets lawful at = names_mean limits events targets n e lawful at
