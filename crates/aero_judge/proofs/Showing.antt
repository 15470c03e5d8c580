-- An event that was given is shown from the record as it was read.
use Rattle.std.proofs.Common.{◌≡◌, ℕ, suc, ◌+◌, ◌<◌, ◌≤◌, true, false, List, [], ◌∷◌, length, take, drop, Option, Some, None, option_map, refl, sym, ◌∙◌, ap, subst, arith}
use Rattle.std.specs.Prelude.{slice_get, flat_map, bytes_eq, unwrap_or}
use Rattle.std.specs.List.{list_any}
use Rattle.std.proofs.lemmas.Bool.{or_left, or_right}
use Rattle.std.proofs.lemmas.Option.{slice_get-map, slice_get_within, same_Some}
use Rattle.std.proofs.lemmas.Slice.Eq.{bytes_eq-Decides}
use Rattle.aero_model.specs.declared.numbered.Numbered.{Numbered}
use Rattle.aero_model.specs.declared.numbered.What.{What}
use Rattle.aero_model.specs.declared.numbered.What.TheVariants.{Read, Write, Acquire, Release, Fork, Join, Begin, End, Exempt}
use Rattle.aero_model.specs.declared.event.Op.{Op}
use Rattle.aero_model.specs.declared.event.Op.TheVariants as op
use Rattle.aero_model.specs.Exempt.{label_of}
use Rattle.aero_model.specs.Named.{Named, HasItsTarget}
use Rattle.aero_model.specs.Numbering.{Tables, tables_of, different_names, number_of, numbered, what_of, threads_named, variables_named, locks_named}
use Rattle.aero_model.proofs.WellFormed.{slice_get-take}
use Rattle.aero_grammar.specs.Tabled.{name_at}
use Rattle.aero_grammar.specs.Words.{IsEvent}
use Rattle.aero_names.proofs.Fronts.{names_joined, number_kept}
use Rattle.aero_names.proofs.Listings.{number_of-place}
use Rattle.aero_witness.specs.Trail.{is_deed}
use Rattle.aero_engine.specs.Given.{Given}
use Rattle.aero_verdict.specs.Standing.{names_of, AreGiven}
use Rattle.aero_judge.specs.Recorded.{recorded, IsLabelSaid, IsSaid}
use Rattle.aero_judge.specs.Shown.{bound_shown, op_shown, label_shown, target_shown, shown, HasLabelShown, HasTargetShown, CanShow}
use Rattle.aero_model.specs.Terms.{Rules}
use Rattle.aero_verdict.proofs.BlockEvents.{among_names}
use Rattle.aero_judge.proofs.Recording as recording
use Rattle.aero_judge.proofs.Recording.{IsReadAs}
use Rattle.aero_verdict.proofs.Steps.{front_and_rest}

itself : (name : List ℕ) (more : List (List ℕ)) → list_any (bytes_eq name) (name ∷ more) ≡ true
itself name more = or_left (bytes_eq name name) (list_any (bytes_eq name) more) ((bytes_eq-Decides name name).1 refl)

second : (first name : List ℕ) → list_any (bytes_eq name) (first ∷ name ∷ []) ≡ true
second first name = or_right (bytes_eq name first) (list_any (bytes_eq name) (name ∷ [])) (itself name [])

-- a name that the event at place i has keeps its number among those of the first n events
module _ (names : Named → List (List ℕ)) (all : List Named) (n i : ℕ) (less : i < n) (d : Named) (at : slice_get all i ≡ Some d) (name : List ℕ) (has : list_any (bytes_eq name) (names d) ≡ true) where
  abbrev front : List (List ℕ)
  front = different_names (flat_map names (take n all))

  abbrev number : ℕ
  number = number_of (different_names (flat_map names all)) name

  listed : list_any (bytes_eq name) front ≡ true
  listed = among_names names d name has (take n all) i (slice_get-take all n i less ∙ at)

  same_number : number ≡ number_of front name
  same_number =
      number_kept front (different_names (flat_map names all)) name (flat_map names (drop n all), ap (λ es. different_names (flat_map names es)) (sym (front_and_rest all n)) ∙ names_joined names (take n all) (drop n all)) listed

  pub place : slice_get front number ≡ Some name
  place = ap (slice_get front) same_number ∙ number_of-place front name listed

  pub its_name : name_at front number ≡ name
  its_name = ap (λ o. unwrap_or o []) place

  pub its_place : number < length front
  its_place = slice_get_within front number name place

-- what a code says of a label
said_label : (labels : List (List ℕ)) (label : Option (List ℕ)) (code : ℕ) → IsLabelSaid labels label code → (label_shown labels code ≡ label) × HasLabelShown labels code
said_label labels None code said = subst (λ k. (label_shown labels k ≡ None) × HasLabelShown labels k) (sym said) (refl, tt)
said_label labels (Some label) code (n, is, at) =
    subst (λ k. (label_shown labels k ≡ Some label) × HasLabelShown labels k) (sym (is ∙ (let two : n + 2 ≡ suc (suc n) = omega arith in two)))
    (ap (λ o. Some (unwrap_or o [])) at, slice_get_within labels n label at)

-- what is shown of the operation is that of the event
record SameWhat (tables : Tables) (labels : List (List ℕ)) (r : What) (code : ℕ) (d : Named) : Type 0 where
  op_is : op_shown r code ≡ d.op
  target_is : target_shown tables labels r code ≡ d.target
  has : HasTargetShown tables labels r code

-- the event at place i, by the names of the first n
module _ (all : List Named) (n i : ℕ) (less : i < n) (d : Named) (at : slice_get all i ≡ Some d) (labels : List (List ℕ)) (code : ℕ) where
  abbrev tables : Tables
  tables = tables_of (take n all)

  abbrev whole : Tables
  whole = tables_of all

  -- a begin or an end, which is recorded as one or as exempt
  begun : (r : What) → is_deed r ≡ false → (label : Option (List ℕ)) → IsLabelSaid labels label code → d.op ≡ op.Begin → d.target ≡ label → SameWhat tables labels r code d
  begun r bare label said begins target = go r bare
    where
      is_begin : (label : Option (List ℕ)) → IsLabelSaid labels label code → bound_shown code ≡ op.Begin
      is_begin None said = ap bound_shown said
      is_begin (Some l) (k, is, there) = ap bound_shown (is ∙ (let two : k + 2 ≡ suc (suc k) = omega arith in two))

      op_here : bound_shown code ≡ d.op
      op_here = is_begin label said ∙ sym begins

      target_here : label_shown labels code ≡ d.target
      target_here = (said_label labels label code said).0 ∙ sym target

      has_here : HasLabelShown labels code
      has_here = (said_label labels label code said).1

      go : (r : What) → is_deed r ≡ false → SameWhat tables labels r code d
      go (Begin l) bare = record { op_is = op_here; target_is = target_here; has = has_here }
      go End bare = record { op_is = op_here; target_is = target_here; has = has_here }
      go Exempt bare = record { op_is = op_here; target_is = target_here; has = has_here }
      go (Read x) bare = absurd (cc)
      go (Write x) bare = absurd (cc)
      go (Acquire x) bare = absurd (cc)
      go (Release x) bare = absurd (cc)
      go (Fork x) bare = absurd (cc)
      go (Join x) bare = absurd (cc)

  ended : (r : What) → is_deed r ≡ false → code ≡ 0 → d.op ≡ op.End → d.target ≡ None → SameWhat tables labels r code d
  ended r bare none ends target = go r bare
    where
      op_here : bound_shown code ≡ d.op
      op_here = ap bound_shown none ∙ sym ends

      target_here : label_shown labels code ≡ d.target
      target_here = ap (label_shown labels) none ∙ sym target

      has_here : HasLabelShown labels code
      has_here = subst (HasLabelShown labels) (sym none) tt

      go : (r : What) → is_deed r ≡ false → SameWhat tables labels r code d
      go (Begin l) bare = record { op_is = op_here; target_is = target_here; has = has_here }
      go End bare = record { op_is = op_here; target_is = target_here; has = has_here }
      go Exempt bare = record { op_is = op_here; target_is = target_here; has = has_here }
      go (Read x) bare = absurd (cc)
      go (Write x) bare = absurd (cc)
      go (Acquire x) bare = absurd (cc)
      go (Release x) bare = absurd (cc)
      go (Fork x) bare = absurd (cc)
      go (Join x) bare = absurd (cc)

  -- a deed is recorded as it was read
  as_read : (r w : What) → r ≡ w → SameWhat tables labels w code d → SameWhat tables labels r code d
  as_read r w is same = subst (λ v. SameWhat tables labels v code d) (sym is) same

  variable : (x : List ℕ) → list_any (bytes_eq x) (variables_named d) ≡ true → (name_at tables.variables (number_of whole.variables x) ≡ x) × (number_of whole.variables x < length tables.variables)
  variable x has = (its_name variables_named all n i less d at x has, its_place variables_named all n i less d at x has)

  lock : (l : List ℕ) → list_any (bytes_eq l) (locks_named d) ≡ true → (name_at tables.locks (number_of whole.locks l) ≡ l) × (number_of whole.locks l < length tables.locks)
  lock l has = (its_name locks_named all n i less d at l has, its_place locks_named all n i less d at l has)

  thread : (u : List ℕ) → list_any (bytes_eq u) (threads_named d) ≡ true → (name_at tables.threads (number_of whole.threads u) ≡ u) × (number_of whole.threads u < length tables.threads)
  thread u has = (its_name threads_named all n i less d at u has, its_place threads_named all n i less d at u has)

  by_op : (o : Op) (target : Option (List ℕ)) → d.op ≡ o → d.target ≡ target → HasItsTarget o target → (w r : What) → w ≡ what_of whole o (unwrap_or target []) → IsReadAs w r → IsSaid labels w (label_of o target) code → SameWhat tables labels r code d
  by_op op.Begin target begins target_is has w r is read said =
      let is_said = subst (λ v. IsSaid labels v target code) is said in
      begun r (read.none (ap is_deed is)) target is_said begins target_is
  by_op op.End None ends target_is has w r is read said =
      let is_said = subst (λ v. IsSaid labels v None code) is said in
      ended r (read.none (ap is_deed is)) is_said ends target_is
  by_op op.End (Some x) ends target_is has w r is read said = absurd (cc)
  by_op op.Read (Some x) reads target_is has w r is read said =
      let named = variable x (ap (λ (e : Named). list_any (bytes_eq x) (variables_named e)) (λ j. record { thread = d.thread; op = reads j; target = target_is j }) ∙ itself x []) in
      as_read r (Read (number_of whole.variables x)) (read.deed (ap is_deed is) ∙ is) (record { op_is = sym reads; target_is = ap Some named.0 ∙ sym target_is; has = named.1 })
  by_op op.Write (Some x) writes target_is has w r is read said =
      let named = variable x (ap (λ (e : Named). list_any (bytes_eq x) (variables_named e)) (λ j. record { thread = d.thread; op = writes j; target = target_is j }) ∙ itself x []) in
      as_read r (Write (number_of whole.variables x)) (read.deed (ap is_deed is) ∙ is) (record { op_is = sym writes; target_is = ap Some named.0 ∙ sym target_is; has = named.1 })
  by_op op.Acquire (Some l) acquires target_is has w r is read said =
      let named = lock l (ap (λ (e : Named). list_any (bytes_eq l) (locks_named e)) (λ j. record { thread = d.thread; op = acquires j; target = target_is j }) ∙ itself l []) in
      as_read r (Acquire (number_of whole.locks l)) (read.deed (ap is_deed is) ∙ is) (record { op_is = sym acquires; target_is = ap Some named.0 ∙ sym target_is; has = named.1 })
  by_op op.Release (Some l) releases target_is has w r is read said =
      let named = lock l (ap (λ (e : Named). list_any (bytes_eq l) (locks_named e)) (λ j. record { thread = d.thread; op = releases j; target = target_is j }) ∙ itself l []) in
      as_read r (Release (number_of whole.locks l)) (read.deed (ap is_deed is) ∙ is) (record { op_is = sym releases; target_is = ap Some named.0 ∙ sym target_is; has = named.1 })
  by_op op.Fork (Some u) forks target_is has w r is read said =
      let named = thread u (ap (λ (e : Named). list_any (bytes_eq u) (threads_named e)) (λ j. record { thread = d.thread; op = forks j; target = target_is j }) ∙ second d.thread u) in
      as_read r (Fork (number_of whole.threads u)) (read.deed (ap is_deed is) ∙ is) (record { op_is = sym forks; target_is = ap Some named.0 ∙ sym target_is; has = named.1 })
  by_op op.Join (Some u) joins target_is has w r is read said =
      let named = thread u (ap (λ (e : Named). list_any (bytes_eq u) (threads_named e)) (λ j. record { thread = d.thread; op = joins j; target = target_is j }) ∙ second d.thread u) in
      as_read r (Join (number_of whole.threads u)) (read.deed (ap is_deed is) ∙ is) (record { op_is = sym joins; target_is = ap Some named.0 ∙ sym target_is; has = named.1 })
  by_op op.Read None reads target_is has w r is read said = absurd (cc)
  by_op op.Write None reads target_is has w r is read said = absurd (cc)
  by_op op.Acquire None reads target_is has w r is read said = absurd (cc)
  by_op op.Release None reads target_is has w r is read said = absurd (cc)
  by_op op.Fork None reads target_is has w r is read said = absurd (cc)
  by_op op.Join None reads target_is has w r is read said = absurd (cc)

  pub shown_as : (r : Numbered) (w : What) → r.thread ≡ number_of whole.threads d.thread → w ≡ (numbered whole d).what → IsReadAs w r.what → IsSaid labels w (label_of d.op d.target) code → IsEvent d →
      (shown tables labels r code ≡ d) × CanShow tables labels r code
  shown_as r w thread_is what_is read said named =
      let actor = thread d.thread (itself d.thread _) in
      let what = by_op d.op d.target refl refl named.has_target w r.what what_is read said in
      let same : shown tables labels r code ≡ d = λ j. record { thread = (ap (name_at tables.threads) thread_is ∙ actor.0) j; op = what.op_is j; target = what.target_is j } in (
        same,
        record {
          thread = subst (λ k. k < length tables.threads) (sym thread_is) actor.1;
          target = what.has;
          named = subst IsEvent (sym same) named;
        },
      )

-- so each event that was given
module _ (rules : Rules) (events : List (ℕ × Named)) (n : ℕ) (within : n ≤ length events) (given : List Given) (are : AreGiven rules events n given) (labels : List (List ℕ)) where
  pub given_shown : (i : ℕ) (g : Given) (e : ℕ × Named) (code : ℕ) → i < n → slice_get given i ≡ Some g → slice_get events i ≡ Some e → IsSaid labels g.event.what g.label code →
      (shown (tables_of (take n (names_of events))) labels (recorded g) code ≡ e.1) × CanShow (tables_of (take n (names_of events))) labels (recorded g) code
  given_shown i g e code less at here said =
      let is = are.each i g at in
      let named_at : slice_get (names_of events) i ≡ Some e.1 = slice_get-map (λ (p : ℕ × Named). p.1) events i ∙ ap (option_map (λ (p : ℕ × Named). p.1)) here in
      let whole = tables_of (names_of events) in
      let same : numbered whole e.1 ≡ g.event =
      same_Some (numbered whole e.1) g.event (sym (ap (option_map (numbered whole)) named_at) ∙ sym (slice_get-map (numbered whole) (names_of events) i) ∙ is.event_is) in
      let label : label_of e.1.op e.1.target ≡ g.label =
      same_Some (label_of e.1.op e.1.target) g.label (sym (ap (option_map (λ (p : ℕ × Named). label_of p.1.op p.1.target)) here) ∙ is.label_is) in
      shown_as (names_of events) n i less e.1 named_at labels code (recorded g) g.event.what (ap (λ (x : Numbered). x.thread) (sym same)) (ap (λ (x : Numbered). x.what) (sym same))
      (recording.read_as rules events n within given are i g less at) (subst (λ l. IsSaid labels g.event.what l code) (sym label) said) (is.named e here)
