-- The tables of a list of events, with one event more.
use Rattle.std.proofs.Common.{◌≡◌, ℕ, ◌+◌, ◌≤◌, true, List, [], ◌∷◌, ◌++◌, map, Option, Some, None, option_map, refl, sym, ◌∙◌, ap, ap₂, subst, arith}
use Rattle.std.specs.Prelude.{⊤, All, IfSome, bytes_eq, unwrap_or, fold, flat_map, option_to_list}
use Rattle.std.specs.List.{list_any}
use Rattle.std.proofs.lemmas.Bool.{cond_both}
use Rattle.std.proofs.lemmas.List.{append_assoc, append-nil, map-append}
use Rattle.std.proofs.lemmas.List.Elements.{All-nil, All-push}
use Rattle.aero_model.specs.declared.numbered.Numbered.{Numbered}
use Rattle.aero_model.specs.declared.numbered.What.{What}
use Rattle.aero_model.specs.declared.numbered.What.TheVariants.{Read, Write, Acquire, Release, Fork, Join, Begin, End, Exempt}
use Rattle.aero_model.specs.declared.event.Op.{Op}
use Rattle.aero_model.specs.declared.event.Op.TheVariants as op
use Rattle.aero_model.specs.Exempt.{label_of}
use Rattle.aero_model.specs.Named.{Named, HasItsTarget}
use Rattle.aero_model.specs.Numbering.{with_name, number_of, thread_target, Tables, tables_of, what_of, numbered}
use Rattle.std.proofs.lemmas.List.Sums.{fold-append}
use Rattle.aero_names.specs.Additions.{number_after, with_actor, with_target, with_event, numbered_after}
use Rattle.aero_names.proofs.Fronts.{Extends, names_joined, names_pushed, number_kept, tables_pushed, tables_extended, numbered_kept}
use Rattle.aero_names.proofs.Listings.{number_of-place}
use Rattle.aero_names.proofs.NewNames.{has_name, still_has_name, still_passes, number_stays}
use Rattle.aero_grammar.specs.Lists.{labels_after, what_in_turn, numbered_in_turn, HasRoom, HasGrown}
use Rattle.aero_grammar.specs.declared.tables.Tables.{Tables as Kept}
use Rattle.aero_grammar.specs.Tabled.{labels_named, labels_of, name_at, op_of, target_in, named_in, lines_in, with_label, labelled, numbered_line, IsTabled, AreNames}
use Rattle.aero_grammar.specs.Words.{IsName, IsEvent}

-- a name that is listed is the one at its number
read_back : (names : List (List ℕ)) (name : List ℕ) → list_any (bytes_eq name) names ≡ true → name_at names (number_of names name) ≡ name
read_back names name listed = ap (λ o. unwrap_or o []) (number_of-place names name listed)

listed_later : (before after : List (List ℕ)) (name : List ℕ) → (more : List (List ℕ)) × (after ≡ fold with_name before more) → list_any (bytes_eq name) before ≡ true → list_any (bytes_eq name) after ≡ true
listed_later before after name extends listed = ap (list_any (bytes_eq name)) extends.1 ∙ still_passes (bytes_eq name) before extends.0 listed

op_kept : (after : Tables) (o : Op) (target : List ℕ) (label : Option ℕ) → op_of (with_label label (what_of after o target)) ≡ o
op_kept after op.Read target label = refl
op_kept after op.Write target label = refl
op_kept after op.Acquire target label = refl
op_kept after op.Release target label = refl
op_kept after op.Fork target label = refl
op_kept after op.Join target label = refl
op_kept after op.Begin target label = refl
op_kept after op.End target label = refl

-- all labels after these, and the label's number among them
abbrev pub Grows : List (List ℕ) → List (List ℕ) → Type 0
Grows before after = (more : List (List ℕ)) × (after ≡ fold with_name before more)

abbrev place_in : List (List ℕ) → Op → Option (List ℕ) → Option ℕ
place_in labels o target = option_map (number_of labels) (label_of o target)

module _ (tables after : Tables) (labels later : List (List ℕ)) where
  target_back : (o : Op) (target : Option (List ℕ)) → HasItsTarget o target → Extends (with_target tables o target) after → Grows (labels_after labels o target) later →
      target_in after later (with_label (place_in later o target) (what_of after o (unwrap_or target []))) ≡ target
  target_back op.Read (Some t) has extends grows = ap Some (read_back after.variables t (listed_later _ after.variables t extends.variables (has_name tables.variables t)))
  target_back op.Write (Some t) has extends grows = ap Some (read_back after.variables t (listed_later _ after.variables t extends.variables (has_name tables.variables t)))
  target_back op.Acquire (Some t) has extends grows = ap Some (read_back after.locks t (listed_later _ after.locks t extends.locks (has_name tables.locks t)))
  target_back op.Release (Some t) has extends grows = ap Some (read_back after.locks t (listed_later _ after.locks t extends.locks (has_name tables.locks t)))
  target_back op.Fork (Some t) has extends grows = ap Some (read_back after.threads t (listed_later _ after.threads t extends.threads (has_name tables.threads t)))
  target_back op.Join (Some t) has extends grows = ap Some (read_back after.threads t (listed_later _ after.threads t extends.threads (has_name tables.threads t)))
  target_back op.Read None has extends grows = absurd (cc)
  target_back op.Write None has extends grows = absurd (cc)
  target_back op.Acquire None has extends grows = absurd (cc)
  target_back op.Release None has extends grows = absurd (cc)
  target_back op.Fork None has extends grows = absurd (cc)
  target_back op.Join None has extends grows = absurd (cc)
  target_back op.Begin None has extends grows = refl
  target_back op.Begin (Some t) has extends grows = ap Some (read_back later t (listed_later _ later t grows (has_name labels t)))
  target_back op.End None has extends grows = refl
  target_back op.End (Some t) has extends grows = absurd (cc)

-- an event is read back from its numbers
event_back : (tables after : Tables) (labels later : List (List ℕ)) (e : Named) → HasItsTarget e.op e.target → Extends (with_event tables e) after → Grows (labels_after labels e.op e.target) later →
    named_in after later (labelled later e (numbered after e)) ≡ e
event_back tables after labels later e has extends grows = λ i. record {
  thread = read_back after.threads e.thread (listed_later _ after.threads e.thread extends.threads (still_has_name tables.threads (thread_target e.op e.target) e.thread)) i;
  op = op_kept after e.op (unwrap_or e.target []) (place_in later e.op e.target) i;
  target = target_back (record tables { threads = with_name tables.threads e.thread }) after labels later e.op e.target has extends grows i;
}

-- the event by its numbers, where it comes after these names
abbrev pub numbered_next : Tables → List (List ℕ) → Named → Numbered
numbered_next tables labels e = record { thread = (numbered_after tables e).thread; what = with_label (option_map (number_after labels) (label_of e.op e.target)) (numbered_after tables e).what }

label_kept : (labels later : List (List ℕ)) (label : Option (List ℕ)) → Grows (fold with_name labels (option_to_list label)) later → option_map (number_of later) label ≡ option_map (number_after labels) label
label_kept labels later None grows = refl
label_kept labels later (Some l) grows = ap Some (number_kept (with_name labels l) later l grows (has_name labels l))

-- its numbers stay what they are
next_kept : (tables after : Tables) (labels later : List (List ℕ)) (e : Named) → HasItsTarget e.op e.target → Extends (with_event tables e) after → Grows (labels_after labels e.op e.target) later →
    labelled later e (numbered after e) ≡ numbered_next tables labels e
next_kept tables after labels later e has extends grows = λ i. record {
  thread = (numbered_kept tables after e has extends i).thread;
  what = with_label (label_kept labels later (label_of e.op e.target) grows i) (numbered_kept tables after e has extends i).what;
}

abbrev names_of : List (ℕ × Named) → List Named
names_of events = map (λ e. e.1) events

-- each event has its target
abbrev AllHave : List (ℕ × Named) → Type 0
AllHave [] = ⊤
AllHave (e ∷ es) = HasItsTarget e.1.op e.1.target × AllHave es

-- the names of an event in the midst of others
extended_at : (xs : List Named) (e : Named) (ys : List Named) → Extends (with_event (tables_of xs) e) (tables_of (xs ++ e ∷ ys))
extended_at xs e ys =
    subst (λ es. Extends (with_event (tables_of xs) e) (tables_of es)) (append_assoc xs (e ∷ []) ys)
    (subst (λ t. Extends t (tables_of ((xs ++ e ∷ []) ++ ys))) (tables_pushed xs e) (tables_extended (xs ++ e ∷ []) ys))

labels_at : (xs : List Named) (e : Named) (ys : List Named) → Grows (labels_after (labels_of xs) e.op e.target) (labels_of (xs ++ e ∷ ys))
labels_at xs e ys = (flat_map labels_named ys, names_joined labels_named xs (e ∷ ys) ∙ fold-append with_name (labels_of xs) (labels_named e) (flat_map labels_named ys))

-- the events by their numbers, among these names
abbrev by_numbers : List Named → List (ℕ × Named) → List (ℕ × Numbered)
by_numbers names events = map (numbered_line (tables_of names) (labels_of names)) events

abbrev AllBack : List Named → List (ℕ × Named) → Type 0
AllBack names events = lines_in (tables_of names) (labels_of names) (by_numbers names events) ≡ events

all_back : (xs : List Named) (ys : List (ℕ × Named)) → AllHave ys → AllBack (xs ++ names_of ys) ys
all_back xs [] have = refl
all_back xs (e ∷ ys) have =
    ap₂ (λ z zs. (e.0, z) ∷ zs) (event_back (tables_of xs) (tables_of (xs ++ e.1 ∷ names_of ys)) (labels_of xs) (labels_of (xs ++ e.1 ∷ names_of ys)) e.1 have.0 (extended_at xs e.1 (names_of ys)) (labels_at xs e.1 (names_of ys)))
    (subst (λ es. AllBack es ys) (append_assoc xs (e.1 ∷ []) (names_of ys)) (all_back (xs ++ e.1 ∷ []) ys have.1))

abbrev next_after : List Named → Named → Numbered
next_after xs e = numbered_next (tables_of xs) (labels_of xs) e

-- the events numbered one after the other, after those of xs
abbrev run_from : List Named → List (ℕ × Named) → List (ℕ × Numbered)
run_from xs [] = []
run_from xs (e ∷ ys) = (e.0, next_after xs e.1) ∷ run_from (xs ++ e.1 ∷ []) ys

all_as_run : (xs : List Named) (ys : List (ℕ × Named)) → AllHave ys → by_numbers (xs ++ names_of ys) ys ≡ run_from xs ys
all_as_run xs [] have = refl
all_as_run xs (e ∷ ys) have =
    ap₂ (λ z zs. (e.0, z) ∷ zs) (next_kept (tables_of xs) (tables_of (xs ++ e.1 ∷ names_of ys)) (labels_of xs) (labels_of (xs ++ e.1 ∷ names_of ys)) e.1 have.0 (extended_at xs e.1 (names_of ys)) (labels_at xs e.1 (names_of ys)))
    (subst (λ es. by_numbers es ys ≡ run_from (xs ++ e.1 ∷ []) ys) (append_assoc xs (e.1 ∷ []) (names_of ys)) (all_as_run (xs ++ e.1 ∷ []) ys have.1))

run_pushed : (xs : List Named) (ys : List (ℕ × Named)) (k : ℕ) (e : Named) → run_from xs (ys ++ (k, e) ∷ []) ≡ run_from xs ys ++ (k, next_after (xs ++ names_of ys) e) ∷ []
run_pushed xs [] k e = ap (λ es. (k, next_after es e) ∷ []) (sym (append-nil xs))
run_pushed xs (y ∷ ys) k e =
    ap (λ zs. (y.0, next_after xs y.1) ∷ zs)
    (run_pushed (xs ++ y.1 ∷ []) ys k e ∙ ap (λ es. run_from (xs ++ y.1 ∷ []) ys ++ (k, next_after es e) ∷ []) (append_assoc xs (y.1 ∷ []) (names_of ys)))

pub has_here : (tables : Tables) (labels : List (List ℕ)) (w : What) → HasItsTarget (op_of w) (target_in tables labels w)
has_here tables labels (Read x) = refl
has_here tables labels (Write x) = refl
has_here tables labels (Acquire l) = refl
has_here tables labels (Release l) = refl
has_here tables labels (Fork u) = refl
has_here tables labels (Join u) = refl
has_here tables labels (Begin label) = tt
has_here tables labels End = refl
has_here tables labels Exempt = refl

all_have : (tables : Tables) (labels : List (List ℕ)) (events : List (ℕ × Numbered)) → AllHave (lines_in tables labels events)
all_have tables labels [] = tt
all_have tables labels (e ∷ es) = (has_here tables labels e.1.what, all_have tables labels es)

have_pushed : (ys : List (ℕ × Named)) (k : ℕ) (e : Named) → AllHave ys → HasItsTarget e.op e.target → AllHave (ys ++ (k, e) ∷ [])
have_pushed [] k e have has = (has, tt)
have_pushed (y ∷ ys) k e have has = (have.0, have_pushed ys k e have.1 has)

module _ (tables : Tables) (labels : List (List ℕ)) (events : List (ℕ × Numbered)) (is : IsTabled tables labels events) (k : ℕ) (e : Named) (has : HasItsTarget e.op e.target) where
  abbrev named : List (ℕ × Named)
  named = lines_in tables labels events

  abbrev more : List (ℕ × Named)
  more = named ++ (k, e) ∷ []

  abbrev more_labels : List (List ℕ)
  more_labels = labels_after labels e.op e.target

  abbrev more_events : List (ℕ × Numbered)
  more_events = events ++ (k, numbered_next tables labels e) ∷ []

  after_is : with_event tables e ≡ tables_of (names_of more)
  after_is = sym (ap tables_of (map-append (λ e. e.1) named ((k, e) ∷ [])) ∙ tables_pushed (names_of named) e ∙ ap (λ t. with_event t e) (sym is.tables_are))

  labels_next : more_labels ≡ labels_of (names_of more)
  labels_next =
      sym (ap labels_of (map-append (λ e. e.1) named ((k, e) ∷ [])) ∙ names_pushed labels_named (names_of named) e ∙ ap (λ ls. labels_after ls e.op e.target) (sym is.labels_are))

  numbers_so_far : events ≡ run_from [] named
  numbers_so_far = is.numbers_are ∙ ap₂ (λ t ls. map (numbered_line t ls) named) is.tables_are is.labels_are ∙ all_as_run [] named (all_have tables labels events)

  more_have : AllHave more
  more_have = have_pushed named k e (all_have tables labels events) has

  numbers_after : more_events ≡ by_numbers (names_of more) more
  numbers_after =
      (λ i. numbers_so_far i ++ (k, numbered_next (is.tables_are i) (is.labels_are i) e) ∷ [])
      ∙ sym (all_as_run [] more more_have ∙ run_pushed [] named k e)

  -- one more event is read back behind the others
  pub lines_pushed : lines_in (with_event tables e) more_labels more_events ≡ lines_in tables labels events ++ (k, e) ∷ []
  lines_pushed = (λ i. lines_in (after_is i) (labels_next i) (numbers_after i)) ∙ all_back [] more more_have

  pub tabled_pushed : IsTabled (with_event tables e) more_labels more_events
  tabled_pushed = record {
    tables_are = after_is ∙ sym (ap (λ es. tables_of (names_of es)) lines_pushed);
    labels_are = labels_next ∙ sym (ap (λ es. labels_of (names_of es)) lines_pushed);
    numbers_are = numbers_after ∙ (λ i. map (numbered_line (sym after_is i) (sym labels_next i)) (sym lines_pushed i));
  }

pub nothing_tabled : IsTabled (record { threads = []; variables = []; locks = [] }) [] []
nothing_tabled = record { tables_are = refl; labels_are = refl; numbers_are = refl }

pub tabled_as : (tables tables' : Tables) (labels labels' : List (List ℕ)) (events events' : List (ℕ × Numbered)) → tables' ≡ tables → labels' ≡ labels → events' ≡ events →
    IsTabled tables labels events → IsTabled tables' labels' events'
tabled_as tables tables' labels labels' events events' same_tables same_labels same_events is =
    subst (λ t. IsTabled t labels' events') (sym same_tables)
    (subst (λ ls. IsTabled tables ls events') (sym same_labels)
    (subst (λ es. IsTabled tables labels es) (sym same_events) is))

pub names_as : (tables tables' : Tables) (labels labels' : List (List ℕ)) → tables' ≡ tables → labels' ≡ labels → AreNames tables labels → AreNames tables' labels'
names_as tables tables' labels labels' same_tables same_labels are =
    subst (λ t. AreNames t labels') (sym same_tables) (subst (λ ls. AreNames tables ls) (sym same_labels) are)

-- names are added to names
name_added : (names : List (List ℕ)) (name : List ℕ) → All IsName names → IsName name → All IsName (with_name names name)
name_added names name all is = cond_both (list_any (bytes_eq name) names) names (names ++ name ∷ []) (All IsName) (λ _. all) (λ _. All-push IsName names name all is)

module _ (tables : Tables) (labels : List (List ℕ)) where
  target_added : (o : Op) (target : Option (List ℕ)) → IfSome target IsName → AreNames tables labels → AreNames (with_target tables o target) (labels_after labels o target)
  target_added op.Read (Some t) is are = record { threads = are.threads; variables = name_added tables.variables t are.variables is; locks = are.locks; labels = are.labels }
  target_added op.Write (Some t) is are = record { threads = are.threads; variables = name_added tables.variables t are.variables is; locks = are.locks; labels = are.labels }
  target_added op.Acquire (Some t) is are = record { threads = are.threads; variables = are.variables; locks = name_added tables.locks t are.locks is; labels = are.labels }
  target_added op.Release (Some t) is are = record { threads = are.threads; variables = are.variables; locks = name_added tables.locks t are.locks is; labels = are.labels }
  target_added op.Fork (Some t) is are = record { threads = name_added tables.threads t are.threads is; variables = are.variables; locks = are.locks; labels = are.labels }
  target_added op.Join (Some t) is are = record { threads = name_added tables.threads t are.threads is; variables = are.variables; locks = are.locks; labels = are.labels }
  target_added op.Read None is are = are
  target_added op.Write None is are = are
  target_added op.Acquire None is are = are
  target_added op.Release None is are = are
  target_added op.Fork None is are = are
  target_added op.Join None is are = are
  target_added op.Begin (Some t) is are = record { threads = are.threads; variables = are.variables; locks = are.locks; labels = name_added labels t are.labels is }
  target_added op.Begin None is are = are
  target_added op.End target is are = are

pub names_added : (tables : Tables) (labels : List (List ℕ)) (e : Named) → IsEvent e → AreNames tables labels → AreNames (with_event tables e) (labels_after labels e.op e.target)
names_added tables labels e is are =
    target_added (record tables { threads = with_name tables.threads e.thread }) labels e.op e.target is.target
    (record { threads = name_added tables.threads e.thread are.threads is.thread; variables = are.variables; locks = are.locks; labels = are.labels })

pub no_names : AreNames (record { threads = []; variables = []; locks = [] }) []
no_names = record { threads = All-nil IsName; variables = All-nil IsName; locks = All-nil IsName; labels = All-nil IsName }

-- an event by its numbers, the actor's first
pub numbered_by_turns : (tables : Tables) (labels : List (List ℕ)) (e : Named) → numbered_in_turn tables labels e ≡ numbered_next tables labels e
numbered_by_turns tables labels e = λ i. record {
  thread = sym (number_stays (with_name tables.threads e.thread) (thread_target e.op e.target) e.thread (has_name tables.threads e.thread)) i;
  what = what_in_turn (with_actor tables e) labels e.op e.target;
}

-- the room for more names
pub room_within : (t : Kept) (more fewer : ℕ) → fewer ≤ more → HasRoom t more → HasRoom t fewer
room_within t more fewer le room =
    record { threads = omega (arith, le, room.threads); variables = omega (arith, le, room.variables); locks = omega (arith, le, room.locks); labels = omega (arith, le, room.labels) }

pub room_left : (old new : Kept) (more fewer most : ℕ) → fewer + most ≤ more → HasRoom old more → HasGrown old new most → HasRoom new fewer
room_left old new more fewer most le room grown =
    record {
      threads = omega (arith, le, room.threads, grown.threads, grown.threads_limit);
      variables = omega (arith, le, room.variables, grown.variables, grown.variables_limit);
      locks = omega (arith, le, room.locks, grown.locks, grown.locks_limit);
      labels = omega (arith, le, room.labels, grown.labels, grown.labels_limit);
    }
