-- An event of a block that was read, and its names, which are in the block's tables.
use Rattle.std.proofs.Common.{◌≡◌, ℕ, zero, suc, ◌<◌, true, List, [], ◌∷◌, length, get_or, map, Some, None, option_map, inl, inr, refl, sym, ◌∙◌, ap, subst, arith}
use Rattle.std.specs.Prelude.{slice_get, All, IfSome, bytes_eq, flat_map, fold, unwrap_or}
use Rattle.std.specs.List.{list_any}
use Rattle.std.proofs.lemmas.Bool.{or_cases, or_left, or_right}
use Rattle.std.proofs.lemmas.List.Folds.{list_any-append}
use Rattle.std.proofs.lemmas.Option.{slice_get-map, slice_get_within, slice_get-get_or, same_Some, unwrap_or-slice_get}
use Rattle.std.proofs.lemmas.Slice.Eq.{bytes_eq-Decides}
use Rattle.aero_model.specs.declared.numbered.Numbered.{Numbered}
use Rattle.aero_model.specs.declared.numbered.What.{What}
use Rattle.aero_model.specs.declared.numbered.What.TheVariants.{Read, Write, Acquire, Release, Fork, Join, Begin, End, Exempt}
use Rattle.aero_model.specs.Exempt.{label_of}
use Rattle.aero_model.specs.Named.{Named, HasItsTarget}
use Rattle.aero_model.specs.Numbering.{Tables, with_name, different_names, number_of, what_of, threads_named, variables_named, locks_named}
use Rattle.aero_grammar.specs.Tabled.{name_at, op_of, target_in, named_in, line_in, lines_in, labels_named, with_label, numbered_line, IsTabled, AreNames}
use Rattle.aero_grammar.specs.Words.{IsName, IsEvent}
use Rattle.aero_names.proofs.Listings.{number_of-place}
use Rattle.aero_names.proofs.NewNames.{still_has_name}
use Rattle.aero_verdict.specs.Ending.{IsWithin, JoinsWithin}
use Rattle.aero_verdict.specs.Spots.{HasTarget}
use Rattle.aero_verdict.proofs.KnownLines.{lines_long}

-- the item that was read at a place, whatever would be read past the end
pub item_at : (t : Tables) (labels : List (List ℕ)) (items : List (ℕ × Numbered)) (es : List (ℕ × Named)) → lines_in t labels items ≡ es → (i : ℕ) (read item : ℕ × Numbered) → i < length es →
    item ≡ read → read ≡ get_or items i read → slice_get items i ≡ Some item
item_at t labels items es same i read item less told is =
    let long = ap length same in
    let count = lines_long t labels items in
    slice_get-get_or items i read (omega (arith, less, long, count)) ∙ ap Some (sym (told ∙ is))

-- the event there by its names
pub line_at : (t : Tables) (labels : List (List ℕ)) (items : List (ℕ × Numbered)) (es : List (ℕ × Named)) → lines_in t labels items ≡ es → (i : ℕ) (item : ℕ × Numbered) → slice_get items i ≡ Some item →
    slice_get es i ≡ Some (line_in t labels item)
line_at t labels items es same i item at =
    ap (λ xs. slice_get xs i) (sym same) ∙ slice_get-map (line_in t labels) items i ∙ ap (option_map (line_in t labels)) at

itself : (name : List ℕ) (more : List (List ℕ)) → list_any (bytes_eq name) (name ∷ more) ≡ true
itself name more = or_left (bytes_eq name name) (list_any (bytes_eq name) more) ((bytes_eq-Decides name name).1 refl)

-- a name of a list is among its different ones
still_among : (name : List ℕ) (before more : List (List ℕ)) → list_any (bytes_eq name) more ≡ true → list_any (bytes_eq name) (fold with_name before more) ≡ true
still_among name before [] some = absurd (cc)
still_among name before (first ∷ more) some = elim (or_cases (bytes_eq name first) (list_any (bytes_eq name) more) some) [
  | inl here ↦
      subst (λ (n : List ℕ). list_any (bytes_eq n) (fold with_name before (first ∷ more)) ≡ true) (sym ((bytes_eq-Decides name first).0 here)) (still_has_name before more first)
  | inr later ↦ still_among name (with_name before first) more later
]

-- a name that one of the events has, in whatever name space, is among those of all
module _ (names_of : Named → List (List ℕ)) (e : Named) (name : List ℕ) (has : list_any (bytes_eq name) (names_of e) ≡ true) where
  among : (named : List Named) (k : ℕ) → slice_get named k ≡ Some e → list_any (bytes_eq name) (flat_map names_of named) ≡ true
  among [] k at = absurd (cc)
  among (x ∷ xs) zero at =
      let here = ap (λ (o : Named). list_any (bytes_eq name) (names_of o)) (same_Some x e at) ∙ has in
      list_any-append (bytes_eq name) (names_of x) (flat_map names_of xs) ∙ or_left (list_any (bytes_eq name) (names_of x)) (list_any (bytes_eq name) (flat_map names_of xs)) here
  among (x ∷ xs) (suc k) at =
      list_any-append (bytes_eq name) (names_of x) (flat_map names_of xs) ∙ or_right (list_any (bytes_eq name) (names_of x)) (list_any (bytes_eq name) (flat_map names_of xs)) (among xs k at)

  pub among_names : (named : List Named) (k : ℕ) → slice_get named k ≡ Some e → list_any (bytes_eq name) (different_names (flat_map names_of named)) ≡ true
  among_names named k at = still_among name [] (flat_map names_of named) (among named k at)

-- the number of the target or the label, if there is one
abbrev target_number : What → ℕ
target_number (Read x) = x
target_number (Write x) = x
target_number (Acquire l) = l
target_number (Release l) = l
target_number (Fork u) = u
target_number (Join u) = u
target_number (Begin None) = 0
target_number (Begin (Some label)) = label
target_number End = 0
target_number Exempt = 0

module _ (t : Tables) (labels : List (List ℕ)) where
  -- what the names say that the numbers stand for
  abbrev again : What → What
  again w = with_label (option_map (number_of labels) (label_of (op_of w) (target_in t labels w))) (what_of t (op_of w) (unwrap_or (target_in t labels w) []))

  module _ (items : List (ℕ × Numbered)) (tabled : IsTabled t labels items) (i : ℕ) (item : ℕ × Numbered) (at : slice_get items i ≡ Some item) where
    abbrev all_named : List Named
    all_named = map (λ (e : ℕ × Named). e.1) (lines_in t labels items)

    abbrev event : Named
    event = named_in t labels item.1

    event_at : slice_get all_named i ≡ Some event
    event_at =
        slice_get-map (λ (e : ℕ × Named). e.1) (lines_in t labels items) i
        ∙ ap (option_map (λ (e : ℕ × Named). e.1)) (line_at t labels items (lines_in t labels items) refl i item at)

    same : item ≡ numbered_line t labels (line_in t labels item)
    same =
        same_Some item (numbered_line t labels (line_in t labels item))
        (sym at
        ∙ ap (λ es. slice_get es i) tabled.numbers_are
        ∙ slice_get-map (numbered_line t labels) (lines_in t labels items) i
        ∙ ap (option_map (numbered_line t labels)) (line_at t labels items (lines_in t labels items) refl i item at))

    -- a number that stands for a name of the event is within its table
    in_table : (names_of : Named → List (List ℕ)) (table : List (List ℕ)) → table ≡ different_names (flat_map names_of all_named) → (n : ℕ) → n ≡ number_of table (name_at table n) →
        list_any (bytes_eq (name_at table n)) (names_of event) ≡ true → n < length table
    in_table names_of table table_is n number has =
        let name = name_at table n in
        let listed : list_any (bytes_eq name) table ≡ true = ap (list_any (bytes_eq name)) table_is ∙ among_names names_of event name has all_named i event_at in
        subst (λ m. m < length table) (sym number) (slice_get_within table (number_of table name) name (number_of-place table name listed))

    pub thread_within : item.1.thread < length t.threads
    thread_within =
        in_table threads_named t.threads (ap (λ (ts : Tables). ts.threads) tabled.tables_are) item.1.thread (ap (λ (p : ℕ × Numbered). p.1.thread) same) (itself event.thread _)

    numbers : (w : What) → item.1.what ≡ w → target_number w ≡ target_number (again w)
    numbers w is = ap target_number (subst (λ v. v ≡ again v) is (ap (λ (p : ℕ × Numbered). p.1.what) same))

    variable_within : (x : ℕ) (w : What) → item.1.what ≡ w → list_any (bytes_eq (name_at t.variables x)) (variables_named (named_in t labels (record { thread = 0; what = w }))) ≡ true →
        x ≡ number_of t.variables (name_at t.variables x) → x < length t.variables
    variable_within x w is has number =
        in_table variables_named t.variables (ap (λ (ts : Tables). ts.variables) tabled.tables_are) x number
        (ap (λ (v : What). list_any (bytes_eq (name_at t.variables x)) (variables_named (named_in t labels (record { thread = 0; what = v })))) is ∙ has)

    lock_within : (l : ℕ) (w : What) → item.1.what ≡ w → list_any (bytes_eq (name_at t.locks l)) (locks_named (named_in t labels (record { thread = 0; what = w }))) ≡ true →
        l ≡ number_of t.locks (name_at t.locks l) → l < length t.locks
    lock_within l w is has number =
        in_table locks_named t.locks (ap (λ (ts : Tables). ts.locks) tabled.tables_are) l number
        (ap (λ (v : What). list_any (bytes_eq (name_at t.locks l)) (locks_named (named_in t labels (record { thread = 0; what = v })))) is ∙ has)

    other_within : (u : ℕ) (w : What) → item.1.what ≡ w → list_any (bytes_eq (name_at t.threads u)) (threads_named (named_in t labels (record { thread = item.1.thread; what = w }))) ≡ true →
        u ≡ number_of t.threads (name_at t.threads u) → u < length t.threads
    other_within u w is has number =
        in_table threads_named t.threads (ap (λ (ts : Tables). ts.threads) tabled.tables_are) u number
        (ap (λ (v : What). list_any (bytes_eq (name_at t.threads u)) (threads_named (named_in t labels (record { thread = item.1.thread; what = v })))) is ∙ has)

    label_within : (n : ℕ) → item.1.what ≡ Begin (Some n) → n ≡ number_of labels (name_at labels n) → n < length labels
    label_within n is number =
        in_table labels_named labels tabled.labels_are n number
        (ap (λ (v : What). list_any (bytes_eq (name_at labels n)) (labels_named (named_in t labels (record { thread = 0; what = v })))) is ∙ itself (name_at labels n) [])

    second : (first name : List ℕ) → list_any (bytes_eq name) (first ∷ name ∷ []) ≡ true
    second first name = or_right (bytes_eq name first) (list_any (bytes_eq name) (name ∷ [])) (itself name [])

    has_target : (w : What) → item.1.what ≡ w → HasTarget t labels w
    has_target (Read x) is = variable_within x (Read x) is (itself (name_at t.variables x) []) (numbers (Read x) is)
    has_target (Write x) is = variable_within x (Write x) is (itself (name_at t.variables x) []) (numbers (Write x) is)
    has_target (Acquire l) is = lock_within l (Acquire l) is (itself (name_at t.locks l) []) (numbers (Acquire l) is)
    has_target (Release l) is = lock_within l (Release l) is (itself (name_at t.locks l) []) (numbers (Release l) is)
    has_target (Fork u) is = other_within u (Fork u) is (second event.thread (name_at t.threads u)) (numbers (Fork u) is)
    has_target (Join u) is = other_within u (Join u) is (second event.thread (name_at t.threads u)) (numbers (Join u) is)
    has_target (Begin None) is = tt
    has_target (Begin (Some n)) is = label_within n is (numbers (Begin (Some n)) is)
    has_target End is = tt
    has_target Exempt is = tt

    pub target_within : HasTarget t labels item.1.what
    target_within = has_target item.1.what refl

  -- each name in the tables is one
  is_name : (table : List (List ℕ)) → All IsName table → (n : ℕ) → n < length table → IsName (name_at table n)
  is_name table all n less = subst IsName (sym (unwrap_or-slice_get table n [])) (all n [] less)

  target_is_name : AreNames t labels → (w : What) → HasTarget t labels w → IfSome (target_in t labels w) IsName
  target_is_name names (Read x) less = is_name t.variables names.variables x less
  target_is_name names (Write x) less = is_name t.variables names.variables x less
  target_is_name names (Acquire l) less = is_name t.locks names.locks l less
  target_is_name names (Release l) less = is_name t.locks names.locks l less
  target_is_name names (Fork u) less = is_name t.threads names.threads u less
  target_is_name names (Join u) less = is_name t.threads names.threads u less
  target_is_name names (Begin None) less = tt
  target_is_name names (Begin (Some n)) less = is_name labels names.labels n less
  target_is_name names End less = tt
  target_is_name names Exempt less = tt

  has_its_target : (w : What) → HasItsTarget (op_of w) (target_in t labels w)
  has_its_target (Read x) = refl
  has_its_target (Write x) = refl
  has_its_target (Acquire l) = refl
  has_its_target (Release l) = refl
  has_its_target (Fork u) = refl
  has_its_target (Join u) = refl
  has_its_target (Begin None) = tt
  has_its_target (Begin (Some n)) = tt
  has_its_target End = refl
  has_its_target Exempt = refl

  pub is_event : AreNames t labels → (e : Numbered) → e.thread < length t.threads → HasTarget t labels e.what → IsEvent (named_in t labels e)
  is_event names e less has = record {
    thread = is_name t.threads names.threads e.thread less;
    target = target_is_name names e.what has;
    has_target = has_its_target e.what;
  }

-- all of them are events with names, and their threads are in the tables
pub chunk_events : (t : Tables) (labels : List (List ℕ)) (events : List (ℕ × Numbered)) → IsTabled t labels events → AreNames t labels → All (λ e. IsEvent (named_in t labels e.1)) events
chunk_events t labels events tabled names = λ k d less.
    let e = get_or events k d in
    let at = slice_get-get_or events k d less in
    is_event t labels names e.1 (thread_within t labels events tabled k e at) (target_within t labels events tabled k e at)

joins_within : (t : Tables) (labels : List (List ℕ)) (w : What) → HasTarget t labels w → JoinsWithin (length t.threads) w
joins_within t labels (Join u) has = has
joins_within t labels (Read x) has = tt
joins_within t labels (Write x) has = tt
joins_within t labels (Acquire l) has = tt
joins_within t labels (Release l) has = tt
joins_within t labels (Fork u) has = tt
joins_within t labels (Begin label) has = tt
joins_within t labels End has = tt
joins_within t labels Exempt has = tt

pub chunk_within : (t : Tables) (labels : List (List ℕ)) (events : List (ℕ × Numbered)) → IsTabled t labels events → All (λ e. IsWithin (length t.threads) e.1) events
chunk_within t labels events tabled = λ k d less.
    let e = get_or events k d in
    let at = slice_get-get_or events k d less in
    (thread_within t labels events tabled k e at, joins_within t labels e.1.what (target_within t labels events tabled k e at))
