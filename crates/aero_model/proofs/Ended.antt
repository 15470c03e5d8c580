-- Events with ends for blocks that have none: no block is open behind them, and without the ends there is no cycle more.
use Rattle.std.proofs.Common.{◌≡◌, ◌≢◌, ◌+◌, ◌-◌, ◌<◌, ◌≤◌, ◌==◌, ◌&&◌, ◌||◌, ◌⊎◌, nat_lt, ℕ, zero, suc, Bool, true, false, cond, not, if◌then◌else◌, List, [], ◌∷◌, ◌++◌, length, take, map, fold, flat_map, replicate, Option, Some, None, inl, inr, refl, sym, ◌∙◌, ap, ap₂, subst, arith, append_assoc, append-nil, length-append, true≢false}
use Rattle.std.specs.Prelude.{bytes_eq, option_map, slice_get, unwrap_or}
use Rattle.std.specs.List.{list_any}
use Rattle.std.proofs.lemmas.Bool.{cases_Bool, and_parts, or_parts, or_left, or_right, eq-eqb, both_ways}
use Rattle.std.proofs.lemmas.List.{map-append, length-map}
use Rattle.std.proofs.lemmas.List.Sums.{fold-append}
use Rattle.std.proofs.lemmas.Option.{same_Some, slice_get_within}
use Rattle.std.proofs.lemmas.Slice.Eq.{bytes_eq-Decides}
use Rattle.aero_model.specs.declared.numbered.Numbered.{Numbered}
use Rattle.aero_model.specs.declared.numbered.What.{What}
use Rattle.aero_model.specs.declared.numbered.What.TheVariants.{Join}
use Rattle.aero_model.specs.declared.event.Op.{Op}
use Rattle.aero_model.specs.declared.event.Op.TheVariants as op
use Rattle.aero_model.specs.declared.verdict.ShapeFault.{ShapeFault}
use Rattle.aero_model.specs.declared.verdict.ShapeFault.TheVariants.{ThreadJoined, JoinSelf}
use Rattle.aero_model.specs.Blocks.{Transaction, Block, Unary, depth, HasEnded, Occurs}
use Rattle.aero_model.specs.BlockCounts.{count_below}
use Rattle.aero_model.specs.Cycle.{HasTellingCycle, IsSerializable}
use Rattle.aero_model.specs.Ended.{all_ended, end_of, ended_after, ends_at_end, ends_before, ends_of, is_join, joins_another, open_of, target_of, without_lines}
use Rattle.aero_model.specs.Exempt.{Listed, Marked, read_events, nest, is_latest_exempt, judged_trace, marked, marked_trace}
use Rattle.aero_model.specs.Named.{Named}
use Rattle.aero_model.specs.Numbering.{Tables, different_names, number_of, numbered, tables_of, threads_named, trace_of, variables_named, locks_named, what_of, with_name}
use Rattle.aero_model.specs.Shape.{deed_fault, is_join_of, shape_fault, was_joined, IsWellFormed}
use Rattle.aero_model.proofs.Ends.{ended_or_open}
use Rattle.aero_model.proofs.Exempt.{judged_depth, judged_length, judged_threads, read_at}
use Rattle.aero_model.proofs.Inserting.{NoneOf, get_front, get_new, none_without_it}
use Rattle.aero_model.proofs.NamedDepths.{nested, open_blocks_is, open_blocks_none, stepped}
use Rattle.aero_model.proofs.Places.{in_block}
use Rattle.aero_model.proofs.Telling.{serializable_where_ended}
use Rattle.aero_model.proofs.WellFormed.{slice_get-take}

-- the same events by their names alone

abbrev ends_named : List Named → Named → List Named
ends_named before e = if joins_another e then replicate (open_of before (target_of e)) (end_of (target_of e)) else []

abbrev ended_named : List Named → List Named → List Named
ended_named before [] = []
ended_named before (e ∷ more) = ends_named before e ++ e ∷ ended_named (before ++ ends_named before e ++ e ∷ []) more

abbrev ends_for : (List ℕ → ℕ) → List ℕ → List Named
ends_for f thread = replicate (f thread) (end_of thread)

many_without : (n line : ℕ) (e : Named) → without_lines (replicate n (line, e)) ≡ replicate n e
many_without zero line e = refl
many_without (suc n) line e = ap (λ es. e ∷ es) (many_without n line e)

pub ends_without : (before : List Named) (e : ℕ × Named) → without_lines (ends_before before e) ≡ ends_named before e.1
ends_without before e = go (joins_another e.1)
  where
    go : (b : Bool) → without_lines (if b then ends_of before e.0 (target_of e.1) else []) ≡ (if b then replicate (open_of before (target_of e.1)) (end_of (target_of e.1)) else [])
    go true = many_without (open_of before (target_of e.1)) e.0 (end_of (target_of e.1))
    go false = refl

ended_without : (before : List Named) (events : List (ℕ × Named)) → without_lines (ended_after before events) ≡ ended_named before (without_lines events)
ended_without before [] = refl
ended_without before (e ∷ more) =
    let ends = ends_before before e in
    map-append (λ x. x.1) ends (e ∷ ended_after (before ++ without_lines ends ++ e.1 ∷ []) more)
    ∙ ap₂ (λ es rest. es ++ e.1 ∷ rest) (ends_without before e)
    (ap (λ es. without_lines (ended_after (before ++ es ++ e.1 ∷ []) more)) (ends_without before e) ∙ ended_without (before ++ ends_named before e.1 ++ e.1 ∷ []) more)

at_end_without : (f : List Named) (line : ℕ) (names : List (List ℕ)) → without_lines (flat_map (ends_of f line) names) ≡ flat_map (ends_for (open_of f)) names
at_end_without f line [] = refl
at_end_without f line (name ∷ names) =
    map-append (λ x. x.1) (ends_of f line name) (flat_map (ends_of f line) names)
    ∙ ap₂ (λ es rest. es ++ rest) (many_without (open_of f name) line (end_of name)) (at_end_without f line names)

-- all of them
abbrev named_in_all : List Named → List Named
named_in_all events = let ended = ended_named [] events in ended ++ flat_map (ends_for (open_of ended)) (tables_of ended).threads

all_without : (events : List (ℕ × Named)) (line : ℕ) → without_lines (all_ended events line) ≡ named_in_all (without_lines events)
all_without events line =
    let ended = without_lines (ended_after [] events) in
    map-append (λ x. x.1) (ended_after [] events) (ends_at_end ended line)
    ∙ ap (λ es. ended ++ es) (at_end_without ended line (tables_of ended).threads)
    ∙ ap (λ es. es ++ flat_map (ends_for (open_of es)) (tables_of es).threads) (ended_without [] events)

-- no block is open behind them

closed_already : (thread other : List ℕ) (k : ℕ) → fold (stepped thread) 0 (replicate k (end_of other)) ≡ 0
closed_already thread other zero = refl
closed_already thread other (suc k) = one (bytes_eq thread other) (closed_already thread other k)
  where
    one : (b : Bool) → fold (stepped thread) 0 (replicate k (end_of other)) ≡ 0 → fold (stepped thread) (cond b (0 - 1) 0) (replicate k (end_of other)) ≡ 0
    one true later = later
    one false later = later

pub ended_one : (thread : List ℕ) (k n : ℕ) → n ≤ k → fold (stepped thread) n (replicate k (end_of thread)) ≡ 0
ended_one thread zero n few = omega (arith, few)
ended_one thread (suc k) n few =
    ap (λ b. fold (stepped thread) (cond b (n - 1) n) (replicate k (end_of thread))) ((bytes_eq-Decides thread thread).1 refl)
    ∙ ended_one thread k (n - 1) (omega (arith, few))

pub other_stays : (thread other : List ℕ) (k n : ℕ) → bytes_eq thread other ≡ false → fold (stepped thread) n (replicate k (end_of other)) ≡ n
other_stays thread other zero n differ = refl
other_stays thread other (suc k) n differ =
    ap (λ b. fold (stepped thread) (cond b (n - 1) n) (replicate k (end_of other))) differ ∙ other_stays thread other k n differ

all_closed : (f : List ℕ → ℕ) (thread : List ℕ) (names : List (List ℕ)) → fold (stepped thread) 0 (flat_map (ends_for f) names) ≡ 0
all_closed f thread [] = refl
all_closed f thread (name ∷ names) =
    fold-append (stepped thread) 0 (replicate (f name) (end_of name)) (flat_map (ends_for f) names)
    ∙ ap (λ n. fold (stepped thread) n (flat_map (ends_for f) names)) (closed_already thread name (f name)) ∙ all_closed f thread names

closed_in_all : (f : List ℕ → ℕ) (thread : List ℕ) (names : List (List ℕ)) (n : ℕ) → n ≤ f thread → (list_any (bytes_eq thread) names ≡ false → n ≡ 0) → fold (stepped thread) n (flat_map (ends_for f) names) ≡ 0
closed_in_all f thread [] n few none = none refl
closed_in_all f thread (name ∷ names) n few none = go (cases_Bool (bytes_eq thread name)) none (closed_in_all f thread names n few)
  where
    rest : List Named
    rest = flat_map (ends_for f) names

    go : (bytes_eq thread name ≡ true) ⊎ (bytes_eq thread name ≡ false) → ((bytes_eq thread name || list_any (bytes_eq thread) names) ≡ false → n ≡ 0) →
        ((list_any (bytes_eq thread) names ≡ false → n ≡ 0) → fold (stepped thread) n rest ≡ 0) → fold (stepped thread) n (replicate (f name) (end_of name) ++ rest) ≡ 0
    go (inl same) absent later =
        let is : thread ≡ name = (bytes_eq-Decides thread name).0 same in
        fold-append (stepped thread) n (replicate (f name) (end_of name)) rest
        ∙ ap (λ m. fold (stepped thread) m rest) (ap (λ t. fold (stepped thread) n (replicate (f t) (end_of t))) (sym is) ∙ ended_one thread (f thread) n few)
        ∙ all_closed f thread names
    go (inr differ) absent later =
        fold-append (stepped thread) n (replicate (f name) (end_of name)) rest
        ∙ ap (λ m. fold (stepped thread) m rest) (other_stays thread name (f name) n differ)
        ∙ later (λ none. absent (ap (λ b. b || list_any (bytes_eq thread) names) differ ∙ none))

named_none_open : (events : List Named) (thread : List ℕ) → open_of (named_in_all events) thread ≡ 0
named_none_open events thread =
    let ended = ended_named [] events in
    open_blocks_is (named_in_all events) thread
    ∙ fold-append (stepped thread) 0 ended (flat_map (ends_for (open_of ended)) (tables_of ended).threads)
    ∙ ap (λ n. fold (stepped thread) n (flat_map (ends_for (open_of ended)) (tables_of ended).threads)) (sym (open_blocks_is ended thread))
    ∙ closed_in_all (open_of ended) thread (tables_of ended).threads (open_of ended thread) (omega arith) (open_blocks_none ended thread)

pub none_open : (events : List (ℕ × Named)) (line : ℕ) (thread : List ℕ) → open_of (without_lines (all_ended events line)) thread ≡ 0
none_open events line thread = ap (λ es. open_of es thread) (all_without events line) ∙ named_none_open (without_lines events) thread

-- ends of a thread that is named already name nothing new

flat_map_both : {X Y : Type 0} (f : X → List Y) (xs ys : List X) → flat_map f (xs ++ ys) ≡ flat_map f xs ++ flat_map f ys
flat_map_both f [] ys = refl
flat_map_both f (x ∷ xs) ys = ap (λ l. f x ++ l) (flat_map_both f xs ys) ∙ sym (append_assoc (f x) (flat_map f xs) (flat_map f ys))

threads_with_ends : (names : List (List ℕ)) (thread : List ℕ) (k : ℕ) (b : List Named) → list_any (bytes_eq thread) names ≡ true →
    fold with_name names (flat_map threads_named (replicate k (end_of thread) ++ b)) ≡ fold with_name names (flat_map threads_named b)
threads_with_ends names thread zero b there = refl
threads_with_ends names thread (suc k) b there =
    ap (λ c. fold with_name (cond c names (names ++ thread ∷ [])) (flat_map threads_named (replicate k (end_of thread) ++ b))) there
    ∙ threads_with_ends names thread k b there

nothing_with_ends : (named : Named → List (List ℕ)) (thread : List ℕ) → named (end_of thread) ≡ [] → (k : ℕ) (b : List Named) → flat_map named (replicate k (end_of thread) ++ b) ≡ flat_map named b
nothing_with_ends named thread none zero b = refl
nothing_with_ends named thread none (suc k) b = ap (λ l. l ++ flat_map named (replicate k (end_of thread) ++ b)) none ∙ nothing_with_ends named thread none k b

tables_with_ends : (a : List Named) (thread : List ℕ) (k : ℕ) (b : List Named) → list_any (bytes_eq thread) (tables_of a).threads ≡ true → tables_of (a ++ (replicate k (end_of thread) ++ b)) ≡ tables_of (a ++ b)
tables_with_ends a thread k b there =
    let ends = replicate k (end_of thread) in
    let threads : different_names (flat_map threads_named (a ++ (ends ++ b))) ≡ different_names (flat_map threads_named (a ++ b)) =
    ap different_names (flat_map_both threads_named a (ends ++ b)) ∙ fold-append with_name [] (flat_map threads_named a) (flat_map threads_named (ends ++ b))
    ∙ threads_with_ends (different_names (flat_map threads_named a)) thread k b there
    ∙ sym (ap different_names (flat_map_both threads_named a b) ∙ fold-append with_name [] (flat_map threads_named a) (flat_map threads_named b)) in
    let others = λ (named : Named → List (List ℕ)) (none : named (end_of thread) ≡ []).
    ap different_names (flat_map_both named a (ends ++ b) ∙ ap (λ l. flat_map named a ++ l) (nothing_with_ends named thread none k b) ∙ sym (flat_map_both named a b)) in
    ap₂ (λ ts vs. record { threads = ts; variables = vs; locks = different_names (flat_map locks_named (a ++ (ends ++ b))) }) threads (others variables_named refl)
    ∙ ap (λ ls. record { threads = different_names (flat_map threads_named (a ++ b)); variables = different_names (flat_map variables_named (a ++ b)); locks = ls }) (others locks_named refl)

-- the same where the thread has as many ends as blocks are open
tables_with_open : (a : List Named) (thread : List ℕ) (b : List Named) → tables_of (a ++ (replicate (open_of a thread) (end_of thread) ++ b)) ≡ tables_of (a ++ b)
tables_with_open a thread b = elim (cases_Bool (list_any (bytes_eq thread) (tables_of a).threads)) [
  | inl there ↦ tables_with_ends a thread (open_of a thread) b there
  | inr none ↦ ap (λ n. tables_of (a ++ (replicate n (end_of thread) ++ b))) (open_blocks_none a thread none)
]

-- what is behind the ends before an event
with_ends_is : (before : List Named) (e : Named) (more : List Named) → (before ++ ends_named before e ++ e ∷ []) ++ more ≡ before ++ (ends_named before e ++ e ∷ more)
with_ends_is before e more = append_assoc (before ++ ends_named before e) (e ∷ []) more ∙ append_assoc before (ends_named before e) (e ∷ more)

tables_with_named : (before : List Named) (e : Named) (more : List Named) → tables_of (before ++ (ends_named before e ++ e ∷ more)) ≡ tables_of (before ++ e ∷ more)
tables_with_named before e more = go (joins_another e)
  where
    go : (b : Bool) → tables_of (before ++ ((if b then replicate (open_of before (target_of e)) (end_of (target_of e)) else []) ++ e ∷ more)) ≡ tables_of (before ++ e ∷ more)
    go true = tables_with_open before (target_of e) (e ∷ more)
    go false = refl

tables_ended : (before events : List Named) → tables_of (before ++ ended_named before events) ≡ tables_of (before ++ events)
tables_ended before [] = refl
tables_ended before (e ∷ more) =
    let next = before ++ ends_named before e ++ e ∷ [] in
    ap tables_of (sym (with_ends_is before e (ended_named next more)))
    ∙ tables_ended next more ∙ ap tables_of (with_ends_is before e more) ∙ tables_with_named before e more

-- every name of a list is listed
abbrev AreAmong : List (List ℕ) → List (List ℕ) → Type 0
AreAmong all [] = Unit {0}
AreAmong all (name ∷ names) = (list_any (bytes_eq name) all ≡ true) × AreAmong all names

among_more : (x : List ℕ) (all names : List (List ℕ)) → AreAmong all names → AreAmong (x ∷ all) names
among_more x all [] are = tt
among_more x all (name ∷ names) are = (or_right (bytes_eq name x) (list_any (bytes_eq name) all) are.0, among_more x all names are.1)

among_all : (names : List (List ℕ)) → AreAmong names names
among_all [] = tt
among_all (name ∷ names) = (or_left (bytes_eq name name) (list_any (bytes_eq name) names) ((bytes_eq-Decides name name).1 refl), among_more name names names (among_all names))

tables_at_end : (f : List ℕ → ℕ) (a : List Named) (names : List (List ℕ)) → AreAmong (tables_of a).threads names → tables_of (a ++ flat_map (ends_for f) names) ≡ tables_of a
tables_at_end f a [] are = ap tables_of (append-nil a)
tables_at_end f a (name ∷ names) are =
    let ends = replicate (f name) (end_of name) in
    let same : tables_of (a ++ ends) ≡ tables_of a = ap (λ l. tables_of (a ++ l)) (sym (append-nil ends)) ∙ tables_with_ends a name (f name) [] are.0 ∙ ap tables_of (append-nil a) in
    ap tables_of (sym (append_assoc a ends (flat_map (ends_for f) names)))
    ∙ tables_at_end f (a ++ ends) names (subst (λ (T : Tables). AreAmong T.threads names) (sym same) are.1) ∙ same

tables_in_all : (events : List Named) → tables_of (named_in_all events) ≡ tables_of events
tables_in_all events =
    let ended = ended_named [] events in
    tables_at_end (open_of ended) ended (tables_of ended).threads (among_all (tables_of ended).threads) ∙ tables_ended [] events

-- under given tables and labels, the ends take no cycle away

-- an element that a front has
any_within : {X : Type 0} (p : X → Bool) (xs : List X) (i n : ℕ) (x : X) → i < n → slice_get xs i ≡ Some x → p x ≡ true → list_any p (take n xs) ≡ true
any_within p xs i zero x l at passes = absurd (omega (arith, l))
any_within p [] i (suc n) x l at passes = absurd (cc)
any_within p (y ∷ ys) zero (suc n) x l at passes = or_left (p y) (list_any p (take n ys)) (ap p (same_Some y x at) ∙ passes)
any_within p (y ∷ ys) (suc i) (suc n) x l at passes = or_right (p y) (list_any p (take n ys)) (any_within p ys i n x (omega (arith, l)) at passes)

-- no event of these is of the thread with this number
abbrev NoneBy : Tables → ℕ → List Named → Type 0
NoneBy T u [] = Unit {0}
NoneBy T u (x ∷ xs) = (number_of T.threads x.thread ≡ u → ⊥) × NoneBy T u xs

none_back : (T : Tables) (u : ℕ) (xs ys : List Named) → NoneBy T u (xs ++ ys) → NoneBy T u ys
none_back T u [] ys none = none
none_back T u (x ∷ xs) ys none = none_back T u xs ys none.1

none_of_named : (T : Tables) (u : ℕ) (before events : List Named) → NoneBy T u (ended_named before events) → NoneBy T u events
none_of_named T u before [] none = tt
none_of_named T u before (e ∷ more) none =
    let rest = none_back T u (ends_named before e) (e ∷ ended_named (before ++ ends_named before e ++ e ∷ []) more) none in
    (rest.0, none_of_named T u (before ++ ends_named before e ++ e ∷ []) more rest.1)

-- a thread that was joined does nothing after that
module _ (T : Tables) (front : List Named) (e : Named) (back : List Named) (u : ℕ) (joins : (numbered T e).what ≡ Join u) (well : IsWellFormed (map (numbered T) (front ++ e ∷ back))) where
  abbrev joined_trace : List Numbered
  joined_trace = map (numbered T) (front ++ e ∷ back)

  join_at : slice_get joined_trace (length front) ≡ Some (numbered T e)
  join_at =
      ap (λ l. slice_get l (length front)) (map-append (numbered T) front (e ∷ back))
      ∙ ap (slice_get (map (numbered T) front ++ numbered T e ∷ map (numbered T) back)) (sym (length-map front (numbered T)))
      ∙ get_new (map (numbered T) front) (map (numbered T) back) (numbered T e)

  not_later : (x : Named) (n : ℕ) → length front < n → slice_get joined_trace n ≡ Some (numbered T x) → number_of T.threads x.thread ≡ u → ⊥
  not_later x n later at same =
      let joined : was_joined (take n joined_trace) (number_of T.threads x.thread) ≡ true =
      any_within (λ (c : Numbered). is_join_of (number_of T.threads x.thread) c.what) joined_trace (length front) n (numbered T e) later join_at
      (ap (is_join_of (number_of T.threads x.thread)) joins ∙ eq-eqb (number_of T.threads x.thread) u same) in
      let told : shape_fault (take n joined_trace) (numbered T x) ≡ Some ThreadJoined =
      ap (λ b. if b then Some ThreadJoined else deed_fault (take n joined_trace) (numbered T x).thread (numbered T x).what) joined in
      let none : shape_fault (take n joined_trace) (numbered T x) ≡ None = well n (numbered T x) at in
      cc

  none_left : (rest passed : List Named) → passed ++ rest ≡ back → NoneBy T u rest
  none_left [] passed is = tt
  none_left (x ∷ rest) passed is =
      let whole : joined_trace ≡ map (numbered T) (front ++ e ∷ passed) ++ numbered T x ∷ map (numbered T) rest =
      ap (λ l. map (numbered T) (front ++ e ∷ l)) (sym is)
      ∙ ap (map (numbered T)) (sym (append_assoc front (e ∷ passed) (x ∷ rest)))
      ∙ map-append (numbered T) (front ++ e ∷ passed) (x ∷ rest) in
      let n : ℕ = length (map (numbered T) (front ++ e ∷ passed)) in
      let long : n ≡ length front + suc (length passed) = omega (arith, length-map (front ++ e ∷ passed) (numbered T), length-append front (e ∷ passed)) in (
        not_later x n (omega (arith, long)) (ap (λ l. slice_get l n) whole ∙ get_new (map (numbered T) (front ++ e ∷ passed)) (map (numbered T) rest) (numbered T x)),
        none_left rest (passed ++ x ∷ []) (append_assoc passed (x ∷ []) rest ∙ is),
      )

  none_after : NoneBy T u back
  none_after = none_left back [] refl

-- nor does a thread join itself
not_itself : (T : Tables) (front : List Named) (e : Named) (back : List Named) (u : ℕ) → (numbered T e).what ≡ Join u → IsWellFormed (map (numbered T) (front ++ e ∷ back)) → number_of T.threads e.thread ≡ u → ⊥
not_itself T front e back u joins well same =
    let trace : List Numbered = map (numbered T) (front ++ e ∷ back) in
    let n : ℕ = length (map (numbered T) front) in
    let at : slice_get trace n ≡ Some (numbered T e) =
    ap (λ l. slice_get l n) (map-append (numbered T) front (e ∷ back)) ∙ get_new (map (numbered T) front) (map (numbered T) back) (numbered T e) in
    let none : shape_fault (take n trace) (numbered T e) ≡ None = well n (numbered T e) at in
    let deed : deed_fault (take n trace) (number_of T.threads e.thread) (numbered T e).what ≡ Some JoinSelf =
    ap (deed_fault (take n trace) (number_of T.threads e.thread)) joins ∙ ap (λ b. if b then Some JoinSelf else None) (eq-eqb u (number_of T.threads e.thread) (sym same)) in
    go (take n trace) (number_of T.threads e.thread) (numbered T e).what (was_joined (take n trace) (number_of T.threads e.thread)) deed none
  where
    go : (before : List Numbered) (t : ℕ) (w : What) (b : Bool) → deed_fault before t w ≡ Some JoinSelf → (if b then Some ThreadJoined else deed_fault before t w) ≡ None → ⊥
    go before t w true deed none = cc
    go before t w false deed none = cc

module _ (listed : Listed) (T : Tables) where
  abbrev marks : List Named → List Marked
  marks events = map (marked listed T) events

  abbrev IsAcyclic : List Named → Type 0
  IsAcyclic events = IsSerializable (judged_trace (marks events)) (length events)

  none_marked : (u : ℕ) (xs : List Named) → NoneBy T u xs → NoneOf u (marks xs)
  none_marked u [] none = tt
  none_marked u (x ∷ xs) none = (none.0, none_marked u xs none.1)

  -- one event less, of a thread that does nothing after it
  without_one : (a : List Named) (e : Named) (b : List Named) → NoneBy T (number_of T.threads e.thread) b → IsAcyclic (a ++ e ∷ b) → IsAcyclic (a ++ b)
  without_one a e b none acyclic =
      let long : length (a ++ e ∷ b) ≡ suc (length (a ++ b)) = omega (arith, length-append a (e ∷ b), length-append a b) in
      let with_it : IsSerializable (judged_trace (marks a ++ marked listed T e ∷ marks b)) (suc (length (a ++ b))) =
      subst (λ n. IsSerializable (judged_trace (marks a ++ marked listed T e ∷ marks b)) n) long
      (subst (λ l. IsSerializable (judged_trace l) (length (a ++ e ∷ b))) (map-append (marked listed T) a (e ∷ b)) acyclic) in
      subst (λ l. IsSerializable (judged_trace l) (length (a ++ b))) (sym (map-append (marked listed T) a b))
      (none_without_it (marks a) (marked listed T e) (marks b) (none_marked (number_of T.threads e.thread) b none) (length (a ++ b)) with_it)

  -- several ends less
  without_ends : (thread : List ℕ) (k : ℕ) (a b : List Named) → NoneBy T (number_of T.threads thread) b → IsAcyclic (a ++ (replicate k (end_of thread) ++ b)) → IsAcyclic (a ++ b)
  without_ends thread zero a b none acyclic = acyclic
  without_ends thread (suc k) a b none acyclic =
      let e = end_of thread in
      let first : IsAcyclic ((a ++ e ∷ []) ++ (replicate k e ++ b)) = subst IsAcyclic (sym (append_assoc a (e ∷ []) (replicate k e ++ b))) acyclic in
      without_one a e b none (subst IsAcyclic (append_assoc a (e ∷ []) b) (without_ends thread k (a ++ e ∷ []) b none first))

  without_at_end : (f : List ℕ → ℕ) (a : List Named) (names : List (List ℕ)) → IsAcyclic (a ++ flat_map (ends_for f) names) → IsAcyclic a
  without_at_end f a [] acyclic = subst IsAcyclic (append-nil a) acyclic
  without_at_end f a (name ∷ names) acyclic =
      let ends = replicate (f name) (end_of name) in
      let rest : IsAcyclic (a ++ ends) = without_at_end f (a ++ ends) names (subst IsAcyclic (sym (append_assoc a ends (flat_map (ends_for f) names))) acyclic) in
      subst IsAcyclic (append-nil a) (without_ends name (f name) a [] tt (subst (λ l. IsAcyclic (a ++ l)) (sym (append-nil ends)) rest))

  -- the number of the thread that is joined
  join_what : (e : Named) → joins_another e ≡ true → (numbered T e).what ≡ Join (number_of T.threads (target_of e))
  join_what e joins = of_op e.op (and_parts (is_join e.op) (not (bytes_eq (target_of e) e.thread)) joins).0
    where
      of_op : (o : Op) → is_join o ≡ true → what_of T o (target_of e) ≡ Join (number_of T.threads (target_of e))
      of_op op.Join is = refl
      of_op _ is = absurd (cc)

  without_ended : (before events : List Named) → IsWellFormed (map (numbered T) (before ++ ended_named before events)) → IsAcyclic (before ++ ended_named before events) → IsAcyclic (before ++ events)
  without_ended before [] well acyclic = acyclic
  without_ended before (e ∷ more) well acyclic =
      let next = before ++ ends_named before e ++ e ∷ [] in
      let is = with_ends_is before e in
      let later : IsAcyclic (next ++ more) = without_ended next more
      (subst (λ l. IsWellFormed (map (numbered T) l)) (sym (is (ended_named next more))) well) (subst IsAcyclic (sym (is (ended_named next more))) acyclic) in
      go (joins_another e) refl (subst IsAcyclic (is more) later)
    where
      go : (b : Bool) → joins_another e ≡ b → IsAcyclic (before ++ ((if b then replicate (open_of before (target_of e)) (end_of (target_of e)) else []) ++ e ∷ more)) → IsAcyclic (before ++ e ∷ more)
      go false joins later = later
      go true joins later =
          let u : ℕ = number_of T.threads (target_of e) in
          let what = join_what e joins in
          let rest = ended_named (before ++ ends_named before e ++ e ∷ []) more in
          let well_at : IsWellFormed (map (numbered T) ((before ++ ends_named before e) ++ e ∷ rest)) =
          subst (λ l. IsWellFormed (map (numbered T) l)) (sym (append_assoc before (ends_named before e) (e ∷ rest))) well in
          let after : NoneBy T u more = none_of_named T u (before ++ ends_named before e ++ e ∷ []) more (none_after T (before ++ ends_named before e) e rest u what well_at) in
          without_ends (target_of e) (open_of before (target_of e)) before (e ∷ more) (not_itself T (before ++ ends_named before e) e rest u what well_at, after) later

-- every block has ended behind all of them

read_marks : (listed : Listed) (T : Tables) (events : List Named) → read_events (map (marked listed T) events) ≡ map (numbered T) events
read_marks listed T [] = refl
read_marks listed T (e ∷ events) = ap (λ l. numbered T e ∷ l) (read_marks listed T events)

-- the event at a place of a judged trace is of a thread with a name
named_at : (T : Tables) (events : List Named) (i t : ℕ) → option_map (λ (e : Numbered). e.thread) (slice_get (map (numbered T) events) i) ≡ Some t → (name : List ℕ) × (number_of T.threads name ≡ t)
named_at T [] i t at = absurd (cc)
named_at T (e ∷ events) zero t at = (e.thread, same_Some (number_of T.threads e.thread) t at)
named_at T (e ∷ events) (suc i) t at = named_at T events i t at

module _ (listed : Listed) (events : List Named) (none : (thread : List ℕ) → open_of events thread ≡ 0) where
  abbrev trace : List Numbered
  trace = judged_trace (marked_trace listed events)

  long : length trace ≡ length events
  long = judged_length (marked_trace listed events) ∙ length-map events (marked listed (tables_of events))

  shallow : (name : List ℕ) → depth trace (number_of (tables_of events).threads name) (length events) ≡ 0
  shallow name =
      let marks = marked_trace listed events in
      let t : ℕ = number_of (tables_of events).threads name in
      let marks_long : length marks ≡ length events = length-map events (marked listed (tables_of events)) in
      let nested : nest marks t (length marks) ≡ 0 = ap (nest marks t) marks_long ∙ ap (λ l. depth l t (length events)) (read_marks listed (tables_of events) events) ∙ none name in
      ap (depth trace t) (sym marks_long) ∙ judged_depth marks t ∙ ap (count_below (λ level. not (is_latest_exempt marks t level (length marks)))) nested

  all_have_ended : (x : Transaction) → Occurs trace (length events) x → HasEnded trace (length events) x
  all_have_ended (Unary p) occurs = tt
  all_have_ended (Block t k) (i, l, e) =
      let h = in_block trace i t k e in
      let thread_is : option_map (λ (e : Numbered). e.thread) (slice_get (map (numbered (tables_of events)) events) i) ≡ Some t =
      ap (λ l. option_map (λ (e : Numbered). e.thread) (slice_get l i)) (sym (read_marks listed (tables_of events) events))
      ∙ sym (judged_threads (marked_trace listed events) i) ∙ ap (option_map (λ (e : Numbered). e.thread)) h.event_at ∙ ap Some h.thread in
      let name = named_at (tables_of events) events i t thread_is in
      elim (ended_or_open trace t i (length events) k h l) [
        | inl ended ↦ ended
        | inr o ↦ absurd (omega (arith, o.0, subst (λ u. depth trace u (length events) ≡ 0) name.1 (shallow name.0)))
      ]

-- a front of a well-formed trace is well-formed
well_formed_front : (xs ys : List Numbered) → IsWellFormed (xs ++ ys) → IsWellFormed xs
well_formed_front xs ys well n e at =
    let l : n < length xs = slice_get_within xs n e at in
    ap (λ f. shape_fault f e) (sym (take_front xs ys n (omega (arith, l)))) ∙ well n e (get_front xs ys n l ∙ at)
  where
    take_front : {X : Type 0} (xs ys : List X) (n : ℕ) → n ≤ length xs → take n (xs ++ ys) ≡ take n xs
    take_front xs ys zero l = refl
    take_front [] ys (suc n) l = absurd (omega arith)
    take_front (x ∷ xs) ys (suc n) l = ap (λ zs. x ∷ zs) (take_front xs ys n (omega (arith, l)))

named_acyclic : (listed : Listed) (events : List Named) → IsWellFormed (trace_of (named_in_all events)) → ¬ HasTellingCycle (judged_trace (marked_trace listed (named_in_all events))) (length (named_in_all events))
    → IsSerializable (judged_trace (marked_trace listed events)) (length events)
named_acyclic listed events well none =
    let ended = ended_named [] events in
    let all = named_in_all events in
    let T : Tables = tables_of events in
    let same : tables_of all ≡ T = tables_in_all events in
    let acyclic_all : IsSerializable (judged_trace (marked_trace listed all)) (length all) =
    serializable_where_ended (judged_trace (marked_trace listed all)) (length all) (all_have_ended listed all (named_none_open events)) none in
    let acyclic : IsAcyclic listed T all = subst (λ (t : Tables). IsSerializable (judged_trace (map (marked listed t) all)) (length all)) same acyclic_all in
    let well_all : IsWellFormed (map (numbered T) all) = subst (λ (t : Tables). IsWellFormed (map (numbered t) all)) same well in
    let ends = flat_map (ends_for (open_of ended)) (tables_of ended).threads in
    let well_ended : IsWellFormed (map (numbered T) ended) = well_formed_front (map (numbered T) ended) (map (numbered T) ends) (subst IsWellFormed (map-append (numbered T) ended ends) well_all) in
    without_ended listed T [] events well_ended (without_at_end listed T (open_of ended) ended (tables_of ended).threads acyclic)

pub ended_acyclic : (listed : Listed) (events : List (ℕ × Named)) (line : ℕ) → IsWellFormed (trace_of (without_lines (all_ended events line)))
    → ¬ HasTellingCycle (judged_trace (marked_trace listed (without_lines (all_ended events line)))) (length (all_ended events line))
    → IsSerializable (judged_trace (marked_trace listed (without_lines events))) (length events)
ended_acyclic listed events line well none =
    let is = all_without events line in
    let long : length (all_ended events line) ≡ length (without_lines (all_ended events line)) = sym (length-map (all_ended events line) (λ x. x.1)) in
    let own : length (without_lines events) ≡ length events = length-map events (λ x. x.1) in
    let none_named : ¬ HasTellingCycle (judged_trace (marked_trace listed (named_in_all (without_lines events)))) (length (named_in_all (without_lines events))) =
    subst (λ l. ¬ HasTellingCycle (judged_trace (marked_trace listed l)) (length l)) is
    (subst (λ n. ¬ HasTellingCycle (judged_trace (marked_trace listed (without_lines (all_ended events line)))) n) long none) in
    subst (λ n. IsSerializable (judged_trace (marked_trace listed (without_lines events))) n) own
    (named_acyclic listed (without_lines events) (subst (λ l. IsWellFormed (trace_of l)) is well) none_named)
