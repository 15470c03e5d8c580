-- One event more, of a thread that does nothing after it: it takes no cycle away.
use Rattle.std.proofs.Common.{◌≡◌, ◌≢◌, ◌⊎◌, ℕ, zero, suc, ◌+◌, ◌-◌, ◌<◌, ◌≤◌, ◌==◌, ◌&&◌, ◌||◌, nat_lt, Bool, true, false, cond, if◌then◌else◌, List, [], ◌∷◌, ◌++◌, length, map, Option, Some, None, inl, inr, refl, sym, ◌∙◌, ap, ap₂, subst, arith, append_assoc, append-nil, length-append}
use Rattle.std.specs.Prelude.{slice_get, option_map}
use Rattle.std.proofs.lemmas.Bool.{cases_eq, cases_lt, cond-true, cond-false, and_left, lt-ltb, le-ltb, ne_eqb}
use Rattle.std.proofs.lemmas.Option.{same_Some}
use Rattle.aero_model.specs.declared.numbered.Numbered.{Numbered}
use Rattle.aero_model.specs.declared.numbered.What.{What}
use Rattle.aero_model.specs.declared.numbered.What.TheVariants.{Read, Write, Acquire, Release, Fork, Join, Begin, End, Exempt}
use Rattle.aero_model.specs.Blocks.{is_begin, is_end, by_thread, depth, opens, blocks, Transaction, Block, Unary, of_event, transaction}
use Rattle.aero_model.specs.Cycle.{IsSerializable}
use Rattle.aero_model.specs.Exempt.{Marked, read_events, nest, is_marked, is_latest_exempt, ends_exempt, judged_what, judged, judged_after, judged_trace}
use Rattle.aero_model.specs.Graph.{Conflict, Edge, Edges, IsCycle, last_transaction}
use Rattle.aero_model.proofs.Exempt.{judged_length, nest_same, latest_same, read_at}
use Rattle.aero_model.proofs.Places.{in_unary}
use Rattle.aero_model.proofs.Stability.{Agree, depth_same, blocks_same, transaction_same}

-- places of a list with one element more behind its first ones

pub get_front : {X : Type 0} (xs ys : List X) (i : ℕ) → i < length xs → slice_get (xs ++ ys) i ≡ slice_get xs i
get_front [] ys i l = absurd (omega (arith, l))
get_front (x ∷ xs) ys zero l = refl
get_front (x ∷ xs) ys (suc i) l = get_front xs ys i (omega (arith, l))

pub get_new : {X : Type 0} (xs ys : List X) (y : X) → slice_get (xs ++ y ∷ ys) (length xs) ≡ Some y
get_new [] ys y = refl
get_new (x ∷ xs) ys y = get_new xs ys y

get_back : {X : Type 0} (xs ys : List X) (y : X) (i : ℕ) → length xs ≤ i → slice_get (xs ++ ys) i ≡ slice_get (xs ++ y ∷ ys) (suc i)
get_back [] ys y i l = refl
get_back (x ∷ xs) ys y zero l = absurd (omega (arith, l))
get_back (x ∷ xs) ys y (suc i) l = get_back xs ys y i (omega (arith, l))

-- where an element behind the first ones stands among the others
from_back : {X : Type 0} (xs ys : List X) (i : ℕ) → length xs ≤ i → (j : ℕ) × (slice_get (xs ++ ys) i ≡ slice_get ys j)
from_back [] ys i l = (i, refl)
from_back (x ∷ xs) ys zero l = absurd (omega (arith, l))
from_back (x ∷ xs) ys (suc i) l = from_back xs ys i (omega (arith, l))

-- an event of thread t stands at place k of the second trace, whose other events are those of the first one
pub record HasOneMore (old new : List Numbered) (t k : ℕ) : Type 0 where
  pub front : (i : ℕ) → i < k → slice_get old i ≡ slice_get new i
  pub back : (i : ℕ) → k ≤ i → slice_get old i ≡ slice_get new (suc i)
  pub added : Numbered
  pub added_at : slice_get new k ≡ Some added
  pub thread : added.thread ≡ t

module _ (old new : List Numbered) (t k : ℕ) (is : HasOneMore old new t k) where
  agree : Agree k old new
  agree = record { same = is.front }

  -- another thread does nothing at place k
  others : (u : ℕ) → (u ≡ t → ⊥) → (test : What → Bool) → by_thread u test (slice_get new k) ≡ false
  others u differ test = ap (by_thread u test) is.added_at ∙ and_left (is.added.thread == u) (test is.added.what) (ne_eqb is.added.thread u (λ e. differ (sym e ∙ is.thread)))

  depth_here : (u : ℕ) → (u ≡ t → ⊥) → depth new u (suc k) ≡ depth old u k
  depth_here u differ =
      cond-false (by_thread u is_begin (slice_get new k)) (depth new u k + 1) (if by_thread u is_end (slice_get new k) then depth new u k - 1 else depth new u k) (others u differ is_begin)
      ∙ cond-false (by_thread u is_end (slice_get new k)) (depth new u k - 1) (depth new u k) (others u differ is_end)
      ∙ sym (depth_same old new u k agree)

  -- another thread's depth
  depth_moved : (u : ℕ) → (u ≡ t → ⊥) → (i : ℕ) → k ≤ i → depth new u (suc i) ≡ depth old u i
  depth_moved u differ zero l = let e : k ≡ 0 = omega (arith, l) in subst (λ n. depth new u (suc n) ≡ depth old u n) e (depth_here u differ)
  depth_moved u differ (suc i) l = elim (cases_eq k (suc i)) [
    | inl e ↦ subst (λ n. depth new u (suc n) ≡ depth old u n) e (depth_here u differ)
    | inr d ↦
        let behind : k ≤ i = omega (arith, l, d) in
        ap₂ (λ e n. if by_thread u is_begin e then n + 1 else if by_thread u is_end e then n - 1 else n) (sym (is.back i behind)) (depth_moved u differ i behind)
  ]

  blocks_here : (u : ℕ) → (u ≡ t → ⊥) → blocks new u (suc k) ≡ blocks old u k
  blocks_here u differ =
      cond-false (opens new u k) (blocks new u k + 1) (blocks new u k) (and_left (by_thread u is_begin (slice_get new k)) (depth new u k == 0) (others u differ is_begin))
      ∙ sym (blocks_same k old new agree u k (omega arith))

  opens_moved : (u : ℕ) → (u ≡ t → ⊥) → (i : ℕ) → k ≤ i → opens new u (suc i) ≡ opens old u i
  opens_moved u differ i l = ap₂ (λ e n. by_thread u is_begin e && (n == 0)) (sym (is.back i l)) (depth_moved u differ i l)

  -- how many blocks of another thread have begun
  blocks_moved : (u : ℕ) → (u ≡ t → ⊥) → (i : ℕ) → k ≤ i → blocks new u (suc i) ≡ blocks old u i
  blocks_moved u differ zero l = let e : k ≡ 0 = omega (arith, l) in subst (λ n. blocks new u (suc n) ≡ blocks old u n) e (blocks_here u differ)
  blocks_moved u differ (suc i) l = elim (cases_eq k (suc i)) [
    | inl e ↦ subst (λ n. blocks new u (suc n) ≡ blocks old u n) e (blocks_here u differ)
    | inr d ↦
        let behind : k ≤ i = omega (arith, l, d) in
        ap₂ (λ b n. if b then n + 1 else n) (opens_moved u differ i behind) (blocks_moved u differ i behind)
  ]

  -- thread t does nothing behind place k
  module _ (last : (i : ℕ) (e : Numbered) → k ≤ i → slice_get old i ≡ Some e → e.thread ≡ t → ⊥) where
    -- the place that an event of the first trace has in the second one
    abbrev moved : ℕ → ℕ
    moved i = cond (nat_lt i k) i (suc i)

    moved_front : (i : ℕ) → i < k → moved i ≡ i
    moved_front i l = cond-true (nat_lt i k) i (suc i) (lt-ltb i k l)

    moved_back : (i : ℕ) → k ≤ i → moved i ≡ suc i
    moved_back i l = cond-false (nat_lt i k) i (suc i) (le-ltb i k l)

    moved_at : (i : ℕ) → slice_get new (moved i) ≡ slice_get old i
    moved_at i = elim (cases_lt i k) [
      | inl l ↦ ap (slice_get new) (moved_front i l) ∙ sym (is.front i l)
      | inr l ↦ ap (slice_get new) (moved_back i l) ∙ sym (is.back i l)
    ]

    moved_rises : (i j : ℕ) → i < j → moved i < moved j
    moved_rises i j l = elim (cases_lt i k) [
      | inl a ↦ elim (cases_lt j k) [ inl b ↦ omega (arith, l, moved_front i a, moved_front j b) | inr b ↦ omega (arith, l, moved_front i a, moved_back j b) ]
      | inr a ↦ elim (cases_lt j k) [ inl b ↦ absurd (omega (arith, a, b, l)) | inr b ↦ omega (arith, l, moved_back i a, moved_back j b) ]
    ]

    moved_within : (i n : ℕ) → i < n → moved i < suc n
    moved_within i n l = elim (cases_lt i k) [ inl a ↦ omega (arith, l, moved_front i a) | inr a ↦ omega (arith, l, moved_back i a) ]

    moved_apart : (i j : ℕ) → moved i ≡ moved j → i ≡ j
    moved_apart i j e = elim (cases_lt i j) [
      | inl l ↦ absurd (omega (arith, e, moved_rises i j l))
      | inr le ↦ elim (cases_lt j i) [ inl l ↦ absurd (omega (arith, e, moved_rises j i l)) | inr ge ↦ omega (arith, le, ge) ]
    ]

    -- a transaction of the first trace is one of the second
    abbrev same_one : Transaction → Transaction
    same_one (Block u n) = Block u n
    same_one (Unary p) = Unary (moved p)

    same_apart : (x y : Transaction) → same_one x ≡ same_one y → x ≡ y
    same_apart (Block u n) (Block v m) e = e
    same_apart (Block u n) (Unary p) e = absurd (cc)
    same_apart (Unary p) (Block v m) e = absurd (cc)
    same_apart (Unary p) (Unary q) e = let places : moved p ≡ moved q = cc in ap Unary (moved_apart p q places)

    one_behind : (i : ℕ) → k ≤ i → (o : Option Numbered) → slice_get old i ≡ o → of_event new (suc i) o ≡ same_one (of_event old i o)
    one_behind i l None at = ap Unary (sym (moved_back i l))
    one_behind i l (Some e) at =
        let differ : e.thread ≡ t → ⊥ = last i e l at in
        ap₂ (λ d n. cond (is_begin e.what || nat_lt 0 d) (Block e.thread n) (Unary (suc i))) (depth_moved e.thread differ i l) (blocks_moved e.thread differ (suc i) (omega (arith, l)))
        ∙ either (is_begin e.what || nat_lt 0 (depth old e.thread i))
      where
        either : (b : Bool) → cond b (Block e.thread (blocks old e.thread (suc i))) (Unary (suc i)) ≡ same_one (cond b (Block e.thread (blocks old e.thread (suc i))) (Unary i))
        either true = refl
        either false = ap Unary (sym (moved_back i l))

    one_in_front : (i : ℕ) → i < k → (x : Transaction) → transaction old i ≡ x → x ≡ same_one x
    one_in_front i l (Block u n) e = refl
    one_in_front i l (Unary p) e = ap Unary (sym (moved_front p (omega (arith, in_unary old i p e, l))))

    -- the transaction of a place
    transaction_moved : (i : ℕ) → transaction new (moved i) ≡ same_one (transaction old i)
    transaction_moved i = elim (cases_lt i k) [
      | inl l ↦ ap (transaction new) (moved_front i l) ∙ sym (transaction_same k old new agree i l) ∙ one_in_front i l (transaction old i) refl
      | inr l ↦ ap (transaction new) (moved_back i l) ∙ ap (of_event new (suc i)) (sym (is.back i l)) ∙ one_behind i l (slice_get old i) refl
    ]

    conflict_moved : (i j : ℕ) → Conflict old i j → Conflict new (moved i) (moved j)
    conflict_moved i j c = record {
      earlier = moved_rises i j c.earlier;
      first = c.first;
      first_at = moved_at i ∙ c.first_at;
      second = c.second;
      second_at = moved_at j ∙ c.second_at;
      conflict = c.conflict;
    }

    edge_moved : (n : ℕ) (x y : Transaction) → Edge old n x y → Edge new (suc n) (same_one x) (same_one y)
    edge_moved n x y e = record {
      apart = λ same. e.apart (same_apart x y same);
      from = moved e.from;
      from_in = transaction_moved e.from ∙ ap same_one e.from_in;
      to = moved e.to;
      to_in = transaction_moved e.to ∙ ap same_one e.to_in;
      within = moved_within e.to n e.within;
      conflict = conflict_moved e.from e.to e.conflict;
    }

    edges_moved : (n : ℕ) (x : Transaction) (ys : List Transaction) → Edges old n x ys → Edges new (suc n) (same_one x) (map same_one ys)
    edges_moved n x [] es = tt
    edges_moved n x (y ∷ ys) es = (edge_moved n x y es.0, edges_moved n y ys es.1)

    last_moved : (x : Transaction) (ys : List Transaction) → last_transaction (same_one x) (map same_one ys) ≡ same_one (last_transaction x ys)
    last_moved x [] = refl
    last_moved x (y ∷ ys) = last_moved y ys

    cycle_moved : (n : ℕ) (first : Transaction) (rest : List Transaction) → IsCycle old n first rest → IsCycle new (suc n) (same_one first) (map same_one rest)
    cycle_moved n first rest c = record {
      edges = edges_moved n first rest c.edges;
      closed = subst (λ x. Edge new (suc n) x (same_one first)) (sym (last_moved first rest)) (edge_moved n (last_transaction first rest) first c.closed);
    }

    -- if there is no cycle with the event, there is none without it
    pub none_without : (n : ℕ) → IsSerializable new (suc n) → IsSerializable old n
    none_without n none first rest c = none (same_one first) (map same_one rest) (cycle_moved n first rest c)

-- the same of what is judged

-- none of the events is of the thread
abbrev pub NoneOf : ℕ → List Marked → Type 0
NoneOf t [] = Unit {0}
NoneOf t (x ∷ xs) = (x.event.thread ≡ t → ⊥) × NoneOf t xs

none_judged : (t : ℕ) (before xs : List Marked) → NoneOf t xs → (i : ℕ) (e : Numbered) → slice_get (judged_after before xs) i ≡ Some e → e.thread ≡ t → ⊥
none_judged t before [] none i e at same = absurd (cc)
none_judged t before (x ∷ xs) none zero e at same = none.0 (ap (λ (c : Numbered). c.thread) (same_Some (judged before x) e at) ∙ same)
none_judged t before (x ∷ xs) none (suc i) e at same = none_judged t (before ++ x ∷ []) xs none.1 i e at same

pub judged_both : (before xs ys : List Marked) → judged_after before (xs ++ ys) ≡ judged_after before xs ++ judged_after (before ++ xs) ys
judged_both before [] ys = ap (λ b. judged_after b ys) (sym (append-nil before))
judged_both before (x ∷ xs) ys =
    ap (λ more. judged before x ∷ more) (judged_both (before ++ x ∷ []) xs ys ∙ ap (λ b. judged_after (before ++ x ∷ []) xs ++ judged_after b ys) (append_assoc before (x ∷ []) xs))

module _ (a : List Marked) (m : Marked) where
  -- after more events, the exempt ends of another thread are the same with the event and without it
  module _ (c : List Marked) (u : ℕ) (differ : u ≡ m.event.thread → ⊥) where
    abbrev without : List Marked
    without = a ++ c

    abbrev with_it : List Marked
    with_it = a ++ m ∷ c

    same_front : (i : ℕ) → i < length a → slice_get without i ≡ slice_get with_it i
    same_front i l = get_front a c i l ∙ sym (get_front a (m ∷ c) i l)

    read_more : HasOneMore (read_events without) (read_events with_it) m.event.thread (length a)
    read_more = record {
      front = λ i l. read_at without i ∙ ap (option_map (λ x. x.event)) (same_front i l) ∙ sym (read_at with_it i);
      back = λ i l. read_at without i ∙ ap (option_map (λ x. x.event)) (get_back a c m i l) ∙ sym (read_at with_it (suc i));
      added = m.event;
      added_at = read_at with_it (length a) ∙ ap (option_map (λ x. x.event)) (get_new a c m);
      thread = refl;
    }

    nest_moved : (i : ℕ) → length a ≤ i → nest with_it u (suc i) ≡ nest without u i
    nest_moved i l = depth_moved (read_events without) (read_events with_it) m.event.thread (length a) read_more u differ i l

    latest_here : (level : ℕ) → is_latest_exempt with_it u level (suc (length a)) ≡ is_latest_exempt without u level (length a)
    latest_here level =
        cond-false (by_thread u is_begin (slice_get (read_events with_it) (length a)) && (nest with_it u (length a) == level)) (is_marked (slice_get with_it (length a))) (is_latest_exempt with_it u level (length a))
        (and_left (by_thread u is_begin (slice_get (read_events with_it) (length a))) (nest with_it u (length a) == level)
        (others (read_events without) (read_events with_it) m.event.thread (length a) read_more u differ is_begin))
        ∙ sym (latest_same without with_it u level (length a) same_front)

    latest_moved : (level i : ℕ) → length a ≤ i → is_latest_exempt with_it u level (suc i) ≡ is_latest_exempt without u level i
    latest_moved level zero l = let e : length a ≡ 0 = omega (arith, l) in subst (λ n. is_latest_exempt with_it u level (suc n) ≡ is_latest_exempt without u level n) e (latest_here level)
    latest_moved level (suc i) l = elim (cases_eq (length a) (suc i)) [
      | inl e ↦ subst (λ n. is_latest_exempt with_it u level (suc n) ≡ is_latest_exempt without u level n) e (latest_here level)
      | inr d ↦
          let behind : length a ≤ i = omega (arith, l, d) in
          let test = ap₂ (λ e n. by_thread u is_begin e && (n == level)) (sym (read_more.back i behind)) (nest_moved i behind) in
          ap₂ (λ b o. if b then is_marked o else is_latest_exempt with_it u level (suc i)) test (sym (get_back a c m i behind))
          ∙ ap (λ r. if by_thread u is_begin (slice_get (read_events without) i) && (nest without u i == level) then is_marked (slice_get without i) else r) (latest_moved level i behind)
    ]

    lengths : length with_it ≡ suc (length without)
    lengths = omega (arith, length-append a (m ∷ c), length-append a c)

    pub ends_same : ends_exempt with_it u ≡ ends_exempt without u
    ends_same =
        let within : length a ≤ length without = omega (arith, length-append a c) in
        let level : nest with_it u (length with_it) ≡ nest without u (length without) = ap (nest with_it u) lengths ∙ nest_moved (length without) within in
        ap₂ (λ n l. nat_lt 0 n && is_latest_exempt with_it u (n - 1) l) level lengths
        ∙ ap (λ b. nat_lt 0 (nest without u (length without)) && b) (latest_moved (nest without u (length without) - 1) (length without) within)

  what_same : (c : List Marked) (u : ℕ) → (u ≡ m.event.thread → ⊥) → (exempt : Bool) (w : What) → judged_what (a ++ m ∷ c) u exempt w ≡ judged_what (a ++ c) u exempt w
  what_same c u differ exempt End = ap (λ b. if b then Exempt else End) (ends_same c u differ)
  what_same c u differ exempt _ = refl

  judged_same : (c xs : List Marked) → NoneOf m.event.thread xs → judged_after (a ++ m ∷ c) xs ≡ judged_after (a ++ c) xs
  judged_same c [] none = refl
  judged_same c (x ∷ xs) none =
      ap₂ (λ w more. record { thread = x.event.thread; what = w } ∷ more) (what_same c x.event.thread none.0 x.exempt x.event.what)
      (ap (λ b. judged_after b xs) (append_assoc a (m ∷ c) (x ∷ [])) ∙ judged_same (c ++ x ∷ []) xs none.1 ∙ ap (λ b. judged_after b xs) (sym (append_assoc a c (x ∷ []))))

  -- behind some events one more, of a thread that does nothing after it
  module _ (b : List Marked) (none : NoneOf m.event.thread b) where
    old_is : judged_trace (a ++ b) ≡ judged_trace a ++ judged_after a b
    old_is = judged_both [] a b

    new_is : judged_trace (a ++ m ∷ b) ≡ judged_trace a ++ judged a m ∷ judged_after a b
    new_is =
        judged_both [] a (m ∷ b)
        ∙ ap (λ more. judged_trace a ++ judged a m ∷ more) (judged_same [] b none ∙ ap (λ c. judged_after c b) (append-nil a))

    one_more : HasOneMore (judged_trace (a ++ b)) (judged_trace (a ++ m ∷ b)) m.event.thread (length a)
    one_more = let long = judged_length a in record {
      front = λ i l. ap (λ h. slice_get h i) old_is ∙ get_front (judged_trace a) (judged_after a b) i (omega (arith, l, long))
          ∙ sym (ap (λ h. slice_get h i) new_is ∙ get_front (judged_trace a) (judged a m ∷ judged_after a b) i (omega (arith, l, long)));
      back = λ i l. ap (λ h. slice_get h i) old_is ∙ get_back (judged_trace a) (judged_after a b) (judged a m) i (omega (arith, l, long)) ∙ sym (ap (λ h. slice_get h (suc i)) new_is);
      added = judged a m;
      added_at = ap (slice_get (judged_trace (a ++ m ∷ b))) (sym long) ∙ ap (λ h. slice_get h (length (judged_trace a))) new_is ∙ get_new (judged_trace a) (judged_after a b) (judged a m);
      thread = refl;
    }

    last : (i : ℕ) (e : Numbered) → length a ≤ i → slice_get (judged_trace (a ++ b)) i ≡ Some e → e.thread ≡ m.event.thread → ⊥
    last i e l at same =
        let long = judged_length a in
        let behind = from_back (judged_trace a) (judged_after a b) i (omega (arith, l, long)) in
        none_judged m.event.thread a b none behind.0 e (sym behind.1 ∙ sym (ap (λ h. slice_get h i) old_is) ∙ at) same

    pub none_without_it : (n : ℕ) → IsSerializable (judged_trace (a ++ m ∷ b)) (suc n) → IsSerializable (judged_trace (a ++ b)) n
    none_without_it n none_with = none_without (judged_trace (a ++ b)) (judged_trace (a ++ m ∷ b)) m.event.thread (length a) one_more last n none_with
