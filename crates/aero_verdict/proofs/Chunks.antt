-- What is open of a chunk's threads, event by event, and the ends that come before a join.
use Rattle.std.proofs.Common.{◌≡◌, ℕ, zero, suc, ◌+◌, ◌<◌, ◌≤◌, ◌==◌, ◌⊎◌, nat_le, not, Bool, true, false, cond, if◌then◌else◌, List, [], ◌∷◌, ◌++◌, length, take, map, fold, flat_map, replicate, Option, Some, None, inl, inr, refl, sym, ◌∙◌, ap, ap₂, subst, arith, add-one, append_assoc, append-nil, get_or}
use Rattle.std.specs.Prelude.{bytes_eq, slice_get, slice_index_or, unwrap_or, All}
use Rattle.std.specs.List.{list_any}
use Rattle.std.proofs.lemmas.Bool.{cases_Bool, cases_eq, cond-true, cond-false, eq-eqb, ne_eqb, le-leb, lt-leb}
use Rattle.std.proofs.lemmas.List.{map-append, length-map}
use Rattle.std.proofs.lemmas.List.Elements.{filter-append, All-append, All-cons, All-nil, All-replicate}
use Rattle.std.proofs.lemmas.List.Sums.{fold-append}
use Rattle.std.proofs.lemmas.Option.{same_Some, slice_get-get_or, slice_get_within, unwrap_or-slice_get}
use Rattle.std.proofs.lemmas.Slice.Eq.{bytes_eq-Decides}
use Rattle.aero_model.specs.declared.numbered.Numbered.{Numbered}
use Rattle.aero_model.specs.declared.numbered.What.{What}
use Rattle.aero_model.specs.declared.numbered.What.TheVariants.{Read, Write, Acquire, Release, Fork, Join, Begin, End, Exempt}
use Rattle.aero_model.specs.Blocks.{depth}
use Rattle.aero_model.specs.Ended.{end_of, ended_after, ends_before, ends_of, open_of, without_lines}
use Rattle.aero_model.specs.Exempt.{Listed, Marked, nest, marked, marked_trace}
use Rattle.aero_model.specs.Named.{Named}
use Rattle.aero_model.specs.Numbering.{Tables, number_of, tables_of, threads_named, trace_of, with_name}
use Rattle.aero_model.proofs.Ended.{ended_one, other_stays}
use Rattle.aero_model.proofs.Exempt.{read_marked}
use Rattle.aero_model.proofs.NamedDepths.{open_blocks_is, stepped, then_open}
use Rattle.aero_grammar.specs.Tabled.{line_in, lines_in, name_at, named_in, op_of}
use Rattle.aero_names.specs.Indexed.{AreDistinct}
use Rattle.aero_names.proofs.Listings.{distinct_pushed, number_found}
use Rattle.aero_shape.specs.States as shapes
use Rattle.aero_shape.specs.Standing.{StandsFor}
use Rattle.aero_verdict.specs.declared.numbering.Numbering.{Numbering}
use Rattle.aero_verdict.specs.Limited.{names_in}
use Rattle.aero_verdict.specs.Ending.{AreOpen, AreEnded, IsFrom, IsWithin, JoinsWithin, an_end, blocks_after, ends_for, joined_by, joined_what}
use Rattle.aero_verdict.specs.Standing.{up_to}
use Rattle.aero_verdict.proofs.Ending.{ended_append}
use Rattle.aero_verdict.proofs.Steps.{take_pushed}

-- no name stands twice in a table

distinct_more : (names more : List (List ℕ)) → AreDistinct names → AreDistinct (fold with_name names more)
distinct_more names [] once = once
distinct_more names (name ∷ more) once = distinct_more (with_name names name) more (go (cases_Bool (list_any (bytes_eq name) names)))
  where
    go : (list_any (bytes_eq name) names ≡ true) ⊎ (list_any (bytes_eq name) names ≡ false) → AreDistinct (with_name names name)
    go (inl there) = subst AreDistinct (sym (cond-true (list_any (bytes_eq name) names) names (names ++ name ∷ []) there)) once
    go (inr new) = subst AreDistinct (sym (cond-false (list_any (bytes_eq name) names) names (names ++ name ∷ []) new)) (distinct_pushed names name new once)

pub distinct_threads : (tables : Tables) (events : List Named) → tables ≡ tables_of events → AreDistinct tables.threads
distinct_threads tables events are =
    subst (λ (t : Tables). AreDistinct t.threads) (sym are) (distinct_more [] (flat_map threads_named events) (λ i j name at there. absurd (cc)))

name_there : (names : List (List ℕ)) (n : ℕ) → n < length names → slice_get names n ≡ Some (name_at names n)
name_there names n less = slice_get-get_or names n [] less ∙ ap Some (sym (unwrap_or-slice_get names n []))

same_name : (names : List (List ℕ)) → AreDistinct names → (i j : ℕ) → i < length names → j < length names → bytes_eq (name_at names i) (name_at names j) ≡ (i == j)
same_name names distinct i j within_i within_j = elim (cases_eq i j) [
  | inl same ↦ ap (λ k. bytes_eq (name_at names i) (name_at names k)) (sym same) ∙ (bytes_eq-Decides (name_at names i) (name_at names i)).1 refl ∙ sym (eq-eqb i j same)
  | inr other ↦ differ other (cases_Bool (bytes_eq (name_at names i) (name_at names j)))
]
  where
    differ : (i ≡ j → ⊥) → (bytes_eq (name_at names i) (name_at names j) ≡ true) ⊎ (bytes_eq (name_at names i) (name_at names j) ≡ false) → bytes_eq (name_at names i) (name_at names j) ≡ (i == j)
    differ other (inl equal) =
        absurd (other (distinct i j (name_at names i) (name_there names i within_i) (name_there names j within_j ∙ ap Some (sym ((bytes_eq-Decides (name_at names i) (name_at names j)).0 equal)))))
    differ other (inr not_equal) = not_equal ∙ sym (ne_eqb i j other)

-- one name more
pub told_more : (f : List ℕ → ℕ) (names : List (List ℕ)) (n : ℕ) → n < length names → map f (take (suc n) names) ≡ map f (take n names) ++ f (name_at names n) ∷ []
told_more f [] n less = absurd (omega (arith, less))
told_more f (name ∷ names) zero less = refl
told_more f (name ∷ names) (suc n) less = ap (λ ns. f name ∷ ns) (told_more f names n (omega (arith, less)))

told_for : (f : List ℕ → ℕ) (names : List (List ℕ)) (n : ℕ) → n < length names → slice_index_or (map f names) n 0 ≡ f (name_at names n)
told_for f [] n less = absurd (omega (arith, less))
told_for f (name ∷ names) zero less = refl
told_for f (name ∷ names) (suc n) less = told_for f names n (omega (arith, less))

pub are_open : (front : List Named) (names : List (List ℕ)) (counts : List ℕ) → counts ≡ map (open_of front) names → AreOpen front names counts
are_open front names counts is = record {
  length_is = ap (λ (ns : List ℕ). length ns) is ∙ length-map names (open_of front);
  each = λ n less. ap (λ (ns : List ℕ). slice_index_or ns n 0) is ∙ told_for (open_of front) names n less;
}

-- how many blocks are open of the thread with this number

pub open_by_number : (labels : Listed) (front : List Named) (names : List (List ℕ)) → names ≡ (tables_of front).threads → (t : ℕ) (name : List ℕ) → slice_get names t ≡ Some name →
    nest (marked_trace labels front) t (length (marked_trace labels front)) ≡ open_of front name
open_by_number labels front names are t name at =
    let T : Tables = tables_of front in
    let number : t ≡ number_of T.threads name =
    number_found (record { names = T.threads; limit = 0 }) name t (distinct_threads T front refl) (ap (λ ns. slice_get ns t) (sym are) ∙ at) in
    ap (λ es. depth es t (length (marked_trace labels front))) (read_marked labels front)
    ∙ ap (depth (trace_of front) t) (length-map front (marked labels T))
    ∙ ap (λ u. depth (trace_of front) u (length front)) number

-- after more events

open_more : (front more : List Named) (thread : List ℕ) → open_of (front ++ more) thread ≡ fold (stepped thread) (open_of front thread) more
open_more front more thread =
    open_blocks_is (front ++ more) thread ∙ fold-append (stepped thread) 0 front more ∙ ap (λ n. fold (stepped thread) n more) (sym (open_blocks_is front thread))

then_after : (w : What) (n : ℕ) → then_open (op_of w) n ≡ blocks_after w n
then_after (Read x) n = refl
then_after (Write x) n = refl
then_after (Acquire l) n = refl
then_after (Release l) n = refl
then_after (Fork u) n = refl
then_after (Join u) n = refl
then_after (Begin label) n = refl
then_after End n = refl
then_after Exempt n = refl

ends_named : (T : Tables) (L : List (List ℕ)) (k line u : ℕ) → lines_in T L (replicate k (line, an_end u)) ≡ replicate k (line, end_of (name_at T.threads u))
ends_named T L zero line u = refl
ends_named T L (suc k) line u = ap (λ es. (line, end_of (name_at T.threads u)) ∷ es) (ends_named T L k line u)

ends_alone : (T : Tables) (L : List (List ℕ)) (k line u : ℕ) → without_lines (lines_in T L (replicate k (line, an_end u))) ≡ replicate k (end_of (name_at T.threads u))
ends_alone T L zero line u = refl
ends_alone T L (suc k) line u = ap (λ es. end_of (name_at T.threads u) ∷ es) (ends_alone T L k line u)

module _ (T : Tables) (L : List (List ℕ)) (distinct : AreDistinct T.threads) where
  abbrev name : ℕ → List ℕ
  name n = name_at T.threads n

  module _ (front : List Named) (counts : List ℕ) (are : AreOpen front T.threads counts) where
    -- the ends before an event
    ends_told : (line : ℕ) (e : Numbered) → IsWithin (length T.threads) e → ends_before front (line_in T L (line, e)) ≡ lines_in T L (ends_for counts line (joined_by e))
    ends_told line e within = of_what e.what within.1
      where
        of_join : (u : ℕ) → u < length T.threads → (b : Bool) →
            (if not b then replicate (open_of front (name u)) (line, end_of (name u)) else []) ≡ lines_in T L (ends_for counts line (if b then None else Some u))
        of_join u less true = refl
        of_join u less false = ap (λ k. replicate k (line, end_of (name u))) (sym (are.each u less)) ∙ sym (ends_named T L (slice_index_or counts u 0) line u)

        of_what : (w : What) → JoinsWithin (length T.threads) w →
            ends_before front (line_in T L (line, record { thread = e.thread; what = w })) ≡ lines_in T L (ends_for counts line (joined_what e.thread w))
        of_what (Join u) less =
            ap (λ b. if not b then replicate (open_of front (name u)) (line, end_of (name u)) else []) (same_name T.threads distinct u e.thread less within.0)
            ∙ of_join u less (u == e.thread)
        of_what (Read x) less = refl
        of_what (Write x) less = refl
        of_what (Acquire l) less = refl
        of_what (Release l) less = refl
        of_what (Fork u) less = refl
        of_what (Begin label) less = refl
        of_what End less = refl
        of_what Exempt less = refl

    -- what is open after them
    ended_here : (u n : ℕ) → u < length T.threads → n < length T.threads →
        open_of (front ++ replicate (slice_index_or counts u 0) (end_of (name u))) (name n) ≡ (if u == n then 0 else slice_index_or counts n 0)
    ended_here u n less_u less_n =
        let k = slice_index_or counts u 0 in
        open_more front (replicate k (end_of (name u))) (name n)
        ∙ elim (cases_eq u n) [
          | inl same ↦
              ap (λ m. fold (stepped (name m)) (open_of front (name m)) (replicate k (end_of (name u)))) (sym same)
              ∙ ended_one (name u) k (open_of front (name u)) (omega (arith, are.each u less_u))
              ∙ sym (cond-true (u == n) 0 (slice_index_or counts n 0) (eq-eqb u n same))
          | inr other ↦
              other_stays (name n) (name u) k (open_of front (name n)) (same_name T.threads distinct n u less_n less_u ∙ ne_eqb n u (λ e. other (sym e)))
              ∙ sym (are.each n less_n)
              ∙ sym (cond-false (u == n) 0 (slice_index_or counts n 0) (ne_eqb u n other))
        ]

    open_ended : (new : List ℕ) (line : ℕ) (o : Option ℕ) → ((u : ℕ) → o ≡ Some u → u < length T.threads) → AreEnded counts new o → length new ≡ length counts →
        AreOpen (front ++ without_lines (lines_in T L (ends_for counts line o))) T.threads new
    open_ended new line None inside ended long = record {
      length_is = long ∙ are.length_is;
      each = λ n less. ended n ∙ are.each n less ∙ ap (λ es. open_of es (name n)) (sym (append-nil front));
    }
    open_ended new line (Some u) inside ended long =
        let less_u = inside u refl in
        record {
          length_is = long ∙ are.length_is;
          each = λ n less.
              ended (omega (arith, less_u, are.length_is)) n
              ∙ sym (ended_here u n less_u less)
              ∙ ap (λ es. open_of (front ++ es) (name n)) (sym (ends_alone T L (slice_index_or counts u 0) line u));
        }

    -- and after the event itself
    open_counted : (new : List ℕ) (e : Numbered) → e.thread < length T.threads →
        ((n : ℕ) → slice_index_or new n 0 ≡ (if e.thread == n then blocks_after e.what (slice_index_or counts e.thread 0) else slice_index_or counts n 0)) → length new ≡ length counts →
        AreOpen (front ++ named_in T L e ∷ []) T.threads new
    open_counted new e within put long = record {
      length_is = long ∙ are.length_is;
      each = λ n less.
          put n
          ∙ elim (cases_eq e.thread n) [
            | inl same ↦
                cond-true (e.thread == n) (blocks_after e.what (slice_index_or counts e.thread 0)) (slice_index_or counts n 0) (eq-eqb e.thread n same)
                ∙ ap (blocks_after e.what) (are.each e.thread within)
                ∙ sym (then_after e.what (open_of front (name e.thread)))
                ∙ ap (λ m. then_open (op_of e.what) (open_of front (name m))) same
                ∙ sym (ap (λ b. cond b (then_open (op_of e.what) (open_of front (name n))) (open_of front (name n))) (same_name T.threads distinct n e.thread less within ∙ eq-eqb n e.thread (sym same)))
            | inr other ↦
                cond-false (e.thread == n) (blocks_after e.what (slice_index_or counts e.thread 0)) (slice_index_or counts n 0) (ne_eqb e.thread n other)
                ∙ are.each n less
                ∙ sym (ap (λ b. cond b (then_open (op_of e.what) (open_of front (name n))) (open_of front (name n))) (same_name T.threads distinct n e.thread less within ∙ ne_eqb n e.thread (λ q. other (sym q))))
          ]
          ∙ sym (open_more front (named_in T L e ∷ []) (name n));
    }

-- the first i events of a chunk with the ends between them, and what is open then
pub record EndsSoFar (start : List ℕ) (events : List (ℕ × Numbered)) (most i : ℕ) (ended : List (ℕ × Numbered)) (counts : List ℕ) : Type 0 where
  pub long : length counts ≡ length start
  pub each : All (λ (e : ℕ × Numbered). IsWithin (length start) e.1) events → All (IsFrom (length start) events) ended
  pub named : (T : Tables) (L : List (List ℕ)) (front : List Named) → AreDistinct T.threads → AreOpen front T.threads start → All (λ (e : ℕ × Numbered). IsWithin (length T.threads) e.1) events →
      (lines_in T L ended ≡ ended_after front (up_to most (lines_in T L (take i events)))) × AreOpen (front ++ without_lines (lines_in T L ended)) T.threads counts

pub ends_at_first : (start : List ℕ) (events : List (ℕ × Numbered)) (most : ℕ) → EndsSoFar start events most 0 [] start
ends_at_first start events most = record {
  long = refl;
  each = λ within. All-nil (IsFrom (length start) events);
  named = λ T L front distinct are within. (refl, subst (λ es. AreOpen es T.threads start) (sym (append-nil front)) are);
}

joined_inside : (n : ℕ) (e : Numbered) → IsWithin n e → (u : ℕ) → joined_by e ≡ Some u → u < n
joined_inside n e within u is = of_what e.what within.1 is
  where
    of_join : (v : ℕ) (b : Bool) → v < n → (if b then None else Some v) ≡ Some u → u < n
    of_join v true less is = absurd (cc)
    of_join v false less is = subst (λ m. m < n) (let same = is in cc) less

    of_what : (w : What) → JoinsWithin n w → joined_what e.thread w ≡ Some u → u < n
    of_what (Join v) less is = of_join v (v == e.thread) less is
    of_what (Read x) less is = absurd (cc)
    of_what (Write x) less is = absurd (cc)
    of_what (Acquire l) less is = absurd (cc)
    of_what (Release l) less is = absurd (cc)
    of_what (Fork v) less is = absurd (cc)
    of_what (Begin label) less is = absurd (cc)
    of_what End less is = absurd (cc)
    of_what Exempt less is = absurd (cc)

module _ (start : List ℕ) (events : List (ℕ × Numbered)) (most i : ℕ) (ended : List (ℕ × Numbered)) (counts : List ℕ) (so_far : EndsSoFar start events most i ended counts) (less : i < length events) (item d : ℕ × Numbered) (is : item ≡ get_or events i d) where
  item_at : slice_get events i ≡ Some item
  item_at = slice_get-get_or events i d less ∙ ap Some (sym is)

  front_next : take (i + 1) events ≡ take i events ++ item ∷ []
  front_next = ap (λ k. take k events) (add-one i) ∙ take_pushed events i item item_at

  lines_next : (T : Tables) (L : List (List ℕ)) → lines_in T L (take (i + 1) events) ≡ lines_in T L (take i events) ++ line_in T L item ∷ []
  lines_next T L = ap (lines_in T L) front_next ∙ map-append (line_in T L) (take i events) (item ∷ [])

  -- an event on a line that doesn't count
  pub ends_passed : most < item.0 → EndsSoFar start events most (i + 1) ended counts
  ends_passed beyond = record {
    long = so_far.long;
    each = so_far.each;
    named = λ T L front distinct are within.
        (let was = so_far.named T L front distinct are within in
        let same : up_to most (lines_in T L (take (i + 1) events)) ≡ up_to most (lines_in T L (take i events)) =
        ap (up_to most) (lines_next T L)
        ∙ filter-append (λ e. nat_le e.0 most) (lines_in T L (take i events)) (line_in T L item ∷ [])
        ∙ ap (λ es. up_to most (lines_in T L (take i events)) ++ es) (cond-false (nat_le item.0 most) (line_in T L item ∷ []) [] (lt-leb item.0 most beyond))
        ∙ append-nil (up_to most (lines_in T L (take i events))) in
        (was.0 ∙ ap (ended_after front) (sym same), was.1));
  }

  -- one more that does
  module _ (counts_so : item.0 ≤ most) (more : List (ℕ × Numbered)) (more_is : more ≡ (ended ++ ends_for counts item.0 (joined_by item.1)) ++ item ∷ []) (mid new : List ℕ)
      (mid_is : AreEnded counts mid (joined_by item.1)) (mid_long : length mid ≡ length counts)
      (put : item.1.thread < length mid → (n : ℕ) → slice_index_or new n 0 ≡ (if item.1.thread == n then blocks_after item.1.what (slice_index_or mid item.1.thread 0) else slice_index_or mid n 0))
      (new_long : length new ≡ length mid) where
    within_at : (n : ℕ) → All (λ (e : ℕ × Numbered). IsWithin n e.1) events → IsWithin n item.1
    within_at n all = subst (λ (e : ℕ × Numbered). IsWithin n e.1) (sym is) (all i d less)

    all_from : All (λ (e : ℕ × Numbered). IsWithin (length start) e.1) events → All (IsFrom (length start) events) more
    all_from within =
        subst (All (IsFrom (length start) events)) (sym more_is)
        (All-append (IsFrom (length start) events) (ended ++ ends_for counts item.0 (joined_by item.1)) (item ∷ [])
        (All-append (IsFrom (length start) events) ended (ends_for counts item.0 (joined_by item.1)) (so_far.each within) (of_ends (joined_by item.1) (joined_inside (length start) item.1 (within_at (length start) within))))
        (All-cons (IsFrom (length start) events) item [] (inl (i, item_at)) (All-nil (IsFrom (length start) events))))
      where
        of_ends : (o : Option ℕ) → ((u : ℕ) → o ≡ Some u → u < length start) → All (IsFrom (length start) events) (ends_for counts item.0 o)
        of_ends None inside = All-nil (IsFrom (length start) events)
        of_ends (Some u) inside = All-replicate (IsFrom (length start) events) (slice_index_or counts u 0) (item.0, an_end u) (inr (refl, inside u refl))

    next_named : (T : Tables) (L : List (List ℕ)) (front : List Named) → AreDistinct T.threads → AreOpen front T.threads start → All (λ (e : ℕ × Numbered). IsWithin (length T.threads) e.1) events →
        (lines_in T L more ≡ ended_after front (up_to most (lines_in T L (take (i + 1) events)))) × AreOpen (front ++ without_lines (lines_in T L more)) T.threads new
    next_named T L front distinct are within =
        let was = so_far.named T L front distinct are within in
        let inside : IsWithin (length T.threads) item.1 = within_at (length T.threads) within in
        let x : ℕ × Named = line_in T L item in
        let own = up_to most (lines_in T L (take i events)) in
        let before : List Named = front ++ without_lines (lines_in T L ended) in
        let ends : List (ℕ × Named) = lines_in T L (ends_for counts item.0 (joined_by item.1)) in
        let here : lines_in T L more ≡ (lines_in T L ended ++ ends) ++ x ∷ [] =
        ap (lines_in T L) more_is ∙ map-append (line_in T L) (ended ++ ends_for counts item.0 (joined_by item.1)) (item ∷ [])
        ∙ ap (λ es. es ++ x ∷ []) (map-append (line_in T L) ended (ends_for counts item.0 (joined_by item.1))) in
        let next : up_to most (lines_in T L (take (i + 1) events)) ≡ own ++ x ∷ [] =
        ap (up_to most) (lines_next T L)
        ∙ filter-append (λ e. nat_le e.0 most) (lines_in T L (take i events)) (x ∷ [])
        ∙ ap (λ es. own ++ es) (cond-true (nat_le item.0 most) (x ∷ []) [] (le-leb item.0 most counts_so)) in
        let told : ends_before before x ≡ ends = ends_told T L distinct before counts was.1 item.0 item.1 inside in
        let after : ended_after front (own ++ x ∷ []) ≡ (lines_in T L ended ++ ends) ++ x ∷ [] =
        ended_append front own (x ∷ [])
        ∙ ap (λ es. es ++ ended_after (front ++ without_lines es) (x ∷ [])) (sym was.0)
        ∙ ap (λ es. lines_in T L ended ++ (es ++ x ∷ [])) told
        ∙ sym (append_assoc (lines_in T L ended) ends (x ∷ [])) in
        let open_mid : AreOpen (before ++ without_lines ends) T.threads mid =
        open_ended T L distinct before counts was.1 mid item.0 (joined_by item.1) (joined_inside (length T.threads) item.1 inside) mid_is mid_long in
        let open_new : AreOpen ((before ++ without_lines ends) ++ x.1 ∷ []) T.threads new =
        open_counted T L distinct (before ++ without_lines ends) mid open_mid new item.1 inside.0 (put (omega (arith, inside.0, open_mid.length_is))) new_long in
        let names : without_lines (lines_in T L more) ≡ (without_lines (lines_in T L ended) ++ without_lines ends) ++ x.1 ∷ [] =
        ap without_lines here ∙ map-append (λ (e : ℕ × Named). e.1) (lines_in T L ended ++ ends) (x ∷ [])
        ∙ ap (λ es. es ++ x.1 ∷ []) (map-append (λ (e : ℕ × Named). e.1) (lines_in T L ended) ends) in
        let whole : (before ++ without_lines ends) ++ x.1 ∷ [] ≡ front ++ without_lines (lines_in T L more) =
        ap (λ es. es ++ x.1 ∷ []) (append_assoc front (without_lines (lines_in T L ended)) (without_lines ends))
        ∙ append_assoc front (without_lines (lines_in T L ended) ++ without_lines ends) (x.1 ∷ [])
        ∙ ap (λ es. front ++ es) (sym names) in (
          here ∙ sym (ap (ended_after front) next ∙ after),
          subst (λ es. AreOpen es T.threads new) whole open_new,
        )

    pub ends_more : EndsSoFar start events most (i + 1) more new
    ends_more = record { long = new_long ∙ mid_long ∙ so_far.long; each = all_from; named = next_named }

-- the names of the first n threads, and the ends of their open blocks
pub record LastSoFar (numbering : Numbering) (shape : shapes.Tables) (n : ℕ) (names : List (List ℕ)) (ends : List (ℕ × Numbered)) : Type 0 where
  pub names_are : names ≡ take n numbering.threads.names
  pub each : All (IsFrom (length numbering.threads.names) []) ends
  pub named : (labels : Listed) (front : List Named) → names_in numbering ≡ tables_of front → StandsFor shape (marked_trace labels front) →
      lines_in (record { threads = numbering.threads.names; variables = []; locks = [] }) [] ends ≡ flat_map (ends_of front 1) (take n numbering.threads.names)

pub last_at_first : (numbering : Numbering) (shape : shapes.Tables) → LastSoFar numbering shape 0 [] []
last_at_first numbering shape = record {
  names_are = take_none numbering.threads.names;
  each = All-nil (IsFrom (length numbering.threads.names) []);
  named = λ labels front names stands. ap (flat_map (ends_of front 1)) (take_none numbering.threads.names);
}
  where
    take_none : (xs : List (List ℕ)) → [] ≡ take 0 xs
    take_none [] = refl
    take_none (x ∷ xs) = refl

flat_map_more : {X Y : Type 0} (f : X → List Y) (xs : List X) (x : X) → flat_map f (xs ++ x ∷ []) ≡ flat_map f xs ++ f x
flat_map_more f [] x = append-nil (f x)
flat_map_more f (y ∷ xs) x = ap (λ l. f y ++ l) (flat_map_more f xs x) ∙ sym (append_assoc (f y) (flat_map f xs) (f x))

pub last_more : (numbering : Numbering) (shape : shapes.Tables) (n : ℕ) (names more : List (List ℕ)) (ends later : List (ℕ × Numbered)) (name : List ℕ) (blocks : ℕ) →
    LastSoFar numbering shape n names ends → slice_get numbering.threads.names n ≡ Some name → ((h : List Marked) → StandsFor shape h → blocks ≡ nest h n (length h)) →
    more ≡ names ++ name ∷ [] → later ≡ ends ++ replicate blocks (1, an_end n) → LastSoFar numbering shape (n + 1) more later
last_more numbering shape n names more ends later name blocks so_far at told more_is later_is =
    let all = numbering.threads.names in
    let next : take (n + 1) all ≡ take n all ++ name ∷ [] = ap (λ k. take k all) (add-one n) ∙ take_named all n name at in
    let less : n < length all = slice_get_within all n name at in
    let T : Tables = record { threads = all; variables = []; locks = [] } in
    let here : name_at all n ≡ name = ap (λ o. unwrap_or o []) at in
    record {
      names_are = more_is ∙ ap (λ ns. ns ++ name ∷ []) so_far.names_are ∙ sym next;
      each =
          subst (All (IsFrom (length all) [])) (sym later_is)
          (All-append (IsFrom (length all) []) ends (replicate blocks (1, an_end n)) so_far.each (All-replicate (IsFrom (length all) []) blocks (1, an_end n) (inr (refl, less))));
      named = λ labels front names_are stands.
          (let count : blocks ≡ open_of front name = told (marked_trace labels front) stands ∙ open_by_number labels front all (ap (λ (t : Tables). t.threads) names_are) n name at in
          ap (lines_in T []) later_is ∙ map-append (line_in T []) ends (replicate blocks (1, an_end n))
          ∙ ap₂ (λ es fs. es ++ fs) (so_far.named labels front names_are stands)
          (ends_named T [] blocks 1 n ∙ ap₂ (λ k m. replicate k (1, end_of m)) count here)
          ∙ sym (flat_map_more (ends_of front 1) (take n all) name)
          ∙ ap (flat_map (ends_of front 1)) (sym next));
    }
  where
    take_named : (xs : List (List ℕ)) (k : ℕ) (x : List ℕ) → slice_get xs k ≡ Some x → take (suc k) xs ≡ take k xs ++ x ∷ []
    take_named [] k x there = absurd (cc)
    take_named (y ∷ xs) zero x there = ap (λ z. z ∷ []) (same_Some y x there)
    take_named (y ∷ xs) (suc k) x there = ap (λ l. y ∷ l) (take_named xs k x there)
