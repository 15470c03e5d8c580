-- The number of a thread's open blocks, counted by names, event by event.
use Rattle.std.proofs.Common.{◌≡◌, ◌+◌, ◌-◌, ◌<◌, ◌≤◌, ◌==◌, ◌&&◌, ◌||◌, ◌⊎◌, ℕ, zero, suc, Bool, true, false, cond, not, if◌then◌else◌, List, [], ◌∷◌, ◌++◌, length, take, map, fold, flat_map, Option, Some, None, option_map, inl, inr, refl, sym, ◌∙◌, ap, ap₂, subst, arith}
use Rattle.std.specs.Prelude.{bytes_eq, slice_get, unwrap_or}
use Rattle.std.specs.List.{list_any}
use Rattle.std.proofs.lemmas.Bool.{cases_Bool, cond-true, cond-false, eq-eqb, ne_eqb, or_parts, or_left, or_right}
use Rattle.std.proofs.lemmas.List.{append_assoc, append-nil}
use Rattle.std.proofs.lemmas.List.Folds.{list_any-append}
use Rattle.std.proofs.lemmas.List.Sums.{fold-append}
use Rattle.std.proofs.lemmas.Option.{slice_get-map, slice_get_within, same_Some}
use Rattle.std.proofs.lemmas.Slice.Eq.{bytes_eq-Decides}
use Rattle.aero_model.specs.declared.event.Op.{Op}
use Rattle.aero_model.specs.declared.event.Op.TheVariants as op
use Rattle.aero_model.specs.Blocks.{is_begin, is_end, by_thread, depth}
use Rattle.aero_model.specs.Ended.{open_of}
use Rattle.aero_model.specs.Named.{Named}
use Rattle.aero_model.specs.Numbering.{Tables, with_name, number_of, tables_of, threads_named, thread_target, what_of, numbered}

-- how many blocks are open after the operation, if so many were before it
abbrev pub then_open : Op → ℕ → ℕ
then_open op.Begin n = n + 1
then_open op.End n = n - 1
then_open _ n = n

-- how many blocks of the thread are open behind one event more
abbrev pub stepped : List ℕ → ℕ → Named → ℕ
stepped thread n e = cond (bytes_eq thread e.thread) (then_open e.op n) n

abbrev pub nested : List ℕ → List Named → ℕ
nested thread events = fold (stepped thread) 0 events

-- lists of names

equal_itself : (name : List ℕ) → bytes_eq name name ≡ true
equal_itself name = (bytes_eq-Decides name name).1 refl

still_passes : (p : List ℕ → Bool) (names more : List (List ℕ)) → list_any p names ≡ true → list_any p (fold with_name names more) ≡ true
still_passes p names [] some = some
still_passes p names (name ∷ more) some = still_passes p (with_name names name) more (go (list_any (bytes_eq name) names))
  where
    go : (b : Bool) → list_any p (cond b names (names ++ name ∷ [])) ≡ true
    go true = some
    go false = list_any-append p names (name ∷ []) ∙ or_left (list_any p names) (list_any p (name ∷ [])) some

pub has_name : (names : List (List ℕ)) (name : List ℕ) → list_any (bytes_eq name) (with_name names name) ≡ true
has_name names name = go (list_any (bytes_eq name) names) refl
  where
    go : (b : Bool) → list_any (bytes_eq name) names ≡ b → list_any (bytes_eq name) (cond b names (names ++ name ∷ [])) ≡ true
    go true is = is
    go false is =
        list_any-append (bytes_eq name) names (name ∷ [])
        ∙ or_right (list_any (bytes_eq name) names) (list_any (bytes_eq name) (name ∷ [])) (or_left (bytes_eq name name) false (equal_itself name))

still_has_name : (names more : List (List ℕ)) (name : List ℕ) → list_any (bytes_eq name) (fold with_name (with_name names name) more) ≡ true
still_has_name names more name = still_passes (bytes_eq name) (with_name names name) more (has_name names name)

-- a listed name stands at its number
listed_place : (names : List (List ℕ)) (name : List ℕ) → list_any (bytes_eq name) names ≡ true → slice_get names (number_of names name) ≡ Some name
listed_place [] name is = cc
listed_place (first ∷ names) name is = go (bytes_eq name first) refl is (listed_place names name)
  where
    go : (b : Bool) → bytes_eq name first ≡ b → (b || list_any (bytes_eq name) names) ≡ true →
        (list_any (bytes_eq name) names ≡ true → slice_get names (number_of names name) ≡ Some name) → slice_get (first ∷ names) (cond (not b) (1 + number_of names name) 0) ≡ Some name
    go true same is later = ap Some (sym ((bytes_eq-Decides name first).0 same))
    go false other is later =
        let next : 1 + number_of names name ≡ suc (number_of names name) = omega arith in
        ap (slice_get (first ∷ names)) next ∙ later is

-- a name that isn't listed has the number behind all of them
unlisted_number : (names : List (List ℕ)) (name : List ℕ) → list_any (bytes_eq name) names ≡ false → number_of names name ≡ length names
unlisted_number [] name none = refl
unlisted_number (first ∷ names) name none =
    let parts = or_parts (bytes_eq name first) (list_any (bytes_eq name) names) none in
    let next : 1 + length names ≡ suc (length names) = omega arith in
    ap (λ b. cond (not b) (1 + number_of names name) 0) parts.0 ∙ ap (λ n. 1 + n) (unlisted_number names name parts.1) ∙ next

listed_by_number : (names : List (List ℕ)) (a b : List ℕ) → list_any (bytes_eq a) names ≡ true → number_of names a ≡ number_of names b → list_any (bytes_eq b) names ≡ true
listed_by_number names a b there is = go (cases_Bool (list_any (bytes_eq b) names))
  where
    go : (list_any (bytes_eq b) names ≡ true) ⊎ (list_any (bytes_eq b) names ≡ false) → list_any (bytes_eq b) names ≡ true
    go (inl listed) = listed
    go (inr none) =
        let below : number_of names a < length names = slice_get_within names (number_of names a) a (listed_place names a there) in
        let past : number_of names b ≡ length names = unlisted_number names b none in
        absurd (omega (arith, below, past, is))

-- a listed name is known by its number
known_by_number : (names : List (List ℕ)) (a b : List ℕ) → list_any (bytes_eq a) names ≡ true → (number_of names a == number_of names b) ≡ bytes_eq b a
known_by_number names a b there = go (cases_Bool (bytes_eq b a))
  where
    other : bytes_eq b a ≡ false → number_of names a ≡ number_of names b → list_any (bytes_eq b) names ≡ true → ⊥
    other differ is listed =
        let same : a ≡ b = same_Some a b (sym (listed_place names a there) ∙ ap (slice_get names) is ∙ listed_place names b listed) in
        let yes : bytes_eq b a ≡ true = (bytes_eq-Decides b a).1 (sym same) in
        cc

    go : (bytes_eq b a ≡ true) ⊎ (bytes_eq b a ≡ false) → (number_of names a == number_of names b) ≡ bytes_eq b a
    go (inl same) = eq-eqb (number_of names a) (number_of names b) (ap (number_of names) (sym ((bytes_eq-Decides b a).0 same))) ∙ sym same
    go (inr differ) = ne_eqb (number_of names a) (number_of names b) (λ is. other differ is (listed_by_number names a b there is)) ∙ sym differ

-- places of a list

past_end : (events : List Named) (n : ℕ) → slice_get events n ≡ None → length events ≤ n
past_end [] n none = omega arith
past_end (e ∷ events) zero none = absurd (cc)
past_end (e ∷ events) (suc n) none = let later = past_end events n none in omega (arith, later)

take_here : (events : List Named) (n : ℕ) (e : Named) → slice_get events n ≡ Some e → take (suc n) events ≡ take n events ++ e ∷ []
take_here [] n e at = absurd (cc)
take_here (x ∷ events) zero e at = ap (λ y. y ∷ []) (same_Some x e at)
take_here (x ∷ events) (suc n) e at = ap (λ l. x ∷ l) (take_here events n e at)

take_whole : (events : List Named) → take (length events) events ≡ events
take_whole [] = refl
take_whole (e ∷ events) = ap (λ l. e ∷ l) (take_whole events)

-- the depth behind a place by the event there
step_at : (T : Tables) (o : Op) (target : List ℕ) (same : Bool) (n : ℕ) →
    (if same && is_begin (what_of T o target) then n + 1 else if same && is_end (what_of T o target) then n - 1 else n) ≡ cond same (then_open o n) n
step_at T op.Read target true n = refl
step_at T op.Write target true n = refl
step_at T op.Acquire target true n = refl
step_at T op.Release target true n = refl
step_at T op.Fork target true n = refl
step_at T op.Join target true n = refl
step_at T op.Begin target true n = refl
step_at T op.End target true n = refl
step_at T o target false n = refl

-- the threads of these events are listed in the tables
abbrev AreListed : List (List ℕ) → List Named → Type 0
AreListed names events = (k : ℕ) (e : Named) → slice_get events k ≡ Some e → list_any (bytes_eq e.thread) names ≡ true

-- the depth behind so many of the events, counted by names
depth_of_front : (T : Tables) (events : List Named) (thread : List ℕ) → AreListed T.threads events → (n : ℕ) → n ≤ length events →
    depth (map (numbered T) events) (number_of T.threads thread) n ≡ nested thread (take n events)
depth_of_front T events thread listed zero within = refl
depth_of_front T events thread listed (suc n) within = go (slice_get events n) refl (depth_of_front T events thread listed n (omega (arith, within)))
  where
    at : (e : Named) → slice_get events n ≡ Some e → slice_get (map (numbered T) events) n ≡ Some (numbered T e)
    at e is = slice_get-map (numbered T) events n ∙ ap (option_map (numbered T)) is

    go : (o : Option Named) → slice_get events n ≡ o → depth (map (numbered T) events) (number_of T.threads thread) n ≡ nested thread (take n events) →
        depth (map (numbered T) events) (number_of T.threads thread) (suc n) ≡ nested thread (take (suc n) events)
    go None is before = absurd (omega (arith, within, past_end events n is))
    go (Some e) is before =
        ap (λ o. if by_thread (number_of T.threads thread) is_begin o then depth (map (numbered T) events) (number_of T.threads thread) n + 1
        else if by_thread (number_of T.threads thread) is_end o then depth (map (numbered T) events) (number_of T.threads thread) n - 1
        else depth (map (numbered T) events) (number_of T.threads thread) n) (at e is)
        ∙ step_at T e.op (unwrap_or e.target []) (number_of T.threads e.thread == number_of T.threads thread) (depth (map (numbered T) events) (number_of T.threads thread) n)
        ∙ ap₂ (λ same d. cond same (then_open e.op d) d) (known_by_number T.threads e.thread thread (listed n e is)) before
        ∙ sym (fold-append (stepped thread) 0 (take n events) (e ∷ []))
        ∙ ap (nested thread) (sym (take_here events n e is))

-- each event's thread is among the threads of all
thread_listed : (before : List (List ℕ)) (events : List Named) (k : ℕ) (e : Named) → slice_get events k ≡ Some e → list_any (bytes_eq e.thread) (fold with_name before (flat_map threads_named events)) ≡ true
thread_listed before [] k e at = absurd (cc)
thread_listed before (x ∷ events) zero e at =
    let same : x ≡ e = same_Some x e at in
    subst (λ (y : Named). list_any (bytes_eq y.thread) (fold with_name before (flat_map threads_named (x ∷ events))) ≡ true) same
    (ap (list_any (bytes_eq x.thread)) (fold-append with_name before (threads_named x) (flat_map threads_named events))
    ∙ still_passes (bytes_eq x.thread) (fold with_name before (threads_named x)) (flat_map threads_named events) (still_has_name before (thread_target x.op x.target) x.thread))
thread_listed before (x ∷ events) (suc k) e at =
    ap (list_any (bytes_eq e.thread)) (fold-append with_name before (threads_named x) (flat_map threads_named events))
    ∙ thread_listed (fold with_name before (threads_named x)) events k e at

-- the number of a thread's open blocks, counted by names
pub open_blocks_is : (events : List Named) (thread : List ℕ) → open_of events thread ≡ nested thread events
open_blocks_is events thread =
    depth_of_front (tables_of events) events thread (thread_listed [] events) (length events) (omega arith)
    ∙ ap (nested thread) (take_whole events)

-- a thread that no event names has none

nested_none : (thread : List ℕ) (before : List (List ℕ)) (n : ℕ) (events : List Named) → list_any (bytes_eq thread) (fold with_name before (flat_map threads_named events)) ≡ false → fold (stepped thread) n events ≡ n
nested_none thread before n [] none = refl
nested_none thread before n (e ∷ events) none =
    let rest : list_any (bytes_eq thread) (fold with_name (fold with_name before (threads_named e)) (flat_map threads_named events)) ≡ false =
    sym (ap (list_any (bytes_eq thread)) (fold-append with_name before (threads_named e) (flat_map threads_named events))) ∙ none in
    ap (λ b. fold (stepped thread) (cond b (then_open e.op n) n) events) (other e (cases_Bool (bytes_eq thread e.thread)) rest) ∙ nested_none thread (fold with_name before (threads_named e)) n events rest
  where
    other : (e : Named) → (bytes_eq thread e.thread ≡ true) ⊎ (bytes_eq thread e.thread ≡ false) →
        list_any (bytes_eq thread) (fold with_name (fold with_name before (threads_named e)) (flat_map threads_named events)) ≡ false → bytes_eq thread e.thread ≡ false
    other e (inr differ) rest = differ
    other e (inl same) rest =
        let there : list_any (bytes_eq e.thread) (fold with_name (fold with_name before (threads_named e)) (flat_map threads_named events)) ≡ true =
        still_passes (bytes_eq e.thread) (fold with_name before (threads_named e)) (flat_map threads_named events) (still_has_name before (thread_target e.op e.target) e.thread) in
        let here = subst (λ (n : List ℕ). list_any (bytes_eq n) (fold with_name (fold with_name before (threads_named e)) (flat_map threads_named events)) ≡ true) (sym ((bytes_eq-Decides thread e.thread).0 same)) there in
        absurd (cc)

pub open_blocks_none : (events : List Named) (thread : List ℕ) → list_any (bytes_eq thread) (tables_of events).threads ≡ false → open_of events thread ≡ 0
open_blocks_none events thread none = open_blocks_is events thread ∙ nested_none thread [] 0 events none
