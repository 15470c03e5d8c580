-- The index after each step.
use Rattle.std.proofs.Common.{◌≡◌, ◌≢◌, ⊎_elim, ℕ, ◌+◌, ◌-◌, ◌<◌, ◌≤◌, List, [], ◌∷◌, ◌++◌, length, get_or, max, Option, Some, None, refl, sym, ap, ap₂, ◌∙◌, subst, arith, add-zero}
use Rattle.std.specs.Prelude.{◌==◌, ◌||◌, ◌&&◌, not, Bool, true, false, if◌then◌else◌, slice_get, slice_set, is_some}
use Rattle.std.proofs.lemmas.Bool.{cases_Bool, cases_eq, cases_lt, cond-true, cond-false, eq-eqb, ne_eqb}
use Rattle.std.proofs.lemmas.Option.{slice_get_cases}
use Rattle.aero_clock.specs.Numbers.{number_at}
use Rattle.aero_engine.specs.declared.slot.Slot.{Slot}
use Rattle.aero_engine.specs.declared.slot.Slot.TheVariants.{OfThread}
use Rattle.aero_engine.proofs.Written.{written, unwritten}
use Rattle.aero_access.specs.declared.kept.Kept.{Kept}
use Rattle.aero_access.specs.declared.thread.Thread.{Thread}
use Rattle.aero_access.specs.declared.table.Table.{Table}
use Rattle.aero_access.specs.declared.index.Led.{Led}
use Rattle.aero_access.specs.declared.index.Index.{Index}
use Rattle.aero_access.specs.LastClocks.{same_slot, kept_clock}
use Rattle.aero_access.specs.Threads.{thread_clock, thread_begin, thread_begins, AreSameThreads}
use Rattle.aero_access.specs.TableWords.{kept_of, labels_of, place_of, slot_clock, label_clock, JoinsSlot}
use Rattle.aero_access.specs.StateWords.{clock_in, state_in, slot_in, JoinsClock, HaveSameBlocks}
use Rattle.aero_access.specs.Heeds.{AreHeeded}
use Rattle.aero_access.specs.Led.{leads, times, led_at, block_number, has_thread, places_in, ListsSame, GainsThread, GainsLabel, MovesLabel, IsOfBegin}
use Rattle.aero_access.specs.Indexed.{open_number, CountsLabels, IsIndex, TakesOnly, KeepsLabels, OpensBlock, IsPast, KeepsItsClock}
use Rattle.aero_access.proofs.Visits.{leads_more}
use Rattle.aero_access.proofs.Labels.{clock_at_place, clock_set, clock_joined}
use Rattle.aero_access.proofs.SlotNumbers.{slot_thread, slot_label, label_kept, no_thread}
use Rattle.aero_access.proofs.KeptLists.{same_slot_is}
use Rattle.aero_access.proofs.Heeding.{kept_heeds, kept_slot}

pub keeps_nothing : (table : Table) (index : Index) → KeepsLabels table table index index
keeps_nothing table index = record { number = λ v. refl; threads = λ v s. refl; labels = λ h. h }

-- a slot is kept with a clock
pub keeps_set : (before after : Table) (old new : Index) (slot : Slot) (place : ℕ) (K : ℕ → ℕ) → place ≡ place_of before slot → ((v : ℕ) → MovesLabel (led_at old v) (led_at new v) place (kept_clock (kept_of before slot) v) (K v))
    → ((s : Slot) (u : ℕ) → kept_clock (kept_of after s) u ≡ (if same_slot s slot then K u else kept_clock (kept_of before s) u)) → labels_of after ≡ (if is_some (kept_of before slot) then labels_of before else labels_of before ++ slot ∷ [])
    → KeepsLabels before after old new
keeps_set before after old new slot place K is moves clock labels = record {
  number = λ v. (moves v).number;
  threads = λ v. (moves v).threads;
  labels = λ h v i. counted h v i;
}
  where
    clock_is : (i u : ℕ) → label_clock after i u ≡ (if i == place then K u else label_clock before i u)
    clock_is i u = clock_set before after slot K clock labels i u ∙ ap (λ p. if i == p then K u else label_clock before i u) (sym is)

    was : (v : ℕ) → kept_clock (kept_of before slot) v ≡ label_clock before place v
    was v = clock_at_place before slot v ∙ ap (λ p. label_clock before p v) (sym is)

    counted : CountsLabels before old → (v i : ℕ) → times i (places_in (led_at new v)) ≡ (if leads (block_number (led_at new v)) (label_clock after i v) then 1 else 0)
    counted h v i = ⊎_elim
        (λ (e : i ≡ place).
        ap (λ k. times k (places_in (led_at new v))) e ∙ (moves v).here (h v place ∙ ap (λ n. if leads (block_number (led_at old v)) n then 1 else 0) (sym (was v)))
        ∙ ap₂ (λ a b. if leads a b then 1 else 0) (sym (moves v).number) (sym (clock_is i v ∙ cond-true (i == place) _ _ (eq-eqb i place e))))
        (λ ne. (moves v).others i ne ∙ h v i ∙ ap₂ (λ a b. if leads a b then 1 else 0) (sym (moves v).number) (sym (clock_is i v ∙ cond-false (i == place) _ _ (ne_eqb i place ne))))
        (cases_eq i place)

or_more : (number m n : ℕ) → m ≤ n → (leads number m || leads number n) ≡ leads number n
or_more number m n le = go (leads number m) (leads number n) (leads_more number m n le)
  where
    go : (a b : Bool) → (a ≡ true → b ≡ true) → (a || b) ≡ b
    go true true f = refl
    go true false f = sym (f refl)
    go false b f = refl

open_same : (old new : List Thread) → HaveSameBlocks old new → (v : ℕ) → open_number (slice_get new v) ≡ open_number (slice_get old v)
open_same old new same v = ap₂ (λ a b. if a then b else 0) (ap is_some (same.begin v)) (same.begins v)

-- thread t has taken clocks, and is listed for each block that now leads to it
pub index_taken : (old new : List Thread) (before after : Table) (a b c : Index) (t : ℕ) → HaveSameBlocks old new → TakesOnly t old new → KeepsLabels before after a b → ((v : ℕ) → GainsThread (led_at b v) (led_at c v) t (thread_clock (slice_get new t) v)) → IsIndex old before a → IsIndex new after c
index_taken old new before after a b c t same takes keeps gains is = record { number = number; threads = threads; labels = labels }
  where
    still : (v : ℕ) → block_number (led_at c v) ≡ block_number (led_at a v)
    still v = (gains v).number ∙ keeps.number v

    number : (v : ℕ) → block_number (led_at c v) ≡ open_number (slice_get new v)
    number v = still v ∙ is.number v ∙ sym (open_same old new same v)

    was : (v s : ℕ) → has_thread (led_at b v) s ≡ leads (block_number (led_at b v)) (thread_clock (slice_get old s) v)
    was v s = keeps.threads v s ∙ is.threads v s ∙ ap (λ n. leads n (thread_clock (slice_get old s) v)) (sym (keeps.number v))

    threads : (v s : ℕ) → has_thread (led_at c v) s ≡ leads (block_number (led_at c v)) (thread_clock (slice_get new s) v)
    threads v s = (gains v).threads s ∙ ⊎_elim
        (λ (e : s ≡ t).
        cond-true (s == t) _ _ (eq-eqb s t e) ∙ ap (λ x. x || leads (block_number (led_at b v)) (thread_clock (slice_get new t) v)) (was v t)
        ∙ or_more (block_number (led_at b v)) (thread_clock (slice_get old t) v) (thread_clock (slice_get new t) v) (takes.grows v)
        ∙ ap₂ (λ n r. leads n (thread_clock (slice_get new r) v)) (sym (gains v).number) (sym e))
        (λ ne. cond-false (s == t) _ _ (ne_eqb s t ne) ∙ was v s ∙ ap₂ leads (sym (gains v).number) (sym (takes.clock s ne v)))
        (cases_eq s t)

    labels : CountsLabels after c
    labels v i = (gains v).labels i ∙ keeps.labels is.labels v i ∙ ap (λ n. if leads n (label_clock after i v) then 1 else 0) (sym (gains v).number)

-- a thread keeps its clock of a slot
pub index_kept : (all : List Thread) (before after : Table) (a b : Index) → KeepsLabels before after a b → IsIndex all before a → IsIndex all after b
index_kept all before after a b keeps is = record {
  number = λ v. keeps.number v ∙ is.number v;
  threads = λ v s. keeps.threads v s ∙ is.threads v s ∙ ap (λ n. leads n (thread_clock (slice_get all s) v)) (sym (keeps.number v));
  labels = keeps.labels is.labels;
}

-- what is kept of a slot is joined with a clock
pub keeps_joined : (before after : Table) (old new : Index) (slot : Slot) (place : ℕ) (W K : ℕ → ℕ) → slice_get (labels_of before) place ≡ Some slot → ((v : ℕ) → W v ≡ kept_clock (kept_of before slot) v) → ((v : ℕ) → GainsLabel (led_at old v) (led_at new v) place (W v) (K v)) → JoinsSlot before after slot K → KeepsLabels before after old new
keeps_joined before after old new slot place W K at was gains joins = record {
  number = λ v. (gains v).number;
  threads = λ v. (gains v).threads;
  labels = λ h v i. counted h v i;
}
  where
    cases : (n m k : ℕ) → (if leads n m then 1 else 0) + (if leads n k && not (leads n m) then 1 else 0) ≡ (if leads n (max m k) then 1 else 0)
    cases n m k = go (leads n m) (leads n k) (leads n (max m k)) (leads_more n m (max m k) (omega arith)) (leads_more n k (max m k) (omega arith)) (either_way n m k)
      where
        either_way : (n m k : ℕ) → leads n m ≡ false → leads n k ≡ false → leads n (max m k) ≡ false
        either_way n m k e f = ⊎_elim (λ (l : m < k). let z : max m k ≡ k = omega (arith, l) in ap (leads n) z ∙ f) (λ g. let z : max m k ≡ m = omega (arith, g) in ap (leads n) z ∙ e) (cases_lt m k)

        go : (x y z : Bool) → (x ≡ true → z ≡ true) → (y ≡ true → z ≡ true) → (x ≡ false → y ≡ false → z ≡ false) → (if x then 1 else 0) + (if y && not x then 1 else 0) ≡ (if z then 1 else 0)
        go true true z f g h = ap (λ b. if b then 1 else 0) (sym (f refl))
        go true false z f g h = ap (λ b. if b then 1 else 0) (sym (f refl))
        go false true z f g h = ap (λ b. if b then 1 else 0) (sym (g refl))
        go false false z f g h = ap (λ b. if b then 1 else 0) (sym (h refl refl))

    number : (v : ℕ) → ℕ
    number v = block_number (led_at old v)

    before_is : (v : ℕ) → W v ≡ label_clock before place v
    before_is v = was v ∙ sym (ap (λ o. slot_clock before o v) at)

    counted : CountsLabels before old → (v i : ℕ) → times i (places_in (led_at new v)) ≡ (if leads (block_number (led_at new v)) (label_clock after i v) then 1 else 0)
    counted h v i = (gains v).labels i ∙ ⊎_elim
        (λ (e : i ≡ place).
        ap (λ b. times i (places_in (led_at old v)) + (if b && (leads (block_number (led_at old v)) (K v) && not (leads (block_number (led_at old v)) (W v))) then 1 else 0)) (eq-eqb i place e)
        ∙ ap₂ (λ m w. m + (if leads (block_number (led_at old v)) (K v) && not (leads (block_number (led_at old v)) w) then 1 else 0)) (h v i ∙ ap (λ k. if leads (block_number (led_at old v)) (label_clock before k v) then 1 else 0) e) (before_is v)
        ∙ cases (block_number (led_at old v)) (label_clock before place v) (K v)
        ∙ ap₂ (λ a b. if leads a b then 1 else 0) (sym (gains v).number) (sym (clock_joined before after slot place K joins.clock joins.labels at i v ∙ cond-true (i == place) _ _ (eq-eqb i place e))))
        (λ ne.
        ap (λ b. times i (places_in (led_at old v)) + (if b && (leads (block_number (led_at old v)) (K v) && not (leads (block_number (led_at old v)) (W v))) then 1 else 0)) (ne_eqb i place ne)
        ∙ add-zero (times i (places_in (led_at old v))) ∙ h v i
        ∙ ap₂ (λ a b. if leads a b then 1 else 0) (sym (gains v).number) (sym (clock_joined before after slot place K joins.clock joins.labels at i v ∙ cond-false (i == place) _ _ (ne_eqb i place ne))))
        (cases_eq i place)

-- nothing that is asked of the index has changed
pub index_same : (old new : List Thread) (table : Table) (a b : Index) → ((v : ℕ) → open_number (slice_get new v) ≡ open_number (slice_get old v)) → ((s u : ℕ) → thread_clock (slice_get new s) u ≡ thread_clock (slice_get old s) u) → ((v : ℕ) → ListsSame (led_at a v) (led_at b v)) → IsIndex old table a → IsIndex new table b
index_same old new table a b opens clock lists is = record {
  number = λ v. (lists v).number ∙ is.number v ∙ sym (opens v);
  threads = λ v s. (lists v).threads s ∙ is.threads v s ∙ ap₂ leads (sym (lists v).number) (sym (clock s v));
  labels = λ v i. (lists v).labels i ∙ is.labels v i ∙ ap (λ n. if leads n (label_clock table i v) then 1 else 0) (sym (lists v).number);
}

pub index_reached : (old new : List Thread) (table : Table) (a b : Index) → AreSameThreads old new → ((v : ℕ) → ListsSame (led_at a v) (led_at b v)) → IsIndex old table a → IsIndex new table b
index_reached old new table a b same = index_same old new table a b (λ v. ap₂ (λ x y. if x then y else 0) (ap is_some (same.begin v)) (same.begins v)) same.clock

pub lists_itself : (o : Option Led) → ListsSame o o
lists_itself o = record { number = refl; threads = λ r. refl; labels = λ i. refl }

-- thread t's block ends
pub index_closed : (old new : List Thread) (table : Table) (a b : Index) (t : ℕ) → ((s u : ℕ) → thread_clock (slice_get new s) u ≡ thread_clock (slice_get old s) u) → ((v : ℕ) → v ≢ t → open_number (slice_get new v) ≡ open_number (slice_get old v)) → open_number (slice_get new t) ≡ 0
    → ListsSame None (led_at b t) → ((v : ℕ) → v ≢ t → led_at b v ≡ led_at a v) → IsIndex old table a → IsIndex new table b
index_closed old new table a b t clock opens none closed others is = record { number = number; threads = threads; labels = labels }
  where
    at_other : (v : ℕ) → v ≢ t → ListsSame (led_at a v) (led_at b v)
    at_other v ne = subst (ListsSame (led_at a v)) (sym (others v ne)) (lists_itself (led_at a v))

    number : (v : ℕ) → block_number (led_at b v) ≡ open_number (slice_get new v)
    number v = ⊎_elim
        (λ (e : v ≡ t). ap (λ w. block_number (led_at b w)) e ∙ closed.number ∙ sym none ∙ ap (λ w. open_number (slice_get new w)) (sym e))
        (λ ne. (at_other v ne).number ∙ is.number v ∙ sym (opens v ne))
        (cases_eq v t)

    threads : (v s : ℕ) → has_thread (led_at b v) s ≡ leads (block_number (led_at b v)) (thread_clock (slice_get new s) v)
    threads v s = ⊎_elim
        (λ (e : v ≡ t). ap (λ w. has_thread (led_at b w) s) e ∙ closed.threads s ∙ sym (ap (λ n. leads n (thread_clock (slice_get new s) v)) (ap (λ w. block_number (led_at b w)) e ∙ closed.number)))
        (λ ne. (at_other v ne).threads s ∙ is.threads v s ∙ ap₂ leads (sym (at_other v ne).number) (sym (clock s v)))
        (cases_eq v t)

    labels : CountsLabels table b
    labels v i = ⊎_elim
        (λ (e : v ≡ t). ap (λ w. times i (places_in (led_at b w))) e ∙ closed.labels i ∙ sym (ap (λ n. if leads n (label_clock table i v) then 1 else 0) (ap (λ w. block_number (led_at b w)) e ∙ closed.number)))
        (λ ne. (at_other v ne).labels i ∙ is.labels v i ∙ ap (λ n. if leads n (label_clock table i v) then 1 else 0) (sym (at_other v ne).number))
        (cases_eq v t)

-- no block leads to a clock that counts less
leads_less : (number n : ℕ) → n < number → leads number n ≡ false
leads_less number n l = grind (arith, l)

pub leads_own : (number n : ℕ) → 0 < number → number ≤ n → leads number n ≡ true
leads_own number n l m = grind (arith, l, m)

label_most : (all : List Thread) (table : Table) → AreHeeded (state_in all table) → (i t : ℕ) → label_clock table i t ≤ thread_begins (slice_get all t)
label_most all table h i t = go (slice_get (labels_of table) i)
  where
    go : (o : Option Slot) → slot_clock table o t ≤ thread_begins (slice_get all t)
    go None = omega arith
    go (Some s) = (kept_heeds all table h s).most t

-- thread t begins a block
pub index_begun : (old new : List Thread) (table : Table) (a b : Index) (t : ℕ) → AreHeeded (state_in old table) → OpensBlock old new t → IsOfBegin (led_at b t) t (thread_begins (slice_get new t)) → ((v : ℕ) → v ≢ t → led_at b v ≡ led_at a v) → IsIndex old table a → IsIndex new table b
index_begun old new table a b t h opens begun others is = record { number = number; threads = threads; labels = labels }
  where
    at_other : (v : ℕ) → v ≢ t → ListsSame (led_at a v) (led_at b v)
    at_other v ne = subst (ListsSame (led_at a v)) (sym (others v ne)) (lists_itself (led_at a v))

    clock_there : (s v : ℕ) → v ≢ t → thread_clock (slice_get new s) v ≡ thread_clock (slice_get old s) v
    clock_there s v ne = ⊎_elim (λ (e : s ≡ t). ap (λ r. thread_clock (slice_get new r) v) e ∙ opens.clock v ne ∙ ap (λ r. thread_clock (slice_get old r) v) (sym e)) (λ other. ap (λ o. thread_clock o v) (opens.others s other)) (cases_eq s t)

    number : (v : ℕ) → block_number (led_at b v) ≡ open_number (slice_get new v)
    number v = ⊎_elim
        (λ (e : v ≡ t). ap (λ w. block_number (led_at b w)) e ∙ begun.number ∙ sym (cond-true (is_some (thread_begin (slice_get new t))) _ _ opens.inside) ∙ ap (λ w. open_number (slice_get new w)) (sym e))
        (λ ne. (at_other v ne).number ∙ is.number v ∙ sym (ap open_number (opens.others v ne)))
        (cases_eq v t)

    at_own : (s : ℕ) → (s == t) ≡ leads (thread_begins (slice_get new t)) (thread_clock (slice_get new s) t)
    at_own s = ⊎_elim
        (λ (e : s ≡ t). eq-eqb s t e ∙ sym (leads_own (thread_begins (slice_get new t)) (thread_clock (slice_get new s) t) (omega (arith, opens.begins)) (let z : thread_clock (slice_get new s) t ≡ thread_clock (slice_get new t) t = ap (λ r. thread_clock (slice_get new r) t) e in omega (arith, z, opens.begins, opens.own, h.own t))))
        (λ ne. ne_eqb s t ne ∙ sym (leads_less (thread_begins (slice_get new t)) (thread_clock (slice_get new s) t) (let z : thread_clock (slice_get new s) t ≡ thread_clock (slice_get old s) t = ap (λ o. thread_clock o t) (opens.others s ne) in let m : thread_clock (slice_get old s) t ≤ thread_begins (slice_get old t) = (h.slots (OfThread s)).most t in omega (arith, z, m, opens.begins))))
        (cases_eq s t)

    threads : (v s : ℕ) → has_thread (led_at b v) s ≡ leads (block_number (led_at b v)) (thread_clock (slice_get new s) v)
    threads v s = ⊎_elim
        (λ (e : v ≡ t).
        ap (λ w. has_thread (led_at b w) s) e ∙ begun.threads s ∙ at_own s ∙ ap₂ (λ n w. leads n (thread_clock (slice_get new s) w)) (sym (ap (λ w. block_number (led_at b w)) e ∙ begun.number)) (sym e))
        (λ ne. (at_other v ne).threads s ∙ is.threads v s ∙ ap₂ leads (sym (at_other v ne).number) (sym (clock_there s v ne)))
        (cases_eq v t)

    labels : CountsLabels table b
    labels v i = ⊎_elim
        (λ (e : v ≡ t).
        ap (λ w. times i (places_in (led_at b w))) e ∙ begun.labels i
        ∙ sym (ap₂ (λ n w. if leads n (label_clock table i w) then 1 else 0) (ap (λ w. block_number (led_at b w)) e ∙ begun.number) e ∙ ap (λ x. if x then 1 else 0) (leads_less (thread_begins (slice_get new t)) (label_clock table i t) (let m = label_most old table h i t in omega (arith, m, opens.begins)))))
        (λ ne. (at_other v ne).labels i ∙ is.labels v i ∙ ap (λ n. if leads n (label_clock table i v) then 1 else 0) (sym (at_other v ne).number))
        (cases_eq v t)

-- thread t has taken what may have been new to it, or nothing
pub index_news : (old new : List Thread) (before after : Table) (a b c : Index) (t : ℕ) (news : Bool) → HaveSameBlocks old new → TakesOnly t old new → KeepsLabels before after a b → (news ≡ true → (v : ℕ) → GainsThread (led_at b v) (led_at c v) t (thread_clock (slice_get new t) v)) → (news ≡ false → c ≡ b)
    → (news ≡ false → KeepsItsClock old new t) → IsIndex old before a → IsIndex new after c
index_news old new before after a b c t true same takes keeps gains other still is = index_taken old new before after a b c t same takes keeps (gains refl) is
index_news old new before after a b c t false same takes keeps gains other still is =
    subst (IsIndex new after) (sym (other refl)) (index_same old new after b b (open_same old new same) clock (λ v. lists_itself (led_at b v)) (index_kept old before after a b keeps is))
  where
    clock : (s u : ℕ) → thread_clock (slice_get new s) u ≡ thread_clock (slice_get old s) u
    clock s u = ⊎_elim
        (λ (e : s ≡ t). subst (λ r. thread_clock (slice_get new r) u ≡ thread_clock (slice_get old r) u) (sym e) (still refl u))
        (λ ne. takes.clock s ne u)
        (cases_eq s t)

-- a thread and a slot take clocks as they are absorbed

pub kept_is_slot : (all : List Thread) (table : Table) (slot i : ℕ) (s : Slot) → length all ≤ slot → i ≡ slot - length all → slice_get (labels_of table) i ≡ Some s → (u : ℕ) → clock_in all table (slot_in all table slot) u ≡ label_clock table i u
kept_is_slot all table slot i s le is at u =
    ap (λ r. clock_in all table r u) (slot_label all table slot s le (sym (ap (slice_get (labels_of table)) is) ∙ at)) ∙ kept_slot all table s (label_kept table i s at) u ∙ sym (ap (λ o. slot_clock table o u) at)

module _ (old new : List Thread) (before after : Table) (a b c : Index) (t slot : ℕ) (within : slot < length old + length (labels_of before)) (same : HaveSameBlocks old new) (lengths : length new ≡ length old)
    (first_thread : slot < length old → b ≡ a) (first_label : length old ≤ slot → (v : ℕ) → GainsLabel (led_at a v) (led_at b v) (slot - length old) (label_clock before (slot - length old) v) (thread_clock (slice_get old t) v))
    (thread : slot < length old → TakesOnly slot old new × (after ≡ before)) (label : length old ≤ slot → (new ≡ old) × ((s : Slot) → slice_get (labels_of before) (slot - length old) ≡ Some s → JoinsSlot before after s (thread_clock (slice_get old t))))
    (then_thread : slot < length new → (v : ℕ) → GainsThread (led_at b v) (led_at c v) slot (thread_clock (slice_get new slot) v)) (then_label : length new ≤ slot → c ≡ b) where
  found : length old ≤ slot → (s : Slot) × (slice_get (labels_of before) (slot - length old) ≡ Some s)
  found le = ⊎_elim
      (λ (r : (s : Slot) × (slot - length old < length (labels_of before)) × (slice_get (labels_of before) (slot - length old) ≡ Some s) × (get_or (labels_of before) (slot - length old) s ≡ s)). (r.0, r.2))
      (λ r. absurd (omega (arith, r.0, le, within)))
      (slice_get_cases (labels_of before) (slot - length old)).1

  pub index_absorbed : IsIndex old before a → IsIndex new after c
  index_absorbed is = ⊎_elim
      (λ (l : slot < length old). let d = thread l in
      index_taken old new before after a b c slot same d.0 (subst (λ i. KeepsLabels before after a i) (sym (first_thread l)) (subst (λ m. KeepsLabels before m a a) (sym d.1) (keeps_nothing before a))) (then_thread (omega (arith, l, lengths))) is)
      (λ le. let d = label le in let s = found le in
      subst (λ i. IsIndex new after i) (sym (then_label (omega (arith, le, lengths)))) (subst (λ ts. IsIndex ts after b) (sym d.0)
      (index_kept old before after a b (keeps_joined before after a b s.0 (slot - length old) (label_clock before (slot - length old)) (thread_clock (slice_get old t)) s.1 (λ v. ap (λ o. slot_clock before o v) s.1) (first_label le) (d.1 s.0 s.1)) is)))
      (cases_lt slot (length old))

  pub index_still : IsIndex old before a → leads (block_number (led_at a t)) (clock_in old before (slot_in old before slot) t) ≡ true → led_at c t ≡ led_at a t
  index_still is led = ⊎_elim
      (λ (l : slot < length old).
      let e : led_at b t ≡ led_at a t = ap (λ i. led_at i t) (first_thread l) in
      let here : has_thread (led_at b t) slot ≡ true = ap (λ o. has_thread o slot) e ∙ is.threads t slot ∙ sym (ap (λ s. leads (block_number (led_at a t)) (clock_in old before s t)) (slot_thread old before slot l)) ∙ led in
      (then_thread (omega (arith, l, lengths)) t).still here ∙ e)
      (λ le. let s = found le in
      ap (λ i. led_at i t) (then_label (omega (arith, le, lengths))) ∙ (first_label le t).still (sym (ap (leads (block_number (led_at a t))) (kept_is_slot old before slot (slot - length old) s.0 le refl s.1 t)) ∙ led))
      (cases_lt slot (length old))

-- a slot that is past the clock takes nothing
pub absorbs_nothing : (all : List Thread) (table : Table) (t slot : ℕ) → IsPast all table t slot → JoinsClock (state_in all table) (state_in all table) t (slot_in all table slot)
absorbs_nothing all table t slot past = record { clock = clock; actor = λ r. refl }
  where
    here : (u : ℕ) → clock_in all table (slot_in all table slot) u ≡ kept_clock (kept_of table past.one) u
    here u = kept_is_slot all table slot (slot - length all) past.one past.behind refl past.at u ∙ ap (λ o. slot_clock table o u) past.at

    clock : (r : Slot) (u : ℕ) → clock_in all table r u ≡ (if same_slot r (slot_in all table slot) then max (clock_in all table r u) (thread_clock (slice_get all t) u) else clock_in all table r u)
    clock r u = ⊎_elim
        (λ (b : same_slot r (slot_in all table slot) ≡ true).
        let e : clock_in all table r u ≡ kept_clock (kept_of table past.one) u = ap (λ s. clock_in all table s u) (same_slot_is r (slot_in all table slot) b) ∙ here u in
        omega (arith, e, past.clock u) ∙ sym (cond-true (same_slot r (slot_in all table slot)) _ _ b))
        (λ b. sym (cond-false (same_slot r (slot_in all table slot)) _ _ b))
        (cases_Bool (same_slot r (slot_in all table slot)))

pub absorbs_no_thread : (all : List Thread) (table : Table) (t slot u : ℕ) → IsPast all table t slot → slot_in all table slot ≡ OfThread u → ⊥
absorbs_no_thread all table t slot u past e = no_thread all table (slot - length all) u (past.at ∙ ap Some (sym (slot_label all table slot past.one past.behind past.at) ∙ e))

-- what is kept of a slot is listed by the place of its label
pub label_listed : (all : List Thread) (table : Table) (a b : Index) (t i : ℕ) (s : Slot) (k : Kept) (th : Thread) → slice_get all t ≡ Some th → slice_get (labels_of table) i ≡ Some s → Some k ≡ kept_of table s
    → ((v : ℕ) → GainsLabel (led_at a v) (led_at b v) k.label (number_at k.clock v) (number_at th.clock v)) → (v : ℕ) → GainsLabel (led_at a v) (led_at b v) i (label_clock table i v) (thread_clock (slice_get all t) v)
label_listed all table a b t i s k th at_t at kept gains v =
    subst (λ (p : ℕ). GainsLabel (led_at a v) (led_at b v) p (label_clock table i v) (thread_clock (slice_get all t) v)) (sym (table.placed.only s k i (sym kept) at))
    (subst (λ (w : ℕ). GainsLabel (led_at a v) (led_at b v) k.label w (thread_clock (slice_get all t) v)) (ap (λ o. kept_clock o v) kept ∙ sym (ap (λ o. slot_clock table o v) at))
    (subst (λ (n : ℕ). GainsLabel (led_at a v) (led_at b v) k.label (number_at k.clock v) n) (sym (ap (λ o. thread_clock o v) at_t)) (gains v)))

-- thread t is another, with the same clock and the same block
pub index_written : (all : List Thread) (table : Table) (index : Index) (t : ℕ) (th new : Thread) → slice_get all t ≡ Some th → new.clock ≡ th.clock → new.begin ≡ th.begin → new.begins ≡ th.begins → IsIndex all table index → IsIndex (slice_set all t new) table index
index_written all table index t th new at clock begin begins =
    index_same all (slice_set all t new) table index index
    (λ v. unwritten all t th new at open_number v (ap₂ (λ a b. if a then b else 0) (ap is_some begin) begins))
    (λ s u. unwritten all t th new at (λ o. thread_clock o u) s (ap (λ k. number_at k u) clock))
    (λ v. lists_itself (led_at index v))

-- or in no block
pub index_ended : (all : List Thread) (table : Table) (a b : Index) (t : ℕ) (th new : Thread) → slice_get all t ≡ Some th → new.clock ≡ th.clock → new.begin ≡ None → ListsSame None (led_at b t) → ((v : ℕ) → v ≢ t → led_at b v ≡ led_at a v) → IsIndex all table a → IsIndex (slice_set all t new) table b
index_ended all table a b t th new at clock begin =
    index_closed all (slice_set all t new) table a b t
    (λ s u. unwritten all t th new at (λ o. thread_clock o u) s (ap (λ k. number_at k u) clock))
    (λ v ne. written all t th new at open_number v ∙ cond-false (t == v) _ _ (ne_eqb t v (λ e. ne (sym e))))
    (written all t th new at open_number t ∙ cond-true (t == t) _ _ (eq-eqb t t refl) ∙ ap (λ o. if is_some o then new.begins else 0) begin)
