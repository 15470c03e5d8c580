-- Where more begins are exempt: each transaction lies in one of before, and each cycle passes some that lie on a cycle of before.
use Rattle.std.proofs.Common.{◌≡◌, ◌≢◌, ◌⊎◌, ℕ, zero, suc, ◌+◌, ◌-◌, ◌<◌, ◌≤◌, ◌==◌, ◌&&◌, ◌||◌, nat_lt, Bool, true, false, not, if◌then◌else◌, List, [], ◌∷◌, ◌++◌, length, take, Option, Some, None, inl, inr, refl, sym, ◌∙◌, ap, ap₂, subst, arith}
use Rattle.std.specs.Prelude.{option_map, slice_get}
use Rattle.std.proofs.lemmas.Bool.{cases_Bool, cases_eq, cases_lt, cond-true, cond-false, and_right, or_left, or_right, and_parts, lt-ltb, ltb-true, ne_eqb, both_ways}
use Rattle.std.proofs.lemmas.Option.{same_Some}
use Rattle.aero_model.specs.declared.numbered.Numbered.{Numbered}
use Rattle.aero_model.specs.declared.numbered.What.{What}
use Rattle.aero_model.specs.declared.numbered.What.TheVariants.{Read, Write, Acquire, Release, Fork, Join, Begin, End, Exempt}
use Rattle.aero_model.specs.Blocks.{is_begin, is_end, by_thread, depth, opens, blocks, Transaction, Block, Unary, transaction}
use Rattle.aero_model.specs.BlockCounts.{count_below}
use Rattle.aero_model.specs.Exempt.{Marked, read_events, nest, is_marked, is_latest_exempt, ends_exempt, judged_what, judged, judged_trace}
use Rattle.aero_model.specs.Excused.{ExemptsMore}
use Rattle.aero_model.specs.Graph.{Conflict, Conflicts, same_thread, write_read, read_write, write_write, release_acquire, forks, joined, Edge, Edges, IsCycle, last_transaction}
use Rattle.aero_model.proofs.Depths.{blocks_stay}
use Rattle.aero_model.proofs.Exempt.{judged_at, judged_depth_at, judged_threads, read_at}
use Rattle.aero_model.proofs.Places.{IsIn, cases_transaction, in_block, in_unary, block_from}
use Rattle.aero_model.proofs.Stretches.{open_between, stays_before}

read_more : (fewer more : List Marked) → ExemptsMore fewer more → read_events more ≡ read_events fewer
read_more [] [] is = refl
read_more [] (b ∷ more) is = absurd is
read_more (a ∷ fewer) [] is = absurd is
read_more (a ∷ fewer) (b ∷ more) is = ap₂ (λ e l. e ∷ l) is.0 (read_more fewer more is.2)

-- an event is exempt in the second list if it is in the first
marked_more : (fewer more : List Marked) → ExemptsMore fewer more → (i : ℕ) → is_marked (slice_get fewer i) ≡ true → is_marked (slice_get more i) ≡ true
marked_more [] [] is i so = absurd (cc)
marked_more [] (b ∷ more) is i so = absurd is
marked_more (a ∷ fewer) [] is i so = absurd is
marked_more (a ∷ fewer) (b ∷ more) is zero so = is.1 so
marked_more (a ∷ fewer) (b ∷ more) is (suc i) so = marked_more fewer more is.2 i so

count_more : (f g : ℕ → Bool) (m : ℕ) → ((k : ℕ) → f k ≡ true → g k ≡ true) → count_below f m ≤ count_below g m
count_more f g zero h = omega arith
count_more f g (suc m) h =
    let before = count_more f g m h in
    elim (cases_Bool (f m)) [
      | inl so ↦ omega (arith, before, cond-true (f m) (count_below f m + 1) (count_below f m) so, cond-true (g m) (count_below g m + 1) (count_below g m) (h m so))
      | inr not_so ↦ elim (cases_Bool (g m)) [
        | inl also ↦ omega (arith, before, cond-false (f m) (count_below f m + 1) (count_below f m) not_so, cond-true (g m) (count_below g m + 1) (count_below g m) also)
        | inr nor ↦ omega (arith, before, cond-false (f m) (count_below f m + 1) (count_below f m) not_so, cond-false (g m) (count_below g m + 1) (count_below g m) nor)
      ]
    ]

-- deeds that no begin, no end and nothing exempt does
abbrev is_plain : What → Bool
is_plain (Begin label) = false
is_plain End = false
is_plain Exempt = false
is_plain w = true

not_from : (b c : Bool) → (b ≡ true → c ≡ true) → not c ≡ true → not b ≡ true
not_from true c h so = absurd (let is : c ≡ true = h refl in let other : not c ≡ false = ap not is in cc)
not_from false c h so = refl

either_bare : (b : Bool) (x y v : What) → (if b then x else y) ≡ v → is_plain x ≡ false → is_plain y ≡ false → is_plain v ≡ true → ⊥
either_bare true x y v is px py plain = absurd (let so : is_plain x ≡ true = ap is_plain is ∙ plain in cc)
either_bare false x y v is px py plain = absurd (let so : is_plain y ≡ true = ap is_plain is ∙ plain in cc)

-- a plain deed is judged as itself, whatever is exempt
plain_stays : (b c : List Marked) (u : ℕ) (x y : Bool) (w v : What) → is_plain v ≡ true → judged_what b u x w ≡ v → judged_what c u y w ≡ v
plain_stays b c u x y (Begin label) v plain is = absurd (either_bare x Exempt (Begin None) v is refl refl plain)
plain_stays b c u x y End v plain is = absurd (either_bare (ends_exempt b u) Exempt End v is refl refl plain)
plain_stays b c u x y Exempt v plain is = is
plain_stays b c u x y (Read z) v plain is = is
plain_stays b c u x y (Write z) v plain is = is
plain_stays b c u x y (Acquire z) v plain is = is
plain_stays b c u x y (Release z) v plain is = is
plain_stays b c u x y (Fork z) v plain is = is
plain_stays b c u x y (Join z) v plain is = is

no_begin : (b : Bool) (x y : What) → is_begin x ≡ false → is_begin y ≡ false → is_begin (if b then x else y) ≡ true → ⊥
no_begin true x y bx by so = cc
no_begin false x y bx by so = cc

-- what begins a block where more is exempt begins one where less is
begin_stays : (b c : List Marked) (u : ℕ) (x y : Bool) (w : What) → (y ≡ true → x ≡ true) → is_begin (judged_what b u x w) ≡ true → is_begin (judged_what c u y w) ≡ true
begin_stays b c u x true (Begin label) also so = absurd (let is : x ≡ true = also refl in let none : is_begin (if x then Exempt else Begin None) ≡ false = ap (λ z. is_begin (if z then Exempt else Begin None)) is in cc)
begin_stays b c u x false (Begin label) also so = refl
begin_stays b c u x y End also so = absurd (no_begin (ends_exempt b u) Exempt End refl refl so)
begin_stays b c u x y Exempt also so = so
begin_stays b c u x y (Read z) also so = so
begin_stays b c u x y (Write z) also so = so
begin_stays b c u x y (Acquire z) also so = so
begin_stays b c u x y (Release z) also so = so
begin_stays b c u x y (Fork z) also so = so
begin_stays b c u x y (Join z) also so = so

-- without its last edge a walk that comes back is one that an edge closes
drop_last : (trace : List Numbered) (n : ℕ) (x z : Transaction) (more : List Transaction) (to : Transaction) → Edges trace n x (z ∷ more) → last_transaction z more ≡ to →
    (others : List Transaction) × Edges trace n x others × Edge trace n (last_transaction x others) to
drop_last trace n x z [] to es is = ([], tt, subst (Edge trace n x) is es.0)
drop_last trace n x z (w ∷ more) to es is = let rest = drop_last trace n z w more to es.1 is in (z ∷ rest.0, (es.0, rest.1), rest.2)

module _ (fewer more : List Marked) (is : ExemptsMore fewer more) where
  abbrev old : List Numbered
  old = judged_trace fewer

  abbrev new : List Numbered
  new = judged_trace more

  latest_more : (t k i : ℕ) → is_latest_exempt fewer t k i ≡ true → is_latest_exempt more t k i ≡ true
  latest_more t k zero so = absurd (cc)
  latest_more t k (suc i) so =
      ap₂ (λ l m. if by_thread t is_begin (slice_get l i) && (depth m t i == k) then is_marked (slice_get more i) else is_latest_exempt more t k i) (read_more fewer more is) (read_more fewer more is)
      ∙ go (by_thread t is_begin (slice_get (read_events fewer) i) && (nest fewer t i == k)) so (latest_more t k i)
    where
      go : (b : Bool) → (if b then is_marked (slice_get fewer i) else is_latest_exempt fewer t k i) ≡ true → (is_latest_exempt fewer t k i ≡ true → is_latest_exempt more t k i ≡ true) → (if b then is_marked (slice_get more i) else is_latest_exempt more t k i) ≡ true
      go true here before = marked_more fewer more is i here
      go false here before = before here

  -- fewer blocks are open
  depth_less : (t i : ℕ) → depth new t i ≤ depth old t i
  depth_less t i =
      let nests : nest more t i ≡ nest fewer t i = ap (λ l. depth l t i) (read_more fewer more is) in
      let count = count_more (λ k. not (is_latest_exempt more t k i)) (λ k. not (is_latest_exempt fewer t k i)) (nest fewer t i)
      (λ k so. not_from (is_latest_exempt fewer t k i) (is_latest_exempt more t k i) (latest_more t k i) so) in
      omega (arith, judged_depth_at more t i ∙ ap (count_below (λ k. not (is_latest_exempt more t k i))) nests, judged_depth_at fewer t i, count)

  -- the events at a place
  record Both (i : ℕ) : Type 0 where
    in_fewer : Marked
    in_more : Marked
    fewer_at : slice_get fewer i ≡ Some in_fewer
    more_at : slice_get more i ≡ Some in_more
    same : in_more.event ≡ in_fewer.event
    also : in_fewer.exempt ≡ true → in_more.exempt ≡ true

  both_at : (i : ℕ) (e : Numbered) → slice_get new i ≡ Some e → Both i
  both_at i e at = go (slice_get more i) refl (sym (judged_at more i) ∙ at)
    where
      of_fewer : (m : Marked) → slice_get more i ≡ Some m → (o : Option Marked) → slice_get fewer i ≡ o → Both i
      of_fewer m there None here = absurd (let none = sym (read_at fewer i ∙ ap (option_map (λ x. x.event)) here) ∙ ap (λ l. slice_get l i) (sym (read_more fewer more is)) ∙ read_at more i ∙ ap (option_map (λ x. x.event)) there in cc)
      of_fewer m there (Some f) here = record {
        in_fewer = f;
        in_more = m;
        fewer_at = here;
        more_at = there;
        same = same_Some m.event f.event (sym (read_at more i ∙ ap (option_map (λ x. x.event)) there) ∙ ap (λ l. slice_get l i) (read_more fewer more is) ∙ read_at fewer i ∙ ap (option_map (λ x. x.event)) here);
        also = λ so. ap is_marked (sym there) ∙ marked_more fewer more is i (ap is_marked here ∙ so);
      }

      go : (o : Option Marked) → slice_get more i ≡ o → option_map (judged (take i more)) o ≡ Some e → Both i
      go None there none = absurd (cc)
      go (Some m) there some = of_fewer m there (slice_get fewer i) refl

  event_old : (i : ℕ) (b : Both i) → slice_get old i ≡ Some (judged (take i fewer) b.in_fewer)
  event_old i b = judged_at fewer i ∙ ap (option_map (judged (take i fewer))) b.fewer_at

  event_new : (i : ℕ) (b : Both i) → slice_get new i ≡ Some (judged (take i more) b.in_more)
  event_new i b = judged_at more i ∙ ap (option_map (judged (take i more))) b.more_at

  -- an event of a block where more is exempt is one of a block where less is
  in_old : (t k i : ℕ) → IsIn new i t k → transaction old i ≡ Block t (blocks old t (suc i))
  in_old t k i h =
      let b = both_at i h.event h.event_at in
      let e_is : judged (take i more) b.in_more ≡ h.event = same_Some (judged (take i more) b.in_more) h.event (sym (event_new i b) ∙ h.event_at) in
      let own : b.in_fewer.event.thread ≡ t = ap (λ (x : Numbered). x.thread) (sym b.same) ∙ ap (λ (x : Numbered). x.thread) e_is ∙ h.thread in
      block_from old i t (blocks old t (suc i)) (record {
        event = judged (take i fewer) b.in_fewer;
        event_at = event_old i b;
        thread = own;
        inside = inside b e_is (cases_Bool (is_begin h.event.what));
        number = refl;
      })
    where
      inside : (b : Both i) → judged (take i more) b.in_more ≡ h.event → (is_begin h.event.what ≡ true) ⊎ (is_begin h.event.what ≡ false) → (is_begin (judged (take i fewer) b.in_fewer).what || nat_lt 0 (depth old t i)) ≡ true
      inside b e_is (inl so) =
          let begins : is_begin (judged_what (take i more) b.in_more.event.thread b.in_more.exempt b.in_more.event.what) ≡ true = ap (λ (x : Numbered). is_begin x.what) e_is ∙ so in
          let there : is_begin (judged_what (take i more) b.in_fewer.event.thread b.in_more.exempt b.in_fewer.event.what) ≡ true =
          subst (λ (x : Numbered). is_begin (judged_what (take i more) x.thread b.in_more.exempt x.what) ≡ true) b.same begins in
          or_left (is_begin (judged (take i fewer) b.in_fewer).what) (nat_lt 0 (depth old t i))
          (begin_stays (take i more) (take i fewer) b.in_fewer.event.thread b.in_more.exempt b.in_fewer.exempt b.in_fewer.event.what b.also there)
      inside b e_is (inr not_so) =
          let deep : nat_lt 0 (depth new t i) ≡ true = sym (ap (λ c. c || nat_lt 0 (depth new t i)) not_so) ∙ h.inside in
          or_right (is_begin (judged (take i fewer) b.in_fewer).what) (nat_lt 0 (depth old t i)) (lt-ltb 0 (depth old t i) (let l = ltb-true 0 (depth new t i) deep in omega (arith, l, depth_less t i)))

  -- from one event of a block to a later one of it the number stays
  number_stays : (t k i : ℕ) (j : ℕ) → IsIn new i t k → IsIn new j t k → (p : ℕ) → i ≤ p → p ≤ j → blocks old t (suc p) ≡ blocks old t (suc i)
  number_stays t k i j a b p le most = elim (cases_eq i p) [
    | inl e ↦ ap (λ q. blocks old t (suc q)) (sym e)
    | inr d ↦ later p (omega (arith, le, d)) most
  ]
    where
      later : (p : ℕ) → i < p → p ≤ j → blocks old t (suc p) ≡ blocks old t (suc i)
      later zero l most = absurd (omega (arith, l))
      later (suc p) l most =
          let deep = (open_between new t k i (suc p) j a b l most).0 in
          let still = blocks_stay old t (suc p) (and_right_zero (by_thread t is_begin (slice_get old (suc p))) (depth old t (suc p)) (omega (arith, deep, depth_less t (suc p)))) in
          still ∙ elim (cases_eq i p) [ inl e ↦ ap (λ q. blocks old t (suc q)) (sym e) | inr d ↦ later p (omega (arith, l, d)) (omega (arith, most)) ]
        where
          and_right_zero : (b : Bool) (d : ℕ) → 0 < d → (b && (d == 0)) ≡ false
          and_right_zero b d some = and_right b (d == 0) (ne_eqb d 0 (λ z. omega (arith, z, some)))

  part_of_later : (i j : ℕ) → i < j → transaction new i ≡ transaction new j → transaction old i ≡ transaction old j
  part_of_later i j l one = go (transaction new i) refl
    where
      go : (x : Transaction) → transaction new i ≡ x → transaction old i ≡ transaction old j
      go (Unary q) e = absurd (omega (arith, in_unary new i q e, in_unary new j q (sym one ∙ e), l))
      go (Block t k) e =
          let a = in_block new i t k e in
          let b = in_block new j t k (sym one ∙ e) in
          in_old t k i a ∙ ap (Block t) (sym (number_stays t k i j a b j (omega (arith, l)) (omega arith))) ∙ sym (in_old t k j b)

  pub part_of : (i j : ℕ) → transaction new i ≡ transaction new j → transaction old i ≡ transaction old j
  part_of i j one = elim (cases_lt i j) [
    | inl l ↦ part_of_later i j l one
    | inr le ↦ elim (cases_lt j i) [ inl l ↦ sym (part_of_later j i l (sym one)) | inr ge ↦ (let same : i ≡ j = omega (arith, le, ge) in ap (transaction old) same) ]
  ]

  -- conflicts are the same

  deed_at : (i : ℕ) (b : Both i) (v : What) → is_plain v ≡ true → (judged (take i more) b.in_more).what ≡ v → (judged (take i fewer) b.in_fewer).what ≡ v
  deed_at i b v plain at =
      plain_stays (take i more) (take i fewer) b.in_fewer.event.thread b.in_more.exempt b.in_fewer.exempt b.in_fewer.event.what v plain
      (subst (λ (x : Numbered). judged_what (take i more) x.thread b.in_more.exempt x.what ≡ v) b.same at)

  thread_at : (i : ℕ) (b : Both i) → (judged (take i more) b.in_more).thread ≡ (judged (take i fewer) b.in_fewer).thread
  thread_at i b = ap (λ (x : Numbered). x.thread) b.same

  conflicts_part : (i j : ℕ) (a : Both i) (b : Both j) → Conflicts (judged (take i more) a.in_more) (judged (take j more) b.in_more) → Conflicts (judged (take i fewer) a.in_fewer) (judged (take j fewer) b.in_fewer)
  conflicts_part i j a b (same_thread s) = same_thread (sym (thread_at i a) ∙ s ∙ thread_at j b)
  conflicts_part i j a b (write_read x p q) = write_read x (deed_at i a (Write x) refl p) (deed_at j b (Read x) refl q)
  conflicts_part i j a b (read_write x p q) = read_write x (deed_at i a (Read x) refl p) (deed_at j b (Write x) refl q)
  conflicts_part i j a b (write_write x p q) = write_write x (deed_at i a (Write x) refl p) (deed_at j b (Write x) refl q)
  conflicts_part i j a b (release_acquire l p q) = release_acquire l (deed_at i a (Release l) refl p) (deed_at j b (Acquire l) refl q)
  conflicts_part i j a b (forks p) = forks (deed_at i a (Fork (judged (take j more) b.in_more).thread) refl p ∙ ap Fork (thread_at j b))
  conflicts_part i j a b (joined q) = joined (deed_at j b (Join (judged (take i more) a.in_more).thread) refl q ∙ ap Join (thread_at i a))

  conflict_part : (i j : ℕ) → Conflict new i j → Conflict old i j
  conflict_part i j c =
      let a = both_at i c.first c.first_at in
      let b = both_at j c.second c.second_at in
      let first_is : c.first ≡ judged (take i more) a.in_more = same_Some c.first (judged (take i more) a.in_more) (sym c.first_at ∙ event_new i a) in
      let second_is : c.second ≡ judged (take j more) b.in_more = same_Some c.second (judged (take j more) b.in_more) (sym c.second_at ∙ event_new j b) in
      record {
        earlier = c.earlier;
        first = judged (take i fewer) a.in_fewer;
        first_at = event_old i a;
        second = judged (take j fewer) b.in_fewer;
        second_at = event_old j b;
        conflict = conflicts_part i j a b (subst (λ x. Conflicts x (judged (take j more) b.in_more)) first_is (subst (λ y. Conflicts c.first y) second_is c.conflict));
      }

  -- edges and cycles

  -- an edge within one transaction of before: what comes first in it comes first always
  rises : (n : ℕ) (x y : Transaction) (e : Edge new n x y) → transaction old e.from ≡ transaction old e.to → (p q : ℕ) → transaction new p ≡ x → transaction new q ≡ y → p < q
  rises n x y e one p q in_x in_y = go (transaction old e.from) refl
    where
      earlier : e.from < e.to
      earlier = e.conflict.earlier

      go : (z : Transaction) → transaction old e.from ≡ z → p < q
      go (Unary r) of = absurd (omega (arith, in_unary old e.from r of, in_unary old e.to r (sym one ∙ of), earlier))
      go (Block t k) of =
          let from_old = in_block old e.from t k of in
          let to_old = in_block old e.to t k (sym one ∙ of) in
          let p_old = in_block old p t k (part_of p e.from (in_x ∙ sym e.from_in) ∙ of) in
          let q_old = in_block old q t k (part_of q e.to (in_y ∙ sym e.to_in) ∙ sym one ∙ of) in
          let from_new = new_event e.from from_old.event from_old.event_at in
          let to_new = new_event e.to to_old.event to_old.event_at in
          let p_new = new_event p p_old.event p_old.event_at in
          let q_new = new_event q q_old.event q_old.event_at in
          stays_before new e.from p e.to q from_new.0 p_new.0 to_new.0 q_new.0 (e.from_in ∙ sym in_x) (e.to_in ∙ sym in_y) (λ same. e.apart (sym e.from_in ∙ same ∙ e.to_in))
          from_new.1 p_new.1 to_new.1 q_new.1
          (p_new.2 ∙ p_old.thread ∙ sym (from_new.2 ∙ from_old.thread)) (to_new.2 ∙ to_old.thread ∙ sym (from_new.2 ∙ from_old.thread)) (q_new.2 ∙ q_old.thread ∙ sym (from_new.2 ∙ from_old.thread))
          earlier
        where
          new_event : (i : ℕ) (f : Numbered) → slice_get old i ≡ Some f → (g : Numbered) × (slice_get new i ≡ Some g) × (g.thread ≡ f.thread)
          new_event i f at = of_more (slice_get new i) refl
            where
              of_more : (o : Option Numbered) → slice_get new i ≡ o → (g : Numbered) × (slice_get new i ≡ Some g) × (g.thread ≡ f.thread)
              of_more None none = absurd (let threads = judged_threads fewer i in let others = judged_threads more i in
                  let same = ap (λ l. option_map (λ (c : Numbered). c.thread) (slice_get l i)) (read_more fewer more is) in
                  let here = sym (ap (option_map (λ (c : Numbered). c.thread)) none) ∙ others ∙ same ∙ sym threads ∙ ap (option_map (λ (c : Numbered). c.thread)) at in cc)
              of_more (Some g) there =
                  let same = ap (λ l. option_map (λ (c : Numbered). c.thread) (slice_get l i)) (read_more fewer more is) in
                  (g, there, same_Some g.thread f.thread (sym (ap (option_map (λ (c : Numbered). c.thread)) there) ∙ judged_threads more i ∙ same ∙ sym (judged_threads fewer i) ∙ ap (option_map (λ (c : Numbered). c.thread)) at))

  -- the transactions of before along a walk, each once where neighbours are the same
  record Along (n : ℕ) (x : Transaction) (ys : List Transaction) (i : ℕ) : Type 0 where
    passed : List Transaction
    edges : Edges old n (transaction old i) passed
    last_at : ℕ
    last_in : transaction new last_at ≡ last_transaction x ys
    last_is : last_transaction (transaction old i) passed ≡ transaction old last_at
    within : passed ≡ [] → (ys ≡ []) ⊎ ((p q : ℕ) → transaction new p ≡ x → transaction new q ≡ last_transaction x ys → p < q)

  along : (n : ℕ) (x : Transaction) (ys : List Transaction) (i : ℕ) → transaction new i ≡ x → Edges new n x ys → Along n x ys i
  along n x [] i in_x es = record { passed = []; edges = tt; last_at = i; last_in = in_x; last_is = refl; within = λ _. inl refl }
  along n x (y ∷ ys) i in_x es =
      let e = es.0 in
      let rest = along n y ys e.to e.to_in es.1 in
      let from_is : transaction old e.from ≡ transaction old i = part_of e.from i (e.from_in ∙ sym in_x) in
      elim (cases_transaction (transaction old i) (transaction old e.to)) [
        | inl same ↦ record {
          passed = rest.passed;
          edges = subst (λ z. Edges old n z rest.passed) (sym same) rest.edges;
          last_at = rest.last_at;
          last_in = rest.last_in;
          last_is = ap (λ z. last_transaction z rest.passed) same ∙ rest.last_is;
          within = λ none. inr (λ p q in_p in_q. elim (rest.within none) [
            | inl ends ↦ rises n x y e (from_is ∙ same) p q in_p (in_q ∙ ap (last_transaction y) ends)
            | inr before ↦ (let first = rises n x y e (from_is ∙ same) p e.to in_p e.to_in in let later = before e.to q e.to_in in_q in omega (arith, first, later))
          ]);
        }
        | inr apart ↦ record {
          passed = transaction old e.to ∷ rest.passed;
          edges = (record { apart = apart; from = e.from; from_in = from_is; to = e.to; to_in = refl; within = e.within; conflict = conflict_part e.from e.to e.conflict }, rest.edges);
          last_at = rest.last_at;
          last_in = rest.last_in;
          last_is = rest.last_is;
          within = λ none. absurd (cc);
        }
      ]

  pub cycle_of : (n : ℕ) (first : Transaction) (rest : List Transaction) (i : ℕ) → IsCycle new n first rest → transaction new i ≡ first → (others : List Transaction) × IsCycle old n (transaction old i) others
  cycle_of n first rest i c in_first =
      let w = along n first rest i in_first c.edges in
      let e = c.closed in
      let from_is : transaction old e.from ≡ transaction old w.last_at = part_of e.from w.last_at (e.from_in ∙ sym w.last_in) in
      let to_is : transaction old e.to ≡ transaction old i = part_of e.to i (e.to_in ∙ sym in_first) in
      elim (cases_transaction (transaction old w.last_at) (transaction old i)) [
        | inr apart ↦ (
          w.passed,
          record {
            edges = w.edges;
            closed = subst (λ z. Edge old n z (transaction old i)) (sym w.last_is)
                (record { apart = apart; from = e.from; from_in = from_is; to = e.to; to_in = to_is; within = e.within; conflict = conflict_part e.from e.to e.conflict });
          },
        )
        | inl same ↦ back_again w e from_is to_is same w.passed refl
      ]
    where
      back_again : (w : Along n first rest i) (e : Edge new n (last_transaction first rest) first) → transaction old e.from ≡ transaction old w.last_at → transaction old e.to ≡ transaction old i → transaction old w.last_at ≡ transaction old i
          → (zs : List Transaction) → w.passed ≡ zs → (others : List Transaction) × IsCycle old n (transaction old i) others
      back_again w e from_is to_is same [] none = absurd (elim (w.within none) [
        | inl ends ↦ e.apart (ap (last_transaction first) ends)
        | inr before ↦ (let back = before e.to e.from e.to_in e.from_in in let forth = e.conflict.earlier in omega (arith, back, forth))
      ])
      back_again w e from_is to_is same (z ∷ zs) some =
          let edges : Edges old n (transaction old i) (z ∷ zs) = subst (Edges old n (transaction old i)) some w.edges in
          let comes_back : last_transaction z zs ≡ transaction old i = sym (ap (last_transaction (transaction old i)) some) ∙ w.last_is ∙ same in
          let d = drop_last old n (transaction old i) z zs (transaction old i) edges comes_back in
          (d.0, record { edges = d.1; closed = d.2 })
