-- The transactions and the depths of threads with one event more.
use Rattle.std.proofs.Common.{◌≡◌, ◌⊎◌, ℕ, zero, suc, ◌+◌, ◌-◌, ◌<◌, ◌≤◌, ◌==◌, ◌&&◌, ◌||◌, nat_lt, Bool, true, false, if◌then◌else◌, List, [], ◌∷◌, ◌++◌, length, Option, Some, inl, inr, refl, sym, ◌∙◌, ap, subst, arith, add-one, length-append}
use Rattle.std.specs.Prelude.{slice_get}
use Rattle.std.proofs.lemmas.Bool.{cases_eq, cases_order, cases_Bool, eq-eqb, ne_eqb, cond-true, cond-false, lt-ltb, le-ltb, or_from, and_from, and_right}
use Rattle.std.proofs.lemmas.Option.{same_Some}
use Rattle.aero_model.specs.declared.numbered.Numbered.{Numbered}
use Rattle.aero_model.specs.declared.numbered.What.{What}
use Rattle.aero_model.specs.declared.numbered.What.TheVariants.{Begin, End}
use Rattle.aero_model.specs.Blocks.{is_begin, is_end, by_thread, depth, opens, blocks, Transaction, Block, Unary, of_event, transaction}
use Rattle.aero_model.proofs.Begins.{blocks_rise}
use Rattle.aero_model.proofs.Places.{in_block, in_unary, block_from}
use Rattle.aero_model.proofs.Depths.{AtOpening, AtClosing, AtOther, step, opening_at, blocks_stay}
use Rattle.aero_model.proofs.Ends.{begin_in, deep_in, by_from}
use Rattle.aero_witness.specs.declared.transactions.Nest.{Nest}
use Rattle.aero_witness.specs.Parts.{nest_at, nest_after, first_with, IsFirst, AreNests, AreFirstsTo}

-- a list with one more item
pub at_pushed : {X : Type 0} (xs : List X) (y : X) (i : ℕ) (x : X) → slice_get (xs ++ y ∷ []) i ≡ Some x → (slice_get xs i ≡ Some x) ⊎ ((i ≡ length xs) × (x ≡ y))
at_pushed [] y zero x e = inr (refl, sym (same_Some y x e))
at_pushed [] y (suc i) x e = absurd (cc)
at_pushed (z ∷ xs) y zero x e = inl e
at_pushed (z ∷ xs) y (suc i) x e = elim (at_pushed xs y i x e) [ inl h ↦ inl h | inr h ↦ inr (let p = h.0 in (ap suc p, h.1)) ]

-- a transaction has one first place, and each transaction its own
pub one_first : (trace : List Numbered) (x y : Transaction) (f g : ℕ) → IsFirst trace x f → IsFirst trace y g → x ≡ y → f ≡ g
one_first trace x y f g hf hg e =
    elim (cases_order f g) [
      | inl same ↦ same
      | inr (inl l) ↦ absurd (hg.none f l (hf.at ∙ e))
      | inr (inr l) ↦ absurd (hf.none g l (hg.at ∙ sym e))
    ]

pub same_by_first : (trace : List Numbered) (x y : Transaction) (f g : ℕ) → IsFirst trace x f → IsFirst trace y g → f ≡ g → x ≡ y
same_by_first trace x y f g hf hg e = sym hf.at ∙ ap (transaction trace) e ∙ hg.at

depth_begun : (b : Bool) (place : ℕ) (nest : Nest) → nest.depth + 1 ≡ (let after : Nest = if b then record { depth = nest.depth + 1; first = place } else record { depth = nest.depth + 1; first = nest.first } in after.depth)
depth_begun true place nest = refl
depth_begun false place nest = refl

depth_is : (b : Bool) (w : What) (place : ℕ) (nest : Nest) → (if b && is_begin w then nest.depth + 1 else if b && is_end w then nest.depth - 1 else nest.depth) ≡ (let after : Nest = if b then nest_after w place nest else nest in after.depth)
depth_is true (Begin label) place nest = depth_begun (nest.depth == 0) place nest
depth_is true End place nest = refl
depth_is true _ place nest = refl
depth_is false w place nest = refl

-- the first place changes with an outermost begin alone
first_begun : (b : Bool) (place : ℕ) (nest : Nest) → (if b then place else nest.first) ≡ (let after : Nest = if b then record { depth = nest.depth + 1; first = place } else record { depth = nest.depth + 1; first = nest.first } in after.first)
first_begun true place nest = refl
first_begun false place nest = refl

first_is : (b : Bool) (w : What) (place : ℕ) (nest : Nest) → (if (b && is_begin w) && (nest.depth == 0) then place else nest.first) ≡ (let after : Nest = if b then nest_after w place nest else nest in after.first)
first_is true (Begin label) place nest = first_begun (nest.depth == 0) place nest
first_is true End place nest = refl
first_is true _ place nest = refl
first_is false w place nest = refl

-- what a place's event does to a thread's depth
abbrev depth_with : Option Numbered → ℕ → ℕ → ℕ
depth_with o t d = if by_thread t is_begin o then d + 1 else if by_thread t is_end o then d - 1 else d

depth_at_most : (trace : List Numbered) (t n : ℕ) → depth trace t n ≤ n
depth_at_most trace t zero = omega arith
depth_at_most trace t (suc n) = go (by_thread t is_begin (slice_get trace n)) (by_thread t is_end (slice_get trace n)) (depth_at_most trace t n)
  where
    go : (b e : Bool) → depth trace t n ≤ n → (if b then depth trace t n + 1 else if e then depth trace t n - 1 else depth trace t n) ≤ suc n
    go true e h = omega arith
    go false true h = omega arith
    go false false h = omega arith

pub no_deeper : (trace : List Numbered) (n : ℕ) (nests : List Nest) → AreNests trace n nests → (t : ℕ) → (nest_at nests t).depth ≤ n
no_deeper trace n nests h t = omega (arith, h.depths t, depth_at_most trace t n)

-- the first n events are known
pub record Known (trace : List Numbered) (n : ℕ) (all : List ℕ) (table : List Nest) : Type 0 where
  pub firsts : AreFirstsTo trace n all
  pub nests : AreNests trace n table

-- an outermost begin is the first place of its block
pub opening_first : (trace : List Numbered) (t n : ℕ) → AtOpening trace t n → IsFirst trace (Block t (blocks trace t (suc n))) n
opening_first trace t n s =
    record {
      at = block_from trace n t (blocks trace t (suc n)) (begin_in trace t n s);
      none = λ m l e. (let h = in_block trace m t (blocks trace t (suc n)) e in let number = h.number in let rise = blocks_rise trace t (suc m) n (omega arith) in let more = s.number in omega arith);
    }

module _ (trace : List Numbered) (n : ℕ) (all : List ℕ) (old new : List Nest) (e : Numbered) (first : ℕ) (at : slice_get trace n ≡ Some e) (known : Known trace n all old) (first_is_with : first ≡ first_with n (nest_at old e.thread)) (nests_are : (t : ℕ) → nest_at new t ≡ (if e.thread == t then nest_after e.what n (nest_at old t) else nest_at old t)) where
  depth_now : (t : ℕ) → (nest_at new t).depth ≡ depth trace t (suc n)
  depth_now t =
      let nest = nest_at old t in
      ap (λ (x : Nest). x.depth) (nests_are t)
      ∙ sym (depth_is (e.thread == t) e.what n nest)
      ∙ ap (depth_with (Some e) t) (known.nests.depths t)
      ∙ ap (λ o. depth_with o t (depth trace t n)) (sym at)

  -- as the trace has it
  kept_first : (t : ℕ) → (nest_at new t).first ≡ (if opens trace t n then n else (nest_at old t).first)
  kept_first t =
      let nest = nest_at old t in
      ap (λ (x : Nest). x.first) (nests_are t)
      ∙ sym (first_is (e.thread == t) e.what n nest)
      ∙ ap (λ d. if ((e.thread == t) && is_begin e.what) && (d == 0) then n else nest.first) (known.nests.depths t)
      ∙ ap (λ o. if by_thread t is_begin o && (depth trace t n == 0) then n else nest.first) (sym at)

  same_block : (t : ℕ) → opens trace t n ≡ false → blocks trace t (suc n) ≡ blocks trace t n → 0 < depth trace t n → IsFirst trace (Block t (blocks trace t (suc n))) (nest_at new t).first
  same_block t shut number deep =
      let old_first = known.nests.firsts t deep in
      let same = kept_first t ∙ cond-false (opens trace t n) n (nest_at old t).first shut in
      subst (IsFirst trace (Block t (blocks trace t (suc n)))) (sym same) (subst (λ k. IsFirst trace (Block t k) (nest_at old t).first) (sym number) old_first)

  first_now : (t : ℕ) → 0 < depth trace t (suc n) → IsFirst trace (Block t (blocks trace t (suc n))) (nest_at new t).first
  first_now t deep = go (step trace t n)
    where
      go : AtOpening trace t n ⊎ (AtClosing trace t n ⊎ AtOther trace t n) → IsFirst trace (Block t (blocks trace t (suc n))) (nest_at new t).first
      go (inl s) =
          let here = kept_first t ∙ cond-true (opens trace t n) n (nest_at old t).first s.opens in
          subst (IsFirst trace (Block t (blocks trace t (suc n)))) (sym here) (opening_first trace t n s)
      go (inr (inl s)) = absurd (omega (arith, s.after))
      go (inr (inr s)) =
          let before : 0 < depth trace t n = elim (cases_eq (depth trace t n) 0) [ inl z ↦ absurd (omega (arith, s.outside z)) | inr d ↦ omega arith ] in
          same_block t s.opens s.number before

  -- the event's own transaction
  own_first : IsFirst trace (transaction trace n) first
  own_first = go (cases_eq (depth trace e.thread n) 0) (cases_Bool (is_begin e.what))
    where
      t : ℕ
      t = e.thread

      zero_depth : depth trace t n ≡ 0 → first ≡ n
      zero_depth z = first_is_with ∙ cond-false (nat_lt 0 (nest_at old t).depth) (nest_at old t).first n (le-ltb 0 (nest_at old t).depth (omega (arith, known.nests.depths t)))

      begins : is_begin e.what ≡ true → depth trace t n ≡ 0 → IsFirst trace (transaction trace n) first
      begins b z =
          let o = and_from (by_thread t is_begin (slice_get trace n)) (depth trace t n == 0) (by_from t is_begin (slice_get trace n) e at refl b) (eq-eqb (depth trace t n) 0 z) in
          let s = opening_at trace t n o in
          let own = block_from trace n t (blocks trace t (suc n)) (begin_in trace t n s) in
          subst (λ f. IsFirst trace (transaction trace n) f) (sym (zero_depth z)) (subst (λ x. IsFirst trace x n) (sym own) (opening_first trace t n s))

      single : is_begin e.what ≡ false → depth trace t n ≡ 0 → IsFirst trace (transaction trace n) first
      single b z =
          let test = or_from (is_begin e.what) (nat_lt 0 (depth trace t n)) b (le-ltb 0 (depth trace t n) (omega arith)) in
          let own : transaction trace n ≡ Unary n = ap (of_event trace n) at ∙ cond-false (is_begin e.what || nat_lt 0 (depth trace t n)) (Block t (blocks trace t (suc n))) (Unary n) test in
          let one : IsFirst trace (Unary n) n = record { at = own; none = λ m l same. (let here = in_unary trace m n same in omega arith) } in
          subst (λ f. IsFirst trace (transaction trace n) f) (sym (zero_depth z)) (subst (λ x. IsFirst trace x n) (sym own) one)

      inside : 0 < depth trace t n → (depth trace t n ≡ 0 → ⊥) → IsFirst trace (transaction trace n) first
      inside deep d =
          let shut = and_right (by_thread t is_begin (slice_get trace n)) (depth trace t n == 0) (ne_eqb (depth trace t n) 0 d) in
          let own = block_from trace n t (blocks trace t (suc n)) (deep_in trace t n e at refl deep) ∙ ap (Block t) (blocks_stay trace t n shut) in
          let old_first = first_is_with ∙ cond-true (nat_lt 0 (nest_at old t).depth) (nest_at old t).first n (lt-ltb 0 (nest_at old t).depth (omega (arith, known.nests.depths t))) in
          subst (λ f. IsFirst trace (transaction trace n) f) (sym old_first) (subst (λ x. IsFirst trace x (nest_at old t).first) (sym own) (known.nests.firsts t deep))

      go : (depth trace e.thread n ≡ 0) ⊎ (depth trace e.thread n ≡ 0 → ⊥) → (is_begin e.what ≡ true) ⊎ (is_begin e.what ≡ false) → IsFirst trace (transaction trace n) first
      go (inl z) (inl b) = begins b z
      go (inl z) (inr b) = single b z
      go (inr d) b = inside (omega arith) d

  pub known_next : Known trace (n + 1) (all ++ first ∷ []) new
  known_next =
      record {
        firsts = record { each = length-append all (first ∷ []) ∙ ap (λ k. k + 1) known.firsts.each; at = λ i f h. go i f (at_pushed all first i f h) };
        nests = record {
          depths = λ t. depth_now t ∙ ap (depth trace t) (sym (add-one n));
          firsts = λ t deep. subst (λ k. IsFirst trace (Block t (blocks trace t k)) (nest_at new t).first) (sym (add-one n)) (first_now t (subst (λ k. 0 < depth trace t k) (add-one n) deep));
        };
      }
    where
      go : (i f : ℕ) → (slice_get all i ≡ Some f) ⊎ ((i ≡ length all) × (f ≡ first)) → IsFirst trace (transaction trace i) f
      go i f (inl h) = known.firsts.at i f h
      go i f (inr h) = subst (IsFirst trace (transaction trace i)) (sym h.1) (subst (λ k. IsFirst trace (transaction trace k) first) (sym (h.0 ∙ known.firsts.each)) own_first)
