-- What the shape's answer to an event says of it, and so of the leads' call for it.
use Rattle.std.proofs.Common.{◌≡◌, ◌≢◌, ◌⊎◌, ℕ, ◌-◌, ◌^◌, ◌<◌, ◌≤◌, ◌==◌, ◌&&◌, ◌||◌, nat_lt, Bool, true, false, if◌then◌else◌, List, [], ◌∷◌, ◌++◌, length, Option, Some, None, inl, inr, refl, sym, ◌∙◌, ap, subst, arith}
use Rattle.std.specs.Prelude.{slice_get}
use Rattle.std.proofs.lemmas.Bool.{cases_Bool, cases_eq, and_parts, and_from, eqb-true, eq-eqb, cond-true, cond-false, true≢false}
use Rattle.aero_model.specs.declared.numbered.Numbered.{Numbered}
use Rattle.aero_model.specs.declared.numbered.What.{What}
use Rattle.aero_model.specs.declared.numbered.What.TheVariants.{Read, Write, Acquire, Release, Fork, Join, Begin, End, Exempt}
use Rattle.aero_model.specs.declared.verdict.ShapeFault.TheVariants.{ForkSelf, ForkStarted, JoinSelf, EndWithoutBegin, ThreadJoined}
use Rattle.aero_model.specs.Blocks.{depth, blocks, is_begin, is_end, by_thread, closes}
use Rattle.aero_model.specs.Shape.{has_acted, was_forked, was_joined, has_started, deed_fault, shape_fault, IsWellFormed}
use Rattle.aero_model.proofs.Begins.{blocks_at_most}
use Rattle.aero_model.proofs.Stability.{agree_front, depth_same}
use Rattle.aero_shape.specs.declared.admission.Admitted.{Admitted}
use Rattle.aero_shape.specs.declared.admission.Admitted.TheVariants.{Plain, OuterBegin, OuterEnd, IdleJoin}
use Rattle.aero_shape.specs.Admission.{deed_as}
use Rattle.aero_model.specs.Exempt.{IsBare, IsJudgedWhat, IsJudgedAs}
use Rattle.aero_engine.specs.Events.{event, IsIdle, exempt, inner_begin, inner_end, idle_join}
use Rattle.aero_engine.specs.Given.{begins_block, ends_block}
use Rattle.aero_engine.specs.Judging.{ComesAfter}

-- whether an answer says that a thread is joined that has not acted
abbrev joins_idle : Admitted → Bool
joins_idle IdleJoin = true
joins_idle _ = false

-- a test of one of two answers
either : (test : Admitted → Bool) (b : Bool) (x y : Admitted) (t : Bool) → test x ≡ t → test y ≡ t → test (if b then x else y) ≡ t
either test true x y t first second = first
either test false x y t first second = second

chosen : (test : Admitted → Bool) (b : Bool) (x y : Admitted) → test x ≡ true → test y ≡ false → test (if b then x else y) ≡ b
chosen test true x y first second = first
chosen test false x y first second = second

pub begins_as : (h : List Numbered) (d : ℕ) (w : What) → begins_block (deed_as h d w) ≡ (is_begin w && (d == 0))
begins_as h d (Read x) = refl
begins_as h d (Write x) = refl
begins_as h d (Acquire l) = refl
begins_as h d (Release l) = refl
begins_as h d (Fork u) = refl
begins_as h d (Join u) = either begins_block (has_acted h u) (Plain (nat_lt 0 d)) IdleJoin false refl refl
begins_as h d (Begin label) = chosen begins_block (d == 0) OuterBegin (Plain true) refl refl
begins_as h d End = either begins_block (d == 1) OuterEnd (Plain (nat_lt 0 d)) false refl refl
begins_as h d Exempt = refl

pub ends_as : (h : List Numbered) (d : ℕ) (w : What) → ends_block (deed_as h d w) ≡ (is_end w && (d == 1))
ends_as h d (Read x) = refl
ends_as h d (Write x) = refl
ends_as h d (Acquire l) = refl
ends_as h d (Release l) = refl
ends_as h d (Fork u) = refl
ends_as h d (Join u) = either ends_block (has_acted h u) (Plain (nat_lt 0 d)) IdleJoin false refl refl
ends_as h d (Begin label) = either ends_block (d == 0) OuterBegin (Plain true) false refl refl
ends_as h d End = chosen ends_block (d == 1) OuterEnd (Plain (nat_lt 0 d)) refl refl
ends_as h d Exempt = refl

is_end_only : (w : What) → is_end w ≡ true → w ≡ End
is_end_only (Read x) is = absurd (cc)
is_end_only (Write x) is = absurd (cc)
is_end_only (Acquire l) is = absurd (cc)
is_end_only (Release l) is = absurd (cc)
is_end_only (Fork u) is = absurd (cc)
is_end_only (Join u) is = absurd (cc)
is_end_only (Begin label) is = absurd (cc)
is_end_only End is = refl
is_end_only Exempt is = absurd (cc)

pub outer_end : (h : List Numbered) (d : ℕ) (w : What) → OuterEnd ≡ deed_as h d w → (w ≡ End) × (d ≡ 1)
outer_end h d w is =
    let both : (is_end w && (d == 1)) ≡ true = sym (ends_as h d w) ∙ ap ends_block (sym is) in
    let parts = and_parts (is_end w) (d == 1) both in
    (is_end_only w parts.0, eqb-true d 1 parts.1)

-- a join of a thread that has not acted
pub record JoinsIdle (h : List Numbered) (w : What) : Type 0 where
  pub thread : ℕ
  pub what : w ≡ Join thread
  pub idle : has_acted h thread ≡ false

no_join : (a : Admitted) → IdleJoin ≡ a → joins_idle a ≡ false → ⊥
no_join a is other = true≢false (ap joins_idle is ∙ other)

pub idle_join_is : (h : List Numbered) (d : ℕ) (w : What) → IdleJoin ≡ deed_as h d w → JoinsIdle h w
idle_join_is h d (Read x) is = absurd (cc)
idle_join_is h d (Write x) is = absurd (cc)
idle_join_is h d (Acquire l) is = absurd (cc)
idle_join_is h d (Release l) is = absurd (cc)
idle_join_is h d (Fork u) is = absurd (cc)
idle_join_is h d (Join u) is = go (has_acted h u) refl
  where
    go : (b : Bool) → has_acted h u ≡ b → JoinsIdle h (Join u)
    go true acted = absurd (let plain = cond-true (has_acted h u) (Plain (nat_lt 0 d)) IdleJoin acted in cc)
    go false idle = record { thread = u; what = refl; idle = idle }
idle_join_is h d (Begin label) is = absurd (no_join _ is (either joins_idle (d == 0) OuterBegin (Plain true) false refl refl))
idle_join_is h d End is = absurd (no_join _ is (either joins_idle (d == 1) OuterEnd (Plain (nat_lt 0 d)) false refl refl))
idle_join_is h d Exempt is = absurd (cc)

-- what is not joined when idle has acted
pub plain_join : (h : List Numbered) (d u : ℕ) (b : Bool) → Plain b ≡ deed_as h d (Join u) → has_acted h u ≡ true
plain_join h d u b is =
    elim (cases_Bool (has_acted h u)) [
      | inl acted ↦ acted
      | inr idle ↦ absurd (let none = cond-false (has_acted h u) (Plain (nat_lt 0 d)) IdleJoin idle in cc)
    ]

pub plain_begin : (h : List Numbered) (d : ℕ) (b : Bool) → Plain b ≡ deed_as h d (Begin None) → 0 < d
plain_begin h d b is =
    elim (cases_eq d 0) [
      | inl none ↦ absurd (let outer = cond-true (d == 0) OuterBegin (Plain true) (eq-eqb d 0 none) in cc)
      | inr some ↦ omega arith
    ]

pub plain_end : (h : List Numbered) (d : ℕ) (b : Bool) → Plain b ≡ deed_as h d End → d ≢ 1
plain_end h d b is = λ one. let outer = cond-true (d == 1) OuterEnd (Plain (nat_lt 0 d)) (eq-eqb d 1 one) in cc

-- what a well-formed event does

module _ (h : List Numbered) (t : ℕ) where
  no_deed_fault : (w : What) → shape_fault h (event t w) ≡ None → deed_fault h t w ≡ None
  no_deed_fault w fits =
      elim (cases_Bool (was_joined h t)) [
        | inl joined ↦ absurd (let fault = cond-true (was_joined h t) (Some ThreadJoined) (deed_fault h t w) joined in cc)
        | inr free ↦ sym (cond-false (was_joined h t) (Some ThreadJoined) (deed_fault h t w) free) ∙ fits
      ]

  pub fork_other : (u : ℕ) → shape_fault h (event t (Fork u)) ≡ None → u ≢ t
  fork_other u fits = λ same.
      let none = no_deed_fault (Fork u) fits in
      let fault = cond-true (u == t) (Some ForkSelf) (if has_started h u then Some ForkStarted else None) (eq-eqb u t same) in
      cc

  pub fork_fresh : (u : ℕ) → shape_fault h (event t (Fork u)) ≡ None → has_acted h u ≡ false
  fork_fresh u fits = go (has_acted h u) refl
    where
      go : (b : Bool) → has_acted h u ≡ b → has_acted h u ≡ false
      go false acted = acted
      go true acted =
          elim (cases_Bool (u == t)) [
            | inl same ↦ absurd (fork_other u fits (eqb-true u t same))
            | inr other ↦ absurd (
                let none = no_deed_fault (Fork u) fits in
                let first = cond-false (u == t) (Some ForkSelf) (if has_started h u then Some ForkStarted else None) other in
                let second = cond-true (has_started h u) (Some ForkStarted) None (started acted) in
                cc)
          ]
        where
          started : has_acted h u ≡ true → has_started h u ≡ true
          started a = ap (λ b. (b || was_forked h u) || was_joined h u) a

  pub join_other : (u : ℕ) → shape_fault h (event t (Join u)) ≡ None → u ≢ t
  join_other u fits = λ same.
      let none = no_deed_fault (Join u) fits in
      let fault = cond-true (u == t) (Some JoinSelf) None (eq-eqb u t same) in
      cc

  pub end_inside : shape_fault h (event t End) ≡ None → depth h t (length h) ≢ 0
  end_inside fits = λ outside.
      let none = no_deed_fault End fits in
      let fault = cond-true (depth h t (length h) == 0) (Some EndWithoutBegin) None (eq-eqb (depth h t (length h)) 0 outside) in
      cc

slice_get_last : {X : Type 0} (xs : List X) (x : X) → slice_get (xs ++ x ∷ []) (length xs) ≡ Some x
slice_get_last [] x = refl
slice_get_last (y ∷ ys) x = slice_get_last ys x

-- the end of the only open block closes it
pub closes_last : (h : List Numbered) (t : ℕ) → depth h t (length h) ≡ 1 → closes (h ++ event t End ∷ []) t (length h) ≡ true
closes_last h t one =
    let here = slice_get_last h (event t End) in
    let same = sym (depth_same h (h ++ event t End ∷ []) t (length h) (agree_front (length h) h (event t End ∷ []) (omega arith))) ∙ one in
    and_from (by_thread t is_end (slice_get (h ++ event t End ∷ []) (length h))) (depth (h ++ event t End ∷ []) t (length h) == 1)
    (ap (by_thread t is_end) here ∙ ap (λ b. b && true) (eq-eqb t t refl))
    (eq-eqb _ 1 same)

-- what the calls for the event say of the longer list
module _ (stands : List Numbered → Type 0) (h : List Numbered) (e judged : Numbered) (judges : IsJudgedAs e judged) (admitted : Admitted) (after : ComesAfter stands h judged admitted) where
  its_thread : {what : What} → judged.what ≡ what → judged ≡ event e.thread what
  its_thread {what} is = ap (λ t. event t judged.what) judges.thread ∙ ap (event e.thread) is

  pub begins_few : length h < 2 ^ 32 - 1 → (begins : ℕ) → begins ≡ blocks h e.thread (length h) → begins < 2 ^ 32 - 1
  begins_few short begins same =
      let few : blocks h e.thread (length h) ≤ length h = blocks_at_most h e.thread (length h) in
      omega (arith, short, same, few)

  pub end_follows :
      (Is : List Numbered → Type 0)
      → admitted ≡ OuterEnd
      → (stands h → IsWellFormed (h ++ event e.thread End ∷ []) → closes (h ++ event e.thread End ∷ []) e.thread (length h) ≡ true → Is (h ++ event e.thread End ∷ []))
      → Is (h ++ judged ∷ [])
  end_follows Is is follows =
      let ends = outer_end h (depth h judged.thread (length h)) judged.what (sym is ∙ after.kind) in
      let same : judged ≡ event e.thread End = its_thread ends.0 in
      subst (λ f. Is (h ++ f ∷ [])) (sym same)
      (follows after.standing (subst (λ f. IsWellFormed (h ++ f ∷ [])) same after.well_formed) (closes_last h e.thread (ap (λ t. depth h t (length h)) (sym judges.thread) ∙ ends.1)))

  -- it is an event of the thread that was read
  pub plain_after : ComesAfter stands h (event e.thread judged.what) admitted
  plain_after = subst (λ f. ComesAfter stands h f admitted) (its_thread refl) after

  pub plain_follows : (Is : List Numbered → Type 0) → (ComesAfter stands h (event e.thread judged.what) admitted → Is (h ++ event e.thread judged.what ∷ [])) → Is (h ++ judged ∷ [])
  plain_follows Is follows = subst (λ f. Is (h ++ f ∷ [])) (sym (its_thread refl)) (follows plain_after)

  pub idle_here : admitted ≡ IdleJoin → IsIdle h e.thread judged.what
  idle_here is =
      let joins = idle_join_is h (depth h judged.thread (length h)) judged.what (sym is ∙ after.kind) in
      subst (IsIdle h e.thread) (sym joins.what) (idle_join joins.thread joins.idle)

-- what a begin or an end is judged as, and what is exempt, has no label
bare : (what judged : What) → IsJudgedWhat what judged → ((label : Option ℕ) × (what ≡ Begin label)) ⊎ ((what ≡ End) ⊎ (what ≡ Exempt)) → IsBare judged
bare what judged judges (inl (label, is)) = subst (λ w. IsJudgedWhat w judged) is judges
bare what judged judges (inr (inl is)) = subst (λ w. IsJudgedWhat w judged) is judges
bare what judged judges (inr (inr is)) = subst (λ w. IsJudgedWhat w judged) is judges

-- such an event begins and ends no outermost block
bare_idle : (stands : List Numbered → Type 0) (h : List Numbered) (t : ℕ) (judged : What) (b : Bool) → ComesAfter stands h (event t judged) (Plain b) → IsBare judged → IsIdle h t judged
bare_idle stands h t (Begin None) b after is = inner_begin (plain_begin h (depth h t (length h)) b after.kind)
bare_idle stands h t End b after is =
    let other = plain_end h (depth h t (length h)) b after.kind in
    let inside = end_inside h t after.in_shape in
    inner_end (omega (arith, other, inside))
bare_idle stands h t Exempt b after is = exempt
bare_idle stands h t _ b after is = absurd is

pub idle_inside : (stands : List Numbered → Type 0) (h : List Numbered) (t : ℕ) (what judged : What) (b : Bool) → IsJudgedWhat what judged → ComesAfter stands h (event t judged) (Plain b) → ((label : Option ℕ) × (what ≡ Begin label)) ⊎ ((what ≡ End) ⊎ (what ≡ Exempt)) → IsIdle h t judged
idle_inside stands h t what judged b judges after is = bare_idle stands h t judged b after (bare what judged judges is)
