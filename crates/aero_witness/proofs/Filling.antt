-- The last places with each number, with one place more.
use Rattle.std.proofs.Common.{◌≡◌, ℕ, zero, suc, ◌+◌, ◌<◌, ◌≤◌, ◌⊎◌, if◌then◌else◌, Bool, true, false, List, [], ◌∷◌, ◌++◌, length, Option, Some, None, inl, inr, refl, sym, ◌∙◌, ap, subst, arith}
use Rattle.std.specs.Prelude.{◌↔◌, slice_get}
use Rattle.std.proofs.lemmas.Bool.{cases_eq, cases_lt, eq-eqb, eqb-true, false≢true}
use Rattle.std.proofs.lemmas.List.{length_push, get_or_append_left, get_or_push, get_or_past}
use Rattle.aero_witness.specs.declared.kinds.Kind.{Kind}
use Rattle.aero_witness.specs.declared.buckets.Bucket.{Bucket}
use Rattle.aero_witness.specs.Buckets.{head_at, head_of, is_number, IsLast, IsOf, IsOriginOf, AreLinks, IsAdded, AreFilled, IsFilled, IsBucket, AreOrigins, IsFull}
use Rattle.aero_witness.specs.Kinds.{targets, has_first, outside}
use Rattle.aero_witness.proofs.Kinded.{target_within}
use Rattle.aero_model.specs.declared.numbered.Numbered.{Numbered}

number_is : (o : Option ℕ) (m : ℕ) → is_number o m ≡ true → o ≡ Some m
number_is None m e = absurd (false≢true e)
number_is (Some k) m e = ap Some (eqb-true k m e)

is_numbered : (o : Option ℕ) (m : ℕ) → o ≡ Some m → is_number o m ≡ true
is_numbered o m e = ap (λ p. is_number p m) e ∙ eq-eqb m m refl

pub last_within : (P : ℕ → Type 0) (n h : ℕ) → IsLast P n h → h ≤ n
last_within P n zero last = omega arith
last_within P n (suc k) last = let l = (last.is k (omega arith)).0 in omega arith

last_step : (P : ℕ → Type 0) (n h new : ℕ) (b : Bool) → (b ≡ true → P n) → (P n → b ≡ true) → new ≡ (if b then n + 1 else h) → IsLast P n h → IsLast P (n + 1) new
last_step P n h new true holds from e last =
    record {
      is = λ j j_is. (let same : n ≡ j = omega arith in (omega arith, subst P same (holds refl)));
      none = λ j le less p. omega arith;
    }
last_step P n h new false holds from e last =
    record {
      is = λ j j_is. (let old = last.is j (sym e ∙ j_is) in let l = old.0 in (omega arith, old.1));
      none = λ j le less p. elim (cases_eq j n) [
        | inl same ↦ false≢true (from (subst P same p))
        | inr other ↦ last.none j (omega arith) (omega arith) p
      ];
    }

same_bool : (a b : Bool) → (a ≡ true → b ≡ true) → (b ≡ true → a ≡ true) → a ≡ b
same_bool true b to from = sym (to refl)
same_bool false true to from = from refl
same_bool false false to from = refl

first_is : (first : ℕ) (o : Option ℕ) → has_first first o ≡ true → o ≡ Some first
first_is first None e = absurd (false≢true e)
first_is first (Some f) e = ap Some (eqb-true f first e)

module _ (t : ℕ → Option ℕ) (firsts : List ℕ) (first n : ℕ) (number : Option ℕ) (number_at : t n ≡ number) where
  -- at the origin it has its number
  pub inner_is : (at_origin : Bool) → ((at_origin ≡ true) ↔ (slice_get firsts n ≡ Some first)) → (m : ℕ) → ((if at_origin then number else None) ≡ Some m) ↔ IsOriginOf t firsts first m n
  inner_is true origin_at m = (λ e. (origin_at.0 refl, number_at ∙ e), λ h. sym number_at ∙ h.1)
  inner_is false origin_at m = (λ e. absurd (cc), λ h. absurd (false≢true (origin_at.1 h.0)))

  -- and elsewhere
  pub outer_is : (at_origin : Bool) → ((at_origin ≡ true) ↔ (slice_get firsts n ≡ Some first)) → (if has_first first (slice_get firsts n) then None else t n) ≡ (if at_origin then None else number)
  outer_is at_origin origin_at =
      let same = same_bool (has_first first (slice_get firsts n)) at_origin (λ e. origin_at.1 (first_is first (slice_get firsts n) e)) (λ e. ap (has_first first) (origin_at.0 e) ∙ eq-eqb first first refl) in
      ap (λ b. if b then None else t n) same ∙ ap (λ o. if at_origin then None else o) number_at

-- a target that isn't at the origin
outside_by : (b : Bool) (o : Option ℕ) (m : ℕ) → (if b then None else o) ≡ Some m → o ≡ Some m
outside_by true o m e = absurd (cc)
outside_by false o m e = e

pub outside_is : (trace : List Numbered) (firsts : List ℕ) (first : ℕ) (k : Kind) (m j : ℕ) → outside trace firsts first k j ≡ Some m → targets trace k j ≡ Some m
outside_is trace firsts first k m j e = outside_by (has_first first (slice_get firsts j)) (targets trace k j) m e

origin_or : (b : Bool) (o : Option ℕ) (m : ℕ) → o ≡ Some m → (b ≡ true) ⊎ ((if b then None else o) ≡ Some m)
origin_or true o m e = inl refl
origin_or false o m e = inr e

pub origin_or_outside : (trace : List Numbered) (firsts : List ℕ) (first : ℕ) (k : Kind) (m j : ℕ) → targets trace k j ≡ Some m → (slice_get firsts j ≡ Some first) ⊎ (outside trace firsts first k j ≡ Some m)
origin_or_outside trace firsts first k m j e = elim (origin_or (has_first first (slice_get firsts j)) (targets trace k j) m e) [
  | inl at_origin ↦ inl (first_is first (slice_get firsts j) at_origin)
  | inr out ↦ inr out
]

-- one more place
module _ (t u : ℕ → Option ℕ) (firsts : List ℕ) (first n : ℕ) (inner number : Option ℕ) (old new : Bucket) (f : AreFilled t u firsts first n old.before.items old.origins.items old.heads.items) (added : IsAdded inner number n old new) (inner_at : (m : ℕ) → (inner ≡ Some m) ↔ IsOriginOf t firsts first m n) (number_at : u n ≡ number) where
  abbrev before : List ℕ
  before = old.before.items

  abbrev heads : List ℕ
  heads = old.heads.items

  here_is : head_at (before ++ head_of heads number ∷ []) n ≡ head_of heads number
  here_is = get_or_push before (head_of heads number) 0 n f.each

  below_is : (j : ℕ) → j < n → head_at (before ++ head_of heads number ∷ []) j ≡ head_at before j
  below_is j l = let each = f.each in get_or_append_left before (head_of heads number ∷ []) 0 j (omega arith)

  past_is : (j : ℕ) → n < j → head_at (before ++ head_of heads number ∷ []) j ≡ 0
  past_is j l = let each = f.each in let more = length_push before (head_of heads number) in get_or_past (before ++ head_of heads number ∷ []) j 0 (omega arith)

  head_within : (o : Option ℕ) → head_of heads o ≤ n
  head_within None = omega arith
  head_within (Some m) = last_within (IsOf u m) n (head_at heads m) (f.are_heads m)

  links : AreLinks u (before ++ head_of heads number ∷ [])
  links =
      record {
        at = λ j m l e. elim (cases_eq j n) [
          | inl same ↦
              let of : number ≡ Some m = sym number_at ∙ ap u (sym same) ∙ e in
              let head : head_at (before ++ head_of heads number ∷ []) j ≡ head_at heads m = ap (head_at (before ++ head_of heads number ∷ [])) same ∙ here_is ∙ ap (head_of heads) of in
              subst (IsLast (IsOf u m) j) (sym head) (subst (λ k. IsLast (IsOf u m) k (head_at heads m)) (sym same) (f.are_heads m))
          | inr other ↦
              let each = f.each in
              let more = length_push before (head_of heads number) in
              let less : j < n = omega arith in
              subst (IsLast (IsOf u m) j) (sym (below_is j less)) (f.links.at j m (omega arith) e)
        ];
        falls = λ j. elim (cases_lt j n) [
          | inl less ↦ (let e = below_is j less in let le = f.links.falls j in omega arith)
          | inr ge ↦ elim (cases_eq j n) [
            | inl same ↦ (let e = ap (head_at (before ++ head_of heads number ∷ [])) same ∙ here_is in let le = head_within number in omega arith)
            | inr other ↦ (let e = past_is j (omega arith) in omega arith)
          ]
        ];
      }

  pub one_filled : AreFilled t u firsts first (n + 1) new.before.items new.origins.items new.heads.items
  one_filled =
      record {
        each = ap (λ (xs : List ℕ). length xs) added.before ∙ length_push before (head_of heads number) ∙ ap (λ k. k + 1) f.each;
        links = subst (AreLinks u) (sym {A = List ℕ} added.before) links;
        are_origins = λ m.
            last_step (IsOriginOf t firsts first m) n (head_at old.origins.items m) (head_at new.origins.items m) (is_number inner m)
            (λ e. (inner_at m).0 (number_is inner m e))
            (λ h. is_numbered inner m ((inner_at m).1 h))
            (added.origins m)
            (f.are_origins m);
        are_heads = λ m.
            last_step (IsOf u m) n (head_at heads m) (head_at new.heads.items m) (is_number number m)
            (λ e. number_at ∙ number_is number m e)
            (λ h. is_numbered number m (sym number_at ∙ h))
            (added.heads m)
            (f.are_heads m);
      }

module _ (trace : List Numbered) (firsts : List ℕ) (first : ℕ) where
  pub same_kind : (n : ℕ) (old new : Bucket) → new.kind ≡ old.kind → AreFilled (targets trace old.kind) (outside trace firsts first old.kind) firsts first (n + 1) new.before.items new.origins.items new.heads.items → IsFilled trace firsts first (n + 1) new
  same_kind n old new e f = subst (λ (k : Kind). AreFilled (targets trace k) (outside trace firsts first k) firsts first (n + 1) new.before.items new.origins.items new.heads.items) (sym {A = Kind} e) f

  -- all places
  pub all_filled : (k : Kind) (bucket : Bucket) → bucket.kind ≡ k → IsFilled trace firsts first (length trace) bucket → IsBucket trace (outside trace firsts first) k bucket × AreOrigins trace firsts first k bucket × IsFull trace firsts first k bucket
  all_filled k bucket e f = (is, g.are_origins, full)
    where
      g : AreFilled (targets trace k) (outside trace firsts first k) firsts first (length trace) bucket.before.items bucket.origins.items bucket.heads.items
      g = subst (λ (l : Kind). AreFilled (targets trace l) (outside trace firsts first l) firsts first (length trace) bucket.before.items bucket.origins.items bucket.heads.items) e f

      is : IsBucket trace (outside trace firsts first) k bucket
      is =
          record {
            kind = e;
            each = g.each;
            some = λ m j at. outside_is trace firsts first k m j at;
            links = g.links;
            heads = record {
              within = λ m. last_within (IsOf (outside trace firsts first k) m) (length trace) (head_at bucket.heads.items m) (g.are_heads m);
              is = λ m j h. ((g.are_heads m).is j h).1;
            };
          }

      full : IsFull trace firsts first k bucket
      full m j le at = (g.are_heads m).none j le (target_within trace k j m (outside_is trace firsts first k m j at)) at
