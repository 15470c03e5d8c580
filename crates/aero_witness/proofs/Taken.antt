-- What is taken of the places with a number, one after another.
use Rattle.std.proofs.Common.{◌≡◌, ◌⊎◌, ℕ, ◌+◌, ◌<◌, ◌≤◌, ◌==◌, if◌then◌else◌, List, [], ◌∷◌, ◌++◌, length, Option, Some, None, inl, inr, sym, ◌∙◌, ap, subst, arith}
use Rattle.std.specs.Prelude.{Contains}
use Rattle.std.proofs.lemmas.Bool.{cases_eq, cases_lt, cond-true, cond-false, eq-eqb, ne_eqb}
use Rattle.std.proofs.lemmas.Option.{same_Some}
use Rattle.std.proofs.lemmas.List.Elements.{Contains-append_left, Contains-push, Contains-push_cases}
use Rattle.aero_model.proofs.Elements.{here, none_in, first_or_rest}
use Rattle.aero_witness.specs.declared.buckets.Arrival.{Arrival}
use Rattle.aero_witness.specs.Buckets.{head_at, IsLast, IsOf, AreLinks, AreHeads, HasArrival, Keeps, AreTaken, IsTakenTo, IsBy, AreDrawn}

-- the same before it has come behind the place
pub record Taking (before : List ℕ) (i head rest : ℕ) (old new : List Arrival) : Type 0 where
  pub less : rest ≤ head
  pub kept : Keeps old new
  pub by : (t : ℕ → Option ℕ) (m : ℕ) → AreLinks t before → ((j : ℕ) → head ≡ j + 1 → t j ≡ Some m) → AreTaken t m i head rest old new

pub none_taken : (before : List ℕ) (i head : ℕ) (old : List Arrival) → Taking before i head head old old
none_taken before i head old =
    record {
      less = omega arith;
      kept = λ c h. h;
      by = λ t m links is. record { is = is; only = λ c h. inl h; all = λ j le e. inl le };
    }

pub has_kept : (old new : List Arrival) → Keeps old new → (j : ℕ) → HasArrival old j → HasArrival new j
has_kept old new kept j (c, h, e) = (c, kept c h, e)

module _ (before : List ℕ) (i head rest j : ℕ) (old cur new : List Arrival) (c : Arrival) (c_is : c ≡ record { enters = j; from = i }) (pushed : new ≡ cur ++ c ∷ []) (behind : i < j) (rest_is : rest ≡ j + 1) (within : head ≤ length before) (falls : head_at before j ≤ j) (w : Taking before i head rest old cur) where
  from_cur : Keeps cur new
  from_cur d h = subst (λ (xs : List Arrival). Contains xs d) (sym {A = List Arrival} pushed) (Contains-append_left cur (c ∷ []) d h)

  c_enters : c.enters ≡ j
  c_enters = ap (λ (l : Arrival). l.enters) c_is

  c_from : c.from ≡ i
  c_from = ap (λ (l : Arrival). l.from) c_is

  one_more : HasArrival new j
  one_more = (c, subst (λ (xs : List Arrival). Contains xs c) (sym {A = List Arrival} pushed) (Contains-push cur c), c_enters)

  module _ (t : ℕ → Option ℕ) (m : ℕ) (links : AreLinks t before) (is : (k : ℕ) → head ≡ k + 1 → t k ≡ Some m) where
    was : AreTaken t m i head rest old cur
    was = w.by t m links is

    here_is : t j ≡ Some m
    here_is = was.is j rest_is

    last : IsLast (IsOf t m) j (head_at before j)
    last = let less = w.less in links.at j m (omega arith) here_is

    only : (d : Arrival) → Contains new d → Contains old d ⊎ ((d.from ≡ i) × (i < d.enters) × (t d.enters ≡ Some m))
    only d h = elim (Contains-push_cases cur c d (subst (λ (xs : List Arrival). Contains xs d) pushed h)) [
      | inl was_in ↦ was.only d was_in
      | inr same ↦ (let enters : d.enters ≡ j = sym (ap (λ (l : Arrival). l.enters) same) ∙ c_enters in inr (sym (ap (λ (l : Arrival). l.from) same) ∙ c_from, (let l : i < d.enters = omega arith in l), ap t enters ∙ here_is))
    ]

    all : (k : ℕ) → head_at before j ≤ k → t k ≡ Some m → (head ≤ k) ⊎ HasArrival new k
    all k le e = elim (cases_lt k j) [
      | inl less ↦ absurd (last.none k le less e)
      | inr ge ↦ elim (cases_eq j k) [
        | inl same ↦ inr (subst (HasArrival new) same one_more)
        | inr other ↦ elim (was.all k (omega arith) e) [ inl past ↦ inl past | inr has ↦ inr (has_kept cur new from_cur k has) ]
      ]
    ]

    next : AreTaken t m i head (head_at before j) old new
    next = record { is = λ k e. (last.is k e).1; only = only; all = all }

  pub one_taken : Taking before i head (head_at before j) old new
  one_taken = let less = w.less in record { less = omega arith; kept = λ d h. from_cur d (w.kept d h); by = next }

-- the heads of a bucket, of which one number's is taken from
module _ (s t : ℕ → Option ℕ) (place n : ℕ) (old new : List ℕ) (arrivals arrivals' : List Arrival) (are : AreHeads t n old) where
  pub none_drawn : s place ≡ None → new ≡ old → arrivals' ≡ arrivals → AreDrawn s t (place ∷ []) n old new arrivals arrivals'
  none_drawn none same same_leads =
      subst (λ (xs : List ℕ). AreDrawn s t (place ∷ []) n old xs arrivals arrivals') (sym {A = List ℕ} same)
      (subst (AreDrawn s t (place ∷ []) n old old arrivals) (sym {A = List Arrival} same_leads) (record {
        are = are;
        low = λ i m h e. elim (first_or_rest place [] h) [
          | inl is ↦ (let both : Some m ≡ None = sym e ∙ ap s is ∙ none in absurd (cc))
          | inr rest ↦ absurd (none_in {x = i} rest)
        ];
        less = λ m. omega arith;
        kept = λ c h. h;
        only = λ c h. inl h;
        all = λ m j le e. inl le;
      }))

  module _ (number rest : ℕ) (before : List ℕ) (n_is : n ≡ length before) (source : s place ≡ Some number) (links : AreLinks t before) (taken : IsTakenTo before place (head_at old number) rest arrivals arrivals') (step : (m : ℕ) → head_at new m ≡ (if number == m then rest else head_at old m)) where
    at_number : (m : ℕ) → number ≡ m → head_at new m ≡ rest
    at_number m e = step m ∙ cond-true (number == m) rest (head_at old m) (eq-eqb number m e)

    at_other : (m : ℕ) → (number ≡ m → ⊥) → head_at new m ≡ head_at old m
    at_other m ne = step m ∙ cond-false (number == m) rest (head_at old m) (ne_eqb number m ne)

    taken_by : AreTaken t number place (head_at old number) rest arrivals arrivals'
    taken_by = taken.by t number links (are.is number)

    less : (m : ℕ) → head_at new m ≤ head_at old m
    less m = elim (cases_eq number m) [
      | inl same ↦ (let e = at_number m same in let f = ap (head_at old) same in let l = taken.less in omega arith)
      | inr other ↦ (let e = at_other m other in omega arith)
    ]

    is_of : (m j : ℕ) → head_at new m ≡ j + 1 → t j ≡ Some m
    is_of m j e = elim (cases_eq number m) [
      | inl same ↦ taken_by.is j (sym (at_number m same) ∙ e) ∙ ap Some same
      | inr other ↦ are.is m j (sym (at_other m other) ∙ e)
    ]

    low : (i m : ℕ) → Contains (place ∷ []) i → s i ≡ Some m → head_at new m ≤ i + 1
    low i m h e = elim (first_or_rest place [] h) [
      | inr none ↦ absurd (none_in {x = i} none)
      | inl i_is ↦
          let same : number ≡ m = same_Some number m (sym source ∙ ap s (sym i_is) ∙ e) in
          let f = at_number m same in
          let l = taken.low in
          omega arith
    ]

    all_of : (m j : ℕ) → head_at new m ≤ j → t j ≡ Some m → (head_at old m ≤ j) ⊎ HasArrival arrivals' j
    all_of m j le e = elim (cases_eq number m) [
      | inl same ↦
          let f = at_number m same in
          elim (taken_by.all j (let l : rest ≤ j = omega arith in l) (e ∙ ap Some (sym same))) [
            | inl past ↦ (let g = ap (head_at old) same in inl (let l : head_at old m ≤ j = omega arith in l))
            | inr has ↦ inr has
          ]
      | inr other ↦ (let f = at_other m other in inl (let l : head_at old m ≤ j = omega arith in l))
    ]

    only_of : (c : Arrival) → Contains arrivals' c → Contains arrivals c ⊎ IsBy s t (place ∷ []) c
    only_of c h = elim (taken_by.only c h) [
      | inl was ↦ inl was
      | inr (from, l, target) ↦
          inr (record {
            in_front = subst (Contains (place ∷ [])) (sym from) (here []);
            earlier = omega arith;
            number = number;
            source = ap s from ∙ source;
            target = target;
          })
    ]

    pub one_drawn : AreDrawn s t (place ∷ []) n old new arrivals arrivals'
    one_drawn =
        record {
          are = record { within = λ m. (let l = less m in let w = are.within m in omega arith); is = is_of };
          low = low;
          less = less;
          kept = taken.kept;
          only = only_of;
          all = all_of;
        }
