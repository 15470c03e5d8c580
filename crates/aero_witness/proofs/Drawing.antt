-- What a front takes of a bucket, one place after another.
use Rattle.std.proofs.Common.{ℕ, List, [], ◌∷◌, ◌++◌, length, Option, inl, inr, refl, sym, ◌∙◌, ap, subst, arith}
use Rattle.std.specs.Prelude.{Contains}
use Rattle.std.proofs.lemmas.List.Elements.{Contains-append_left, Contains-append_right, Contains-push_cases}
use Rattle.aero_model.proofs.Elements.{here, none_in}
use Rattle.aero_model.specs.declared.numbered.Numbered.{Numbered}
use Rattle.aero_witness.specs.declared.kinds.Kind.{Kind}
use Rattle.aero_witness.specs.declared.buckets.Bucket.{Bucket}
use Rattle.aero_witness.specs.declared.buckets.Arrival.{Arrival}
use Rattle.aero_witness.specs.Buckets.{AreLinks, AreHeads, IsBucket, IsSameBut, IsBy, AreDrawn}
use Rattle.aero_witness.proofs.Taken.{has_kept}

pub same_but : (bucket : Bucket) → IsSameBut bucket bucket
same_but bucket = record { kind = refl; before = refl; origins = refl }

pub still_but : (old cur new : Bucket) → IsSameBut old cur → IsSameBut cur new → IsSameBut old new
still_but old cur new one two = record { kind = two.kind ∙ one.kind; before = two.before ∙ one.before; origins = two.origins ∙ one.origins }

-- with other heads
pub still_bucket : (trace : List Numbered) (outer : Kind → ℕ → Option ℕ) (k : Kind) (old new : Bucket) → IsBucket trace outer k old → IsSameBut old new → AreHeads (outer k) (length trace) new.heads.items → IsBucket trace outer k new
still_bucket trace outer k old new bucket same heads =
    record {
      kind = same.kind ∙ bucket.kind;
      each = ap (λ (xs : List ℕ). length xs) same.before ∙ bucket.each;
      some = bucket.some;
      links = subst (AreLinks (outer k)) (sym {A = List ℕ} same.before) bucket.links;
      heads = heads;
    }

module _ (s t : ℕ → Option ℕ) (n : ℕ) where
  pub no_front : (heads : List ℕ) (arrivals : List Arrival) → AreHeads t n heads → AreDrawn s t [] n heads heads arrivals arrivals
  no_front heads arrivals are =
      record {
        are = are;
        low = λ i m h e. absurd (none_in {x = i} h);
        less = λ m. omega arith;
        kept = λ c h. h;
        only = λ c h. inl h;
        all = λ m j le e. inl le;
      }

  wider : (xs ys : List ℕ) → ((i : ℕ) → Contains xs i → Contains ys i) → (c : Arrival) → IsBy s t xs c → IsBy s t ys c
  wider xs ys more c by = record { in_front = more c.from by.in_front; earlier = by.earlier; number = by.number; source = by.source; target = by.target }

  module _ (front : List ℕ) (place : ℕ) (old cur new : List ℕ) (arrivals arrivals' arrivals'' : List Arrival) (one : AreDrawn s t front n old cur arrivals arrivals') (two : AreDrawn s t (place ∷ []) n cur new arrivals' arrivals'') where
    pub more_drawn : AreDrawn s t (front ++ place ∷ []) n old new arrivals arrivals''
    more_drawn =
        record {
          are = two.are;
          low = λ i m h e. elim (Contains-push_cases front place i h) [
            | inl was ↦ (let l = one.low i m was e in let d = two.less m in omega arith)
            | inr same ↦ two.low i m (subst (Contains (place ∷ [])) same (here [])) e
          ];
          less = λ m. (let a = one.less m in let b = two.less m in omega arith);
          kept = λ c h. two.kept c (one.kept c h);
          only = λ c h. elim (two.only c h) [
            | inr by ↦ inr (wider (place ∷ []) (front ++ place ∷ []) (λ i. Contains-append_right front (place ∷ []) i) c by)
            | inl was ↦ elim (one.only c was) [
              | inl before ↦ inl before
              | inr by ↦ inr (wider front (front ++ place ∷ []) (λ i. Contains-append_left front (place ∷ []) i) c by)
            ]
          ];
          all = λ m j le e. elim (two.all m j le e) [
            | inr has ↦ inr has
            | inl past ↦ elim (one.all m j past e) [ inl before ↦ inl before | inr has ↦ inr (has_kept arrivals' arrivals'' two.kept j has) ]
          ];
        }
