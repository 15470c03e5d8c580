-- What a front takes of all buckets, one after another.
use Rattle.std.proofs.Common.{◌⊎◌, ℕ, List, length, Option, inl, inr, sym, subst}
use Rattle.std.specs.Prelude.{Contains}
use Rattle.aero_model.specs.declared.numbered.Numbered.{Numbered}
use Rattle.aero_model.specs.Graph.{Conflict}
use Rattle.aero_witness.specs.declared.kinds.Kind.{Kind}
use Rattle.aero_witness.specs.declared.kinds.Kind.TheVariants.{Threads, Forks, Joins, Writes, Reads, Releases}
use Rattle.aero_witness.specs.declared.buckets.Bucket.{Bucket}
use Rattle.aero_witness.specs.declared.buckets.Arrival.{Arrival}
use Rattle.aero_witness.specs.declared.left.Left.{Left}
use Rattle.aero_witness.specs.Kinds.{sources}
use Rattle.aero_witness.specs.Buckets.{IsBucket, Keeps, IsSameBut, IsBy, AreDrawn}
use Rattle.aero_witness.specs.Left.{bucket_of, AreGathered}
use Rattle.aero_witness.proofs.Drawing.{still_bucket}
use Rattle.aero_witness.proofs.Kinded.{conflict_by}
use Rattle.aero_witness.proofs.Taken.{has_kept}

module _ (trace : List Numbered) (outer : Kind → ℕ → Option ℕ) (front : List ℕ) where
  pub own_bucket : (k : Kind) (bucket : Bucket) → IsBucket trace outer k bucket → IsBucket trace outer bucket.kind bucket
  own_bucket k bucket h = subst (λ (l : Kind). IsBucket trace outer l bucket) (sym {A = Kind} h.kind) h

  -- a bucket of the kind is drawn
  pub record IsBucketDrawn (k : Kind) (old new : Bucket) (arrivals arrivals' : List Arrival) : Type 0 where
    pub same : IsSameBut old new
    pub drawn : AreDrawn (sources trace k) (outer k) front (length trace) old.heads.items new.heads.items arrivals arrivals'

  pub bucket_drawn : (k : Kind) (old new : Bucket) (arrivals arrivals' : List Arrival) → IsBucket trace outer k old → IsSameBut old new → AreDrawn (sources trace old.kind) (outer old.kind) front (length trace) old.heads.items new.heads.items arrivals arrivals' → IsBucketDrawn k old new arrivals arrivals'
  bucket_drawn k old new arrivals arrivals' bucket same drawn =
      record { same = same; drawn = subst (λ (l : Kind). AreDrawn (sources trace l) (outer l) front (length trace) old.heads.items new.heads.items arrivals arrivals') bucket.kind drawn }

  abbrev IsLed : Arrival → Type 0
  IsLed c = Contains front c.from × Conflict trace c.from c.enters

  led : (k : Kind) (bucket : Bucket) → IsBucket trace outer k bucket → (c : Arrival) → IsBy (sources trace k) (outer k) front c → IsLed c
  led k bucket is c by = (by.in_front, conflict_by trace k by.number c.from c.enters by.earlier by.source (is.some by.number c.enters by.target))

  module _ (old new : Left) (l0 l1 l2 l3 l4 l5 l6 : List Arrival) (buckets : (k : Kind) → IsBucket trace outer k (bucket_of old k)) (one : IsBucketDrawn Threads old.threads new.threads l0 l1) (two : IsBucketDrawn Forks old.forks new.forks l1 l2) (three : IsBucketDrawn Joins old.joins new.joins l2 l3) (four : IsBucketDrawn Writes old.writes new.writes l3 l4) (five : IsBucketDrawn Reads old.reads new.reads l4 l5) (six : IsBucketDrawn Releases old.releases new.releases l5 l6) where
    keeps_5 : Keeps l5 l6
    keeps_5 = six.drawn.kept

    keeps_4 : Keeps l4 l6
    keeps_4 c h = keeps_5 c (five.drawn.kept c h)

    keeps_3 : Keeps l3 l6
    keeps_3 c h = keeps_4 c (four.drawn.kept c h)

    keeps_2 : Keeps l2 l6
    keeps_2 c h = keeps_3 c (three.drawn.kept c h)

    keeps_1 : Keeps l1 l6
    keeps_1 c h = keeps_2 c (two.drawn.kept c h)

    at : (k : Kind) → (la : List Arrival) × (lb : List Arrival) × IsBucketDrawn k (bucket_of old k) (bucket_of new k) la lb × Keeps lb l6
    at Threads = (l0, l1, one, keeps_1)
    at Forks = (l1, l2, two, keeps_2)
    at Joins = (l2, l3, three, keeps_3)
    at Writes = (l3, l4, four, keeps_4)
    at Reads = (l4, l5, five, keeps_5)
    at Releases = (l5, l6, six, λ c h. h)

    only : (c : Arrival) → Contains l6 c → Contains l0 c ⊎ IsLed c
    only c h = elim (six.drawn.only c h) [
      | inr by ↦ inr (led Releases old.releases (buckets Releases) c by)
      | inl h5 ↦ elim (five.drawn.only c h5) [
        | inr by ↦ inr (led Reads old.reads (buckets Reads) c by)
        | inl h4 ↦ elim (four.drawn.only c h4) [
          | inr by ↦ inr (led Writes old.writes (buckets Writes) c by)
          | inl h3 ↦ elim (three.drawn.only c h3) [
            | inr by ↦ inr (led Joins old.joins (buckets Joins) c by)
            | inl h2 ↦ elim (two.drawn.only c h2) [
              | inr by ↦ inr (led Forks old.forks (buckets Forks) c by)
              | inl h1 ↦ elim (one.drawn.only c h1) [ inr by ↦ inr (led Threads old.threads (buckets Threads) c by) | inl h0 ↦ inl h0 ]
            ]
          ]
        ]
      ]
    ]

    pub gathered : AreGathered trace outer front old new l0 l6
    gathered =
        record {
          buckets = λ k. (let d = at k in let h = d.2 in still_bucket trace outer k (bucket_of old k) (bucket_of new k) (buckets k) h.same h.drawn.are);
          origins = λ k. (let d = at k in let h = d.2 in h.same.origins);
          low = λ k i m c e. (let d = at k in let h = d.2 in h.drawn.low i m c e);
          only = only;
          all = λ k m j le e. (let d = at k in let h = d.2 in elim (h.drawn.all m j le e) [ inl past ↦ inl past | inr has ↦ inr (has_kept d.1 l6 d.3 j has) ]);
        }
