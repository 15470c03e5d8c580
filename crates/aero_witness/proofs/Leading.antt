-- Which events lead back.
use Rattle.std.proofs.Common.{◌≡◌, ℕ, zero, suc, ◌+◌, ◌<◌, ◌≤◌, ◌||◌, Bool, true, false, List, length, Option, Some, None, inl, inr, refl, ap, arith}
use Rattle.std.specs.Prelude.{slice_get}
use Rattle.std.proofs.lemmas.Bool.{or_cases, or_parts, ltb-true, ltb-false}
use Rattle.aero_model.specs.declared.numbered.Numbered.{Numbered}
use Rattle.aero_witness.specs.declared.kinds.Kind.{Kind}
use Rattle.aero_witness.specs.declared.kinds.Kind.TheVariants.{Threads, Forks, Joins, Writes, Reads, Releases}
use Rattle.aero_witness.specs.declared.left.Left.{Left}
use Rattle.aero_witness.specs.Kinds.{source_number, sources, targets}
use Rattle.aero_witness.specs.Buckets.{head_at, head_of, IsLast, IsOriginOf, AreOrigins}
use Rattle.aero_witness.specs.Left.{bucket_of, bucket_leads_back, event_leads_back}
use Rattle.aero_witness.specs.Reached.{HasSource}
use Rattle.aero_witness.proofs.Kinded.{conflict_by}

module _ (left : Left) (kinds : (k : Kind) → (bucket_of left k).kind ≡ k) (e : Numbered) (place : ℕ) where
  abbrev by : Kind → Bool
  by k = bucket_leads_back (bucket_of left k) e place

  some_bucket : event_leads_back left e place ≡ true → (k : Kind) × (by k ≡ true)
  some_bucket h = elim (or_cases ((((by Threads || by Forks) || by Joins) || by Writes) || by Reads) (by Releases) h) [
    | inr is ↦ (Releases, is)
    | inl h5 ↦ elim (or_cases (((by Threads || by Forks) || by Joins) || by Writes) (by Reads) h5) [
      | inr is ↦ (Reads, is)
      | inl h4 ↦ elim (or_cases ((by Threads || by Forks) || by Joins) (by Writes) h4) [
        | inr is ↦ (Writes, is)
        | inl h3 ↦ elim (or_cases (by Threads || by Forks) (by Joins) h3) [
          | inr is ↦ (Joins, is)
          | inl h2 ↦ elim (or_cases (by Threads) (by Forks) h2) [ inr is ↦ (Forks, is) | inl is ↦ (Threads, is) ]
        ]
      ]
    ]
  ]

  no_bucket : event_leads_back left e place ≡ false → (k : Kind) → by k ≡ false
  no_bucket h = go
    where
      h5 : ((((by Threads || by Forks) || by Joins) || by Writes) || by Reads) ≡ false
      h5 = (or_parts ((((by Threads || by Forks) || by Joins) || by Writes) || by Reads) (by Releases) h).0

      h4 : (((by Threads || by Forks) || by Joins) || by Writes) ≡ false
      h4 = (or_parts (((by Threads || by Forks) || by Joins) || by Writes) (by Reads) h5).0

      h3 : ((by Threads || by Forks) || by Joins) ≡ false
      h3 = (or_parts ((by Threads || by Forks) || by Joins) (by Writes) h4).0

      h2 : (by Threads || by Forks) ≡ false
      h2 = (or_parts (by Threads || by Forks) (by Joins) h3).0

      go : (k : Kind) → by k ≡ false
      go Threads = (or_parts (by Threads) (by Forks) h2).0
      go Forks = (or_parts (by Threads) (by Forks) h2).1
      go Joins = (or_parts (by Threads || by Forks) (by Joins) h3).1
      go Writes = (or_parts ((by Threads || by Forks) || by Joins) (by Writes) h4).1
      go Reads = (or_parts (((by Threads || by Forks) || by Joins) || by Writes) (by Reads) h5).1
      go Releases = (or_parts ((((by Threads || by Forks) || by Joins) || by Writes) || by Reads) (by Releases) h).1

  number_is : (k : Kind) → head_of (bucket_of left k).origins.items (source_number (bucket_of left k).kind e) ≡ head_of (bucket_of left k).origins.items (source_number k e)
  number_is k = ap (λ (l : Kind). head_of (bucket_of left k).origins.items (source_number l e)) (kinds k)

  pub some_leads : event_leads_back left e place ≡ true → (k : Kind) × (place + 1 < head_of (bucket_of left k).origins.items (source_number k e))
  some_leads h =
      let l = some_bucket h in
      let k = l.0 in
      let less = ltb-true (place + 1) (head_of (bucket_of left k).origins.items (source_number (bucket_of left k).kind e)) l.1 in
      let same = number_is k in
      (k, (let m : place + 1 < head_of (bucket_of left k).origins.items (source_number k e) = omega arith in m))

  pub none_leads : event_leads_back left e place ≡ false → (k : Kind) → head_of (bucket_of left k).origins.items (source_number k e) ≤ place + 1
  none_leads h k =
      let le = ltb-false (place + 1) (head_of (bucket_of left k).origins.items (source_number (bucket_of left k).kind e)) (no_bucket h k) in
      let same = number_is k in
      omega arith

-- a head of the places at the origin behind a place with its number is one to which that leads
module _ (trace : List Numbered) (firsts : List ℕ) (first : ℕ) (noted : ℕ → Bool) (i : ℕ) (is_noted : noted i ≡ true) where
  origin_after : (k : Kind) (origins : List ℕ) (o : Option ℕ) → sources trace k i ≡ o → ((m : ℕ) → IsLast (IsOriginOf (targets trace k) firsts first m) (length trace) (head_at origins m)) → i + 1 < head_of origins o → (j : ℕ) × (slice_get firsts j ≡ Some first) × HasSource trace noted j
  origin_after k origins None source last less = absurd (omega arith)
  origin_after k origins (Some m) source last less = go (head_at origins m) refl
    where
      go : (h : ℕ) → head_at origins m ≡ h → (j : ℕ) × (slice_get firsts j ≡ Some first) × HasSource trace noted j
      go zero e = absurd (omega arith)
      go (suc j) e =
          let l = (last m).is j (omega arith) in
          (j, l.1.0, (i, is_noted, conflict_by trace k m i j (omega arith) source l.1.1))

  pub origin_behind : (left : Left) → ((k : Kind) → AreOrigins trace firsts first k (bucket_of left k)) → (k : Kind) → i + 1 < head_of (bucket_of left k).origins.items (sources trace k i) → (j : ℕ) × (slice_get firsts j ≡ Some first) × HasSource trace noted j
  origin_behind left origins k less = origin_after k (bucket_of left k).origins.items (sources trace k i) refl (origins k) less
