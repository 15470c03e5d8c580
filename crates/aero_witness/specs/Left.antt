-- What is taken of the targets of all kinds.
use Rattle.std.specs.Prelude.{◌≡◌, ◌⊎◌, ℕ, ◌+◌, ◌≤◌, ◌||◌, nat_lt, Bool, List, Option, Some, Contains}
use Rattle.aero_model.specs.declared.numbered.Numbered.{Numbered}
use Rattle.aero_model.specs.Graph.{Conflict}
use Rattle.aero_witness.specs.declared.kinds.Kind.{Kind}
use Rattle.aero_witness.specs.declared.kinds.Kind.TheVariants.{Threads, Forks, Joins, Writes, Reads, Releases}
use Rattle.aero_witness.specs.declared.buckets.Bucket.{Bucket}
use Rattle.aero_witness.specs.declared.buckets.Arrival.{Arrival}
use Rattle.aero_witness.specs.declared.left.Left.{Left}
use Rattle.aero_witness.specs.Kinds.{source_number, sources}
use Rattle.aero_witness.specs.Buckets.{head_at, head_of, IsBucket, HasArrival}

abbrev pub bucket_of : Left → Kind → Bucket
bucket_of left Threads = left.threads
bucket_of left Forks = left.forks
bucket_of left Joins = left.joins
bucket_of left Writes = left.writes
bucket_of left Reads = left.reads
bucket_of left Releases = left.releases

-- the last place at the origin with the event's number is behind it
abbrev pub bucket_leads_back : Bucket → Numbered → ℕ → Bool
bucket_leads_back bucket e place = nat_lt (place + 1) (head_of bucket.origins.items (source_number bucket.kind e))

abbrev pub event_leads_back : Left → Numbered → ℕ → Bool
event_leads_back left e place =
    ((((bucket_leads_back left.threads e place || bucket_leads_back left.forks e place) || bucket_leads_back left.joins e place) || bucket_leads_back left.writes e place) || bucket_leads_back left.reads e place) || bucket_leads_back left.releases e place

-- Of each kind what is behind a place of the front with its number is taken. What is put down conflicts with one of the
-- front, and all that is taken is put down.
pub record AreGathered (trace : List Numbered) (outer : Kind → ℕ → Option ℕ) (front : List ℕ) (old new : Left) (arrivals arrivals' : List Arrival) : Type 0 where
  pub buckets : (k : Kind) → IsBucket trace outer k (bucket_of new k)
  pub origins : (k : Kind) → (bucket_of new k).origins.items ≡ (bucket_of old k).origins.items
  pub low : (k : Kind) (i m : ℕ) → Contains front i → sources trace k i ≡ Some m → head_at (bucket_of new k).heads.items m ≤ i + 1
  pub only : (c : Arrival) → Contains arrivals' c → Contains arrivals c ⊎ (Contains front c.from × Conflict trace c.from c.enters)
  pub all : (k : Kind) (m j : ℕ) → head_at (bucket_of new k).heads.items m ≤ j → outer k j ≡ Some m → (head_at (bucket_of old k).heads.items m ≤ j) ⊎ HasArrival arrivals' j
