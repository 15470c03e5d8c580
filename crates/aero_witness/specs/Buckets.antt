-- What `Bucket` keeps of the targets of a kind, and what is taken of them.
use Rattle.std.specs.Prelude.{◌≡◌, ◌⊎◌, ℕ, ◌+◌, ◌<◌, ◌≤◌, ◌==◌, if◌then◌else◌, Bool, false, List, [], ◌∷◌, ◌++◌, length, Option, Some, None, Contains, slice_get, slice_index_or}
use Rattle.aero_model.specs.declared.numbered.Numbered.{Numbered}
use Rattle.aero_witness.specs.declared.kinds.Kind.{Kind}
use Rattle.aero_witness.specs.declared.buckets.Bucket.{Bucket}
use Rattle.aero_witness.specs.declared.buckets.Arrival.{Arrival}
use Rattle.aero_witness.specs.Kinds.{targets, outside}

abbrev pub head_at : List ℕ → ℕ → ℕ
head_at heads m = slice_index_or heads m 0

abbrev pub head_of : List ℕ → Option ℕ → ℕ
head_of heads None = 0
head_of heads (Some m) = head_at heads m

abbrev pub is_number : Option ℕ → ℕ → Bool
is_number None m = false
is_number (Some k) m = k == m

-- h is one more than the last place before n of which P holds, or 0 where it holds of none
pub record IsLast (P : ℕ → Type 0) (n h : ℕ) : Type 0 where
  pub is : (j : ℕ) → h ≡ j + 1 → (j < n) × P j
  pub none : (j : ℕ) → h ≤ j → j < n → P j → ⊥

-- the places that are numbered m, and those of them that are of the transaction with this first place
abbrev pub IsOf : (ℕ → Option ℕ) → ℕ → ℕ → Type 0
IsOf t m j = t j ≡ Some m

abbrev pub IsOriginOf : (ℕ → Option ℕ) → List ℕ → ℕ → ℕ → ℕ → Type 0
IsOriginOf t firsts first m j = (slice_get firsts j ≡ Some first) × (t j ≡ Some m)

-- of each numbered place the last one before it with its number, and nowhere a later one
pub record AreLinks (t : ℕ → Option ℕ) (before : List ℕ) : Type 0 where
  pub at : (j m : ℕ) → j < length before → t j ≡ Some m → IsLast (IsOf t m) j (head_at before j)
  pub falls : (j : ℕ) → head_at before j ≤ j

-- each head is a place with its number, if it is one
pub record AreHeads (t : ℕ → Option ℕ) (n : ℕ) (heads : List ℕ) : Type 0 where
  pub within : (m : ℕ) → head_at heads m ≤ n
  pub is : (m j : ℕ) → head_at heads m ≡ j + 1 → t j ≡ Some m

-- one more is numbered, at the origin or outside
pub record IsAdded (inner outer : Option ℕ) (place : ℕ) (old new : Bucket) : Type 0 where
  pub kind : new.kind ≡ old.kind
  pub before : new.before.items ≡ old.before.items ++ head_of old.heads.items outer ∷ []
  pub heads : (m : ℕ) → head_at new.heads.items m ≡ (if is_number outer m then place + 1 else head_at old.heads.items m)
  pub origins : (m : ℕ) → head_at new.origins.items m ≡ (if is_number inner m then place + 1 else head_at old.origins.items m)

-- the first n places, of which nothing is taken: by t, and by u those that aren't at the origin
pub record AreFilled (t u : ℕ → Option ℕ) (firsts : List ℕ) (first n : ℕ) (before origins heads : List ℕ) : Type 0 where
  pub each : length before ≡ n
  pub links : AreLinks u before
  pub are_origins : (m : ℕ) → IsLast (IsOriginOf t firsts first m) n (head_at origins m)
  pub are_heads : (m : ℕ) → IsLast (IsOf u m) n (head_at heads m)

module _ (trace : List Numbered) where
  abbrev pub IsFilled : List ℕ → ℕ → ℕ → Bucket → Type 0
  IsFilled firsts first n bucket = AreFilled (targets trace bucket.kind) (outside trace firsts first bucket.kind) firsts first n bucket.before.items bucket.origins.items bucket.heads.items

  -- the bucket is of the kind, and in order, with those of its targets that `outer` numbers
  pub record IsBucket (outer : Kind → ℕ → Option ℕ) (k : Kind) (bucket : Bucket) : Type 0 where
    pub kind : bucket.kind ≡ k
    pub each : length bucket.before.items ≡ length trace
    pub some : (m j : ℕ) → outer k j ≡ Some m → targets trace k j ≡ Some m
    pub links : AreLinks (outer k) bucket.before.items
    pub heads : AreHeads (outer k) (length trace) bucket.heads.items

  -- of each number the last place in the transaction with this first place
  abbrev pub AreOrigins : List ℕ → ℕ → Kind → Bucket → Type 0
  AreOrigins firsts first k bucket = (m : ℕ) → IsLast (IsOriginOf (targets trace k) firsts first m) (length trace) (head_at bucket.origins.items m)

  -- nothing of it is taken
  abbrev pub IsFull : List ℕ → ℕ → Kind → Bucket → Type 0
  IsFull firsts first k bucket = (m j : ℕ) → head_at bucket.heads.items m ≤ j → outside trace firsts first k j ≡ Some m → ⊥

-- a walk comes in at place j
abbrev pub HasArrival : List Arrival → ℕ → Type 0
HasArrival arrivals j = (c : Arrival) × Contains arrivals c × (c.enters ≡ j)

abbrev pub Keeps : List Arrival → List Arrival → Type 0
Keeps old new = (c : Arrival) → Contains old c → Contains new c

-- from the head on down to this rest, what is numbered m is put down with the place i
pub record AreTaken (t : ℕ → Option ℕ) (m i head rest : ℕ) (old new : List Arrival) : Type 0 where
  pub is : (j : ℕ) → rest ≡ j + 1 → t j ≡ Some m
  pub only : (c : Arrival) → Contains new c → Contains old c ⊎ ((c.from ≡ i) × (i < c.enters) × (t c.enters ≡ Some m))
  pub all : (j : ℕ) → rest ≤ j → t j ≡ Some m → (head ≤ j) ⊎ HasArrival new j

-- so down to place i, whatever is numbered
pub record IsTakenTo (before : List ℕ) (i head rest : ℕ) (old new : List Arrival) : Type 0 where
  pub less : rest ≤ head
  pub low : rest ≤ i + 1
  pub kept : Keeps old new
  pub by : (t : ℕ → Option ℕ) (m : ℕ) → AreLinks t before → ((j : ℕ) → head ≡ j + 1 → t j ≡ Some m) → AreTaken t m i head rest old new

-- nothing else of the bucket changes
pub record IsSameBut (old new : Bucket) : Type 0 where
  pub kind : new.kind ≡ old.kind
  pub before : new.before.items ≡ old.before.items
  pub origins : new.origins.items ≡ old.origins.items

module _ (s t : ℕ → Option ℕ) (front : List ℕ) where
  -- the walk goes from a place of the front to one behind it that has its number
  pub record IsBy (c : Arrival) : Type 0 where
    pub in_front : Contains front c.from
    pub earlier : c.from < c.enters
    pub number : ℕ
    pub source : s c.from ≡ Some number
    pub target : t c.enters ≡ Some number

  -- what is behind a place of the front with its number is taken, and all that is taken is put down
  pub record AreDrawn (n : ℕ) (old new : List ℕ) (arrivals arrivals' : List Arrival) : Type 0 where
    pub are : AreHeads t n new
    pub low : (i m : ℕ) → Contains front i → s i ≡ Some m → head_at new m ≤ i + 1
    pub less : (m : ℕ) → head_at new m ≤ head_at old m
    pub kept : Keeps arrivals arrivals'
    pub only : (c : Arrival) → Contains arrivals' c → Contains arrivals c ⊎ IsBy c
    pub all : (m j : ℕ) → head_at new m ≤ j → t j ≡ Some m → (head_at old m ≤ j) ⊎ HasArrival arrivals' j
