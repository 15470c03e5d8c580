-- What contracts see of the index: of each thread what its open block leads to.
use Rattle.std.specs.Prelude.{◌≡◌, ◌≢◌, ℕ, ◌+◌, ◌==◌, ◌||◌, ◌&&◌, nat_lt, nat_le, not, Bool, true, false, if◌then◌else◌, List, [], ◌∷◌, ◌++◌, map, Option, Some, None, slice_get}
use Rattle.aero_clock.specs.Numbers.{number_at}
use Rattle.aero_access.specs.declared.index.Led.{Led}
use Rattle.aero_access.specs.declared.index.Index.{Index}

-- whether a block with this number leads to a slot whose clock has n at the block's thread; no block has the number 0
abbrev pub leads : ℕ → ℕ → Bool
leads number n = nat_lt 0 number && nat_le number n

-- how often a number stands in a list
abbrev pub times : ℕ → List ℕ → ℕ
times i [] = 0
times i (n ∷ ns) = (if n == i then 1 else 0) + times i ns

-- the number of the open block, 0 where there is none
abbrev pub block_number : Option Led → ℕ
block_number None = 0
block_number (Some led) = led.number

-- whether thread s is listed
abbrev pub has_thread : Option Led → ℕ → Bool
has_thread None s = false
has_thread (Some led) s = nat_lt 0 (number_at led.threads s)

-- the places of the labels that are listed
abbrev pub places_in : Option Led → List ℕ
places_in None = []
places_in (Some led) = led.labels.items

-- what is kept for thread t
abbrev pub led_at : Index → ℕ → Option Led
led_at index t = slice_get index.blocks.items t

-- the slots' numbers, where there are so many threads: the threads by their own, then the labels
abbrev pub slots_in : Option Led → ℕ → List ℕ
slots_in None threads = []
slots_in (Some led) threads = map (λ (p : ℕ × ℕ). p.0) led.threads.pairs.items ++ map (λ i. threads + i) led.labels.items

-- the open block of thread t has just begun: it leads to the thread alone
pub record IsOfBegin (led : Option Led) (t n : ℕ) : Type 0 where
  pub number : block_number led ≡ n
  pub threads : (s : ℕ) → has_thread led s ≡ (s == t)
  pub labels : (i : ℕ) → times i (places_in led) ≡ 0

-- the same is listed
pub record ListsSame (old new : Option Led) : Type 0 where
  pub number : block_number new ≡ block_number old
  pub threads : (r : ℕ) → has_thread new r ≡ has_thread old r
  pub labels : (i : ℕ) → times i (places_in new) ≡ times i (places_in old)

-- thread s is listed too, if the block leads to it where its clock has n at the block's thread
pub record GainsThread (old new : Option Led) (s n : ℕ) : Type 0 where
  pub number : block_number new ≡ block_number old
  pub threads : (r : ℕ) → has_thread new r ≡ (if r == s then has_thread old s || leads (block_number old) n else has_thread old r)
  pub labels : (i : ℕ) → times i (places_in new) ≡ times i (places_in old)
  pub still : has_thread old s ≡ true → new ≡ old

-- the label at this place is listed once more, if the block didn't lead to its slot where the slot's clock had `was`, and does where it has n
pub record GainsLabel (old new : Option Led) (place was n : ℕ) : Type 0 where
  pub number : block_number new ≡ block_number old
  pub threads : (r : ℕ) → has_thread new r ≡ has_thread old r
  pub labels : (i : ℕ) → times i (places_in new) ≡ times i (places_in old) + (if (i == place) && (leads (block_number old) n && not (leads (block_number old) was)) then 1 else 0)
  pub still : leads (block_number old) was ≡ true → new ≡ old

-- the label at this place is listed no more
pub record DropsLabel (old new : Option Led) (place : ℕ) : Type 0 where
  pub number : block_number new ≡ block_number old
  pub threads : (r : ℕ) → has_thread new r ≡ has_thread old r
  pub labels : (i : ℕ) → times i (places_in new) ≡ (if i == place then 0 else times i (places_in old))

-- the label at this place is listed once where the block leads to its slot, as its clock has n now, if it was before
pub record MovesLabel (old new : Option Led) (place was n : ℕ) : Type 0 where
  pub number : block_number new ≡ block_number old
  pub threads : (r : ℕ) → has_thread new r ≡ has_thread old r
  pub here : times place (places_in old) ≡ (if leads (block_number old) was then 1 else 0) → times place (places_in new) ≡ (if leads (block_number old) n then 1 else 0)
  pub others : (i : ℕ) → i ≢ place → times i (places_in new) ≡ times i (places_in old)
