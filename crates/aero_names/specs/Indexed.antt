-- Where the names of a list are looked for: a table leads from a mark to the latest name that has it, and each name to the one before it with the same mark.
use Rattle.std.specs.Prelude.{◌≡◌, ◌≢◌, ◌+◌, ◌-◌, ◌/◌, ◌^◌, ◌<◌, ◌≤◌, ℕ, List, [], length, slice_get, slice_index, unwrap_or, bit_and, nat_eq, Some, None}
use Rattle.std.specs.Ordering.{nat_cmp}
use Rattle.std.specs.BTreeMap.{BTreeMap, ContainsKey, get}
use Rattle.indexmap.specs.IndexMap.{IndexMap, get as get_indexed}
use Rattle.aero_names.specs.declared.latest.Latest.{Latest}
use Rattle.aero_names.specs.declared.latest.Way.{Way}
use Rattle.aero_names.specs.declared.latest.Way.TheVariants.{Heads, Few, Prints}
use Rattle.aero_names.specs.declared.key.Key.{Key}
use Rattle.aero_names.specs.declared.hash.Hashing.{Hashing}
use Rattle.aero_names.specs.Hash.{hash_of, hash_by, print_of}
use Rattle.aero_names.specs.Keys.{AreKeys}
use Rattle.aero_names.specs.Listing.{Listing, IsListing}

-- the name with this number
abbrev pub name_in : List (List ℕ) → ℕ → List ℕ
name_in names n = unwrap_or (slice_get names n) []

-- of so many heads, the place of the one for this hash
abbrev pub place_in : ℕ → ℕ → ℕ
place_in places hash = bit_and (hash / 2 ^ 32) (places - 1)

-- in which way the names are looked for, and by which hash and by how many heads where it is by heads
abbrev pub marks_of : Latest → Way × Hashing × ℕ
marks_of latest = (latest.way, latest.hashing, length latest.heads.items)

abbrev pub mark_by : Way → Hashing × ℕ → List ℕ → ℕ
mark_by Heads by name = place_in by.1 (hash_by by.0 name)
mark_by Few by name = hash_of name
mark_by Prints by name = print_of name

-- what a name is looked for by
abbrev pub mark_of : Way × Hashing × ℕ → List ℕ → ℕ
mark_of marks name = mark_by marks.0 (marks.1, marks.2) name

-- where the table leads from this mark: 0 where it has none
abbrev pub next_few : {S : Type 0} → IndexMap ℕ ℕ S → ℕ → ℕ
next_few few mark = unwrap_or (get_indexed nat_eq few mark) 0

abbrev pub next_print : BTreeMap ℕ ℕ → ℕ → ℕ
next_print prints mark = unwrap_or (get nat_cmp prints mark) 0

abbrev pub next_by : Way → Latest → ℕ → ℕ
next_by Heads latest mark = slice_index latest.heads.items mark
next_by Few latest mark = next_few latest.few mark
next_by Prints latest mark = next_print latest.prints mark

abbrev pub next_at : Latest → ℕ → ℕ
next_at latest mark = next_by latest.way latest mark

-- there is a head, where names are looked for by heads
abbrev pub HasHeads : Latest → Type 0
HasHeads latest = latest.way ≡ Heads → 0 < length latest.heads.items

-- the mark is the place of a head there
abbrev pub IsWithin : Latest → ℕ → Type 0
IsWithin latest mark = latest.way ≡ Heads → mark < length latest.heads.items

-- where the table leads from the mark can be changed without memory
pub record HasRoom (latest : Latest) (mark : ℕ) : Type 0 where
  pub few : latest.way ≡ Few → get_indexed nat_eq latest.few mark ≢ None
  pub print : latest.way ≡ Prints → ContainsKey nat_cmp latest.prints mark
  pub head : IsWithin latest mark

-- one more than the greatest number below this one whose name has the mark, or 0 where there is none
pub record IsLatest (of : List ℕ → ℕ) (names : List (List ℕ)) (mark below next : ℕ) : Type 0 where
  pub within : next ≤ below
  pub here : (n : ℕ) → next ≡ n + 1 → of (name_in names n) ≡ mark
  pub others : (n : ℕ) → next ≤ n → n < below → of (name_in names n) ≡ mark → ⊥

-- so the first names are found, as many as are counted, by a table and by what stands behind each
pub record IsIndexed (of : List ℕ → ℕ) (names : List (List ℕ)) (count : ℕ) (next : ℕ → ℕ) (before : List ℕ) : Type 0 where
  pub at_hashes : (mark : ℕ) → IsLatest of names mark count (next mark)
  pub behind : (n : ℕ) → n < count → IsLatest of names (of (name_in names n)) n (slice_index before n)
  pub long : length before ≡ count

-- no two have the same name
abbrev pub AreDistinct : List (List ℕ) → Type 0
AreDistinct names = (a b : ℕ) (name : List ℕ) → slice_get names a ≡ Some name → slice_get names b ≡ Some name → a ≡ b

-- the names are different, each is found by the two tables, and these are their keys
pub record AreFound (of : List ℕ → ℕ) (l : Listing) (next : ℕ → ℕ) (before : List ℕ) (keys : List Key) : Type 0 where
  pub listing : IsListing l
  pub distinct : AreDistinct l.names
  pub indexed : IsIndexed of l.names (length l.names) next before
  pub keyed : AreKeys l.names keys
