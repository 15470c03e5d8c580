-- A list of different names, how many it may have, and what it makes of one more.
use Rattle.std.specs.Prelude.{◌≡◌, ◌↔◌, ◌<◌, ◌≤◌, ◌^◌, ℕ, Bool, true, false, List, bytes_eq, length, slice_get, Some, Result, IfOk, OnOk, OnErr, IsOk, IsErrOf}
use Rattle.std.specs.List.{list_any}
use Rattle.aero_model.specs.Numbering.{different_names, with_name, number_of}
use Rattle.aero_names.specs.declared.names.NamesFault.{NamesFault}
use Rattle.aero_names.specs.declared.names.NamesFault.TheVariants.{Full}

-- the names in order of first appearance, and their limit
pub record Listing : Type 0 where
  pub names : List (List ℕ)
  pub limit : ℕ

-- what every such list has
pub record IsListing (l : Listing) : Type 0 where
  pub different : different_names l.names ≡ l.names
  pub within : length l.names ≤ l.limit
  pub in_range : l.limit < 2 ^ 32

-- the name is in the list
abbrev pub is_listed : Listing → List ℕ → Bool
is_listed l name = list_any (bytes_eq name) l.names

-- the name is new, and no more names may come
abbrev pub HasNoRoom : Listing → List ℕ → Type 0
HasNoRoom l name = (is_listed l name ≡ false) × (l.limit ≤ length l.names)

-- the name's number in the list, which was the old one and has the name now; or why it gets none, and nothing changes
pub record IsNumbered (old new : Listing) (name : List ℕ) (result : Result ℕ NamesFault) : Type 0 where
  pub number : IfOk result (λ number. number ≡ number_of new.names name)
  pub place : IfOk result (λ number. slice_get new.names number ≡ Some name)
  pub names : OnOk result (new ≡ record old { names = with_name old.names name })
  pub known : is_listed old name ≡ true → IsOk result
  pub full : IsErrOf result Full ↔ HasNoRoom old name
  pub err : OnErr result (new ≡ old)
  pub listing : IsListing new
