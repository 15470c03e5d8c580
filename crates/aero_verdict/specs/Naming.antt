-- The names that are numbered, and what one more name adds to them.
use Rattle.std.specs.Prelude.{◌≡◌, ◌≢◌, ℕ, ◌≤◌, nat_le, true, false, List, length}
use Rattle.aero_model.specs.declared.verdict.ShapeFault.{ShapeFault}
use Rattle.aero_model.specs.declared.verdict.ShapeFault.TheVariants.{Memory}
use Rattle.aero_model.specs.Numbering.{with_name}
use Rattle.aero_names.specs.Listing.{Listing}
use Rattle.aero_names.specs.Additions.{number_after}

-- the list has this limit, and keeps to it
pub record IsWithin (limit : ℕ) (l : Listing) : Type 0 where
  pub limit_is : l.limit ≡ limit
  pub few : length l.names ≤ limit

-- the name gets its number, and the list keeps to its limit
pub record NumbersName (old new : Listing) (name : List ℕ) (number : ℕ) : Type 0 where
  pub number_is : number ≡ number_after old.names name
  pub names_are : new.names ≡ with_name old.names name
  pub within : (limit : ℕ) → IsWithin limit old → IsWithin limit new × (nat_le limit number ≡ false)

-- the name gets no number: it is one too many, which is this fault, or memory was refused
abbrev pub RefusesName : Listing → List ℕ → ShapeFault → ShapeFault → Type 0
RefusesName old name full fault = fault ≢ Memory → (fault ≡ full) × (nat_le old.limit (number_after old.names name) ≡ true)
