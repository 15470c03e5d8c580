-- How many names are in a list.
use Rattle.std.proofs.Common.{◌≤◌, ◌+◌, ◌==◌, ℕ, Bool, if◌then◌else◌, true, false, List, [], ◌∷◌, length, arith}
use Rattle.std.specs.List.{count_by, slice_split}
use Rattle.std.proofs.lemmas.List.Splits.{length-slice_split}
use Rattle.aero_model.specs.Lines.{without_empty_last}
use Rattle.aero_program.specs.Listing.{is_name_end, names_in}

-- all but the last part are names
length_but_last : (parts : List (List ℕ)) → length parts ≤ length (without_empty_last parts) + 1
length_but_last [] = omega arith
length_but_last (part ∷ []) = go (length part == 0)
  where
    go : (b : Bool) → 1 ≤ length (if b then [] else part ∷ []) + 1
    go true = omega arith
    go false = omega arith
length_but_last (part ∷ next ∷ more) = let rest = length_but_last (next ∷ more) in omega (arith, rest)

-- there are as many names at least as end in the list
pub names_ended : (list : List ℕ) → count_by is_name_end list ≤ length (names_in list)
names_ended list =
    let parts = length-slice_split is_name_end list in
    let names : length (slice_split is_name_end list) ≤ length (names_in list) + 1 = length_but_last (slice_split is_name_end list) in
    omega (arith, parts, names)
