-- How many labels can be listed as those of blocks that are no transactions, in a list and in a set.
use Rattle.std.specs.Prelude.{ℕ, ◌≤◌, List, length}
use Rattle.aero_model.specs.declared.except.Labels.{Labels}
use Rattle.aero_model.specs.declared.except.Labels.TheVariants.{Few, Set}

abbrev pub most_labels : ℕ
most_labels = 64

abbrev pub most_labels_of_set : ℕ
most_labels_of_set = 65536

-- the labels, in their order
abbrev pub labels_in : Labels → List (List ℕ)
labels_in (Few labels) = labels.items
labels_in (Set labels) = labels.keys

-- There are no more than may be.
abbrev pub AreFew : Labels → Type 0
AreFew (Few labels) = length labels.items ≤ most_labels
AreFew (Set labels) = length labels.keys ≤ most_labels_of_set
