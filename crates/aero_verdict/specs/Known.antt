-- What is known of a chunk's names: the numbers of the first of them in the trace.
use Rattle.std.specs.Prelude.{◌≡◌, ◌<◌, ℕ, Bool, true, false, List, length, map, bytes_eq, slice_get, slice_index_or, Some, None}
use Rattle.std.specs.List.{list_any}
use Rattle.aero_model.specs.declared.numbered.What.{What}
use Rattle.aero_model.specs.declared.numbered.What.TheVariants.{Begin}
use Rattle.aero_model.specs.Exempt.{Listed, leaves_out}
use Rattle.aero_model.specs.Numbering.{number_of, Tables}
use Rattle.aero_grammar.specs.Tabled.{name_at}
use Rattle.aero_verdict.specs.declared.numbering.Numbering.{Numbering}
use Rattle.aero_verdict.specs.declared.known.ChunkNames.{ChunkNames}
use Rattle.aero_verdict.specs.declared.known.Exemptions.{Exemptions}
use Rattle.aero_verdict.specs.declared.known.Known.{Known}

-- the chunk's tables
abbrev pub tables_in : ChunkNames → Tables
tables_in b = record { threads = b.threads.now; variables = b.variables.now; locks = b.locks.now }

-- the name at place n of the chunk's table is among the trace's, and this is its number there
pub record IsKnown (trace chunk : List (List ℕ)) (n number : ℕ) : Type 0 where
  pub listed : list_any (bytes_eq (name_at chunk n)) trace ≡ true
  pub number_is : number ≡ number_of trace (name_at chunk n)

-- these are the numbers of the chunk's first names
abbrev pub AreKnown : List (List ℕ) → List (List ℕ) → List ℕ → Type 0
AreKnown trace chunk known = (n number : ℕ) → slice_get known n ≡ Some number → IsKnown trace chunk n number

-- so it is in each name space
pub record Knows (numbering : Numbering) (tables : Tables) (known : Known) : Type 0 where
  pub threads : AreKnown numbering.threads.names tables.threads known.threads.items
  pub variables : AreKnown numbering.variables.names tables.variables known.variables.items
  pub locks : AreKnown numbering.locks.names tables.locks known.locks.items

-- of each label of a chunk, and of none, it is told whether a block that begins so is no transaction
abbrev pub AreMarked : Listed → List (List ℕ) → Exemptions → Type 0
AreMarked listed chunk exempt = (exempt.labels.items ≡ map (λ label. leaves_out listed (Some label)) chunk) × (exempt.unlabelled ≡ leaves_out listed None)

-- whether it is told that the begin is exempt
abbrev pub is_told_exempt : Exemptions → What → Bool
is_told_exempt exempt (Begin (Some label)) = slice_index_or exempt.labels.items label false
is_told_exempt exempt (Begin None) = exempt.unlabelled
is_told_exempt exempt _ = false

-- the label of the begin, if it has one, is in the chunk's table
abbrev pub HasLabel : List (List ℕ) → What → Type 0
HasLabel labels (Begin (Some label)) = label < length labels
HasLabel labels _ = Unit {0}
