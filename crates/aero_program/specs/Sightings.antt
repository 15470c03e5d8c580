-- The names of the sources that are judged, and what contracts of a run see of them before it.
use Rattle.std.specs.Prelude.{◌≡◌, ℕ, if◌then◌else◌, false, List, [], ◌∷◌, map, Option, Some, None, ⊤, codes, option_map, string_bytes, unwrap_or}
use Rattle.std.specs.Str.{is_utf8}
use Rattle.aero_telling.specs.Founds.{Sighted}
use Rattle.aero_model.specs.CallCounts.{Seen}
use Rattle.aero_intake.specs.Source.{File, Nowhere, Place, Sight, Stream}
use Rattle.aero_program.specs.declared.command.Sources.{Sources}
use Rattle.aero_program.specs.declared.command.Sources.TheVariants as sources
use Rattle.aero_program.specs.declared.listing.Unlisted.{Unlisted}
use Rattle.aero_program.specs.declared.listing.Unlisted.TheVariants as unlisted
use Rattle.aero_program.specs.declared.reason.Reason.{Reason}
use Rattle.aero_program.specs.declared.reason.Reason.TheVariants.{NotUtf8}
use Rattle.aero_program.specs.Inputs.{IsUntouched, Standing, Standard, Failed, unopened, unread}
use Rattle.aero_program.specs.Listing.{IsLeftByFault, IsLeftByList, IsListFault, IsWhole, MayFailListed, list_given, names_in}

-- the names, in order: that of standard input, or `-`, the words, or what stands in the list; `known` says which bytes each file has that is opened at a path, and `given` is what standard input has, where these are known
abbrev pub AreNames : (known : List ℕ → Option (List ℕ)) → Sources → (given : Option (List ℕ)) → List (List ℕ) → Type 0
AreNames known (sources.Standard name) given names = names ≡ unwrap_or (option_map string_bytes name) (codes "-") ∷ []
AreNames known (sources.Files words) given names = names ≡ map string_bytes words.items
AreNames known (sources.Listed path) given names = (list : List ℕ) × IsWhole (list_given known (string_bytes path) given) list × (names ≡ names_in list)

-- what contracts see of a reader that was just made, and of which nothing is open: where it reads, and the bytes that it has, where they are known
abbrev pub made_at : Place → Option (List ℕ) → Sight
made_at place bytes = record { bytes = bytes; faults = 0; ends = 0; trail = Some (record { place = place; given = [] }); is_open = false; closed = false }

-- the same of the file at a path
abbrev pub file_made : (known : List ℕ → Option (List ℕ)) → (path : List ℕ) → Sight
file_made known path = made_at (File path) (known path)

-- the same of the file of a name that stands in a list: none can be opened whose name isn't UTF-8
abbrev pub listed_made : (known : List ℕ → Option (List ℕ)) → (name : List ℕ) → Sight
listed_made known name = if is_utf8 name then file_made known name else made_at Nowhere None

-- the same of the source of this name
abbrev pub source_made : (known : List ℕ → Option (List ℕ)) → Sources → (given : Option (List ℕ)) → (name : List ℕ) → Sight
source_made known (sources.Standard word) given name = made_at Stream given
source_made known (sources.Files words) given name = file_made known name
source_made known (sources.Listed path) given name = listed_made known name

-- sources of these names, each with the reader that was made for its name
abbrev pub sightings : (made : List ℕ → Sight) → List (List ℕ) → List Sighted
sightings made names = map (λ name. record { name = name; reader = made name }) names

abbrev pub source_sightings : (known : List ℕ → Option (List ℕ)) → Sources → (given : Option (List ℕ)) → List (List ℕ) → List Sighted
source_sightings known sources given names = sightings (source_made known sources given) names

-- the file of a name that stands in a list isn't opened yet, and can't be where the name isn't UTF-8
abbrev pub listed_standing : (known : List ℕ → Option (List ℕ)) → List ℕ → Standing
listed_standing known name = if is_utf8 name then unopened known name else Failed None

abbrev pub listed_reason : List ℕ → Option Reason
listed_reason name = if is_utf8 name then None else Some NotUtf8

-- how the readers of the sources stand: standard input with these bytes, or a file for each name
abbrev pub source_standings : (known : List ℕ → Option (List ℕ)) → Sources → (given : Option (List ℕ)) → List (List ℕ) → List Standing
source_standings known (sources.Standard name) given names = map (λ _. Standard (unread given)) names
source_standings known (sources.Files words) given names = map (unopened known) names
source_standings known (sources.Listed path) given names = map (listed_standing known) names

-- why they can't be read, as far as that is known before
abbrev pub source_reasons : Sources → List (List ℕ) → List (Option Reason)
source_reasons (sources.Standard name) names = map (λ _. None) names
source_reasons (sources.Files words) names = map (λ _. None) names
source_reasons (sources.Listed path) names = map listed_reason names

-- why there are no sources: a list couldn't be read, as it may, or has too many names, or memory was refused
abbrev pub AreUnlisted : (known : List ℕ → Option (List ℕ)) → (can_fail : List ℕ → Type 0) → Sources → (given : Option (List ℕ)) → Unlisted → Type 0
AreUnlisted known can_fail (sources.Listed path) given why = IsListFault (MayFailListed can_fail (string_bytes path)) (list_given known (string_bytes path) given) why
AreUnlisted known can_fail sources given unlisted.Memory = ⊤
AreUnlisted known can_fail sources given why = ⊥

-- how standard input is left beside the sources: it is the source, or nothing was read of it, or a list was
abbrev pub IsLeftBeside : Sources → (given : Option (List ℕ)) → (left : Option Seen) → Type 0
IsLeftBeside (sources.Standard name) given left = left ≡ None
IsLeftBeside (sources.Files words) given left = IsUntouched given left
IsLeftBeside (sources.Listed path) given left = IsLeftByList (string_bytes path) given left

-- how it is left where there are no sources; of one that is the source, or that nothing is read of, memory alone was refused then
abbrev pub IsLeftUnlisted : Sources → (given : Option (List ℕ)) → Unlisted → (left : Option Seen) → Type 0
IsLeftUnlisted (sources.Standard name) given why left = ⊤
IsLeftUnlisted (sources.Files words) given why left = ⊤
IsLeftUnlisted (sources.Listed path) given why left = IsLeftByFault (string_bytes path) given why left
