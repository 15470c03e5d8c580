-- Labels in files, one on each line.
use Rattle.std.specs.Prelude.{◌≡◌, ◌<◌, ◌≤◌, ◌^◌, ◌⊎◌, ◌==◌, ◌||◌, ℕ, suc, Bool, true, false, nat_lt, if◌then◌else◌, List, [], ◌∷◌, ◌++◌, bytes_eq, flat_map, is_some, length, map, Option, None, Some, ⊤, string_bytes}
use Rattle.std.specs.List.{filter_map, list_any}
use Rattle.std.specs.Str.Lines.{strip_carriage_return}
use Rattle.indexmap.specs.IndexSet.{insert_all}
use Rattle.aero_grammar.specs.Meaning.{trimmed}
use Rattle.aero_model.specs.Exempt.{Listed}
use Rattle.aero_model.specs.Lines.{lines_of}
use Rattle.aero_model.specs.Names.{name_fault}
use Rattle.aero_program.specs.declared.command.Config.{Config}
use Rattle.aero_program.specs.declared.label_files.Unlabelled.{Unlabelled}
use Rattle.aero_program.specs.declared.label_files.Unlabelled.TheVariants.{Unread, NoLabel, TooMany, Memory}
use Rattle.aero_program.specs.Command.{listed_by}
use Rattle.aero_program.specs.Listing.{IsWhole}

-- nothing, or a comment
abbrev pub says_nothing : List ℕ → Bool
says_nothing [] = true
says_nothing (b ∷ more) = b == 35

-- the label on a line, without the byte 13 at its end and the blanks around it, if there is one
abbrev pub label_on : List ℕ → Option (List ℕ)
label_on line = let text = trimmed (strip_carriage_return line) in if says_nothing text then None else Some text

abbrev pub labels_on : (lines : List (List ℕ)) → List (List ℕ)
labels_on lines = filter_map label_on lines

-- the labels in a text
abbrev pub labels_in : List ℕ → List (List ℕ)
labels_in text = labels_on (lines_of text)

abbrev pub labels_in_all : (texts : List (List ℕ)) → List (List ℕ)
labels_in_all texts = flat_map labels_in texts

-- labels to which others are added: each counts once, where it stands first
abbrev pub with_labels : (had : List (List ℕ)) → (more : List (List ℕ)) → List (List ℕ)
with_labels had more = insert_all bytes_eq had more

-- the bytes are no label
abbrev pub is_no_label : List ℕ → Bool
is_no_label bytes = is_some (name_fault bytes)

-- the labels on these lines may be added: each is one, and there aren't more than 65,536 then
abbrev pub MayBeAdded : (had : List (List ℕ)) → (lines : List (List ℕ)) → Type 0
MayBeAdded had lines = (list_any is_no_label (labels_on lines) ≡ false) × (length (with_labels had (labels_on lines)) ≤ 2 ^ 16)

-- These are the texts of the files at these paths, each all that its file has. All that stands on their lines are labels.
abbrev pub AreTexts : (known : List ℕ → Option (List ℕ)) → (paths : List (List ℕ)) → (texts : List (List ℕ)) → Type 0
AreTexts known [] [] = ⊤
AreTexts known [] (text ∷ texts) = ⊥
AreTexts known (path ∷ paths) [] = ⊥
AreTexts known (path ∷ paths) (text ∷ texts) = IsWhole (known path) text × (list_any is_no_label (labels_in text) ≡ false) × AreTexts known paths texts

-- the labels that the options of a configuration give
abbrev pub own_labels : Config → List (List ℕ)
own_labels config = if length config.only.items == 0 then config.except.items else config.only.items

-- the paths of its files of labels
abbrev pub label_paths : Config → List (List ℕ)
label_paths config = map string_bytes (if length config.only_from.items == 0 then config.except_from.items else config.only_from.items)

-- whether its labels are those of the only blocks that are transactions
abbrev pub is_only : Config → Bool
is_only config = nat_lt 0 (length config.only.items) || nat_lt 0 (length config.only_from.items)

-- the labels are those of the options and behind them those of the files, at most 65,536
pub record AreOfFiles (known : List ℕ → Option (List ℕ)) (config : Config) (listed : Listed) : Type 0 where
  pub texts : List (List ℕ)
  pub are : AreTexts known (label_paths config) texts
  pub labels : listed.labels ≡ with_labels [] (own_labels config ++ labels_in_all texts)
  pub few : length listed.labels ≤ 2 ^ 16
  pub only : listed.only ≡ is_only config

-- what the configuration's labels leave out, where these are the paths of its files: without files it is what the options say, a label that is repeated included
abbrev pub AreListedBy : (known : List ℕ → Option (List ℕ)) → Config → Listed → (paths : List (List ℕ)) → Type 0
AreListedBy known config listed [] = listed ≡ listed_by config.except.items config.only.items
AreListedBy known config listed (path ∷ more) = AreOfFiles known config listed

-- `known` says which bytes each file has that is opened at a path, where they are known
abbrev pub AreListed : (known : List ℕ → Option (List ℕ)) → Config → Listed → Type 0
AreListed known config listed = AreListedBy known config listed (label_paths config)

-- The first line of a text that fails so, whose number is this, counted from 1. The labels on the lines before may be added to those that were there.
pub record FailsFirst (had : List (List ℕ)) (text : List ℕ) (number : ℕ) (fails : (before : List (List ℕ)) → (line : List ℕ) → Type 0) : Type 0 where
  pub before : List (List ℕ)
  pub line : List ℕ
  pub behind : List (List ℕ)
  pub is : lines_of text ≡ before ++ line ∷ behind
  pub counted : number ≡ suc (length before)
  pub may : MayBeAdded had before
  pub failed : fails before line

-- what stands on the line is no label
abbrev pub HasNoLabel : (line : List ℕ) → Type 0
HasNoLabel line = list_any is_no_label (labels_on (line ∷ [])) ≡ true

-- what stands on the line is a label too many behind those of the lines before
abbrev pub HasOneTooMany : (had before : List (List ℕ)) → (line : List ℕ) → Type 0
HasOneTooMany had before line = (list_any is_no_label (labels_on (line ∷ [])) ≡ false) × (2 ^ 16 < length (with_labels had (labels_on (before ++ line ∷ []))))

-- why what stands on the line of this number can't be added to the labels that were there: these are that, if there is something
abbrev pub IsLineFault : (had : List (List ℕ)) → (these : List (List ℕ)) → (number : ℕ) → Unlabelled → Type 0
IsLineFault had these number (Unread reason) = ⊥
IsLineFault had these number (NoLabel line) = (line ≡ number) × (list_any is_no_label these ≡ true)
IsLineFault had these number (TooMany line) = (line ≡ number) × (list_any is_no_label these ≡ false) × (2 ^ 16 < length (with_labels had these))
IsLineFault had these number Memory = ⊤

-- why a file wasn't read to its end: a read failed, as it may, or memory was refused
abbrev pub IsUnreadFault : (may_fail : Type 0) → Unlabelled → Type 0
IsUnreadFault may_fail (Unread reason) = may_fail
IsUnreadFault may_fail (NoLabel line) = ⊥
IsUnreadFault may_fail (TooMany line) = ⊥
IsUnreadFault may_fail Memory = ⊤

-- why the labels in a text can't be added to those that were there
abbrev pub IsFaultIn : (had : List (List ℕ)) → (text : List ℕ) → Unlabelled → Type 0
IsFaultIn had text (Unread reason) = ⊥
IsFaultIn had text (NoLabel number) = FailsFirst had text number (λ before line. HasNoLabel line)
IsFaultIn had text (TooMany number) = FailsFirst had text number (HasOneTooMany had)
IsFaultIn had text Memory = ⊤

-- why those of the file at a path can't be added: an open or a read failed, as it may, or a line is at fault in what the file has, or memory was refused
abbrev pub IsFileFault : (known : List ℕ → Option (List ℕ)) → (can_fail : List ℕ → Type 0) → (had : List (List ℕ)) → (path : List ℕ) → Unlabelled → Type 0
IsFileFault known can_fail had path (Unread reason) = can_fail path
IsFileFault known can_fail had path (NoLabel number) = (text : List ℕ) × IsWhole (known path) text × IsFaultIn had text (NoLabel number)
IsFileFault known can_fail had path (TooMany number) = (text : List ℕ) × IsWhole (known path) text × IsFaultIn had text (TooMany number)
IsFileFault known can_fail had path Memory = ⊤

-- the labels of the files before this one were added, and why its own can't be
pub record FailsAt (known : List ℕ → Option (List ℕ)) (can_fail : List ℕ → Type 0) (had : List (List ℕ)) (paths : List (List ℕ)) (path : List ℕ) (why : Unlabelled) : Type 0 where
  pub before : List (List ℕ)
  pub behind : List (List ℕ)
  pub is : paths ≡ before ++ path ∷ behind
  pub texts : List (List ℕ)
  pub are : AreTexts known before texts
  pub fault : IsFileFault known can_fail (with_labels had (labels_in_all texts)) path why

-- why there are no labels: the first file fails that does, or memory was refused
abbrev pub AreUnlabelled : (known : List ℕ → Option (List ℕ)) → (can_fail : List ℕ → Type 0) → Config → (path : List ℕ) → Unlabelled → Type 0
AreUnlabelled known can_fail config path why = (why ≡ Memory) ⊎ FailsAt known can_fail (with_labels [] (own_labels config)) (label_paths config) path why
