-- What a second reading of a source saw of its faulty line.
use Rattle.std.specs.Prelude.{◌≡◌, ◌≢◌, ◌+◌, ◌⊎◌, ℕ, Bool, true, false, List, length, [], ◌∷◌, ◌++◌, flat_map, map, Option, None, Some, ⊤}
use Rattle.std.specs.Io.KnownBytes.{Consumes, IsAtEnd}
use Rattle.std.specs.List.{list_any}
use Rattle.aero_model.specs.declared.verdict.LineFault.{LineFault}
use Rattle.aero_model.specs.declared.verdict.ShapeFault.{ShapeFault}
use Rattle.aero_model.specs.Lines.{is_line_end, is_too_long}
use Rattle.aero_model.specs.Named.{Named}
use Rattle.aero_grammar.specs.Meaning.{Meaning, Blank, Means, Faulty, meaning}
use Rattle.aero_grammar.specs.Reading.{Reading, line_reading, whole_reading}
use Rattle.aero_faults.specs.Hindrances.{Hinders}
use Rattle.aero_faults.specs.declared.hindrance.Hindrance.{Hindrance}
use Rattle.aero_faults.specs.Searches.{HasSeen, hindrance_in}
use Rattle.aero_faults.specs.declared.look.Look.{Look}
use Rattle.aero_faults.specs.declared.look.Look.TheVariants.{Nothing, Line, Event}
use Rattle.aero_faults.specs.declared.search.Search.{Search}
use Rattle.aero_faults.specs.declared.short.Short.{Short}

-- a line with the byte 10 that ends it
abbrev pub ended : List ℕ → List ℕ
ended line = line ++ 10 ∷ []

abbrev pub has_end : List ℕ → Bool
has_end line = list_any is_line_end line

-- what follows a line: its byte 10, or nothing at the end of the source; a line that is too long goes on
abbrev pub Follows : (line back : List ℕ) → (left : Option (List ℕ)) → Type 0
Follows line back left = ((more : List ℕ) × (back ≡ 10 ∷ more)) ⊎ ((is_too_long line ≡ true) ⊎ ((back ≡ []) × IsAtEnd left))

-- Of a source with these bytes, as far as they are known, these lines were read, each up to its byte 10, and behind them this line, or the front of one that is too long.
pub record WasRead (given : Option (List ℕ)) (before : List (List ℕ)) (line : List ℕ) : Type 0 where
  pub back : List ℕ
  pub left : Option (List ℕ)
  pub came : Consumes given left (flat_map ended before ++ (line ++ back))
  pub ended_once : list_any has_end before ≡ false
  pub endless : has_end line ≡ false
  pub follows : Follows line back left

-- the line of this number, from 1
pub record IsLine (given : Option (List ℕ)) (number : ℕ) (line : List ℕ) : Type 0 where
  pub before : List (List ℕ)
  pub read : WasRead given before line
  pub count : length before + 1 ≡ number

-- what the lines say
abbrev pub reading_of_lines : List (List ℕ) → Reading
reading_of_lines lines = whole_reading (map (λ line. line_reading (meaning line)) lines)

-- what is told of a line where a malformed one was: its bytes, if it has the fault
abbrev pub IsLineLook : LineFault → (line : List ℕ) → Look → Type 0
IsLineLook fault line (Line seen) = (seen.items ≡ line) × (meaning line ≡ Faulty fault)
IsLineLook fault line Nothing = meaning line ≢ Faulty fault
IsLineLook fault line (Event e hindrance) = ⊥

-- the line of this number is the event, none before it is malformed, and this stands in its way
pub record WasHindered (given : Option (List ℕ)) (number : ℕ) (line : List ℕ) (fault : ShapeFault) (e : Named) (h : Hindrance) : Type 0 where
  pub before : List (List ℕ)
  pub read : WasRead given before line
  pub count : length before + 1 ≡ number
  pub means : meaning line ≡ Means e
  pub sound : (reading_of_lines before).fault ≡ None
  pub hinders : Hinders (reading_of_lines before).events e fault h

-- what is told of a line where an ill-formed event was: the event and what stands in its way, if that explains the fault
abbrev pub IsEventLook : (given : Option (List ℕ)) → (number : ℕ) → (line : List ℕ) → ShapeFault → Look → Type 0
IsEventLook given number line fault (Event e hindrance) = WasHindered given number line fault e hindrance
IsEventLook given number line fault Nothing = ⊤
IsEventLook given number line fault (Line seen) = ⊥

-- what is known of some lines that were read, each up to its byte 10
pub record AreWhole (given left : Option (List ℕ)) (number : ℕ) : Type 0 where
  pub before : List (List ℕ)
  pub came : Consumes given left (flat_map ended before)
  pub ended_once : list_any has_end before ≡ false
  pub count : length before ≡ number

-- the same of lines of which none is malformed and whose events the search has seen
pub record AreSeen (given left : Option (List ℕ)) (number : ℕ) (search : Search) : Type 0 where
  pub before : List (List ℕ)
  pub came : Consumes given left (flat_map ended before)
  pub ended_once : list_any has_end before ≡ false
  pub count : length before ≡ number
  pub lines : (reading_of_lines before).lines ≡ number
  pub sound : (reading_of_lines before).fault ≡ None
  pub seen : HasSeen search (reading_of_lines before).events

-- the reader within one of short lines
abbrev pub within : {B : Type 0} → Short B → B
within lines = lines.inner

-- the next line of a source, or the front of one that is too long
pub record IsNext (given : Option (List ℕ)) (line : List ℕ) : Type 0 where
  pub back : List ℕ
  pub left : Option (List ℕ)
  pub came : Consumes given left (line ++ back)
  pub endless : has_end line ≡ false
  pub follows : Follows line back left

-- a search for what hinders the same event, which has the same fault
pub record IsSameSearch (one other : Search) : Type 0 where
  pub event : other.event ≡ one.event
  pub fault : other.fault ≡ one.fault

-- the search has seen the events before, and that of a line of this number, if it has one; the line isn't malformed
abbrev pub SeesLine : Search → List (ℕ × Named) → (number : ℕ) → Meaning → Type 0
SeesLine search before number Blank = HasSeen search before
SeesLine search before number (Means e) = HasSeen search (before ++ (number, e) ∷ [])
SeesLine search before number (Faulty f) = ⊥

-- what a search tells: the hindrance stands in the way of its event after all events that it has seen
abbrev pub IsSearchLook : Search → Look → Type 0
IsSearchLook search (Event e hindrance) =
    (e ≡ search.event) × ((before : List (ℕ × Named)) → HasSeen search before → Hinders before search.event search.fault hindrance)
    × (hindrance_in search.fault search.event search.seen ≡ Some hindrance)
IsSearchLook search Nothing = hindrance_in search.fault search.event search.seen ≡ None
IsSearchLook search (Line seen) = ⊥
