-- How a chunk's events are admitted where blocks that are open end before their thread is joined.
use Rattle.std.specs.Prelude.{◌≡◌, ℕ, ◌+◌, ◌-◌, ◌<◌, ◌^◌, ◌==◌, ◌⊎◌, false, if◌then◌else◌, List, [], ◌++◌, length, map, slice_get, slice_index_or, replicate, Option, Some, None}
use Rattle.aero_model.specs.declared.numbered.Numbered.{Numbered}
use Rattle.aero_model.specs.declared.numbered.What.{What}
use Rattle.aero_model.specs.declared.numbered.What.TheVariants.{Join, Begin, End, Exempt}
use Rattle.aero_model.specs.Ended.{ends_at_end, open_of}
use Rattle.aero_model.specs.Named.{Named}
use Rattle.aero_model.specs.Terms.{Rules}
use Rattle.aero_grammar.specs.Reading.{after_lines}
use Rattle.aero_grammar.specs.Tabled.{name_at}
use Rattle.aero_engine.specs.Given.{Words}
use Rattle.aero_verdict.specs.declared.checker.Checker.{Checker}
use Rattle.aero_verdict.specs.declared.checker.Stop.{Stop}
use Rattle.aero_verdict.specs.declared.known.Exemptions.{Exemptions}
use Rattle.aero_verdict.specs.Known.{AreMarked}
use Rattle.aero_verdict.specs.Standing.{StandsFor, AreNext, StopsIn, names_of}

-- of each of the chunk's threads so many blocks are open after these events
pub record AreOpen (front : List Named) (threads : List (List ℕ)) (counts : List ℕ) : Type 0 where
  pub length_is : length counts ≡ length threads
  pub each : (n : ℕ) → n < length threads → slice_index_or counts n 0 ≡ open_of front (name_at threads n)

-- the thread that is joined, if one is, is one of so many
abbrev pub JoinsWithin : ℕ → What → Type 0
JoinsWithin threads (Join u) = u < threads
JoinsWithin threads _ = Unit {0}

-- and so is the actor
abbrev pub IsWithin : ℕ → Numbered → Type 0
IsWithin threads e = (e.thread < threads) × JoinsWithin threads e.what

abbrev pub joined_what : ℕ → What → Option ℕ
joined_what thread (Join u) = if u == thread then None else Some u
joined_what thread _ = None

-- the thread other than its own that the event joins, if it joins one
abbrev pub joined_by : Numbered → Option ℕ
joined_by e = joined_what e.thread e.what

abbrev pub an_end : ℕ → Numbered
an_end thread = record { thread = thread; what = End }

-- on the line an end for each block of this thread that is open
abbrev pub ends_for : List ℕ → (line : ℕ) → Option ℕ → List (ℕ × Numbered)
ends_for counts line None = []
ends_for counts line (Some u) = replicate (slice_index_or counts u 0) (line, an_end u)

-- the numbers of open blocks are these after the thread's blocks have ended
abbrev pub AreEnded : List ℕ → List ℕ → Option ℕ → Type 0
AreEnded old new None = (n : ℕ) → slice_index_or new n 0 ≡ slice_index_or old n 0
AreEnded old new (Some u) = u < length old → (n : ℕ) → slice_index_or new n 0 ≡ (if u == n then 0 else slice_index_or old n 0)

-- how many blocks of a thread are open after it has done this, if so many were
abbrev pub blocks_after : What → ℕ → ℕ
blocks_after (Begin label) n = n + 1
blocks_after End n = n - 1
blocks_after Exempt n = n - 1
blocks_after _ n = n

-- the event stood in the list, or it is an end of one of so many threads
abbrev pub IsFrom : ℕ → List (ℕ × Numbered) → ℕ × Numbered → Type 0
IsFrom threads events e = ((k : ℕ) × (slice_get events k ≡ Some e)) ⊎ ((e.1.what ≡ End) × (e.1.thread < threads))

-- it stands for these events, whatever events follow
pub record StandsBehind {E : Type 0} (words : Words E) (rules : Rules) (checker : Checker E) (front : List (ℕ × Named)) : Type 0 where
  pub count_is : checker.shape.admitted ≡ length front
  pub kept : (more : List (ℕ × Named)) → StandsFor words rules checker (front ++ more)

-- It admitted these events that come next, or stopped at one of them.
abbrev pub HasAdmitted : {E : Type 0} → Words E → Rules → (old new : Checker E) → List (List ℕ) → Exemptions → ℕ → List (ℕ × Named) → Option (ℕ × Stop) → Type 0
HasAdmitted words rules old new block flags before more None =
    (new.shape.admitted ≡ old.shape.admitted + length more) × ((all : List (ℕ × Named)) → AreNext words rules old all block flags before more → StandsFor words rules new all)
HasAdmitted words rules old new block flags before more (Some stopped) =
    (all : List (ℕ × Named)) → AreNext words rules old all block flags before more → StopsIn words rules new all old.shape.admitted before more stopped.0 stopped.1

-- It stands for these events, whatever follow, and of the labels of a block it is told which are exempt. If no block ends, there are fewer than 2^32 with those that come next.
pub record GoesBehind {E : Type 0} (words : Words E) (rules : Rules) (checker : Checker E) (front : List (ℕ × Named)) (block : List (List ℕ)) (flags : Exemptions) (more : List (ℕ × Named)) : Type 0 where
  pub stands : StandsBehind words rules checker front
  pub marked : AreMarked rules.labels block flags
  pub few : rules.end ≡ false → length front + length more < 2 ^ 32

-- an end on line 1 for each block that is open after these events, if the rules say so
abbrev pub ends_behind : Rules → List (ℕ × Named) → List (ℕ × Named)
ends_behind rules front = if rules.end then ends_at_end (names_of front) 1 else []

-- It admitted the ends behind these events, which stand on the line after so many, or stopped at one of them, whatever events follow.
abbrev pub HasEnded : {E : Type 0} → Words E → Rules → (old new : Checker E) → ℕ → List (ℕ × Named) → Option (ℕ × Stop) → Type 0
HasEnded words rules old new before front None =
    (new.shape.admitted ≡ old.shape.admitted + length (ends_behind rules front))
    × ((later : List (ℕ × Named)) → StandsFor words rules new (front ++ (map (after_lines before) (ends_behind rules front) ++ later)))
HasEnded words rules old new before front (Some stopped) =
    (later : List (ℕ × Named)) → StopsIn words rules new (front ++ (map (after_lines before) (ends_behind rules front) ++ later)) old.shape.admitted before (ends_behind rules front) stopped.0 stopped.1
