-- What is known of each source, while questions on it are asked and settled.
use Rattle.std.specs.Prelude.{◌≡◌, ◌⊎◌, Bool, true, ℕ, zero, suc, ◌==◌, if◌then◌else◌, List, [], ◌∷◌, ◌++◌, map, length, slice_get, Option, Some, None, All}
use Rattle.std.specs.List.{concat}
use Rattle.aero_model.specs.declared.verdict.Ending.{Ending}
use Rattle.aero_model.specs.declared.verdict.Ending.TheVariants as endings
use Rattle.aero_grammar.specs.Reading.{Reading, reading_of}
use Rattle.aero_lines.specs.Cutting.{nothing_yet, blocks_from}
use Rattle.aero_pieces.specs.declared.question.Question.{Question}
use Rattle.aero_pieces.specs.declared.question.Question.TheVariants.{Parse, Check}
use Rattle.aero_pieces.specs.declared.answer.Value.{Value}
use Rattle.aero_pieces.specs.Values.{IsValueOf}
use Rattle.aero_judge.specs.Finding.{IsFinding}
use Rattle.aero_model.specs.Terms.{Terms, on, ruled, to_the_end}
use Rattle.aero_intake.specs.Begun.{AreBegun}
use Rattle.aero_intake.specs.Held.{Known, IsFinal}
use Rattle.aero_intake.specs.Surveys.{IsSaidOf}
use Rattle.aero_intake.specs.declared.track.Track.{Track}
use Rattle.aero_intake.specs.declared.track.Track.TheVariants.{Arriving, Arrived, Checking, Found}
use Rattle.aero_intake.specs.Tracks.{with_value}

-- what became of a source so far: the pieces that came, those of the chunks that they were cut into that were asked about, and how it ended, if it has
pub record Story : Type 0 where
  pub pieces : List (List ℕ)
  pub chunks : List (List ℕ)
  pub ending : Option Ending

-- what a question on a trace says of it
pub record Asked : Type 0 where
  pub parts : List Reading
  pub terms : Terms

-- the chunk that a question is about, where it is of the source
abbrev pub own_chunk : ℕ → Question → List (List ℕ)
own_chunk s (Parse trace number bytes) = if trace == s then bytes ∷ [] else []
own_chunk s (Check trace parts limits labels end order explain) = []

-- the chunks of the source that are asked about, in order
abbrev pub chunks_asked : ℕ → List Question → List (List ℕ)
chunks_asked s [] = []
chunks_asked s (q ∷ more) = own_chunk s q ++ chunks_asked s more

abbrev pub own_check : ℕ → Question → List Asked
own_check s (Parse trace number bytes) = []
own_check s (Check trace parts limits labels end order explain) =
    if trace == s then record { parts = parts; terms = on (ruled limits labels end) order explain } ∷ [] else []

abbrev pub checks_asked : ℕ → List Question → List Asked
checks_asked s [] = []
checks_asked s (q ∷ more) = own_check s q ++ checks_asked s more

-- Both begin with the same chunks, and these are final.
pub record BeginAlike (terms : Terms) (asked all : List (List ℕ)) : Type 0 where
  pub front : List (List ℕ)
  pub rest : List (List ℕ)
  pub others : List (List ℕ)
  pub asked_are : asked ≡ front ++ rest
  pub all_are : all ≡ front ++ others
  pub decided : IsFinal terms (map reading_of front)

-- The chunks that were asked about are all, or have the same first ones, and those decide.
abbrev pub AreEnough : Terms → List (List ℕ) → List (List ℕ) → Type 0
AreEnough terms asked all = (asked ≡ all) ⊎ BeginAlike terms asked all

-- What was asked about is enough to judge what came. If the source came whole, that is so of its chunks. If it is read no further, the terms ask for
-- that, and the chunks that were asked about decide, whatever could follow.
abbrev pub Suffices : Ending → Terms → Story → Type 0
Suffices endings.Whole terms story = AreEnough terms story.chunks (blocks_from nothing_yet story.pieces)
Suffices endings.Stopped terms story = (terms.stop ≡ true) × ((more : List ℕ) → BeginAlike terms story.chunks (blocks_from nothing_yet (story.pieces ++ more ∷ [])))
Suffices endings.Broken terms story = ⊥
Suffices endings.TooLarge terms story = ⊥

-- What is known of a source that has come: how many bytes came, how they ended, and how many of its chunks were asked about.
pub record HasArrived (terms : Terms) (story : Story) (bytes : ℕ) (ending : Ending) (chunks : ℕ) : Type 0 where
  pub ended : story.ending ≡ Some ending
  pub enough : Suffices ending terms story
  pub byte_count : bytes ≡ length (concat story.pieces)
  pub chunk_count : chunks ≡ length story.chunks

-- On the terms is judged what its chunks say, and that of those that are settled, with what those say that are still asked about, is what all say
-- that were asked about.
pub record AreSettled (terms : Terms) (story : Story) (qs : List Question) (s : ℕ) (known : Known) : Type 0 where
  pub on : known.terms ≡ terms
  pub all : known.parts ++ map reading_of (chunks_asked s qs) ≡ map reading_of story.chunks

-- The track of source s fits the story.
abbrev pub IsTracked : Terms → List Question → ℕ → Story → Track → Type 0
IsTracked terms qs s story (Arriving known) = AreSettled terms story qs s known × (checks_asked s qs ≡ []) × (story.ending ≡ None)
IsTracked terms qs s story (Arrived bytes ending chunks known) = AreSettled terms story qs s known × (checks_asked s qs ≡ []) × HasArrived terms story bytes ending chunks
IsTracked terms qs s story (Checking bytes ending begun) =
    All (λ a. a ≡ record { parts = map reading_of story.chunks; terms = to_the_end terms }) (checks_asked s qs) × HasArrived terms story bytes ending (length story.chunks)
    × IsSaidOf terms (map reading_of story.chunks) ending begun
IsTracked terms qs s story (Found found) =
    (story.ending ≡ Some found.ending) × (found.bytes ≡ length (concat story.pieces)) × ∥ IsFinding (concat story.pieces) found.ending terms found.finding ∥₁
    × AreBegun terms (concat story.pieces) found.ending found.begun

abbrev pub AreTracked : Terms → List Question → (ℕ → Story) → List Track → Type 0
AreTracked terms qs tale tracks = (s : ℕ) (t : Track) → slice_get tracks s ≡ Some t → IsTracked terms qs s (tale s) t

-- the number of the trace that a question is about
abbrev pub trace_of : Question → ℕ
trace_of (Parse trace number bytes) = trace
trace_of (Check trace parts limits labels end order explain) = trace

-- the list with another element at the place, if it has one there
abbrev pub changed : {A : Type 0} → ℕ → (A → A) → List A → List A
changed place f [] = []
changed zero f (x ∷ xs) = f x ∷ xs
changed (suc place) f (x ∷ xs) = x ∷ changed place f xs

-- The value of the question goes to the track of its source, of which so many events are kept at most.
pub record IsSettledWith (q : Question) (old new : List Track) : Type 0 where
  pub value : Value
  pub known : IsValueOf q value
  pub most : ℕ
  pub certain : Bool
  pub tracks : new ≡ changed (trace_of q) (λ t. with_value most certain t value) old
