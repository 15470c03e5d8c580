-- How far a source is.
use Rattle.std.specs.Prelude.{◌≡◌, ◌⊎◌, ℕ, Bool, false, ◌&&◌, ◌||◌, List, length, Option, Some, None, ⊤}
use Rattle.std.specs.List.{list_all}
use Rattle.aero_model.specs.declared.verdict.Ending.{Ending}
use Rattle.aero_model.specs.declared.verdict.Finding.{Finding}
use Rattle.aero_model.specs.declared.verdict.Finding.TheVariants as findings
use Rattle.aero_grammar.specs.Reading.{Reading}
use Rattle.aero_judge.specs.Finding.{IsTraceFinding}
use Rattle.aero_pieces.specs.declared.answer.Value.{Value}
use Rattle.aero_pieces.specs.declared.answer.Value.TheVariants.{Parsed, Judged, Ordered, Explained, Opened}
use Rattle.aero_intake.specs.Begun.{begins_in}
use Rattle.aero_intake.specs.Held.{Known, with_next, decides, IsFinal}
use Rattle.aero_intake.specs.Surveys.{IsSaidOf}
use Rattle.aero_intake.specs.declared.begun.Begun.{Begun}
use Rattle.aero_intake.specs.declared.track.Arrival.{Arrival}
use Rattle.aero_intake.specs.declared.track.Track.{Track}
use Rattle.aero_intake.specs.declared.track.Track.TheVariants.{Arriving, Arrived, Checking, Found}

-- whether a line of a source that is still coming is known to be malformed, or one too many
abbrev pub is_faulty : Track → Bool
is_faulty (Arriving known) = decides known.terms.rules.limits known.parts
is_faulty track = false

-- whether it is told of what is known of a source that it decides: a line is malformed, or one too many, or the source is live, its verdict is certain,
-- and no listed label is missing, or the source is read no further than it must be
abbrev pub is_told_of : Known → Bool
is_told_of known =
    decides known.terms.rules.limits known.parts
    || (known.certain && (known.terms.stop || list_all (begins_in known.parts) known.terms.rules.labels.labels))

-- the same of a source that is still coming
abbrev pub is_told : Track → Bool
is_told (Arriving known) = is_told_of known
is_told track = false

-- what is known of a source that is still coming is final
abbrev pub IsDecided : Track → Type 0
IsDecided (Arriving known) = IsFinal known.terms known.parts
IsDecided track = ⊥

-- whether the verdict on a source that is live is certain before its end
abbrev pub certain_of : Track → Bool
certain_of (Arriving known) = known.certain
certain_of (Arrived bytes ending chunks known) = known.certain
certain_of track = false

-- the track with one more part of its source read, of which so many events are kept at most
abbrev pub with_part : ℕ → Bool → Track → Reading → Track
with_part most certain (Arriving known) r = Arriving (with_next most certain known r)
with_part most certain (Arrived bytes ending chunks known) r = Arrived bytes ending chunks (with_next most certain known r)
with_part most certain (Checking bytes ending begun) r = Checking bytes ending begun
with_part most certain (Found found) r = Found found

-- the track with what is found of its source
abbrev pub with_finding : Track → Finding → Track
with_finding (Arriving known) f = Arriving known
with_finding (Arrived bytes ending chunks known) f = Arrived bytes ending chunks known
with_finding (Checking bytes ending begun) f = Found (record { bytes = bytes; ending = ending; finding = f; begun = begun })
with_finding (Found found) f = Found found

abbrev pub with_value : ℕ → Bool → Track → Value → Track
with_value most certain track (Parsed r) = with_part most certain track r
with_value most certain track (Judged verdict) = with_finding track (findings.Judged verdict)
with_value most certain track (Ordered verdict steps) = with_finding track (findings.Ordered verdict steps)
with_value most certain track (Explained verdict cycle) = with_finding track (findings.Explained verdict cycle)
with_value most certain track (Opened verdict blocks) = with_finding track (findings.Opened verdict blocks)

-- the track of a source that came whole, or is read no further
abbrev pub with_arrival : Track → ℕ → Ending → ℕ → Track
with_arrival (Arriving known) bytes ending chunks = Arrived bytes ending chunks known
with_arrival track bytes ending chunks = track

-- all chunks of the source that were asked about were read, or it is found what is to be said of it
abbrev pub IsReady : Track → Type 0
IsReady (Arriving known) = ⊥
IsReady (Arrived bytes ending chunks known) = length known.parts ≡ chunks
IsReady (Checking bytes ending begun) = ⊥
IsReady (Found found) = ⊤

-- What is known of a source that has come is taken from its track. Any other track stays as it is.
abbrev pub TakesArrival : Track → Track → Option Arrival → Type 0
TakesArrival (Arrived bytes ending chunks known) new given = given ≡ Some (record { bytes = bytes; ending = ending; known = known })
TakesArrival old new given = (given ≡ None) × (new ≡ old)

-- The verdict is asked for where a source that has come waits for it, unless the source was judged as it came: then it is known what is found of it.
-- What its chunks say of the labels is kept.
abbrev pub GivesParts : Track → Track → Option (List Reading) → Type 0
GivesParts (Arrived bytes ending chunks known) new given =
    (begun : Option Begun) × IsSaidOf known.terms known.parts ending begun
    × (((given ≡ Some known.parts) × (new ≡ Checking bytes ending begun))
    ⊎ ((given ≡ None) × (finding : Finding) × IsTraceFinding known.parts known.terms finding
    × (new ≡ Found (record { bytes = bytes; ending = ending; finding = finding; begun = begun }))))
GivesParts old new given = (given ≡ None) × (new ≡ old)
