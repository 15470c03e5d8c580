-- The steps of a run.
use Rattle.std.specs.Prelude.{◌≡◌, ℕ, ◌+◌, ◌-◌, ◌<◌, ◌≤◌, ◌^◌, ◌⊎◌, Bool, true, false, List, [], ◌∷◌, length, replicate, slice_get, Option, Some, None}
use Rattle.aero_model.specs.declared.verdict.Ending.{Ending}
use Rattle.aero_model.specs.declared.verdict.Ending.TheVariants as endings
use Rattle.aero_model.specs.declared.verdict.Finding.TheVariants as findings
use Rattle.aero_grammar.specs.Reading.{Reading}
use Rattle.aero_lines.specs.Cutting.{Cutting, block_of, last_block}
use Rattle.aero_pieces.specs.declared.question.Question.{Question}
use Rattle.aero_pieces.specs.declared.question.Question.TheVariants.{Parse, Check}
use Rattle.aero_batch.specs.declared.underway.Underway.{Underway}
use Rattle.aero_intake.specs.declared.track.Track.{Track}
use Rattle.aero_intake.specs.declared.track.Track.TheVariants.{Arriving, Found}
use Rattle.aero_telling.specs.Founds.{Sighted}
use Rattle.aero_batch.specs.declared.kind.Kind.{Kind}
use Rattle.aero_batch.specs.declared.kind.Kind.TheVariants as kinds
use Rattle.aero_batch.specs.Inquiries.{Inquired, nothing_asked, open_count, open_of, with_open, with_question}
use Rattle.aero_intake.specs.Held.{nothing_read}
use Rattle.aero_intake.specs.Intake.{nothing_taken, with_piece, with_cut, with_passing, Comes, Ends}
use Rattle.aero_intake.specs.Source.{Closes, Sight}
use Rattle.aero_intake.specs.Tracks.{is_faulty, is_told, IsDecided, with_arrival, IsReady, GivesParts}
use Rattle.aero_intake.specs.Stories.{changed, IsSettledWith}
use Rattle.aero_model.specs.Terms.{Terms}

-- before the first step
pub record IsStart (terms : Terms) (sources : ℕ) (underway : Underway) : Type 0 where
  pub inquiry : underway.inquiry ≡ nothing_asked
  pub tracks : underway.tracks.items ≡ replicate sources (Arriving (nothing_read terms))
  pub none_read : underway.read ≡ 0
  pub none_checked : underway.checked ≡ 0
  pub intake : underway.intake ≡ nothing_taken
  pub no_chunks : underway.chunks ≡ 0
  pub reading : underway.ended ≡ None

-- one more question may be asked
pub record MayAsk (underway : Underway) : Type 0 where
  pub room : open_count underway.inquiry < 64
  pub few : underway.inquiry.asked < 2 ^ 63
  pub few_chunks : underway.chunks < 2 ^ 64 - 1

-- the next chunk of the source that is being read is asked about, if there is one
abbrev pub with_chunk : Underway → Option (List ℕ) → Underway
with_chunk p None = p
with_chunk p (Some block) = record p { inquiry = with_question kinds.Parse p.inquiry (Parse p.read p.chunks block); chunks = p.chunks + 1 }

-- whether a line of the source that is being read is known to be malformed, or one too many
abbrev pub faulty_there : Option Track → Bool
faulty_there None = false
faulty_there (Some track) = is_faulty track

abbrev pub has_fault : Underway → Bool
has_fault p = faulty_there (slice_get p.tracks.items p.read)

-- what was read of the source that is being read decides
abbrev pub DecidesThere : Option Track → Type 0
DecidesThere None = ⊥
DecidesThere (Some track) = IsDecided track

abbrev pub HasDecided : Underway → Type 0
HasDecided p = DecidesThere (slice_get p.tracks.items p.read)

-- No further chunk of the source that is being read counts: some of it was passed over, or what was read decides.
abbrev pub HasEnough : Underway → Type 0
HasEnough p = (p.intake.passed ≡ true) ⊎ HasDecided p

-- whether it is told of the source that is being read that what was read decides
abbrev pub told_there : Option Track → Bool
told_there None = false
told_there (Some track) = is_told track

-- Its next chunk counts: nothing of it was passed over, no line is known to be malformed, or one too many, and no verdict to be certain, unless a listed
-- label is missing.
pub record GoesOn (p : Underway) : Type 0 where
  pub none_passed : p.intake.passed ≡ false
  pub no_fault : has_fault p ≡ false
  pub none_told : told_there (slice_get p.tracks.items p.read) ≡ false

-- The chunk that is asked about of the last one, if there is one: none, where it doesn't count.
abbrev pub IsWanted : Underway → (given asked : Option (List ℕ)) → Type 0
IsWanted p given asked = ((asked ≡ given) × GoesOn p) ⊎ ((asked ≡ None) × HasEnough p)

-- the last chunk of a source that is whole: of another, none is asked about
abbrev pub last_of : Cutting → Ending → Option (List ℕ)
last_of cutting endings.Whole = last_block cutting
last_of cutting endings.Broken = None
last_of cutting endings.TooLarge = None
last_of cutting endings.Stopped = None

-- the track of a source that has ended
abbrev pub ended_track : Ending → ℕ → ℕ → Track → Track
ended_track endings.Whole bytes chunks t = with_arrival t bytes endings.Whole chunks
ended_track endings.Stopped bytes chunks t = with_arrival t bytes endings.Stopped chunks
ended_track endings.Broken bytes chunks t = Found (record { bytes = bytes; ending = endings.Broken; finding = findings.Broken bytes; begun = None })
ended_track endings.TooLarge bytes chunks t = Found (record { bytes = bytes; ending = endings.TooLarge; finding = findings.TooLarge; begun = None })

-- The source that was being read has ended so, and the next one is to be read.
pub record EndsSource (ending : Ending) (old new : Underway) : Type 0 where
  pub asked : Option (List ℕ)
  pub wanted : IsWanted old (last_of old.intake.cutting ending) asked
  pub inquiry : new.inquiry ≡ (with_chunk old asked).inquiry
  pub tracks : new.tracks.items ≡ changed old.read (ended_track ending old.intake.count ((with_chunk old asked).chunks)) old.tracks.items
  pub read : new.read ≡ old.read + 1
  pub checked : new.checked ≡ old.checked
  pub intake : new.intake ≡ nothing_taken
  pub chunks : new.chunks ≡ 0
  pub reading : new.ended ≡ None

-- A piece came, by a read of at most so many bytes, and is held.
pub record TakesPiece (terms : Terms) (before after : Sight) (old new : Underway) : Type 0 where
  pub piece : List ℕ
  pub most : ℕ
  pub comes : Comes before after most terms.rules.limits.bytes old.intake.count piece
  pub new_is : new ≡ record old { intake = with_piece old.intake piece }

-- The reading has ended, and what came stays.
pub record NotesEnding (terms : Terms) (before after : Sight) (old new : Underway) : Type 0 where
  pub ending : Ending
  pub ends : Ends before after terms.rules.limits.bytes old.intake.count ending
  pub new_is : new ≡ record old { ended = Some ending }

-- The reader is used, unless as many bytes have come as may.
abbrev pub ReadsPiece : Terms → Sight → Sight → Underway → Underway → Type 0
ReadsPiece terms before after old new = TakesPiece terms before after old new ⊎ NotesEnding terms before after old new

-- What is held is cut, and the chunk that it gives, if it gives one, is asked about.
pub record CutsHeld (old new : Underway) : Type 0 where
  pub some : 0 < length old.intake.held
  pub going_on : GoesOn old
  pub inquiry : new.inquiry ≡ (with_chunk old (block_of old.intake.cutting old.intake.held)).inquiry
  pub chunks : new.chunks ≡ (with_chunk old (block_of old.intake.cutting old.intake.held)).chunks
  pub intake : new.intake ≡ with_cut old.intake
  pub tracks : new.tracks.items ≡ old.tracks.items
  pub read : new.read ≡ old.read
  pub checked : new.checked ≡ old.checked
  pub ended : new.ended ≡ old.ended

-- What is held is passed over.
pub record PassesOver (old new : Underway) : Type 0 where
  pub enough : HasEnough old
  pub new_is : new ≡ record old { intake = with_passing old.intake }

-- What is held is cut, or passed over.
abbrev pub LetsHeldGo : Underway → Underway → Type 0
LetsHeldGo old new = CutsHeld old new ⊎ PassesOver old new

-- The source that is being read is read no further, and what is held of it is passed over: the terms ask for that, no further chunk of it counts, and
-- it isn't too large.
pub record StopsReading (terms : Terms) (old new : Underway) : Type 0 where
  pub asked_for : terms.stop ≡ true
  pub enough : HasEnough old
  pub within : old.intake.count ≤ terms.rules.limits.bytes
  pub new_is : new ≡ record old { intake = with_passing old.intake; ended = Some endings.Stopped }

-- The reading of the source has ended so, nothing that came is held any more, and the next source is to be read.
pub record PassesOn (old new : Underway) : Type 0 where
  pub ending : Ending
  pub ended : old.ended ≡ Some ending
  pub none_held : length old.intake.held ≡ 0
  pub ends : EndsSource ending old new

-- One step of reading: while the reading has not ended the reader is used, or closed, where the source is read no further; or what is held is cut, or
-- passed over; or the source is passed on from.
abbrev pub ReadsOn : Terms → Sight → Sight → Underway → Underway → Type 0
ReadsOn terms before after old new =
    ((old.ended ≡ None) × (ReadsPiece terms before after old new ⊎ (Closes before after × StopsReading terms old new)))
    ⊎ (((after ≡ before) × LetsHeldGo old new) ⊎ ((after ≡ before) × PassesOn old new))

-- the verdict is asked for on what the chunks of a source say
abbrev pub with_check : Terms → Inquired → ℕ → Option (List Reading) → Inquired
with_check terms i trace None = i
with_check terms i trace (Some parts) = with_question kinds.Check i (Check trace parts terms.rules.limits terms.rules.labels terms.rules.end terms.order terms.explain)

-- The verdict on the next source is asked for, where it needs one.
pub record ChecksNext (terms : Terms) (old new : Underway) : Type 0 where
  pub before : Track
  pub after : Track
  pub parts : Option (List Reading)
  pub was : slice_get old.tracks.items old.checked ≡ Some before
  pub ready : IsReady before
  pub gives : GivesParts before after parts
  pub tracks : new.tracks.items ≡ changed old.checked (λ t. after) old.tracks.items
  pub inquiry : new.inquiry ≡ with_check terms old.inquiry old.checked parts
  pub checked : new.checked ≡ old.checked + 1
  pub read : new.read ≡ old.read
  pub intake : new.intake ≡ old.intake
  pub chunks : new.chunks ≡ old.chunks
  pub ended : new.ended ≡ old.ended

-- The value of the first of the questions, if there is one, goes to the track of its source: `left` says what stands once these are left.
abbrev pub Settles : List Question → (List Question → Inquired) → Inquired → List Track → List Track → Type 0
Settles [] left inquiry old new = (inquiry ≡ left []) × (new ≡ old)
Settles (q ∷ rest) left inquiry old new = (inquiry ≡ left rest) × IsSettledWith q old new

-- The oldest open question of the kind is settled, if there is one.
pub record SettlesNext (kind : Kind) (old new : Underway) : Type 0 where
  pub settles : Settles (open_of kind old.inquiry) (with_open kind old.inquiry) new.inquiry old.tracks.items new.tracks.items
  pub read : new.read ≡ old.read
  pub checked : new.checked ≡ old.checked
  pub intake : new.intake ≡ old.intake
  pub chunks : new.chunks ≡ old.chunks
  pub ended : new.ended ≡ old.ended

-- The reader of one source was used, and nothing else was done to the sources.
pub record IsReadFrom (now after : List Sighted) (place : ℕ) (before_read after_read : Sight) : Type 0 where
  pub was : Sighted
  pub was_there : slice_get now place ≡ Some was
  pub used : was.reader ≡ before_read
  pub is_there : slice_get after place ≡ Some (record { name = was.name; reader = after_read })
  pub others : (s : ℕ) → (place ≡ s → ⊥) → slice_get after s ≡ slice_get now s

-- A step of reading.
pub record ReadsNext (terms : Terms) (now after : List Sighted) (old new : Underway) : Type 0 where
  pub before_read : Sight
  pub after_read : Sight
  pub reads : ReadsOn terms before_read after_read old new
  pub from : IsReadFrom now after old.read before_read after_read
  pub may : MayAsk old
  pub unread : old.read < length now

-- One step of a run: it asks for a verdict, reads, or settles.
abbrev pub Steps : Terms → List Sighted → List Sighted → Underway → Underway → Type 0
Steps terms now after old new =
    ((after ≡ now) × (kind : Kind) × SettlesNext kind old new)
    ⊎ (((after ≡ now) × (old.checked < old.read) × MayAsk old × ChecksNext terms old new) ⊎ ReadsNext terms now after old new)
