-- What a `Recorder` keeps of the events that it is given, and for which it stands.
use Rattle.std.specs.Prelude.{◌≡◌, ℕ, suc, ◌+◌, ◌^◌, ◌<◌, Bool, List, [], ◌∷◌, ◌++◌, length, take, slice_get, Option, None, Some, map}
use Rattle.std.specs.List.{AllZip}
use Rattle.aero_model.specs.declared.numbered.Numbered.{Numbered}
use Rattle.aero_model.specs.declared.numbered.What.{What}
use Rattle.aero_model.specs.declared.numbered.What.TheVariants.{Begin, End, Exempt}
use Rattle.aero_model.specs.Cycle.{HasTellingCycle}
use Rattle.aero_model.specs.Exempt.{IsJudgedAs}
use Rattle.aero_model.specs.Shape.{IsWellFormed}
use Rattle.aero_engine.specs.Given.{Given}
use Rattle.aero_leads.specs.Leads.{Rows, is_led}
use Rattle.aero_leads.specs.Leasts.{IsLeastOf}
use Rattle.aero_leads.specs.Standing as leads
use Rattle.aero_leads.specs.Standing.{state_of}
use Rattle.aero_shape.specs.Admission.{admitted_as}
use Rattle.aero_shape.specs.declared.admission.Admitted.{Admitted}
use Rattle.aero_shape.specs.declared.admission.Admitted.TheVariants.{OuterBegin, OuterEnd}
use Rattle.aero_witness.specs.Thinned.{IsAmong, IsEnough, marked}
use Rattle.aero_judge.specs.declared.recorder.Recorder.{Recorder}

-- a begin or an end that isn't outermost is an exempt one
abbrev pub inner_what : What → What
inner_what (Begin label) = Exempt
inner_what End = Exempt
inner_what what = what

abbrev pub recorded_what : Admitted → What → What
recorded_what OuterBegin what = Begin None
recorded_what OuterEnd what = End
recorded_what _ what = inner_what what

-- the event as it is recorded: its begins and ends are the outermost ones
abbrev pub recorded : Given → Numbered
recorded g = record { thread = g.event.thread; what = recorded_what g.admitted g.event.what }

-- the code says that there is no label, or it is that of the label's number
abbrev pub IsLabelSaid : List (List ℕ) → Option (List ℕ) → ℕ → Type 0
IsLabelSaid labels None code = code ≡ 1
IsLabelSaid labels (Some label) code = (n : ℕ) × (code ≡ n + 2) × (slice_get labels n ≡ Some label)

-- The code of an event that was read: 0 where it is no begin, else that of its label.
abbrev pub IsSaid : List (List ℕ) → What → Option (List ℕ) → ℕ → Type 0
IsSaid labels (Begin unlabelled) label code = IsLabelSaid labels label code
IsSaid labels _ label code = code ≡ 0

-- each name of the first list has its place in the second
abbrev pub HasStill : List (List ℕ) → List (List ℕ) → Type 0
HasStill before after = (n : ℕ) (name : List ℕ) → slice_get before n ≡ Some name → slice_get after n ≡ Some name

abbrev pub IsSaidOf : List (List ℕ) → Given → ℕ → Type 0
IsSaidOf labels g code = IsSaid labels g.event.what g.label code

-- the events that were given, as they are judged: well-formed, and none but the last closes a cycle
pub record AreJudgedAs (given : List Given) (h : List Numbered) : Type 0 where
  pub count : length h ≡ length given
  pub judged : (i : ℕ) (g : Given) (e : Numbered) → slice_get given i ≡ Some g → slice_get h i ≡ Some e → IsJudgedAs g.event e
  pub admitted : (i : ℕ) (g : Given) (e : Numbered) → slice_get given i ≡ Some g → slice_get h i ≡ Some e → g.admitted ≡ admitted_as (take i h) e
  pub well_formed : IsWellFormed h
  pub untold : (m : ℕ) → m < length h → ¬ HasTellingCycle h m

-- the record has the event with so many before it in it, with its line and the code of its begin
pub record IsNoted (recorder : Recorder) (i : ℕ) (g : Given) : Type 0 where
  pub line : slice_get recorder.lines.items i ≡ Some g.line
  pub code : ℕ
  pub code_at : slice_get recorder.said.items i ≡ Some code
  pub said : IsSaidOf recorder.labels.names g code

-- the record has the events at its places, with their lines and codes
pub record AreNoted (recorder : Recorder) (given : List Given) : Type 0 where
  pub count : recorder.count ≡ length given
  pub few : recorder.count < 2 ^ 32
  pub lines : length recorder.lines.items ≡ length recorder.places.items
  pub said : length recorder.said.items ≡ length recorder.places.items
  pub each : (i p : ℕ) (g : Given) → slice_get recorder.places.items i ≡ Some p → slice_get given p ≡ Some g → IsNoted recorder i g

-- What it keeps of events that were given and are judged as these: the latest one, and at least those to which an open block leads. As long as there is no telling cycle it stands for them.
pub record HasRecordedAs (recorder : Recorder) (given : List Given) (h : List Numbered) : Type 0 where
  pub noted : AreNoted recorder given
  pub enough : IsEnough (map recorded given) recorder.events.items recorder.places.items
  pub latest : (n : ℕ) → length given ≡ suc n → IsAmong recorder.places.items n
  pub stands : ¬ HasTellingCycle h (length h) → leads.StandsFor recorder.leads h

-- however they are judged
abbrev pub HasRecorded : Recorder → List Given → Type 0
HasRecorded recorder given = (h : List Numbered) → AreJudgedAs given h → HasRecordedAs recorder given h

-- it stands for the events for which its first places do
abbrev pub StandsForLeads : Recorder → List Numbered → Type 0
StandsForLeads recorder trace = leads.StandsFor recorder.leads trace

-- the event is recorded behind the others
pub record IsNotedNext (old new : Recorder) (g : Given) : Type 0 where
  pub events : new.events.items ≡ old.events.items ++ recorded g ∷ []
  pub lines : new.lines.items ≡ old.lines.items ++ g.line ∷ []
  pub places : new.places.items ≡ old.places.items ++ old.count ∷ []
  pub count : new.count ≡ suc old.count
  pub few : new.count < 2 ^ 32
  pub code : ℕ
  pub said : new.said.items ≡ old.said.items ++ code ∷ []
  pub is_said : IsSaidOf new.labels.names g code
  pub still : HasStill old.labels.names new.labels.names

-- the places of these events, by whether open blocks lead to them
pub record AreMarks (rows : Rows) (events : List Numbered) (places : List ℕ) (marks : List Bool) : Type 0 where
  pub each : length marks ≡ length events
  pub at :
      (i p : ℕ) (e : Numbered)
      → slice_get events i ≡ Some e
      → slice_get places i ≡ Some p
      → (least : Option ℕ) × IsLeastOf (rows e.thread) least × (slice_get marks i ≡ Some (is_led least p))

-- what a code says by the first labels another one says by the second
abbrev pub SaysSame : List (List ℕ) → List (List ℕ) → ℕ → ℕ → Type 0
SaysSame before after old new = (what : What) (label : Option (List ℕ)) → IsSaid before what label old → IsSaid after what label new

-- what is marked is kept, and nothing else, with codes by the labels that are left
pub record IsMarked (old new : Recorder) (marks : List Bool) : Type 0 where
  pub firsts : new.leads ≡ old.leads
  pub events : new.events.items ≡ marked marks old.events.items
  pub lines : new.lines.items ≡ marked marks old.lines.items
  pub said : AllZip (SaysSame old.labels.names new.labels.names) (marked marks old.said.items) new.said.items
  pub places : new.places.items ≡ marked marks old.places.items
  pub count : new.count ≡ old.count

-- just what open blocks lead to is kept
abbrev pub IsSwept : Recorder → Recorder → Type 0
IsSwept old new = (marks : List Bool) × AreMarks (state_of old.leads).rows old.events.items old.places.items marks × IsMarked old new marks

-- or all is
pub record IsAsBefore (old new : Recorder) : Type 0 where
  pub firsts : new.leads ≡ old.leads
  pub events : new.events ≡ old.events
  pub lines : new.lines ≡ old.lines
  pub said : new.said ≡ old.said
  pub places : new.places ≡ old.places
  pub labels : new.labels ≡ old.labels
  pub count : new.count ≡ old.count
