-- The events that an engine is given, one after the other, and what it says of itself.
use Rattle.std.specs.Prelude.{◌≡◌, ℕ, Bool, true, false, List, Option}
use Rattle.aero_model.specs.declared.numbered.Numbered.{Numbered}
use Rattle.aero_shape.specs.declared.admission.Admitted.{Admitted}
use Rattle.aero_shape.specs.declared.admission.Admitted.TheVariants.{OuterBegin, OuterEnd}

-- The number of an event's line, the event as it was read, what it was admitted as, and the label that it has, if it is a begin with one
pub record Given : Type 0 where
  pub line : ℕ
  pub event : Numbered
  pub admitted : Admitted
  pub label : Option (List ℕ)

-- the label that an engine is given with an event that has this one: the same where it asks for labels, else any
abbrev pub IsLabelGiven : Bool → Option (List ℕ) → Option (List ℕ) → Type 0
IsLabelGiven true given label = given ≡ label
IsLabelGiven false given label = Unit {0}

-- whether the event is an outermost begin
abbrev pub begins_block : Admitted → Bool
begins_block OuterBegin = true
begins_block _ = false

-- whether it is an outermost end
abbrev pub ends_block : Admitted → Bool
ends_block OuterEnd = true
ends_block _ = false

-- For which events as they are judged an engine stands, and of which events that it was given it keeps what it is to keep
pub record Words (E : Type 0) : Type 1 where
  pub stands : E → List Numbered → Type 0
  pub keeps : E → List Given → Type 0

abbrev pub words_of : {E : Type 0} → (E → List Numbered → Type 0) → (E → List Given → Type 0) → Words E
words_of stands keeps = record { stands = stands; keeps = keeps }

-- what an engine keeps that keeps nothing
abbrev pub KeepsNone : {E : Type 0} → E → List Given → Type 0
KeepsNone engine given = Unit {0}
