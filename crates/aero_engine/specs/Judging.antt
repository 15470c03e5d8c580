-- The event that comes after those for which an engine stands, and what the engine tells of it. `stands` says for which events it stands.
use Rattle.std.specs.Prelude.{◌≡◌, ◌<◌, ◌-◌, ◌^◌, ℕ, Bool, List, [], ◌∷◌, ◌++◌, length, Option, None, Result, IfOk}
use Rattle.aero_model.specs.declared.numbered.Numbered.{Numbered}
use Rattle.aero_model.specs.declared.numbered.What.{What}
use Rattle.aero_model.specs.Exempt.{IsJudgedAs, IsJudgedWhat}
use Rattle.aero_model.specs.Shape.{shape_fault, IsWellFormed}
use Rattle.aero_shape.specs.declared.admission.Admitted.{Admitted}
use Rattle.aero_shape.specs.declared.admission.Admitted.TheVariants.{Plain}
use Rattle.aero_shape.specs.Admission.{admitted_as}
use Rattle.aero_engine.specs.declared.spent.Spent.{Spent}
use Rattle.aero_engine.specs.Events.{event}
use Rattle.aero_engine.specs.Judgement.{IsTold}

-- it stands for these events, and the next one is well-formed after them and is this
pub record ComesAfter (stands : List Numbered → Type 0) (h : List Numbered) (e : Numbered) (admitted : Admitted) : Type 0 where
  pub standing : stands h
  pub well_formed : IsWellFormed (h ++ e ∷ [])
  pub in_shape : shape_fault h e ≡ None
  pub kind : admitted ≡ admitted_as h e

-- the next one begins and ends no outermost block, and joins no thread that has not acted
abbrev pub ActsAfter : (List Numbered → Type 0) → List Numbered → ℕ → What → Type 0
ActsAfter stands h t what = (in_block : Bool) × ComesAfter stands h (event t what) (Plain in_block)

-- this is so for some list of fewer events than there are numbers, and for some event that the one that was read is judged as
abbrev pub IsAdmitted : (List Numbered → Type 0) → Numbered → Admitted → Type 0
IsAdmitted stands e admitted = (h : List Numbered) × (judged : Numbered) × IsJudgedAs e judged × (length h < 2 ^ 32 - 1) × ComesAfter stands h judged admitted

abbrev pub IsToAct : (List Numbered → Type 0) → ℕ → What → Type 0
IsToAct stands t what = (h : List Numbered) × (judged : What) × IsJudgedWhat what judged × ActsAfter stands h t judged

-- The answer after the event at place n is what is to be told, so it is None exactly where there is no telling cycle. Then the engine stands for the longer trace.
pub record Tells (StandsFor : List Numbered → Type 0) (trace : List Numbered) (n : ℕ) (o : Option ℕ) : Type 0 where
  pub told : IsTold trace n o
  pub stands : o ≡ None → StandsFor trace

-- for each trace that the engine stood for
abbrev pub Follows : (List Numbered → Type 0) → (List Numbered → Type 0) → Numbered → Result (Option ℕ) Spent → Type 0
Follows old new e result = (h : List Numbered) → old h → IsWellFormed (h ++ e ∷ []) → IfOk result (Tells new (h ++ e ∷ []) (length h))
