-- The first events of transactions, which an engine has kept, by their places in the trace that was read.
use Rattle.std.proofs.Common.{◌≡◌, ℕ, zero, suc, List, [], ◌∷◌, length, map, get_or, Some, sym, ◌∙◌, ap, ap₂, subst, refl, arith}
use Rattle.std.specs.Prelude.{All, slice_get}
use Rattle.std.specs.Option.{option_map_or}
use Rattle.std.proofs.lemmas.Option.{get_or_from_slice_get}
use Rattle.aero_model.specs.declared.numbered.Numbered.{Numbered}
use Rattle.aero_model.specs.declared.verdict.Step.{Step}
use Rattle.aero_model.specs.Named.{Named}
use Rattle.aero_model.specs.Numbering.{Tables, tables_of, numbered, number_of}
use Rattle.aero_grammar.specs.Reading.{Reading}
use Rattle.aero_grammar.specs.Words.{IsName}
use Rattle.aero_engine.specs.Given.{Given}
use Rattle.aero_order.specs.declared.first.First.{First}
use Rattle.aero_order.specs.Came.{Came, places_in, IsOf}
use Rattle.aero_verdict.specs.declared.numbering.Numbering.{Numbering}
use Rattle.aero_verdict.specs.InOrder.{came_of, step_in}
use Rattle.aero_verdict.specs.Standing.{AreGiven, HasNamedActor}
use Rattle.aero_verdict.specs.Limited.{names_in, IsNamedThread}
use Rattle.aero_verdict.specs.Ordered.{line_at, step_of, step_at}
use Rattle.aero_verdict.specs.Parts.{NamesAll}
use Rattle.aero_verdict.specs.Verdict.{counted_events, events_of}
use Rattle.aero_model.specs.Terms.{Rules}
use Rattle.aero_verdict.proofs.ThreadNames.{was, was_at, in_all, at_place}

-- the event that stands at a first event's place
pub record StandsAt (rules : Rules) (parts : List Reading) (numbering : Numbering) (f : First) : Type 0 where
  pub event : ℕ × Named
  pub at : slice_get (counted_events parts rules) f.place ≡ Some event
  pub line_is : event.0 ≡ f.line
  pub name_at : slice_get (names_in numbering).threads f.thread ≡ Some event.1.thread
  pub is_name : IsName event.1.thread

module _ (rules : Rules) (parts : List Reading) (numbering : Numbering) (names : NamesAll rules parts numbering) where
  abbrev events : List (ℕ × Named)
  events = counted_events parts rules

  abbrev named : List Named
  named = events_of parts rules

  stands_at : (given : List Given) → AreGiven rules events (length events) given → (f : First) → IsOf (map came_of given) f → StandsAt rules parts numbering f
  stands_at given are f of =
      let came = was_at came_of given f.place (record { line = f.line; thread = f.thread }) of in
      let is = are.each f.place came.value came.here in
      let on = was (λ (e : ℕ × Named). e.0) (slice_get events f.place) came.value.line is.line_is in
      let read = was_at (numbered (tables_of named)) named f.place came.value.event is.event_is in
      let same = was_at (λ (e : ℕ × Named). e.1) events f.place read.value read.here in
      let one : on.value ≡ same.value = same_item on.value same.value (sym on.here ∙ same.here) in
      let e = on.value in
      let name : e.1 ≡ read.value = ap (λ (x : ℕ × Named). x.1) one ∙ same.gives in
      let number : number_of (tables_of named).threads e.1.thread ≡ f.thread =
      ap (λ (x : Named). number_of (tables_of named).threads x.thread) name ∙ ap (λ (x : Numbered). x.thread) read.gives ∙ ap (λ (c : Came). c.thread) came.gives in
      record {
        event = e;
        at = on.here;
        line_is = on.gives ∙ ap (λ (c : Came). c.line) came.gives;
        name_at =
            ap (λ (t : Tables). slice_get t.threads f.thread) names.names_are
            ∙ ap (slice_get (tables_of named).threads) (sym number)
            ∙ in_all named f.place e.1 (subst (λ x. slice_get named f.place ≡ Some x) (sym name) read.here);
        is_name = at_place HasNamedActor events f.place e names.actors on.here;
      }
    where
      same_item : {A : Type 0} (a b : A) → Some a ≡ Some b → a ≡ b
      same_item a b same = cc

  pub all_stand : (given : List Given) → AreGiven rules events (length events) given → (firsts : List First) → All (IsOf (map came_of given)) firsts → All (StandsAt rules parts numbering) firsts
  all_stand given are firsts of = λ k d less. stands_at given are (get_or firsts k d) (of k d less)

  pub all_named : (firsts : List First) → All (StandsAt rules parts numbering) firsts → All (λ (f : First). IsNamedThread numbering f.thread) firsts
  all_named firsts all = λ k d less. let s = all k d less in (s.event.1.thread, s.name_at, s.is_name)

  step_is : (f : First) → StandsAt rules parts numbering f → step_in numbering f ≡ step_at events f.place
  step_is f s =
      ap₂ (λ (line : ℕ) (thread : List ℕ). record { line = line; thread = thread }) (sym s.line_is) (get_or_from_slice_get (names_in numbering).threads f.thread s.event.1.thread [] s.name_at)
      ∙ sym (ap (λ o. option_map_or step_of o (record { line = 0; thread = [] })) s.at)

  pub steps_are : (firsts : List First) → All (StandsAt rules parts numbering) firsts → map (step_in numbering) firsts ≡ map (step_at events) (places_in firsts)
  steps_are [] all = refl
  steps_are (f ∷ firsts) all = ap₂ (λ (s : Step) (ss : List Step). s ∷ ss) (step_is f (all zero f (omega arith))) (steps_are firsts (λ k d less. all (suc k) d (omega (arith, less))))

  line_is : (f : First) → StandsAt rules parts numbering f → f.line ≡ line_at events f.place
  line_is f s = sym s.line_is ∙ sym (ap (λ o. option_map_or (λ (e : ℕ × Named). e.0) o 0) s.at)

  pub lines_are : (firsts : List First) → All (StandsAt rules parts numbering) firsts → map (λ (f : First). f.line) firsts ≡ map (line_at events) (places_in firsts)
  lines_are [] all = refl
  lines_are (f ∷ firsts) all = ap₂ (λ (l : ℕ) (ls : List ℕ). l ∷ ls) (line_is f (all zero f (omega arith))) (lines_are firsts (λ k d less. all (suc k) d (omega (arith, less))))
