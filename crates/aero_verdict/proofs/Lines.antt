-- Events that are admitted one after the other.
use Rattle.std.proofs.Common.{◌≡◌, ℕ, suc, ◌+◌, ◌<◌, ◌≤◌, nat_le, Bool, List, [], ◌∷◌, ◌++◌, length, take, drop, Option, Some, None, option_map, inl, inr, false, refl, sym, ◌∙◌, ap, subst, get_or, arith, add-one, length-append}
use Rattle.std.specs.Prelude.{slice_get}
use Rattle.std.proofs.lemmas.Bool.{cond-true, cond-false, le-leb, lt-leb}
use Rattle.std.proofs.lemmas.List.{append_assoc, take_all}
use Rattle.std.proofs.lemmas.List.Elements.{filter-append}
use Rattle.std.proofs.lemmas.Option.{slice_get_read, slice_get_within}
use Rattle.aero_model.specs.declared.event.Op.TheVariants as op
use Rattle.aero_model.specs.declared.verdict.ShapeFault.{ShapeFault}
use Rattle.aero_model.specs.Cycle.{HasTellingCycle}
use Rattle.aero_model.specs.Exempt.{Listed, begins_exempt, is_exempt}
use Rattle.aero_model.specs.Named.{Named}
use Rattle.aero_model.specs.Shape.{IsLawful, fault_at}
use Rattle.aero_grammar.specs.Reading.{after_lines}
use Rattle.aero_engine.specs.Judgement.{IsTold}
use Rattle.aero_engine.specs.Given.{Words}
use Rattle.aero_verdict.specs.declared.checker.Checker.{Checker}
use Rattle.aero_verdict.specs.declared.checker.Stop.TheVariants.{Refused, Closed}
use Rattle.aero_verdict.specs.Standing.{trace_in, judged_in, KeepsFirst, StandsFor, IsNext, IsExpected, Refuses, Judged, up_to, AreNext, AreExpected, StopsIn}
use Rattle.aero_verdict.specs.declared.known.Exemptions.{Exemptions}
use Rattle.aero_verdict.specs.Known.{AreMarked}
use Rattle.aero_model.specs.Terms.{Rules}
use Rattle.aero_verdict.proofs.Steps.{take_pushed, front_and_rest}
use Rattle.aero_verdict.proofs.ThreadNames.{at_place}

-- after the first i of these events: what was kept of those before them is kept of these too
pub record Admits {E : Type 0} (words : Words E) (start : Checker E) (block : List (List ℕ)) (flags : Exemptions) (events : List (ℕ × Named)) (before most i : ℕ) (now : Checker E) : Type 0 where
  pub count_is : now.shape.admitted ≡ start.shape.admitted + length (up_to most (take i events))
  pub keeps : (rules : Rules) (all : List (ℕ × Named)) → AreNext words rules start all block flags before (up_to most events) → StandsFor words rules now all

slice_get_seam : {A : Type 0} (xs : List A) (y : A) (ys : List A) → slice_get (xs ++ y ∷ ys) (length xs) ≡ Some y
slice_get_seam [] y ys = refl
slice_get_seam (x ∷ xs) y ys = slice_get_seam xs y ys

pub nothing_admitted : {E : Type 0} (words : Words E) (start : Checker E) (block : List (List ℕ)) (flags : Exemptions) (events : List (ℕ × Named)) (before most : ℕ) → Admits words start block flags events before most 0 start
nothing_admitted words start block flags events before most = record { count_is = omega arith; keeps = λ rules all next. next.0 }

module _ {E : Type 0} (words : Words E) (start now : Checker E) (block : List (List ℕ)) (flags : Exemptions) (events : List (ℕ × Named)) (before most i : ℕ) (so_far : Admits words start block flags events before most i now) (less : i < length events) (item : ℕ × Named) (is : item ≡ get_or events i item) where
  item_at : slice_get events i ≡ Some item
  item_at = slice_get_read events (length events) i item refl less is

  front_next : take (i + 1) events ≡ take i events ++ item ∷ []
  front_next = ap (λ k. take k events) (add-one i) ∙ take_pushed events i item item_at

  -- an event on a line that doesn't count
  pub passed_over : most < item.0 → Admits words start block flags events before most (i + 1) now
  passed_over beyond =
      let same : up_to most (take (i + 1) events) ≡ up_to most (take i events) ++ [] =
      ap (up_to most) front_next
      ∙ filter-append (λ e. nat_le e.0 most) (take i events) (item ∷ [])
      ∙ ap (λ es. up_to most (take i events) ++ es) (cond-false (nat_le item.0 most) (item ∷ []) [] (lt-leb item.0 most beyond)) in
      let count = ap length same in
      record { count_is = omega (arith, so_far.count_is, count, length-append (up_to most (take i events)) []); keeps = so_far.keeps }

  module _ (within : item.0 ≤ most) (exempt : Bool) (told_exempt : (labels : Listed) → AreMarked labels block flags → exempt ≡ is_exempt labels item.1) (told_end : item.1.op ≡ op.End → exempt ≡ false) where
    counted : up_to most (take (i + 1) events) ≡ up_to most (take i events) ++ item ∷ []
    counted =
        ap (up_to most) front_next
        ∙ filter-append (λ e. nat_le e.0 most) (take i events) (item ∷ [])
        ∙ ap (λ es. up_to most (take i events) ++ es) (cond-true (nat_le item.0 most) (item ∷ []) [] (le-leb item.0 most within))

    all_counted : up_to most events ≡ up_to most (take i events) ++ item ∷ up_to most (drop (i + 1) events)
    all_counted =
        ap (up_to most) (sym (front_and_rest events (i + 1)))
        ∙ filter-append (λ e. nat_le e.0 most) (take (i + 1) events) (drop (i + 1) events)
        ∙ ap (λ es. es ++ up_to most (drop (i + 1) events)) counted
        ∙ append_assoc (up_to most (take i events)) (item ∷ []) (up_to most (drop (i + 1) events))

    place : ℕ
    place = length (up_to most (take i events))

    at_place_is : slice_get (up_to most events) place ≡ Some item
    unfolding place
    at_place_is = ap (λ es. slice_get es (length (up_to most (take i events)))) all_counted ∙ slice_get_seam (up_to most (take i events)) item (up_to most (drop (i + 1) events))

    place_within : place < length (up_to most events)
    place_within = slice_get_within (up_to most events) place item at_place_is

    -- the event, on its line of the whole
    abbrev here : ℕ × Named
    here = (before + item.0, item.1)

    next_at : (rules : Rules) (all : List (ℕ × Named)) → AreNext words rules start all block flags before (up_to most events) → slice_get all now.shape.admitted ≡ Some here
    unfolding place
    next_at rules all next =
        ap (slice_get all) so_far.count_is ∙ next.1 place place_within ∙ ap (option_map (after_lines before)) at_place_is

    is_next : (rules : Rules) (all : List (ℕ × Named)) → AreNext words rules start all block flags before (up_to most events) → IsNext words rules now all here exempt
    is_next rules all next = (
      so_far.keeps rules all next,
      next_at rules all next,
      elim next.2 [
        | inl marked ↦ told_exempt rules.labels marked
        | inr ends ↦
            let end : item.1.op ≡ op.End = at_place (λ (e : ℕ × Named). e.1.op ≡ op.End) (up_to most events) place item ends at_place_is in
            told_end end ∙ sym (ap (λ o. begins_exempt rules.labels o item.1.target) end)
      ],
    )

    pub expected : AreExpected words start block flags before (up_to most events) → IsExpected words now here exempt
    expected are = (are.0, are.1, are.2, is_next are.0 are.1 are.3)

    line_is : (rules : Rules) (all : List (ℕ × Named)) → AreNext words rules start all block flags before (up_to most events) → option_map (λ (e : ℕ × Named). e.0) (slice_get all (start.shape.admitted + place)) ≡ Some (before + item.0)
    unfolding place
    line_is rules all next = ap (λ n. option_map (λ (e : ℕ × Named). e.0) (slice_get all n)) (sym so_far.count_is) ∙ ap (option_map (λ (e : ℕ × Named). e.0)) (next_at rules all next)

    pub one_more : (new : Checker E) (told : Option ℕ) → told ≡ None → new.shape.admitted ≡ now.shape.admitted + 1 →
        ((rules : Rules) (all : List (ℕ × Named)) → IsNext words rules now all here exempt → Judged words rules new all now.shape.admitted told) → Admits words start block flags events before most (i + 1) new
    one_more new told none count kept =
        let more = ap length counted in
        record {
          count_is = omega (arith, count, so_far.count_is, more, length-append (up_to most (take i events)) (item ∷ []));
          keeps = λ rules all next. subst (Judged words rules new all now.shape.admitted) none (kept rules all (is_next rules all next));
        }

    pub refused_in : (new : Checker E) (fault : ShapeFault) → ((rules : Rules) (all : List (ℕ × Named)) → IsNext words rules now all here exempt → Refuses rules now all fault) →
        (rules : Rules) (all : List (ℕ × Named)) → AreNext words rules start all block flags before (up_to most events) → StopsIn words rules new all start.shape.admitted before (up_to most events) (before + item.0) (Refused fault)
    unfolding place
    refused_in new fault refuses rules all next =
        let stands = so_far.keeps rules all next in
        record {
          index = place;
          within = place_within;
          stops = (
            subst (IsLawful rules.limits (trace_in all)) so_far.count_is stands.counts.lawful,
            subst (λ n. ¬ HasTellingCycle (judged_in rules all) n) so_far.count_is stands.untold,
            λ not_memory. ap (fault_at rules.limits (trace_in all)) (sym so_far.count_is) ∙ refuses rules all (is_next rules all next) not_memory,
          );
          line_of = line_is rules all next;
        }

    pub closed_in : (new : Checker E) (t : ℕ) (told : Option ℕ) → told ≡ Some t → new.shape.admitted ≡ now.shape.admitted + 1 →
        ((rules : Rules) (all : List (ℕ × Named)) → IsNext words rules now all here exempt → Judged words rules new all now.shape.admitted told) →
        (rules : Rules) (all : List (ℕ × Named)) → AreNext words rules start all block flags before (up_to most events) → StopsIn words rules new all start.shape.admitted before (up_to most events) (before + item.0) (Closed t)
    unfolding place
    closed_in new t answer is count judged rules all next =
        let told = subst (Judged words rules new all now.shape.admitted) is (judged rules all (is_next rules all next)) in
        record {
          index = place;
          within = place_within;
          stops = (
            count ∙ add-one now.shape.admitted ∙ ap suc so_far.count_is,
            told.0,
            subst (λ n. IsTold (judged_in rules all) n (Some t)) so_far.count_is told.1,
            subst (λ n. KeepsFirst words.keeps rules all (suc n) new.engine) so_far.count_is told.2,
          );
          line_of = line_is rules all next;
        }

-- after all of them
pub all_admitted : {E : Type 0} (words : Words E) (start now : Checker E) (block : List (List ℕ)) (flags : Exemptions) (events : List (ℕ × Named)) (before most i : ℕ) → Admits words start block flags events before most i now → length events ≤ i → now.shape.admitted ≡ start.shape.admitted + length (up_to most events)
all_admitted words start now block flags events before most i so_far done =
    so_far.count_is ∙ ap (λ es. start.shape.admitted + length (up_to most es)) (take_all i events done)
