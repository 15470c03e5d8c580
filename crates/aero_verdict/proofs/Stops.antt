-- The verdict where no further event is admitted.
use Rattle.std.proofs.Common.{◌≡◌, ℕ, zero, suc, ◌+◌, ◌<◌, List, [], ◌∷◌, ◌++◌, take, drop, Some, sym, ◌∙◌, ap, subst}
use Rattle.std.specs.Prelude.{slice_get, fold, bytes_eq}
use Rattle.std.specs.List.{list_any}
use Rattle.std.proofs.lemmas.Bool.{cond_both}
use Rattle.aero_model.specs.declared.numbered.Numbered.{Numbered}
use Rattle.aero_model.specs.declared.verdict.Verdict.{Verdict}
use Rattle.aero_model.specs.Blocks.{blocks, Block}
use Rattle.aero_model.specs.Named.{Named}
use Rattle.aero_model.specs.Numbering.{with_name, tables_of}
use Rattle.aero_model.specs.Shape.{IsLawful, IsWellFormed}
use Rattle.aero_grammar.specs.Reading.{Reading}
use Rattle.aero_engine.specs.Given.{Words}
use Rattle.aero_verdict.specs.declared.checker.Checker.{Checker}
use Rattle.aero_verdict.specs.declared.checker.Stop.{Stop}
use Rattle.aero_verdict.specs.declared.checker.Stop.TheVariants.{Refused, Closed}
use Rattle.aero_verdict.specs.Begun.{begin_line}
use Rattle.aero_verdict.specs.Standing.{LastBegins, StopsIn, TellsStop}
use Rattle.aero_verdict.specs.Limited.{names_in}
use Rattle.aero_verdict.specs.Parts.{KeepsAt}
use Rattle.aero_verdict.specs.Verdict.{IsVerdict, IsViolation, counted_events, events_of, read_trace, checked_trace}
use Rattle.aero_model.specs.Terms.{Rules}
use Rattle.aero_verdict.proofs.Steps.{front_and_rest}
use Rattle.aero_names.proofs.Fronts.{tables_extended}
use Rattle.aero_verdict.proofs.Judged.{read_so_far, judged_well}
use Rattle.aero_verdict.proofs.Openers.{opener_number}

-- a name keeps its place, whatever names come later

still_in_front : (xs ys : List (List ℕ)) (t : ℕ) (y : List ℕ) → slice_get xs t ≡ Some y → slice_get (xs ++ ys) t ≡ Some y
still_in_front [] ys t y at = absurd (cc)
still_in_front (x ∷ xs) ys zero y at = at
still_in_front (x ∷ xs) ys (suc t) y at = still_in_front xs ys t y at

pub still_with : (xs : List (List ℕ)) (name : List ℕ) (t : ℕ) (y : List ℕ) → slice_get xs t ≡ Some y → slice_get (with_name xs name) t ≡ Some y
still_with xs name t y at =
    cond_both (list_any (bytes_eq name) xs) xs (xs ++ name ∷ []) (λ zs. slice_get zs t ≡ Some y) (λ _. at) (λ _. still_in_front xs (name ∷ []) t y at)

still_at : (xs more : List (List ℕ)) (t : ℕ) (y : List ℕ) → slice_get xs t ≡ Some y → slice_get (fold with_name xs more) t ≡ Some y
still_at xs [] t y at = at
still_at xs (name ∷ more) t y at = still_at (with_name xs name) more t y (still_with xs name t y at)

pub named_still : (events : List Named) (n t : ℕ) (y : List ℕ) → slice_get (tables_of (take n events)).threads t ≡ Some y → slice_get (tables_of events).threads t ≡ Some y
named_still events n t y at =
    let extends = tables_extended (take n events) (drop n events) in
    subst (λ es. slice_get (tables_of es).threads t ≡ Some y) (front_and_rest events n)
    (ap (λ ns. slice_get ns t) extends.threads.1 ∙ still_at (tables_of (take n events)).threads extends.threads.0 t y at)

module _ {E : Type 0} (words : Words E) (rules : Rules) (parts : List Reading) (new : Checker E) (n before : ℕ) (more : List (ℕ × Named)) (line : ℕ) where
  abbrev events : List (ℕ × Named)
  events = counted_events parts rules

  abbrev trace : List Numbered
  trace = checked_trace parts rules

  violation : (t : ℕ) (name : List ℕ) → StopsIn words rules new events n before more line (Closed t) → slice_get (names_in new.numbering).threads t ≡ Some name →
      IsViolation parts rules line name (begin_line new.blocks t)
  violation t name stops at =
      let p = n + stops.index in
      let count : new.shape.admitted ≡ suc p = stops.stops.0 in
      let counts = stops.stops.1 in
      let told = stops.stops.2 in
      let well : IsWellFormed (take (suc p) trace) =
      subst (λ k. IsWellFormed (take k trace)) count
      (judged_well rules.labels (events_of parts rules) new.shape.admitted (subst IsWellFormed (read_so_far rules.labels (events_of parts rules) new.shape.admitted) counts.shape_stands.well_formed)) in
      let number = opener_number trace p t (blocks trace t p) well told.0 told.1 in
      let last : LastBegins rules events (suc p) t (begin_line new.blocks t) =
      subst (λ k. 0 < blocks trace t k → LastBegins rules events k t (begin_line new.blocks t)) count (counts.lines_are t) number.0 in
      record {
        place = p;
        lawful = subst (IsLawful rules.limits (read_trace parts rules)) count counts.lawful;
        closing = told.0;
        line_of = stops.line_of;
        t = t;
        number = blocks trace t p;
        opener = told.1;
        name = named_still (events_of parts rules) new.shape.admitted t name (ap (λ ts. slice_get ts.threads t) (sym counts.names_are) ∙ at);
        begins = record { place = last.place; outermost = last.outermost; block = last.block ∙ ap (Block t) number.1; line_of = last.line_of };
      }

  pub verdict_at : (stop : Stop) → StopsIn words rules new events n before more line stop → (verdict : Verdict) → TellsStop new line stop verdict → IsVerdict parts rules verdict
  verdict_at (Refused fault) stops verdict tells =
      subst (IsVerdict parts rules) (sym tells.1)
      (record { place = n + stops.index; clean = record { lawful = stops.stops.0; no_cycle = stops.stops.1 }; cause = stops.stops.2 tells.0; line_of = stops.line_of })
  verdict_at (Closed t) stops verdict tells = subst (IsVerdict parts rules) (sym tells.2) (violation t tells.0 stops tells.1)

  -- and which events the engine keeps then
  pub keeps_at : (stop : Stop) → StopsIn words rules new events n before more line stop → (verdict : Verdict) → TellsStop new line stop verdict → KeepsAt words.keeps rules parts new verdict
  keeps_at (Refused fault) stops verdict tells = subst (KeepsAt words.keeps rules parts new) (sym tells.1) tt
  keeps_at (Closed t) stops verdict tells =
      subst (KeepsAt words.keeps rules parts new) (sym tells.2) (n + stops.index, stops.stops.2.0, stops.line_of, stops.stops.3, stops.stops.1.names_are ∙ ap (λ k. tables_of (take k (events_of parts rules))) stops.stops.0)
