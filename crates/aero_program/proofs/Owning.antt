-- What was noted of a source was noted by its own reader.
use Rattle.std.proofs.Common.{◌≡◌, ℕ, zero, suc, Bool, List, [], ◌∷◌, false, map, Option, None, Some, subst}
use Rattle.std.proofs.Math.Logic.{∥∥₁_elim}
use Rattle.std.proofs.lemmas.Grind.{merely}
use Rattle.aero_model.specs.declared.verdict.Ending.{Ending}
use Rattle.aero_telling.specs.declared.notable.Notable.{Notable}
use Rattle.aero_telling.specs.Founds.{Sighted, sighted}
use Rattle.aero_intake.specs.Source.{Sight}
use Rattle.aero_intake.specs.declared.source.SourceOf.{SourceOf}
use Rattle.aero_program.specs.declared.input.Input.{Input}
use Rattle.aero_program.specs.declared.stamp.Stamp.{Stamp}
use Rattle.aero_program.specs.Led.{IsLed, sight_at}
use Rattle.aero_program.specs.Notes.{AreOwn, IsNotedBy, Noted, noted_of, noted_of_all, was_too_large}

the_some : {A : Type 0} (x y : A) → Some x ≡ Some y → x ≡ y
the_some x y p = cc p

-- what an input has noted is noted of its reads
pub noted_by : {R S O F : Type 0} (stdin : S → Option (List ℕ)) (known : O → List ℕ → Option (List ℕ)) (file : F → Option (List ℕ)) (can_fail : List ℕ → Type 0) (holds : List ℕ → Stamp → Option (List ℕ) → Type 0)
    (input : R → Input S O F) (came : R → List ℕ) (source : SourceOf R) (words too_large : Bool) (notable : Option Notable) (first : Input S O F) (given : List ℕ) (faults ends : ℕ)
    → came source.reader ≡ given → ∥ IsLed stdin known file can_fail holds first (input source.reader) given faults ends ∥₁
    → IsNotedBy can_fail holds (noted_of input came words source too_large notable) faults (sight_at stdin known file first (input source.reader) given faults ends).trail
noted_by stdin known file can_fail holds input came source words too_large notable first given faults ends all led = ∥∥₁_elim led squash₁ (λ l. merely (record {
  start = l.start;
  reason = l.reason;
  failed = l.failed;
  may = l.may;
  opened = l.opened;
  came = all;
}))

module _ {R S O F : Type 0} (input : R → Input S O F) (came : R → List ℕ) (sight : R → Sight) (can_fail : List ℕ → Type 0) (holds : List ℕ → Stamp → Option (List ℕ) → Type 0) (words : Bool)
    (each : (source : SourceOf R) (too_large : Bool) (notable : Option Notable) → IsNotedBy can_fail holds (noted_of input came words source too_large notable) (sight source.reader).faults (sight source.reader).trail) where
  here : (made n : Noted) (seen s : Sighted) → Some made ≡ Some n → Some seen ≡ Some s → IsNotedBy can_fail holds made seen.reader.faults seen.reader.trail → IsNotedBy can_fail holds n s.reader.faults s.reader.trail
  here made n seen s noted_is seen_is own =
      subst (λ (x : Noted). IsNotedBy can_fail holds x s.reader.faults s.reader.trail) (the_some made n noted_is)
      (subst (λ (x : Sighted). IsNotedBy can_fail holds made x.reader.faults x.reader.trail) (the_some seen s seen_is) own)

  pub are_own : (sources : List (SourceOf R)) (endings : List (ℕ × Ending)) (notables : List (Option Notable))
      → AreOwn can_fail holds (map (sighted sight) sources) (noted_of_all input came words sources endings notables)
  are_own [] endings notables at n s is_n is_s = absurd (cc)
  are_own (source ∷ more) [] [] zero n s is_n is_s = here (noted_of input came words source false None) n (sighted sight source) s is_n is_s (each source false None)
  are_own (source ∷ more) [] [] (suc at) n s is_n is_s = are_own more [] [] at n s is_n is_s
  are_own (source ∷ more) [] (notable ∷ notables) zero n s is_n is_s = here (noted_of input came words source false notable) n (sighted sight source) s is_n is_s (each source false notable)
  are_own (source ∷ more) [] (notable ∷ notables) (suc at) n s is_n is_s = are_own more [] notables at n s is_n is_s
  are_own (source ∷ more) (ending ∷ rest) [] zero n s is_n is_s =
      here (noted_of input came words source (was_too_large (Some ending)) None) n (sighted sight source) s is_n is_s (each source (was_too_large (Some ending)) None)
  are_own (source ∷ more) (ending ∷ rest) [] (suc at) n s is_n is_s = are_own more rest [] at n s is_n is_s
  are_own (source ∷ more) (ending ∷ rest) (notable ∷ notables) zero n s is_n is_s =
      here (noted_of input came words source (was_too_large (Some ending)) notable) n (sighted sight source) s is_n is_s (each source (was_too_large (Some ending)) notable)
  are_own (source ∷ more) (ending ∷ rest) (notable ∷ notables) (suc at) n s is_n is_s = are_own more rest notables at n s is_n is_s
