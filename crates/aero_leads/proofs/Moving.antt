-- How what is kept moves with an event that begins and ends no block.
use Rattle.std.proofs.Common.{◌≡◌, ◌≢◌, ◌↔◌, inl, ⊎_elim, ℕ, suc, ◌+◌, ◌<◌, List, [], ◌∷◌, ◌++◌, length, Option, Some, None, refl, sym, ap, ap₂, ◌∙◌, arith}
use Rattle.std.specs.Prelude.{◌==◌, ◌&&◌, ◌||◌, Bool, true, false, if◌then◌else◌, Contains}
use Rattle.std.proofs.lemmas.Bool.{cases_eq, both_ways, eq-eqb, ne_eqb, cond-true, cond-false}
use Rattle.aero_model.specs.declared.numbered.Numbered.{Numbered}
use Rattle.aero_model.specs.Blocks.{opens, closes}
use Rattle.aero_model.specs.Shape.{is_release_of, is_fork_of, IsWellFormed}
use Rattle.aero_engine.specs.Slots.{is_read_of, is_write_of}
use Rattle.aero_engine.specs.Judgement.{IsTold}
use Rattle.aero_engine.proofs.LongerTraces.{slice_get-push}
use Rattle.aero_leads.specs.declared.last.Last.{Last}
use Rattle.aero_leads.specs.Leads.{is_led, IsUnled, AreFirst}
use Rattle.aero_leads.specs.Marks.{Mark, TakesMarks}
use Rattle.aero_leads.specs.Steps.{led_by, gains, IsNamed, taken_rows}
use Rattle.aero_leads.specs.Kept.{last, leads_to_any, TakesAll}
use Rattle.aero_leads.specs.States.{State, IsStateOf, acting, Moves}
use Rattle.aero_leads.specs.Standing.{AreSameBlocks}
use Rattle.aero_leads.proofs.ByKind.{first_as, taken_own, taken_other, first_taken}
use Rattle.aero_leads.proofs.Marked.{stood}
use Rattle.aero_leads.proofs.Told.{rows_tell}
use Rattle.aero_leads.proofs.StateSteps.{IsAfter, AreReadsAfter}
use Rattle.aero_leads.proofs.StateSteps as steps
use Rattle.aero_leads.proofs.Placed.{led_by_open, unled_gains, unled_if}

-- blocks stay but that thread t has acted
pub after_reads : (old new : State) (e : Numbered)
    → ((x : ℕ) → new.write x ≡ (if is_write_of x e.what then last e.thread (suc old.now) else old.write x))
    → ((x : ℕ) → AreReadsAfter old e x (new.reads x))
    → ((l : ℕ) → new.release l ≡ (if is_release_of l e.what then last e.thread (suc old.now) else old.release l))
    → new.now ≡ old.now → AreSameBlocks old new → IsAfter old (acting new e.thread) e false false
after_reads old new e write reads release now same = record {
  write = write;
  reads = reads;
  release = release;
  now = ap suc now;
  acted = λ t. ap (λ b. if e.thread == t then true else b) (same.acted t);
  begins = λ t. same.begins t ∙ pass (e.thread == t) (old.begins t + 1) (old.begins t);
  in_block = λ t. same.in_block t ∙ pass (e.thread == t) false (old.in_block t) ∙ pass (e.thread == t) true (if (e.thread == t) && false then false else old.in_block t);
}
  where
    pass : {X : Type 0} (b : Bool) (y z : X) → z ≡ (if b && false then y else z)
    pass true y z = refl
    pass false y z = refl

-- after an event that is no read
pub after_quiet : (old new : State) (e : Numbered) → ((x : ℕ) → is_read_of x e.what ≡ false)
    → ((x : ℕ) → new.write x ≡ (if is_write_of x e.what then last e.thread (suc old.now) else old.write x))
    → ((x : ℕ) → new.reads x ≡ (if is_write_of x e.what then [] else old.reads x))
    → ((l : ℕ) → new.release l ≡ (if is_release_of l e.what then last e.thread (suc old.now) else old.release l))
    → new.now ≡ old.now → AreSameBlocks old new → IsAfter old (acting new e.thread) e false false
after_quiet old new e no_read write reads release now same = after_reads old new e write (λ x. inl (no_read x, reads x)) release now same

-- what an event that ends and begins no block takes
pub record IsTaken (old : State) (h : List Numbered) (e : Numbered) (ls : List Last) : Type 0 where
  pub marks : List Mark
  pub takes : TakesMarks (h ++ e ∷ []) (length h) e marks
  pub same : (w : ℕ) → leads_to_any old.rows e.thread w ls ≡ led_by old.rows w marks
  pub ends : closes (h ++ e ∷ []) e.thread (length h) ≡ false
  pub begins : opens (h ++ e ∷ []) e.thread (length h) ≡ false

module _ (old : State) (h : List Numbered) (e : Numbered) (stands : IsStateOf old h) (ok : IsWellFormed (h ++ e ∷ [])) where
  abbrev more : List Numbered
  more = h ++ e ∷ []

  abbrev n : ℕ
  n = length h

  first : AreFirst more n old.rows
  first = steps.first old h e stands

  module _ (ls : List Last) (taken : IsTaken old h e ls) where
    tells : (u : Option ℕ) → IsNamed more n e.thread old.rows taken.marks u ↔ IsTold more n u
    tells u = rows_tell more ok n e (slice_get-push h e) old.rows first (steps.none old h e stands) taken.marks taken.takes taken.ends u

    pub told : leads_to_any old.rows e.thread e.thread ls ≡ true → IsTold more n (Some e.thread)
    told led =
        let by : led_by old.rows e.thread taken.marks ≡ true = sym (taken.same e.thread) ∙ led in
        (tells (Some e.thread)).0 (refl, (led_by_open more n old.rows first e.thread taken.marks by, by))

    pub taken_stands : leads_to_any old.rows e.thread e.thread ls ≡ false → ((u : ℕ) → is_fork_of u e.what ≡ false) → (new : State) → TakesAll old.rows new.rows old.now e.thread ls → IsAfter old new e false false → IsStateOf new more
    taken_stands none_led no_fork new takes after =
        steps.stands_after old h e stands new false false taken.begins taken.ends after still
        (first_as more (suc n) (taken_rows n e.thread taken.marks old.rows) new.rows same (first_taken more ok n e (slice_get-push h e) old.rows first taken.marks taken.ends taken.begins no_fork taken.takes))
        ((tells None).0 (λ c. both_ways _ none_led (taken.same e.thread ∙ c.1)))
      where
        others : (k : Mark) → Contains taken.marks k → k.thread ≢ e.thread
        others k a = let i = (stood more ok n e (slice_get-push h e) taken.marks taken.takes).each k a in i.apart

        still : (u q : ℕ) → q < n → IsUnled old.rows u q → IsUnled new.rows u q
        still u q l unled w =
            ap (λ r. is_led r q) (takes.rows u w)
            ∙ unled_if (u == e.thread) _ _ q (unled_gains (old.rows u w) (leads_to_any old.rows e.thread w ls) old.now q (omega (arith, l, stands.now)) (unled w)) (unled w)

        same : (o w : ℕ) → taken_rows n e.thread taken.marks old.rows o w ≡ new.rows o w
        same o w = ⊎_elim own other (cases_eq o e.thread)
          where
            own : o ≡ e.thread → taken_rows n e.thread taken.marks old.rows o w ≡ new.rows o w
            own k =
                ap (λ v. taken_rows n e.thread taken.marks old.rows v w) k
                ∙ taken_own n e.thread taken.marks old.rows w others
                ∙ ap₂ (λ b m. gains (old.rows e.thread w) b m) (sym (taken.same w)) (sym stands.now)
                ∙ ap (λ v. gains (old.rows v w) (leads_to_any old.rows e.thread w ls) old.now) (sym k)
                ∙ sym (takes.rows o w ∙ cond-true (o == e.thread) _ _ (eq-eqb o e.thread k))

            other : o ≢ e.thread → taken_rows n e.thread taken.marks old.rows o w ≡ new.rows o w
            other k = taken_other n e.thread taken.marks old.rows o w k ∙ sym (takes.rows o w ∙ cond-false (o == e.thread) _ _ (ne_eqb o e.thread k))

module _ (old new : State) (e : Numbered) (ls : List Last) (taken : (h : List Numbered) → IsStateOf old h → IsWellFormed (h ++ e ∷ []) → IsTaken old h e ls) where
  pub moves_closing : leads_to_any old.rows e.thread e.thread ls ≡ true → Moves old new e true
  moves_closing led = record { told = λ h stands ok c. told old h e stands ok ls (taken h stands ok) led; stands = λ h stands ok c. cc }

  pub moves_passing : ((u : ℕ) → is_fork_of u e.what ≡ false) → leads_to_any old.rows e.thread e.thread ls ≡ false → TakesAll old.rows new.rows old.now e.thread ls → IsAfter old (acting new e.thread) e false false → Moves old new e false
  moves_passing no_fork led takes after = record {
    told = λ h stands ok c. cc;
    stands = λ h stands ok c. taken_stands old h e stands ok ls (taken h stands ok) led no_fork (acting new e.thread) (record { rows = takes.rows }) after;
  }

  pub moves_taking : (closes : Bool) → ((u : ℕ) → is_fork_of u e.what ≡ false) → closes ≡ leads_to_any old.rows e.thread e.thread ls → (closes ≡ false → TakesAll old.rows new.rows old.now e.thread ls) → IsAfter old (acting new e.thread) e false false → Moves old new e closes
  moves_taking true no_fork is takes after = moves_closing (sym is)
  moves_taking false no_fork is takes after = moves_passing no_fork (sym is) (takes refl) after

pub or_false : (b : Bool) → b ≡ (b || false)
or_false true = refl
or_false false = refl

pub swap_and : {X : Type 0} (b : Bool) (y z : X) → (if b then y else z) ≡ (if b && true then y else z)
swap_and true y z = refl
swap_and false y z = refl
