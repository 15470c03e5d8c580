-- A read or a write by a thread that has acted and that nobody joined changes nothing in the tables but the number of events.
use Rattle.std.proofs.Common.{◌≡◌, ℕ, ◌+◌, ◌==◌, Bool, true, if◌then◌else◌, List, ◌∷◌, [], ◌++◌, Some, None, Ok, inl, inr, refl, sym, ◌∙◌, ap, arith}
use Rattle.std.proofs.lemmas.Bool.{cases_Bool, eqb-true, cond-true, cond-false}
use Rattle.aero_model.specs.declared.numbered.Numbered.{Numbered}
use Rattle.aero_model.specs.declared.numbered.What.{What}
use Rattle.aero_model.specs.declared.numbered.What.TheVariants.{Read, Write}
use Rattle.aero_model.specs.declared.verdict.ShapeFault.TheVariants.{ThreadJoined}
use Rattle.aero_model.specs.Exempt.{Marked}
use Rattle.aero_shape.specs.declared.admission.Admitted.{Admitted}
use Rattle.aero_shape.specs.declared.states.ThreadState.{ThreadState}
use Rattle.aero_shape.specs.declared.states.LockState.{LockState}
use Rattle.aero_shape.specs.States.{Tables, HasLockPlace, thread_at, lock_at, around_at, acting, affected, thread_after, lock_after, around_after}
use Rattle.aero_shape.specs.Told.{IsUsualAccess, is_access, deed_fault_told, fault_told, exempt_told, judged_told}
use Rattle.aero_shape.specs.Standing.{StandsFor}
use Rattle.aero_shape.specs.Admission.{TellsEvent}
use Rattle.aero_shape.proofs.Changes.{IsAfter}
use Rattle.aero_shape.proofs.Stands.{stands_pushed, read_fault_told, judged_kind_told}

-- what a read and a write leave alone
judged_stays : (w : What) → is_access w ≡ true → (b : Bool) → judged_told b w ≡ w
judged_stays (Read x) is b = refl
judged_stays (Write x) is b = refl
judged_stays _ is b = absurd (cc)

around_stays : (w : What) → is_access w ≡ true → (t thread : ℕ) (b : Bool) (depth : ℕ) (around : List ℕ) → around_after t thread w b depth around ≡ around
around_stays (Read x) is t thread b depth around = refl
around_stays (Write x) is t thread b depth around = refl
around_stays _ is t thread b depth around = absurd (cc)

lock_stays : (w : What) → is_access w ≡ true → (l thread : ℕ) (s : LockState) → lock_after l thread w s ≡ s
lock_stays (Read x) is l thread s = refl
lock_stays (Write x) is l thread s = refl
lock_stays _ is l thread s = absurd (cc)

affected_stays : (w : What) → is_access w ≡ true → (t : ℕ) (s : ThreadState) → affected t w s ≡ s
affected_stays (Read x) is t s = refl
affected_stays (Write x) is t s = refl
affected_stays _ is t s = absurd (cc)

acting_stays : (w : What) → is_access w ≡ true → (s : ThreadState) → s.acted ≡ true → acting w s ≡ s
acting_stays (Read x) is s acted = ap (λ b. record s { acted = b }) (sym acted)
acting_stays (Write x) is s acted = ap (λ b. record s { acted = b }) (sym acted)
acting_stays _ is s acted = absurd (cc)

no_lock_place : (w : What) → is_access w ≡ true → (locks : List LockState) → HasLockPlace locks w
no_lock_place (Read x) is locks = tt
no_lock_place (Write x) is locks = tt
no_lock_place _ is locks = absurd (cc)

no_deed_fault : (w : What) → is_access w ≡ true → (threads : List ThreadState) (locks : List LockState) (t : ℕ) → deed_fault_told threads locks t w ≡ None
no_deed_fault (Read x) is threads locks t = refl
no_deed_fault (Write x) is threads locks t = refl
no_deed_fault _ is threads locks t = absurd (cc)

-- the tables with one event more
abbrev pub counted : Tables → Tables
counted tables = record tables { admitted = tables.admitted + 1 }

module _ (tables : Tables) (e : Numbered) (admitted : Admitted) (usual : IsUsualAccess tables.threads e admitted) where
  thread_stays : (t : ℕ) → thread_after t e (thread_at tables.threads t) ≡ thread_at tables.threads t
  thread_stays t = affected_stays e.what usual.access t _ ∙ elim (cases_Bool (e.thread == t)) [
    | inl own ↦
        let s = thread_at tables.threads t in
        let acted : s.acted ≡ true = ap (λ u. (thread_at tables.threads u).acted) (sym (eqb-true e.thread t own)) ∙ usual.acted in
        cond-true (e.thread == t) (acting e.what s) s own ∙ acting_stays e.what usual.access s acted
    | inr other ↦
        let s = thread_at tables.threads t in
        cond-false (e.thread == t) (acting e.what s) s other
  ]

  after : IsAfter tables (counted tables) e
  after =
      record {
        threads = λ t. sym (thread_stays t);
        locks = λ l. sym (lock_stays e.what usual.access l e.thread (lock_at tables.locks l));
        admitted = refl;
        locks_grow = omega arith;
        lock_place = no_lock_place e.what usual.access tables.locks;
      }

  no_fault : fault_told tables.threads tables.locks e ≡ None
  no_fault =
      ap (λ b. if b then Some ThreadJoined else deed_fault_told tables.threads tables.locks e.thread e.what) usual.joined
      ∙ no_deed_fault e.what usual.access tables.threads tables.locks e.thread

  module _ (exempt : Bool) (h : List Marked) (s : StandsFor tables h) where
    abbrev mark : Marked
    mark = record { event = e; exempt = exempt }

    what_is : e.what ≡ judged_told (exempt_told tables.threads tables.exempt e.thread exempt e.what) e.what
    what_is = sym (judged_stays e.what usual.access (exempt_told tables.threads tables.exempt e.thread exempt e.what))

    pub access_stands : StandsFor (counted tables) (h ++ mark ∷ [])
    access_stands =
        stands_pushed tables (counted tables) mark e after no_fault refl what_is
        (λ t. sym (around_stays e.what usual.access t e.thread (exempt_told tables.threads tables.exempt e.thread exempt e.what) (thread_at tables.threads e.thread).depth (around_at tables.exempt t)))
        h s

    pub access_told : TellsEvent h mark (Ok admitted)
    access_told =
        (read_fault_told tables mark e refl what_is h s ∙ no_fault, usual.kind ∙ judged_kind_told tables mark e refl what_is h s)
