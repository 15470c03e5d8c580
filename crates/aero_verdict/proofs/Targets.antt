-- What is numbered of an event, name by name.
use Rattle.std.proofs.Common.{◌≡◌, ◌⊎◌, ℕ, nat_le, List, Option, Some, None, inl, inr, refl, sym, ◌∙◌, ap, ap₂}
use Rattle.std.proofs.lemmas.Bool.{cond-true, cond-false}
use Rattle.aero_model.specs.declared.numbered.What.{What}
use Rattle.aero_model.specs.declared.numbered.What.TheVariants.{Read, Write, Acquire, Release, Fork, Join, Begin, End}
use Rattle.aero_model.specs.declared.limits.Limits.{Limits}
use Rattle.aero_model.specs.declared.event.Op.TheVariants as op
use Rattle.aero_model.specs.declared.verdict.ShapeFault.{ShapeFault}
use Rattle.aero_model.specs.declared.verdict.ShapeFault.TheVariants.{TooManyThreads}
use Rattle.aero_model.specs.Named.{Named}
use Rattle.aero_model.specs.Numbering.{Tables, with_name, thread_target}
use Rattle.aero_model.specs.Shape.{target_limit_fault}
use Rattle.aero_names.specs.Listing.{Listing}
use Rattle.aero_grammar.specs.Tabled.{name_at, op_of, target_in}
use Rattle.aero_verdict.specs.declared.numbering.Numbering.{Numbering}
use Rattle.aero_verdict.specs.Limited.{names_in, IsLimited, NumbersTarget, RefusesTarget, NumbersEvent, RefusesEvent, with_number}
use Rattle.aero_names.specs.Additions.{number_after, with_actor, with_target, what_after, numbered_after}
use Rattle.aero_verdict.specs.Naming.{NumbersName, RefusesName}
use Rattle.aero_names.proofs.NewNames.{has_name, number_stays}

-- the target, by operation

module _ (old : Numbering) (list : Listing) (target : List ℕ) (number : ℕ) where
  module _ (h : NumbersName old.variables list target number) where
    variable_added : (limits : Limits) → IsLimited limits old → IsLimited limits (record old { variables = list })
    variable_added limits is = record { threads = is.threads; variables = (h.within limits.names is.variables).0; locks = is.locks }

    reads : NumbersTarget old (record old { variables = list }) op.Read (Some target) (Read number)
    reads = record {
      what_is = ap Read h.number_is;
      names_are = ap (λ ns. record (names_in old) { variables = ns }) h.names_are;
      within = λ limits is. (variable_added limits is, cond-false (nat_le limits.names number) _ _ (h.within limits.names is.variables).1);
    }

    writes : NumbersTarget old (record old { variables = list }) op.Write (Some target) (Write number)
    writes = record {
      what_is = ap Write h.number_is;
      names_are = ap (λ ns. record (names_in old) { variables = ns }) h.names_are;
      within = λ limits is. (variable_added limits is, cond-false (nat_le limits.names number) _ _ (h.within limits.names is.variables).1);
    }

  module _ (h : NumbersName old.locks list target number) where
    lock_added : (limits : Limits) → IsLimited limits old → IsLimited limits (record old { locks = list })
    lock_added limits is = record { threads = is.threads; variables = is.variables; locks = (h.within limits.names is.locks).0 }

    acquires : NumbersTarget old (record old { locks = list }) op.Acquire (Some target) (Acquire number)
    acquires = record {
      what_is = ap Acquire h.number_is;
      names_are = ap (λ ns. record (names_in old) { locks = ns }) h.names_are;
      within = λ limits is. (lock_added limits is, cond-false (nat_le limits.names number) _ _ (h.within limits.names is.locks).1);
    }

    releases : NumbersTarget old (record old { locks = list }) op.Release (Some target) (Release number)
    releases = record {
      what_is = ap Release h.number_is;
      names_are = ap (λ ns. record (names_in old) { locks = ns }) h.names_are;
      within = λ limits is. (lock_added limits is, cond-false (nat_le limits.names number) _ _ (h.within limits.names is.locks).1);
    }

  module _ (h : NumbersName old.threads list target number) where
    thread_added : (limits : Limits) → IsLimited limits old → IsLimited limits (record old { threads = list })
    thread_added limits is = record { threads = (h.within limits.threads is.threads).0; variables = is.variables; locks = is.locks }

    forks : NumbersTarget old (record old { threads = list }) op.Fork (Some target) (Fork number)
    forks = record {
      what_is = ap Fork h.number_is;
      names_are = ap (λ ns. record (names_in old) { threads = ns }) h.names_are;
      within = λ limits is. (thread_added limits is, cond-false (nat_le limits.threads number) _ _ (h.within limits.threads is.threads).1);
    }

    joins : NumbersTarget old (record old { threads = list }) op.Join (Some target) (Join number)
    joins = record {
      what_is = ap Join h.number_is;
      names_are = ap (λ ns. record (names_in old) { threads = ns }) h.names_are;
      within = λ limits is. (thread_added limits is, cond-false (nat_le limits.threads number) _ _ (h.within limits.threads is.threads).1);
    }

-- the same of an event that comes by its target's number in its chunk

module _ (old : Numbering) (list : Listing) (tables : Tables) (labels : List (List ℕ)) (what : What) (number : ℕ) where
  pub variable_numbered : (x : ℕ) → NumbersName old.variables list (name_at tables.variables x) number → (what ≡ Read x) ⊎ (what ≡ Write x)
      → NumbersTarget old (record old { variables = list }) (op_of what) (target_in tables labels what) (with_number what number)
  variable_numbered x h (inl is) = rw is (reads old list (name_at tables.variables x) number h)
  variable_numbered x h (inr is) = rw is (writes old list (name_at tables.variables x) number h)

  pub lock_numbered : (l : ℕ) → NumbersName old.locks list (name_at tables.locks l) number → (what ≡ Acquire l) ⊎ (what ≡ Release l)
      → NumbersTarget old (record old { locks = list }) (op_of what) (target_in tables labels what) (with_number what number)
  lock_numbered l h (inl is) = rw is (acquires old list (name_at tables.locks l) number h)
  lock_numbered l h (inr is) = rw is (releases old list (name_at tables.locks l) number h)

  pub thread_numbered : (u : ℕ) → NumbersName old.threads list (name_at tables.threads u) number → (what ≡ Fork u) ⊎ (what ≡ Join u)
      → NumbersTarget old (record old { threads = list }) (op_of what) (target_in tables labels what) (with_number what number)
  thread_numbered u h (inl is) = rw is (forks old list (name_at tables.threads u) number h)
  thread_numbered u h (inr is) = rw is (joins old list (name_at tables.threads u) number h)

-- an operation whose target gets no number, and one without a target

pub begins : (old : Numbering) (target : Option (List ℕ)) → NumbersTarget old old op.Begin target (Begin None)
begins old target = record { what_is = refl; names_are = refl; within = λ limits is. (is, refl) }

pub ends : (old : Numbering) → NumbersTarget old old op.End None End
ends old = record { what_is = refl; names_are = refl; within = λ limits is. (is, refl) }

-- an actor that gets no number
pub actor_refused : (old : Numbering) (e : Named) (fault : ShapeFault) → RefusesName old.threads e.thread TooManyThreads fault → RefusesEvent old e fault
actor_refused old e fault refuses = λ limits limited not_memory.
    let r = refuses not_memory in
    let number : (numbered_after (names_in old) e).thread ≡ number_after old.threads.names e.thread =
    number_stays (with_name old.threads.names e.thread) (thread_target e.op e.target) e.thread (has_name old.threads.names e.thread) in
    cond-true (nat_le limits.threads (numbered_after (names_in old) e).thread) (Some TooManyThreads) _ (ap₂ nat_le (sym limited.threads.limit_is) number ∙ r.1) ∙ ap Some (sym r.0)

-- the actor, and then the target

module _ (old : Numbering) (list : Listing) (e : Named) (number : ℕ) (h : NumbersName old.threads list e.thread number) where
  with_list : Numbering
  with_list = record old { threads = list }

  actor_named : names_in (record old { threads = list }) ≡ with_actor (names_in old) e
  actor_named = ap (λ ns. record (names_in old) { threads = ns }) h.names_are

  number_kept : (numbered_after (names_in old) e).thread ≡ number
  number_kept =
      number_stays (with_name old.threads.names e.thread) (thread_target e.op e.target) e.thread (has_name old.threads.names e.thread)
      ∙ sym h.number_is

  what_here : what_after (names_in (record old { threads = list })) e.op e.target ≡ (numbered_after (names_in old) e).what
  what_here = ap (λ ts. what_after ts e.op e.target) actor_named

  pub target_numbered : (new : Numbering) (what : What) → NumbersTarget (record old { threads = list }) new e.op e.target what → NumbersEvent old new e (record { thread = number; what = what })
  target_numbered new what t = record {
    numbered_is = λ i. record { thread = sym number_kept i; what = (t.what_is ∙ what_here) i };
    names_are = t.names_are ∙ ap (λ ts. with_target ts e.op e.target) actor_named;
    within = λ limits limited.
        let actor = h.within limits.threads limited.threads in
        let both = t.within limits (record { threads = actor.0; variables = limited.variables; locks = limited.locks }) in
        (both.0, cond-false (nat_le limits.threads number) _ _ actor.1 ∙ both.1);
  }

  pub target_refused : (fault : ShapeFault) → RefusesTarget (record old { threads = list }) e.op e.target fault → RefusesEvent old e fault
  target_refused fault refuses = λ limits limited not_memory.
      let actor = h.within limits.threads limited.threads in
      cond-false (nat_le limits.threads (numbered_after (names_in old) e).thread) _ _ (ap (nat_le limits.threads) number_kept ∙ actor.1)
      ∙ ap (target_limit_fault limits) (sym what_here)
      ∙ refuses limits (record { threads = actor.0; variables = limited.variables; locks = limited.locks }) not_memory
