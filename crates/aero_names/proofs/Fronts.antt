-- The names of the first events of a list, and the numbers that they give.
use Rattle.std.proofs.Common.{◌≡◌, ℕ, List, [], ◌∷◌, ◌++◌, Option, Some, None, refl, ◌∙◌, ap, true}
use Rattle.std.specs.Prelude.{fold, flat_map, bytes_eq, unwrap_or}
use Rattle.std.specs.List.{list_any}
use Rattle.std.proofs.lemmas.List.{append-nil}
use Rattle.std.proofs.lemmas.List.Sums.{fold-append}
use Rattle.std.proofs.lemmas.Grind.{flat_map-append}
use Rattle.aero_model.specs.declared.numbered.What.TheVariants.{Read, Write, Acquire, Release, Fork, Join}
use Rattle.aero_model.specs.declared.event.Op.{Op}
use Rattle.aero_model.specs.declared.event.Op.TheVariants as op
use Rattle.aero_model.specs.Named.{Named, HasItsTarget}
use Rattle.aero_model.specs.Numbering.{with_name, different_names, number_of, thread_target, threads_named, variables_named, locks_named, Tables, tables_of, what_of, numbered}
use Rattle.aero_names.specs.Additions.{with_target, with_event, what_after, numbered_after}
use Rattle.aero_names.proofs.NewNames.{has_name, still_has_name, number_stays}

pub names_joined : (named : Named → List (List ℕ)) (xs ys : List Named) → different_names (flat_map named (xs ++ ys)) ≡ fold with_name (different_names (flat_map named xs)) (flat_map named ys)
names_joined named xs ys = ap different_names (flat_map-append named xs ys) ∙ fold-append with_name [] (flat_map named xs) (flat_map named ys)

pub names_pushed : (named : Named → List (List ℕ)) (xs : List Named) (e : Named) → different_names (flat_map named (xs ++ e ∷ [])) ≡ fold with_name (different_names (flat_map named xs)) (named e)
names_pushed named xs e = names_joined named xs (e ∷ []) ∙ ap (fold with_name (different_names (flat_map named xs))) (append-nil (named e))

-- the names with one more event
pub tables_pushed : (events : List Named) (e : Named) → tables_of (events ++ e ∷ []) ≡ with_event (tables_of events) e
tables_pushed events e = λ i. record {
  threads = names_pushed threads_named events e i;
  variables = names_pushed variables_named events e i;
  locks = names_pushed locks_named events e i;
}

-- the second tables are the first and names that came later
pub record Extends (before after : Tables) : Type 0 where
  pub threads : (more : List (List ℕ)) × (after.threads ≡ fold with_name before.threads more)
  pub variables : (more : List (List ℕ)) × (after.variables ≡ fold with_name before.variables more)
  pub locks : (more : List (List ℕ)) × (after.locks ≡ fold with_name before.locks more)

pub tables_extended : (events more : List Named) → Extends (tables_of events) (tables_of (events ++ more))
tables_extended events more =
    record {
      threads = (flat_map threads_named more, names_joined threads_named events more);
      variables = (flat_map variables_named more, names_joined variables_named events more);
      locks = (flat_map locks_named more, names_joined locks_named events more);
    }

pub number_kept : (before after : List (List ℕ)) (name : List ℕ) → (more : List (List ℕ)) × (after ≡ fold with_name before more) → list_any (bytes_eq name) before ≡ true → number_of after name ≡ number_of before name
number_kept before after name extends some = ap (λ ns. number_of ns name) extends.1 ∙ number_stays before extends.0 name some

what_kept : (tables after : Tables) (o : Op) (target : Option (List ℕ)) → HasItsTarget o target → Extends (with_target tables o target) after → what_of after o (unwrap_or target []) ≡ what_after tables o target
what_kept tables after op.Read (Some t) has extends = ap Read (number_kept _ after.variables t extends.variables (has_name tables.variables t))
what_kept tables after op.Write (Some t) has extends = ap Write (number_kept _ after.variables t extends.variables (has_name tables.variables t))
what_kept tables after op.Acquire (Some t) has extends = ap Acquire (number_kept _ after.locks t extends.locks (has_name tables.locks t))
what_kept tables after op.Release (Some t) has extends = ap Release (number_kept _ after.locks t extends.locks (has_name tables.locks t))
what_kept tables after op.Fork (Some t) has extends = ap Fork (number_kept _ after.threads t extends.threads (has_name tables.threads t))
what_kept tables after op.Join (Some t) has extends = ap Join (number_kept _ after.threads t extends.threads (has_name tables.threads t))
what_kept tables after op.Read None has extends = absurd (cc)
what_kept tables after op.Write None has extends = absurd (cc)
what_kept tables after op.Acquire None has extends = absurd (cc)
what_kept tables after op.Release None has extends = absurd (cc)
what_kept tables after op.Fork None has extends = absurd (cc)
what_kept tables after op.Join None has extends = absurd (cc)
what_kept tables after op.Begin target has extends = refl
what_kept tables after op.End target has extends = refl

-- the event's numbers stay what they are, whatever names come later
pub numbered_kept : (tables after : Tables) (e : Named) → HasItsTarget e.op e.target → Extends (with_event tables e) after → numbered after e ≡ numbered_after tables e
numbered_kept tables after e has extends = λ i. record {
  thread = number_kept (with_event tables e).threads after.threads e.thread extends.threads (still_has_name tables.threads (thread_target e.op e.target) e.thread) i;
  what = what_kept (record tables { threads = with_name tables.threads e.thread }) after e.op e.target has extends i;
}
