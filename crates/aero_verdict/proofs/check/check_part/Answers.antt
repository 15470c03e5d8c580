use Rattle.std.proofs.Common.{◌≡◌, ℕ, [], List, Option, Some, None, sym, ◌∙◌, ap, subst}
use Rattle.std.specs.Prelude.{All}
use Rattle.aero_grammar.specs.Reading.{Reading, fault_within}
use Rattle.aero_grammar.specs.Tabled.{IsTabled, lines_in}
use Rattle.aero_model.specs.Named.{Named}
use Rattle.aero_model.specs.Numbering.{Tables}
use Rattle.aero_model.specs.Terms.{Rules, ruled}
use Rattle.aero_model.specs.declared.numbered.Numbered.{Numbered}
use Rattle.aero_engine.specs.Given.{words_of}
use Rattle.aero_verdict.specs.declared.checker.Stop.{Stop}
use Rattle.aero_verdict.specs.Ending.{HasAdmitted}
use Rattle.aero_verdict.specs.Standing.{HasNamedActor, names_of, up_to}
use Rattle.aero_verdict.specs.Verdict.{with_ends}
use Rattle.aero_verdict.proofs.Admitting.{counted_events_named, with_actors}
use Rattle.aero_verdict.proofs.Parts.{part_behind, part_can_be_told, part_stopped, part_malformed, part_passed}
use Rattle.aero_verdict.proofs.check.check_part.Goals as goal

pub admit_part-requires-clause-next : goal.admit_part-requires-clause-next
admit_part-requires-clause-next g c =
    let t : Tables = record { threads = c.part.inside.threads; variables = c.part.inside.variables; locks = c.part.inside.locks } in
    let p : Reading = record { events = lines_in t c.part.inside.labels c.part.inside.events.items; lines = c.part.inside.lines; fault = c.part.inside.fault } in
    let rules : Rules = ruled c.args.limits.now c.args.except.now c.args.checker.now.ends in (
      rules,
      _,
      part_behind (words_of g.E.Engine.stands_for g.E.Engine.keeps) rules c.requires.0 c.requires.1 c.args.lines c.args.checker.now c.args.part.now c.requires.2 p c.part.view_is
          c.part.invariant.reading c.saturating_sub-most.result c.saturating_sub-most.ensures (lines_in t c.part.inside.labels c.deref.result.now) (ap (lines_in t c.part.inside.labels) c.deref.ensures.value) c.part.inside.labels c.in_ok-exempt.exempt c.in_ok-exempt.ensures,
    )

pub admit_part-requires-clause-tabled : goal.admit_part-requires-clause-tabled
admit_part-requires-clause-tabled g c =
    let t : Tables = record { threads = c.part.inside.threads; variables = c.part.inside.variables; locks = c.part.inside.locks } in
    subst (λ (items : List (ℕ × Numbered)). IsTabled t c.part.inside.labels items) (sym c.deref.ensures.value) c.part.invariant.tabled

pub stopped_at-requires : goal.stopped_at-requires
stopped_at-requires g c =
    let words = words_of g.E.Engine.stands_for g.E.Engine.keeps in
    let t : Tables = record { threads = c.part.inside.threads; variables = c.part.inside.variables; locks = c.part.inside.locks } in
    let p : Reading = record { events = lines_in t c.part.inside.labels c.part.inside.events.items; lines = c.part.inside.lines; fault = c.part.inside.fault } in
    let rules : Rules = ruled c.args.limits.now c.args.except.now c.args.checker.now.ends in
    let es : List (ℕ × Named) = lines_in t c.part.inside.labels c.deref.result.now in
    let es_are : es ≡ p.events = ap (lines_in t c.part.inside.labels) c.deref.ensures.value in
    let front : List (ℕ × Named) = with_ends rules [] (up_to rules.limits.lines c.requires.2.so_far.events) in
    let behind = part_behind words rules c.requires.0 c.requires.1 c.args.lines c.args.checker.now c.args.part.now c.requires.2 p c.part.view_is
    c.part.invariant.reading c.saturating_sub-most.result c.saturating_sub-most.ensures es es_are c.part.inside.labels c.in_ok-exempt.exempt c.in_ok-exempt.ensures in
    let own : List (ℕ × Named) = up_to c.saturating_sub-most.result es in
    part_can_be_told words rules c.requires.0 c.requires.1 c.args.lines c.args.checker.now c.args.part.now c.requires.2 p c.part.view_is
    c.part.invariant.reading c.saturating_sub-most.result c.saturating_sub-most.ensures es es_are c.part.inside.labels c.in_ok-exempt.exempt c.in_ok-exempt.ensures
    (subst (λ (xs : List (ℕ × Named)). All HasNamedActor (with_ends rules (names_of front) (up_to c.saturating_sub-most.result xs))) (sym es_are)
    (with_actors rules (names_of front) (up_to c.saturating_sub-most.result p.events) (counted_events_named t c.part.inside.labels c.part.inside.events.items c.saturating_sub-most.result c.part.invariant.tabled c.part.invariant.names)))
    c.admit_part.new.self c.in-Some.line c.in-Some.stop
    (subst (λ (o : Option (ℕ × Stop)). HasAdmitted words rules c.args.checker.now c.admit_part.new.self c.part.inside.labels c.in_ok-exempt.exempt c.args.lines (with_ends rules (names_of front) own) o) c.in-Some.is
    (c.in_ok-line.ensures rules front behind))

pub returns-in-Some-clause-told : goal.returns-in-Some-clause-told
returns-in-Some-clause-told g c = λ parts k next.
    let words = words_of g.E.Engine.stands_for g.E.Engine.keeps in
    let t : Tables = record { threads = c.part.inside.threads; variables = c.part.inside.variables; locks = c.part.inside.locks } in
    let p : Reading = record { events = lines_in t c.part.inside.labels c.part.inside.events.items; lines = c.part.inside.lines; fault = c.part.inside.fault } in
    let rules : Rules = ruled c.args.limits.now c.args.except.now c.args.checker.now.ends in
    let es : List (ℕ × Named) = lines_in t c.part.inside.labels c.deref.result.now in
    let es_are : es ≡ p.events = ap (lines_in t c.part.inside.labels) c.deref.ensures.value in
    let front : List (ℕ × Named) = with_ends rules [] (up_to rules.limits.lines next.so_far.events) in
    let behind = part_behind words rules parts k c.args.lines c.args.checker.now c.args.part.now next p c.part.view_is
    c.part.invariant.reading c.saturating_sub-most.result c.saturating_sub-most.ensures es es_are c.part.inside.labels c.in_ok-exempt.exempt c.in_ok-exempt.ensures in
    let own : List (ℕ × Named) = up_to c.saturating_sub-most.result es in
    part_stopped words rules parts k c.args.lines c.args.checker.now c.args.part.now next p c.part.view_is
    c.part.invariant.reading c.saturating_sub-most.result c.saturating_sub-most.ensures es es_are c.part.inside.labels c.in_ok-exempt.exempt c.in_ok-exempt.ensures
    c.admit_part.new.self c.in-Some.line c.in-Some.stop
    (subst (λ (o : Option (ℕ × Stop)). HasAdmitted words rules c.args.checker.now c.admit_part.new.self c.part.inside.labels c.in_ok-exempt.exempt c.args.lines (with_ends rules (names_of front) own) o) c.in-Some.is
    (c.in_ok-line.ensures rules front behind))
    c.in_ok-verdict.verdict c.in_ok-verdict.ensures.told

pub returns-in_default-fault-clause-told : goal.returns-in_default-fault-clause-told
returns-in_default-fault-clause-told g c = λ parts k next.
    let words = words_of g.E.Engine.stands_for g.E.Engine.keeps in
    let t : Tables = record { threads = c.part.inside.threads; variables = c.part.inside.variables; locks = c.part.inside.locks } in
    let p : Reading = record { events = lines_in t c.part.inside.labels c.part.inside.events.items; lines = c.part.inside.lines; fault = c.part.inside.fault } in
    let rules : Rules = ruled c.args.limits.now c.args.except.now c.args.checker.now.ends in
    let es : List (ℕ × Named) = lines_in t c.part.inside.labels c.deref.result.now in
    let es_are : es ≡ p.events = ap (lines_in t c.part.inside.labels) c.deref.ensures.value in
    let front : List (ℕ × Named) = with_ends rules [] (up_to rules.limits.lines next.so_far.events) in
    let behind = part_behind words rules parts k c.args.lines c.args.checker.now c.args.part.now next p c.part.view_is
    c.part.invariant.reading c.saturating_sub-most.result c.saturating_sub-most.ensures es es_are c.part.inside.labels c.in_ok-exempt.exempt c.in_ok-exempt.ensures in
    let own : List (ℕ × Named) = up_to c.saturating_sub-most.result es in
    let admitted : HasAdmitted words rules c.args.checker.now c.admit_part.new.self c.part.inside.labels c.in_ok-exempt.exempt c.args.lines (with_ends rules (names_of front) own) None =
    subst (λ (o : Option (ℕ × Stop)). HasAdmitted words rules c.args.checker.now c.admit_part.new.self c.part.inside.labels c.in_ok-exempt.exempt c.args.lines (with_ends rules (names_of front) own) o) c.in_default.is
    (c.in_ok-line.ensures rules front behind) in
    part_passed words rules parts k c.args.lines c.args.checker.now c.args.part.now next p c.part.view_is
    c.part.invariant.reading c.saturating_sub-most.result c.saturating_sub-most.ensures es es_are c.part.inside.labels c.in_ok-exempt.exempt c.in_ok-exempt.ensures
    c.admit_part.new.self admitted.0 admitted.1
    (subst (λ (xs : List (ℕ × Named)). All HasNamedActor (with_ends rules (names_of front) (up_to c.saturating_sub-most.result xs))) (sym es_are)
    (with_actors rules (names_of front) (up_to c.saturating_sub-most.result p.events) (counted_events_named t c.part.inside.labels c.part.inside.events.items c.saturating_sub-most.result c.part.invariant.tabled c.part.invariant.names)))
    c.in_default-fault.is

pub returns-clause-told : goal.returns-clause-told
returns-clause-told g c = λ parts k next.
    let words = words_of g.E.Engine.stands_for g.E.Engine.keeps in
    let t : Tables = record { threads = c.part.inside.threads; variables = c.part.inside.variables; locks = c.part.inside.locks } in
    let p : Reading = record { events = lines_in t c.part.inside.labels c.part.inside.events.items; lines = c.part.inside.lines; fault = c.part.inside.fault } in
    let rules : Rules = ruled c.args.limits.now c.args.except.now c.args.checker.now.ends in
    let es : List (ℕ × Named) = lines_in t c.part.inside.labels c.deref.result.now in
    let es_are : es ≡ p.events = ap (lines_in t c.part.inside.labels) c.deref.ensures.value in
    let front : List (ℕ × Named) = with_ends rules [] (up_to rules.limits.lines next.so_far.events) in
    let behind = part_behind words rules parts k c.args.lines c.args.checker.now c.args.part.now next p c.part.view_is
    c.part.invariant.reading c.saturating_sub-most.result c.saturating_sub-most.ensures es es_are c.part.inside.labels c.in_ok-exempt.exempt c.in_ok-exempt.ensures in
    let own : List (ℕ × Named) = up_to c.saturating_sub-most.result es in
    let admitted : HasAdmitted words rules c.args.checker.now c.admit_part.new.self c.part.inside.labels c.in_ok-exempt.exempt c.args.lines (with_ends rules (names_of front) own) None =
    subst (λ (o : Option (ℕ × Stop)). HasAdmitted words rules c.args.checker.now c.admit_part.new.self c.part.inside.labels c.in_ok-exempt.exempt c.args.lines (with_ends rules (names_of front) own) o) c.in_default.is
    (c.in_ok-line.ensures rules front behind) in (
      part_malformed words rules parts k c.args.lines c.args.checker.now c.args.part.now next p c.part.view_is
          c.part.invariant.reading c.saturating_sub-most.result c.saturating_sub-most.ensures es es_are c.part.inside.labels c.in_ok-exempt.exempt c.in_ok-exempt.ensures
          c.admit_part.new.self admitted.0 admitted.1
          c.in-Some-fault.line c.in-Some-fault.fault c.in-Some-fault.is c.malformed_line-line.result
          (λ all_lines. ap (λ n. fault_within c.args.limits.now.lines all_lines (Some (n, c.in-Some-fault.fault))) (sym c.saturating_add.ensures) ∙ c.malformed_line-line.ensures.told all_lines),
      tt,
      tt,
    )
