use Rattle.std.proofs.Common.{◌≡◌, ℕ, ◌+◌, false, List, ◌++◌, length, map, sym, ◌∙◌, ap, subst, arith, inr}
use Rattle.std.specs.Prelude.{All}
use Rattle.aero_model.specs.declared.numbered.Numbered.{Numbered}
use Rattle.aero_model.specs.Named.{Named}
use Rattle.aero_model.specs.Numbering.{Tables}
use Rattle.aero_model.specs.Terms.{Rules}
use Rattle.aero_grammar.specs.Reading.{after_lines}
use Rattle.aero_grammar.specs.Tabled.{lines_in, named_in}
use Rattle.aero_grammar.specs.Words.{IsEvent}
use Rattle.aero_engine.specs.Given.{words_of}
use Rattle.aero_verdict.specs.declared.known.Exemptions.{Exemptions}
use Rattle.aero_verdict.specs.Ending.{ends_behind}
use Rattle.aero_verdict.specs.Standing.{AreExpected, StandsFor, up_to}
use Rattle.aero_verdict.proofs.Admitting.{ends_are_ends, ends_behind_are, ends_none, expected_behind, has_ended, last_counted, last_events, last_many}
use Rattle.aero_verdict.proofs.checker.Checker.admit_last_ends.Goals as goal

pub returns-then-not-self-clause-told : goal.returns-then-not-self-clause-told
returns-then-not-self-clause-told g c = λ rules front behind.
    let words = words_of g.E.Engine.stands_for g.E.Engine.keeps in
    let none : rules.end ≡ false = sym (ends_behind_are words rules c.args.self.now front behind) ∙ c.if-not-self.true in
    subst (λ (ends : List (ℕ × Named)). (c.args.self.now.shape.admitted ≡ c.args.self.now.shape.admitted + length ends) × ((later : List (ℕ × Named)) → StandsFor words rules c.args.self.now (front ++ (map (after_lines c.args.before) ends ++ later))))
    (sym (ends_none rules front none)) (omega arith, λ later. behind.kept later)

pub admit_all-requires-clause-next : goal.admit_all-requires-clause-next
admit_all-requires-clause-next g c =
    let words = words_of g.E.Engine.stands_for g.E.Engine.keeps in
    let rules : Rules = c.requires.next.0 in
    let front : List (ℕ × Named) = c.requires.next.1 in
    let behind = c.requires.next.2 in
    let threads = c.in_ok-threads.threads in
    let none = c.new-none.result in
    let flags : Exemptions = record { labels = c.new.result; unlabelled = false } in
    let T : Tables = record { threads = threads; variables = none; locks = none } in
    let counted = last_counted words rules c.args.self.now front behind c.if-not-self.false threads none c.new-none.ensures c.in_ok-threads.ends.items c.in_ok-threads.ensures.ends in
    let many = last_many words rules c.args.self.now front behind c.if-not-self.false threads none c.new-none.ensures c.in_ok-threads.ends.items c.in_ok-threads.ensures.ends in
    let room = c.has_room.ensures.0 c.if-not-has_room.false in
    subst (λ (xs : List (ℕ × Named)). AreExpected words c.args.self.now none flags c.args.before xs) (sym (ap (λ (xs : List (ℕ × Numbered)). up_to 1 (lines_in T none xs)) c.deref.ensures.value ∙ counted))
    (expected_behind words rules c.args.self.now front behind none flags c.args.before (ends_behind rules front) (inr (ends_are_ends rules front)) (omega (arith, many, room, c.len.ensures)))

pub admit_all-requires-clause-named : goal.admit_all-requires-clause-named
admit_all-requires-clause-named g c =
    let words = words_of g.E.Engine.stands_for g.E.Engine.keeps in
    let threads = c.in_ok-threads.threads in
    let none = c.new-none.result in
    let T : Tables = record { threads = threads; variables = none; locks = none } in
    subst (λ (items : List (ℕ × Numbered)). All (λ e. IsEvent (named_in T none e.1)) items) (sym c.deref.ensures.value)
    (last_events words c.requires.next.0 c.args.self.now c.requires.next.1 c.requires.next.2 threads none c.in_ok-threads.ends.items c.in_ok-threads.ensures.names c.in_ok-threads.ensures.each)

pub returns-clause-told : goal.returns-clause-told
returns-clause-told g c = λ rules front behind.
    let words = words_of g.E.Engine.stands_for g.E.Engine.keeps in
    let threads = c.in_ok-threads.threads in
    let none = c.new-none.result in
    let flags : Exemptions = record { labels = c.new.result; unlabelled = false } in
    let T : Tables = record { threads = threads; variables = none; locks = none } in
    let counted = last_counted words rules c.args.self.now front behind c.if-not-self.false threads none c.new-none.ensures c.in_ok-threads.ends.items c.in_ok-threads.ensures.ends in
    has_ended words rules c.args.self.now front behind c.admit_all.new.self none flags c.args.before (up_to 1 (lines_in T none c.deref.result.now))
    (ap (λ (xs : List (ℕ × Numbered)). up_to 1 (lines_in T none xs)) c.deref.ensures.value ∙ counted)
    c.admit_all.result c.admit_all.ensures.counted c.admit_all.ensures.kept c.admit_all.ensures.stopped c.err.result c.err.ensures.value
