use Rattle.std.proofs.Common.{◌≡◌, ℕ, false, List, length, sym, ◌∙◌, ap, subst, arith, inl}
use Rattle.std.specs.Prelude.{All}
use Rattle.aero_model.specs.declared.numbered.Numbered.{Numbered}
use Rattle.aero_model.specs.Named.{Named}
use Rattle.aero_model.specs.Terms.{Rules}
use Rattle.aero_grammar.specs.Tabled.{lines_in, named_in}
use Rattle.aero_grammar.specs.Words.{IsEvent}
use Rattle.aero_engine.specs.Given.{words_of}
use Rattle.aero_verdict.specs.Ending.{HasAdmitted, IsFrom, IsWithin}
use Rattle.aero_verdict.specs.Known.{tables_in, HasLabel}
use Rattle.aero_verdict.specs.Standing.{AreExpected, names_of, up_to}
use Rattle.aero_verdict.proofs.Admitting.{counts_open, ended_counted, ended_events, ended_labels, ended_many, ends_behind_are, expected_behind, has_admitted}
use Rattle.aero_verdict.proofs.BlockEvents.{chunk_events, chunk_within}
use Rattle.aero_verdict.proofs.Ending.{without_any}
use Rattle.aero_verdict.proofs.KnownLabels.{labels_known}
use Rattle.aero_verdict.proofs.checker.Checker.admit_part.Goals as goal

pub admit_all-requires-clause-next : goal.admit_all-requires-clause-next
admit_all-requires-clause-next g c =
    let words = words_of g.E.Engine.stands_for g.E.Engine.keeps in
    let goes = c.requires.next.2 in
    let none : c.requires.next.0.end ≡ false = sym (ends_behind_are words c.requires.next.0 c.args.self.now c.requires.next.1 goes.stands) ∙ c.if-not-self.true in
    expected_behind words c.requires.next.0 c.args.self.now c.requires.next.1 goes.stands c.args.chunk.labels.now c.args.chunk.exempt.now c.args.before
    (up_to c.args.most (lines_in (tables_in c.args.chunk) c.args.chunk.labels.now c.args.events.now)) (inl goes.marked) (let few = goes.few none in let count = goes.stands.count_is in omega (arith, few, count))

pub admit_all-requires-clause-labelled : goal.admit_all-requires-clause-labelled
admit_all-requires-clause-labelled g c = labels_known (tables_in c.args.chunk) c.args.chunk.labels.now c.args.events.now c.requires.tabled

pub admit_all-requires-clause-named : goal.admit_all-requires-clause-named
admit_all-requires-clause-named g c = chunk_events (tables_in c.args.chunk) c.args.chunk.labels.now c.args.events.now c.requires.tabled c.requires.names

pub returns-then-not-self : goal.returns-then-not-self
returns-then-not-self g c = λ rules front goes.
    let words = words_of g.E.Engine.stands_for g.E.Engine.keeps in
    let own : List (ℕ × Named) = up_to c.args.most (lines_in (tables_in c.args.chunk) c.args.chunk.labels.now c.args.events.now) in
    let none : rules.end ≡ false = sym (ends_behind_are words rules c.args.self.now front goes.stands) ∙ c.if-not-self.true in
    subst (λ (more : List (ℕ × Named)). HasAdmitted words rules c.args.self.now c.admit_all.new.self c.args.chunk.labels.now c.args.chunk.exempt.now c.args.before more c.err.result) (sym (without_any rules (names_of front) own none))
    (has_admitted words rules c.args.self.now c.admit_all.new.self c.args.chunk.labels.now c.args.chunk.exempt.now c.args.before own c.admit_all.result c.admit_all.ensures.counted c.admit_all.ensures.kept c.admit_all.ensures.stopped
    c.err.result c.err.ensures.value)

pub admit_all-requires-2-clause-next : goal.admit_all-requires-2-clause-next
admit_all-requires-2-clause-next g c =
    let words = words_of g.E.Engine.stands_for g.E.Engine.keeps in
    let t = tables_in c.args.chunk in
    let rules : Rules = c.requires.next.0 in
    let front : List (ℕ × Named) = c.requires.next.1 in
    let goes = c.requires.next.2 in
    let many = ended_many words rules c.args.self.now front goes.stands c.if-not-self.false t c.args.chunk.labels.now c.args.events.now c.args.most c.requires.tabled c.in_ok-open.open.items c.in_ok-open.ensures c.in_ok-ended.ended.items c.in_ok-ended.ensures.named in
    let counted = ended_counted words rules c.args.self.now front goes.stands c.if-not-self.false t c.args.chunk.labels.now c.args.events.now c.args.most c.requires.tabled c.in_ok-open.open.items c.in_ok-open.ensures c.in_ok-ended.ended.items c.in_ok-ended.ensures.named in
    let items : c.deref.result.now ≡ c.in_ok-ended.ended.items = c.deref.ensures.value in
    let room = c.has_room.ensures.0 c.if-not-has_room.false in
    subst (λ (xs : List (ℕ × Named)). AreExpected words c.args.self.now c.args.chunk.labels.now c.args.chunk.exempt.now c.args.before xs) (sym (ap (λ (xs : List (ℕ × Numbered)). up_to c.args.most (lines_in t c.args.chunk.labels.now xs)) items ∙ counted))
    (expected_behind words rules c.args.self.now front goes.stands c.args.chunk.labels.now c.args.chunk.exempt.now c.args.before _ (inl goes.marked) (omega (arith, many, room, c.len.ensures)))

pub admit_all-requires-2-clause-labelled : goal.admit_all-requires-2-clause-labelled
admit_all-requires-2-clause-labelled g c =
    let t = tables_in c.args.chunk in
    let goes = c.requires.next.2 in
    let words = words_of g.E.Engine.stands_for g.E.Engine.keeps in
    let long = (counts_open words c.requires.next.0 c.args.self.now c.requires.next.1 goes.stands c.if-not-self.false t c.args.chunk.labels.now c.args.events.now c.args.most c.requires.tabled c.in_ok-open.open.items c.in_ok-open.ensures c.in_ok-ended.ended.items c.in_ok-ended.ensures.named).length_is in
    subst (λ (items : List (ℕ × Numbered)). All (λ e. HasLabel c.args.chunk.labels.now e.1.what) items) (sym c.deref.ensures.value)
    (ended_labels t c.args.chunk.labels.now (length c.in_ok-open.open.items) c.args.events.now c.in_ok-ended.ended.items (labels_known t c.args.chunk.labels.now c.args.events.now c.requires.tabled)
    (c.in_ok-ended.ensures.each (subst (λ n. All (λ e. IsWithin n e.1) c.args.events.now) (sym long) (chunk_within t c.args.chunk.labels.now c.args.events.now c.requires.tabled))))

pub admit_all-requires-2-clause-named : goal.admit_all-requires-2-clause-named
admit_all-requires-2-clause-named g c =
    let t = tables_in c.args.chunk in
    let goes = c.requires.next.2 in
    let words = words_of g.E.Engine.stands_for g.E.Engine.keeps in
    let long = (counts_open words c.requires.next.0 c.args.self.now c.requires.next.1 goes.stands c.if-not-self.false t c.args.chunk.labels.now c.args.events.now c.args.most c.requires.tabled c.in_ok-open.open.items c.in_ok-open.ensures c.in_ok-ended.ended.items c.in_ok-ended.ensures.named).length_is in
    subst (λ (items : List (ℕ × Numbered)). All (λ e. IsEvent (named_in t c.args.chunk.labels.now e.1)) items) (sym c.deref.ensures.value)
    (ended_events t c.args.chunk.labels.now c.args.events.now c.in_ok-ended.ended.items c.requires.names.threads (chunk_events t c.args.chunk.labels.now c.args.events.now c.requires.tabled c.requires.names)
    (subst (λ n. All (IsFrom n c.args.events.now) c.in_ok-ended.ended.items) long
    (c.in_ok-ended.ensures.each (subst (λ n. All (λ e. IsWithin n e.1) c.args.events.now) (sym long) (chunk_within t c.args.chunk.labels.now c.args.events.now c.requires.tabled)))))

pub returns : goal.returns
returns g c = λ rules front goes.
    let words = words_of g.E.Engine.stands_for g.E.Engine.keeps in
    let t = tables_in c.args.chunk in
    let counted = ended_counted words rules c.args.self.now front goes.stands c.if-not-self.false t c.args.chunk.labels.now c.args.events.now c.args.most c.requires.tabled c.in_ok-open.open.items c.in_ok-open.ensures c.in_ok-ended.ended.items c.in_ok-ended.ensures.named in
    let same = ap (λ (xs : List (ℕ × Numbered)). up_to c.args.most (lines_in t c.args.chunk.labels.now xs)) c.deref.ensures.value ∙ counted in
    subst (λ (more : List (ℕ × Named)). HasAdmitted words rules c.args.self.now c.admit_all-2.new.self c.args.chunk.labels.now c.args.chunk.exempt.now c.args.before more c.err-2.result) same
    (has_admitted words rules c.args.self.now c.admit_all-2.new.self c.args.chunk.labels.now c.args.chunk.exempt.now c.args.before (up_to c.args.most (lines_in t c.args.chunk.labels.now c.deref.result.now)) c.admit_all-2.result
    c.admit_all-2.ensures.counted c.admit_all-2.ensures.kept c.admit_all-2.ensures.stopped c.err-2.result c.err-2.ensures.value)
