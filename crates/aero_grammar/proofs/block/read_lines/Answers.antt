use Rattle.std.proofs.Common.{◌≡◌, ◌+◌, ◌*◌, ◌-◌, ◌^◌, ◌++◌, ◌∷◌, [], ◌==◌, true, length, None, Ok, sym, ◌∙◌, ap, subst, arith}
use Rattle.aero_names.specs.Additions.{with_event}
use Rattle.aero_grammar.specs.Lists.{lists_in, labels_in, labels_after}
use Rattle.aero_grammar.specs.Meaning.{Means, meaning}
use Rattle.aero_grammar.specs.Reading.{IsReading, followed_by, reading_of}
use Rattle.aero_grammar.specs.Tabled.{lines_in}
use Rattle.aero_grammar.specs.Words.{named_of, ReadsMeaning}
use Rattle.aero_grammar.proofs.Events.{event_of_line}
use Rattle.aero_grammar.proofs.Joined.{reading, nothing_followed_by}
use Rattle.aero_grammar.proofs.LinesRead.{has_event, one_more_line, after_blank, after_event, read_to_end, read_to_fault}
use Rattle.aero_grammar.proofs.Readings.{IsReading-of}
use Rattle.aero_grammar.proofs.TablesGrown.{numbered_next, room_within, room_left, nothing_tabled, tabled_as, no_names, names_as, lines_pushed, tabled_pushed, names_added, numbered_by_turns}
use Rattle.aero_grammar.proofs.block.read_lines.Goals as goal

pub lines-init : goal.lines-init
lines-init c = record {
  read =
      sym ((λ i. followed_by (reading (lines_in (c.requires.none i) (c.requires.unlabelled i) (c.requires.empty i)) 0 None) (reading_of c.args.bytes.now))
      ∙ nothing_followed_by (reading_of c.args.bytes.now));
  tabled = tabled_as _ _ _ _ _ _ c.requires.none c.requires.unlabelled c.requires.empty nothing_tabled;
  names = names_as _ _ _ _ c.requires.none c.requires.unlabelled no_names;
  counted = omega arith;
  fit = c.has_clean_lines-is_clean.ensures;
  room = room_within c.args.tables.now (2 ^ 32 - 1) (2 * length c.args.bytes.now) (omega (arith, c.requires.short)) c.requires.room;
}

pub lines-preserved-in-None : goal.lines-preserved-in-None
lines-preserved-in-None c =
    let so_far = lines_in (lists_in c.lines.tables) (labels_in c.lines.tables) c.lines.events.items in
    record {
      read =
          one_more_line so_far c.lines.lines (reading_of c.args.bytes.now) c.lines.rest.now c.read_line.result.line.now c.read_line.result.behind.now c.lines.invariant.read c.read_line.ensures.lines
          ∙ ap (λ r. followed_by r (reading_of c.read_line.result.behind.now)) (after_blank so_far c.lines.lines c.read_line.result.line.now (subst (λ o. ReadsMeaning (Ok o) (meaning c.read_line.result.line.now)) c.in-None.is (subst (λ r. ReadsMeaning r (meaning c.read_line.result.line.now)) c.in-Ok.is c.read_line.ensures.meaning)));
      tabled = c.lines.invariant.tabled;
      names = c.lines.invariant.names;
      room = room_within c.lines.tables (2 * length c.lines.rest.now) (2 * length c.read_line.result.behind.now) (omega (arith, c.read_line.ensures.shorter)) c.lines.invariant.room;
      fit = c.read_line.ensures.fit;
      counted = omega (arith, c.lines.invariant.counted, c.read_line.ensures.shorter);
    }

pub number-requires-clause-event : goal.number-requires-clause-event
number-requires-clause-event c =
    event_of_line c.read_line.result.line.now (named_of c.in-Some.words) (subst (λ o. ReadsMeaning (Ok o) (meaning c.read_line.result.line.now)) c.in-Some.is (subst (λ r. ReadsMeaning r (meaning c.read_line.result.line.now)) c.in-Ok.is c.read_line.ensures.meaning))

pub number-requires-clause-room : goal.number-requires-clause-room
number-requires-clause-room c =
    room_within c.lines.tables (2 * length c.lines.rest.now) 2 (omega (arith, c.read_line.ensures.shorter)) c.lines.invariant.room

pub lines-preserved : goal.lines-preserved
lines-preserved c =
    let tables = lists_in c.lines.tables in
    let events = c.lines.events.items in
    let labels = labels_in c.lines.tables in
    let so_far = lines_in tables labels events in
    let n = c.lines.lines + 1 in
    let e = named_of c.in-Some.words in
    let means : meaning c.read_line.result.line.now ≡ Means e = subst (λ o. ReadsMeaning (Ok o) (meaning c.read_line.result.line.now)) c.in-Some.is (subst (λ r. ReadsMeaning r (meaning c.read_line.result.line.now)) c.in-Ok.is c.read_line.ensures.meaning) in
    let event = event_of_line c.read_line.result.line.now e means in
    let tables_are : lists_in c.number.new.self ≡ with_event tables e = c.in_ok-number-in-Some.ensures.names in
    let labels_are : labels_in c.number.new.self ≡ labels_after labels e.op e.target = c.in_ok-number-in-Some.ensures.labels in
    let events_are : c.push.new.self.items ≡ events ++ (n, numbered_next tables labels e) ∷ [] =
    c.in_ok-push-in-Some.ensures.items ∙ ap (λ x. events ++ x ∷ []) c.new.ensures ∙ ap (λ x. events ++ (n, x) ∷ []) (c.in_ok-number-in-Some.ensures.numbered ∙ numbered_by_turns tables labels e) in
    record {
      read =
          one_more_line so_far c.lines.lines (reading_of c.args.bytes.now) c.lines.rest.now c.read_line.result.line.now c.read_line.result.behind.now c.lines.invariant.read c.read_line.ensures.lines
          ∙ ap (λ r. followed_by r (reading_of c.read_line.result.behind.now)) (after_event so_far c.lines.lines c.read_line.result.line.now e means)
          ∙ ap (λ es. followed_by (reading es n None) (reading_of c.read_line.result.behind.now))
          (sym ((λ i. lines_in (tables_are i) (labels_are i) (events_are i)) ∙ lines_pushed tables labels events c.lines.invariant.tabled n e event.has_target));
      tabled = tabled_as _ _ _ _ _ _ tables_are labels_are events_are (tabled_pushed tables labels events c.lines.invariant.tabled n e event.has_target);
      names = names_as _ _ _ _ tables_are labels_are (names_added tables labels e event c.lines.invariant.names);
      room = room_left c.lines.tables c.number.new.self (2 * length c.lines.rest.now) (2 * length c.read_line.result.behind.now) 2 (omega (arith, c.read_line.ensures.shorter)) c.lines.invariant.room c.in_ok-number-in-Some.ensures.grown;
      fit = c.read_line.ensures.fit;
      counted = omega (arith, c.lines.invariant.counted, c.read_line.ensures.shorter);
    }

pub returns-in_err-number-in-Some-clause-refused : goal.returns-in_err-number-in-Some-clause-refused
returns-in_err-number-in-Some-clause-refused c =
    has_event _ c.lines.lines (reading_of c.args.bytes.now) c.lines.rest.now c.read_line.result.line.now c.read_line.result.behind.now (named_of c.in-Some.words) c.lines.invariant.read c.read_line.ensures.lines
    (subst (λ o. ReadsMeaning (Ok o) (meaning c.read_line.result.line.now)) c.in-Some.is (subst (λ r. ReadsMeaning r (meaning c.read_line.result.line.now)) c.in-Ok.is c.read_line.ensures.meaning)) c.from_residual.result

pub returns-in_err-push-in-Some-clause-refused : goal.returns-in_err-push-in-Some-clause-refused
returns-in_err-push-in-Some-clause-refused c =
    has_event _ c.lines.lines (reading_of c.args.bytes.now) c.lines.rest.now c.read_line.result.line.now c.read_line.result.behind.now (named_of c.in-Some.words) c.lines.invariant.read c.read_line.ensures.lines
    (subst (λ o. ReadsMeaning (Ok o) (meaning c.read_line.result.line.now)) c.in-Some.is (subst (λ r. ReadsMeaning r (meaning c.read_line.result.line.now)) c.in-Ok.is c.read_line.ensures.meaning)) c.from_residual-in_err-push-in-Some.result

pub returns-in-Err-clause-block : goal.returns-in-Err-clause-block
returns-in-Err-clause-block c =
    record {
      reading =
          subst IsReading
          (read_to_fault (lines_in (lists_in c.lines.tables) (labels_in c.lines.tables) c.lines.events.items) c.lines.lines (reading_of c.args.bytes.now) c.lines.rest.now c.read_line.result.line.now c.read_line.result.behind.now c.in-Err.fault c.lines.invariant.read
          c.read_line.ensures.lines (subst (λ r. ReadsMeaning r (meaning c.read_line.result.line.now)) c.in-Err.is c.read_line.ensures.meaning))
          (IsReading-of c.args.bytes.now);
      tabled = c.lines.invariant.tabled;
      names = c.lines.invariant.names;
    }

pub returns-clause-block : goal.returns-clause-block
returns-clause-block c =
    let end : (length c.lines.rest.now == 0) ≡ true = cc in
    record {
      reading =
          subst IsReading (read_to_end (lines_in (lists_in c.lines.tables) (labels_in c.lines.tables) c.lines.events.items) c.lines.lines (reading_of c.args.bytes.now) c.lines.rest.now c.lines.invariant.read end) (IsReading-of c.args.bytes.now);
      tabled = c.lines.invariant.tabled;
      names = c.lines.invariant.names;
    }
