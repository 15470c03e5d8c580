-- The blocks that are open at the end of a trace, as a record of all its events tells them.
use Rattle.std.proofs.Common.{◌≡◌, ◌⊎◌, ◌↔◌, ℕ, ◌+◌, ◌<◌, ◌≤◌, Bool, true, false, if◌then◌else◌, List, [], ◌∷◌, ◌++◌, length, map, take, get_or, zero, suc, Option, Some, None, option_map, inl, inr, refl, sym, ◌∙◌, ap, subst, le_refl, arith}
use Rattle.std.specs.Prelude.{slice_get, All, IsTrue, IfOk, IfSome, Result, Ok, Err}
use Rattle.std.specs.declared.alloc.AllocError.{AllocError}
use Rattle.std.specs.List.{AllZip}
use Rattle.std.specs.Option.{option_map_or}
use Rattle.std.proofs.lemmas.Bool.{cases_eq, false≢true}
use Rattle.std.proofs.lemmas.List.{append-nil, length-map, take_all, take-map}
use Rattle.std.proofs.lemmas.Option.{slice_get-map, slice_get_within, slice_get-get_or, same_Some}
use Rattle.aero_model.specs.declared.numbered.Numbered.{Numbered}
use Rattle.aero_model.specs.declared.verdict.Finding.{Finding}
use Rattle.aero_model.specs.declared.verdict.OpenBlock.{OpenBlock}
use Rattle.aero_model.specs.declared.verdict.Verdict.{Verdict}
use Rattle.aero_model.specs.declared.verdict.Verdict.TheVariants.{Serializable, Pending, Violation, Malformed, IllFormed}
use Rattle.aero_model.specs.BlockCounts.{is_outer_begin}
use Rattle.aero_model.specs.Blocks.{is_begin, opens, transaction, HasEnded, IsOpen}
use Rattle.aero_model.specs.Named.{Named}
use Rattle.aero_model.specs.Numbering.{tables_of}
use Rattle.aero_model.specs.Shape.{IsLawful}
use Rattle.aero_model.specs.Verdicts.{HasOwnFault, verdict_of}
use Rattle.aero_model.proofs.Stability.{Agree, opens_same}
use Rattle.aero_model.proofs.Telling.{telling_more}
use Rattle.aero_grammar.specs.Reading.{Reading, IsReading, whole_reading}
use Rattle.aero_witness.specs.Thinned.{IsThinned, IsEnough}
use Rattle.aero_witness.specs.Trail.{IsTrail}
use Rattle.aero_witness.proofs.Led.{led_inside}
use Rattle.aero_witness.proofs.Pushed.{push_front, push_last, push_cases}
use Rattle.aero_witness.proofs.Trail.{both}
use Rattle.aero_engine.specs.Given.{words_of}
use Rattle.aero_verdict.specs.declared.checker.Checker.{Checker}
use Rattle.aero_verdict.specs.declared.numbering.Numbering.{Numbering}
use Rattle.aero_judge.specs.declared.recorder.Recorder.{Recorder}
use Rattle.aero_verdict.specs.Explained.{has_cycle}
use Rattle.aero_judge.specs.Finding.{HasOwnVerdict}
use Rattle.aero_verdict.specs.Monitored.{TellsFed}
use Rattle.aero_judge.specs.Opened.{has_blocks, is_shown, IsOpening, AreOpenings, IsOpenBlock, AreOpenBlocks}
use Rattle.aero_verdict.specs.Ordered.{has_order}
use Rattle.aero_judge.specs.Recorded.{recorded, HasRecorded, StandsForLeads}
use Rattle.aero_judge.specs.Records.{IsWholeRecord, IsBegunAt, AreBegunTo, IsBlockAt}
use Rattle.aero_verdict.specs.Verdict.{counted_events, events_of, read_trace, checked_trace}
use Rattle.aero_model.specs.Terms.{Rules}
use Rattle.aero_judge.proofs.Keeping as keeping
use Rattle.aero_judge.proofs.Keeping.{label_is, thread_is}
use Rattle.aero_verdict.proofs.Readings.{none_past}
use Rattle.aero_judge.proofs.Recording as recording

-- the places of begins whose transactions haven't ended, with one event more
pub none_begun : (events : List Numbered) → AreBegunTo events 0 []
none_begun events = record {
  rise = λ i j p q less a b. absurd (let none : None ≡ Some p = a in cc);
  each = λ p. ((λ (i, at). absurd (let none : None ≡ Some p = at in cc)), λ (less, begun). absurd (omega (arith, less)));
}

module _ (events : List Numbered) (n : ℕ) (places : List ℕ) (are : AreBegunTo events n places) where
  below : (i p : ℕ) → slice_get places i ≡ Some p → p < n
  below i p at = ((are.each p).0 (i, at)).0

  without : ¬ IsBegunAt events n → AreBegunTo events (n + 1) places
  without other = record {
    rise = are.rise;
    each = λ p. (
      (λ there. (let h = (are.each p).0 there in (omega (arith, h.0), h.1))),
      λ (less, begun). elim (cases_eq p n) [
        | inl same ↦ absurd (other (subst (IsBegunAt events) same begun))
        | inr before ↦ (are.each p).1 (omega (arith, less, before), begun)
      ],
    );
  }

  rises : (i j p q : ℕ) → i < j → (slice_get places i ≡ Some p) ⊎ ((i ≡ length places) × (p ≡ n)) → (slice_get places j ≡ Some q) ⊎ ((j ≡ length places) × (q ≡ n)) → p < q
  rises i j p q less (inl a) (inl b) = are.rise i j p q less a b
  rises i j p q less (inl a) (inr b) = omega (arith, below i p a, b.1)
  rises i j p q less (inr a) (inl b) = absurd (omega (arith, less, a.0, slice_get_within places j q b))
  rises i j p q less (inr a) (inr b) = absurd (omega (arith, less, a.0, b.0))

  beside : IsBegunAt events n → AreBegunTo events (n + 1) (places ++ n ∷ [])
  beside begun = record {
    rise = λ i j p q less a b. rises i j p q less (push_cases places n i p a) (push_cases places n j q b);
    each = λ p. (
      (λ (i, at). elim (push_cases places n i p at) [
        | inl there ↦ (let h = (are.each p).0 (i, there) in (omega (arith, h.0), h.1))
        | inr last ↦ (omega (arith, last.1), subst (IsBegunAt events) (sym last.1) begun)
      ]),
      λ (less, is). elim (cases_eq p n) [
        | inl same ↦ (length places, push_last places n ∙ ap Some (sym same))
        | inr other ↦ (let there = (are.each p).1 (omega (arith, less, other), is) in (there.0, push_front places n there.0 (slice_get_within places there.0 p there.1) ∙ there.1))
      ],
    );
  }

pub begun_more : (events : List Numbered) (n : ℕ) (places : List ℕ) (b : Bool) → AreBegunTo events n places → IsTrue b ↔ IsBegunAt events n → AreBegunTo events (n + 1) (places ++ (if b then n ∷ [] else []))
begun_more events n places true are is = beside events n places are (is.0 refl)
begun_more events n places false are is = subst (AreBegunTo events (n + 1)) (sym (append-nil places)) (without events n places are (λ begun. false≢true (is.1 begun)))

abbrev pub counted_long : List Reading → Rules → ℕ
counted_long parts rules = length (counted_events parts rules)

-- written out, what stands in `Some` is found at once
both_some : (a b : Bool) → a ≡ b → Some a ≡ Some b
both_some a b same = ap Some same

-- an outermost begin is an event
outer_within : (trace : List Numbered) (p : ℕ) → is_outer_begin trace p ≡ true → p < length trace
outer_within trace p is = go (slice_get trace p) refl is
  where
    go : (o : Option Numbered) → slice_get trace p ≡ o → option_map_or (λ (e : Numbered). opens trace e.thread p) o false ≡ true → p < length trace
    go None at is = absurd (false≢true is)
    go (Some e) at is = slice_get_within trace p e at

take_from : (m : ℕ) (xs : List ℕ) (k i : ℕ) → slice_get (take m xs) k ≡ Some i → slice_get xs k ≡ Some i
take_from zero xs k i at = absurd (let none : None ≡ Some i = at in cc)
take_from (suc m) [] k i at = at
take_from (suc m) (x ∷ xs) zero i at = at
take_from (suc m) (x ∷ xs) (suc k) i at = take_from m xs k i at

module _ (parts : List Reading) (rules : Rules) (numbering : Numbering) (recorder : Recorder) (r : IsWholeRecord parts rules numbering recorder) where
  abbrev counted : List (ℕ × Named)
  counted = counted_events parts rules

  abbrev checked : List Numbered
  checked = checked_trace parts rules

  abbrev n : ℕ
  n = length counted

  abbrev front : List Numbered
  front = take n checked

  abbrev told : List Numbered
  told = map recorded r.given

  abbrev taken : List Numbered
  taken = recorder.events.items

  abbrev places : List ℕ
  places = recorder.places.items

  abbrev HasPlace : ℕ → ℕ → Type 0
  HasPlace i p = slice_get places i ≡ Some p

  agrees : Agree n front checked
  agrees = keeping.agrees parts rules numbering recorder n r

  trail : IsTrail front told
  trail = keeping.trail parts rules numbering recorder n r

  enough : IsEnough told taken places
  enough = keeping.enough parts rules numbering recorder n r

  thin : IsThinned told taken places
  thin = enough.thinned

  told_long : length told ≡ n
  told_long = keeping.told_long parts rules numbering recorder n r

  checked_long : length checked ≡ n
  checked_long = recording.long rules counted n r.within r.given r.are_given

  at_within : (i p : ℕ) → HasPlace i p → p < n
  at_within i p at = keeping.at_within parts rules numbering recorder n r i p at

  -- what was given has the outermost begins of the trace as its begins
  outer_is : (p : ℕ) → p < n → option_map (λ (e : Numbered). is_begin e.what) (slice_get told p) ≡ Some (is_outer_begin checked p)
  outer_is p less = elim (both front told trail p) [
    | inr none ↦ absurd (let past = none_past told p none.1 in let long = told_long in omega (arith, less, past, long))
    | inl h ↦
        let at = sym (agrees.same p less) ∙ h.2 in
        ap (option_map (λ (e : Numbered). is_begin e.what)) h.3
        ∙ ap Some (
        (trail.at p h.0 h.1 h.2 h.3).begins
        ∙ opens_same n front checked agrees h.0.thread p less
        ∙ sym (ap (λ o. option_map_or (λ (e : Numbered). opens checked e.thread p) o false) at)
        )
  ]

  begun_is : (i p : ℕ) → HasPlace i p → IsBegunAt taken i → IsOpening checked p
  begun_is i p at begun =
      let less = at_within i p at in
      let begins = sym (outer_is p less) ∙ ap (option_map (λ (e : Numbered). is_begin e.what)) (sym (thin.event i p at)) ∙ begun.0 in
      record {
        begins = same_Some (is_outer_begin checked p) true begins;
        unended = λ ended. begun.1 (keeping.ended_here parts rules numbering recorder n r i p at (subst (λ m. HasEnded checked m (transaction checked p)) checked_long ended));
      }

  -- each open block's begin is recorded
  record BegunAt (p : ℕ) : Type 0 where
    index : ℕ
    stands : HasPlace index p
    within : index < length taken
    begun : IsBegunAt taken index

  begun_of : (p : ℕ) → IsOpening checked p → BegunAt p
  begun_of p is =
      let less : p < n = (let l = outer_within checked p is.begins in let long = checked_long in omega (arith, l, long)) in
      let going : ¬ HasEnded checked n (transaction checked p) = λ ended. is.unended (subst (λ m. HasEnded checked m (transaction checked p)) (sym checked_long) ended) in
      let inside : p < length told = (let long = told_long in omega (arith, less, long)) in
      let open_there : IsOpen told (length told) (transaction told p) =
      ((p, inside, refl), λ ended. going (keeping.told_ended parts rules numbering recorder n r p less ended)) in
      let among = enough.led p inside (led_inside told (length told) p inside open_there) in
      let at = among.1 in
      record {
        index = among.0;
        stands = at;
        within = (let each = thin.each in let l = slice_get_within places among.0 p at in omega (arith, each, l));
        begun = (
          ap (option_map (λ (e : Numbered). is_begin e.what)) (thin.event among.0 p at) ∙ outer_is p less ∙ both_some (is_outer_begin checked p) true is.begins,
          λ ended. going (keeping.ended_there parts rules numbering recorder n r among.0 p at ended),
        );
      }

  -- where each recorded event is in the trace
  abbrev place_of : ℕ → ℕ
  place_of i = get_or places i 0

  place_is : (i : ℕ) → i < length taken → HasPlace i (place_of i)
  place_is i less = slice_get-get_or places i 0 (let each = thin.each in omega (arith, each, less))

  block_is : (i p : ℕ) (block : OpenBlock) → HasPlace i p → IsBlockAt numbering recorder i block → IsOpenBlock parts rules p block
  block_is i p block at is =
      let event = keeping.event_is parts rules numbering recorder n r i p is.event at is.event_is in
      record {
        line = keeping.line_at parts rules numbering recorder n r i p block.line at is.line;
        thread = thread_is (slice_get counted p) is.event event ∙ ap Some is.thread;
        label = label_is (slice_get counted p) is.event event ∙ ap Some is.label;
      }

  blocks_are : (xs : List ℕ) (blocks : List OpenBlock) → ((k i : ℕ) → slice_get xs k ≡ Some i → i < length taken) → AllZip (IsBlockAt numbering recorder) xs blocks → AllZip (IsOpenBlock parts rules) (map place_of xs) blocks
  blocks_are [] [] within zip = tt
  blocks_are [] (b ∷ bs) within zip = absurd zip
  blocks_are (x ∷ xs) [] within zip = absurd zip
  blocks_are (x ∷ xs) (b ∷ bs) within zip =
      (block_is x (place_of x) b (place_is x (within 0 x refl)) zip.0, blocks_are xs bs (λ k i at. within (suc k) i at) zip.1)

  module _ (found : List ℕ) (are : AreBegunTo taken (length taken) found) where
    found_within : (k i : ℕ) → slice_get found k ≡ Some i → i < length taken
    found_within k i at = ((are.each i).0 (k, at)).0

    record FoundAt (k p : ℕ) : Type 0 where
      index : ℕ
      there : slice_get found k ≡ Some index
      stands : HasPlace index p

    found_at : (k p : ℕ) → slice_get (map place_of found) k ≡ Some p → FoundAt k p
    found_at k p at = go (slice_get found k) refl
      where
        go : (o : Option ℕ) → slice_get found k ≡ o → FoundAt k p
        go None none = absurd (let a : None ≡ Some p = sym (slice_get-map place_of found k ∙ ap (option_map place_of) none) ∙ at in cc)
        go (Some i) there =
            let same = same_Some (place_of i) p (sym (slice_get-map place_of found k ∙ ap (option_map place_of) there) ∙ at) in
            record { index = i; there = there; stands = place_is i (found_within k i there) ∙ ap Some same }

    are_openings : AreOpenings checked (map place_of found)
    are_openings = record {
      rise = λ k l p q less a b.
          (let x = found_at k p a in
          let y = found_at l q b in
          thin.rise x.index y.index p q (are.rise k l x.index y.index less x.there y.there) x.stands y.stands);
      each = λ p. (
        (λ (k, at). (let x = found_at k p at in begun_is x.index p x.stands ((are.each x.index).0 (k, x.there)).1)),
        λ is.
            (let b = begun_of p is in
            let there = (are.each b.index).1 (b.within, b.begun) in
            let same = same_Some (place_of b.index) p (sym (place_is b.index b.within) ∙ b.stands) in
            (there.0, slice_get-map place_of found there.0 ∙ ap (option_map place_of) there.1 ∙ ap Some same)),
      );
    }

    abbrev first_ones : List ℕ
    first_ones = take 64 found

    first_within : (k i : ℕ) → slice_get first_ones k ≡ Some i → i < length taken
    first_within k i at = found_within k i (take_from 64 found k i at)

    pub all_within : All (λ i. i < length taken) first_ones
    all_within k d less = first_within k (get_or first_ones k d) (slice_get-get_or first_ones k d less)

    pub are_open_blocks : (blocks : List OpenBlock) → AllZip (IsBlockAt numbering recorder) first_ones blocks → AreOpenBlocks parts rules blocks
    are_open_blocks blocks zip = record {
      places = map place_of found;
      are = are_openings;
      told = subst (λ ps. AllZip (IsOpenBlock parts rules) ps blocks) (sym (take-map place_of 64 found)) (blocks_are first_ones blocks first_within zip);
    }

-- what a recorder keeps where some blocks are open
whole_of : (parts : List Reading) (rules : Rules) (checker : Checker Recorder) (events blocks pending : ℕ) → All IsReading parts → rules.limits.lines ≤ 4000000000 → TellsFed (words_of StandsForLeads HasRecorded) rules parts checker (Pending events blocks pending)
    → IsWholeRecord parts rules checker.numbering checker.engine
whole_of parts rules checker events blocks pending all most tells =
    let counted = counted_events parts rules in
    let keeps = tells.keeps_at in
    let clean = tells.on.is_verdict.1.clean in
    let within : length counted ≤ length counted = le_refl (length counted) in
    let long = recording.long rules counted (length counted) within keeps.given keeps.are_given in
    record {
      readings = all;
      within = within;
      lawful = subst (IsLawful rules.limits (read_trace parts rules)) long clean.lawful;
      untold = λ m l told. clean.no_cycle (telling_more (checked_trace parts rules) m (length (checked_trace parts rules)) (omega (arith, l, long)) told);
      given = keeps.given;
      are_given = keeps.are_given;
      kept = keeps.kept;
      names_are = (tells.names refl).names_are ∙ ap tables_of (sym (take_all (length counted) (events_of parts rules) (let same = length-map counted (λ (e : ℕ × Named). e.1) in omega (arith, same))));
    }

-- so a monitor that was fed these parts tells it
pub whole_record : (parts : List Reading) (rules : Rules) (checker : Checker Recorder) (numbering : Numbering) (recorder : Recorder) (verdict : Verdict) (events blocks pending : ℕ)
    → numbering ≡ checker.numbering → recorder ≡ checker.engine → All IsReading parts → rules.limits.lines ≤ 4000000000 → TellsFed (words_of StandsForLeads HasRecorded) rules parts checker verdict
    → verdict ≡ Pending events blocks pending → IsWholeRecord parts rules numbering recorder
whole_record parts rules checker numbering recorder verdict events blocks pending same_names same_engine all most tells is =
    let here = subst (TellsFed (words_of StandsForLeads HasRecorded) rules parts checker) is tells in
    subst (λ m. IsWholeRecord parts rules m recorder) (sym same_names)
    (subst (λ e. IsWholeRecord parts rules checker.numbering e) (sym same_engine) (whole_of parts rules checker events blocks pending all most here))

-- blocks go with open ones alone
pub no_blocks : (verdict : Verdict) → ((events blocks pending : ℕ) → verdict ≡ Pending events blocks pending → ⊥) → has_blocks true verdict ≡ false
no_blocks (Serializable events blocks) is = refl
no_blocks (Pending events blocks pending) is = absurd (is events blocks pending refl)
no_blocks (Violation line thread begun) is = refl
no_blocks (Malformed line fault) is = refl
no_blocks (IllFormed line fault) is = refl

-- where neither a cycle nor blocks go with the verdict, nothing does
pub none_shown : (verdict : Verdict) → has_cycle true verdict ≡ false → has_blocks true verdict ≡ false → is_shown true verdict ≡ false
none_shown (Serializable events blocks) cycle none = refl
none_shown (Pending events blocks pending) cycle none = none
none_shown (Violation line thread begun) cycle none = cycle
none_shown (Malformed line fault) cycle none = refl
none_shown (IllFormed line fault) cycle none = refl

-- no order goes with a verdict where none is asked for
pub no_order : (verdict : Verdict) → has_order false verdict ≡ false
no_order (Serializable events blocks) = refl
no_order (Pending events blocks pending) = refl
no_order (Violation line thread begun) = refl
no_order (Malformed line fault) = refl
no_order (IllFormed line fault) = refl

-- a fault of the verdict that is found is the verdict's own
pub owned_finding : (found : Result Finding AllocError) (verdict : Verdict) → HasOwnFault verdict → IfOk found (λ f. verdict_of f ≡ Some verdict) → IfOk found HasOwnVerdict
owned_finding (Ok f) verdict own same = subst (λ o. IfSome o HasOwnFault) (sym same) own
owned_finding (Err refused) verdict own same = tt
