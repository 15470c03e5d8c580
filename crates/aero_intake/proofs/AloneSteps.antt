-- A source that one thread reads and judges, step by step.
use Rattle.std.proofs.Common.{◌≡◌, ℕ, ◌≤◌, ◌⊎◌, true, false, List, [], ◌∷◌, ◌++◌, map, length, Option, Some, None, refl, sym, ◌∙◌, ap, subst, append_assoc, inl, inr}
use Rattle.std.specs.Prelude.{option_to_list}
use Rattle.std.specs.List.{concat}
use Rattle.std.proofs.lemmas.Grind.{merely}
use Rattle.std.proofs.lemmas.List.{append-nil, map-append}
use Rattle.aero_model.specs.declared.verdict.Ending.{Ending}
use Rattle.aero_model.specs.declared.verdict.Ending.TheVariants.{Whole, Broken, TooLarge, Stopped}
use Rattle.aero_model.specs.declared.verdict.Finding.{Finding}
use Rattle.aero_model.specs.declared.verdict.Finding.TheVariants as findings
use Rattle.aero_model.specs.Terms.{Terms, to_the_end}
use Rattle.aero_grammar.specs.Reading.{reading_of}
use Rattle.aero_lines.specs.Cutting.{nothing_yet, block_of, last_block, blocks_from}
use Rattle.aero_judge.specs.Finding.{IsTraceFinding}
use Rattle.aero_judge.specs.Judging.{Judging, nothing_judged}
use Rattle.aero_intake.specs.Alone.{IsFoundIn, StandsAlone, IsJudgedOut}
use Rattle.aero_intake.specs.Held.{IsFinal}
use Rattle.aero_intake.specs.Surveys.{IsSaidOf}
use Rattle.aero_intake.specs.declared.begun.Begun.{Begun}
use Rattle.aero_intake.specs.Intake.{Taking, nothing_taken, with_piece, with_cut, with_passing, fed_all, HaveCome, HasCome, Comes, Ends}
use Rattle.aero_intake.specs.Source.{Closes, Sight, WasRead}
use Rattle.aero_intake.specs.Stories.{AreEnough, BeginAlike}
use Rattle.aero_intake.proofs.AsFar.{found_as_far}
use Rattle.aero_intake.proofs.Begins.{begun_of_text}
use Rattle.aero_intake.proofs.Taken.{nothing_is_taken, piece_is_held, held_is_cut, held_is_passed, cut_bytes, concat-more, chunks_with_last, nothing_has_come}
use Rattle.aero_intake.proofs.Taken.{more_has_come, not_stopped, source_was_read, source_was_stopped}
use Rattle.aero_intake.proofs.Tracked.{enough_asked, alike_dropped, alike_with_more, begin_alike, text_found}

-- nothing was read
pub begun_alone : (terms : Terms) (at : Sight) (i : Taking) (j : Judging) → i ≡ nothing_taken → j ≡ nothing_judged (to_the_end terms) →
    StandsAlone terms at at None i j
begun_alone terms at i j none fresh =
    subst (λ (x : Taking). StandsAlone terms at at None x j) (sym none)
    (subst (λ (x : Judging). StandsAlone terms at at None nothing_taken x) (sym fresh) (record {
      pieces = [];
      cut = [];
      fed = [];
      parts = refl;
      taken = nothing_is_taken;
      enough = inl refl;
      passed = λ is. cc (is);
      stopped = λ is. cc (is);
      come = nothing_has_come at;
    }))

-- a piece came, and is held
pub piece_stands : (terms : Terms) (before mid after : Sight) (i : Taking) (j : Judging) (most : ℕ) (piece : List ℕ) →
    Comes mid after most terms.rules.limits.bytes i.count piece → StandsAlone terms before mid None i j →
    StandsAlone terms before after None (with_piece i piece) j
piece_stands terms before mid after i j most piece comes is = record {
  pieces = is.pieces;
  cut = is.cut;
  fed = is.fed;
  parts = is.parts;
  taken = piece_is_held i is.pieces is.cut piece is.taken;
  enough = is.enough;
  passed = is.passed;
  stopped = λ e. cc (e);
  come = subst (λ bs. HaveCome before after bs) (append_assoc (concat is.pieces) i.held piece)
      (more_has_come before mid after (concat is.pieces ++ i.held) piece is.come comes.come);
}

-- what is held was cut, and its chunk was judged
pub cut_stands : (terms : Terms) (before now : Sight) (ended : Option Ending) (i : Taking) (j k : Judging) → i.passed ≡ false →
    k.parts ≡ j.parts ++ map reading_of (option_to_list (block_of i.cutting i.held)) → StandsAlone terms before now ended i j →
    StandsAlone terms before now ended (with_cut i) k
cut_stands terms before now ended i j k none more is =
    let chunk = option_to_list (block_of i.cutting i.held) in record {
      pieces = is.pieces ++ i.held ∷ [];
      cut = is.cut ++ chunk;
      fed = is.fed ++ chunk;
      parts = more ∙ (ap (λ rs. rs ++ map reading_of chunk) is.parts ∙ sym (map-append reading_of is.fed chunk));
      taken = held_is_cut i is.pieces is.cut none is.taken;
      enough = enough_asked terms is.fed is.cut chunk is.enough;
      passed = λ passed. cc (passed, none);
      stopped = is.stopped;
      come = subst (λ bs. HasCome before now terms.rules.limits.bytes bs ended) (sym (cut_bytes is.pieces i.held)) is.come;
    }

-- where no further chunk counts, those that the judge was fed decide
enough_begun : (terms : Terms) (before now : Sight) (ended : Option Ending) (i : Taking) (j : Judging) → (i.passed ≡ true) ⊎ IsFinal terms j.parts →
    (is : StandsAlone terms before now ended i j) → BeginAlike terms is.fed is.cut
enough_begun terms before now ended i j (inl passed) is = is.passed passed
enough_begun terms before now ended i j (inr decided) is = begin_alike terms is.fed is.cut (subst (λ rs. IsFinal terms rs) is.parts decided) is.enough

-- what is held was passed over
pub pass_stands : (terms : Terms) (before now : Sight) (ended : Option Ending) (i : Taking) (j : Judging) → (i.passed ≡ true) ⊎ IsFinal terms j.parts →
    StandsAlone terms before now ended i j → StandsAlone terms before now ended (with_passing i) j
pass_stands terms before now ended i j enough is =
    let chunk = option_to_list (block_of (fed_all nothing_yet is.pieces) i.held) in
    let alike = alike_dropped terms is.fed is.cut chunk (enough_begun terms before now ended i j enough is) in record {
      pieces = is.pieces ++ i.held ∷ [];
      cut = is.cut ++ chunk;
      fed = is.fed;
      parts = is.parts;
      taken = held_is_passed i is.pieces is.cut is.taken;
      enough = inr alike;
      passed = λ passed. alike;
      stopped = λ e. ((is.stopped e).0, refl);
      come = subst (λ bs. HasCome before now terms.rules.limits.bytes bs ended) (sym (cut_bytes is.pieces i.held)) is.come;
    }

-- the source is read no further, its reader is closed, and what is held was passed over
pub stop_stands : (terms : Terms) (before mid now : Sight) (i : Taking) (j : Judging) → Closes mid now → (i.passed ≡ true) ⊎ IsFinal terms j.parts →
    terms.stop ≡ true → i.count ≤ terms.rules.limits.bytes → StandsAlone terms before mid None i j →
    StandsAlone terms before now (Some Stopped) (with_passing i) j
stop_stands terms before mid now i j closes enough stop within is =
    let p = pass_stands terms before mid None i j enough is in record {
      pieces = p.pieces;
      cut = p.cut;
      fed = p.fed;
      parts = p.parts;
      taken = p.taken;
      enough = p.enough;
      passed = p.passed;
      stopped = λ e. (stop, refl);
      come = source_was_stopped before mid now terms.rules.limits.bytes i.count (concat p.pieces ++ []) p.come closes p.taken.count within;
    }

-- the reading has ended by itself
pub end_stands : (terms : Terms) (before mid after : Sight) (i : Taking) (j : Judging) (ending : Ending) →
    Ends mid after terms.rules.limits.bytes i.count ending → StandsAlone terms before mid None i j → StandsAlone terms before after (Some ending) i j
end_stands terms before mid after i j ending ends is = record {
  pieces = is.pieces;
  cut = is.cut;
  fed = is.fed;
  parts = is.parts;
  taken = is.taken;
  enough = is.enough;
  passed = is.passed;
  stopped = λ e. absurd (not_stopped mid after terms.rules.limits.bytes i.count ending ends e);
  come = source_was_read before mid after terms.rules.limits.bytes i.count (concat is.pieces ++ i.held) ending is.come is.taken.count ends;
}

-- all bytes were cut where nothing is held
all_cut : (pieces : List (List ℕ)) (held : List ℕ) → held ≡ [] → concat pieces ++ held ≡ concat pieces
all_cut pieces held none = ap (λ bs. concat pieces ++ bs) none ∙ append-nil (concat pieces)

-- the last line of a whole source was judged
pub last_judged : (terms : Terms) (before now : Sight) (i : Taking) (j k : Judging) → i.held ≡ [] → i.passed ≡ false →
    k.parts ≡ j.parts ++ map reading_of (option_to_list (last_block i.cutting)) → StandsAlone terms before now (Some Whole) i j →
    IsJudgedOut terms before now i.count k
last_judged terms before now i j k none_held none_passed more is =
    let last = option_to_list (last_block i.cutting) in
    let all : is.cut ++ last ≡ blocks_from nothing_yet is.pieces =
    ap (λ c. is.cut ++ option_to_list (last_block c)) (is.taken.cutting none_passed) ∙ chunks_with_last i is.pieces is.cut is.taken in
    let bytes = all_cut is.pieces i.held none_held in record {
      pieces = is.pieces;
      fed = is.fed ++ last;
      parts = more ∙ (ap (λ rs. rs ++ map reading_of last) is.parts ∙ sym (map-append reading_of is.fed last));
      enough = subst (λ bs. AreEnough terms (is.fed ++ last) bs) all (enough_asked terms is.fed is.cut last is.enough);
      read = subst (λ bs. WasRead before now terms.rules.limits.bytes bs Whole) bytes is.come;
      bytes = is.taken.count ∙ ap length bytes;
    }

-- the last line of a whole source doesn't count
pub last_passed : (terms : Terms) (before now : Sight) (i : Taking) (j : Judging) → i.held ≡ [] → (i.passed ≡ true) ⊎ IsFinal terms j.parts →
    StandsAlone terms before now (Some Whole) i j → IsJudgedOut terms before now i.count j
last_passed terms before now i j none_held enough is =
    let last = option_to_list (last_block (fed_all nothing_yet is.pieces)) in
    let alike = alike_dropped terms is.fed is.cut last (enough_begun terms before now (Some Whole) i j enough is) in
    let bytes = all_cut is.pieces i.held none_held in record {
      pieces = is.pieces;
      fed = is.fed;
      parts = is.parts;
      enough = inr (subst (λ bs. BeginAlike terms is.fed bs) (chunks_with_last i is.pieces is.cut is.taken) alike);
      read = subst (λ bs. WasRead before now terms.rules.limits.bytes bs Whole) bytes is.come;
      bytes = is.taken.count ∙ ap length bytes;
    }

-- what the judge finds is found on the terms, which say how far the source is read
found_on : (terms : Terms) (j : Judging) (fed : List (List ℕ)) (f : Finding) → j.terms ≡ to_the_end terms → j.parts ≡ map reading_of fed →
    IsTraceFinding j.parts j.terms f → IsTraceFinding (map reading_of fed) terms f
found_on terms j fed f on parts found =
    found_as_far (map reading_of fed) terms f
    (subst (λ (t : Terms). IsTraceFinding (map reading_of fed) t f) on (subst (λ rs. IsTraceFinding rs j.terms f) parts found))

pub found_whole : (terms : Terms) (before now : Sight) (count : ℕ) (j : Judging) (f : Finding) (begun : Option Begun) → j.terms ≡ to_the_end terms →
    IsJudgedOut terms before now count j → IsSaidOf terms j.parts Whole begun → IsTraceFinding j.parts j.terms f →
    IsFoundIn terms before now (record { bytes = count; ending = Whole; finding = f; begun = begun })
found_whole terms before now count j f begun on out said found = record {
  bytes = concat out.pieces;
  read = out.read;
  count = out.bytes;
  finding = merely (text_found terms out.fed out.pieces f out.enough (found_on terms j out.fed f on out.parts found));
  begun = begun_of_text terms out.fed out.pieces begun out.enough (subst (λ rs. IsSaidOf terms rs Whole begun) out.parts said);
}

pub found_stopped : (terms : Terms) (before now : Sight) (i : Taking) (j : Judging) (f : Finding) → j.terms ≡ to_the_end terms →
    StandsAlone terms before now (Some Stopped) i j → IsTraceFinding j.parts j.terms f →
    IsFoundIn terms before now (record { bytes = i.count; ending = Stopped; finding = f; begun = None })
found_stopped terms before now i j f on is found =
    let stopped = is.stopped refl in
    let alike = is.passed stopped.1 in
    let on_fed = found_on terms j is.fed f on is.parts found in record {
      bytes = concat is.pieces ++ i.held;
      read = is.come;
      count = is.taken.count;
      finding = merely (
        stopped.0,
        λ more.
            let same : concat (is.pieces ++ (i.held ++ more) ∷ []) ≡ (concat is.pieces ++ i.held) ++ more =
            concat-more is.pieces (i.held ++ more) ∙ sym (append_assoc (concat is.pieces) i.held more) in
            subst (λ bs. IsTraceFinding (reading_of bs ∷ []) terms f) same
            (text_found terms is.fed (is.pieces ++ (i.held ++ more) ∷ []) f
            (inr (alike_with_more terms is.fed is.cut is.pieces i (i.held ++ more) is.taken alike)) on_fed),
      );
      begun = inr (inl refl);
    }

pub found_broken : (terms : Terms) (before now : Sight) (i : Taking) (j : Judging) → StandsAlone terms before now (Some Broken) i j →
    IsFoundIn terms before now (record { bytes = i.count; ending = Broken; finding = findings.Broken i.count; begun = None })
found_broken terms before now i j is = record {
  bytes = concat is.pieces ++ i.held;
  read = is.come;
  count = is.taken.count;
  finding = merely (ap findings.Broken is.taken.count);
  begun = inr (inl refl);
}

pub found_too_large : (terms : Terms) (before now : Sight) (i : Taking) (j : Judging) → StandsAlone terms before now (Some TooLarge) i j →
    IsFoundIn terms before now (record { bytes = i.count; ending = TooLarge; finding = findings.TooLarge; begun = None })
found_too_large terms before now i j is = record {
  bytes = concat is.pieces ++ i.held;
  read = is.come;
  count = is.taken.count;
  finding = merely refl;
  begun = inr (inl refl);
}
