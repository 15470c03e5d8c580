-- A step of reading keeps what holds of the sources.
use Rattle.std.proofs.Common.{◌≡◌, ℕ, ◌+◌, ◌<◌, ◌≤◌, Bool, true, false, List, [], ◌∷◌, ◌++◌, map, length, slice_get, Option, Some, None, refl, sym, ◌∙◌, ap, subst}
use Rattle.std.proofs.Common.{append_assoc, inl, inr, arith}
use Rattle.std.specs.Prelude.{option_to_list}
use Rattle.std.specs.List.{concat}
use Rattle.std.proofs.lemmas.Bool.{cases_eq}
use Rattle.std.proofs.lemmas.Grind.{merely}
use Rattle.std.proofs.lemmas.List.{append-nil, length-append}
use Rattle.aero_model.specs.declared.verdict.Ending.{Ending}
use Rattle.aero_model.specs.declared.verdict.Ending.TheVariants.{Whole, Broken, TooLarge, Stopped}
use Rattle.aero_model.specs.declared.verdict.Finding.TheVariants as findings
use Rattle.aero_grammar.specs.Reading.{reading_of}
use Rattle.aero_lines.specs.Cutting.{nothing_yet, block_of}
use Rattle.aero_pieces.specs.declared.question.Question.{Question}
use Rattle.aero_batch.specs.declared.underway.Underway.{Underway}
use Rattle.aero_intake.specs.declared.track.Track.{Track}
use Rattle.aero_intake.specs.declared.track.Track.TheVariants.{Arriving, Arrived, Checking, Found}
use Rattle.aero_telling.specs.Founds.{Sighted}
use Rattle.aero_batch.specs.Holding.{Holds, HasEnded, HasComeFrom, nothing_known}
use Rattle.aero_batch.specs.Inquiries.{Inquired, AreApart, all_open}
use Rattle.aero_intake.specs.Held.{Known, IsFinal}
use Rattle.aero_intake.specs.Intake.{Taking, IsTaken, HaveCome, HasCome, with_passing, fed_all}
use Rattle.aero_intake.specs.Source.{Closes, Sight, WasRead}
use Rattle.aero_batch.specs.Steps.{TakesPiece, NotesEnding, CutsHeld, PassesOver, PassesOn, StopsReading, IsReadFrom, DecidesThere, HasDecided, HasEnough, IsWanted}
use Rattle.aero_batch.specs.Steps.{with_chunk, last_of, ended_track}
use Rattle.aero_intake.specs.Stories.{Story, AreEnough, BeginAlike, IsTracked, AreTracked, changed}
use Rattle.aero_batch.proofs.Apart.{chunk_apart}
use Rattle.aero_batch.proofs.Retold.{retold, retold_there, retold_same, retold_elsewhere, with_pieces, chunk_tracked, still_arriving}
use Rattle.aero_intake.proofs.Taken.{nothing_is_taken, piece_is_held, held_is_cut, held_is_passed, cut_bytes, chunks_with_last, nothing_has_come}
use Rattle.aero_intake.proofs.Taken.{more_has_come, not_stopped, source_was_read, source_was_stopped}
use Rattle.aero_intake.proofs.Tracked.{changed_there, changed_elsewhere, before_change, enough_asked, alike_dropped, alike_with_more, begin_alike, settled_decide}
use Rattle.aero_model.specs.Terms.{Terms}

the_some : {A : Type 0} (x y : A) → Some x ≡ Some y → x ≡ y
the_some x y p = cc p

not_both : (b : Bool) → b ≡ true → b ≡ false → ⊥
not_both b is_true is_false = cc (is_true, is_false)

pub not_none : {A : Type 0} (o : Option A) (x : A) → o ≡ None → o ≡ Some x → ⊥
not_none o x none some = cc (none, some)

-- what became of the other sources stays
ended_stays : (terms : Terms) (old now after : List Sighted) (place s : ℕ) (story : Story) →
    ((s : ℕ) → (place ≡ s → ⊥) → slice_get after s ≡ slice_get now s) → (place ≡ s → ⊥) →
    HasEnded terms old now s story → HasEnded terms old after s story
ended_stays terms old now after place s story others other has = record {
  before = has.before;
  after = has.after;
  ending = has.ending;
  was = has.was;
  is = others s other ∙ has.is;
  ended = has.ended;
  read = has.read;
}

-- What is settled of the source that is being read decides, and so do all its chunks that were asked about.
story_decides : (terms : Terms) (p : Underway) (tale : ℕ → Story) → AreTracked terms (all_open p.inquiry) tale p.tracks.items → HasDecided p →
    IsFinal terms (map reading_of (tale p.read).chunks)
story_decides terms p tale tracked is = go (slice_get p.tracks.items p.read) refl is
  where
    go : (o : Option Track) → slice_get p.tracks.items p.read ≡ o → DecidesThere o → IsFinal terms (map reading_of (tale p.read).chunks)
    go None at is = absurd is
    go (Some (Arriving known)) at is = settled_decide terms (all_open p.inquiry) p.read (tale p.read) known (tracked p.read (Arriving known) at).0 is
    go (Some (Arrived bytes ending chunks known)) at is = absurd is
    go (Some (Checking bytes ending begun)) at is = absurd is
    go (Some (Found g)) at is = absurd is

-- where no further chunk counts, those that were asked about decide
enough_begun : (terms : Terms) (old now : List Sighted) (p : Underway) (tale : ℕ → Story) → HasEnough p → (holds : Holds terms old now p tale) →
    BeginAlike terms (tale p.read).chunks holds.cut
enough_begun terms old now p tale (inl passed) holds = holds.passed passed
enough_begun terms old now p tale (inr decided) holds =
    begin_alike terms (tale p.read).chunks holds.cut (story_decides terms p tale holds.tracked decided) holds.enough

-- the last chunk of a whole source is asked about, or doesn't count
enough_wanted : (terms : Terms) (old now : List Sighted) (p : Underway) (tale : ℕ → Story) (ending : Ending) (asked : Option (List ℕ)) →
    (holds : Holds terms old now p tale) →
    IsWanted p (last_of p.intake.cutting ending) asked →
    AreEnough terms ((tale p.read).chunks ++ option_to_list asked) (holds.cut ++ option_to_list (last_of (fed_all nothing_yet (tale p.read).pieces) ending))
enough_wanted terms old now p tale ending asked holds (inl wanted) =
    let chunks = (tale p.read).chunks in
    let last = last_of (fed_all nothing_yet (tale p.read).pieces) ending in
    let is : asked ≡ last = wanted.0 ∙ ap (λ c. last_of c ending) (holds.taken.cutting wanted.1.none_passed) in
    subst (λ o. AreEnough terms (chunks ++ option_to_list o) (holds.cut ++ option_to_list last)) (sym is)
    (enough_asked terms chunks holds.cut (option_to_list last) holds.enough)
enough_wanted terms old now p tale ending asked holds (inr enough) =
    let chunks = (tale p.read).chunks in
    let last = last_of (fed_all nothing_yet (tale p.read).pieces) ending in
    subst (λ o. AreEnough terms (chunks ++ option_to_list o) (holds.cut ++ option_to_list last)) (sym enough.0)
    (subst (λ bs. AreEnough terms bs (holds.cut ++ option_to_list last)) (sym (append-nil chunks))
    (inr (alike_dropped terms chunks holds.cut (option_to_list last) (enough_begun terms old now p tale enough.1 holds))))

chunk_count : (p : Underway) (o : Option (List ℕ)) (chunks : List (List ℕ)) → p.chunks ≡ length chunks →
    (with_chunk p o).chunks ≡ length (chunks ++ option_to_list o)
chunk_count p None chunks is = is ∙ ap length (sym (append-nil chunks))
chunk_count p (Some b) chunks is = omega (arith, is, length-append chunks (b ∷ []))

-- what has come of the source whose reader was used
come_on : (terms : Terms) (old now after : List Sighted) (place : ℕ) (before_read after_read : Sight) (bytes more : List ℕ) (was is : Option Ending) →
    IsReadFrom now after place before_read after_read →
    ((first : Sight) → HasCome first before_read terms.rules.limits.bytes bytes was → HasCome first after_read terms.rules.limits.bytes more is) →
    HasComeFrom terms old now place bytes was → HasComeFrom terms old after place more is
come_on terms old now after place before_read after_read bytes more was is from goes come before last was_there is_there =
    let same : record { name = from.was.name; reader = after_read } ≡ last =
    the_some (record { name = from.was.name; reader = after_read }) last (sym from.is_there ∙ is_there) in
    let mid = subst (λ (x : Sight). HasCome before.reader x terms.rules.limits.bytes bytes was) from.used (come before from.was was_there from.was_there) in
    subst (λ (x : Sighted). HasCome before.reader x.reader terms.rules.limits.bytes more is) same (goes before.reader mid)

-- a piece comes, and is held
pub taking_holds : (terms : Terms) (old now after : List Sighted) (p q : Underway) (tale : ℕ → Story) (before_read after_read : Sight) →
    IsReadFrom now after p.read before_read after_read → p.ended ≡ None → TakesPiece terms before_read after_read p q → Holds terms old now p tale →
    Holds terms old after q tale
taking_holds terms old now after p q tale before_read after_read from reading takes holds =
    let pieces = (tale p.read).pieces in
    let bytes = concat pieces ++ p.intake.held in
    let limit = terms.rules.limits.bytes in
    subst (λ (m : Underway). Holds terms old after m tale) (sym takes.new_is)
    (record {
      apart = holds.apart;
      tracked = holds.tracked;
      ended = λ s below. ended_stays terms old now after p.read s (tale s) from.others (λ e. omega (arith, below, e)) (holds.ended s below);
      cut = holds.cut;
      taken = piece_is_held p.intake pieces holds.cut takes.piece holds.taken;
      enough = holds.enough;
      passed = holds.passed;
      stopped = λ e. absurd (not_none p.ended Stopped reading e);
      come = come_on terms old now after p.read before_read after_read bytes (concat pieces ++ (p.intake.held ++ takes.piece)) p.ended p.ended from
          (λ first come. subst (λ e. HasCome first after_read limit (concat pieces ++ (p.intake.held ++ takes.piece)) e) (sym reading)
          (subst (λ bs. HaveCome first after_read bs) (append_assoc (concat pieces) p.intake.held takes.piece)
          (more_has_come first before_read after_read bytes takes.piece (subst (λ e. HasCome first before_read limit bytes e) reading come) takes.comes.come)))
          holds.come;
      asked = holds.asked;
      not_ended = holds.not_ended;
      later = λ s above. ((holds.later s above).0, from.others s (λ e. omega (arith, above, e)) ∙ (holds.later s above).1);
    })

-- the reading ends
pub noting_holds : (terms : Terms) (old now after : List Sighted) (p q : Underway) (tale : ℕ → Story) (before_read after_read : Sight) →
    IsReadFrom now after p.read before_read after_read → p.ended ≡ None → NotesEnding terms before_read after_read p q → Holds terms old now p tale →
    Holds terms old after q tale
noting_holds terms old now after p q tale before_read after_read from reading notes holds =
    let bytes = concat (tale p.read).pieces ++ p.intake.held in
    let limit = terms.rules.limits.bytes in
    subst (λ (m : Underway). Holds terms old after m tale) (sym notes.new_is)
    (record {
      apart = holds.apart;
      tracked = holds.tracked;
      ended = λ s below. ended_stays terms old now after p.read s (tale s) from.others (λ e. omega (arith, below, e)) (holds.ended s below);
      cut = holds.cut;
      taken = holds.taken;
      enough = holds.enough;
      passed = holds.passed;
      stopped = λ e. absurd (not_stopped before_read after_read limit p.intake.count notes.ending notes.ends e);
      come = come_on terms old now after p.read before_read after_read bytes bytes p.ended (Some notes.ending) from
          (λ first come. source_was_read first before_read after_read limit p.intake.count bytes notes.ending
          (subst (λ e. HasCome first before_read limit bytes e) reading come) holds.taken.count notes.ends)
          holds.come;
      asked = holds.asked;
      not_ended = holds.not_ended;
      later = λ s above. ((holds.later s above).0, from.others s (λ e. omega (arith, above, e)) ∙ (holds.later s above).1);
    })

-- what is held is cut
pub cutting_holds : (terms : Terms) (old now after : List Sighted) (p q : Underway) (tale : ℕ → Story) (before_read after_read : Sight) →
    IsReadFrom now after p.read before_read after_read → after_read ≡ before_read → CutsHeld p q → Holds terms old now p tale →
    (new : ℕ → Story) × Holds terms old after q new × ((s : ℕ) → s < p.read → new s ≡ tale s)
cutting_holds terms old now after p q tale before_read after_read from unread cuts holds =
    let given = block_of p.intake.cutting p.intake.held in
    let o = given in
    let cut = holds.cut ++ option_to_list given in
    let pieces = (tale p.read).pieces ++ p.intake.held ∷ [] in
    let bytes = concat (tale p.read).pieces ++ p.intake.held in
    let limit = terms.rules.limits.bytes in
    let story = with_pieces (tale p.read) pieces o in
    let new : ℕ → Story = retold tale p.read story in
    let there : new p.read ≡ story = retold_there tale p.read story in
    let there' : new q.read ≡ story = ap new cuts.read ∙ there in
    let elsewhere : (s : ℕ) → (p.read ≡ s → ⊥) → new s ≡ tale s = λ s other. retold_elsewhere tale p.read s story other in
    let tracked = chunk_tracked terms p tale pieces o holds.not_ended holds.tracked in
    let come : HasComeFrom terms old after p.read (concat pieces ++ []) p.ended =
    come_on terms old now after p.read before_read after_read bytes (concat pieces ++ []) p.ended p.ended from
    (λ first come. subst (λ bs. HasCome first after_read limit bs p.ended) (sym (cut_bytes (tale p.read).pieces p.intake.held))
    (subst (λ (x : Sight). HasCome first x limit bytes p.ended) (sym unread) come))
    holds.come in (
      new,
      record {
        apart = subst AreApart (sym cuts.inquiry) (chunk_apart p o holds.apart);
        tracked = subst (λ (i : Inquired). AreTracked terms (all_open i) new q.tracks.items) (sym cuts.inquiry)
            (subst (λ ts. AreTracked terms (all_open (with_chunk p o).inquiry) new ts) (sym cuts.tracks) tracked);
        ended = λ s below.
            let less : s < p.read = subst (λ r. s < r) cuts.read below in
            let other : p.read ≡ s → ⊥ = λ e. omega (arith, less, e) in
            subst (λ (x : Story). HasEnded terms old after s x) (sym (elsewhere s other))
            (ended_stays terms old now after p.read s (tale s) from.others other (holds.ended s less));
        cut = cut;
        taken = subst (λ (x : Story). IsTaken q.intake x.pieces cut) (sym there')
            (subst (λ (i : Taking). IsTaken i pieces cut) (sym cuts.intake)
            (held_is_cut p.intake (tale p.read).pieces holds.cut cuts.going_on.none_passed holds.taken));
        enough = subst (λ (x : Story). AreEnough terms x.chunks cut) (sym there')
            (enough_asked terms (tale p.read).chunks holds.cut (option_to_list given) holds.enough);
        passed = λ is_passed. absurd (not_both p.intake.passed (ap (λ (i : Taking). i.passed) (sym cuts.intake) ∙ is_passed) cuts.going_on.none_passed);
        stopped = λ e. absurd (not_both p.intake.passed (holds.stopped (sym cuts.ended ∙ e)).1 cuts.going_on.none_passed);
        come = subst (λ (x : Story). HasComeFrom terms old after q.read (concat x.pieces ++ q.intake.held) q.ended) (sym there')
            (subst (λ (i : Taking). HasComeFrom terms old after q.read (concat pieces ++ i.held) q.ended) (sym cuts.intake)
            (subst (λ e. HasComeFrom terms old after q.read (concat pieces ++ []) e) (sym cuts.ended)
            (subst (λ r. HasComeFrom terms old after r (concat pieces ++ []) p.ended) (sym cuts.read) come)));
        asked = cuts.chunks ∙ (chunk_count p o (tale p.read).chunks holds.asked ∙ ap (λ (x : Story). length x.chunks) (sym there'));
        not_ended = ap (λ (x : Story). x.ending) there';
        later = λ s above.
            let less : p.read < s = subst (λ r. r < s) cuts.read above in
            let other : p.read ≡ s → ⊥ = λ e. omega (arith, less, e) in
            (elsewhere s other ∙ (holds.later s less).0, from.others s other ∙ (holds.later s less).1);
      },
      λ s less. elsewhere s (λ e. omega (arith, less, e)),
    )

-- what is held is passed over
pub passing_over_holds : (terms : Terms) (old now after : List Sighted) (p q : Underway) (tale : ℕ → Story) (before_read after_read : Sight) →
    IsReadFrom now after p.read before_read after_read → after_read ≡ before_read → PassesOver p q → Holds terms old now p tale →
    (new : ℕ → Story) × Holds terms old after q new × ((s : ℕ) → s < p.read → new s ≡ tale s)
passing_over_holds terms old now after p q tale before_read after_read from unread passes holds =
    let given = block_of (fed_all nothing_yet (tale p.read).pieces) p.intake.held in
    let cut = holds.cut ++ option_to_list given in
    let pieces = (tale p.read).pieces ++ p.intake.held ∷ [] in
    let bytes = concat (tale p.read).pieces ++ p.intake.held in
    let limit = terms.rules.limits.bytes in
    let story = with_pieces (tale p.read) pieces None in
    let new : ℕ → Story = retold tale p.read story in
    let there : new p.read ≡ story = retold_there tale p.read story in
    let elsewhere : (s : ℕ) → (p.read ≡ s → ⊥) → new s ≡ tale s = λ s other. retold_elsewhere tale p.read s story other in
    let same : story.chunks ≡ (tale p.read).chunks = append-nil (tale p.read).chunks in
    let alike : BeginAlike terms story.chunks cut =
    subst (λ bs. BeginAlike terms bs cut) (sym same)
    (alike_dropped terms (tale p.read).chunks holds.cut (option_to_list given) (enough_begun terms old now p tale passes.enough holds)) in
    let come : HasComeFrom terms old after p.read (concat pieces ++ []) p.ended =
    come_on terms old now after p.read before_read after_read bytes (concat pieces ++ []) p.ended p.ended from
    (λ first come. subst (λ bs. HasCome first after_read limit bs p.ended) (sym (cut_bytes (tale p.read).pieces p.intake.held))
    (subst (λ (x : Sight). HasCome first x limit bytes p.ended) (sym unread) come))
    holds.come in (
      new,
      subst (λ (m : Underway). Holds terms old after m new) (sym passes.new_is)
          (record {
            apart = holds.apart;
            tracked = chunk_tracked terms p tale pieces None holds.not_ended holds.tracked;
            ended = λ s below.
                let other : p.read ≡ s → ⊥ = λ e. omega (arith, below, e) in
                subst (λ (x : Story). HasEnded terms old after s x) (sym (elsewhere s other))
                (ended_stays terms old now after p.read s (tale s) from.others other (holds.ended s below));
            cut = cut;
            taken = subst (λ (x : Story). IsTaken (with_passing p.intake) x.pieces cut) (sym there)
                (held_is_passed p.intake (tale p.read).pieces holds.cut holds.taken);
            enough = subst (λ (x : Story). AreEnough terms x.chunks cut) (sym there) (inr alike);
            passed = λ is_passed. subst (λ (x : Story). BeginAlike terms x.chunks cut) (sym there) alike;
            stopped = λ e. ((holds.stopped e).0, refl);
            come = subst (λ (x : Story). HasComeFrom terms old after p.read (concat x.pieces ++ []) p.ended) (sym there) come;
            asked = holds.asked ∙ ap length (sym same) ∙ ap (λ (x : Story). length x.chunks) (sym there);
            not_ended = ap (λ (x : Story). x.ending) there;
            later = λ s above.
                let other : p.read ≡ s → ⊥ = λ e. omega (arith, above, e) in
                (elsewhere s other ∙ (holds.later s above).0, from.others s other ∙ (holds.later s above).1);
          }),
      λ s less. elsewhere s (λ e. omega (arith, less, e)),
    )

-- a source that was arriving has ended
ended_track_fits : (terms : Terms) (qs : List Question) (s count chunks : ℕ) (ending : Ending) (i : Taking) (pieces cut all : List (List ℕ)) (known : Known) →
    IsTaken i pieces cut → count ≡ length (concat pieces) → AreEnough terms all (cut ++ option_to_list (last_of (fed_all nothing_yet pieces) ending)) →
    (ending ≡ Stopped → (terms.stop ≡ true) × BeginAlike terms all cut) →
    chunks ≡ length all →
    IsTracked terms qs s (record { pieces = pieces; chunks = all; ending = None }) (Arriving known) →
    IsTracked terms qs s (record { pieces = pieces; chunks = all; ending = Some ending }) (ended_track ending count chunks (Arriving known))
ended_track_fits terms qs s count chunks Whole i pieces cut all known taken is_count enough stopped is_chunks is = (
  record { on = is.0.on; all = is.0.all },
  is.1,
  record {
    ended = refl;
    enough = subst (λ bs. AreEnough terms all bs) (chunks_with_last i pieces cut taken) enough;
    byte_count = is_count;
    chunk_count = is_chunks;
  },
)
ended_track_fits terms qs s count chunks Broken i pieces cut all known taken is_count enough stopped is_chunks is =
    (refl, is_count, merely (ap findings.Broken is_count), inr (inl refl))
ended_track_fits terms qs s count chunks TooLarge i pieces cut all known taken is_count enough stopped is_chunks is =
    (refl, is_count, merely refl, inr (inl refl))
ended_track_fits terms qs s count chunks Stopped i pieces cut all known taken is_count enough stopped is_chunks is = (
  record { on = is.0.on; all = is.0.all },
  is.1,
  record {
    ended = refl;
    enough = ((stopped refl).0, λ more. alike_with_more terms all cut pieces i more taken (stopped refl).1);
    byte_count = is_count;
    chunk_count = is_chunks;
  },
)

ended_tracked : (terms : Terms) (p : Underway) (tale : ℕ → Story) (ending : Ending) (o : Option (List ℕ)) (all cut : List (List ℕ)) →
    AreEnough terms all (cut ++ option_to_list (last_of (fed_all nothing_yet (tale p.read).pieces) ending)) →
    (ending ≡ Stopped → (terms.stop ≡ true) × BeginAlike terms all cut) →
    IsTaken p.intake (tale p.read).pieces cut → p.intake.count ≡ length (concat (tale p.read).pieces) → (with_chunk p o).chunks ≡ length all →
    AreTracked terms (all_open (with_chunk p o).inquiry)
    (retold tale p.read (record { pieces = (tale p.read).pieces; chunks = all; ending = None })) p.tracks.items →
    AreTracked terms (all_open (with_chunk p o).inquiry) (retold tale p.read (record { pieces = (tale p.read).pieces; chunks = all; ending = Some ending }))
    (changed p.read (ended_track ending p.intake.count (with_chunk p o).chunks) p.tracks.items)
ended_tracked terms p tale ending o all cut enough stopped taken is_count chunks tracked s t at =
    let qs = (all_open (with_chunk p o).inquiry) in
    let f : Track → Track = ended_track ending p.intake.count (with_chunk p o).chunks in
    let mid : Story = record { pieces = (tale p.read).pieces; chunks = all; ending = None } in
    let story : Story = record { pieces = (tale p.read).pieces; chunks = all; ending = Some ending } in
    elim (cases_eq p.read s) [
      | inl same ↦
          (let at_place = subst (λ n. slice_get (changed n f p.tracks.items) s ≡ Some t) same at in
          let was = before_change f (slice_get p.tracks.items s) t (sym (changed_there s f p.tracks.items) ∙ at_place) in
          let is = subst (λ x. IsTracked terms qs s x was.0) (retold_same tale p.read s mid same) (tracked s was.0 was.1) in
          let arriving = still_arriving terms qs s mid was.0 refl is in
          let fits = ended_track_fits terms qs s p.intake.count (with_chunk p o).chunks ending p.intake
          (tale p.read).pieces cut all arriving.0 taken is_count enough stopped chunks
          (subst (λ x. IsTracked terms qs s mid x) {y = Arriving arriving.0} arriving.1 is) in
          subst (λ x. IsTracked terms qs s x t) {x = story} {y = retold tale p.read story s} (sym (retold_same tale p.read s story same))
          (subst (λ x. IsTracked terms qs s story x) {y = t} (sym (was.2 ∙ ap f {y = Arriving arriving.0} arriving.1)) fits))
      | inr other ↦
          subst (λ x. IsTracked terms qs s x t) (retold_elsewhere tale p.read s mid other ∙ sym (retold_elsewhere tale p.read s story other))
          (tracked s t (sym (changed_elsewhere p.read s f p.tracks.items other) ∙ at))
    ]

-- the sources that have ended, the one that was being read among them
ended_before : (terms : Terms) (old now after : List Sighted) (p : Underway) (tale : ℕ → Story) (before_read after_read : Sight) (ending : Ending)
    (first : Sighted) (story : Story) (new : ℕ → Story) →
    slice_get old p.read ≡ Some first → IsReadFrom now after p.read before_read after_read →
    WasRead first.reader after_read terms.rules.limits.bytes (concat (tale p.read).pieces) ending →
    Holds terms old now p tale → story.pieces ≡ (tale p.read).pieces → story.ending ≡ Some ending → new p.read ≡ story →
    ((s : ℕ) → (p.read ≡ s → ⊥) → new s ≡ tale s) →
    (s : ℕ) → s < p.read + 1 → HasEnded terms old after s (new s)
ended_before terms old now after p tale before_read after_read ending first story new was from read holds pieces is_ended there elsewhere s below =
    elim (cases_eq p.read s) [
      | inl same ↦
          (subst (λ n. HasEnded terms old after n (new n)) same
          (subst (λ (x : Story). HasEnded terms old after p.read x) (sym there)
          (record {
            before = first;
            after = record { name = from.was.name; reader = after_read };
            ending = ending;
            was = was;
            is = from.is_there;
            ended = is_ended;
            read = subst (λ ps. WasRead first.reader after_read terms.rules.limits.bytes (concat ps) ending) (sym pieces) read;
          })))
      | inr other ↦
          (let less : s < p.read = omega (arith, below, other) in
          subst (λ (x : Story). HasEnded terms old after s x) (sym (elsewhere s other))
          (ended_stays terms old now after p.read s (tale s) from.others other (holds.ended s less)))
    ]

empty : (xs : List ℕ) → length xs ≡ 0 → xs ≡ []
empty [] none = refl
empty (x ∷ xs) none = absurd (omega (arith, none))

-- where the reading was stopped, what was asked about decides, and no last chunk is asked about
stopped_begins : (terms : Terms) (old now : List Sighted) (p : Underway) (tale : ℕ → Story) (ending : Ending) (o : Option (List ℕ)) →
    (holds : Holds terms old now p tale) → p.ended ≡ Some ending → IsWanted p (last_of p.intake.cutting ending) o → ending ≡ Stopped →
    (terms.stop ≡ true) × BeginAlike terms ((tale p.read).chunks ++ option_to_list o) holds.cut
stopped_begins terms old now p tale ending o holds ended wanted same =
    let was = holds.stopped (ended ∙ ap Some same) in
    let none : o ≡ None = elim wanted [
      | inl asked ↦ (asked.0 ∙ ap (λ e. last_of p.intake.cutting e) same)
      | inr asked ↦ asked.0
    ] in (
      was.0,
      subst (λ x. BeginAlike terms ((tale p.read).chunks ++ option_to_list x) holds.cut) (sym none)
          (subst (λ bs. BeginAlike terms bs holds.cut) (sym (append-nil (tale p.read).chunks)) (holds.passed was.1)),
    )

-- a step in which the reader wasn't used yet
unused_yet : (now after : List Sighted) (place : ℕ) (before_read after_read : Sight) → IsReadFrom now after place before_read after_read →
    IsReadFrom now now place before_read before_read
unused_yet now after place before_read after_read from = record {
  was = from.was;
  was_there = from.was_there;
  used = from.used;
  is_there = from.was_there ∙ ap (λ (r : Sight). Some (record { name = from.was.name; reader = r })) from.used;
  others = λ s other. refl;
}

-- what was passed over has come, no more of it is read, and the reader is closed
now_stopped : (terms : Terms) (old now after : List Sighted) (p : Underway) (tale : ℕ → Story) (before_read after_read : Sight) →
    IsReadFrom now after p.read before_read after_read → Closes before_read after_read → p.ended ≡ None → terms.stop ≡ true → p.intake.passed ≡ true →
    p.intake.count ≤ terms.rules.limits.bytes → Holds terms old now p tale → Holds terms old after (record p { ended = Some Stopped }) tale
now_stopped terms old now after p tale before_read after_read from closes reading asked_for passed within holds =
    let bytes = concat (tale p.read).pieces ++ p.intake.held in
    let limit = terms.rules.limits.bytes in record {
      apart = holds.apart;
      tracked = holds.tracked;
      ended = λ s below. ended_stays terms old now after p.read s (tale s) from.others (λ e. omega (arith, below, e)) (holds.ended s below);
      cut = holds.cut;
      taken = holds.taken;
      enough = holds.enough;
      passed = holds.passed;
      stopped = λ e. (asked_for, passed);
      come = come_on terms old now after p.read before_read after_read bytes bytes p.ended (Some Stopped) from
          (λ first come. source_was_stopped first before_read after_read limit p.intake.count bytes
          (subst (λ e. HasCome first before_read limit bytes e) reading come) closes holds.taken.count within)
          holds.come;
      asked = holds.asked;
      not_ended = holds.not_ended;
      later = λ s above. ((holds.later s above).0, from.others s (λ e. omega (arith, above, e)) ∙ (holds.later s above).1);
    }

-- the source is read no further
pub stopping_holds : (terms : Terms) (old now after : List Sighted) (p q : Underway) (tale : ℕ → Story) (before_read after_read : Sight) →
    IsReadFrom now after p.read before_read after_read → Closes before_read after_read → p.ended ≡ None → StopsReading terms p q → Holds terms old now p tale →
    (new : ℕ → Story) × Holds terms old after q new × ((s : ℕ) → s < p.read → new s ≡ tale s)
stopping_holds terms old now after p q tale before_read after_read from closes reading stops holds =
    let mid : Underway = record p { intake = with_passing p.intake } in
    let passed = passing_over_holds terms old now now p mid tale before_read before_read (unused_yet now after p.read before_read after_read from) refl
    (record { enough = stops.enough; new_is = refl }) holds in
    let stopped = now_stopped terms old now after mid passed.0 before_read after_read from closes reading stops.asked_for refl stops.within passed.1 in
    (passed.0, subst (λ (m : Underway). Holds terms old after m passed.0) (sym stops.new_is) stopped, passed.2)

-- the source is passed on from
pub passing_holds : (terms : Terms) (old now after : List Sighted) (p q : Underway) (tale : ℕ → Story) (before_read after_read : Sight) (first : Sighted) →
    slice_get old p.read ≡ Some first → IsReadFrom now after p.read before_read after_read → after_read ≡ before_read → PassesOn p q →
    Holds terms old now p tale → (new : ℕ → Story) × Holds terms old after q new × ((s : ℕ) → s < p.read → new s ≡ tale s)
passing_holds terms old now after p q tale before_read after_read first was from unread passes holds =
    let ending = passes.ending in
    let is = passes.ends in
    let limit = terms.rules.limits.bytes in
    let o = is.asked in
    let pieces = (tale p.read).pieces in
    let all = (tale p.read).chunks ++ option_to_list o in
    let bytes_are : concat pieces ++ p.intake.held ≡ concat pieces = ap (λ h. concat pieces ++ h) (empty p.intake.held passes.none_held)
    ∙ append-nil (concat pieces) in
    let read : WasRead first.reader after_read limit (concat pieces) ending =
    subst (λ (x : Sight). WasRead first.reader x limit (concat pieces) ending) (from.used ∙ sym unread)
    (subst (λ bs. WasRead first.reader from.was.reader limit bs ending) bytes_are
    (subst (λ e. HasCome first.reader from.was.reader limit (concat pieces ++ p.intake.held) e) passes.ended (holds.come first from.was was from.was_there))) in
    let stopped : ending ≡ Stopped → (terms.stop ≡ true) × BeginAlike terms all holds.cut = λ e.
    stopped_begins terms old now p tale ending o holds passes.ended is.wanted e in
    let mid : Story = with_pieces (tale p.read) pieces o in
    let story : Story = record { pieces = pieces; chunks = all; ending = Some ending } in
    let arriving : ℕ → Story = retold tale p.read mid in
    let new : ℕ → Story = retold tale p.read story in
    let there : new p.read ≡ story = retold_there tale p.read story in
    let elsewhere : (s : ℕ) → (p.read ≡ s → ⊥) → new s ≡ tale s = λ s other. retold_elsewhere tale p.read s story other in
    let tracked = chunk_tracked terms p tale pieces o holds.not_ended holds.tracked in
    let chunks = chunk_count p o (tale p.read).chunks holds.asked in
    let qs = (all_open (with_chunk p o).inquiry) in
    let next_other : p.read ≡ q.read → ⊥ = λ e. omega (arith, e, is.read) in
    let next_above : p.read < q.read = omega (arith, is.read) in
    let next_known : new q.read ≡ nothing_known = elsewhere q.read next_other ∙ (holds.later q.read next_above).0 in (
      new,
      record {
        apart = subst AreApart (sym is.inquiry) (chunk_apart p o holds.apart);
        tracked = subst (λ (i : Inquired). AreTracked terms (all_open i) new q.tracks.items) (sym is.inquiry)
            (subst (λ ts. AreTracked terms qs new ts) (sym is.tracks)
            (ended_tracked terms p tale ending o all holds.cut (enough_wanted terms old now p tale ending o holds is.wanted) stopped holds.taken
            (holds.taken.count ∙ ap length bytes_are) chunks tracked));
        ended = λ s below. ended_before terms old now after p tale before_read after_read ending first story new was from read holds refl refl there elsewhere
            s (omega (arith, below, is.read));
        cut = [];
        taken = subst (λ (x : Story). IsTaken q.intake x.pieces []) (sym next_known) (subst (λ (i : Taking). IsTaken i [] []) (sym is.intake) nothing_is_taken);
        enough = subst (λ (x : Story). AreEnough terms x.chunks []) (sym next_known) (inl refl);
        passed = λ is_passed. absurd (not_both q.intake.passed is_passed (ap (λ (i : Taking). i.passed) is.intake));
        stopped = λ e. absurd (not_none q.ended Stopped is.reading e);
        come = subst (λ e. HasComeFrom terms old after q.read (concat (new q.read).pieces ++ q.intake.held) e) (sym is.reading)
            (subst (λ (i : Taking). HasComeFrom terms old after q.read (concat (new q.read).pieces ++ i.held) None) (sym is.intake)
            (subst (λ (x : Story). HasComeFrom terms old after q.read (concat x.pieces ++ []) None) (sym next_known)
            (λ before last at_old at_new.
            let same : before ≡ last = the_some before last
            (sym at_old ∙ (sym (holds.later q.read next_above).1 ∙ (sym (from.others q.read next_other) ∙ at_new))) in
            subst (λ (x : Sighted). HaveCome before.reader x.reader []) same (nothing_has_come before.reader))));
        asked = is.chunks ∙ ap (λ (x : Story). length x.chunks) (sym next_known);
        not_ended = ap (λ (x : Story). x.ending) next_known;
        later = λ s above.
            let less : p.read < s = omega (arith, above, is.read) in
            let other : p.read ≡ s → ⊥ = λ e. omega (arith, less, e) in
            (elsewhere s other ∙ (holds.later s less).0, from.others s other ∙ (holds.later s less).1);
      },
      λ s less. elsewhere s (λ e. omega (arith, less, e)),
    )
