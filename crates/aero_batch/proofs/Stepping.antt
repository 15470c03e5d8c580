-- What the code of a step does is the step.
use Rattle.std.proofs.Common.{◌≡◌, ℕ, ◌+◌, ◌<◌, List, [], ◌∷◌, length, slice_get, Option, Some, None, Bool, true, false, refl, sym, ◌∙◌, ap, ap₂, inl, inr}
use Rattle.std.specs.Prelude.{if◌then◌else◌}
use Rattle.std.specs.Vec.{with_item}
use Rattle.std.proofs.lemmas.Option.{some_pair_parts}
use Rattle.aero_model.specs.declared.verdict.Ending.{Ending}
use Rattle.aero_pieces.specs.declared.question.Question.{Question}
use Rattle.aero_pieces.specs.declared.answer.Value.{Value}
use Rattle.aero_batch.specs.declared.underway.Underway.{Underway}
use Rattle.aero_intake.specs.declared.track.Track.{Track}
use Rattle.aero_batch.specs.Inquiries.{Inquired, Gives}
use Rattle.aero_lines.specs.Cutting.{block_of}
use Rattle.aero_intake.specs.Intake.{Taking, nothing_taken, with_cut}
use Rattle.aero_batch.specs.Steps.{CutsHeld, HasEnough, GoesOn, EndsSource, IsWanted, faulty_there, told_there, with_chunk, last_of, ended_track, Settles}
use Rattle.aero_intake.specs.Stories.{changed, trace_of}
use Rattle.aero_intake.specs.Tracks.{is_faulty, is_told, with_value}
use Rattle.aero_intake.proofs.Tracked.{set_changed}

-- asking about a chunk changes the questions and the number of chunks alone

chunk_tracks : (p : Underway) (o : Option (List ℕ)) → (with_chunk p o).tracks ≡ p.tracks
chunk_tracks p None = refl
chunk_tracks p (Some b) = refl

pub chunk_read : (p : Underway) (o : Option (List ℕ)) → (with_chunk p o).read ≡ p.read
chunk_read p None = refl
chunk_read p (Some b) = refl

chunk_checked : (p : Underway) (o : Option (List ℕ)) → (with_chunk p o).checked ≡ p.checked
chunk_checked p None = refl
chunk_checked p (Some b) = refl

chunk_intake : (p : Underway) (o : Option (List ℕ)) → (with_chunk p o).intake ≡ p.intake
chunk_intake p None = refl
chunk_intake p (Some b) = refl

chunk_ended : (p : Underway) (o : Option (List ℕ)) → (with_chunk p o).ended ≡ p.ended
chunk_ended p None = refl
chunk_ended p (Some b) = refl

chunk_inquiry : (p : Underway) (i : Taking) (o : Option (List ℕ)) → (with_chunk (record p { intake = i }) o).inquiry ≡ (with_chunk p o).inquiry
chunk_inquiry p i None = refl
chunk_inquiry p i (Some b) = refl

chunk_chunks : (p : Underway) (i : Taking) (o : Option (List ℕ)) → (with_chunk (record p { intake = i }) o).chunks ≡ (with_chunk p o).chunks
chunk_chunks p i None = refl
chunk_chunks p i (Some b) = refl

-- what is held is cut, and its chunk asked about
pub cuts_held : (p q : Underway) (i : Taking) (given : Option (List ℕ)) → 0 < length p.intake.held → GoesOn p → i ≡ with_cut p.intake →
    given ≡ block_of p.intake.cutting p.intake.held →
    q ≡ with_chunk (record p { intake = i }) given → CutsHeld p q
cuts_held p q i given some going_on is_cut given_is is =
    let mid : Underway = record p { intake = i } in
    record {
      some = some;
      going_on = going_on;
      inquiry = ap (λ (m : Underway). m.inquiry) is ∙ (chunk_inquiry p i given ∙ ap (λ o. (with_chunk p o).inquiry) given_is);
      chunks = ap (λ (m : Underway). m.chunks) is ∙ (chunk_chunks p i given ∙ ap (λ o. (with_chunk p o).chunks) given_is);
      intake = ap (λ (m : Underway). m.intake) is ∙ (chunk_intake mid given ∙ is_cut);
      tracks = ap (λ (m : Underway). m.tracks.items) is ∙ ap (λ v. v.items) (chunk_tracks mid given);
      read = ap (λ (m : Underway). m.read) is ∙ chunk_read mid given;
      checked = ap (λ (m : Underway). m.checked) is ∙ chunk_checked mid given;
      ended = ap (λ (m : Underway). m.ended) is ∙ chunk_ended mid given;
    }

-- where it isn't told that what was read decides, no line is known to be malformed
pub goes_on : (p : Underway) (t : Track) (told : Bool) → slice_get p.tracks.items p.read ≡ Some t → p.intake.passed ≡ false →
    (is_faulty t ≡ true → told ≡ true) → told ≡ is_told t →
    told ≡ false → GoesOn p
goes_on p t told at none faulty told_is not_told = record {
  none_passed = none;
  no_fault = ap faulty_there at ∙ not_faulty (is_faulty t) faulty;
  none_told = ap told_there at ∙ (sym told_is ∙ not_told);
}
  where
    not_faulty : (b : Bool) → (b ≡ true → told ≡ true) → b ≡ false
    not_faulty false is = refl
    not_faulty true is = let clash : told ≡ true = is refl in cc (clash, not_told)

-- the last chunk is asked about, unless it doesn't count
last_wanted : (p : Underway) (b : Bool) (last given : Option (List ℕ)) → (b ≡ true → HasEnough p) → (b ≡ false → GoesOn p) →
    given ≡ (if b then None else last) → IsWanted p last given
last_wanted p true last given enough goes_on is = inr (is, enough refl)
last_wanted p false last given enough goes_on is = inl (is, goes_on refl)

-- the source that was read has ended, and its last chunk is asked about
pub ends_source : (ending : Ending) (p mid : Underway) (has_enough : Bool) (fresh : Taking) (last : Option (List ℕ)) (bytes : ℕ) (x y : Track) →
    fresh ≡ nothing_taken → bytes ≡ p.intake.count → (has_enough ≡ true → HasEnough p) → (has_enough ≡ false → GoesOn p) →
    last ≡ (if has_enough then None else last_of p.intake.cutting ending) → mid ≡ with_chunk (record p { intake = fresh }) last →
    slice_get mid.tracks.items mid.read ≡ Some x → y ≡ ended_track ending bytes mid.chunks x →
    EndsSource ending p (record mid { tracks = with_item mid.tracks mid.read y; read = mid.read + 1; chunks = 0; ended = None })
ends_source ending p mid has_enough fresh last bytes x y is_fresh bytes_are enough goes_on is_last is at ended =
    let q : Underway = record p { intake = fresh } in
    let read_is : mid.read ≡ p.read = ap (λ (m : Underway). m.read) is ∙ chunk_read q last in
    let tracks_are : mid.tracks.items ≡ p.tracks.items = ap (λ (m : Underway). m.tracks.items) is ∙ ap (λ v. v.items) (chunk_tracks q last) in
    let chunks_are : mid.chunks ≡ (with_chunk p last).chunks = ap (λ (m : Underway). m.chunks) is ∙ chunk_chunks p fresh last in
    record {
      asked = last;
      wanted = last_wanted p has_enough (last_of p.intake.cutting ending) last enough goes_on is_last;
      inquiry = ap (λ (m : Underway). m.inquiry) is ∙ chunk_inquiry p fresh last;
      tracks = set_changed mid.tracks.items mid.read x y (ended_track ending bytes mid.chunks) at ended
          ∙ (ap₂ (λ r ts. changed r (ended_track ending bytes mid.chunks) ts) read_is tracks_are
          ∙ ap₂ (λ b k. changed p.read (ended_track ending b k) p.tracks.items) bytes_are chunks_are);
      read = ap (λ r. r + 1) read_is;
      checked = ap (λ (m : Underway). m.checked) is ∙ chunk_checked q last;
      intake = ap (λ (m : Underway). m.intake) is ∙ (chunk_intake q last ∙ is_fresh);
      chunks = refl;
      reading = refl;
    }

pub settles_from_gives : (qs : List Question) (left : List Question → Inquired) (new : Inquired) (trace : ℕ) (v : Value) (most : ℕ) (certain : Bool)
    (old_tracks new_tracks : List Track) →
    Gives qs left new (Some (trace, v)) → new_tracks ≡ changed trace (λ t. with_value most certain t v) old_tracks → Settles qs left new old_tracks new_tracks
settles_from_gives [] left new trace v most certain old_tracks new_tracks is given = cc (is.0)
settles_from_gives (q ∷ rest) left new trace v most certain old_tracks new_tracks is given =
    let parts = some_pair_parts trace (trace_of q) v is.0 is.2 in (
      is.3,
      record {
        value = is.0;
        known = is.1;
        most = most;
        certain = certain;
        tracks = given ∙ ap₂ (λ n w. changed n (λ t. with_value most certain t w) old_tracks) parts.0 parts.1;
      },
    )
