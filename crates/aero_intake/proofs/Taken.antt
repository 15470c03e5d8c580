-- A source as far as it was read.
use Rattle.std.proofs.Common.{◌≡◌, ℕ, ◌+◌, ◌≤◌, List, [], ◌∷◌, ◌++◌, length, refl, sym, ◌∙◌, ap, ap₂, subst, append_assoc, true, false, arith, Option, Some, None}
use Rattle.std.proofs.lemmas.List.{append-nil, length-append}
use Rattle.std.proofs.KnownBytes.{Consumes-nil, Consumes-trans}
use Rattle.std.specs.Prelude.{option_to_list}
use Rattle.std.specs.List.{concat}
use Rattle.std.specs.Io.KnownBytes.{Consumes}
use Rattle.aero_model.specs.declared.verdict.Ending.{Ending}
use Rattle.aero_model.specs.declared.verdict.Ending.TheVariants.{Whole, Broken, TooLarge, Stopped}
use Rattle.aero_lines.specs.Cutting.{Cutting, nothing_yet, fed, block_of, last_block, blocks_from}
use Rattle.aero_intake.specs.Source.{faults_by, Closes, Sight, Trail, Trails, WasRead}
use Rattle.aero_intake.specs.Intake.{Taking, nothing_taken, with_piece, with_cut, with_passing, fed_all, chunks_so_far, IsTaken, HaveCome, Ends}

fed_all-more : (c : Cutting) (pieces : List (List ℕ)) (piece : List ℕ) → fed_all c (pieces ++ piece ∷ []) ≡ fed (fed_all c pieces) piece
fed_all-more c [] piece = refl
fed_all-more c (first ∷ pieces) piece = fed_all-more (fed c first) pieces piece

chunks_so_far-more : (c : Cutting) (pieces : List (List ℕ)) (piece : List ℕ) →
    chunks_so_far c (pieces ++ piece ∷ []) ≡ chunks_so_far c pieces ++ option_to_list (block_of (fed_all c pieces) piece)
chunks_so_far-more c [] piece = append-nil (option_to_list (block_of c piece))
chunks_so_far-more c (first ∷ pieces) piece =
    ap (λ bs. option_to_list (block_of c first) ++ bs) (chunks_so_far-more (fed c first) pieces piece)
    ∙ sym (append_assoc (option_to_list (block_of c first)) (chunks_so_far (fed c first) pieces)
    (option_to_list (block_of (fed_all (fed c first) pieces) piece)))

blocks_from-last : (c : Cutting) (pieces : List (List ℕ)) → chunks_so_far c pieces ++ option_to_list (last_block (fed_all c pieces)) ≡ blocks_from c pieces
blocks_from-last c [] = refl
blocks_from-last c (first ∷ pieces) =
    append_assoc (option_to_list (block_of c first)) (chunks_so_far (fed c first) pieces) (option_to_list (last_block (fed_all (fed c first) pieces)))
    ∙ ap (λ bs. option_to_list (block_of c first) ++ bs) (blocks_from-last (fed c first) pieces)

pub concat-more : (pieces : List (List ℕ)) (piece : List ℕ) → concat (pieces ++ piece ∷ []) ≡ concat pieces ++ piece
concat-more [] piece = append-nil piece
concat-more (first ∷ pieces) piece = ap (λ bs. first ++ bs) (concat-more pieces piece) ∙ sym (append_assoc first (concat pieces) piece)

pub nothing_is_taken : IsTaken nothing_taken [] []
nothing_is_taken = record { cutting = λ not. refl; given = refl; count = refl }

-- a piece comes, and is held
pub piece_is_held : (i : Taking) (pieces chunks : List (List ℕ)) (piece : List ℕ) → IsTaken i pieces chunks → IsTaken (with_piece i piece) pieces chunks
piece_is_held i pieces chunks piece is = record {
  cutting = is.cutting;
  given = is.given;
  count = ap (λ n. n + length piece) is.count ∙ (sym (length-append (concat pieces ++ i.held) piece) ∙ ap length (append_assoc (concat pieces) i.held piece));
}

-- what was cut and what is held are the same bytes once what is held is cut
pub cut_bytes : (pieces : List (List ℕ)) (held : List ℕ) → concat (pieces ++ held ∷ []) ++ [] ≡ concat pieces ++ held
cut_bytes pieces held = append-nil (concat (pieces ++ held ∷ [])) ∙ concat-more pieces held

-- what is held is cut, and gives its chunk
pub held_is_cut : (i : Taking) (pieces chunks : List (List ℕ)) → i.passed ≡ false → IsTaken i pieces chunks →
    IsTaken (with_cut i) (pieces ++ i.held ∷ []) (chunks ++ option_to_list (block_of i.cutting i.held))
held_is_cut i pieces chunks none is = record {
  cutting = λ not. ap (λ c. fed c i.held) (is.cutting not) ∙ sym (fed_all-more nothing_yet pieces i.held);
  given = ap₂ (λ bs c. bs ++ option_to_list (block_of c i.held)) is.given (is.cutting none) ∙ sym (chunks_so_far-more nothing_yet pieces i.held);
  count = is.count ∙ sym (ap length (cut_bytes pieces i.held));
}

-- what is held is passed over, and would have given its chunk
pub held_is_passed : (i : Taking) (pieces chunks : List (List ℕ)) → IsTaken i pieces chunks →
    IsTaken (with_passing i) (pieces ++ i.held ∷ []) (chunks ++ option_to_list (block_of (fed_all nothing_yet pieces) i.held))
held_is_passed i pieces chunks is = record {
  cutting = λ not. cc (not);
  given = ap (λ bs. bs ++ option_to_list (block_of (fed_all nothing_yet pieces) i.held)) is.given ∙ sym (chunks_so_far-more nothing_yet pieces i.held);
  count = is.count ∙ sym (ap length (cut_bytes pieces i.held));
}

-- the text ends
pub chunks_with_last : (i : Taking) (pieces chunks : List (List ℕ)) → IsTaken i pieces chunks →
    chunks ++ option_to_list (last_block (fed_all nothing_yet pieces)) ≡ blocks_from nothing_yet pieces
chunks_with_last i pieces chunks is =
    ap (λ bs. bs ++ option_to_list (last_block (fed_all nothing_yet pieces))) is.given ∙ blocks_from-last nothing_yet pieces

-- a reader that gave nothing, and one that gave bytes and then more
trails_nil : (a : Option Trail) → Trails a a []
trails_nil None = tt
trails_nil (Some x) = (refl, sym (append-nil x.given))

trails_more : (a b c : Option Trail) (bs cs : List ℕ) → Trails a b bs → Trails b c cs → Trails a c (bs ++ cs)
trails_more None None None bs cs p q = tt
trails_more None None (Some z) bs cs p q = absurd q
trails_more None (Some y) c bs cs p q = absurd p
trails_more (Some x) None c bs cs p q = absurd p
trails_more (Some x) (Some y) None bs cs p q = absurd q
trails_more (Some x) (Some y) (Some z) bs cs p q = (q.0 ∙ p.0, q.1 ∙ ap (λ l. l ++ cs) p.1 ∙ append_assoc x.given bs cs)

pub nothing_has_come : (seen : Sight) → HaveCome seen seen []
nothing_has_come seen = record { came = Consumes-nil seen.bytes; trail = trails_nil seen.trail; quiet = record { faults = refl; ends = refl; closed = refl } }

pub more_has_come : (before mid after : Sight) (bytes more : List ℕ) → HaveCome before mid bytes → HaveCome mid after more →
    HaveCome before after (bytes ++ more)
more_has_come before mid after bytes more have then = record {
  came = Consumes-trans before.bytes mid.bytes after.bytes bytes more have.came then.came;
  trail = trails_more before.trail mid.trail after.trail bytes more have.trail then.trail;
  quiet = record {
    faults = then.quiet.faults ∙ have.quiet.faults;
    ends = then.quiet.ends ∙ have.quiet.ends;
    closed = then.quiet.closed ∙ have.quiet.closed;
  };
}

-- a reading that has ended by itself wasn't stopped
pub not_stopped : (before after : Sight) (limit count : ℕ) (ending : Ending) → Ends before after limit count ending → Some ending ≡ Some Stopped → ⊥
not_stopped before after limit count ending ends same =
    let is : ending ≡ Stopped = cc same in
    subst (λ e. Ends before after limit count e) is ends

-- what was read of a source that has ended
pub source_was_read : (before mid after : Sight) (limit count : ℕ) (bytes : List ℕ) (ending : Ending) →
    HaveCome before mid bytes → count ≡ length bytes → Ends mid after limit count ending → WasRead before after limit bytes ending
source_was_read before mid after limit count bytes Whole have is ends = record {
  came = subst (λ bs. Consumes before.bytes after.bytes bs) (append-nil bytes)
      (Consumes-trans before.bytes mid.bytes after.bytes bytes [] have.came ends.0.came);
  trail = subst (λ bs. Trails before.trail after.trail bs) (append-nil bytes)
      (trails_more before.trail mid.trail after.trail bytes [] have.trail ends.0.trail);
  faults = omega (arith, ends.0.faults, have.quiet.faults);
  ends = omega (arith, ends.0.ends, have.quiet.ends);
  fits = subst (λ n. n ≤ limit) is ends.1;
  rest = ends.0.rest;
  shut = ends.0.shut;
  closed = ends.0.closed ∙ have.quiet.closed;
}
source_was_read before mid after limit count bytes Broken have is ends = record {
  came = subst (λ bs. Consumes before.bytes after.bytes bs) (append-nil bytes)
      (Consumes-trans before.bytes mid.bytes after.bytes bytes [] have.came ends.0.came);
  trail = subst (λ bs. Trails before.trail after.trail bs) (append-nil bytes)
      (trails_more before.trail mid.trail after.trail bytes [] have.trail ends.0.trail);
  faults = ends.0.faults ∙ ap₂ (λ n c. n + faults_by true c) have.quiet.faults have.quiet.closed;
  ends = omega (arith, ends.0.ends, have.quiet.ends);
  fits = subst (λ n. n ≤ limit) is ends.1;
  rest = tt;
  shut = ends.0.shut;
  closed = ends.0.closed ∙ have.quiet.closed;
}
source_was_read before mid after limit count bytes TooLarge have is ends = record {
  came = subst (λ b. Consumes before.bytes b bytes) (sym ends.0.bytes) have.came;
  trail = subst (λ t. Trails before.trail t bytes) (sym ends.0.trail) have.trail;
  faults = omega (arith, ends.0.faults, have.quiet.faults);
  ends = omega (arith, ends.0.ends, have.quiet.ends);
  fits = sym is ∙ ends.1;
  rest = tt;
  shut = ends.0.shut;
  closed = tt;
}
source_was_read before mid after limit count bytes Stopped have is ends = absurd ends

-- what was read of a source that is read no further, and whose reader is closed
pub source_was_stopped : (before mid after : Sight) (limit count : ℕ) (bytes : List ℕ) →
    HaveCome before mid bytes → Closes mid after → count ≡ length bytes → count ≤ limit → WasRead before after limit bytes Stopped
source_was_stopped before mid after limit count bytes have closes is within = record {
  came = subst (λ b. Consumes before.bytes b bytes) (sym closes.bytes) have.came;
  trail = subst (λ t. Trails before.trail t bytes) (sym closes.trail) have.trail;
  faults = omega (arith, closes.faults, have.quiet.faults);
  ends = omega (arith, closes.ends, have.quiet.ends);
  fits = subst (λ n. n ≤ limit) is within;
  rest = tt;
  shut = closes.shut;
  closed = tt;
}

-- whatever could follow the pieces, its chunks begin with those that they gave
pub chunks_with_more : (i : Taking) (pieces chunks : List (List ℕ)) (more : List ℕ) → IsTaken i pieces chunks →
    (rest : List (List ℕ)) × (chunks ++ rest ≡ blocks_from nothing_yet (pieces ++ more ∷ []))
chunks_with_more i pieces chunks more is =
    let c = fed_all nothing_yet pieces in
    let given = option_to_list (block_of c more) in
    let last = option_to_list (last_block (fed_all nothing_yet (pieces ++ more ∷ []))) in (
      given ++ last,
      ap (λ bs. bs ++ (given ++ last)) is.given
          ∙ (sym (append_assoc (chunks_so_far nothing_yet pieces) given last)
          ∙ (ap (λ bs. bs ++ last) (sym (chunks_so_far-more nothing_yet pieces more))
          ∙ blocks_from-last nothing_yet (pieces ++ more ∷ []))),
    )
