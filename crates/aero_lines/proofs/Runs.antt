-- Whole runs: the blocks of a cutting, whatever pieces come.
use Rattle.std.proofs.Common.{◌≡◌, ◌<◌, ◌+◌, ℕ, zero, suc, Bool, true, false, cond, ltb, List, [], ◌∷◌, ◌++◌, length, take, drop, get_or, refl, sym, ◌∙◌, ap, subst, ◌⊎◌, inl, inr, arith, append_assoc, Some, None}
use Rattle.std.proofs.lemmas.Bool.{cases_Bool, or_parts, or_from, eqb-true}
use Rattle.std.proofs.lemmas.List.{append-nil, nil_from_length, take-append-drop}
use Rattle.std.specs.Prelude.{option_to_list, ◌==◌}
use Rattle.std.specs.List.{list_any, concat}
use Rattle.aero_model.specs.Lines.{is_line_end, cap, EndsLine, AreBlocks}
use Rattle.aero_lines.specs.Cutting.{Cutting, nothing_yet, has_too_long, IsOpenLine, fed, last_block, blocks_from}
use Rattle.aero_lines.specs.Laws.{BlocksAreTheText}
use Rattle.aero_lines.proofs.Bytewise.{runs_over, kept, column}
use Rattle.aero_lines.proofs.Capped.{has_too_long-is, cap-is}
use Rattle.aero_lines.proofs.Steps.{HasNoEnd, step_shut, step_held, step_cut, block_of-at, fed-at, Holds, Cuts, last_block-shut, last_block-at}

-- a text has no line's end, or a last one
pub record Last (t : List ℕ) : Type 0 where
  pub at : ℕ
  pub within : at < length t
  pub ends : is_line_end (get_or t at 0) ≡ true
  pub behind : HasNoEnd (drop (suc at) t)

pub last_end : (t : List ℕ) → HasNoEnd t ⊎ Last t
last_end [] = inl refl
last_end (b ∷ t) = go (cases_Bool (is_line_end b)) (last_end t)
  where
    go : (is_line_end b ≡ true) ⊎ (is_line_end b ≡ false) → HasNoEnd t ⊎ Last t → HasNoEnd (b ∷ t) ⊎ Last (b ∷ t)
    go first (inr last) = let inside = last.within in inr (record { at = suc last.at; within = omega arith; ends = last.ends; behind = last.behind })
    go (inl ends) (inl none) = inr (record { at = 0; within = omega arith; ends = ends; behind = none })
    go (inr stays) (inl none) = inl (or_from (is_line_end b) (list_any is_line_end t) stays none)

-- what is kept of two texts, one after the other
kept-append_long : (before : ℕ) (s t : List ℕ) → runs_over before s ≡ true → kept before (s ++ t) ≡ kept before s
kept-append_long before [] t long = cc
kept-append_long before (b ∷ s) t long =
    ap (λ more. b ∷ more) (step (is_line_end b) (ltb before 4096) long (kept-append_long 0 s t) (kept-append_long (suc before) s t))
  where
    step : (e f : Bool) → cond e (runs_over 0 s) (cond f (runs_over (suc before) s) true) ≡ true →
        (runs_over 0 s ≡ true → kept 0 (s ++ t) ≡ kept 0 s) → (runs_over (suc before) s ≡ true → kept (suc before) (s ++ t) ≡ kept (suc before) s) →
        cond e (kept 0 (s ++ t)) (cond f (kept (suc before) (s ++ t)) []) ≡ cond e (kept 0 s) (cond f (kept (suc before) s) [])
    step true f long p q = p long
    step false true long p q = q long
    step false false long p q = refl

kept-append : (before : ℕ) (s t : List ℕ) → runs_over before s ≡ false → kept before (s ++ t) ≡ s ++ kept (column before s) t
kept-append before [] t fits = refl
kept-append before (b ∷ s) t fits =
    ap (λ more. b ∷ more) (step (is_line_end b) (ltb before 4096) fits (kept-append 0 s t) (kept-append (suc before) s t))
  where
    step : (e f : Bool) → cond e (runs_over 0 s) (cond f (runs_over (suc before) s) true) ≡ false →
        (runs_over 0 s ≡ false → kept 0 (s ++ t) ≡ s ++ kept (column 0 s) t) → (runs_over (suc before) s ≡ false → kept (suc before) (s ++ t) ≡ s ++ kept (column (suc before) s) t) →
        cond e (kept 0 (s ++ t)) (cond f (kept (suc before) (s ++ t)) []) ≡ s ++ kept (cond e (column 0 s) (column (suc before) s)) t
    step true f fits p q = p fits
    step false true fits p q = q fits
    step false false fits p q = cc

column-none : (before : ℕ) (t : List ℕ) → HasNoEnd t → column before t ≡ before + length t
column-none before [] none = omega arith
column-none before (b ∷ t) none =
    let parts = or_parts (is_line_end b) (list_any is_line_end t) none in
    ap (λ e. cond e (column 0 t) (column (suc before) t)) parts.0 ∙ (column-none (suc before) t parts.1 ∙ (let e : suc before + length t ≡ before + suc (length t) = omega arith in e))

column-behind : (before : ℕ) (t : List ℕ) (j : ℕ) → j < length t → is_line_end (get_or t j 0) ≡ true → HasNoEnd (drop (suc j) t) → column before t ≡ length (drop (suc j) t)
column-behind before [] j within ends none = absurd (omega arith)
column-behind before (b ∷ t) zero within ends none = ap (λ e. cond e (column 0 t) (column (suc before) t)) ends ∙ (column-none 0 t none ∙ (let e : 0 + length t ≡ length t = omega arith in e))
column-behind before (b ∷ t) (suc j) within ends none =
    step (is_line_end b) (column-behind 0 t j (omega arith) ends none) (column-behind (suc before) t j (omega arith) ends none)
  where
    step : (e : Bool) → {x y z : ℕ} → x ≡ z → y ≡ z → cond e x y ≡ z
    step true p q = p
    step false p q = q

-- a run of a cutting that is shut
shut_run : (c : Cutting) (pieces : List (List ℕ)) → c.shut ≡ true → blocks_from c pieces ≡ []
shut_run c [] shut = ap option_to_list (last_block-shut c shut)
shut_run c (piece ∷ pieces) shut =
    let step = step_shut c piece shut in
    ap (λ b. option_to_list b ++ blocks_from (fed c piece) pieces) (sym step.0) ∙ (ap (λ c. blocks_from c pieces) (sym step.1) ∙ shut_run c pieces shut)

-- What holds of the blocks of a run: they are the text from the rest on, and each but the last ends a line.
pub record IsCut (blocks : List (List ℕ)) (text : List ℕ) : Type 0 where
  pub joined : concat blocks ≡ cap text
  pub blocks_end : AreBlocks blocks

AreBlocks-cons : (block : List ℕ) (blocks : List (List ℕ)) → EndsLine block → AreBlocks blocks → AreBlocks (block ∷ blocks)
AreBlocks-cons block [] ends are = tt
AreBlocks-cons block (next ∷ more) ends are = (ends, are)

-- the front of a list up to an element
take_to : (t : List ℕ) (j : ℕ) → j < length t → take (suc j) t ≡ take j t ++ get_or t j 0 ∷ []
take_to [] j within = absurd (omega arith)
take_to (b ∷ t) zero within = refl
take_to (b ∷ t) (suc j) within = ap (λ more. b ∷ more) (take_to t j (omega arith))

ends_run : (c : Cutting) → IsOpenLine c.rest → c.shut ≡ false → IsCut (blocks_from c []) (c.rest ++ [])
ends_run c is unshut = go (cases_Bool (length c.rest == 0))
  where
    all : cap (c.rest ++ []) ≡ c.rest
    all = cap-is c.rest [] is ∙ append-nil c.rest

    go : ((length c.rest == 0) ≡ true) ⊎ ((length c.rest == 0) ≡ false) → IsCut (option_to_list (last_block c)) (c.rest ++ [])
    go (inl empty) =
        let blocks : option_to_list (last_block c) ≡ [] = ap option_to_list (last_block-at c unshut ∙ ap (λ e. cond e None (Some c.rest)) empty) in
        record {
          joined = ap concat blocks ∙ (sym (nil_from_length c.rest (eqb-true (length c.rest) 0 empty)) ∙ sym all);
          blocks_end = subst AreBlocks (sym blocks) tt;
        }
    go (inr some) =
        let blocks : option_to_list (last_block c) ≡ c.rest ∷ [] = ap option_to_list (last_block-at c unshut ∙ ap (λ e. cond e None (Some c.rest)) some) in
        record {
          joined = ap concat blocks ∙ (append-nil c.rest ∙ sym all);
          blocks_end = subst AreBlocks (sym blocks) tt;
        }

-- the first piece makes a line too long
run_long : (c : Cutting) (piece : List ℕ) (pieces : List (List ℕ)) → IsOpenLine c.rest → c.shut ≡ false → has_too_long (c.rest ++ piece) ≡ true →
    IsCut (blocks_from c (piece ∷ pieces)) (c.rest ++ (piece ++ concat pieces))
run_long c piece pieces is unshut long =
    let size = length c.rest in
    let after = fed-at c piece true unshut long in
    let over : runs_over size piece ≡ true = sym (has_too_long-is c.rest piece is) ∙ long in
    let blocks : blocks_from c (piece ∷ pieces) ≡ cap (c.rest ++ piece) ∷ [] =
    ap (λ b. option_to_list b ++ blocks_from (fed c piece) pieces) (block_of-at c piece true unshut long)
    ∙ ap (λ more. cap (c.rest ++ piece) ∷ more) (shut_run (fed c piece) pieces (ap (λ (s : Cutting). s.shut) after)) in
    record {
      joined =
          ap concat blocks
          ∙ (append-nil (cap (c.rest ++ piece))
          ∙ (cap-is c.rest piece is
          ∙ (ap (λ back. c.rest ++ back) (sym (kept-append_long size piece (concat pieces) over)) ∙ sym (cap-is c.rest (piece ++ concat pieces) is))));
      blocks_end = subst AreBlocks (sym blocks) tt;
    }

-- the first piece ends no line
run_held : (c : Cutting) (piece : List ℕ) (pieces : List (List ℕ)) → Holds c piece →
    IsCut (blocks_from (record c { rest = c.rest ++ piece }) pieces) ((c.rest ++ piece) ++ concat pieces) →
    IsCut (blocks_from c (piece ∷ pieces)) (c.rest ++ (piece ++ concat pieces))
run_held c piece pieces holds rest =
    let blocks : blocks_from c (piece ∷ pieces) ≡ blocks_from (record c { rest = c.rest ++ piece }) pieces =
    ap (λ b. option_to_list b ++ blocks_from (fed c piece) pieces) (sym holds.block) ∙ ap (λ c. blocks_from c pieces) (sym holds.after) in
    record {
      joined = ap concat blocks ∙ (rest.joined ∙ ap cap (append_assoc c.rest piece (concat pieces)));
      blocks_end = subst AreBlocks (sym blocks) rest.blocks_end;
    }

-- the first piece ends a line, the last time at j
run_cut : (c : Cutting) (piece : List ℕ) (pieces : List (List ℕ)) (j : ℕ) → IsOpenLine c.rest → has_too_long (c.rest ++ piece) ≡ false → j < length piece → is_line_end (get_or piece j 0) ≡ true →
    HasNoEnd (drop (suc j) piece) → Cuts c piece (suc j) →
    IsCut (blocks_from (record c { rest = drop (suc j) piece }) pieces) (drop (suc j) piece ++ concat pieces) →
    IsCut (blocks_from c (piece ∷ pieces)) (c.rest ++ (piece ++ concat pieces))
run_cut c piece pieces j is fits within ends none cuts rest =
    let size = length c.rest in
    let front = take (suc j) piece in
    let back = drop (suc j) piece in
    let more = blocks_from (record c { rest = back }) pieces in
    let left = kept (length back) (concat pieces) in
    let over : runs_over size piece ≡ false = sym (has_too_long-is c.rest piece is) ∙ fits in
    let blocks : blocks_from c (piece ∷ pieces) ≡ (c.rest ++ front) ∷ more =
    ap (λ b. option_to_list b ++ blocks_from (fed c piece) pieces) (sym cuts.block) ∙ ap (λ after. (c.rest ++ front) ∷ blocks_from after pieces) (sym cuts.after) in
    let whole : front ++ (back ++ left) ≡ piece ++ left = sym (append_assoc front back left) ∙ ap (λ t. t ++ left) (take-append-drop (suc j) piece) in
    let all : cap (c.rest ++ (piece ++ concat pieces)) ≡ c.rest ++ (piece ++ left) =
    cap-is c.rest (piece ++ concat pieces) is ∙ ap (λ t. c.rest ++ t) (kept-append size piece (concat pieces) over ∙ ap (λ n. piece ++ kept n (concat pieces)) (column-behind size piece j within ends none)) in
    record {
      joined =
          ap concat blocks
          ∙ (ap (λ t. (c.rest ++ front) ++ t) (rest.joined ∙ cap-is back (concat pieces) cuts.open_line)
          ∙ (append_assoc c.rest front (back ++ left) ∙ (ap (λ t. c.rest ++ t) whole ∙ sym all)));
      blocks_end = subst AreBlocks (sym blocks) (AreBlocks-cons (c.rest ++ front) more ends_line rest.blocks_end);
    }
  where
    ends_line : EndsLine (c.rest ++ take (suc j) piece)
    ends_line = (
      c.rest ++ take j piece,
      ap (λ t. c.rest ++ t) (take_to piece j within ∙ ap (λ b. take j piece ++ b ∷ []) (eqb-true (get_or piece j 0) 10 ends)) ∙ sym (append_assoc c.rest (take j piece) (10 ∷ [])),
    )

-- the blocks of a run that begins with an open line
pub is_cut : (c : Cutting) (pieces : List (List ℕ)) → IsOpenLine c.rest → c.shut ≡ false → IsCut (blocks_from c pieces) (c.rest ++ concat pieces)
is_cut c [] is unshut = ends_run c is unshut
is_cut c (piece ∷ pieces) is unshut =
    go (cases_Bool (has_too_long (c.rest ++ piece))) (last_end piece)
    (λ line starts. is_cut (record c { rest = line }) pieces starts unshut)
  where
    go : (has_too_long (c.rest ++ piece) ≡ true) ⊎ (has_too_long (c.rest ++ piece) ≡ false) → HasNoEnd piece ⊎ Last piece →
        ((line : List ℕ) → IsOpenLine line → IsCut (blocks_from (record c { rest = line }) pieces) (line ++ concat pieces)) →
        IsCut (blocks_from c (piece ∷ pieces)) (c.rest ++ (piece ++ concat pieces))
    go (inl long) ends more = run_long c piece pieces is unshut long
    go (inr fits) (inl none) more =
        let holds = step_held c piece is unshut fits none in
        run_held c piece pieces holds (more (c.rest ++ piece) holds.open_line)
    go (inr fits) (inr last) more =
        let cuts = step_cut c piece last.at is unshut fits last.within last.ends last.behind in
        run_cut c piece pieces last.at is fits last.within last.ends last.behind cuts (more (drop (suc last.at) piece) cuts.open_line)

nothing_open : IsOpenLine []
nothing_open = record { no_end = refl; short = omega arith }

pub blocks_are_the_text : BlocksAreTheText
blocks_are_the_text = λ pieces. let all = is_cut nothing_yet pieces nothing_open refl in (all.joined, all.blocks_end)
