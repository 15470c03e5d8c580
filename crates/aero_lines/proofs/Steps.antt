-- One more piece: the cases that the cutter tells apart.
use Rattle.std.proofs.Common.{◌≡◌, ◌<◌, ◌≤◌, ◌+◌, ◌-◌, ℕ, zero, suc, Bool, true, false, cond, not, ltb, eqb, List, [], ◌∷◌, ◌++◌, length, take, drop, get_or, refl, sym, ◌∙◌, ap, subst, ◌⊎◌, inl, inr, arith, Some, None}
use Rattle.std.proofs.lemmas.Bool.{cases_Bool, ltb-true, ne_eqb, or_parts, or_from, not_from_true, not_from_false, false_from_ne_true}
use Rattle.std.proofs.lemmas.List.{length-append, length-drop, length-take-le, get_or-drop, get_or-append-add}
use Rattle.std.proofs.lemmas.List.Folds.{list_any-append}
use Rattle.std.proofs.lemmas.List.Sums.{suffix_len_is}
use Rattle.std.proofs.Math.Seq.{take-append-add, drop-append-add}
use Rattle.std.specs.Prelude.{◌==◌}
use Rattle.std.specs.List.{list_any}
use Rattle.aero_model.specs.Lines.{is_line_end, rest_length, whole_lines, rest_of_text, cap}
use Rattle.aero_lines.specs.Cutting.{Cutting, has_too_long, IsOpenLine, unless_empty, fed, block_of, last_block}
use Rattle.aero_lines.proofs.Bytewise.{runs_over}
use Rattle.aero_lines.proofs.Capped.{has_too_long-is}

-- no byte of the text ends a line
abbrev pub HasNoEnd : List ℕ → Type 0
HasNoEnd t = list_any is_line_end t ≡ false

pub HasNoEnd-at : (t : List ℕ) (k : ℕ) → HasNoEnd t → is_line_end (get_or t k 0) ≡ false
HasNoEnd-at [] k none = refl
HasNoEnd-at (b ∷ t) zero none = (or_parts (is_line_end b) (list_any is_line_end t) none).0
HasNoEnd-at (b ∷ t) (suc k) none = HasNoEnd-at t k (or_parts (is_line_end b) (list_any is_line_end t) none).1

pub HasNoEnd-from : (t : List ℕ) → ((k : ℕ) → k < length t → eqb (get_or t k 0) 10 ≡ true → ⊥) → HasNoEnd t
HasNoEnd-from [] none = refl
HasNoEnd-from (b ∷ t) none =
    or_from (is_line_end b) (list_any is_line_end t) (false_from_ne_true (is_line_end b) (none 0 (omega arith))) (HasNoEnd-from t (λ k h. none (suc k) (omega arith)))

pub HasNoEnd-append : (s t : List ℕ) → HasNoEnd s → HasNoEnd t → HasNoEnd (s ++ t)
HasNoEnd-append s t p q = list_any-append is_line_end s t ∙ or_from (list_any is_line_end s) (list_any is_line_end t) p q

-- what follows place j, where no byte behind it ends a line
pub HasNoEnd-behind : (t : List ℕ) (j : ℕ) → ((k : ℕ) → j + 1 ≤ k → k < length t → eqb (get_or t k 0) 10 ≡ true → ⊥) → HasNoEnd (drop (suc j) t)
HasNoEnd-behind t j none =
    HasNoEnd-from (drop (suc j) t) (λ k h is. none (suc j + k) (omega arith) (omega (arith, length-drop (suc j) t)) (ap (λ b. eqb b 10) (sym (get_or-drop (suc j) t k 0)) ∙ is))

-- the rest of a text without a line's end, and of one whose last end stands before place n
rest_length-none : (t : List ℕ) → HasNoEnd t → rest_length t ≡ length t
rest_length-none t none =
    suffix_len_is (λ b. not (is_line_end b)) t 0 0 (omega arith) (λ k low high. not_from_false (is_line_end (get_or t k 0)) (HasNoEnd-at t k none)) (λ h. absurd (omega arith))
    ∙ (let e : length t - 0 ≡ length t = omega arith in e)

rest_length-behind : (t : List ℕ) (n : ℕ) → n ≤ length t → is_line_end (get_or t (n - 1) 0) ≡ true → HasNoEnd (drop n t) → rest_length t ≡ length t - n
rest_length-behind t n within ends none =
    suffix_len_is (λ b. not (is_line_end b)) t n 0 within
    (λ k low high. let place : n + (k - n) ≡ k = omega arith in not_from_false (is_line_end (get_or t k 0)) (ap (λ m. is_line_end (get_or t m 0)) (sym place) ∙ (ap is_line_end (sym (get_or-drop n t (k - n) 0)) ∙ HasNoEnd-at (drop n t) (k - n) none)))
    (λ some. not_from_true (is_line_end (get_or t (n - 1) 0)) ends)

-- a text is cut behind its last line's end
pub cut_none : (t : List ℕ) → HasNoEnd t → (whole_lines t ≡ []) × (rest_of_text t ≡ t)
cut_none t none =
    let at : length t - rest_length t ≡ 0 = omega (arith, rest_length-none t none) in
    (ap (λ n. take n t) at, ap (λ n. drop n t) at)

pub cut_behind : (t : List ℕ) (n : ℕ) → n ≤ length t → is_line_end (get_or t (n - 1) 0) ≡ true → HasNoEnd (drop n t) → (whole_lines t ≡ take n t) × (rest_of_text t ≡ drop n t)
cut_behind t n within ends none =
    let at : length t - rest_length t ≡ n = omega (arith, rest_length-behind t n within ends none) in
    (ap (λ m. take m t) at, ap (λ m. drop m t) at)

-- an open line stays short where no line is too long
pub runs_over-short : (before : ℕ) (t : List ℕ) → before ≤ 4096 → HasNoEnd t → runs_over before t ≡ false → before + length t ≤ 4096
runs_over-short before [] short none fits = omega arith
runs_over-short before (b ∷ t) short none fits =
    let parts = or_parts (is_line_end b) (list_any is_line_end t) none in
    go (cases_Bool (ltb before 4096)) (sym (ap (λ e. cond e (runs_over 0 t) (cond (ltb before 4096) (runs_over (suc before) t) true)) parts.0) ∙ fits) (λ room fits. runs_over-short (suc before) t (omega (arith, ltb-true before 4096 room)) parts.1 fits)
  where
    go : (ltb before 4096 ≡ true) ⊎ (ltb before 4096 ≡ false) → cond (ltb before 4096) (runs_over (suc before) t) true ≡ false →
        (ltb before 4096 ≡ true → runs_over (suc before) t ≡ false → suc before + length t ≤ 4096) → before + suc (length t) ≤ 4096
    go (inl room) fits more = let below : suc before + length t ≤ 4096 = more room (sym (ap (λ e. cond e (runs_over (suc before) t) true) room) ∙ fits) in omega arith
    go (inr full) fits more = absurd (let no : true ≡ false = sym (ap (λ e. cond e (runs_over (suc before) t) true) full) ∙ fits in cc)

pub IsOpenLine-append : (line t : List ℕ) → IsOpenLine line → HasNoEnd t → has_too_long (line ++ t) ≡ false → IsOpenLine (line ++ t)
IsOpenLine-append line t is none fits =
    record {
      no_end = HasNoEnd-append line t is.no_end none;
      short = omega (arith, length-append line t, runs_over-short (length line) t is.short none (sym (has_too_long-is line t is) ∙ fits));
    }

-- what follows a line's end runs over no sooner than the whole
pub runs_over-behind : (before : ℕ) (t : List ℕ) (j : ℕ) → j < length t → is_line_end (get_or t j 0) ≡ true → runs_over before t ≡ false → runs_over 0 (drop (suc j) t) ≡ false
runs_over-behind before [] j within ends fits = absurd (omega arith)
runs_over-behind before (b ∷ t) zero within ends fits = sym (ap (λ e. cond e (runs_over 0 t) (cond (ltb before 4096) (runs_over (suc before) t) true)) ends) ∙ fits
runs_over-behind before (b ∷ t) (suc j) within ends fits =
    step (is_line_end b) (ltb before 4096) fits (runs_over-behind 0 t j (omega arith) ends) (runs_over-behind (suc before) t j (omega arith) ends)
  where
    step : (e f : Bool) → cond e (runs_over 0 t) (cond f (runs_over (suc before) t) true) ≡ false →
        (runs_over 0 t ≡ false → runs_over 0 (drop (suc j) t) ≡ false) → (runs_over (suc before) t ≡ false → runs_over 0 (drop (suc j) t) ≡ false) → runs_over 0 (drop (suc j) t) ≡ false
    step true f fits p q = p fits
    step false true fits p q = q fits
    step false false fits p q = cc

pub IsOpenLine-behind : (line t : List ℕ) (j : ℕ) → IsOpenLine line → j < length t → is_line_end (get_or t j 0) ≡ true → HasNoEnd (drop (suc j) t) → has_too_long (line ++ t) ≡ false → IsOpenLine (drop (suc j) t)
IsOpenLine-behind line t j is within ends none fits =
    record {
      no_end = none;
      short = omega (arith, runs_over-short 0 (drop (suc j) t) (omega arith) none (runs_over-behind (length line) t j within ends (sym (has_too_long-is line t is) ∙ fits)));
    }

-- the cutter is shut
pub step_shut : (c : Cutting) (piece : List ℕ) → c.shut ≡ true → (None ≡ block_of c piece) × (c ≡ fed c piece)
unfolding block_of fed
step_shut c piece shut = (
  sym (ap (λ e. cond e None (cond (has_too_long (c.rest ++ piece)) (Some (cap (c.rest ++ piece))) (unless_empty (whole_lines (c.rest ++ piece))))) shut),
  sym (ap (λ e. cond e c (cond (has_too_long (c.rest ++ piece)) (record { rest = []; shut = true }) (record { rest = rest_of_text (c.rest ++ piece); shut = false }))) shut),
)

-- it is not: what the test for a line that is too long decides
pub block_of-at : (c : Cutting) (piece : List ℕ) (long : Bool) → c.shut ≡ false → has_too_long (c.rest ++ piece) ≡ long →
    block_of c piece ≡ cond long (Some (cap (c.rest ++ piece))) (unless_empty (whole_lines (c.rest ++ piece)))
unfolding block_of
block_of-at c piece long unshut is =
    ap (λ e. cond e None (cond (has_too_long (c.rest ++ piece)) (Some (cap (c.rest ++ piece))) (unless_empty (whole_lines (c.rest ++ piece))))) unshut
    ∙ ap (λ e. cond e (Some (cap (c.rest ++ piece))) (unless_empty (whole_lines (c.rest ++ piece)))) is

pub fed-at : (c : Cutting) (piece : List ℕ) (long : Bool) → c.shut ≡ false → has_too_long (c.rest ++ piece) ≡ long →
    fed c piece ≡ cond long (record { rest = []; shut = true }) (record { rest = rest_of_text (c.rest ++ piece); shut = false })
unfolding fed
fed-at c piece long unshut is =
    ap (λ e. cond e c (cond (has_too_long (c.rest ++ piece)) (record { rest = []; shut = true }) (record { rest = rest_of_text (c.rest ++ piece); shut = false }))) unshut
    ∙ ap (λ e. cond e (record { rest = []; shut = true }) (record { rest = rest_of_text (c.rest ++ piece); shut = false })) is

-- what is left is the rest, and the cutting stays open
fed-left : (c : Cutting) (piece left : List ℕ) → c.shut ≡ false → has_too_long (c.rest ++ piece) ≡ false → rest_of_text (c.rest ++ piece) ≡ left → record c { rest = left } ≡ fed c piece
fed-left c piece left unshut fits is =
    ap (λ e. record { rest = left; shut = e }) unshut
    ∙ (ap (λ r. record { rest = r; shut = false }) (sym is) ∙ sym (fed-at c piece false unshut fits))

-- a line is too long
pub step_long : (c : Cutting) (piece : List ℕ) (bytes : ℕ) → c.shut ≡ false → has_too_long (c.rest ++ piece) ≡ true → cap (c.rest ++ piece) ≡ c.rest ++ take bytes piece →
    (Some (c.rest ++ take bytes piece) ≡ block_of c piece) × (record { rest = []; shut = true } ≡ fed c piece)
step_long c piece bytes unshut long front =
    (sym (block_of-at c piece true unshut long ∙ ap Some front), sym (fed-at c piece true unshut long))

-- no line is whole yet
pub record Holds (c : Cutting) (piece : List ℕ) : Type 0 where
  pub open_line : IsOpenLine (c.rest ++ piece)
  pub block : None ≡ block_of c piece
  pub after : record c { rest = c.rest ++ piece } ≡ fed c piece

pub step_held : (c : Cutting) (piece : List ℕ) → IsOpenLine c.rest → c.shut ≡ false → has_too_long (c.rest ++ piece) ≡ false → HasNoEnd piece → Holds c piece
step_held c piece is unshut fits none =
    let cut = cut_none (c.rest ++ piece) (HasNoEnd-append c.rest piece is.no_end none) in
    record {
      open_line = IsOpenLine-append c.rest piece is none fits;
      block = sym (block_of-at c piece false unshut fits ∙ ap unless_empty cut.0);
      after = fed-left c piece (c.rest ++ piece) unshut fits cut.1;
    }

-- the last line's end of the piece stands before its place n
pub record Cuts (c : Cutting) (piece : List ℕ) (n : ℕ) : Type 0 where
  pub open_line : IsOpenLine (drop n piece)
  pub block : Some (c.rest ++ take n piece) ≡ block_of c piece
  pub after : record c { rest = drop n piece } ≡ fed c piece
  pub whole : whole_lines (c.rest ++ piece) ≡ c.rest ++ take n piece

pub step_cut : (c : Cutting) (piece : List ℕ) (j : ℕ) → IsOpenLine c.rest → c.shut ≡ false → has_too_long (c.rest ++ piece) ≡ false →
    j < length piece → is_line_end (get_or piece j 0) ≡ true → HasNoEnd (drop (suc j) piece) → Cuts c piece (suc j)
step_cut c piece j is unshut fits within ends none =
    let n = length c.rest + suc j in
    let inside : n ≤ length (c.rest ++ piece) = omega (arith, length-append c.rest piece) in
    let place : n - 1 ≡ length c.rest + j = omega arith in
    let byte : is_line_end (get_or (c.rest ++ piece) (n - 1) 0) ≡ true =
    ap (λ m. is_line_end (get_or (c.rest ++ piece) m 0)) place ∙ (ap is_line_end (get_or-append-add c.rest piece j 0) ∙ ends) in
    let behind : drop n (c.rest ++ piece) ≡ drop (suc j) piece = drop-append-add c.rest piece (suc j) in
    let cut = cut_behind (c.rest ++ piece) n inside byte (ap (list_any is_line_end) behind ∙ none) in
    let whole : whole_lines (c.rest ++ piece) ≡ c.rest ++ take (suc j) piece = cut.0 ∙ take-append-add c.rest piece (suc j) in
    let some : (length (c.rest ++ take (suc j) piece) == 0) ≡ false =
    ne_eqb (length (c.rest ++ take (suc j) piece)) 0 (λ e. omega (arith, length-append c.rest (take (suc j) piece), length-take-le (suc j) piece (omega arith), e)) in
    let given : unless_empty (c.rest ++ take (suc j) piece) ≡ Some (c.rest ++ take (suc j) piece) = ap (λ e. cond e None (Some (c.rest ++ take (suc j) piece))) some in
    let cut_off : unless_empty (whole_lines (c.rest ++ piece)) ≡ Some (c.rest ++ take (suc j) piece) = ap unless_empty whole ∙ given in
    let left : rest_of_text (c.rest ++ piece) ≡ drop (suc j) piece = cut.1 ∙ behind in
    record {
      open_line = IsOpenLine-behind c.rest piece j is within ends none fits;
      block = sym (block_of-at c piece false unshut fits ∙ cut_off);
      after = fed-left c piece (drop (suc j) piece) unshut fits left;
      whole = whole;
    }

-- the end of the text
pub last_block-shut : (c : Cutting) → c.shut ≡ true → last_block c ≡ None
unfolding last_block
last_block-shut c shut = ap (λ e. cond e None (unless_empty c.rest)) shut

pub last_block-at : (c : Cutting) → c.shut ≡ false → last_block c ≡ unless_empty c.rest
unfolding last_block
last_block-at c unshut = ap (λ e. cond e None (unless_empty c.rest)) unshut

-- the same steps as the code knows them: its fields are those of the cutting, and the searches have answered
pub record Longs (c : Cutting) (piece : List ℕ) (bytes : ℕ) : Type 0 where
  pub block : Some (c.rest ++ take bytes piece) ≡ block_of c piece
  pub after : record { rest = []; shut = true } ≡ fed c piece

pub found_long : (fields c : Cutting) (line piece : List ℕ) (bytes : ℕ) → fields ≡ c → line ≡ fields.rest → fields.shut ≡ false →
    has_too_long (line ++ piece) ≡ true → cap (line ++ piece) ≡ line ++ take bytes piece → Longs c piece bytes
found_long fields c line piece bytes are is unshut long front =
    let steps = step_long fields piece bytes unshut (ap (λ r. has_too_long (r ++ piece)) (sym is) ∙ long) (ap (λ r. cap (r ++ piece)) (sym is) ∙ (front ∙ ap (λ r. r ++ take bytes piece) is)) in
    subst (λ c. Longs c piece bytes) are (record { block = steps.0; after = steps.1 })

pub found_none : (fields c : Cutting) (line piece : List ℕ) → fields ≡ c → line ≡ fields.rest → IsOpenLine fields.rest → fields.shut ≡ false →
    has_too_long (line ++ piece) ≡ false → ((k : ℕ) → 0 ≤ k → k < length piece → eqb (get_or piece k 0) 10 ≡ true → ⊥) → Holds c piece
found_none fields c line piece are is short unshut fits none =
    subst (λ c. Holds c piece) are
    (step_held fields piece short unshut (ap (λ r. has_too_long (r ++ piece)) (sym is) ∙ fits) (HasNoEnd-from piece (λ k h. none k (omega arith) h)))

pub found_last : (fields c : Cutting) (line piece : List ℕ) (j : ℕ) → fields ≡ c → line ≡ fields.rest → IsOpenLine fields.rest → fields.shut ≡ false →
    has_too_long (line ++ piece) ≡ false → j < length piece → ((k : ℕ) → j + 1 ≤ k → k < length piece → eqb (get_or piece k 0) 10 ≡ true → ⊥) → eqb (get_or piece j 0) 10 ≡ true → Cuts c piece (j + 1)
found_last fields c line piece j are is short unshut fits within none ends =
    let next : suc j ≡ j + 1 = omega arith in
    subst (λ n. Cuts c piece n) next
    (subst (λ c. Cuts c piece (suc j)) are
    (step_cut fields piece j short unshut (ap (λ r. has_too_long (r ++ piece)) (sym is) ∙ fits) within ends (HasNoEnd-behind piece j none)))

pub ends_shut : (fields c : Cutting) → fields ≡ c → fields.shut ≡ true → None ≡ last_block c
ends_shut fields c are shut = sym (last_block-shut c (sym (ap (λ (s : Cutting). s.shut) are) ∙ shut))

pub ends_with : (fields c : Cutting) (n : ℕ) (empty : Bool) → fields ≡ c → fields.shut ≡ false → n ≡ length fields.rest → (n == 0) ≡ empty → cond empty None (Some fields.rest) ≡ last_block c
ends_with fields c n empty are unshut count is =
    sym (subst (λ c. last_block c ≡ cond empty None (Some fields.rest)) are
    (last_block-at fields unshut ∙ ap (λ e. cond e None (Some fields.rest)) (ap (λ m. m == 0) (sym count) ∙ is)))
