-- What the reading byte by byte tells of a text's lines.
use Rattle.std.proofs.Common.{◌≡◌, ◌≤◌, ℕ, suc, Bool, true, false, cond, ltb, ◌||◌, List, [], ◌∷◌, ◌++◌, length, take, refl, sym, ◌∙◌, ap, ◌⊎◌, inl, inr, arith, append_assoc}
use Rattle.std.proofs.lemmas.Bool.{cases_Bool, ltb-true, ltb-false, lt-ltb, le-ltb, eqb-true, ne_eqb, or_parts, or_from}
use Rattle.std.proofs.lemmas.List.{append-nil, length-append, length_push, take_at}
use Rattle.std.proofs.lemmas.List.Folds.{list_any-append}
use Rattle.std.specs.Prelude.{◌==◌}
use Rattle.std.specs.List.{slice_split, onto_first, list_any}
use Rattle.aero_model.specs.Lines.{is_line_end, without_empty_last, lines_of, is_too_long, up_to_too_long, cap}
use Rattle.aero_lines.specs.Cutting.{has_too_long, IsOpenLine}
use Rattle.aero_lines.proofs.Bytewise.{runs_over, kept, kept-all}

-- a row of parts that isn't empty
IsRow : List (List ℕ) → Type 0
IsRow [] = ⊥
IsRow (x ∷ xs) = Unit {0}

onto_first-row : (x : ℕ) (xs : List (List ℕ)) → IsRow xs → IsRow (onto_first x xs)
unfolding IsRow
onto_first-row x [] row = absurd row
onto_first-row x (y ∷ ys) row = tt

split_row : (bytes : List ℕ) → IsRow (slice_split is_line_end bytes)
unfolding IsRow
split_row [] = tt
split_row (x ∷ bytes) = at (is_line_end x) (slice_split is_line_end bytes) (split_row bytes)
  where
    at : (b : Bool) (parts : List (List ℕ)) → IsRow parts → IsRow (cond b ([] ∷ parts) (onto_first x parts))
    at true parts row = tt
    at false parts row = onto_first-row x parts row

-- the parts, the line put before the first
abbrev onto : List ℕ → List (List ℕ) → List (List ℕ)
onto line [] = line ∷ []
onto line (part ∷ parts) = (line ++ part) ∷ parts

onto-nil : (parts : List (List ℕ)) → IsRow parts → parts ≡ onto [] parts
unfolding IsRow
onto-nil [] row = absurd row
onto-nil (part ∷ parts) row = refl

onto_first-onto : (x : ℕ) (line : List ℕ) (parts : List (List ℕ)) → onto_first x (onto line parts) ≡ onto (x ∷ line) parts
onto_first-onto x line [] = refl
onto_first-onto x line (part ∷ parts) = refl

slice_split-open : (line t : List ℕ) → list_any is_line_end line ≡ false → slice_split is_line_end (line ++ t) ≡ onto line (slice_split is_line_end t)
slice_split-open [] t none = onto-nil (slice_split is_line_end t) (split_row t)
slice_split-open (x ∷ line) t none =
    let parts = or_parts (is_line_end x) (list_any is_line_end line) none in
    ap (λ b. cond b ([] ∷ slice_split is_line_end (line ++ t)) (onto_first x (slice_split is_line_end (line ++ t)))) parts.0
    ∙ (ap (onto_first x) (slice_split-open line t parts.1) ∙ onto_first-onto x line (slice_split is_line_end t))

-- a line that is too long, whatever follows
over_first : (line part : List ℕ) (lines : List (List ℕ)) → length line ≡ 4097 →
    (list_any is_too_long ((line ++ part) ∷ lines) ≡ true) × (up_to_too_long ((line ++ part) ∷ lines) ≡ line)
over_first line part lines size =
    let long : is_too_long (line ++ part) ≡ true = lt-ltb 4096 (length (line ++ part)) (omega (arith, length-append line part)) in (
      ap (λ e. e || list_any is_too_long lines) long,
      ap (λ e. cond e (take 4097 (line ++ part)) (line ++ part ++ 10 ∷ up_to_too_long lines)) long ∙ take_at line part 4097 size,
    )

over_parts : (line : List ℕ) (parts : List (List ℕ)) → IsRow parts → length line ≡ 4097 →
    (list_any is_too_long (without_empty_last (onto line parts)) ≡ true) × (up_to_too_long (without_empty_last (onto line parts)) ≡ line)
unfolding IsRow
over_parts line [] row size = absurd row
over_parts line (part ∷ []) row size =
    let some : (length (line ++ part) == 0) ≡ false = ne_eqb (length (line ++ part)) 0 (λ e. omega (arith, length-append line part, e, size)) in
    let lines : cond (length (line ++ part) == 0) [] ((line ++ part) ∷ []) ≡ (line ++ part) ∷ [] = ap (λ e. cond e [] ((line ++ part) ∷ [])) some in
    let first = over_first line part [] size in
    (ap (list_any is_too_long) lines ∙ first.0, ap up_to_too_long lines ∙ first.1)
over_parts line (part ∷ next ∷ more) row size = over_first line part (without_empty_last (next ∷ more)) size

over : (line t : List ℕ) → list_any is_line_end line ≡ false → length line ≡ 4097 →
    (has_too_long (line ++ t) ≡ true) × (up_to_too_long (lines_of (line ++ t)) ≡ line)
over line t none size =
    let parts = over_parts line (slice_split is_line_end t) (split_row t) size in
    let is = ap without_empty_last (slice_split-open line t none) in
    (ap (list_any is_too_long) is ∙ parts.0, ap up_to_too_long is ∙ parts.1)

-- the lines of an open line and of what follows it, read byte by byte
record Reads (line t : List ℕ) (before : ℕ) : Type 0 where
  pub long : has_too_long (line ++ t) ≡ runs_over before t
  pub front : runs_over before t ≡ true → up_to_too_long (lines_of (line ++ t)) ≡ line ++ kept before t

not_too_long : (line : List ℕ) → length line ≤ 4096 → is_too_long line ≡ false
not_too_long line short = le-ltb 4096 (length line) short

reads_nothing : (line : List ℕ) → list_any is_line_end line ≡ false → length line ≤ 4096 → has_too_long (line ++ []) ≡ false
reads_nothing line none short =
    ap (λ parts. list_any is_too_long (without_empty_last parts)) (slice_split-open line [] none)
    ∙ one (length (line ++ []) == 0) (not_too_long (line ++ []) (omega (arith, ap length (append-nil line))))
  where
    one : (e : Bool) → is_too_long (line ++ []) ≡ false → list_any is_too_long (cond e [] ((line ++ []) ∷ [])) ≡ false
    one true is = refl
    one false is = ap (λ e. e || false) is

-- a text that begins with a whole line
lines_of_whole : (line t : List ℕ) (b : ℕ) → is_line_end b ≡ true → list_any is_line_end line ≡ false → lines_of (line ++ b ∷ t) ≡ (line ++ []) ∷ lines_of t
unfolding IsRow
lines_of_whole line t b ends none =
    ap without_empty_last (slice_split-open line (b ∷ t) none ∙ ap (λ e. onto line (cond e ([] ∷ slice_split is_line_end t) (onto_first b (slice_split is_line_end t)))) ends)
    ∙ more (slice_split is_line_end t) (split_row t)
  where
    more : (parts : List (List ℕ)) → IsRow parts → without_empty_last ((line ++ []) ∷ parts) ≡ (line ++ []) ∷ without_empty_last parts
    more [] row = absurd row
    more (part ∷ parts) row = refl

reads_whole : (line t : List ℕ) (b before : ℕ) → is_line_end b ≡ true → list_any is_line_end line ≡ false → length line ≤ 4096 → Reads [] t 0 → Reads line (b ∷ t) before
reads_whole line t b before ends none short rest =
    let lines = lines_of_whole line t b ends none in
    let fits = not_too_long (line ++ []) (omega (arith, ap length (append-nil line))) in
    let over_is : runs_over before (b ∷ t) ≡ runs_over 0 t = ap (λ e. cond e (runs_over 0 t) (cond (ltb before 4096) (runs_over (suc before) t) true)) ends in
    let kept_is : kept before (b ∷ t) ≡ b ∷ kept 0 t = ap (λ e. b ∷ cond e (kept 0 t) (cond (ltb before 4096) (kept (suc before) t) [])) ends in
    record {
      long = ap (list_any is_too_long) lines ∙ (ap (λ e. e || list_any is_too_long (lines_of t)) fits ∙ (rest.long ∙ sym over_is));
      front = λ long.
          ap up_to_too_long lines
          ∙ (ap (λ e. cond e (take 4097 (line ++ [])) ((line ++ []) ++ 10 ∷ up_to_too_long (lines_of t))) fits
          ∙ (ap (λ front. front ++ 10 ∷ up_to_too_long (lines_of t)) (append-nil line)
          ∙ (ap (λ back. line ++ 10 ∷ back) (rest.front (sym over_is ∙ long))
          ∙ (ap (λ e. line ++ e ∷ kept 0 t) (sym (eqb-true b 10 ends)) ∙ ap (λ back. line ++ back) (sym kept_is)))));
    }

one_more : (line : List ℕ) (b : ℕ) → list_any is_line_end line ≡ false → is_line_end b ≡ false → list_any is_line_end (line ++ b ∷ []) ≡ false
one_more line b none stays = list_any-append is_line_end line (b ∷ []) ∙ or_from (list_any is_line_end line) (is_line_end b || false) none (or_from (is_line_end b) false stays refl)

reads_more : (line t : List ℕ) (b before : ℕ) → is_line_end b ≡ false → ltb before 4096 ≡ true → Reads (line ++ b ∷ []) t (suc before) → Reads line (b ∷ t) before
reads_more line t b before stays room rest =
    let join = append_assoc line (b ∷ []) t in
    let over_is : runs_over before (b ∷ t) ≡ runs_over (suc before) t = ap (λ e. cond e (runs_over 0 t) (cond (ltb before 4096) (runs_over (suc before) t) true)) stays ∙ ap (λ e. cond e (runs_over (suc before) t) true) room in
    let kept_is : kept before (b ∷ t) ≡ b ∷ kept (suc before) t = ap (λ e. b ∷ cond e (kept 0 t) (cond (ltb before 4096) (kept (suc before) t) [])) stays ∙ ap (λ e. b ∷ cond e (kept (suc before) t) []) room in
    record {
      long = ap has_too_long (sym join) ∙ (rest.long ∙ sym over_is);
      front = λ long.
          ap (λ text. up_to_too_long (lines_of text)) (sym join)
          ∙ (rest.front (sym over_is ∙ long) ∙ (append_assoc line (b ∷ []) (kept (suc before) t) ∙ ap (λ back. line ++ back) (sym kept_is)));
    }

reads_over : (line t : List ℕ) (b before : ℕ) → length line ≡ before → list_any is_line_end line ≡ false → before ≤ 4096 → is_line_end b ≡ false → ltb before 4096 ≡ false → Reads line (b ∷ t) before
reads_over line t b before size none short stays full =
    let join = append_assoc line (b ∷ []) t in
    let long = over (line ++ b ∷ []) t (one_more line b none stays) (omega (arith, length_push line b, ltb-false before 4096 full)) in
    let over_is : runs_over before (b ∷ t) ≡ true = ap (λ e. cond e (runs_over 0 t) (cond (ltb before 4096) (runs_over (suc before) t) true)) stays ∙ ap (λ e. cond e (runs_over (suc before) t) true) full in
    let kept_is : kept before (b ∷ t) ≡ b ∷ [] = ap (λ e. b ∷ cond e (kept 0 t) (cond (ltb before 4096) (kept (suc before) t) [])) stays ∙ ap (λ e. b ∷ cond e (kept (suc before) t) []) full in
    record {
      long = ap has_too_long (sym join) ∙ (long.0 ∙ sym over_is);
      front = λ _. ap (λ text. up_to_too_long (lines_of text)) (sym join) ∙ (long.1 ∙ ap (λ back. line ++ back) (sym kept_is));
    }

reads : (line t : List ℕ) (before : ℕ) → length line ≡ before → list_any is_line_end line ≡ false → before ≤ 4096 → Reads line t before
reads line [] before size none short =
    record { long = reads_nothing line none (omega arith); front = λ long. cc }
reads line (b ∷ t) before size none short =
    go (cases_Bool (is_line_end b)) (cases_Bool (ltb before 4096)) (reads [] t 0 refl refl (omega arith)) (λ stays room. reads (line ++ b ∷ []) t (suc before) (omega (arith, length_push line b)) (one_more line b none stays) (omega (arith, ltb-true before 4096 room)))
  where
    go : (is_line_end b ≡ true) ⊎ (is_line_end b ≡ false) → (ltb before 4096 ≡ true) ⊎ (ltb before 4096 ≡ false) → Reads [] t 0 →
        (is_line_end b ≡ false → ltb before 4096 ≡ true → Reads (line ++ b ∷ []) t (suc before)) → Reads line (b ∷ t) before
    go (inl ends) room rest more = reads_whole line t b before ends none (omega arith) rest
    go (inr stays) (inl room) rest more = reads_more line t b before stays room (more stays room)
    go (inr stays) (inr full) rest more = reads_over line t b before size none short stays full

-- whether a line of an open line and what follows is too long
pub has_too_long-is : (line t : List ℕ) → IsOpenLine line → has_too_long (line ++ t) ≡ runs_over (length line) t
has_too_long-is line t is = (reads line t (length line) refl is.no_end is.short).long

-- and what the cap keeps of them
pub cap-is : (line t : List ℕ) → IsOpenLine line → cap (line ++ t) ≡ line ++ kept (length line) t
cap-is line t is = go (cases_Bool (runs_over (length line) t))
  where
    have : Reads line t (length line)
    have = reads line t (length line) refl is.no_end is.short

    go : (runs_over (length line) t ≡ true) ⊎ (runs_over (length line) t ≡ false) → cap (line ++ t) ≡ line ++ kept (length line) t
    go (inl long) = ap (λ e. cond e (up_to_too_long (lines_of (line ++ t))) (line ++ t)) (have.long ∙ long) ∙ have.front long
    go (inr none) = ap (λ e. cond e (up_to_too_long (lines_of (line ++ t))) (line ++ t)) (have.long ∙ none) ∙ ap (λ back. line ++ back) (sym (kept-all (length line) t none))

-- so many bytes show that a line is too long
pub cut_at : (line t : List ℕ) (bytes : ℕ) → IsOpenLine line → (runs_over (length line) t ≡ true) × (kept (length line) t ≡ take bytes t) →
    (has_too_long (line ++ t) ≡ true) × (cap (line ++ t) ≡ line ++ take bytes t)
cut_at line t bytes is shows = (has_too_long-is line t is ∙ shows.0, cap-is line t is ∙ ap (λ back. line ++ back) shows.1)
