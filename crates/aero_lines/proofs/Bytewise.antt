-- A text read byte by byte: whether a line is too long, and what is kept.
use Rattle.std.proofs.Common.{◌≡◌, ◌<◌, ◌≤◌, ◌+◌, ℕ, zero, suc, Bool, true, false, cond, ltb, eqb, List, [], ◌∷◌, ◌++◌, length, take, drop, get_or, refl, sym, ◌∙◌, ap, arith, append_assoc, ◌-◌}
use Rattle.std.proofs.lemmas.Bool.{ltb-true, ltb-false, lt-ltb, eq-eqb, eqb-true, ne_eqb}
use Rattle.std.proofs.lemmas.List.{length-take-le, length-drop, get_or-take, drop-drop}
use Rattle.std.proofs.Math.Seq.{take-add}
use Rattle.aero_model.specs.Lines.{is_line_end}
use Rattle.aero_lines.specs.Cutting.{IsOpenLine}

-- whether a line is too long, where the first line has this many bytes more, before the text
abbrev pub runs_over : ℕ → List ℕ → Bool
runs_over before [] = false
runs_over before (b ∷ bytes) = cond (is_line_end b) (runs_over 0 bytes) (cond (ltb before 4096) (runs_over (suc before) bytes) true)

-- the text up to the byte that shows this
abbrev pub kept : ℕ → List ℕ → List ℕ
kept before [] = []
kept before (b ∷ bytes) = b ∷ cond (is_line_end b) (kept 0 bytes) (cond (ltb before 4096) (kept (suc before) bytes) [])

-- how many bytes the line has that the text leaves open
abbrev pub column : ℕ → List ℕ → ℕ
column before [] = before
column before (b ∷ bytes) = cond (is_line_end b) (column 0 bytes) (column (suc before) bytes)

-- a byte 10 within the bytes that a line may still have: what follows it is a text by itself
pub runs_over-end : (before : ℕ) (t : List ℕ) (j : ℕ) → j < length t → j + before ≤ 4096 → get_or t j 0 ≡ 10 → runs_over before t ≡ runs_over 0 (drop (suc j) t)
runs_over-end before [] j within room is = absurd (omega arith)
runs_over-end before (b ∷ t) zero within room is = ap (λ e. cond e (runs_over 0 t) (cond (ltb before 4096) (runs_over (suc before) t) true)) (eq-eqb b 10 is)
runs_over-end before (b ∷ t) (suc j) within room is =
    step (is_line_end b) (ltb before 4096) (lt-ltb before 4096 (omega arith)) (runs_over-end 0 t j (omega arith) (omega arith) is) (runs_over-end (suc before) t j (omega arith) (omega arith) is)
  where
    step : (e f : Bool) → f ≡ true → {x y z : Bool} → x ≡ z → y ≡ z → cond e x (cond f y true) ≡ z
    step true f is p q = p
    step false true is p q = q
    step false false is p q = cc

pub kept-end : (before : ℕ) (t : List ℕ) (j : ℕ) → j < length t → j + before ≤ 4096 → get_or t j 0 ≡ 10 → kept before t ≡ take (suc j) t ++ kept 0 (drop (suc j) t)
kept-end before [] j within room is = absurd (omega arith)
kept-end before (b ∷ t) zero within room is = ap (λ e. b ∷ cond e (kept 0 t) (cond (ltb before 4096) (kept (suc before) t) [])) (eq-eqb b 10 is)
kept-end before (b ∷ t) (suc j) within room is =
    ap (λ more. b ∷ more) (step (is_line_end b) (ltb before 4096) (lt-ltb before 4096 (omega arith)) (kept-end 0 t j (omega arith) (omega arith) is) (kept-end (suc before) t j (omega arith) (omega arith) is))
  where
    step : (e f : Bool) → f ≡ true → {x y z : List ℕ} → x ≡ z → y ≡ z → cond e x (cond f y []) ≡ z
    step true f is p q = p
    step false true is p q = q
    step false false is p q = cc

-- no byte 10 among one byte more than a line may still have
pub runs_over-no_end : (before n : ℕ) (t : List ℕ) → n ≤ length t → n + before ≡ 4097 → ((k : ℕ) → k < n → get_or t k 0 ≡ 10 → ⊥) → before ≤ 4096 →
    (runs_over before t ≡ true) × (kept before t ≡ take n t)
runs_over-no_end before zero t within count none room = absurd (omega arith)
runs_over-no_end before (suc n) [] within count none room = absurd (omega arith)
runs_over-no_end before (suc n) (b ∷ t) within count none room =
    step (is_line_end b) (ltb before 4096) refl (ne_eqb b 10 (none 0 (omega arith)))
    (λ more. runs_over-no_end (suc before) n t (omega arith) (omega arith) (λ k h. none (suc k) (omega arith)) (omega (arith, ltb-true before 4096 more)))
    (λ over. let all : n ≡ 0 = omega (arith, ltb-false before 4096 over) in ap (λ m. take m t) (sym all))
  where
    step : (e f : Bool) → ltb before 4096 ≡ f → e ≡ false →
        (ltb before 4096 ≡ true → (runs_over (suc before) t ≡ true) × (kept (suc before) t ≡ take n t)) → (ltb before 4096 ≡ false → [] ≡ take n t) →
        (cond e (runs_over 0 t) (cond f (runs_over (suc before) t) true) ≡ true) × (b ∷ cond e (kept 0 t) (cond f (kept (suc before) t) []) ≡ b ∷ take n t)
    step true f is stays more over = cc
    step false true is stays more over = ((more is).0, ap (λ rest. b ∷ rest) (more is).1)
    step false false is stays more over = (refl, ap (λ rest. b ∷ rest) (over is))

-- too few bytes for a line that is too long
pub runs_over-few : (before : ℕ) (t : List ℕ) → length t + before ≤ 4096 → runs_over before t ≡ false
runs_over-few before [] few = refl
runs_over-few before (b ∷ t) few =
    step (is_line_end b) (ltb before 4096) (lt-ltb before 4096 (omega arith)) (runs_over-few 0 t (omega arith)) (runs_over-few (suc before) t (omega arith))
  where
    step : (e f : Bool) → f ≡ true → {x y : Bool} → x ≡ false → y ≡ false → cond e x (cond f y true) ≡ false
    step true f is p q = p
    step false true is p q = q
    step false false is p q = cc

-- where no line is too long, all is kept
pub kept-all : (before : ℕ) (t : List ℕ) → runs_over before t ≡ false → kept before t ≡ t
kept-all before [] none = refl
kept-all before (b ∷ t) none = ap (λ more. b ∷ more) (step (is_line_end b) (ltb before 4096) none (kept-all 0 t) (kept-all (suc before) t))
  where
    step : (e f : Bool) → cond e (runs_over 0 t) (cond f (runs_over (suc before) t) true) ≡ false → (runs_over 0 t ≡ false → kept 0 t ≡ t) → (runs_over (suc before) t ≡ false → kept (suc before) t ≡ t) →
        cond e (kept 0 t) (cond f (kept (suc before) t) []) ≡ t
    step true f is p q = p is
    step false true is p q = q is
    step false false is p q = cc

-- the text from `start` on, with `before` bytes before it in its first line, tells what the whole does
pub record IsScanned (length_before : ℕ) (piece : List ℕ) (before start : ℕ) : Type 0 where
  pub in_piece : start ≤ length piece
  pub in_line : before ≤ 4096
  pub long : runs_over length_before piece ≡ runs_over before (drop start piece)
  pub front : kept length_before piece ≡ take start piece ++ kept before (drop start piece)

pub IsScanned-none : (line piece : List ℕ) → IsOpenLine line → IsScanned (length line) piece (length line) 0
IsScanned-none line piece is = record { in_piece = omega arith; in_line = is.short; long = refl; front = refl }

-- the window holds no byte 10: a line is too long
pub IsScanned-long : (size : ℕ) (piece : List ℕ) (before start end : ℕ) → IsScanned size piece before start → end ≡ start + (4096 - before) + 1 → end ≤ length piece →
    ((k : ℕ) → 0 ≤ k → k < length (take (end - start) (drop start piece)) → eqb (get_or (take (end - start) (drop start piece)) k 0) 10 ≡ true → ⊥) →
    (runs_over size piece ≡ true) × (kept size piece ≡ take end piece)
IsScanned-long size piece before start end is end_is within none =
    let n = end - start in
    let t = drop start piece in
    let line_fits = is.in_line in
    let room : n ≤ length t = omega (arith, length-drop start piece) in
    let window : length (take n t) ≡ n = length-take-le n t room in
    let count : n + before ≡ 4097 = omega arith in
    let over = runs_over-no_end before n t room count (λ k h e. none k (omega arith) (omega arith) (eq-eqb (get_or (take n t) k 0) 10 (get_or-take n t k 0 h ∙ e))) is.in_line in
    let whole : start + n ≡ end = omega arith in
    (is.long ∙ over.0, is.front ∙ (ap (λ back. take start piece ++ back) over.1 ∙ (sym (take-add start n piece) ∙ ap (λ m. take m piece) whole)))

-- the window holds a byte 10: what follows it is left
pub IsScanned-more : (size : ℕ) (piece : List ℕ) (before start end last : ℕ) → IsScanned size piece before start → end ≡ start + (4096 - before) + 1 → end ≤ length piece →
    last < length (take (end - start) (drop start piece)) → eqb (get_or (take (end - start) (drop start piece)) last 0) 10 ≡ true →
    IsScanned size piece 0 (start + (last + 1))
IsScanned-more size piece before start end last is end_is within high at_end =
    let n = end - start in
    let t = drop start piece in
    let line_fits = is.in_line in
    let room : n ≤ length t = omega (arith, length-drop start piece) in
    let window : length (take n t) ≡ n = length-take-le n t room in
    let below : last < n = omega arith in
    let inside : last < length t = omega arith in
    let fits : last + before ≤ 4096 = omega arith in
    let byte : get_or t last 0 ≡ 10 = sym (get_or-take n t last 0 below) ∙ eqb-true (get_or (take n t) last 0) 10 at_end in
    let next : suc last ≡ last + 1 = omega arith in
    let after : drop (suc last) t ≡ drop (start + (last + 1)) piece = drop-drop (suc last) start piece ∙ ap (λ m. drop (start + m) piece) next in
    let read : take start piece ++ take (suc last) t ≡ take (start + (last + 1)) piece = sym (take-add start (suc last) piece) ∙ ap (λ m. take (start + m) piece) next in
    record {
      in_piece = omega (arith, length-drop start piece);
      in_line = omega arith;
      long = is.long ∙ (runs_over-end before t last inside fits byte ∙ ap (runs_over 0) after);
      front =
          is.front
          ∙ (ap (λ back. take start piece ++ back) (kept-end before t last inside fits byte)
          ∙ (sym (append_assoc (take start piece) (take (suc last) t) (kept 0 (drop (suc last) t)))
          ∙ (ap (λ read. read ++ kept 0 (drop (suc last) t)) read ∙ ap (λ left. take (start + (last + 1)) piece ++ kept 0 left) after)));
    }
