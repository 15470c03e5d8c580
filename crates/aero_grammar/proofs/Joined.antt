-- Readings one after the other: it doesn't matter how they are grouped.
use Rattle.std.proofs.Common.{◌≡◌, ℕ, Bool, true, false, cond, take, ◌+◌, List, [], ◌∷◌, ◌++◌, map, Option, Some, None, option_map, refl, sym, ◌∙◌, ap, add_assoc, zero-add, add-zero}
use Rattle.std.proofs.lemmas.List.{map-append, append_assoc, append-nil}
use Rattle.aero_model.specs.declared.verdict.LineFault.{LineFault}
use Rattle.aero_model.specs.declared.verdict.LineFault.TheVariants.{TooLong}
use Rattle.aero_model.specs.Lines.{lines_of, is_too_long, up_to_too_long, cap, EndsLine, AreBlocks}
use Rattle.aero_model.specs.Named.{Named}
use Rattle.aero_model.proofs.LinesJoined.{lines_of-append, cut_lines, too_long_cut, lines_of-cap}
use Rattle.std.specs.List.{concat, list_any}
use Rattle.aero_grammar.specs.Meaning.{meaning, Faulty}
use Rattle.aero_grammar.specs.Reading.{Reading, after_lines, followed_by, whole_reading, line_reading, reading_of}

abbrev pub reading : List (ℕ × Named) → ℕ → Option (ℕ × LineFault) → Reading
reading events lines fault = record { events = events; lines = lines; fault = fault }

-- equal parts make equal readings
same_reading : {e e' : List (ℕ × Named)} {n n' : ℕ} {f f' : Option (ℕ × LineFault)} → e ≡ e' → n ≡ n' → f ≡ f' → reading e n f ≡ reading e' n' f'
same_reading p q r = λ i. reading (p i) (q i) (r i)

after_lines-again : {A : Type 0} (m n : ℕ) (x : ℕ × A) → after_lines m (after_lines n x) ≡ after_lines (m + n) x
after_lines-again m n x = λ i. (sym (add_assoc m n x.0) i, x.1)

map-after_lines-again : {A : Type 0} (m n : ℕ) (xs : List (ℕ × A)) → map (after_lines m) (map (after_lines n) xs) ≡ map (after_lines (m + n)) xs
map-after_lines-again m n [] = refl
map-after_lines-again m n (x ∷ xs) = λ i. after_lines-again m n x i ∷ map-after_lines-again m n xs i

fault-again : (m n : ℕ) (f : Option (ℕ × LineFault)) → option_map (after_lines m) (option_map (after_lines n) f) ≡ option_map (after_lines (m + n)) f
fault-again m n None = refl
fault-again m n (Some f) = ap Some (after_lines-again m n f)

events-grouped : (a b c : List (ℕ × Named)) (m n : ℕ) →
    (a ++ map (after_lines m) b) ++ map (after_lines (m + n)) c ≡ a ++ map (after_lines m) (b ++ map (after_lines n) c)
events-grouped a b c m n =
    append_assoc a (map (after_lines m) b) (map (after_lines (m + n)) c)
    ∙ ap (λ xs. a ++ xs) (ap (λ ys. map (after_lines m) b ++ ys) (sym (map-after_lines-again m n c)) ∙ sym (map-append (after_lines m) b (map (after_lines n) c)))

followed_by-grouped : (e : List (ℕ × Named)) (m : ℕ) (f : Option (ℕ × LineFault)) (d : List (ℕ × Named)) (n : ℕ) (g : Option (ℕ × LineFault)) (c : Reading) →
    followed_by (followed_by (reading e m f) (reading d n g)) c ≡ followed_by (reading e m f) (followed_by (reading d n g) c)
followed_by-grouped e m (Some f) d n g c = refl
followed_by-grouped e m None d n (Some g) c = refl
followed_by-grouped e m None d n None c = same_reading (events-grouped e d c.events m n) (add_assoc m n c.lines) (sym (fault-again m n c.fault))

-- the text a, then b, then c
pub followed_by_assoc : (a b c : Reading) → followed_by (followed_by a b) c ≡ followed_by a (followed_by b c)
followed_by_assoc a b c = followed_by-grouped a.events a.lines a.fault b.events b.lines b.fault c

after_no_lines : {A : Type 0} (x : ℕ × A) → after_lines 0 x ≡ x
after_no_lines x = λ i. (zero-add x.0 i, x.1)

map-after_no_lines : {A : Type 0} (xs : List (ℕ × A)) → map (after_lines 0) xs ≡ xs
map-after_no_lines [] = refl
map-after_no_lines (x ∷ xs) = λ i. after_no_lines x i ∷ map-after_no_lines xs i

fault-after_no_lines : (f : Option (ℕ × LineFault)) → option_map (after_lines 0) f ≡ f
fault-after_no_lines None = refl
fault-after_no_lines (Some f) = ap Some (after_no_lines f)

-- after nothing
pub nothing_followed_by : (r : Reading) → followed_by (reading [] 0 None) r ≡ r
nothing_followed_by r = same_reading (map-after_no_lines r.events) (zero-add r.lines) (fault-after_no_lines r.fault)

followed_by-nothing_at : (e : List (ℕ × Named)) (n : ℕ) (f : Option (ℕ × LineFault)) → followed_by (reading e n f) (reading [] 0 None) ≡ reading e n f
followed_by-nothing_at e n None = same_reading (append-nil e) (add-zero n) refl
followed_by-nothing_at e n (Some f) = refl

-- before nothing
pub followed_by_nothing : (r : Reading) → followed_by r (reading [] 0 None) ≡ r
followed_by_nothing r = followed_by-nothing_at r.events r.lines r.fault

-- what stands in two rows of texts is what stands in the first, followed by what stands in the second
pub whole_reading-append : (rs more : List Reading) → whole_reading (rs ++ more) ≡ followed_by (whole_reading rs) (whole_reading more)
whole_reading-append [] more = sym (nothing_followed_by (whole_reading more))
whole_reading-append (r ∷ rs) more =
    ap (followed_by r) (whole_reading-append rs more) ∙ sym (followed_by_assoc r (whole_reading rs) (whole_reading more))

-- a text that ends in a byte 10, and what follows it
reading_of-front : (front back : List ℕ) → reading_of (front ++ 10 ∷ back) ≡ followed_by (reading_of (front ++ 10 ∷ [])) (reading_of back)
reading_of-front front back =
    ap (λ lines. whole_reading (map (λ line. line_reading (meaning line)) lines)) (lines_of-append front back)
    ∙ ap whole_reading (map-append (λ line. line_reading (meaning line)) (lines_of (front ++ 10 ∷ [])) (lines_of back))
    ∙ whole_reading-append (map (λ line. line_reading (meaning line)) (lines_of (front ++ 10 ∷ []))) (map (λ line. line_reading (meaning line)) (lines_of back))

reading_of-append : (block back : List ℕ) → EndsLine block → reading_of (block ++ back) ≡ followed_by (reading_of block) (reading_of back)
reading_of-append block back ends =
    rw (ends.1, append_assoc ends.0 (10 ∷ []) back) (reading_of-front ends.0 back)

-- what the blocks of a text say, one after the other, is what the text says
pub reading_of-concat : (blocks : List (List ℕ)) → AreBlocks blocks → whole_reading (map reading_of blocks) ≡ reading_of (concat blocks)
reading_of-concat [] are = refl
reading_of-concat (block ∷ []) are = followed_by_nothing (reading_of block) ∙ ap reading_of (sym (append-nil block))
reading_of-concat (block ∷ next ∷ more) are =
    ap (followed_by (reading_of block)) (reading_of-concat (next ∷ more) are.1) ∙ sym (reading_of-append block (concat (next ∷ more)) are.0)

-- a line that is too long says so, however long it is
meaning_too_long : (line : List ℕ) → is_too_long line ≡ true → meaning line ≡ Faulty TooLong
meaning_too_long line long = rw long refl

too_long_reading : (line : List ℕ) → is_too_long line ≡ true → line_reading (meaning line) ≡ reading [] 1 (Some (1, TooLong))
too_long_reading line long = ap line_reading (meaning_too_long line long)

-- nothing counts after a line that is too long
too_long_first : (line : List ℕ) (more : Reading) → is_too_long line ≡ true → followed_by (line_reading (meaning line)) more ≡ reading [] 1 (Some (1, TooLong))
too_long_first line more long = ap (λ r. followed_by r more) (too_long_reading line long)

readings : List (List ℕ) → Reading
readings lines = whole_reading (map (λ line. line_reading (meaning line)) lines)

cut_step : (b : Bool) (line : List ℕ) (more : List (List ℕ)) → is_too_long line ≡ b → readings (cut_lines more) ≡ readings more →
    readings (cond b (take 4097 line ∷ []) (line ∷ cut_lines more)) ≡ readings (line ∷ more)
unfolding readings
cut_step true line more is later = too_long_first (take 4097 line) (whole_reading []) (too_long_cut line is) ∙ sym (too_long_first line (readings more) is)
cut_step false line more is later = ap (followed_by (line_reading (meaning line))) later

readings_of_cut : (lines : List (List ℕ)) → readings (cut_lines lines) ≡ readings lines
unfolding readings
readings_of_cut [] = refl
readings_of_cut (line ∷ more) = cut_step (is_too_long line) line more refl (readings_of_cut more)

cap_step : (b : Bool) (bytes : List ℕ) → list_any is_too_long (lines_of bytes) ≡ b → reading_of (cap bytes) ≡ reading_of bytes
unfolding readings
cap_step true bytes some = ap readings (lines_of-cap bytes some) ∙ readings_of_cut (lines_of bytes)
cap_step false bytes none = ap (λ b. reading_of (cond b (up_to_too_long (lines_of bytes)) bytes)) none

-- what is dropped behind a line that is too long says nothing
pub reading_of-cap : (bytes : List ℕ) → reading_of (cap bytes) ≡ reading_of bytes
reading_of-cap bytes = cap_step (list_any is_too_long (lines_of bytes)) bytes refl
