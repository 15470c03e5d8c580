-- The first part of a text that is cut at certain bytes.
use Rattle.std.proofs.Common.{◌≡◌, ◌<◌, ◌+◌, ◌==◌, ◌∙◌, ℕ, Bool, false, List, [], ◌∷◌, length, take, drop, get_or, inl, inr, refl, sym, ap, ap₂, arith, take_all, length-drop}
use Rattle.std.specs.List.{list_any, position_or_len, before_first, after_first, slice_split, onto_first}
use Rattle.std.proofs.lemmas.Bool.{cases_lt, or_parts, ne_eqb, eq-eqb}
use Rattle.std.proofs.lemmas.List.{drop_all}
use Rattle.std.proofs.lemmas.List.Splits.{slice_split-cons_no, slice_split_first, length-slice_split}
use Rattle.std.proofs.lemmas.List.Sums.{position_or_len_is}
use Rattle.memchr.specs.Find.{Nowhere, NoneBefore, Passes, is_byte}
use Rattle.aero_model.specs.Lines.{without_empty_last}
use Rattle.aero_grammar.proofs.Places.{position_or_len-le, list_any_missing}

-- what a search for a byte says of its place

module _ (sought : ℕ) (bytes : List ℕ) where
  pub found_at : (n : ℕ) → NoneBefore (Passes (is_byte sought) bytes) 0 (length bytes) n → Passes (is_byte sought) bytes n → position_or_len (λ b. b == sought) bytes ≡ n
  found_at n first here =
      position_or_len_is (λ b. b == sought) bytes n 0 (omega (arith, first.high))
      (λ k lt. ne_eqb (get_or bytes k 0) sought (λ is. first.before k (omega arith) lt (eq-eqb (get_or bytes k 0) sought is)))
      (λ below. here)

  pub found_nowhere : Nowhere (Passes (is_byte sought) bytes) 0 (length bytes) → position_or_len (λ b. b == sought) bytes ≡ length bytes
  found_nowhere none =
      position_or_len_is (λ b. b == sought) bytes (length bytes) 0 (omega arith)
      (λ k lt. ne_eqb (get_or bytes k 0) sought (λ is. none k (omega arith) lt (eq-eqb (get_or bytes k 0) sought is)))
      (λ below. absurd (omega arith))

without_empty_last-cons : (part : List ℕ) (parts : List (List ℕ)) → 0 < length parts → without_empty_last (part ∷ parts) ≡ part ∷ without_empty_last parts
without_empty_last-cons part [] some = absurd (omega arith)
without_empty_last-cons part (next ∷ more) some = refl

without_empty_last-alone : (part : List ℕ) → 0 < length part → without_empty_last (part ∷ []) ≡ part ∷ []
without_empty_last-alone part some =
    let filled : (length part == 0) ≡ false = ne_eqb (length part) 0 (λ e. omega (arith, e, some)) in
    rw filled refl

module _ (p : ℕ → Bool) where
  -- a text that is cut nowhere is one part
  alone : (text : List ℕ) → list_any p text ≡ false → slice_split p text ≡ text ∷ []
  alone [] none = refl
  alone (x ∷ text) none =
      let parts = or_parts (p x) (list_any p text) none in
      slice_split-cons_no p x text parts.0 ∙ ap (onto_first x) (alone text parts.1)

  -- the parts are what stands before the first such byte, and the parts of what follows it
  pub first_part : (text : List ℕ) → 0 < length text → without_empty_last (slice_split p text) ≡ before_first p text ∷ without_empty_last (slice_split p (after_first p text))
  first_part text some = elim (cases_lt (position_or_len p text) (length text)) [
    | inl below ↦
        let behind = slice_split p (after_first p text) in
        let many : 0 < length behind = omega (arith, length-slice_split p (after_first p text)) in
        ap without_empty_last (slice_split_first p text 0 below) ∙ without_empty_last-cons (before_first p text) behind many
    | inr late ↦
        let at : position_or_len p text ≡ length text = omega (arith, late, position_or_len-le p text) in
        let before : before_first p text ≡ text = ap (λ n. take n text) at ∙ take_all (length text) text (omega arith) in
        let after : after_first p text ≡ [] = ap (λ n. drop (n + 1) text) at ∙ drop_all (length text + 1) text (omega arith) in
        ap without_empty_last (alone text (list_any_missing p text at)) ∙ without_empty_last-alone text some
        ∙ ap₂ (λ part behind. part ∷ without_empty_last (slice_split p behind)) (sym before) (sym after)
  ]

  pub after_shorter : (text behind : List ℕ) → 0 < length text → behind ≡ after_first p text → length behind < length text
  after_shorter text behind some is =
      let long : length behind ≡ length (after_first p text) = ap length is in
      omega (arith, long, some, length-drop (position_or_len p text + 1) text)
