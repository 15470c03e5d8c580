-- The fields of a line.
use Rattle.std.proofs.Common.{◌≡◌, ◌<◌, ◌+◌, ◌-◌, ◌==◌, ℕ, true, false, not, List, length, take, drop, get_or, refl, sym, ◌∙◌, ap, arith}
use Rattle.std.specs.List.{position_or_len, list_any, before_first, after_first}
use Rattle.std.proofs.lemmas.Bool.{and_left, ne_eqb}
use Rattle.aero_model.specs.Names.{is_bad_byte, is_barred}
use Rattle.aero_grammar.specs.Meaning.{is_bar, is_parenthesis, thread_field, operation_field, trimmed, is_unclosed, target_bytes}
use Rattle.aero_grammar.proofs.Places.{list_any_missing, list_any_found, list_any-take, list_any-drop, list_any-field}

-- an operation's field whose first `(` stands at a place
module _ (field : List ℕ) (place : ℕ) (at : place ≡ position_or_len is_parenthesis field) where
  pub unopened : place ≡ length field → is_unclosed field ≡ false
  unopened end = and_left (list_any is_parenthesis field) (not (get_or field (length field - 1) 0 == 41)) (list_any_missing is_parenthesis field (sym at ∙ end))

  pub unclosed : place < length field → (get_or field (length field - 1) 0 ≡ 41 → ⊥) → is_unclosed field ≡ true
  unclosed below other =
      let opened : list_any is_parenthesis field ≡ true = list_any_found is_parenthesis field (omega (arith, at, below)) in
      let ended : (get_or field (length field - 1) 0 == 41) ≡ false = ne_eqb (get_or field (length field - 1) 0) 41 other in
      rw (opened, ended) refl

pub list_any-target_bytes : (field : List ℕ) → list_any is_barred field ≡ false → list_any is_barred (target_bytes field) ≡ false
list_any-target_bytes field clean =
    let inside = after_first is_parenthesis field in
    list_any-take is_barred (length inside - 1) inside (list_any-drop is_barred (position_or_len is_parenthesis field + 1) field clean)

-- the operation's field, behind a first `|` whose place is given
pub operation_field_at : (text : List ℕ) (bar end : ℕ) (behind : List ℕ) → bar ≡ position_or_len is_bar text → behind ≡ drop (bar + 1) text → end ≡ position_or_len is_bar behind →
    trimmed (take end behind) ≡ operation_field text
operation_field_at text bar end behind at is ends =
    let same : behind ≡ after_first is_bar text = is ∙ ap (λ n. drop (n + 1) text) at in
    ap (λ n. trimmed (take n behind)) ends ∙ ap (λ b. trimmed (before_first is_bar b)) same

pub thread_bytes : (text thread : List ℕ) → list_any is_bad_byte text ≡ false → thread ≡ thread_field text → list_any is_barred thread ≡ false
thread_bytes text thread clean is = ap (list_any is_barred) is ∙ list_any-field text clean

pub operation_bytes : (text field : List ℕ) → list_any is_bad_byte text ≡ false → field ≡ operation_field text → list_any is_barred field ≡ false
operation_bytes text field clean is =
    ap (list_any is_barred) is ∙ list_any-field (after_first is_bar text) (list_any-drop is_bad_byte (position_or_len is_bar text + 1) text clean)
