-- What the event of a line has.
use Rattle.std.proofs.Common.{◌≡◌, ◌||◌, ◌&&◌, ◌==◌, ℕ, Bool, true, false, not, cond, List, length, Option, Some, None, refl, subst}
use Rattle.std.specs.Prelude.{⊤, IfSome}
use Rattle.std.specs.List.{list_any, list_all}
use Rattle.std.specs.Str.Lines.{strip_carriage_return}
use Rattle.std.proofs.lemmas.Bool.{or_parts}
use Rattle.aero_model.specs.declared.event.Op.{Op}
use Rattle.aero_model.specs.declared.event.Op.TheVariants as op
use Rattle.aero_model.specs.declared.verdict.LineFault.TheVariants as fault
use Rattle.aero_model.specs.Lines.{is_too_long}
use Rattle.aero_model.specs.Names.{is_bad_byte, is_barred}
use Rattle.aero_model.specs.Named.{Named, HasItsTarget, stands_alone}
use Rattle.aero_grammar.specs.Meaning.{Meaning, Blank, Means, Faulty, meaning, is_bar, is_blank, thread_field, operation_field, operation_word, operation_of, word_meaning, operation_meaning, is_unclosed, target_bytes, target_of, is_long_name, label_in}
use Rattle.aero_grammar.specs.Words.{IsName, IsEvent}
use Rattle.aero_grammar.proofs.Fields.{list_any-target_bytes, thread_bytes, operation_bytes}

-- the event of a meaning is as every line's event
abbrev pub HasEvent : Meaning → Type 0
HasEvent (Means e) = IsEvent e
HasEvent _ = ⊤

event_if : (b : Bool) (x y : Meaning) → HasEvent x → (b ≡ false → HasEvent y) → HasEvent (cond b x y)
event_if true x y here other = here
event_if false x y here other = other refl

is_name : (bytes : List ℕ) → (length bytes == 0) ≡ false → is_long_name bytes ≡ false → list_any is_barred bytes ≡ false → IsName bytes
is_name bytes some short clean = rw (some, short, clean) refl

targeted : (thread target : List ℕ) (o : Op) → HasItsTarget o (Some target) → IsName thread → IsName target → IsEvent (record { thread = thread; op = o; target = Some target })
targeted thread target o has is is_target = record { thread = is; target = is_target; has_target = has }

label_name : (bytes : List ℕ) → list_any is_barred bytes ≡ false → IfSome (label_in bytes) IsName
label_name bytes clean = go ((length bytes == 0) || is_long_name bytes) refl
  where
    go : (b : Bool) → ((length bytes == 0) || is_long_name bytes) ≡ b → IfSome (cond b None (Some bytes)) IsName
    go true none = tt
    go false some = let parts = or_parts (length bytes == 0) (is_long_name bytes) some in is_name bytes parts.0 parts.1 clean

module _ (thread field : List ℕ) (some : (length thread == 0) ≡ false) (clean : list_any is_barred thread ≡ false) (clean_field : list_any is_barred field ≡ false) where
  event_here : (o : Op) → (not (stands_alone o) && (length (target_bytes field) == 0)) ≡ false → (is_long_name thread || (not (stands_alone o) && is_long_name (target_bytes field))) ≡ false →
      IsEvent (record { thread = thread; op = o; target = target_of o field })
  event_here op.Begin missing long = record { thread = is_name thread some (or_parts (is_long_name thread) false long).0 clean; target = label_name (target_bytes field) (list_any-target_bytes field clean_field); has_target = tt }
  event_here op.End missing long = record { thread = is_name thread some (or_parts (is_long_name thread) false long).0 clean; target = tt; has_target = refl }
  event_here op.Read missing long = let parts = or_parts (is_long_name thread) _ long in targeted thread (target_bytes field) op.Read refl (is_name thread some parts.0 clean) (is_name (target_bytes field) missing parts.1 (list_any-target_bytes field clean_field))
  event_here op.Write missing long = let parts = or_parts (is_long_name thread) _ long in targeted thread (target_bytes field) op.Write refl (is_name thread some parts.0 clean) (is_name (target_bytes field) missing parts.1 (list_any-target_bytes field clean_field))
  event_here op.Acquire missing long = let parts = or_parts (is_long_name thread) _ long in targeted thread (target_bytes field) op.Acquire refl (is_name thread some parts.0 clean) (is_name (target_bytes field) missing parts.1 (list_any-target_bytes field clean_field))
  event_here op.Release missing long = let parts = or_parts (is_long_name thread) _ long in targeted thread (target_bytes field) op.Release refl (is_name thread some parts.0 clean) (is_name (target_bytes field) missing parts.1 (list_any-target_bytes field clean_field))
  event_here op.Fork missing long = let parts = or_parts (is_long_name thread) _ long in targeted thread (target_bytes field) op.Fork refl (is_name thread some parts.0 clean) (is_name (target_bytes field) missing parts.1 (list_any-target_bytes field clean_field))
  event_here op.Join missing long = let parts = or_parts (is_long_name thread) _ long in targeted thread (target_bytes field) op.Join refl (is_name thread some parts.0 clean) (is_name (target_bytes field) missing parts.1 (list_any-target_bytes field clean_field))

  event_operation : (o : Op) → HasEvent (operation_meaning thread field o)
  event_operation o =
      let event = Means (record { thread = thread; op = o; target = target_of o field }) in
      let long = is_long_name thread || (not (stands_alone o) && is_long_name (target_bytes field)) in
      let missing = not (stands_alone o) && (length (target_bytes field) == 0) in
      let named = cond long (Faulty fault.NameTooLong) event in
      let filled = cond missing (Faulty fault.MissingTarget) named in
      event_if (is_unclosed field) (Faulty fault.BadParenthesis) filled tt (λ _.
      event_if missing (Faulty fault.MissingTarget) named tt (λ filled_is.
      event_if long (Faulty fault.NameTooLong) event tt (λ short_is. event_here o filled_is short_is)))

  event_word : (o : Option Op) → HasEvent (word_meaning thread field o)
  event_word None = tt
  event_word (Some o) = event_operation o

event_meaning : (line : List ℕ) → HasEvent (meaning line)
event_meaning line =
    let text = strip_carriage_return line in
    let field = operation_field text in
    let threaded = word_meaning (thread_field text) field (operation_of (operation_word field)) in
    let barred = cond (length (thread_field text) == 0) (Faulty fault.EmptyThread) threaded in
    let filled = cond (not (list_any is_bar text)) (Faulty fault.NoOperation) barred in
    let clean = cond (list_all is_blank text) Blank filled in
    let short = cond (list_any is_bad_byte text) (Faulty fault.BadByte) clean in
    event_if (is_too_long line) (Faulty fault.TooLong) short tt (λ _.
    event_if (list_any is_bad_byte text) (Faulty fault.BadByte) clean tt (λ clean_is.
    event_if (list_all is_blank text) Blank filled tt (λ _.
    event_if (not (list_any is_bar text)) (Faulty fault.NoOperation) barred tt (λ _.
    event_if (length (thread_field text) == 0) (Faulty fault.EmptyThread) threaded tt (λ some_is.
    event_word (thread_field text) field some_is (thread_bytes text (thread_field text) clean_is refl) (operation_bytes text field clean_is refl) (operation_of (operation_word field)))))))

pub event_of_line : (line : List ℕ) (e : Named) → meaning line ≡ Means e → IsEvent e
event_of_line line e is = subst HasEvent is (event_meaning line)
