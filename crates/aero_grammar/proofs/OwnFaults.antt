-- Every text has a reading as `IsReading` says.
use Rattle.std.proofs.Common.{◌||◌, ◌&&◌, ◌==◌, ℕ, Bool, true, false, not, cond, List, length, Option, Some, None, refl}
use Rattle.std.specs.Prelude.{⊤, IsTrue}
use Rattle.std.specs.List.{list_any, list_all}
use Rattle.std.specs.Str.Lines.{strip_carriage_return}
use Rattle.aero_model.specs.declared.event.Op.{Op}
use Rattle.aero_model.specs.declared.verdict.LineFault.TheVariants.{TooLong, BadByte, NoOperation, EmptyThread, BadParenthesis, MissingTarget, NameTooLong}
use Rattle.aero_model.specs.Lines.{is_too_long}
use Rattle.aero_model.specs.Names.{is_bad_byte}
use Rattle.aero_model.specs.Named.{stands_alone}
use Rattle.aero_grammar.specs.Meaning.{Meaning, Blank, Means, Faulty, meaning, is_bar, is_blank, thread_field, operation_field, operation_word, operation_of, word_meaning, operation_meaning, is_unclosed, target_bytes, target_of, is_long_name}
use Rattle.aero_grammar.specs.Reading.{is_own_fault}

-- a fault that the line has by itself
abbrev pub HasOwnFault : Meaning → Type 0
HasOwnFault (Faulty f) = IsTrue (is_own_fault f)
HasOwnFault _ = ⊤

own_if : (b : Bool) (x y : Meaning) → HasOwnFault x → HasOwnFault y → HasOwnFault (cond b x y)
own_if true x y own other = own
own_if false x y own other = other

own_operation : (thread field : List ℕ) (op : Op) → HasOwnFault (operation_meaning thread field op)
own_operation thread field op =
    let event = Means (record { thread = thread; op = op; target = target_of op field }) in
    let long = is_long_name thread || (not (stands_alone op) && is_long_name (target_bytes field)) in
    let missing = not (stands_alone op) && (length (target_bytes field) == 0) in
    let named = cond long (Faulty NameTooLong) event in
    let targeted = cond missing (Faulty MissingTarget) named in
    own_if (is_unclosed field) (Faulty BadParenthesis) targeted refl
    (own_if missing (Faulty MissingTarget) named refl
    (own_if long (Faulty NameTooLong) event refl tt))

own_word : (thread field : List ℕ) (op : Option Op) → HasOwnFault (word_meaning thread field op)
own_word thread field None = refl
own_word thread field (Some op) = own_operation thread field op

pub own_fault : (line : List ℕ) → HasOwnFault (meaning line)
own_fault line =
    let text = strip_carriage_return line in
    let field = operation_field text in
    let threaded = word_meaning (thread_field text) field (operation_of (operation_word field)) in
    let barred = cond (length (thread_field text) == 0) (Faulty EmptyThread) threaded in
    let filled = cond (not (list_any is_bar text)) (Faulty NoOperation) barred in
    let clean = cond (list_all is_blank text) Blank filled in
    let short = cond (list_any is_bad_byte text) (Faulty BadByte) clean in
    own_if (is_too_long line) (Faulty TooLong) short refl
    (own_if (list_any is_bad_byte text) (Faulty BadByte) clean refl
    (own_if (list_all is_blank text) Blank filled tt
    (own_if (not (list_any is_bar text)) (Faulty NoOperation) barred refl
    (own_if (length (thread_field text) == 0) (Faulty EmptyThread) threaded refl
    (own_word (thread_field text) field (operation_of (operation_word field)))))))
