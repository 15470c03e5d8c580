-- The two ways to write a name.
use Rattle.std.proofs.Common.{◌≡◌, ℕ, List, [], ◌∷◌, if◌then◌else◌, sym, ap, ◌∙◌}
use Rattle.std.proofs.lemmas.Bool.{false_from_ne_true}
use Rattle.std.proofs.lemmas.Str.{IsUtf8-from_is_utf8, is_utf8-from_IsUtf8}
use Rattle.std.specs.Str.{IsUtf8}
use Rattle.json.specs.Token as token
use Rattle.json.specs.Json.{string}
use Rattle.json.specs.Tree.{json_tokens}
use Rattle.aero_report.specs.Json.{bytes_value, name_value}

pub text_tokens : (bytes text : List ℕ) → (text ≡ bytes) × IsUtf8 bytes → token.string text ∷ [] ≡ json_tokens (name_value bytes)
text_tokens bytes text h =
    ap (λ t. token.string t ∷ []) h.0 ∙ sym (ap (λ b. json_tokens (if b then string bytes else bytes_value bytes)) (is_utf8-from_IsUtf8 bytes h.1))

pub bytes_tokens : (bytes : List ℕ) → ¬ (IsUtf8 bytes) → json_tokens (bytes_value bytes) ≡ json_tokens (name_value bytes)
bytes_tokens bytes h =
    sym (ap (λ b. json_tokens (if b then string bytes else bytes_value bytes)) (false_from_ne_true _ (λ e. h (IsUtf8-from_is_utf8 bytes e))))
