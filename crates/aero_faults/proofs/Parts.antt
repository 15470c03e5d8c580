-- A text that is appended part by part.
use Rattle.std.proofs.Common.{◌≡◌, ◌≢◌, ◌∙◌, ◌≤◌, ℕ, List, [], ◌++◌, Bool, false, cond, refl, ap, ap₂, sym, append_assoc, append-nil, length, take}
use Rattle.std.specs.Prelude.{flat_map, codes, decimal, nat_lt}
use Rattle.std.proofs.lemmas.Bool.{le-ltb}
use Rattle.std.proofs.lemmas.List.{take_all}
use Rattle.aero_model.specs.declared.verdict.LineFault.{LineFault}
use Rattle.aero_model.specs.declared.verdict.LineFault.TheVariants.{BadByte, UnknownOperation}
use Rattle.aero_model.specs.declared.verdict.ShapeFault.{ShapeFault}
use Rattle.aero_model.specs.declared.verdict.ShapeFault.TheVariants.{ThreadJoined}
use Rattle.aero_model.specs.Named.{Named}
use Rattle.std.specs.Str.Lines.{strip_carriage_return}
use Rattle.aero_report.specs.Shown.{shown_byte}
use Rattle.aero_faults.specs.Texts.{shown, line_text, hindrance_text, deed_text}
use Rattle.aero_model.specs.Words.{line_words}
use Rattle.aero_faults.specs.declared.hindrance.Hindrance.TheVariants.{Joined}

pub two_parts : (old one two first second : List ℕ) → first ≡ old ++ one → second ≡ first ++ two → second ≡ old ++ (one ++ two)
two_parts old one two first second p q = q ∙ ap (λ l. l ++ two) p ∙ append_assoc old one two

pub three_parts : (old one two three first second third : List ℕ) → first ≡ old ++ one → second ≡ first ++ two → third ≡ second ++ three
    → third ≡ old ++ (one ++ (two ++ three))
three_parts old one two three first second third p q r = two_parts old one (two ++ three) first third p (two_parts first two three second third q r)

pub four_parts : (old one two three four first second third fourth : List ℕ) → first ≡ old ++ one → second ≡ first ++ two → third ≡ second ++ three
    → fourth ≡ third ++ four → fourth ≡ old ++ (one ++ (two ++ (three ++ four)))
four_parts old one two three four first second third fourth p q r s =
    two_parts old one (two ++ (three ++ four)) first fourth p (three_parts first two three four second third fourth q r s)

-- of few bytes all are shown
pub shown_short : (bytes : List ℕ) → length bytes ≤ 200 → flat_map shown_byte bytes ≡ shown bytes
shown_short bytes within =
    let all : take 200 bytes ≡ bytes = take_all 200 bytes within in
    let few : nat_lt 200 (length bytes) ≡ false = le-ltb 200 (length bytes) within in
    sym (ap₂ (λ front (b : Bool). flat_map shown_byte front ++ cond b (codes "..") []) all few ∙ append-nil (flat_map shown_byte bytes))

pub line_text_any : (fault : LineFault) (line : List ℕ) → fault ≢ BadByte → fault ≢ UnknownOperation
    → line_words fault ++ (codes ": " ++ shown (strip_carriage_return line)) ≡ line_text fault line
line_text_any BadByte line bad unknown = absurd (bad refl)
line_text_any UnknownOperation line bad unknown = absurd (unknown refl)
line_text_any _ line bad unknown = refl

pub join_text_any : (fault : ShapeFault) (e : Named) (t : List ℕ) (line : ℕ) → fault ≢ ThreadJoined
    → deed_text e ++ (codes ", which was joined on line " ++ decimal line) ≡ hindrance_text fault e (Joined t line)
join_text_any ThreadJoined e t line other = absurd (other refl)
join_text_any _ e t line other = refl
