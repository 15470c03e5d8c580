use Rattle.std.proofs.Common.{◌≡◌, ◌∙◌, ◌∷◌, ◌++◌, List, ℕ, [], ap, codes, if◌then◌else◌, sym}
use Rattle.std.specs.Prelude.{decimal}
use Rattle.std.proofs.lemmas.Bool.{ne_eqb}
use Rattle.aero_program.specs.Notes.{more_line}
use Rattle.aero_program.proofs.LabelLines.{three_parts}
use Rattle.aero_program.proofs.labels.append_more.Goals as goal

pub returns : goal.returns
returns c =
    let text : List ℕ = c.args.text.now.items in
    let more : ℕ = c.args.more in
    let line : List ℕ = codes "aerodrome: no block begins with " ++ (decimal more ++ (codes " more of the labels" ++ 10 ∷ [])) in
    let is : more_line more ≡ line = ap (λ b. if b then [] else line) (ne_eqb more 0 c.if-more-eq0.false) in
    three_parts text (codes "aerodrome: no block begins with ") (decimal more) (codes " more of the labels" ++ 10 ∷ []) c.extend_from_slice.new.self.items c.extend_from_slice-2.new.self.items c.extend_from_slice-3.new.self.items
    c.in_ok-extend_from_slice.ensures.items
    (c.in_ok-extend_from_slice-2.ensures.items ∙ ap (λ l. c.extend_from_slice.new.self.items ++ l) (c.as_bytes.ensures.value ∙ c.format.ensures.text))
    c.in_ok-extend_from_slice-3.ensures.items
    ∙ ap (λ l. text ++ l) (sym is)
