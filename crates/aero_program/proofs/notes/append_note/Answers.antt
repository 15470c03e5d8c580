use Rattle.std.proofs.Common.{[], ◌∷◌, ◌++◌, ◌∙◌, ap, codes, List, ℕ}
use Rattle.aero_program.specs.Notes.{place_text, said_on}
use Rattle.aero_program.proofs.Parts.{six_parts}
use Rattle.aero_program.proofs.notes.append_note.Goals as goal

pub returns : goal.returns
returns c =
    let on = c.args.on_terminal in
    let note = c.args.note.now in
    let named = c.in_ok-append_said.ensures ∙ ap (λ (bytes : List ℕ). c.extend_from_slice.new.self.items ++ said_on on bytes) c.deref.ensures.value in
    let told = c.in_ok-append_said-2.ensures ∙ ap (λ (bytes : List ℕ). c.extend_from_slice-2.new.self.items ++ said_on on bytes) c.deref-2.ensures.value in
    six_parts c.args.text.now.items (codes "aerodrome: ") (said_on on note.source.items) (place_text note.line) (codes ": ") (said_on on note.text.items) (10 ∷ []) _ _ _ _ _ _
    c.in_ok-extend_from_slice.ensures.items named c.in_ok-append_place.ensures c.in_ok-extend_from_slice-2.ensures.items told c.in_ok-extend_from_slice-3.ensures.items
