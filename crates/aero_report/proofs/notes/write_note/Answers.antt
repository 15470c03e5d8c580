use Rattle.std.proofs.Common.{[], ◌∷◌, ◌++◌, codes, ap, ◌∙◌, List, ℕ}
use Rattle.std.proofs.lemmas.Result.{IfOk-equal}
use Rattle.json.specs.Token as token
use Rattle.aero_report.specs.Json.{Member, name, line_members}
use Rattle.aero_report.specs.Members.{member_tokens, all_members_tokens}
use Rattle.aero_report.proofs.Appended.{joined, OnOk-joined}
use Rattle.aero_report.proofs.Tokens.{between_tokens, members_tokens_of}
use Rattle.aero_report.proofs.notes.write_note.Goals as goal

pub returns : goal.returns
returns c =
    let note = c.args.note.now in
    let source : Member = name (codes "source") note.source.items in
    let line : List Member = line_members note.line in
    let text : Member = name (codes "note") note.text.items in
    let begin = token.begin_object ∷ [] in
    let lines = all_members_tokens line in
    let named = c.in_ok-name.ensures ∙ ap (λ (bytes : List ℕ). c.begin_object.new.self ++ member_tokens (name (codes "source") bytes)) c.deref.ensures.value in
    let told = c.in_ok-name-2.ensures ∙ ap (λ (bytes : List ℕ). c.write_line.new.out ++ member_tokens (name (codes "note") bytes)) c.deref-2.ensures.value in
    let two = joined _ _ _ begin (member_tokens source) c.in_ok-begin_object.ensures named in
    let three = joined _ _ _ (begin ++ member_tokens source) lines two c.in_ok-write_line.ensures in
    let four = joined _ _ _ ((begin ++ member_tokens source) ++ lines) (member_tokens text) three told in
    IfOk-equal _ _ _ _ (OnOk-joined _ _ _ _ (((begin ++ member_tokens source) ++ lines) ++ member_tokens text) (token.end_object ∷ []) four c.end_object.ensures)
    (ap (λ ts. c.args.out.now ++ token.begin_object ∷ ts)
    (ap (λ ts. ts ++ token.end_object ∷ []) (between_tokens source text line) ∙ members_tokens_of (source ∷ (line ++ text ∷ []))))
