use Rattle.std.proofs.Common.{◌≤◌, ◌^◌, ◌∙◌, [], ap, length, subst, sym}
use Rattle.std.proofs.lemmas.Result.{IfOk-weaker}
use Rattle.aero_model.specs.Exempt.{Listed}
use Rattle.aero_program.specs.LabelFiles.{AreTexts, labels_in_all, own_labels, with_labels}
use Rattle.aero_program.proofs.LabelLines.{added_twice}
use Rattle.aero_program.proofs.label_files.set_with_files.Goals as goal

pub returns-in-Ok-with_files-clause-listed : goal.returns-in-Ok-with_files-clause-listed
returns-in-Ok-with_files-clause-listed g c =
    let added = c.in-Ok-with_files.ensures.added in
    let own_is = c.in-Ok.ensures.same ∙ ap (with_labels []) c.own_labels.ensures in
    IfOk-weaker c.set_of.result _ _
    (λ except is. record {
      texts = added.0;
      are = subst (λ ps. AreTexts (g.F.Opener.known c.args.files.now) ps added.0) c.requires added.1;
      labels = ap (λ (l : Listed). l.labels) is ∙ added.2 ∙ ap (λ k. with_labels k (labels_in_all added.0)) own_is ∙ sym (added_twice [] (own_labels c.args.config.now) (labels_in_all added.0));
      few = subst (λ l. length l ≤ 2 ^ 16) (sym (ap (λ (l : Listed). l.labels) is)) c.in-Ok-with_files.ensures.few;
      only = ap (λ (l : Listed). l.only) is ∙ c.is_only.ensures;
    })
    c.set_of.ensures.listed
