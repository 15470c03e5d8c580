use Rattle.std.proofs.Common.{◌≡◌, ◌++◌, [], codes, decimal, ap, ◌∙◌, append_assoc, append-nil, sym}
use Rattle.aero_report.proofs.Appended.{OnOk-extended}
use Rattle.aero_report.proofs.texts.append_finding.Goals as goal

pub returns-in_ok-append_number-in-Broken : goal.returns-in_ok-append_number-in-Broken
returns-in_ok-append_number-in-Broken c =
    let old = c.args.text.now.items in
    let number = decimal c.in-Broken.bytes in
    let before : c.append_number.new.text.items ≡ old ++ (codes ": broken after " ++ number) =
    c.in_ok-append_number-in-Broken.ensures ∙ ap (λ l. l ++ number) c.in_ok-extend_from_slice-in-Broken.ensures.items ∙ append_assoc old (codes ": broken after ") number in
    rw c.in-Broken.is (OnOk-extended _ old _ _ (codes ": broken after " ++ number) (codes " bytes") before c.extend_from_slice-in-Broken.ensures.items)

pub returns-in-TooLarge : goal.returns-in-TooLarge
returns-in-TooLarge c =
    rw c.in-TooLarge.is (OnOk-extended _ c.args.text.now.items _ _ [] _ (sym (append-nil c.args.text.now.items)) c.extend_from_slice-in-TooLarge.ensures.items)
