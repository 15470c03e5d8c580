use Rattle.std.proofs.Common.{◌≡◌, ◌∙◌, ℕ, List, Bool, Bor, map, sym, arith}
use Rattle.std.specs.List.{list_any}
use Rattle.std.proofs.lemmas.List.{length-map}
use Rattle.clap.proofs.WalkLemmas.{list_any-map}
use Rattle.aero_words.specs.Labels.{is_no_label}
use Rattle.aero_words.proofs.words.labels_of.Goals as goal

abbrev bytes_of : Bor (List ℕ) → List ℕ
bytes_of text = text.now

-- whether one of the texts is no label
told : (texts : List (Bor (List ℕ))) (is : Bool) (said : Bool) → is ≡ list_any (λ text. is_no_label (bytes_of text)) texts → is ≡ said → list_any is_no_label (map bytes_of texts) ≡ said
told texts is said same known = sym (list_any-map is_no_label bytes_of texts) ∙ sym same ∙ known

pub returns-then-has_bad_label-clause-refused : goal.returns-then-has_bad_label-clause-refused
returns-then-has_bad_label-clause-refused c = told c.args.labels.now _ _ c.has_bad_label.ensures c.if-has_bad_label.true

pub returns-then-are_too_many-clause-refused : goal.returns-then-are_too_many-clause-refused
returns-then-are_too_many-clause-refused c =
    (told c.args.labels.now _ _ c.has_bad_label.ensures c.if-has_bad_label.false, omega (arith, length-map c.args.labels.now bytes_of, c.are_too_many.ensures.many c.if-are_too_many.true))

pub returns-clause-refused : goal.returns-clause-refused
returns-clause-refused c =
    (told c.args.labels.now _ _ c.has_bad_label.ensures c.if-has_bad_label.false, omega (arith, length-map c.args.labels.now bytes_of, c.are_too_many.ensures.few c.if-are_too_many.false))
