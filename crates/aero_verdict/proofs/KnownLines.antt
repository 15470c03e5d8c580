-- A block's events by the names that their numbers stand for, one after the other.
use Rattle.std.proofs.Common.{◌≡◌, ℕ, ◌<◌, List, length, get_or, sym, ◌∙◌, ap, subst, arith}
use Rattle.std.specs.Prelude.{All}
use Rattle.std.proofs.lemmas.List.{get_or-map, length-map}
use Rattle.aero_model.specs.declared.numbered.Numbered.{Numbered}
use Rattle.aero_model.specs.Numbering.{Tables}
use Rattle.aero_grammar.specs.Tabled.{line_in, lines_in}
use Rattle.aero_verdict.specs.Known.{HasLabel}

-- an item that was read at place i
module _ (tables : Tables) (labels : List (List ℕ)) (events : List (ℕ × Numbered)) (i : ℕ) (d item : ℕ × Numbered) (less : i < length events) (is : item ≡ get_or events i d) where
  pub line_is : line_in tables labels item ≡ get_or (lines_in tables labels events) i (line_in tables labels item)
  line_is = ap (line_in tables labels) is ∙ sym (get_or-map (line_in tables labels) events i d (line_in tables labels item) less)

  pub label_is : All (λ e. HasLabel labels e.1.what) events → HasLabel labels item.1.what
  label_is all = subst (λ (e : ℕ × Numbered). HasLabel labels e.1.what) (sym is) (all i d less)

pub lines_long : (tables : Tables) (labels : List (List ℕ)) (events : List (ℕ × Numbered)) → length (lines_in tables labels events) ≡ length events
lines_long tables labels events = length-map events (line_in tables labels)

pub line_less : (tables : Tables) (labels : List (List ℕ)) (events : List (ℕ × Numbered)) (i : ℕ) → i < length events → i < length (lines_in tables labels events)
line_less tables labels events i less = let long = lines_long tables labels events in omega (arith, less, long)
