-- Where a text is cut, and what a text that ends a line leaves uncut.
use Rattle.std.proofs.Common.{◌≡◌, ℕ, suc, Bool, true, false, List, [], ◌∷◌, ◌++◌, length, take, drop, refl, sym, ◌∙◌, ap, subst, true≢false, ◌⊎◌, inl, inr, arith, append_assoc, length-append}
use Rattle.std.proofs.lemmas.Bool.{cases_Bool}
use Rattle.std.proofs.lemmas.List.{take-append-drop}
use Rattle.std.specs.Prelude.{◌||◌}
use Rattle.std.specs.List.{list_any}
use Rattle.aero_model.specs.Lines.{is_line_end, EndsLine}
use Rattle.aero_lines.specs.Cutting.{Cutting, has_too_long, fed}
use Rattle.aero_lines.proofs.Steps.{HasNoEnd, step_shut, fed-at, step_held, step_cut}
use Rattle.aero_lines.proofs.Runs.{Last, last_end}
use Rattle.aero_feed.specs.Reads.{EndsIn}

-- with one piece more the text ends in what isn't cut then
pub ends_more : (text piece : List ℕ) (c : Cutting) → (c.shut ≡ false → EndsIn text c) → (fed c piece).shut ≡ false → EndsIn (text ++ piece) (fed c piece)
ends_more text piece c ends unshut = go (cases_Bool c.shut) (cases_Bool (has_too_long (c.rest ++ piece))) (last_end piece)
  where
    go : (c.shut ≡ true) ⊎ (c.shut ≡ false) → (has_too_long (c.rest ++ piece) ≡ true) ⊎ (has_too_long (c.rest ++ piece) ≡ false) → HasNoEnd piece ⊎ Last piece → EndsIn (text ++ piece) (fed c piece)
    go (inl shut) long last = absurd (true≢false (sym shut ∙ (ap (λ (d : Cutting). d.shut) (step_shut c piece shut).1 ∙ unshut)))
    go (inr goes) (inl long) last = absurd (true≢false (sym (ap (λ (d : Cutting). d.shut) (fed-at c piece true goes long)) ∙ unshut))
    go (inr goes) (inr fits) (inl none) =
        let e = ends goes in
        let holds = step_held c piece e.open_line goes fits none in
        subst (EndsIn (text ++ piece)) holds.after (record {
          front = e.front;
          joined = ap (λ t. t ++ piece) e.joined ∙ append_assoc e.front c.rest piece;
          open_line = holds.open_line;
        })
    go (inr goes) (inr fits) (inr last) =
        let e = ends goes in
        let n = suc last.at in
        let cuts = step_cut c piece last.at e.open_line goes fits last.within last.ends last.behind in
        let whole : piece ≡ take n piece ++ drop n piece = sym (take-append-drop n piece) in
        subst (EndsIn (text ++ piece)) cuts.after (record {
          front = e.front ++ (c.rest ++ take n piece);
          joined =
              ap (λ t. t ++ piece) e.joined
              ∙ (append_assoc e.front c.rest piece
              ∙ (ap (λ t. e.front ++ (c.rest ++ t)) whole
              ∙ (ap (λ t. e.front ++ t) (sym (append_assoc c.rest (take n piece) (drop n piece))) ∙ sym (append_assoc e.front (c.rest ++ take n piece) (drop n piece)))));
          open_line = cuts.open_line;
        })

or_true : (b : Bool) → (b || true) ≡ true
or_true true = refl
or_true false = refl

any_end : (init : List ℕ) → list_any is_line_end (init ++ 10 ∷ []) ≡ true
any_end [] = refl
any_end (x ∷ init) = ap (λ e. is_line_end x || e) (any_end init) ∙ or_true (is_line_end x)

ends_inside : (front : List ℕ) (b : ℕ) (rest init : List ℕ) → front ++ b ∷ rest ≡ init ++ 10 ∷ [] → list_any is_line_end (b ∷ rest) ≡ true
ends_inside [] b rest init e = ap (list_any is_line_end) e ∙ any_end init
ends_inside (x ∷ front) b rest [] e =
    let long : suc (length (front ++ b ∷ rest)) ≡ 1 = ap length e in
    absurd (omega (arith, length-append front (b ∷ rest)))
ends_inside (x ∷ front) b rest (y ∷ init) e = ends_inside front b rest init (ap (drop 1) e)

-- of a text that ends a line nothing is left uncut
pub nothing_left : (front rest text : List ℕ) → text ≡ front ++ rest → list_any is_line_end rest ≡ false → EndsLine text → rest ≡ []
nothing_left front [] text joined none ends = refl
nothing_left front (b ∷ rest) text joined none ends =
    absurd (true≢false (sym (ends_inside front b rest ends.0 (sym joined ∙ ends.1)) ∙ none))
