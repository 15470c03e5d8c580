-- The end of a thread's block, step by step.
use Rattle.std.proofs.Common.{◌≡◌, ◌≢◌, ◌⊎◌, inl, inr, ℕ, List, [], None, sym, ap, ap₂, ◌∙◌}
use Rattle.std.specs.Prelude.{◌==◌, false, is_some, if◌then◌else◌, slice_get}
use Rattle.std.proofs.lemmas.Bool.{cases_eq, eq-eqb, ne_eqb, cond-true, cond-false}
use Rattle.aero_leads.specs.declared.row.Lead.{Lead}
use Rattle.aero_leads.specs.declared.led.Led.{Led}
use Rattle.aero_leads.specs.declared.thread.Thread.{Thread}
use Rattle.aero_leads.specs.Steps.{lesser, end_rows}
use Rattle.aero_leads.specs.Kept.{least_in, rows_in, thread_row, thread_in_block, thread_begins, thread_acted, absorbed, HasRow, HaveSameBlocks, EndsBlock}
use Rattle.aero_leads.specs.Listed.{is_listed, AreListed}
use Rattle.aero_leads.proofs.ThreadSteps.{visited_all}

-- its row is taken out, settled, and put back once those that are listed with it have taken over what it has
pub ends_all : (before taken spread put after : List Thread) (t : ℕ) (row settled later : List Lead) (led : Led)
    → AreListed before led
    → row ≡ thread_row (slice_get before t)
    → HasRow before taken t []
    → ((w : ℕ) → least_in settled w ≡ absorbed (least_in row) (least_in row) t w)
    → ((o w : ℕ) → rows_in spread o w ≡ (if is_listed led t o then absorbed (least_in later) (rows_in taken o) t w else rows_in taken o w))
    → ((o w : ℕ) → o ≢ t → absorbed (least_in later) (rows_in before o) t w ≡ absorbed (rows_in before t) (rows_in before o) t w)
    → HaveSameBlocks taken spread
    → HasRow spread put t settled
    → ((o w : ℕ) → rows_in after o w ≡ rows_in put o w)
    → ((u : ℕ) → thread_in_block (slice_get after u) ≡ (if t == u then false else thread_in_block (slice_get put u)))
    → ((u : ℕ) → thread_begins (slice_get after u) ≡ thread_begins (slice_get put u))
    → ((u : ℕ) → thread_acted (slice_get after u) ≡ thread_acted (slice_get put u))
    → EndsBlock before after t
ends_all before taken spread put after t row settled later led listed own out settles spreads enough same back rows in_block begins acted = record {
  rows = λ o w. rows o w ∙ ap (λ ls. least_in ls w) (back.rows o) ∙ each o w (cases_eq o t);
  in_block = λ u. in_block u ∙ ap (λ b. if t == u then false else b) (back.blocks.in_block u ∙ same.in_block u ∙ out.blocks.in_block u);
  begins = λ u. begins u ∙ back.blocks.begins u ∙ same.begins u ∙ out.blocks.begins u;
  acted = λ u. acted u ∙ back.blocks.acted u ∙ same.acted u ∙ out.blocks.acted u;
}
  where
    own_row : (o : ℕ) → o ≡ t → row ≡ thread_row (slice_get before o)
    own_row o e = own ∙ ap (λ u. thread_row (slice_get before u)) (sym e)

    stays : (o w : ℕ) → o ≢ t → rows_in taken o w ≡ rows_in before o w
    stays o w ne = ap (λ ls. least_in ls w) (out.rows o ∙ cond-false (o == t) _ _ (ne_eqb o t ne))

    took : (o w : ℕ) → o ≢ t → rows_in spread o w ≡ absorbed (least_in later) (rows_in taken o) t w
    took o w ne = visited_all (rows_in taken) (rows_in spread) (least_in later) t o (is_listed led t o) (λ h. listed o t (λ e. ne (sym e)) (ap is_some (sym (stays o t ne)) ∙ h)) (spreads o) w

    each : (o w : ℕ) → (o ≡ t) ⊎ (o ≢ t) → least_in (if o == t then settled else thread_row (slice_get spread o)) w ≡ end_rows t (rows_in before) o w
    each o w (inl e) =
        ap (λ ls. least_in ls w) (cond-true (o == t) _ _ (eq-eqb o t e)) ∙ settles w
        ∙ ap₂ (λ (xs ys : List Lead). absorbed (least_in xs) (least_in ys) t w) own (own_row o e)
    each o w (inr ne) =
        ap (λ ls. least_in ls w) (cond-false (o == t) _ _ (ne_eqb o t ne)) ∙ took o w ne
        ∙ ap₂ (λ x y. if w == t then None else if is_some (least_in later w) then lesser x y else x) (stays o w ne) (stays o t ne)
        ∙ enough o w ne
