-- One thread of a list is changed.
use Rattle.std.proofs.Common.{◌≡◌, ◌≢◌, ◌⊎◌, inl, inr, ℕ, zero, suc, ◌+◌, add-one, take, List, [], ◌∷◌, ◌≤◌, length, Option, Some, None, refl, sym, ap, ap₂, subst, ◌∙◌}
use Rattle.std.specs.Prelude.{◌==◌, ◌&&◌, ◌||◌, Bool, true, false, is_some, if◌then◌else◌, slice_get, slice_set}
use Rattle.std.specs.List.{list_any}
use Rattle.std.proofs.lemmas.Bool.{cases_eq, eqb-true, eq-eqb, ne_eqb, cond-true, cond-false, and_left}
use Rattle.std.proofs.lemmas.Option.{slice_get_past, same_Some}
use Rattle.aero_engine.proofs.Written.{written, unwritten, rewritten}
use Rattle.aero_leads.specs.declared.thread.Thread.{Thread}
use Rattle.aero_leads.specs.declared.led.Led.{Led}
use Rattle.aero_leads.specs.Listed.{is_listed, IsListedRow, AreListed, Grows}
use Rattle.aero_leads.specs.Single.{IsSingle, AreSingle}
use Rattle.aero_leads.specs.Steps.{lesser, end_rows}
use Rattle.aero_leads.specs.Kept.{least_in, thread_row, thread_in_block, thread_begins, thread_acted, rows_in, absorbed, HaveSameBlocks, BeginsBlock, EndsBlock}
use Rattle.aero_leads.proofs.Leasts.{lesser_none}

module _ (threads : List Thread) (t : ℕ) (old new : Thread) (at : slice_get threads t ≡ Some old) where
  -- a row that takes over what led to a block
  pub absorbed_at : (es : ℕ → Option ℕ) (x : ℕ) → ((w : ℕ) → least_in new.row.items w ≡ absorbed es (least_in old.row.items) x w)
      → (v w : ℕ) → rows_in (slice_set threads t new) v w ≡ (if t == v then absorbed es (rows_in threads v) x w else rows_in threads v w)
  absorbed_at es x row v w = written threads t old new at (λ p. least_in (thread_row p) w) v ∙ go (cases_eq t v)
    where
      go : (t ≡ v) ⊎ (t ≢ v) → (if t == v then least_in new.row.items w else rows_in threads v w) ≡ (if t == v then absorbed es (rows_in threads v) x w else rows_in threads v w)
      go (inl e) =
          cond-true (t == v) _ _ (eq-eqb t v e) ∙ row w ∙ ap (λ p. absorbed es (least_in (thread_row p)) x w) (sym at) ∙ ap (λ u. absorbed es (rows_in threads u) x w) e
          ∙ sym (cond-true (t == v) _ _ (eq-eqb t v e))
      go (inr e) = cond-false (t == v) _ _ (ne_eqb t v e) ∙ sym (cond-false (t == v) _ _ (ne_eqb t v e))

  -- a row that has each block once
  pub single_at : (IsSingle old.row.items → IsSingle new.row.items) → AreSingle threads → AreSingle (slice_set threads t new)
  single_at row are v = subst IsSingle (sym (written threads t old new at thread_row v)) (go (t == v))
    where
      go : (b : Bool) → IsSingle (if b then new.row.items else thread_row (slice_get threads v))
      go true = row (subst IsSingle (ap thread_row at) (are t))
      go false = are v

  pub same_blocks : new.in_block ≡ old.in_block → new.begins ≡ old.begins → new.acted ≡ old.acted → HaveSameBlocks threads (slice_set threads t new)
  same_blocks inside begins acted = record {
    in_block = λ u. unwritten threads t old new at thread_in_block u inside;
    begins = λ u. unwritten threads t old new at thread_begins u begins;
    acted = λ u. unwritten threads t old new at thread_acted u acted;
  }

  pub listed_at : (led more : Led) → Grows led more → (IsListedRow old.row.items led t → IsListedRow new.row.items more t) → AreListed threads led → AreListed (slice_set threads t new) more
  listed_at led more grows row h o w ne some = go (cases_eq t o)
    where
      here : IsListedRow old.row.items led t
      here v other there = h t v other (ap (λ p. is_some (least_in (thread_row p) v)) at ∙ there)

      go : (t ≡ o) ⊎ (t ≢ o) → is_listed more w o ≡ true
      go (inl e) =
          ap (is_listed more w) (sym e)
          ∙ row here w (λ f. ne (f ∙ e)) (ap is_some (sym (written threads t old new at (λ p. least_in (thread_row p) w) o ∙ cond-true (t == o) _ _ (eq-eqb t o e))) ∙ some)
      go (inr e) = grows w o (h o w ne (ap is_some (sym (written threads t old new at (λ p. least_in (thread_row p) w) o ∙ cond-false (t == o) _ _ (ne_eqb t o e))) ∙ some))

  -- the thread begins a block of its own
  pub listed_begin : (led : Led) → ((w : ℕ) → w ≢ t → least_in new.row.items w ≡ least_in old.row.items w) → AreListed threads led → AreListed (slice_set threads t new) led
  listed_begin led row = listed_at led led (λ w o h. h) own
    where
      own : IsListedRow old.row.items led t → IsListedRow new.row.items led t
      own h w ne some = h w ne (ap is_some (sym (row w ne)) ∙ some)

  pub begins_block : (place : ℕ) → ((w : ℕ) → least_in new.row.items w ≡ (if t == w then lesser (least_in old.row.items w) (Some place) else least_in old.row.items w)) → new.in_block ≡ true → new.begins ≡ old.begins + 1 → new.acted ≡ old.acted → BeginsBlock threads (slice_set threads t new) t place
  begins_block place row inside begins acted = record {
    rows = λ o w. written threads t old new at (λ p. least_in (thread_row p) w) o ∙ rows o w (cases_eq t o);
    in_block = λ u. written threads t old new at thread_in_block u ∙ ap (λ b. if t == u then b else thread_in_block (slice_get threads u)) inside;
    begins = λ u. rewritten threads t old new at thread_begins (λ m. m + 1) u begins;
    acted = λ u. unwritten threads t old new at thread_acted u acted;
  }
    where
      rows : (o w : ℕ) → (t ≡ o) ⊎ (t ≢ o) → (if t == o then least_in new.row.items w else rows_in threads o w) ≡ (if (o == t) && (t == w) then lesser (rows_in threads o w) (Some place) else rows_in threads o w)
      rows o w (inl e) =
          cond-true (t == o) _ _ (eq-eqb t o e) ∙ row w
          ∙ ap (λ r. if t == w then lesser r (Some place) else r) (ap (λ p. least_in (thread_row p) w) (sym at) ∙ ap (λ v. rows_in threads v w) e)
          ∙ ap (λ b. if b && (t == w) then lesser (rows_in threads o w) (Some place) else rows_in threads o w) (sym (eq-eqb o t (sym e)))
      rows o w (inr e) = cond-false (t == o) _ _ (ne_eqb t o e) ∙ sym (cond-false ((o == t) && (t == w)) _ _ (and_left (o == t) (t == w) (ne_eqb o t (λ h. e (sym h)))))

  -- after a step that may have changed rows alone, the thread's block ends
  pub ends_block : (before : List Thread) → ((o w : ℕ) → rows_in threads o w ≡ end_rows t (rows_in before) o w) → HaveSameBlocks before threads → new.row ≡ old.row → new.in_block ≡ false → new.begins ≡ old.begins → new.acted ≡ old.acted → EndsBlock before (slice_set threads t new) t
  ends_block before rows same row outside begins acted = record {
    rows = λ o w. unwritten threads t old new at (λ p. least_in (thread_row p) w) o (ap (λ r. least_in r.items w) row) ∙ rows o w;
    in_block = λ u. written threads t old new at thread_in_block u ∙ ap₂ (λ a b. if t == u then a else b) outside (same.in_block u);
    begins = λ u. unwritten threads t old new at thread_begins u begins ∙ same.begins u;
    acted = λ u. unwritten threads t old new at thread_acted u acted ∙ same.acted u;
  }

-- what led to a block is taken over once
absorbed_of : (es r q : ℕ → Option ℕ) (t w : ℕ) → r w ≡ q w → r t ≡ q t → absorbed es r t w ≡ absorbed es q t w
absorbed_of es r q t w = ap₂ (λ x y. if w == t then None else if is_some (es w) then lesser x y else x)

absorbed_twice : (es r : ℕ → Option ℕ) (t w : ℕ) → absorbed es (absorbed es r t) t w ≡ absorbed es r t w
absorbed_twice es r t w = ap (λ y. if w == t then None else if is_some (es w) then lesser (absorbed es r t w) y else absorbed es r t w) own ∙ go (w == t) (is_some (es w))
  where
    own : absorbed es r t t ≡ None
    own = cond-true (t == t) _ _ (eq-eqb t t refl)

    go : (b c : Bool) → (if b then None else if c then lesser (if b then None else if c then lesser (r w) (r t) else r w) None else (if b then None else if c then lesser (r w) (r t) else r w)) ≡ (if b then None else if c then lesser (r w) (r t) else r w)
    go true c = refl
    go false true = lesser_none (lesser (r w) (r t))
    go false false = refl

-- and changes nothing where the block didn't lead
pub absorbed_alone : (es r : ℕ → Option ℕ) (t : ℕ) → r t ≡ None → (w : ℕ) → absorbed es r t w ≡ r w
absorbed_alone es r t none w = go (w == t) refl (is_some (es w))
  where
    go : (b : Bool) → w == t ≡ b → (c : Bool) → (if b then None else if c then lesser (r w) (r t) else r w) ≡ r w
    go true e c = sym (ap r (eqb-true w t e) ∙ none)
    go false e true = ap (lesser (r w)) none ∙ lesser_none (r w)
    go false e false = refl

pub any_take_next : (p : ℕ → Bool) (us : List ℕ) (i u : ℕ) → slice_get us i ≡ Some u → list_any p (take (suc i) us) ≡ (list_any p (take i us) || p u)
any_take_next p [] i u h = cc
any_take_next p (x ∷ xs) zero u h = ap (λ y. p y || false) (same_Some x u h) ∙ flip (p u)
  where
    flip : (b : Bool) → (b || false) ≡ b
    flip true = refl
    flip false = refl
any_take_next p (x ∷ xs) (suc i) u h = go (p x) (any_take_next p xs i u h)
  where
    go : (b : Bool) → list_any p (take (suc i) xs) ≡ (list_any p (take i xs) || p u) → (b || list_any p (take (suc i) xs)) ≡ ((b || list_any p (take i xs)) || p u)
    go true rest = refl
    go false rest = rest

-- one listed thread after the other takes over what led to a block
pub visited_next : (start now new : ℕ → ℕ → Option ℕ) (es : ℕ → Option ℕ) (t : ℕ) (us : List ℕ) (i u : ℕ) → slice_get us i ≡ Some u
    → ((o w : ℕ) → now o w ≡ (if list_any (λ v. v == o) (take i us) then absorbed es (start o) t w else start o w))
    → ((o w : ℕ) → new o w ≡ (if u == o then absorbed es (now o) t w else now o w))
    → (o w : ℕ) → new o w ≡ (if list_any (λ v. v == o) (take (i + 1) us) then absorbed es (start o) t w else start o w)
visited_next start now new es t us i u at so_far next o w =
    next o w ∙ go (u == o) (list_any (λ v. v == o) (take i us)) (so_far o)
    ∙ ap (λ b. if b then absorbed es (start o) t w else start o w) (sym (ap (λ j. list_any (λ v. v == o) (take j us)) (add-one i) ∙ any_take_next (λ v. v == o) us i u at))
  where
    go : (c b : Bool) → ((v : ℕ) → now o v ≡ (if b then absorbed es (start o) t v else start o v)) → (if c then absorbed es (now o) t w else now o w) ≡ (if b || c then absorbed es (start o) t w else start o w)
    go true true h = absorbed_of es (now o) (absorbed es (start o) t) t w (h w) (h t) ∙ absorbed_twice es (start o) t w
    go true false h = absorbed_of es (now o) (start o) t w (h w) (h t)
    go false true h = h w
    go false false h = h w

-- a thread that is listed nowhere had nothing to take over
pub visited_all : (start new : ℕ → ℕ → Option ℕ) (es : ℕ → Option ℕ) (t o : ℕ) (listed : Bool) → (is_some (start o t) ≡ true → listed ≡ true)
    → ((w : ℕ) → new o w ≡ (if listed then absorbed es (start o) t w else start o w)) → (w : ℕ) → new o w ≡ absorbed es (start o) t w
visited_all start new es t o true there h w = h w
visited_all start new es t o false there h w = h w ∙ sym (absorbed_alone es (start o) t (go (start o t) there) w)
  where
    go : (r : Option ℕ) → (is_some r ≡ true → false ≡ true) → r ≡ None
    go None k = refl
    go (Some p) k = let z : false ≡ true = k refl in cc

-- where there is no such thread
pub unvisited : (threads : List Thread) (o : ℕ) (es : ℕ → Option ℕ) (t : ℕ) → length threads ≤ o → (v w : ℕ) → rows_in threads v w ≡ (if o == v then absorbed es (rows_in threads v) t w else rows_in threads v w)
unvisited threads o es t past v w = go (cases_eq o v)
  where
    none : (u : ℕ) → o ≡ v → rows_in threads v u ≡ None
    none u e = ap (λ x. rows_in threads x u) (sym e) ∙ ap (λ p. least_in (thread_row p) u) (slice_get_past threads o past)

    go : (o ≡ v) ⊎ (o ≢ v) → rows_in threads v w ≡ (if o == v then absorbed es (rows_in threads v) t w else rows_in threads v w)
    go (inl e) = sym (cond-true (o == v) _ _ (eq-eqb o v e) ∙ absorbed_alone es (rows_in threads v) t (none t e) w)
    go (inr e) = sym (cond-false (o == v) _ _ (ne_eqb o v e))
