-- What a read leaves of the reads of its variable.
use Rattle.std.proofs.Common.{◌≡◌, ◌≢◌, ◌⊎◌, inl, inr, ⊎_elim, ℕ, suc, ◌<◌, List, [], ◌∷◌, ◌++◌, refl, sym, ap, ◌∙◌, subst, arith}
use Rattle.std.specs.Prelude.{◌==◌, Bool, true, false, if◌then◌else◌, Contains}
use Rattle.std.proofs.lemmas.Bool.{cases_eq, cases_Bool, eq-eqb, ne_eqb, cond-false}
use Rattle.aero_engine.specs.Events.{event}
use Rattle.std.proofs.lemmas.List.Elements.{Contains-append_left, Contains-append_right, Contains-append_cases}
use Rattle.aero_model.specs.declared.numbered.What.TheVariants.{Read}
use Rattle.aero_model.proofs.Elements.{none_in, here, first_or_rest}
use Rattle.aero_leads.specs.declared.last.Last.{Last}
use Rattle.aero_leads.specs.Kept.{last, is_below, if_any, AreKept}
use Rattle.aero_leads.specs.States.{State}
use Rattle.aero_leads.proofs.StateSteps.{AreNoted, AreReadsAfter}

if_any_is : (l k : Last) → Contains (if_any k) l → l ≡ k
if_any_is l k a = go (k.count == 0) a
  where
    go : (b : Bool) → Contains (if b then [] else k ∷ []) l → l ≡ k
    go true m = absurd (none_in m)
    go false m = ⊎_elim (λ same. same) (λ m. absurd (none_in m)) (first_or_rest k [] m)

any_there : (l : Last) → 0 < l.count → if_any l ≡ l ∷ []
any_there l h = cond-false (l.count == 0) _ _ (ne_eqb l.count 0 (λ e. absurd (omega (arith, h, e))))

module _ (old : State) (t x : ℕ) (others : List Last) (latest : Last) (kept : Bool)
    (reads_are : old.reads x ≡ others ++ if_any latest)
    (there : kept ≡ true → 0 < latest.count)
    (passed : kept ≡ false → latest.thread ≢ t → (w : ℕ) → is_below (old.rows latest.thread w) latest.count ≡ false) where
  abbrev put : List Last
  put = others ++ (if kept then latest ∷ [] else [])

  put_each : (l : Last) → Contains put l → Contains (old.reads x) l
  put_each l a = subst (λ ls. Contains ls l) (sym reads_are) (⊎_elim
      (λ m. Contains-append_left others (if_any latest) l m)
      (λ m. Contains-append_right others (if_any latest) l (of_latest (cases_Bool kept) m))
      (Contains-append_cases others (if kept then latest ∷ [] else []) l a))
    where
      of_latest : (kept ≡ true) ⊎ (kept ≡ false) → Contains (if kept then latest ∷ [] else []) l → Contains (if_any latest) l
      of_latest (inl e) m = subst (λ ls. Contains ls l) (sym (any_there latest (there e))) (subst (λ b. Contains (if b then latest ∷ [] else []) l) e m)
      of_latest (inr e) m = absurd (none_in (subst (λ b. Contains (if b then latest ∷ [] else []) l) e m))

  put_all : (l : Last) → Contains (old.reads x) l → l.thread ≢ t → Contains put l ⊎ ((w : ℕ) → is_below (old.rows l.thread w) l.count ≡ false)
  put_all l a ne = ⊎_elim
      (λ m. inl (Contains-append_left others (if kept then latest ∷ [] else []) l m))
      (λ m. of_latest (cases_Bool kept) (if_any_is l latest m))
      (Contains-append_cases others (if_any latest) l (subst (λ ls. Contains ls l) reads_are a))
    where
      of_latest : (kept ≡ true) ⊎ (kept ≡ false) → l ≡ latest → Contains put l ⊎ ((w : ℕ) → is_below (old.rows l.thread w) l.count ≡ false)
      of_latest (inl e) same =
          inl (Contains-append_right others (if kept then latest ∷ [] else []) l
          (subst (λ b. Contains (if b then latest ∷ [] else []) l) (sym e) (subst (λ (k : Last). Contains (k ∷ []) l) same (here []))))
      of_latest (inr e) same = inr (λ w.
          ap (λ (k : Last). is_below (old.rows k.thread w) k.count) same
          ∙ passed e (λ h. ne (ap (λ (k : Last). k.thread) same ∙ h)) w)

  -- the event stands alone, and of the reads before it some are left
  pub read_noted : (new : ℕ → List Last) (left : List Last) (now : Last) → now ≡ last t (suc old.now) → new x ≡ left ++ if_any now → AreKept t put left → ((y : ℕ) → y ≢ x → new y ≡ old.reads y)
      → (y : ℕ) → AreReadsAfter old (event t (Read x)) y (new y)
  read_noted new left now now_is is are same y = ⊎_elim (λ e. subst (λ z. AreReadsAfter old (event t (Read x)) z (new z)) (sym e) noted) (λ ne. inl (ne_eqb y x ne, same y ne)) (cases_eq y x)
    where
      latest_read : Last
      latest_read = last t (suc old.now)

      noted_left : AreNoted old.rows t old.now (old.reads x) (left ++ latest_read ∷ [])
      noted_left = record {
        latest = Contains-append_right left (latest_read ∷ []) latest_read (here []);
        each = λ l a. ⊎_elim
            (λ m. inl (put_each l (are.each l m)))
            (λ m. ⊎_elim (λ e. inr e) (λ m. absurd (none_in m)) (first_or_rest latest_read [] m))
            (Contains-append_cases left (latest_read ∷ []) l a);
        all = λ l a ne. ⊎_elim
            (λ m. let c = are.all l m ne in inl (c.0, Contains-append_left left (latest_read ∷ []) c.0 c.1, c.2, c.3))
            (λ k. inr k)
            (put_all l a ne);
      }

      new_is : new x ≡ left ++ latest_read ∷ []
      new_is = is ∙ ap (λ l. left ++ if_any l) now_is ∙ ap (λ ls. left ++ ls) (any_there latest_read (omega arith))

      noted : AreReadsAfter old (event t (Read x)) x (new x)
      noted = inr (refl, eq-eqb x x refl, subst (AreNoted old.rows t old.now (old.reads x)) (sym new_is) noted_left)
