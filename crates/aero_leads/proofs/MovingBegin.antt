-- How what is kept moves with an outermost begin.
use Rattle.std.proofs.Common.{◌≡◌, ◌≢◌, ◌⊎◌, inl, inr, ℕ, suc, ◌+◌, ◌<◌, ◌≤◌, List, [], ◌∷◌, ◌++◌, length, Some, None, refl, sym, ap, ap₂, ◌∙◌, arith}
use Rattle.std.specs.Prelude.{◌==◌, ◌&&◌, Bool, true, false, if◌then◌else◌}
use Rattle.std.proofs.lemmas.Bool.{cases_eq, both_ways, eq-eqb, ne_eqb, ltb-false, lt-leb, cond-true, cond-false, and_from, and_left, and_right}
use Rattle.aero_model.specs.declared.numbered.Numbered.{Numbered}
use Rattle.aero_model.specs.declared.numbered.What.TheVariants.{Begin}
use Rattle.aero_model.specs.Blocks.{is_begin, by_thread, depth, opens, closes}
use Rattle.aero_model.specs.Shape.{IsWellFormed}
use Rattle.aero_engine.specs.Events.{event}
use Rattle.aero_engine.proofs.LongerTraces.{slice_get-push, no_end}
use Rattle.aero_engine.proofs.OneMore.{depth_more}
use Rattle.aero_leads.specs.Leads.{is_led, IsUnled, AreFirst}
use Rattle.aero_leads.specs.Marks as takes
use Rattle.aero_leads.specs.Steps.{lesser, begin_rows}
use Rattle.aero_leads.specs.States.{State, IsStateOf, acting, Moves}
use Rattle.aero_leads.proofs.ByKind.{first_as, first_begun}
use Rattle.aero_leads.proofs.Told.{rows_tell}
use Rattle.aero_leads.proofs.StateSteps.{IsAfter}
use Rattle.aero_leads.proofs.StateSteps as steps
use Rattle.aero_leads.proofs.Placed.{unled_lesser, unled_if}
use Rattle.aero_leads.proofs.Moving.{swap_and}

pub moves_begin : (old new : State) (t : ℕ) → old.in_block t ≡ false → ((o w : ℕ) → new.rows o w ≡ (if (o == t) && (t == w) then lesser (old.rows o w) (Some old.now) else old.rows o w)) → IsAfter old (acting new t) (event t (Begin None)) true false → Moves old new (event t (Begin None)) false
moves_begin old new t outside rows after = record {
  told = λ h stands ok c. cc;
  stands = λ h stands ok c. begun h stands ok;
}
  where
    e : Numbered
    e = event t (Begin None)

    begun : (h : List Numbered) → IsStateOf old h → IsWellFormed (h ++ e ∷ []) → IsStateOf (acting new t) (h ++ e ∷ [])
    begun h stands ok =
        steps.stands_after old h e stands (acting new t) true false up ends after still
        (first_as more (suc (length h)) (begin_rows (length h) t old.rows) new.rows same (first_begun more ok (length h) e (slice_get-push h e) old.rows first up))
        ((rows_tell more ok (length h) e (slice_get-push h e) old.rows first (steps.none old h e stands) [] (takes.plain refl) ends None).0 (λ c. both_ways _ refl c.1))
      where
        more : List Numbered
        more = h ++ e ∷ []

        none_open : depth more t (length h) ≡ 0
        none_open = let shut : depth h t (length h) ≤ 0 = ltb-false 0 (depth h t (length h)) (sym (stands.in_block t) ∙ outside) in omega (arith, shut, depth_more h e t)

        up : opens more t (length h) ≡ true
        up =
            ap (λ a. by_thread t is_begin a && (depth more t (length h) == 0)) (slice_get-push h e)
            ∙ and_from _ _ (and_from (t == t) true (eq-eqb t t refl) refl) (eq-eqb (depth more t (length h)) 0 none_open)

        ends : closes more t (length h) ≡ false
        ends = no_end h t (Begin None) refl

        first : AreFirst more (length h) old.rows
        first = steps.first old h e stands

        still : (v q : ℕ) → q < length h → IsUnled old.rows v q → IsUnled new.rows v q
        still v q l unled w =
            ap (λ r. is_led r q) (rows v w)
            ∙ unled_if ((v == t) && (t == w)) _ _ q (unled_lesser (old.rows v w) (Some old.now) q (unled w) (lt-leb old.now q (omega (arith, l, stands.now)))) (unled w)

        same : (o w : ℕ) → begin_rows (length h) t old.rows o w ≡ new.rows o w
        same o w = go (cases_eq o t) (cases_eq w t) ∙ sym (rows o w)
          where
            go : (o ≡ t) ⊎ (o ≢ t) → (w ≡ t) ⊎ (w ≢ t) → (if (o == t) && (w == t) then Some (length h) else old.rows o w) ≡ (if (o == t) && (t == w) then lesser (old.rows o w) (Some old.now) else old.rows o w)
            go (inl a) (inl b) =
                cond-true ((o == t) && (w == t)) _ _ (and_from _ _ (eq-eqb o t a) (eq-eqb w t b))
                ∙ ap₂ (λ r m. lesser r (Some m)) (sym (ap (old.rows o) b ∙ first.outside o t none_open)) (sym stands.now)
                ∙ sym (cond-true ((o == t) && (t == w)) _ _ (and_from _ _ (eq-eqb o t a) (eq-eqb t w (sym b))))
            go (inl a) (inr b) =
                cond-false ((o == t) && (w == t)) _ _ (and_right (o == t) (w == t) (ne_eqb w t b))
                ∙ sym (cond-false ((o == t) && (t == w)) _ _ (and_right (o == t) (t == w) (ne_eqb t w (λ k. b (sym k)))))
            go (inr a) _ =
                cond-false ((o == t) && (w == t)) _ _ (and_left (o == t) (w == t) (ne_eqb o t a))
                ∙ sym (cond-false ((o == t) && (t == w)) _ _ (and_left (o == t) (t == w) (ne_eqb o t a)))

pub after_begin : (old new : State) (t : ℕ) → ((x : ℕ) → new.write x ≡ old.write x) → ((x : ℕ) → new.reads x ≡ old.reads x) → ((l : ℕ) → new.release l ≡ old.release l) → new.now ≡ old.now
    → ((u : ℕ) → new.acted u ≡ old.acted u) → ((u : ℕ) → new.begins u ≡ (if t == u then old.begins u + 1 else old.begins u)) → ((u : ℕ) → new.in_block u ≡ (if t == u then true else old.in_block u)) → IsAfter old (acting new t) (event t (Begin None)) true false
after_begin old new t write reads release now acted begins in_block = record {
  write = write;
  reads = λ x. inl (refl, reads x);
  release = release;
  now = ap suc now;
  acted = λ u. ap (λ b. if t == u then true else b) (acted u);
  begins = λ u. begins u ∙ swap_and (t == u) (old.begins u + 1) (old.begins u);
  in_block = λ u. in_block u ∙ go (t == u) (old.in_block u);
}
  where
    go : (b c : Bool) → (if b then true else c) ≡ (if b && true then true else if b && false then false else c)
    go true c = refl
    go false c = refl
