-- An event as it is judged looks back as the one that was read, and is kept as it.
use Rattle.std.proofs.Common.{◌≡◌, ℕ, ◌==◌, ◌&&◌, ◌||◌, ◌++◌, List, Option, None, refl, sym, ◌∙◌, ap, ap₂}
use Rattle.std.specs.Option.{option_to_list}
use Rattle.std.proofs.lemmas.Bool.{eq-eqb}
use Rattle.aero_model.specs.declared.numbered.Numbered.{Numbered}
use Rattle.aero_model.specs.declared.numbered.What.{What}
use Rattle.aero_model.specs.declared.numbered.What.TheVariants.{Begin, End, Exempt, Read, Write}
use Rattle.aero_model.specs.Exempt.{IsBare, IsJudgedWhat, IsJudgedAs}
use Rattle.aero_model.specs.Shape.{is_fork_of, is_release_of}
use Rattle.aero_engine.specs.declared.slot.Slot.{Slot}
use Rattle.aero_engine.specs.declared.slot.Slot.TheVariants.{OfThread, LastWrite, LastRead, LastRelease}
use Rattle.aero_engine.specs.Slots.{is_read_of, is_write_of, of_slot}
use Rattle.aero_engine.proofs.LastEvents.{read_is, write_is}
use Rattle.aero_order.specs.LastNumbers.{AreReadsAfter, looked_at, looked_back}

bare_same : {X : Type 0} (f : What → X) → ((label : Option ℕ) → f (Begin label) ≡ f Exempt) → f End ≡ f Exempt → (judged : What) → IsBare judged → f judged ≡ f Exempt
bare_same f begins ends (Begin None) is = begins None
bare_same f begins ends End is = ends
bare_same f begins ends Exempt is = refl
bare_same f begins ends _ is = absurd is

-- what doesn't tell begins and ends apart
pub what_same : {X : Type 0} (f : What → X) → ((label : Option ℕ) → f (Begin label) ≡ f Exempt) → f End ≡ f Exempt → (w judged : What) → IsJudgedWhat w judged → f judged ≡ f w
what_same f begins ends (Begin label) judged is = bare_same f begins ends judged is ∙ sym (begins label)
what_same f begins ends End judged is = bare_same f begins ends judged is ∙ sym ends
what_same f begins ends Exempt judged is = bare_same f begins ends judged is
what_same f begins ends _ judged is = ap f is

module _ (e judged : Numbered) (is : IsJudgedAs e judged) where
  pub read_same : (x : ℕ) → is_read_of x judged.what ≡ is_read_of x e.what
  read_same x = what_same (is_read_of x) (λ label. refl) refl e.what judged.what is.what

  pub write_same : (x : ℕ) → is_write_of x judged.what ≡ is_write_of x e.what
  write_same x = what_same (is_write_of x) (λ label. refl) refl e.what judged.what is.what

  pub slot_same : (s : Slot) → of_slot s judged ≡ of_slot s e
  slot_same (OfThread t) = ap₂ (λ u b. (u == t) || b) is.thread (what_same (is_fork_of t) (λ label. refl) refl e.what judged.what is.what)
  slot_same (LastWrite x) = write_same x
  slot_same (LastRead x t) = ap₂ (λ u b. (u == t) && b) is.thread (read_same x)
  slot_same (LastRelease l) = what_same (is_release_of l) (λ label. refl) refl e.what judged.what is.what

  pub looks_same : (kept : Slot → Option ℕ) (reads : ℕ → List ℕ) (own_last : ℕ → Option ℕ) → looked_back kept reads own_last judged ≡ looked_back kept reads own_last e
  looks_same kept reads own_last =
      ap₂ (λ t us. option_to_list (kept (OfThread t)) ++ us) is.thread
      (what_same (looked_at kept reads own_last) (λ label. refl) refl e.what judged.what is.what)

  pub reads_same : (v : ℕ) (old new : ℕ → List ℕ) → AreReadsAfter e.what v old new → AreReadsAfter judged.what v old new
  reads_same v old new after = record {
    read = λ x is. after.read x (read_back x is);
    write = λ x is. after.write x (write_back x is);
    other = λ x no_read no_write. after.other x (λ is. no_read (read_is x judged.what (read_same x ∙ ap (is_read_of x) is ∙ eq-eqb x x refl))) (λ is. no_write (write_is x judged.what (write_same x ∙ ap (is_write_of x) is ∙ eq-eqb x x refl)));
  }
    where
      read_back : (x : ℕ) → judged.what ≡ Read x → e.what ≡ Read x
      read_back x is = read_is x e.what (sym (read_same x) ∙ ap (is_read_of x) is ∙ eq-eqb x x refl)

      write_back : (x : ℕ) → judged.what ≡ Write x → e.what ≡ Write x
      write_back x is = write_is x e.what (sym (write_same x) ∙ ap (is_write_of x) is ∙ eq-eqb x x refl)
