-- The machine value of a `Pointer`. Assumes `Logic`.
use Rattle.std.proofs.Common.{◌≡◌, List, [], ◌∷◌, ◌++◌, refl, subst}
use Rattle.std.specs.Prelude.{Option}
use seplogic.Ra.Ura.{Ura}
use mir.Val.{Val, vstruct, vcons, vnil, of_list}
use types.Logic.{Logic}
use types.Kit.{Item, Goal, Seq, Step, step, ‵, ◌$◌, drop, fsplit, fjoin, fpick, fpack, feq_i, feq_l}
use denote.RattleType.{RattleType, Valss}
use denote.Builtin.{RawPtr}
use denote.RawPtr.{Ptr, ptr_val}
use denote.Steps.{nothing}
use denote.Struct.Struct.{within}
use denote.Struct.Owning.{shape}
use Rattle.aero_c.specs.Held.{held_owns}
use Rattle.aero_feed.specs.Feeding.{Feeding}
use Rattle.aero_c.specs.contracts.pointer.Pointer as pointer

abbrev pub alone : Val → Val
alone v = vstruct (vcons v vnil)

abbrev pub Pointer : RattleType
Pointer = pointer.the_row

module _ {M : Type 1} {𝓤 : Ura M} {𝓛 : Logic 𝓤} {K : Type 0} {Γ : List (Item 𝓤)} {G : Goal 𝓤 𝓛.H} where
  pub pointer_out : K → (d : Pointer.Denot) (vs : List Val)
      → (vs ≡ alone (ptr_val d.at) ∷ [] → Seq K 𝓛 (‵ (held_owns d.at d.held) ∷ Γ) G) → Seq K 𝓛 (‵ (Pointer.own_val d vs) ∷ Γ) G
  pointer_out t d vs k =
      fsplit t $ fpick t (λ vss. fsplit t $ feq_l t (λ ev. fsplit t $ feq_l t (λ ep. drop t $ k (subst (λ (ps : List Val). vs ≡ vstruct (of_list (ps ++ [])) ∷ []) ep ev))))

  pub pointer_in : K → (p : Ptr) (held : Option Feeding)
      → Step K 𝓛 (‵ (Pointer.own_val (record { at = p; held = held }) (alone (ptr_val p) ∷ [])) ∷ Γ) G (‵ (held_owns p held) ∷ Γ) G
  pointer_in t p held = step (λ s.
      nothing t $ feq_i t (List Val) (ptr_val p ∷ []) (ptr_val p ∷ []) refl $ fjoin t $ feq_i t (List Val) (alone (ptr_val p) ∷ []) (alone (ptr_val p) ∷ []) refl $ fjoin t $
      fpack t (Valss (RawPtr ∷ [])) (within (shape pointer.the_type) (p, tt) (alone (ptr_val p) ∷ [])) (ptr_val p ∷ [], tt) $ fjoin t $ s)
