-- `none` makes the empty struct, with the bytes that its clause names.
use Rattle.std.proofs.Common.{[], ◌∷◌, refl}
use mir.Val.{vstruct, vnil}
use base.Fml.{ftrue}
use types.Kit.{‵, ◌⊛◌, ◌$◌, ◌∵◌, !, qed, drop, suffices, group, done}
use types.Run.{no_more, returns, enter}
use types.ByLocal.{alloc_all, pass_all, free_all, look_at, sets}
use types.Part.{agg}
use denote.Shadow.{pure_i}
use denote.Steps.{nothing}
use denote.Triple.Walked.{walk_of, says, ends_at}
use Rattle.std.proofs.raw_atomic.Walks.{proved}
use Rattle.aero_program.specs.contracts.ghost_text.GhostText as made
use Rattle.aero_program.specs.contracts.ghost_text.GhostText.none as f
use Rattle.aero_program.proofs.ghost_text.GhostText.none.Statement.{statement}
use Rattle.aero_program.proofs.ghost_text.GhostText.none.Code as code

pub none_spec : {M : Type 1} → statement M
none_spec 𝓤 𝓛 𝓜 𝓡 wired =
    let c = f.clauses 𝓛 𝓜.mem 𝓡.returns in let W = walk_of 𝓛 f.ended tt c in
    proved 𝓛 f.ended tt c 𝓜 𝓡 tt f.Key.name code.function (code.unfolded 𝓤 𝓛.H 𝓜 𝓡 wired)
    (λ κs. tt) (λ κs. tt) (λ κs qs bounds a _ are.
    let y : W.Ghost = ((κs, qs, bounds, a, tt), tt) in
    qed 𝓛 ((‵ ftrue ⊛ ‵ ftrue) ∷ ‵ ftrue ∷ []) ∵ drop ! $ drop ! $
    enter ! _ _ _ _ _ $ alloc_all ! (λ l. pass_all ! refl tt $
    sets ! (agg ! (no_more !)) refl (tt, tt) $
    returns ! (look_at ! 0 refl) $ free_all ! refl $
    suffices ! _ (ends_at 𝓛 f.ended tt c y (vstruct vnil) (record { bytes = [] }) tt tt) $ says ! refl $
    pure_i ! (made.the_row.own_val (record { bytes = [] }) (vstruct vnil ∷ [])) ((λ vss. (tt, tt)), tt) ((tt, (refl, tt)), tt) $
    nothing ! $ nothing ! $ group ! 3 $ done !))
