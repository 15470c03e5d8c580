-- `into_loose` hands on what the pointer owns.
use Rattle.std.proofs.Common.{◌≡◌, List, [], ◌∷◌, ◌++◌, refl, sym, ap, ◌∙◌, subst}
use Rattle.std.specs.Prelude.{Option, Some, None, is_some, true}
use mathlib.Core.Bool.{true≢false}
use mir.Syntax.{impl, tnil, dnil}
use mir.Raw.{raw as bare}
use mir.Val.{Val, vptr}
use base.Logic.{SProp, ent, emp, never, fst∗, id⊢}
use prog.Wp.{WpFn}
use types.Logic.{sem}
use types.Kit.{‵, raw, ◌⊛◌, ◌$◌, ◌∵◌, !, qed, by, move, keep, split, fsplit, fjoin, rewrite, suffices, use0, use1}
use types.Run.{stop, fld, of_opd, no_more, and_then, returns, enter}
use types.ByLocal.{alloc_all, pass_all, free_all, look_at, get, get_in, sets}
use types.Part.{agg, sub, whole}
use contract.Monad.{fact, fact_i}
use contract.Running.{tables}
use denote.Memory.{lone}
use denote.RattleType.{RattleType, owns}
use denote.Signature.{types_at, plain}
use denote.RawPtr.{Ptr, block_ptr, null_ptr, ptr_val, in_a_block}
use denote.Steps.{nothing, heard}
use denote.Triple.Entry.{alive}
use denote.Triple.Walked.{Stays, stay_dropped, walk_of}
use Rattle.core.proofs.alloc.Calls.{Al, Goes-blank, handle_tells}
use Rattle.std.proofs.raw_atomic.Walks.{proved_at, leaves}
use Rattle.std.specs.Box.Ownership.{box_owns}
use Rattle.aero_feed.specs.contracts.feed.Feed as feed
use Rattle.std_heap.specs.contracts.Global as global
use Rattle.std_heap.specs.contracts.GlobalAllocator.TheImpl as heap
use Rattle.std_heap.proofs.Global.TheLaws as global_laws
use Rattle.aero_c.specs.contracts.pointer.Pointer as pointer
use Rattle.aero_c.specs.Held.{held_owns}
use Rattle.aero_c.proofs.Values.{both, loose_good, loose_in}
use Rattle.aero_c.proofs.Pointers.{alone, pointer_out}
use Rattle.aero_c.specs.contracts.pointer.Pointer.into_loose.{ended, clauses}
use Rattle.aero_c.specs.contracts.pointer.Pointer.into_loose.Key.{name as #self}
use Rattle.aero_c.proofs.pointer.Pointer.into_loose.Statement.{statement}
use Rattle.aero_c.proofs.pointer.Pointer.into_loose.Code as code

abbrev R : RattleType
R = feed.the_row

abbrev Z : RattleType
Z = global.the_row

abbrev S : RattleType
S = pointer.the_row

abbrev al : Al
al = record { row = Z; laws = global_laws.the_row_laws; g = heap.ghosts; d = impl [] tnil dnil; drops = impl [] tnil dnil }

some_of : {A : Type 0} (held : Option A) → is_some held ≡ true → (x : A) × (held ≡ Some x)
some_of None there = absurd (true≢false (sym there))
some_of (Some x) there = (x, refl)

pub into_loose_spec : {M : Type 1} → statement M
into_loose_spec 𝓤 𝓛 𝓜 𝓡 wired =
    let H = 𝓛.H in let 𝓣 = tables 𝓤 H 𝓜 𝓡 𝓡.env in let c = clauses 𝓛 𝓜.mem 𝓡.returns in let fn = code.function in
    let hs : Stays ended.signature.params ended.kept = (stay_dropped (plain (λ _. S)) ended.kept.0, (stay_dropped (plain (λ _. Z)) ended.kept.1.0, tt)) in
    proved_at 𝓛 ended hs c 𝓜 𝓡 (Goes-blank 𝓛 0 (plain (λ _. S)) ended.kept.0 (λ κs x f. tt), (Goes-blank 𝓛 0 (plain (λ _. Z)) ended.kept.1.0 (λ κs x f. tt), tt)) #self fn (code.unfolded 𝓤 H 𝓜 𝓡 wired) (λ z are.
    let v = z.0.3.0 in let a = z.0.3.1.0 in let Post : Val → SProp 𝓤 = (walk_of 𝓛 ended hs c).post z in let Run : List Val → SProp 𝓤 = λ ws. WpFn 𝓤 H 𝓣.C 𝓣.Λ fn ws Post in
    qed 𝓛 ((raw (alive 𝓛 ended.signature z.0.0 z.0.1) ⊛ ‵ (owns (types_at ended.signature.params z.0.0) z.0.3 z.0.4)) ∷ raw (fact 𝓤 (is_some v.held ≡ true)) ∷ []) ∵
    move ! (1 ∷ []) $ heard ! (is_some v.held ≡ true) (λ there. let held = some_of v.held there in let x = held.0 in split ! $ move ! (1 ∷ []) $ fsplit ! $
    pointer_out ! v z.0.4.0 (λ ws. move ! (1 ∷ []) $ fsplit ! $ handle_tells al ! a z.0.4.1.0 (λ h ea fits.
    move ! (2 ∷ []) $ rewrite ! 0 (λ (o : Option R.Denot). ‵ (held_owns v.at o)) held.1 refl $ use1 𝓛 (‵ (box_owns (heap.ghosts.dealloc_token a) R v.at x)) (id⊢ 𝓤 _) $
    in_a_block ! v.at (λ p. box_owns (heap.ghosts.dealloc_token a) R p x) (fst∗ 𝓤 (never 𝓤) (sem 𝓛 (heap.ghosts.dealloc_token a (bare (lone R.mir)) null_ptr))) (λ b o e.
    let passed : List Val = alone (vptr b o) ∷ h ∷ [] in let made = loose_good R Z global_laws.the_row_laws heap.ghosts b o h fits in
    let first : z.0.4.0 ≡ alone (vptr b o) ∷ [] = ws ∙ ap (λ (p : Ptr). alone (ptr_val p) ∷ []) e in
    suffices ! (Run passed) (subst (λ (us : List Val). ent 𝓤 (Run passed) (Run us)) (sym (λ i. first i ++ (ea i ++ []))) (id⊢ 𝓤 (Run passed))) $
    enter ! 𝓣.C 𝓣.Λ fn passed Post $ alloc_all ! (λ l. pass_all ! refl ((tt, (tt, tt)), (fits, tt)) $
    sets ! (of_opd ! (get_in ! (fld ! refl (stop !)) (sub ! 0 refl (whole !)))) refl (tt, tt) $
    sets ! (of_opd ! (get ! refl)) refl (tt, tt) $
    sets ! (agg ! (and_then ! (get ! refl) (and_then ! (get ! refl) (no_more !)))) refl made $
    returns ! (look_at ! 0 refl) $ free_all ! refl $
    use1 𝓛 (‵ (box_owns (heap.ghosts.dealloc_token a) R (block_ptr b o) x)) (id⊢ 𝓤 _) $ loose_in R Z global_laws.the_row_laws heap.ghosts ! b o h a x $
    use0 𝓛 (raw (fact 𝓤 (v.held ≡ Some x))) (fact_i 𝓤 (v.held ≡ Some x) (emp 𝓤) held.1) $ nothing ! $ nothing ! $ fjoin ! $ nothing ! $ fjoin ! $
    keep ! (4 ∷ 0 ∷ 2 ∷ 1 ∷ []) $ by ! (leaves 𝓛 ended hs c z (both (vptr b o) h) (record { at = block_ptr b o; alloc = a; value = x }) (tt, (tt, tt)) (tt, (tt, tt)))))))))
