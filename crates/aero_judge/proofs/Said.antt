-- The codes of begins, as labels are numbered on.
use Rattle.std.proofs.Common.{◌≡◌, ◌≢◌, ℕ, ◌+◌, ◌-◌, nat_lt, List, [], ◌∷◌, ◌++◌, take, Option, Some, None, Result, Ok, Err, refl, sym, ap, ◌∙◌, subst, arith}
use Rattle.std.proofs.lemmas.Bool.{cond-false, le-ltb}
use Rattle.std.specs.Prelude.{slice_get, OnOk}
use Rattle.std.specs.List.{AllZip}
use Rattle.aero_model.specs.declared.numbered.What.{What}
use Rattle.aero_model.specs.declared.numbered.What.TheVariants.{Read, Write, Acquire, Release, Fork, Join, Begin, End, Exempt}
use Rattle.aero_model.specs.Numbering.{with_name}
use Rattle.aero_names.specs.Listing.{Listing}
use Rattle.aero_engine.specs.Given.{Given}
use Rattle.aero_judge.specs.Recorded.{IsLabelSaid, IsSaid, HasStill, IsSaidOf, SaysSame}
use Rattle.aero_judge.specs.Swept.{label_in}
use Rattle.aero_verdict.proofs.Stops.{still_with}
use Rattle.aero_judge.proofs.Zipped.{zip_as, zip_end, zip_more}

pub still_has : (old new : Listing) (name : List ℕ) → new ≡ record old { names = with_name old.names name } → HasStill old.names new.names
still_has old new name is n y at = subst (λ (l : Listing). slice_get l.names n ≡ Some y) (sym is) (still_with old.names name n y at)

label_still : (before after : List (List ℕ)) → HasStill before after → (label : Option (List ℕ)) (code : ℕ) → IsLabelSaid before label code → IsLabelSaid after label code
label_still before after still None code said = said
label_still before after still (Some label) code said = (said.0, said.1, still said.0 label said.2)

pub said_still : (before after : List (List ℕ)) → HasStill before after → (what : What) (label : Option (List ℕ)) (code : ℕ) → IsSaid before what label code → IsSaid after what label code
said_still before after still (Begin unlabelled) label code said = label_still before after still label code said
said_still before after still End label code said = said
said_still before after still Exempt label code said = said
said_still before after still (Read x) label code said = said
said_still before after still (Write x) label code said = said
said_still before after still (Acquire x) label code said = said
said_still before after still (Release x) label code said = said
said_still before after still (Fork x) label code said = said
said_still before after still (Join x) label code said = said

-- one event more
pub said_more : (before after : List (List ℕ)) (given : List Given) (codes : List ℕ) (g : Given) (code : ℕ) → HasStill before after → AllZip (IsSaidOf before) given codes → IsSaid after g.event.what g.label code →
    AllZip (IsSaidOf after) (given ++ g ∷ []) (codes ++ code ∷ [])
said_more before after given codes g code still said here =
    zip_end (IsSaidOf after) given codes g code (zip_as (IsSaidOf before) (IsSaidOf after) (λ (x : Given) (c : ℕ) is. said_still before after still x.event.what x.label c is) given codes said) here

-- what holds anyway holds where there is a value
pub on_ok : {T E : Type 0} (r : Result T E) (P : Type 0) → P → OnOk r P
on_ok (Ok x) P p = p
on_ok (Err e) P p = tt

-- no begin has the code 0, and nothing else has another
begin_code : (labels : List (List ℕ)) (label : Option (List ℕ)) → IsLabelSaid labels label 0 → ⊥
begin_code labels None said = absurd (cc)
begin_code labels (Some label) (n, is, at) = absurd (omega arith)

pub none_same : (before after : List (List ℕ)) → SaysSame before after 0 0
none_same before after (Begin unlabelled) label said = absurd (begin_code before label said)
none_same before after End label said = refl
none_same before after Exempt label said = refl
none_same before after (Read x) label said = refl
none_same before after (Write x) label said = refl
none_same before after (Acquire x) label said = refl
none_same before after (Release x) label said = refl
none_same before after (Fork x) label said = refl
none_same before after (Join x) label said = refl

-- the label of a begin is the one that its code names
label_named : (labels : List (List ℕ)) (label : Option (List ℕ)) (code : ℕ) → IsLabelSaid labels label code → label_in labels code ≡ label
label_named labels None code is = ap (label_in labels) is
label_named labels (Some label) code (n, is, at) =
    ap (label_in labels) is ∙ cond-false (nat_lt (n + 2) 2) None (slice_get labels (n + 2 - 2)) (le-ltb (n + 2) 2 (omega arith)) ∙ ap (slice_get labels) (omega arith) ∙ at

pub recoded : (before after : List (List ℕ)) (code new : ℕ) → code ≢ 0 → IsLabelSaid after (label_in before code) new → SaysSame before after code new
recoded before after code new some is (Begin unlabelled) label said = subst (λ l. IsLabelSaid after l new) (label_named before label code said) is
recoded before after code new some is End label said = absurd (some said)
recoded before after code new some is Exempt label said = absurd (some said)
recoded before after code new some is (Read x) label said = absurd (some said)
recoded before after code new some is (Write x) label said = absurd (some said)
recoded before after code new some is (Acquire x) label said = absurd (some said)
recoded before after code new some is (Release x) label said = absurd (some said)
recoded before after code new some is (Fork x) label said = absurd (some said)
recoded before after code new some is (Join x) label said = absurd (some said)

-- one code more
pub recoded_next : (labels before after : List (List ℕ)) (said codes : List ℕ) (i code new : ℕ) → HasStill before after → slice_get said i ≡ Some code → SaysSame labels after code new → AllZip (SaysSame labels before) (take i said) codes → AllZip (SaysSame labels after) (take (i + 1) said) (codes ++ new ∷ [])
recoded_next labels before after said codes i code new still at same so_far =
    zip_more (SaysSame labels after) said codes i code new (zip_as (SaysSame labels before) (SaysSame labels after) (λ c d is what label told. said_still before after still what label d (is what label told)) (take i said) codes so_far) at same
