-- A look at a line that was read again.
use Rattle.std.proofs.Common.{◌≡◌, ℕ, List, Option, IfSome, subst, sym}
use Rattle.aero_model.specs.declared.verdict.LineFault.{LineFault}
use Rattle.aero_model.specs.declared.verdict.ShapeFault.{ShapeFault}
use Rattle.aero_telling.specs.declared.notable.Fault.TheVariants.{IllFormed, Malformed}
use Rattle.aero_telling.specs.declared.notable.Fault.{Fault}
use Rattle.aero_telling.specs.declared.notable.FaultyLine.{FaultyLine}
use Rattle.aero_faults.specs.declared.look.Look.{Look}
use Rattle.aero_faults.specs.declared.look.Look.TheVariants.{Nothing, Line, Event}
use Rattle.aero_faults.specs.Looks.{IsEventLook, IsLine, IsLineLook}
use Rattle.aero_program.specs.declared.stamp.Stamp.{Stamp}
use Rattle.aero_program.specs.Looks.{IsSecondLook, IsShown, LooksAt, ShowsAs}
use Rattle.std.specs.Prelude.{Some}

pub second_look : (can_open : Type 0) (held : Option (List ℕ) → Type 0) (faulty : FaultyLine) (look : Look) (first again : Option (List ℕ)) (line : List ℕ) → can_open → held first → held again
    → IsLine first faulty.line line → LooksAt again faulty.line line faulty.fault look → IsSecondLook can_open held faulty look
second_look can_open held faulty Nothing first again line can one two is looks = tt
second_look can_open held faulty (Line seen) first again line can one two is looks =
    (can, record { first = first; again = again; first_held = one; again_held = two; line = line; is = is; looks = looks })
second_look can_open held faulty (Event e hindrance) first again line can one two is looks =
    (can, record { first = first; again = again; first_held = one; again_held = two; line = line; is = is; looks = looks })

pub on_line : {V : Type 0} (items : V → List ℕ) (first : Option (List ℕ)) (number : ℕ) (o : Option V) (v : V) → o ≡ Some v → IfSome o (λ l. IsLine first number (items l)) → IsLine first number (items v)
on_line items first number o v is h = subst (λ x. IfSome x (λ l. IsLine first number (items l))) is h

pub malformed_second : (can_open : Type 0) (held : Option (List ℕ) → Type 0) (faulty : FaultyLine) (fault : LineFault) (look : Look) (first : Option (List ℕ)) (line : List ℕ) → can_open → held first
    → IsLine first faulty.line line → faulty.fault ≡ Malformed fault → IsLineLook fault line look → IsSecondLook can_open held faulty look
malformed_second can_open held faulty fault look first line can one is of_fault looks =
    second_look can_open held faulty look first first line can one one is (subst (λ (f : Fault). LooksAt first faulty.line line f look) (sym of_fault) looks)

-- what is said of the stamp that was found
pub found_held : (P : Stamp → Type 0) (found : Option Stamp) (stamp : Stamp) → found ≡ Some stamp → IfSome found P → P stamp
found_held P found stamp is all = subst (λ (o : Option Stamp). IfSome o P) is all

pub ill_formed_second : (can_open : Type 0) (held : Option (List ℕ) → Type 0) (faulty : FaultyLine) (fault : ShapeFault) (look : Look) (first again : Option (List ℕ)) (line seen : List ℕ) → can_open → held first → held again
    → IsLine first faulty.line line → seen ≡ line → faulty.fault ≡ IllFormed fault → IsEventLook again faulty.line seen fault look → IsSecondLook can_open held faulty look
ill_formed_second can_open held faulty fault look first again line seen can one two is same of_fault looks =
    second_look can_open held faulty look first again line can one two is
    (subst (λ (f : Fault). LooksAt again faulty.line line f look) (sym of_fault) (subst (λ (l : List ℕ). IsEventLook again faulty.line l fault look) same looks))

shown_of : (can_open : Type 0) (holds : Stamp → Option (List ℕ) → Type 0) (stamp : Stamp) (faulty : FaultyLine) (look : Look) → IsSecondLook can_open (holds stamp) faulty look → IsShown holds look (Some stamp) (Some faulty)
shown_of can_open holds stamp faulty Nothing is = tt
shown_of can_open holds stamp faulty (Line seen) is = is.1
shown_of can_open holds stamp faulty (Event e hindrance) is = is.1

pub shows_as : (can_open : Type 0) (holds : List ℕ → Stamp → Option (List ℕ) → Type 0) (name path : List ℕ) (stamp : Stamp) (faulty : FaultyLine) (look : Look) (opened : Option Stamp) (fault : Option FaultyLine)
    → path ≡ name → opened ≡ Some stamp → fault ≡ Some faulty → IsSecondLook can_open (holds path stamp) faulty look → ShowsAs holds name opened fault look
shows_as can_open holds name path stamp faulty look opened fault at same of_fault is =
    subst (λ (n : List ℕ). ShowsAs holds n opened fault look) at
    (subst (λ (o : Option Stamp). ShowsAs holds path o fault look) (sym same)
    (subst (λ (f : Option FaultyLine). ShowsAs holds path (Some stamp) f look) (sym of_fault) (shown_of can_open (holds path) stamp faulty look is)))
