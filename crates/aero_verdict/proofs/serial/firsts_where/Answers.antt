use Rattle.std.proofs.Common.{◌≡◌, Bool, true, Vec, Global, List, length, Option, Some, None}
use Rattle.std.specs.Prelude.{◌↔◌, All, Result, Ok, Err, is_some, option_map, IfOk, IfSome}
use Rattle.std.specs.declared.alloc.AllocError.{AllocError}
use Rattle.aero_model.specs.declared.numbered.Numbered.{Numbered}
use Rattle.aero_model.specs.Cycle.{IsSerializable}
use Rattle.aero_model.specs.Serial.{IsSerialOrder}
use Rattle.aero_model.specs.Shape.{IsWellFormed}
use Rattle.aero_order.specs.declared.first.First.{First}
use Rattle.aero_order.specs.declared.transactions.Transactions.{Transactions}
use Rattle.aero_order.specs.Came.{Came, places_in, IsOf}
use Rattle.aero_order.specs.Standing.{StandsFor, KeepsCame}
use Rattle.aero_verdict.specs.InOrder.{AreFirstsInOrder}
use Rattle.aero_verdict.proofs.serial.firsts_where.Goals as goal

-- what `order` says, of what is wanted
told : (t : Transactions) (wanted : Bool) → wanted ≡ true → (found : Result (Option (Vec First Global)) AllocError) →
    IfOk found (λ order. (trace : List Numbered) → IsWellFormed trace → StandsFor t trace → (is_some order ≡ true) ↔ IsSerializable trace (length trace)) →
    IfOk found (λ order. IfSome order (λ fs. (trace : List Numbered) → IsWellFormed trace → StandsFor t trace → IsSerialOrder trace (places_in fs.items))) →
    IfOk found (λ order. IfSome order (λ fs. (came : List Came) → KeepsCame t came → All (IsOf came) fs.items)) →
    IfOk found (λ order. AreFirstsInOrder t wanted (option_map (λ (fs : Vec First Global). fs.items) order))
told t wanted yes_it_is (Ok (Some fs)) exact serial kept = record { only = λ some. yes_it_is; exact = λ w. exact; serial = serial; kept = kept }
told t wanted yes_it_is (Ok None) exact serial kept = record { only = λ some. yes_it_is; exact = λ w. exact; serial = tt; kept = tt }
told t wanted yes_it_is (Err e) exact serial kept = tt

pub order-requires : goal.order-requires
order-requires c = c.requires c.if-not-wanted.false

pub returns-then-not-wanted : goal.returns-then-not-wanted
returns-then-not-wanted c = record { only = λ some. absurd (cc); exact = λ w. absurd (let no = c.if-not-wanted.true in cc); serial = tt; kept = tt }

pub returns : goal.returns
returns c = told c.args.transactions c.args.wanted c.if-not-wanted.false c.order.result c.order.ensures.exact c.order.ensures.serial c.order.ensures.kept
