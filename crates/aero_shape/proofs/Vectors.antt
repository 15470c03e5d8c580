-- The rules at the events of one trace, with what is known of each from elsewhere.
use Rattle.std.proofs.Common.{◌≡◌, ℕ, List, [], ◌∷◌, ◌++◌, Some, None, true, false, refl}
use Rattle.aero_model.specs.declared.numbered.Numbered.{Numbered}
use Rattle.aero_model.specs.declared.numbered.What.{What}
use Rattle.aero_model.specs.declared.numbered.What.TheVariants.{Write, Acquire, Release, Fork, Join, Begin, End}
use Rattle.aero_model.specs.declared.verdict.ShapeFault.TheVariants.{ThreadJoined, LockHeldByOther, LockNotHeld, ForkSelf, ForkStarted, JoinSelf, EndWithoutBegin}
use Rattle.aero_model.specs.Shape.{shape_fault}
use Rattle.aero_shape.specs.declared.admission.Admitted.TheVariants.{Plain, OuterBegin, OuterEnd, IdleJoin}
use Rattle.aero_shape.specs.Admission.{admitted_as}

abbrev event : ℕ → What → Numbered
event t what = record { thread = t; what = what }

-- the events that are admitted, up to each of them
abbrev one : List Numbered
one = event 0 (Begin None) ∷ []

abbrev two : List Numbered
two = one ++ event 0 (Begin None) ∷ []

abbrev three : List Numbered
three = two ++ event 0 (Acquire 0) ∷ []

abbrev four : List Numbered
four = three ++ event 0 (Fork 1) ∷ []

abbrev five : List Numbered
five = four ++ event 0 (Join 1) ∷ []

abbrev six : List Numbered
six = five ++ event 0 End ∷ []

abbrev seven : List Numbered
seven = six ++ event 0 End ∷ []

first_begin : (shape_fault [] (event 0 (Begin None)) ≡ None) × (admitted_as [] (event 0 (Begin None)) ≡ OuterBegin)
first_begin = (refl, refl)

inner_begin : (shape_fault one (event 0 (Begin None)) ≡ None) × (admitted_as one (event 0 (Begin None)) ≡ Plain true)
inner_begin = (refl, refl)

first_acquire : (shape_fault two (event 0 (Acquire 0)) ≡ None) × (admitted_as two (event 0 (Acquire 0)) ≡ Plain true)
first_acquire = (refl, refl)

acquire_of_held : shape_fault three (event 1 (Acquire 0)) ≡ Some LockHeldByOther
acquire_of_held = refl

release_of_held : shape_fault three (event 1 (Release 0)) ≡ Some LockNotHeld
release_of_held = refl

fork_of_self : shape_fault three (event 0 (Fork 0)) ≡ Some ForkSelf
fork_of_self = refl

fork_of_new : (shape_fault three (event 0 (Fork 1)) ≡ None) × (admitted_as three (event 0 (Fork 1)) ≡ Plain true)
fork_of_new = (refl, refl)

fork_again : shape_fault four (event 0 (Fork 1)) ≡ Some ForkStarted
fork_again = refl

join_of_self : shape_fault four (event 0 (Join 0)) ≡ Some JoinSelf
join_of_self = refl

idle_join : (shape_fault four (event 0 (Join 1)) ≡ None) × (admitted_as four (event 0 (Join 1)) ≡ IdleJoin)
idle_join = (refl, refl)

event_after_join : shape_fault five (event 1 (Write 0)) ≡ Some ThreadJoined
event_after_join = refl

inner_end : (shape_fault five (event 0 End) ≡ None) × (admitted_as five (event 0 End) ≡ Plain true)
inner_end = (refl, refl)

outer_end : (shape_fault six (event 0 End) ≡ None) × (admitted_as six (event 0 End) ≡ OuterEnd)
outer_end = (refl, refl)

end_too_many : shape_fault seven (event 0 End) ≡ Some EndWithoutBegin
end_too_many = refl

late_release : (shape_fault seven (event 0 (Release 0)) ≡ None) × (admitted_as seven (event 0 (Release 0)) ≡ Plain false)
late_release = (refl, refl)
