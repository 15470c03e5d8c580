-- What a ready source gives: its parts, or what is found of it.
use Rattle.std.proofs.Common.{◌≡◌, inl, inr, List, ℕ, Option, Some, None, ◌∙◌, ap, subst, refl}
use Rattle.aero_model.specs.declared.verdict.Ending.{Ending}
use Rattle.aero_model.specs.declared.verdict.Finding.{Finding}
use Rattle.aero_grammar.specs.Reading.{Reading}
use Rattle.aero_judge.specs.Finding.{IsTraceFinding}
use Rattle.aero_intake.specs.Held.{Known}
use Rattle.aero_intake.specs.Surveys.{IsSaidOf}
use Rattle.aero_intake.specs.declared.begun.Begun.{Begun}
use Rattle.aero_intake.specs.declared.track.Arrival.{Arrival}
use Rattle.aero_intake.specs.declared.track.Track.{Track}
use Rattle.aero_intake.specs.declared.track.Track.TheVariants.{Arriving, Arrived, Checking, Found}
use Rattle.aero_intake.specs.Tracks.{TakesArrival, GivesParts}

pub given_none : (old mid : Track) → TakesArrival old mid None → GivesParts old mid None
given_none (Arriving k) mid takes = (refl, takes.1)
given_none (Arrived bytes ending chunks k) mid takes = cc (takes)
given_none (Checking bytes ending begun) mid takes = (refl, takes.1)
given_none (Found g) mid takes = (refl, takes.1)

pub given_parts : (old mid new : Track) (a : Arrival) (parts : List Reading) (begun : Option Begun) → TakesArrival old mid (Some a) → parts ≡ a.known.parts →
    IsSaidOf a.known.terms a.known.parts a.ending begun →
    new ≡ Checking a.bytes a.ending begun → GivesParts old new (Some parts)
given_parts (Arriving k) mid new a parts begun takes same said is = absurd (let none = takes.0 in cc)
given_parts (Arrived bytes ending chunks k) mid new a parts begun takes same said is =
    let here : a ≡ record { bytes = bytes; ending = ending; known = k } = cc (takes) in (
      begun,
      subst (λ (x : Arrival). IsSaidOf x.known.terms x.known.parts x.ending begun) here said,
      inl (ap Some (same ∙ ap (λ (x : Arrival). x.known.parts) here), is ∙ ap (λ (x : Arrival). Checking x.bytes x.ending begun) here),
    )
given_parts (Checking bytes ending b) mid new a parts begun takes same said is = absurd (let none = takes.0 in cc)
given_parts (Found g) mid new a parts begun takes same said is = absurd (let none = takes.0 in cc)

pub given_found : (old mid new : Track) (a : Arrival) (f : Finding) (begun : Option Begun) → TakesArrival old mid (Some a) → IsTraceFinding a.known.parts a.known.terms f →
    IsSaidOf a.known.terms a.known.parts a.ending begun →
    new ≡ Found (record { bytes = a.bytes; ending = a.ending; finding = f; begun = begun }) → GivesParts old new None
given_found (Arriving k) mid new a f begun takes found said is = absurd (let none = takes.0 in cc)
given_found (Arrived bytes ending chunks k) mid new a f begun takes found said is =
    let here : a ≡ record { bytes = bytes; ending = ending; known = k } = cc (takes) in (
      begun,
      subst (λ (x : Arrival). IsSaidOf x.known.terms x.known.parts x.ending begun) here said,
      inr (
        refl,
        f,
        subst (λ (x : Arrival). IsTraceFinding x.known.parts x.known.terms f) here found,
        is ∙ ap (λ (x : Arrival). Found (record { bytes = x.bytes; ending = x.ending; finding = f; begun = begun })) here,
      ),
    )
given_found (Checking bytes ending b) mid new a f begun takes found said is = absurd (let none = takes.0 in cc)
given_found (Found g) mid new a f begun takes found said is = absurd (let none = takes.0 in cc)
