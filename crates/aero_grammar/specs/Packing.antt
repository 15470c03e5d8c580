-- What an event does, as its kind and its target's number.
use Rattle.std.specs.Prelude.{◌≡◌, refl, ℕ, Some, None}
use Rattle.aero_model.specs.declared.numbered.What.{What}
use Rattle.aero_model.specs.declared.numbered.What.TheVariants.{Read, Write, Acquire, Release, Fork, Join, Begin, End, Exempt}
use Rattle.aero_grammar.specs.declared.line_event.Kind.{Kind}
use Rattle.aero_grammar.specs.declared.line_event.Kind.TheVariants as kind

-- where there is no target, the number says nothing
abbrev pub what_of : Kind → ℕ → What
what_of kind.Read n = Read n
what_of kind.Write n = Write n
what_of kind.Acquire n = Acquire n
what_of kind.Release n = Release n
what_of kind.Fork n = Fork n
what_of kind.Join n = Join n
what_of kind.Begin n = Begin None
what_of kind.End n = End
what_of kind.Exempt n = Exempt
what_of kind.LabelledBegin n = Begin (Some n)

abbrev pub kind_of : What → Kind
kind_of (Read n) = kind.Read
kind_of (Write n) = kind.Write
kind_of (Acquire n) = kind.Acquire
kind_of (Release n) = kind.Release
kind_of (Fork n) = kind.Fork
kind_of (Join n) = kind.Join
kind_of (Begin None) = kind.Begin
kind_of (Begin (Some n)) = kind.LabelledBegin
kind_of End = kind.End
kind_of Exempt = kind.Exempt

-- 0 where there is none
abbrev pub target_of : What → ℕ
target_of (Read n) = n
target_of (Write n) = n
target_of (Acquire n) = n
target_of (Release n) = n
target_of (Fork n) = n
target_of (Join n) = n
target_of (Begin None) = 0
target_of (Begin (Some n)) = n
target_of End = 0
target_of Exempt = 0

pub kind_is : (k : Kind) (n : ℕ) → kind_of (what_of k n) ≡ k
kind_is kind.Read n = refl
kind_is kind.Write n = refl
kind_is kind.Acquire n = refl
kind_is kind.Release n = refl
kind_is kind.Fork n = refl
kind_is kind.Join n = refl
kind_is kind.Begin n = refl
kind_is kind.End n = refl
kind_is kind.Exempt n = refl
kind_is kind.LabelledBegin n = refl
