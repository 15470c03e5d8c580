use Rattle.std.proofs.Common.{◌<◌, ◌+◌, ◌/◌, ◌%◌, ◌^◌, bit_and, arith}
use Rattle.std.proofs.lemmas.Nat.{and_le_r}
use Rattle.aero_model.specs.declared.event.Op.TheVariants.{Read, Write, Acquire, Release, Fork, Join, Begin, End}
use Rattle.aero_grammar.proofs.FirstWord.{Nothing, Another, sign_at, sign_for}
use Rattle.aero_grammar.proofs.short.sign_of.Goals as goal

pub returns : goal.returns
returns c =
    let mixed = (c.args.word + c.args.word / 256) % 2 ^ 64 in
    let below : bit_and mixed 31 < 32 = omega (arith, and_le_r mixed 31) in
    sign_at _ (Another (sign_for Read) (Another (sign_for Read) (Another (sign_for Read) (Another (sign_for Read) (Another (sign_for Acquire) (Another (sign_for Read) (Another (sign_for Read) (Another (sign_for Begin) (Another (sign_for Read) (Another (sign_for Read) (Another (sign_for Read) (Another (sign_for Read) (Another (sign_for Read) (Another (sign_for Read) (Another (sign_for Read) (Another (sign_for Read) (Another (sign_for Read) (Another (sign_for Read) (Another (sign_for Read) (Another (sign_for End) (Another (sign_for Read) (Another (sign_for Fork) (Another (sign_for Read) (Another (sign_for Release) (Another (sign_for Read) (Another (sign_for Join) (Another (sign_for Read) (Another (sign_for Read) (Another (sign_for Read) (Another (sign_for Read) (Another (sign_for Read) (Another (sign_for Write) Nothing)))))))))))))))))))))))))))))))) (bit_and mixed 31) _ below
