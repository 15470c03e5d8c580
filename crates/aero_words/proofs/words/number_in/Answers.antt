use Rattle.std.specs.Str.Parse.{ParsesUnsigned, ExplainsUnsignedError, HasUnsignedDigitsIfOk}
use Rattle.clap.specs.Words.{found_of}
use Rattle.std.specs.Prelude.{Some, None}
use Rattle.aero_words.proofs.LineRead.{number_passed}
use Rattle.aero_words.proofs.Numbers.{number_within}
use Rattle.aero_words.proofs.Told.{number_read}
use Rattle.aero_words.proofs.words.number_in.Goals as goal

pub returns-in-Some-clause-some : goal.returns-in-Some-clause-some
returns-in-Some-clause-some c =
    (number_within _ (λ bs r. ParsesUnsigned 32 10 bs r × ExplainsUnsignedError 10 bs r × HasUnsignedDigitsIfOk bs r) c.args.most c.in-Some.number (found_of c.args.matches.now) c.args.name.now
    (number_passed (found_of c.args.matches.now) c.args.name.now c.args.most c.requires.read c.requires.number) c.in-Some.ensures.none c.in-Some.ensures.value (λ u x g. g.0) c.ranges.most.fits).0

pub returns-in-Some-clause-within : goal.returns-in-Some-clause-within
returns-in-Some-clause-within c =
    (number_within _ (λ bs r. ParsesUnsigned 32 10 bs r × ExplainsUnsignedError 10 bs r × HasUnsignedDigitsIfOk bs r) c.args.most c.in-Some.number (found_of c.args.matches.now) c.args.name.now
    (number_passed (found_of c.args.matches.now) c.args.name.now c.args.most c.requires.read c.requires.number) c.in-Some.ensures.none c.in-Some.ensures.value (λ u x g. g.0) c.ranges.most.fits).1

pub returns-in-Some-clause-told : goal.returns-in-Some-clause-told
returns-in-Some-clause-told c =
    number_read _ (λ bs r. ParsesUnsigned 32 10 bs r × ExplainsUnsignedError 10 bs r × HasUnsignedDigitsIfOk bs r) c.args.most c.args.fallback (Some c.in-Some.number) (found_of c.args.matches.now) c.args.name.now
    (number_passed (found_of c.args.matches.now) c.args.name.now c.args.most c.requires.read c.requires.number) c.in-Some.ensures.none c.in-Some.ensures.value (λ u x g. g.0) c.ranges.most.fits

pub returns-in-None-clause-told : goal.returns-in-None-clause-told
returns-in-None-clause-told c =
    number_read _ (λ bs r. ParsesUnsigned 32 10 bs r × ExplainsUnsignedError 10 bs r × HasUnsignedDigitsIfOk bs r) c.args.most c.args.fallback None (found_of c.args.matches.now) c.args.name.now
    (number_passed (found_of c.args.matches.now) c.args.name.now c.args.most c.requires.read c.requires.number) c.in-None.ensures.none c.in-None.ensures.value (λ u x g. g.0) c.ranges.most.fits
