use Rattle.clap.specs.Words.{found_of}
use Rattle.aero_words.proofs.LineRead.{flag_passed}
use Rattle.aero_words.proofs.Told.{flag_read}
use Rattle.aero_words.proofs.words.flag_in.Goals as goal

pub returns : goal.returns
returns c =
    let found = found_of c.args.matches.now in
    flag_read found c.args.name.now c.get_flag.result (flag_passed found c.args.name.now c.requires.read c.requires.flag) c.get_flag.ensures.none c.get_flag.ensures.value c.get_flag.ensures.other
