use Rattle.std.proofs.Common.{arith, rules}
use Rattle.std.proofs.lemmas.Grind.{common_steps}
use Rattle.aero_leads.proofs.gaining.gain_unknown.Goals as goal

pub returns : goal.returns
returns c = record {
  gains = grind (arith, common_steps);
  known = grind (arith, common_steps);
  listed = search rules;
  grows = search rules;
  single = search rules;
  same = search rules;
  room = search rules;
}
