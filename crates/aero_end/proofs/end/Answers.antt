use Rattle.std.proofs.Common.{rules}
use Rattle.aero_end.proofs.Answering.{answers_first, follows_first, follows_none}
use Rattle.aero_end.proofs.end.Goals as goal

pub returns-then-is_some-clause-answers : goal.returns-then-is_some-clause-answers
returns-then-is_some-clause-answers c = answers_first c.args.clocks.now c.spread.new.clocks c.args.t c.in_ok-closing.closing c.if-is_some.ensures c.in_ok-closing.ensures.named c.in_ok-closing.ensures.tests

pub returns-then-is_some-clause-follows : goal.returns-then-is_some-clause-follows
returns-then-is_some-clause-follows c = follows_first c.args.clocks.now c.spread.new.clocks c.args.t c.in_ok-closing.closing c.if-is_some.ensures c.in_ok-closing.ensures.named

pub returns-clause-follows : goal.returns-clause-follows
returns-clause-follows c = follows_none c.args.clocks.now c.spread.new.clocks c.close_block.new.self c.args.t c.in_ok-closing.closing c.if-is_some.ensures c.in_ok-closing.ensures.spreads c.in_ok-closing.ensures.tests c.close_block.ensures.closes

pub returns-clause-answers : goal.returns-clause-answers
returns-clause-answers c = search rules
