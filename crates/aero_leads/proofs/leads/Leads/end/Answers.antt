use Rattle.std.proofs.Common.{refl, sym, ◌∙◌, subst, length, ◌++◌, ◌∷◌, []}
use Rattle.aero_model.specs.declared.numbered.What.TheVariants.{End}
use Rattle.aero_engine.specs.Events.{event}
use Rattle.aero_leads.specs.Kept.{IsLeastBack}
use Rattle.aero_leads.specs.Standing.{state_of, Tells}
use Rattle.aero_leads.proofs.Standings.{is_none_of, follows_told, follows_end}
use Rattle.aero_leads.proofs.leads.Leads.end.Goals as goal

pub returns-clause-follows : goal.returns-clause-follows
returns-clause-follows c = λ h stands ok closing.
    subst (Tells c.finish.new.self (h ++ event c.args.t End ∷ []) (length h)) (sym (c.finish.ensures.untold refl))
    (follows_end c.args.self.now c.start_end.new.self _ c.finish.new.self c.args.t c.in_ok-closing.ensures.ok
    (subst (IsLeastBack (state_of c.start_end.new.self).rows c.args.t) (is_none_of _ (sym c.is_some.ensures ∙ c.if-is_some.false)) c.in_ok-closing.ensures.least)
    c.in_ok-end.ensures.ends refl (c.finish.ensures.finished refl) h stands ok closing)

pub returns-then-is_some-clause-follows : goal.returns-then-is_some-clause-follows
returns-then-is_some-clause-follows c =
    follows_told c.args.self.now c.start_end.new.self c.tell.new.self c.args.t _ c.in_ok-closing.ensures.ok c.in_ok-closing.ensures.least (sym c.is_some.ensures ∙ c.if-is_some.true)
