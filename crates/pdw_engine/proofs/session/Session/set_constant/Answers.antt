use Rattle.std.proofs.Common.{sym, subst}
use Rattle.pdw_engine.proofs.StateLemmas.{AreAllowed-constant}
use Rattle.pdw_engine.specs.Settings.{AreAllowed}
use Rattle.pdw_engine.proofs.session.Session.set_constant.Goals as goal

pub invariant_of-self : goal.invariant_of-self
invariant_of-self c = record {
  own = c.self.invariant.own;
  known = c.self.invariant.known;
  allowed = subst AreAllowed (sym c.with_constant-self-inside.ensures) (AreAllowed-constant c.args.part c.args.amount c.self.inside.settings c.requires c.self.invariant.allowed);
}
