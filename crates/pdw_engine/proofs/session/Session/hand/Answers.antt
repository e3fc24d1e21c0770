use Rattle.std.proofs.Common.{sym, subst}
use Rattle.pdw_engine.proofs.StateLemmas.{IsInRange-handed}
use Rattle.pdw_stats.specs.Stats.{IsInRange}
use Rattle.pdw_engine.proofs.session.Session.hand.Goals as goal

pub put-requires : goal.put-requires
put-requires c =
    subst IsInRange (sym c.in_ok-stats.ensures) (IsInRange-handed c.args.rows c.args.numbers.now c.in-Some.had.now c.requires.range c.in-Some.ensures.range)
