use Rattle.std.proofs.Common.{IfSome, sym, subst}
use Rattle.std.specs.Str.{bytes_eq}
use Rattle.pdw_stats.specs.Stats.{IsInRange}
use Rattle.pdw_stats.proofs.RangeLemmas.{IfSome-copied, IsInRange-lookup}
use Rattle.pdw_stats.proofs.book.StatsBook.get.Goals as goal

pub returns-clause-range : goal.returns-clause-range
returns-clause-range c =
    IfSome-copied c.get.result
    (subst (λ found. IfSome found IsInRange) (sym c.get.ensures.value) (IsInRange-lookup (bytes_eq c.args.table.now) c.self.inside.stats.entries c.self.invariant))
