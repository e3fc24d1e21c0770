use Rattle.std.proofs.Common.{sym, subst}
use Rattle.pdw_stats.specs.Book.{AreInRange}
use Rattle.pdw_stats.proofs.RangeLemmas.{AreInRange-insert_entry}
use Rattle.pdw_stats.proofs.book.StatsBook.put.Goals as goal

pub invariant_of-self-2 : goal.invariant_of-self-2
invariant_of-self-2 c =
    subst AreInRange (sym c.in_ok-insert.ensures.entries) (AreInRange-insert_entry c.self.inside.stats.entries c.in_ok-name.name c.args.s c.self.invariant c.requires)
