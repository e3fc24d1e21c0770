use Rattle.std.proofs.Common.{sym, subst}
use Rattle.std.specs.Str.{bytes_eq}
use Rattle.pdw_stats.specs.Book.{AreInRange}
use Rattle.pdw_stats.proofs.RangeLemmas.{AreInRange-remove_entry}
use Rattle.pdw_stats.proofs.book.StatsBook.remove.Goals as goal

pub invariant_of-self : goal.invariant_of-self
invariant_of-self c =
    subst AreInRange (sym c.shift_remove.ensures.entries) (AreInRange-remove_entry (bytes_eq c.args.table.now) c.self.inside.stats.entries c.self.invariant)
