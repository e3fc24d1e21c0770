use Rattle.pdw_stats.proofs.DistinctLemmas.{Sees-known, is_known-form}
use Rattle.pdw_stats.proofs.measuring.see.Goals as goal

pub returns-in_ok-insert-in-Int : goal.returns-in_ok-insert-in-Int
returns-in_ok-insert-in-Int c =
    Sees-known c.args.seen.now.keys c.insert.new.self.keys (record { value = c.args.value }) (is_known-form c.args.value c.in-Int.is) c.in_ok-insert-in-Int.ensures.keys
