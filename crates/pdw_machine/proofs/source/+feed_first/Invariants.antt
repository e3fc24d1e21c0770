use Rattle.pdw_machine.proofs.source.+feed_first.Given as goal

abbrev pub decreases-feed_first : goal.decreases-feed_first
decreases-feed_first l = l.count
