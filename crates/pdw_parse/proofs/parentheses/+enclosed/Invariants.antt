use Rattle.pdw_parse.proofs.parentheses.+enclosed.Given as goal

abbrev pub decreases-enclosed : goal.decreases-enclosed
decreases-enclosed l = l.depth
