use Rattle.std.proofs.Common.{◌≡◌, length, map}
use Rattle.pdw_lex.specs.Keyword.{keyword_among}
use Rattle.pdw_lex.proofs.keyword.keyword_at.Given as goal

abbrev pub invariant-loop-table : goal.invariant-loop-table
invariant-loop-table l = keyword_among (map (λ k. (k.0.now, k.1)) l.table) l.word ≡ keyword_among (map (λ k. (k.0.now, k.1)) l.initial.table) l.word

abbrev pub decreases-loop-table : goal.decreases-loop-table
decreases-loop-table l = length l.table
