use Rattle.std.proofs.Common.{◌≢◌, ℕ, ◌≤◌, ◌<◌}
use Rattle.std.specs.Fmt.{decimal}
use Rattle.pdw_run.proofs.words.node_count.Given as goal

-- no number before this one is written by the word
abbrev pub invariant-loop-nodes : goal.invariant-loop-nodes
invariant-loop-nodes l = (nodes : ℕ) → 1 ≤ nodes → nodes < l.nodes → l.word ≢ decimal nodes
