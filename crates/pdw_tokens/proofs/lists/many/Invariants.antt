use Rattle.std.specs.Prelude.{Option}
use Rattle.pdw_reading.specs.Reading.{Reader, many}
use Rattle.pdw_tokens.specs.Many.{ReadsAs}
use Rattle.pdw_tokens.proofs.Turns.{Left}
use Rattle.pdw_tokens.proofs.lists.many.Given as goal

abbrev pub invariant-loop-turn : goal.invariant-loop-turn
invariant-loop-turn g l =
    (step : Reader (Option _)) → ReadsAs step (goal.N-post g l.fn.next) → Left step (many step l.fn.tokens) l._turn-end l._turn l.found l.tokens
