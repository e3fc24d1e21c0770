use Rattle.pdw_tokens.proofs.Turns.{ends}
use Rattle.pdw_tokens.proofs.lists.many.Goals as goal

pub returns-in-None : goal.returns-in-None
returns-in-None g c = λ step follows.
    let e = follows.reads _ _ _ c.in_ok-item.ensures in
    let left = c.loop-turn.invariant step follows in
    let f = rw c.in-None.is at e in
    ends left c.loop-turn-test.true f
