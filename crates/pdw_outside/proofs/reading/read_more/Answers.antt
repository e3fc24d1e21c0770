use Rattle.std.proofs.Common.{rules, arith, ◌≡◌, ◌≤◌, length}
use Rattle.pdw_outside.proofs.WholeLemmas.{start_front}
use Rattle.pdw_outside.proofs.reading.read_more.Goals as goal

pub returns-clause-start : goal.returns-clause-start
returns-clause-start g c = λ start.
    let within : c.in_ok-count.count ≤ length c.read.new.buf = omega (arith, c.read.auto.buf, c.in_ok-count.ensures.within) in
    let here : c.len.result ≡ length c.args.taken.now.items = search rules in
    rw c.in_ok-extend_from_slice.ensures.items (start_front _ _ c.read.new.buf _ _ _ here within c.in_ok-count.ensures.given start)
