use Rattle.std.proofs.Common.{rules, subst, sym}
use Rattle.std.proofs.lemmas.Fn.{always_returns_same}
use Rattle.std.proofs.lemmas.List.Sorted.{ranks_by}
use Rattle.std.specs.Ordering.{is_lt}
use Rattle.pdw_semantics.specs.Answer.{IsOrdered, keys_cmp}
use Rattle.pdw_select.proofs.OrderLaws.{IsOrdered-sorted, keys_total}
use Rattle.pdw_select.proofs.order.ordered.Goals as goal

pub returns-clause-ordered : goal.returns-clause-ordered
returns-clause-ordered c =
    let keys = c.args.keys.now in
    let sorted = c.in_ok-sort_by.ensures.sorted (λ a b. is_lt (keys_cmp keys a b)) (ranks_by (keys_total keys) (λ row. row)) (always_returns_same _ _ _ (λ a r f k. search rules)) in
    subst (IsOrdered keys) (sym c.from_vec.ensures) (IsOrdered-sorted keys c.sort_by.new.self.items sorted)
