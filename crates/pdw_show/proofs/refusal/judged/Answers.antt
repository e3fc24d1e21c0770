use Rattle.std.proofs.Common.{◌≡◌, ℕ, List, IfOk, string_bytes, sym, subst}
use Rattle.std.specs.Prelude.{codes}
use Rattle.pdw_walk.specs.declared.fault.JudgeFault.{JudgeFault}
use Rattle.pdw_show.specs.Refusal.{judged_line, named_line}
use Rattle.pdw_show.proofs.refusal.judged.Goals as goal

pub returns-in-UnknownTable-clause-line : goal.returns-in-UnknownTable-clause-line
returns-in-UnknownTable-clause-line c =
    subst (λ (fault : JudgeFault). IfOk c.named-in-UnknownTable.result (λ line. string_bytes line ≡ judged_line c.args.k fault)) (sym c.in-UnknownTable.is)
    (subst (λ (name : List ℕ). IfOk c.named-in-UnknownTable.result (λ line. string_bytes line ≡ named_line (codes "E9") c.args.k (codes "UNKNOWNTABLE") name)) c.text-in-UnknownTable.ensures c.named-in-UnknownTable.ensures)

pub returns-in-UnknownColumn-clause-line : goal.returns-in-UnknownColumn-clause-line
returns-in-UnknownColumn-clause-line c =
    subst (λ (fault : JudgeFault). IfOk c.named-in-UnknownColumn.result (λ line. string_bytes line ≡ judged_line c.args.k fault)) (sym c.in-UnknownColumn.is)
    (subst (λ (name : List ℕ). IfOk c.named-in-UnknownColumn.result (λ line. string_bytes line ≡ named_line (codes "E11") c.args.k (codes "UNKNOWNCOLUMN") name)) c.text-in-UnknownColumn.ensures c.named-in-UnknownColumn.ensures)

pub returns-in-AggregatePlace-clause-line : goal.returns-in-AggregatePlace-clause-line
returns-in-AggregatePlace-clause-line c =
    subst (λ (fault : JudgeFault). IfOk c.worded-in-AggregatePlace.result (λ line. string_bytes line ≡ judged_line c.args.k fault)) (sym c.in-AggregatePlace.is) c.worded-in-AggregatePlace.ensures

pub returns-in-SubqueryPlace-clause-line : goal.returns-in-SubqueryPlace-clause-line
returns-in-SubqueryPlace-clause-line c =
    subst (λ (fault : JudgeFault). IfOk c.worded-in-SubqueryPlace.result (λ line. string_bytes line ≡ judged_line c.args.k fault)) (sym c.in-SubqueryPlace.is) c.worded-in-SubqueryPlace.ensures
