use Rattle.std.proofs.Common.{◌≡◌, ℕ, List, IfOk, string_bytes, sym, subst}
use Rattle.std.specs.Prelude.{codes}
use Rattle.pdw_walk.specs.declared.fault.JudgeFault.{JudgeFault}
use Rattle.pdw_run.specs.Refusal.{judged_line, named_line}
use Rattle.pdw_run.proofs.refusal.judged.Goals as goal

pub returns-in-UnknownTable : goal.returns-in-UnknownTable
returns-in-UnknownTable c =
    subst (λ (fault : JudgeFault). IfOk c.named-in-UnknownTable.result (λ line. string_bytes line ≡ judged_line c.args.k fault)) (sym c.in-UnknownTable.is)
    (subst (λ (name : List ℕ). IfOk c.named-in-UnknownTable.result (λ line. string_bytes line ≡ named_line (codes "E9") c.args.k (codes "UNKNOWNTABLE") name)) c.text-in-UnknownTable.ensures c.named-in-UnknownTable.ensures)

pub returns-in-UnknownColumn : goal.returns-in-UnknownColumn
returns-in-UnknownColumn c =
    subst (λ (fault : JudgeFault). IfOk c.named-in-UnknownColumn.result (λ line. string_bytes line ≡ judged_line c.args.k fault)) (sym c.in-UnknownColumn.is)
    (subst (λ (name : List ℕ). IfOk c.named-in-UnknownColumn.result (λ line. string_bytes line ≡ named_line (codes "E11") c.args.k (codes "UNKNOWNCOLUMN") name)) c.text-in-UnknownColumn.ensures c.named-in-UnknownColumn.ensures)

pub returns-in-AggregatePlace : goal.returns-in-AggregatePlace
returns-in-AggregatePlace c =
    subst (λ (fault : JudgeFault). IfOk c.worded-in-AggregatePlace.result (λ line. string_bytes line ≡ judged_line c.args.k fault)) (sym c.in-AggregatePlace.is) c.worded-in-AggregatePlace.ensures

pub returns-in-SubqueryPlace : goal.returns-in-SubqueryPlace
returns-in-SubqueryPlace c =
    subst (λ (fault : JudgeFault). IfOk c.worded-in-SubqueryPlace.result (λ line. string_bytes line ≡ judged_line c.args.k fault)) (sym c.in-SubqueryPlace.is) c.worded-in-SubqueryPlace.ensures
