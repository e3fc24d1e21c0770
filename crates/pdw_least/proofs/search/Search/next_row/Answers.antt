use Rattle.std.proofs.Common.{◌≡◌, [], ap, sym, subst, ◌∙◌}
use Rattle.pdw_rules.specs.Rules.{properties_of}
use Rattle.pdw_least.proofs.Passes.{local-going}
use Rattle.pdw_least.proofs.Tables.{row-start, table-more}
use Rattle.pdw_least.specs.Premises.{costs_of}
use Rattle.pdw_least.specs.States.{AreUnderInner, IsInnerGoing, IsLocalDone, blank_row}
use Rattle.pdw_least.proofs.search.Search.next_row.Goals as goal

pub look_at_operators-requires-clause-start : goal.look_at_operators-requires-clause-start
look_at_operators-requires-clause-start c =
    subst (λ row. IsLocalDone c.args.self.now.groups.now (costs_of c.args.self.now.costing.now) c.args.lists.now c.args.number c.args.group.now [] row c.args.log.now)
    (sym (c.in_ok-row.ensures ∙ ap blank_row (c.as_slice-2.ensures ∙ c.in_ok-props.ensures ∙ ap properties_of c.as_slice.ensures)))
    (row-start c.args.self.now.groups.now (costs_of c.args.self.now.costing.now) c.args.lists.now c.args.number c.requires.next c.args.group.now c.requires.there c.args.log.now c.requires.table)

pub settle-requires-clause-going : goal.settle-requires-clause-going
settle-requires-clause-going c = local-going c.args.self.now.groups.now (costs_of c.args.self.now.costing.now) c.args.lists.now c.args.number c.args.group.now c.requires.there
    c.as_slice-3.result.now c.look_at_operators.new.row c.look_at_operators.new.log c.in_ok-look_at_operators.ensures

pub returns : goal.returns
returns c =
    let listed : c.as_slice-3.result.now ≡ properties_of c.args.group.now.interesting = c.as_slice-3.ensures ∙ c.in_ok-props.ensures ∙ ap properties_of c.as_slice.ensures in
    table-more c.args.self.now.groups.now (costs_of c.args.self.now.costing.now) c.args.lists.now c.args.number c.requires.next c.args.group.now c.requires.there c.requires.premises.ordered
    c.args.log.now c.settle.new.log c.settle.new.row c.requires.table
    (subst (λ props. IsInnerGoing c.args.self.now.groups.now (costs_of c.args.self.now.costing.now) c.args.lists.now c.args.number c.args.group.now props c.settle.new.row c.settle.new.log) listed c.in_ok-settle.ensures.going)
    (subst (λ props. AreUnderInner c.args.self.now.groups.now (costs_of c.args.self.now.costing.now) c.args.lists.now c.args.number c.args.group.now props c.settle.new.log) listed c.in_ok-settle.ensures.settled)
