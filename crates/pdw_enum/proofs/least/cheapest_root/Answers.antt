use Rattle.std.proofs.Common.{◌≡◌, ◌-◌, ap, ap₂, arith, get_or, length, subst, sym, ◌∙◌}
use Rattle.std.specs.Option.{IsSome}
use Rattle.pdw_least.specs.Premises.{costs_of}
use Rattle.pdw_rules.specs.Rules.{properties_of}
use Rattle.pdw_ways.specs.Bounds.{bound_by, bound_in, least_in}
use Rattle.pdw_enum.proofs.LeastPlans.{root-cheapest, root-different, root-size, root-some, root-there, shape-count, some-groups}
use Rattle.pdw_enum.specs.Root.{AreDifferent, root_of}
use Rattle.pdw_enum.proofs.least.cheapest_root.Goals as goal

pub bounds-as_slice-last : goal.bounds-as_slice-last
bounds-as_slice-last c =
    let groups = c.args.search.now.groups.now in
    let same = ap length c.as_slice.ensures in
    let count = shape-count groups c.args.table.now.lists c.requires.least.shape in
    let some = some-groups groups c.requires.rooted in
    omega (arith, same, count, some)

pub cheapest-requires-clause-size : goal.cheapest-requires-clause-size
cheapest-requires-clause-size c =
    let groups = c.args.search.now.groups.now in
    let list = c.index-as_slice-last.result in
    let is = subst (λ lists. list ≡ get_or lists (length groups - 1) list) c.as_slice.ensures c.index-as_slice-last.is in
    ap length c.as_slice-3.ensures ∙ root-size groups c.args.table.now.lists c.requires.least.shape c.requires.rooted c.index-search-last.result list is
    ∙ ap (λ columns. length (properties_of columns)) (sym c.as_slice-2.ensures)

pub cheapest-requires-clause-different : goal.cheapest-requires-clause-different
cheapest-requires-clause-different c =
    let groups = c.args.search.now.groups.now in
    let list = c.index-as_slice-last.result in
    let is = subst (λ lists. list ≡ get_or lists (length groups - 1) list) c.as_slice.ensures c.index-as_slice-last.is in
    subst AreDifferent (sym c.as_slice-2.ensures) (root-different groups c.args.table.now.lists c.requires.least.shape c.requires.rooted c.index-search-last.result list is)

pub cheapest-requires-clause-reached : goal.cheapest-requires-clause-reached
cheapest-requires-clause-reached c =
    let groups = c.args.search.now.groups.now in
    let lists = c.args.table.now.lists in
    let any = c.index-search-last.result in
    let list = c.index-as_slice-last.result in
    let is = subst (λ lists. list ≡ get_or lists (length groups - 1) list) c.as_slice.ensures c.index-as_slice-last.is in
    let there = root-there groups lists c.requires.least.shape c.requires.rooted any list is in
    subst (λ bounds. IsSome (least_in bounds)) (sym c.as_slice-3.ensures)
    (root-some groups lists c.requires.least.shape c.requires.rooted any list is
    (c.each_group_is_reached.ensures groups (costs_of c.args.search.now.costing.now) (bound_in groups lists) c.requires.least.valid c.requires.premises.ordered c.requires.made (root_of groups) (get_or groups (length groups - 1) any) there))

pub returns : goal.returns
returns c =
    let groups = c.args.search.now.groups.now in
    let lists = c.args.table.now.lists in
    let any = c.index-search-last.result in
    let list = c.index-as_slice-last.result in
    let p = c.in_ok-prop.prop in
    let is = subst (λ lists. list ≡ get_or lists (length groups - 1) list) c.as_slice.ensures c.index-as_slice-last.is in
    let there = root-there groups lists c.requires.least.shape c.requires.rooted any list is in
    root-cheapest groups lists c.requires.least.shape c.requires.rooted any list is p
    (sym (ap₂ (λ columns bounds. bound_by columns bounds p) c.as_slice-2.ensures c.as_slice-3.ensures) ∙ c.in_ok-prop.ensures ∙ ap least_in c.as_slice-3.ensures)
    (root-some groups lists c.requires.least.shape c.requires.rooted any list is
    (c.each_group_is_reached.ensures groups (costs_of c.args.search.now.costing.now) (bound_in groups lists) c.requires.least.valid c.requires.premises.ordered c.requires.made (root_of groups) (get_or groups (length groups - 1) any) there))
