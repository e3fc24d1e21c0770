use Rattle.std.proofs.Common.{sym, subst}
use Rattle.pdw_catalog.specs.Appliance.{Contents, CanCreate}
use Rattle.pdw_catalog.proofs.ApplianceLemmas.{IsSound-creating}
use Rattle.pdw_catalog.proofs.CreatedLemmas.{GainsTable-creating}
use Rattle.pdw_catalog.proofs.appliance.Appliance.create_table.Goals as goal

pub invariant_of-self-in_default : goal.invariant_of-self-in_default
invariant_of-self-in_default c =
    let held : Contents = record { nodes = c.self.inside.nodes; tables = c.self.inside.catalog; bags = c.self.inside.bags.items } in
    let can = subst (λ contents. CanCreate contents c.args.t) (sym c.self.view_is) c.requires in
    let sound = IsSound-creating held c.args.t c.self.invariant can in
    rw (c.in_default.ensures.ok, c.in_ok-push.ensures.items, c.in_ok-name.ensures, c.in_ok-bags.ensures) sound

pub returns-clause-gained : goal.returns-clause-gained
returns-clause-gained c =
    let held : Contents = record { nodes = c.self.inside.nodes; tables = c.self.inside.catalog; bags = c.self.inside.bags.items } in
    let can = subst (λ contents. CanCreate contents c.args.t) (sym c.self.view_is) c.requires in
    let gained = GainsTable-creating held c.args.t c.self.invariant can in
    rw (← c.self.view_is, c.in_default.ensures.ok, c.in_ok-push.ensures.items, c.in_ok-name.ensures, c.in_ok-bags.ensures) gained
