use Rattle.std.proofs.Common.{reverse, ap, subst, ◌∙◌}
use Rattle.pdw_explore.proofs.ExploreLaws.{blocks-taken, can-taken, counted-taken, explored-is, grown-taken, is-memo, levels-given, made-taken, range-taken, ready-is, taken-from, turned-taken}
use Rattle.pdw_explore.proofs.RoomLaws.{Few}
use Rattle.pdw_explore.specs.declared.grown.Grown.{Grown}
use Rattle.pdw_explore.proofs.memo.explore.Goals as goal

pub levels-requires : goal.levels-requires
levels-requires c =
    let ready = ready-is c.args.budget c.requires.tables c.requires.tree c.requires.plannable c.args.memo c.requires.is in
    subst Few (blocks-taken c.args.budget c.args.memo c.into_parts-groups.result c.into_parts-groups.ensures.parts c.as_slice.result.now c.as_slice.ensures) ready.few

pub grow_all-requires : goal.grow_all-requires
grow_all-requires c =
    can-taken c.args.budget c.args.memo c.as_slice-2.result.now c.as_slice-3.result.now (reverse c.in_ok-groups.groups)
    (taken-from c.args.budget c.args.memo c.into_parts-groups.result c.into_parts-groups.ensures.parts c.as_slice.result.now c.as_slice-2.result.now c.as_slice-3.result.now c.in_ok-groups.groups c.as_slice.ensures c.as_slice-2.ensures (c.as_slice-3.ensures ∙ c.in_ok-levels.ensures) c.in_ok-groups.ensures)
    (ready-is c.args.budget c.requires.tables c.requires.tree c.requires.plannable c.args.memo c.requires.is)

pub moved_blocks-requires-clause-leaves : goal.moved_blocks-requires-clause-leaves
moved_blocks-requires-clause-leaves c =
    let taken = taken-from c.args.budget c.args.memo c.into_parts-groups.result c.into_parts-groups.ensures.parts c.as_slice.result.now c.as_slice-2.result.now c.as_slice-3.result.now c.in_ok-groups.groups c.as_slice.ensures c.as_slice-2.ensures (c.as_slice-3.ensures ∙ c.in_ok-levels.ensures) c.in_ok-groups.ensures in
    let grown = c.in_ok-grown.ensures ∙ grown-taken c.args.budget c.args.memo c.as_slice-2.result.now c.as_slice-3.result.now (reverse c.in_ok-groups.groups) taken in
    range-taken c.args.budget c.args.memo c.as_slice-4.result.now (reverse c.in_ok-reversed.reversed) (c.as_slice-4.ensures ∙ ap (λ (g : Grown). g.numbers) grown)
    (turned-taken c.args.budget c.args.memo c.into_parts-groups.result c.into_parts-groups.ensures.parts c.in_ok-reversed.reversed c.in_ok-reversed.ensures) (ready-is c.args.budget c.requires.tables c.requires.tree c.requires.plannable c.args.memo c.requires.is)

pub moved_blocks-requires-clause-each : goal.moved_blocks-requires-clause-each
moved_blocks-requires-clause-each c =
    counted-taken c.args.budget c.args.memo c.into_parts-groups.result c.into_parts-groups.ensures.parts c.in_ok-reversed.reversed c.as_slice.result.now c.as_slice-5.result.now c.in_ok-reversed.ensures c.as_slice.ensures (c.as_slice-5.ensures ∙ c.in_ok-levels.ensures)

pub from_parts-requires : goal.from_parts-requires
from_parts-requires c =
    let taken = taken-from c.args.budget c.args.memo c.into_parts-groups.result c.into_parts-groups.ensures.parts c.as_slice.result.now c.as_slice-2.result.now c.as_slice-3.result.now c.in_ok-groups.groups c.as_slice.ensures c.as_slice-2.ensures (c.as_slice-3.ensures ∙ c.in_ok-levels.ensures) c.in_ok-groups.ensures in
    let grown = c.in_ok-grown.ensures ∙ grown-taken c.args.budget c.args.memo c.as_slice-2.result.now c.as_slice-3.result.now (reverse c.in_ok-groups.groups) taken in
    is-memo c.args.budget c.args.memo _ c.requires.tables c.requires.tree c.requires.plannable c.requires.is
    (ap (λ bs. record { groups = c.in_ok-grown.grown.groups; blocks = bs }) c.in_ok-moved.ensures
    ∙ made-taken c.args.budget c.args.memo c.in_ok-grown.grown c.as_slice-4.result.now c.as_slice-5.result.now (reverse c.in_ok-reversed.reversed) grown (c.as_slice-4.ensures ∙ ap (λ (g : Grown). g.numbers) grown)
    (levels-given c.args.budget c.args.memo c.into_parts-groups.result c.into_parts-groups.ensures.parts c.as_slice.result.now c.as_slice-5.result.now c.as_slice.ensures (c.as_slice-5.ensures ∙ c.in_ok-levels.ensures))
    (turned-taken c.args.budget c.args.memo c.into_parts-groups.result c.into_parts-groups.ensures.parts c.in_ok-reversed.reversed c.in_ok-reversed.ensures))

pub returns : goal.returns
returns c = λ tables tree plannable is.
    let taken = taken-from c.args.budget c.args.memo c.into_parts-groups.result c.into_parts-groups.ensures.parts c.as_slice.result.now c.as_slice-2.result.now c.as_slice-3.result.now c.in_ok-groups.groups c.as_slice.ensures c.as_slice-2.ensures (c.as_slice-3.ensures ∙ c.in_ok-levels.ensures) c.in_ok-groups.ensures in
    let grown = c.in_ok-grown.ensures ∙ grown-taken c.args.budget c.args.memo c.as_slice-2.result.now c.as_slice-3.result.now (reverse c.in_ok-groups.groups) taken in
    c.from_parts.ensures ∙ ap (λ bs. record { groups = c.in_ok-grown.grown.groups; blocks = bs }) c.in_ok-moved.ensures
    ∙ made-taken c.args.budget c.args.memo c.in_ok-grown.grown c.as_slice-4.result.now c.as_slice-5.result.now (reverse c.in_ok-reversed.reversed) grown (c.as_slice-4.ensures ∙ ap (λ (g : Grown). g.numbers) grown)
    (levels-given c.args.budget c.args.memo c.into_parts-groups.result c.into_parts-groups.ensures.parts c.as_slice.result.now c.as_slice-5.result.now c.as_slice.ensures (c.as_slice-5.ensures ∙ c.in_ok-levels.ensures))
    (turned-taken c.args.budget c.args.memo c.into_parts-groups.result c.into_parts-groups.ensures.parts c.in_ok-reversed.reversed c.in_ok-reversed.ensures)
    ∙ explored-is c.args.budget tables tree plannable c.args.memo is
