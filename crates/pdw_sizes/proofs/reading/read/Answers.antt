use Rattle.std.proofs.Common.{◌<◌, length, sym, subst}
use Rattle.pdw_sizes.proofs.ReadLaws.{block-within, first-read, set-read, some-expr}
use Rattle.pdw_sizes.proofs.reading.read.Goals as goal

pub bounds-blocks-block : goal.bounds-blocks-block
bounds-blocks-block c =
    subst (λ blocks. c.in-Part.block < length blocks) (sym c.blocks-in-Part.ensures.blocks)
    (block-within c.args.memo.now c.args.g.0 c.groups.result.now c.groups.ensures.groups c.index-groups-g.result c.index-groups-g.is c.requires c.in-Part.block c.in-Part.leaves c.in-Part.is c.groups.ensures.memo)

pub bounds-as_slice-0 : goal.bounds-as_slice-0
bounds-as_slice-0 c =
    some-expr c.args.memo.now c.args.g.0 c.groups.result.now c.groups.ensures.groups c.index-groups-g.result c.index-groups-g.is c.requires c.groups.ensures.memo c.in-Whole.is c.as_slice.result.now c.as_slice.ensures

pub returns-in-Part : goal.returns-in-Part
returns-in-Part c =
    set-read c.args.memo.now c.args.g.0 c.groups.result.now c.groups.ensures.groups c.index-groups-g.result c.index-groups-g.is c.requires c.in-Part.block c.in-Part.leaves c.in-Part.is c.groups.ensures.memo
    c.blocks-in-Part.result.now c.blocks-in-Part.ensures.blocks c.index-blocks-block.result c.index-blocks-block.is c.cols.result.now c.cols.ensures.columns

pub returns-in-Whole : goal.returns-in-Whole
returns-in-Whole c =
    first-read c.args.memo.now c.args.g.0 c.groups.result.now c.groups.ensures.groups c.index-groups-g.result c.index-groups-g.is c.requires c.groups.ensures.memo c.in-Whole.is c.as_slice.result.now c.as_slice.ensures
    c.index-as_slice-0.result c.index-as_slice-0.is
