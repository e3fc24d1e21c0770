-- At most so many nodes of each kind stand in the tree of a sound form.
use Rattle.std.proofs.Common.{◌≡◌, ◌+◌, ◌≤◌, arith}
use Rattle.pdw_bind.proofs.NodesInduction.{bound_counts}
use Rattle.pdw_bind.proofs.NodesShapes.{few_joins}
use Rattle.pdw_bind.proofs.WellFormedLaws.{sound_is_well_formed}
use Rattle.pdw_bind.specs.Bind.{bound}
use Rattle.pdw_bind.specs.Nodes.{nodes}
use Rattle.pdw_catalog.specs.Catalog.{Tables}
use Rattle.pdw_form.specs.Counts.{queries, references}
use Rattle.pdw_form.specs.Sound.{IsSound}
use Rattle.pdw_form.specs.declared.judged.JudgedQuery.{JudgedQuery}

pub scans_are : (q : JudgedQuery) → (nodes (bound q)).scans ≡ references q
scans_are q = (bound_counts q).scans

pub few_filters : (q : JudgedQuery) → (nodes (bound q)).filters ≤ queries q
few_filters q = (bound_counts q).filters

pub few_projections : (q : JudgedQuery) → (nodes (bound q)).projections ≤ queries q
few_projections q = (bound_counts q).projections

pub few_groups : (q : JudgedQuery) → (nodes (bound q)).groups ≤ queries q + queries q
few_groups q = (bound_counts q).groups

module _ (tables : Tables) (q : JudgedQuery) (sound : IsSound tables q) where
  pub fewer_joins : (nodes (bound q)).joins + 1 ≤ references q
  fewer_joins =
      let scans = scans_are q in
      let joins = (few_joins tables (bound q) (sound_is_well_formed tables q sound).nodes).joins in
      omega (arith, scans, joins)

  pub fewer_blocks : (nodes (bound q)).blocks ≤ (nodes (bound q)).leaves
  fewer_blocks = (few_joins tables (bound q) (sound_is_well_formed tables q sound).nodes).blocks

  pub few_leaves : (nodes (bound q)).leaves + 2 ≤ (references q + references q) + queries q
  few_leaves =
      let leaves = (bound_counts q).leaves in
      let joins = fewer_joins in
      omega (arith, leaves, joins)
