-- The limits of a statement: what is judged has at most so many table references and queries, and its tree at most so many
-- nodes and makes columns of small numbers alone.
use Rattle.std.proofs.Common.{◌≡◌, ◌*◌, ◌≤◌, ◌<◌, true, List, [], length, sym, subst, arith}
use Rattle.std.specs.List.{AllByRecursion}
use Rattle.std.proofs.lemmas.List.Quantifiers.{position-Some}
use Rattle.pdw_algebra.proofs.AllLaws.{all-map}
use Rattle.pdw_algebra.specs.Shape.{shape_of}
use Rattle.pdw_base.specs.declared.schema.ColId.{ColId}
use Rattle.pdw_syntax.specs.declared.query.Select.{Select}
use Rattle.pdw_syntax.specs.declared.statement.Statement.{Statement}
use Rattle.pdw_syntax.specs.Written.{query_written}
use Rattle.pdw_bind.proofs.NodesBounds.{few_filters, few_groups, few_leaves, few_projections, fewer_joins, scans_are}
use Rattle.pdw_bind.proofs.WellFormedLaws.{trees_fit}
use Rattle.pdw_bind.specs.Bind.{bound}
use Rattle.pdw_bind.specs.Nodes.{nodes, operators}
use Rattle.pdw_catalog.specs.Catalog.{Tables}
use Rattle.pdw_catalog.specs.Database.{Database}
use Rattle.pdw_form.specs.Sound.{HaveColumns}
use Rattle.pdw_form.specs.Counts.{queries, references}
use Rattle.pdw_form.specs.declared.judged.JudgedQuery.{JudgedQuery}
use Rattle.pdw_form.specs.declared.judged.JudgedSelect.{JudgedSelect}
use Rattle.pdw_sound.proofs.CountedInduction.{counts_query, select_counted}
use Rattle.pdw_sound.proofs.CountedQueries.{walked_count}
use Rattle.pdw_sound.proofs.SoundInduction.{select_walk}
use Rattle.pdw_sound.proofs.SoundRelations.{Ranged}
use Rattle.pdw_sound.proofs.Tallies.{InLimits, Tally, TallyOf}
use Rattle.pdw_sound.proofs.TreeLaw.{held_is_sound}
use Rattle.pdw_walk.proofs.HeldSelects.{judged_walk}
use Rattle.pdw_walk.specs.Forms.{Judges}
use Rattle.pdw_walk.specs.Slot.{same_slot}
use Rattle.pdw_walk.specs.Walk.{Walk, beginning}
use Rattle.pdw_walk.specs.declared.entry.Role.TheVariants as role
use Rattle.pdw_walk.specs.declared.entry.Slot.{Slot}
use Rattle.pdw_walk.specs.declared.entry.Slot.TheVariants.{Made}
use Rattle.pdw_walk.specs.declared.fault.TheConstants.{MOST_QUERIES, MOST_REFERENCES, MOST_USED}

nothing_begun : InLimits beginning
nothing_begun = record { references = omega arith; queries = omega arith; used = omega arith }

module _ (tables : Tables) (x : Statement) (s : Select) (form : JudgedSelect) (judges : Judges tables x s form) where
  pub few_references : references form.query ≤ MOST_REFERENCES
  unfolding references
  few_references =
      let walk = judged_walk tables x s form judges in
      let tally = select_counted 1 0 tables s form walk.0 walk.1 in
      let counts = tally.sums in
      let few = (tally.limits nothing_begun).references in
      omega (arith, counts, few)

  pub few_queries : queries form.query ≤ MOST_QUERIES
  unfolding queries
  few_queries =
      let walk = judged_walk tables x s form judges in
      let tally = select_counted 0 1 tables s form walk.0 walk.1 in
      let counts = tally.sums in
      let few = (tally.limits nothing_begun).queries in
      omega (arith, counts, few)

  -- ---- the nodes of its tree

  pub few_scans : (nodes (bound form.query)).scans ≤ 10
  few_scans =
      let is = scans_are form.query in
      let few = few_references in
      omega (arith, is, few)

  pub judged_filters : (nodes (bound form.query)).filters ≤ 64
  judged_filters =
      let most = few_filters form.query in
      let few = few_queries in
      omega (arith, most, few)

  pub judged_projections : (nodes (bound form.query)).projections ≤ 64
  judged_projections =
      let most = few_projections form.query in
      let few = few_queries in
      omega (arith, most, few)

  pub judged_groups : (nodes (bound form.query)).groups ≤ 128
  judged_groups =
      let most = few_groups form.query in
      let few = few_queries in
      omega (arith, most, few)

module _ (database : Database) (x : Statement) (s : Select) (form : JudgedSelect) (have : HaveColumns database.tables) (written : query_written s.query ≡ true) (judges : Judges database.tables x s form) where
  pub judged_joins : (nodes (bound form.query)).joins ≤ 9
  judged_joins =
      let most = fewer_joins database.tables form.query (held_is_sound database x s form have written judges) in
      let few = few_references database.tables x s form judges in
      omega (arith, most, few)

  pub judged_leaves : (nodes (bound form.query)).leaves ≤ 82
  judged_leaves =
      let most = few_leaves database.tables form.query (held_is_sound database x s form have written judges) in
      let few = few_references database.tables x s form judges in
      let fewer = few_queries database.tables x s form judges in
      omega (arith, most, few, fewer)

  pub judged_operators : operators (nodes (bound form.query)) ≤ 485
  judged_operators =
      let scans = few_scans database.tables x s form judges in
      let leaves = judged_leaves in
      let joins = judged_joins in
      let filters = judged_filters database.tables x s form judges in
      let projections = judged_projections database.tables x s form judges in
      let groups = judged_groups database.tables x s form judges in
      omega (arith, scans, leaves, joins, filters, projections, groups)

  pub judged_plan : 5 * operators (nodes (bound form.query)) ≤ 2425
  judged_plan = let few = judged_operators in omega (arith, few)

  -- ---- the numbers of its columns

  -- a number below the limit
  abbrev IsUsed : ColId → Type 0
  IsUsed c = c.0 < MOST_USED

  ranged-used : (numbers : List Slot) (a b : Walk) → length numbers ≤ MOST_USED → (c : ColId) → Ranged numbers a b c → IsUsed c
  ranged-used numbers a b few c ranged =
      let here = (position-Some (same_slot ranged.slot) numbers c.0 (Made 0) ranged.at).0 in
      omega (arith, here, few)

  pub judged_columns : AllByRecursion IsUsed (shape_of database.tables (bound form.query)).made
  unfolding bound
  judged_columns =
      let walk = judged_walk database.tables x s form judges in
      let of = select_walk database have s written form walk.0 walk.1 in
      let counts : Tally 0 0 0 (walked_count 0 0 0 of.walked) beginning of.last = subst (TallyOf 0 0 0 (walked_count 0 0 0) beginning) of.begun ((counts_query 0 0 s.query 0 database.tables role.Statement []).at beginning) in
      subst (λ (q : JudgedQuery). AllByRecursion IsUsed (shape_of database.tables (bound q)).made) of.same
      (subst (AllByRecursion IsUsed) (sym (trees_fit database.tables (of.walked).query).whole_made)
      (all-map (Ranged (of.last).numbers beginning of.last) IsUsed (ranged-used (of.last).numbers beginning of.last (counts.limits nothing_begun).used) _ (of.fits).made))
