-- The induction over queries and what stands in them: what the walk accepts is sound.
use Rattle.std.proofs.Common.{◌≡◌, ◌<◌, Bool, true, false, not, List, [], ◌∷◌, length, map, Option, Some, None, sym, ap, subst, ◌∙◌, true≢false, arith}
use Rattle.std.specs.List.{AllByRecursion, list_all}
use Rattle.std.proofs.lemmas.Bool.{and_from, and_parts}
use Rattle.std.proofs.lemmas.Option.{none-some}
use Rattle.pdw_syntax.specs.declared.query.JoinPart.{JoinPart, roll-JoinPart}
use Rattle.pdw_syntax.specs.declared.query.Primary.TheFolds.{fold-JoinPart, fold-Primary, fold-Query, fold-SqlCond, fold-TableRef, fold-roll-JoinPart, fold-roll-Primary, fold-roll-Query, fold-roll-SqlCond, fold-roll-TableRef, ind-Query, map-JoinPart, map-Primary, map-Query, map-SqlCond, map-TableRef}
use Rattle.pdw_syntax.specs.declared.query.Primary.TheOpen.{JoinPart-F, Primary-F, Query-F, SqlCond-F, TableRef-F}
use Rattle.pdw_syntax.specs.declared.query.Primary.TheViews.{roll-Primary, roll-SqlCond}
use Rattle.pdw_syntax.specs.declared.query.Primary.{Primary}
use Rattle.pdw_syntax.specs.declared.query.Query.{Query, roll-Query}
use Rattle.pdw_syntax.specs.declared.query.Select.{Select}
use Rattle.pdw_syntax.specs.declared.query.SqlCond.{SqlCond}
use Rattle.pdw_syntax.specs.declared.query.TableRef.{TableRef, roll-TableRef}
use Rattle.pdw_sound.proofs.SoundConds.{all_sound, any_sound, between_sound, compare_sound, exists_sound, in_list_sound, in_query_sound, like_sound, not_sound, null_sound, paren_cond_sound, test_sound}
use Rattle.pdw_sound.proofs.SoundDerived.{derived_sound}
use Rattle.pdw_sound.proofs.SoundFrom.{paren_sound, table_ref_sound}
use Rattle.pdw_sound.proofs.SoundJoins.{join_part_sound}
use Rattle.pdw_sound.proofs.SoundQueries.{query_sound}
use Rattle.pdw_sound.proofs.SoundRelations.{CondSound, CondSoundIf, Distinct, ElementSound, JoinSound, QueryFits, QuerySound}
use Rattle.pdw_sound.proofs.SoundTables.{named_sound}
use Rattle.pdw_form.specs.Sound.{HaveColumns, IsSound, query_shape}
use Rattle.pdw_syntax.specs.Written.{cond_written_step, if_any, join_written_step, primary_written_step, query_written, query_written_step, some_elements, table_written_step}
use Rattle.pdw_catalog.specs.Database.{Database}
use Rattle.pdw_walk.proofs.Outcomes.{done_value, in_turn}
use Rattle.pdw_names.proofs.Relations.{Proper}
use Rattle.pdw_walk.specs.Conds.{Condition, QueryWalk, cond_step}
use Rattle.pdw_walk.specs.Froms.{ElementWalk, JoinWalk}
use Rattle.pdw_walk.specs.Froms as walk
use Rattle.pdw_walk.specs.Queries as walk_of
use Rattle.pdw_walk.specs.Walk.{Walk, beginning, done, each, pure}
use Rattle.pdw_walk.specs.declared.entry.Role.TheVariants as role
use Rattle.pdw_walk.specs.declared.entry.Walked.{Walked}
use Rattle.pdw_form.specs.declared.judged.JudgedQuery.{JudgedQuery}
use Rattle.pdw_form.specs.declared.judged.JudgedSelect.{JudgedSelect}

module _ (database : Database) (have : HaveColumns database.tables) where
  abbrev primary_walk : Primary → ElementWalk
  primary_walk = fold-Primary ElementWalk Condition JoinWalk QueryWalk ElementWalk walk.primary_step cond_step walk.join_step walk_of.query_step walk.table_ref_step

  abbrev cond_walk : SqlCond → Condition
  cond_walk = fold-SqlCond ElementWalk Condition JoinWalk QueryWalk ElementWalk walk.primary_step cond_step walk.join_step walk_of.query_step walk.table_ref_step

  abbrev join_walk : JoinPart → JoinWalk
  join_walk = fold-JoinPart ElementWalk Condition JoinWalk QueryWalk ElementWalk walk.primary_step cond_step walk.join_step walk_of.query_step walk.table_ref_step

  abbrev query_walk : Query → QueryWalk
  query_walk = fold-Query ElementWalk Condition JoinWalk QueryWalk ElementWalk walk.primary_step cond_step walk.join_step walk_of.query_step walk.table_ref_step

  abbrev table_walk : TableRef → ElementWalk
  table_walk = fold-TableRef ElementWalk Condition JoinWalk QueryWalk ElementWalk walk.primary_step cond_step walk.join_step walk_of.query_step walk.table_ref_step

  abbrev primary_written : Primary → Bool
  primary_written = fold-Primary Bool Bool Bool Bool Bool primary_written_step cond_written_step join_written_step query_written_step table_written_step

  abbrev cond_written : SqlCond → Bool
  cond_written = fold-SqlCond Bool Bool Bool Bool Bool primary_written_step cond_written_step join_written_step query_written_step table_written_step

  abbrev join_written : JoinPart → Bool
  join_written = fold-JoinPart Bool Bool Bool Bool Bool primary_written_step cond_written_step join_written_step query_written_step table_written_step

  abbrev table_written : TableRef → Bool
  table_written = fold-TableRef Bool Bool Bool Bool Bool primary_written_step cond_written_step join_written_step query_written_step table_written_step

  -- ---- what is proved of each

  abbrev PrimaryLaw : Primary → Type 0
  PrimaryLaw x = primary_written x ≡ true → ElementSound database (primary_walk x)

  abbrev CondLaw : SqlCond → Type 0
  CondLaw x = cond_written x ≡ true → CondSound database (cond_walk x)

  abbrev JoinLaw : JoinPart → Type 0
  JoinLaw x = join_written x ≡ true → JoinSound database (join_walk x)

  abbrev QueryLaw : Query → Type 0
  QueryLaw x = query_written x ≡ true → QuerySound database (query_walk x)

  abbrev TableLaw : TableRef → Type 0
  TableLaw x = table_written x ≡ true → ElementSound database (table_walk x)

  abbrev KnownPrimary : Type 0
  KnownPrimary = (x : Primary) × PrimaryLaw x

  abbrev KnownCond : Type 0
  KnownCond = (x : SqlCond) × CondLaw x

  abbrev KnownJoin : Type 0
  KnownJoin = (x : JoinPart) × JoinLaw x

  abbrev KnownQuery : Type 0
  KnownQuery = (x : Query) × QueryLaw x

  abbrev KnownTable : Type 0
  KnownTable = (x : TableRef) × TableLaw x

  -- ---- elements of FROM

  abbrev known_primary : Primary-F KnownPrimary KnownCond KnownJoin KnownQuery KnownTable → Primary-F Primary SqlCond JoinPart Query TableRef
  known_primary = map-Primary KnownPrimary KnownCond KnownJoin KnownQuery KnownTable Primary SqlCond JoinPart Query TableRef (λ e. e.0) (λ e. e.0) (λ e. e.0) (λ e. e.0) (λ e. e.0)

  abbrev primary_walks : Primary-F Primary SqlCond JoinPart Query TableRef → Primary-F ElementWalk Condition JoinWalk QueryWalk ElementWalk
  primary_walks = map-Primary Primary SqlCond JoinPart Query TableRef ElementWalk Condition JoinWalk QueryWalk ElementWalk primary_walk cond_walk join_walk query_walk table_walk

  abbrev primary_texts : Primary-F Primary SqlCond JoinPart Query TableRef → Primary-F Bool Bool Bool Bool Bool
  primary_texts = map-Primary Primary SqlCond JoinPart Query TableRef Bool Bool Bool Bool Bool primary_written cond_written join_written query_written table_written

  primary_layer : (y : Primary-F KnownPrimary KnownCond KnownJoin KnownQuery KnownTable) → primary_written_step (primary_texts (known_primary y)) ≡ true → ElementSound database (walk.primary_step (primary_walks (known_primary y)))
  primary_layer (Primary-F.Named table alias) written = named_sound database have table alias
  primary_layer (Primary-F.Derived query alias) written = derived_sound database (query_walk query.0) alias (query.1 written)
  primary_layer (Primary-F.«Primary::Paren» element) written = paren_sound database (table_walk element.0) (element.1 written)

  primary_law : (x : Primary-F Primary SqlCond JoinPart Query TableRef) (y : Primary-F KnownPrimary KnownCond KnownJoin KnownQuery KnownTable) → known_primary y ≡ x → PrimaryLaw (roll-Primary x)
  primary_law x y is = subst (λ z. PrimaryLaw (roll-Primary z)) is (λ written.
      subst (ElementSound database)
      (sym (fold-roll-Primary ElementWalk Condition JoinWalk QueryWalk ElementWalk walk.primary_step cond_step walk.join_step walk_of.query_step walk.table_ref_step (known_primary y)))
      (primary_layer y (sym (fold-roll-Primary Bool Bool Bool Bool Bool primary_written_step cond_written_step join_written_step query_written_step table_written_step (known_primary y)) ∙ written)))

  -- ---- conditions

  cond_parts : (parts : List KnownCond) → list_all (λ part. part) (map cond_written (map (λ (part : KnownCond). part.0) parts)) ≡ true → AllByRecursion (CondSound database) (map cond_walk (map (λ (part : KnownCond). part.0) parts))
  cond_parts [] written = tt
  cond_parts (part ∷ parts) written = let both = and_parts _ _ written in (part.1 both.0, cond_parts parts both.1)

  abbrev known_cond : SqlCond-F KnownPrimary KnownCond KnownJoin KnownQuery KnownTable → SqlCond-F Primary SqlCond JoinPart Query TableRef
  known_cond = map-SqlCond KnownPrimary KnownCond KnownJoin KnownQuery KnownTable Primary SqlCond JoinPart Query TableRef (λ e. e.0) (λ e. e.0) (λ e. e.0) (λ e. e.0) (λ e. e.0)

  abbrev cond_walks : SqlCond-F Primary SqlCond JoinPart Query TableRef → SqlCond-F ElementWalk Condition JoinWalk QueryWalk ElementWalk
  cond_walks = map-SqlCond Primary SqlCond JoinPart Query TableRef ElementWalk Condition JoinWalk QueryWalk ElementWalk primary_walk cond_walk join_walk query_walk table_walk

  abbrev cond_texts : SqlCond-F Primary SqlCond JoinPart Query TableRef → SqlCond-F Bool Bool Bool Bool Bool
  cond_texts = map-SqlCond Primary SqlCond JoinPart Query TableRef Bool Bool Bool Bool Bool primary_written cond_written join_written query_written table_written

  cond_layer : (y : SqlCond-F KnownPrimary KnownCond KnownJoin KnownQuery KnownTable) → cond_written_step (cond_texts (known_cond y)) ≡ true → CondSound database (cond_step (cond_walks (known_cond y)))
  cond_layer (SqlCond-F.Compare op a b) written = let both = and_parts _ _ written in compare_sound database op a b both.0 both.1
  cond_layer (SqlCond-F.Like negated a b) written = let both = and_parts _ _ written in like_sound database negated a b both.0 both.1
  cond_layer (SqlCond-F.IsNull negated a) written = null_sound database negated a written
  cond_layer (SqlCond-F.Between negated a low high) written =
      let both = and_parts _ _ written in
      let ends = and_parts _ _ both.1 in
      between_sound database negated a low high both.0 ends.0 ends.1
  cond_layer (SqlCond-F.InList negated a list) written = let both = and_parts _ _ written in in_list_sound database negated a list both.0 both.1
  cond_layer (SqlCond-F.InQuery negated a query) written = let both = and_parts _ _ written in in_query_sound database negated a (query_walk query.0) both.0 (query.1 both.1)
  cond_layer (SqlCond-F.Exists query) written = exists_sound database (query_walk query.0) (query.1 written)
  cond_layer (SqlCond-F.Test negated part truth) written = test_sound database negated (cond_walk part.0) truth (part.1 written)
  cond_layer (SqlCond-F.Not part) written = not_sound database (cond_walk part.0) (part.1 written)
  cond_layer (SqlCond-F.All parts) written = all_sound database (map cond_walk (map (λ (part : KnownCond). part.0) parts)) (cond_parts parts written)
  cond_layer (SqlCond-F.Any parts) written = any_sound database (map cond_walk (map (λ (part : KnownCond). part.0) parts)) (cond_parts parts written)
  cond_layer (SqlCond-F.«SqlCond::Paren» part) written = paren_cond_sound database (cond_walk part.0) (part.1 written)

  cond_law : (x : SqlCond-F Primary SqlCond JoinPart Query TableRef) (y : SqlCond-F KnownPrimary KnownCond KnownJoin KnownQuery KnownTable) → known_cond y ≡ x → CondLaw (roll-SqlCond x)
  cond_law x y is = subst (λ z. CondLaw (roll-SqlCond z)) is (λ written.
      subst (CondSound database)
      (sym (fold-roll-SqlCond ElementWalk Condition JoinWalk QueryWalk ElementWalk walk.primary_step cond_step walk.join_step walk_of.query_step walk.table_ref_step (known_cond y)))
      (cond_layer y (sym (fold-roll-SqlCond Bool Bool Bool Bool Bool primary_written_step cond_written_step join_written_step query_written_step table_written_step (known_cond y)) ∙ written)))

  -- ---- joins

  abbrev known_join : JoinPart-F KnownPrimary KnownCond KnownJoin KnownQuery KnownTable → JoinPart-F Primary SqlCond JoinPart Query TableRef
  known_join = map-JoinPart KnownPrimary KnownCond KnownJoin KnownQuery KnownTable Primary SqlCond JoinPart Query TableRef (λ e. e.0) (λ e. e.0) (λ e. e.0) (λ e. e.0) (λ e. e.0)

  abbrev join_walks : JoinPart-F Primary SqlCond JoinPart Query TableRef → JoinPart-F ElementWalk Condition JoinWalk QueryWalk ElementWalk
  join_walks = map-JoinPart Primary SqlCond JoinPart Query TableRef ElementWalk Condition JoinWalk QueryWalk ElementWalk primary_walk cond_walk join_walk query_walk table_walk

  abbrev join_texts : JoinPart-F Primary SqlCond JoinPart Query TableRef → JoinPart-F Bool Bool Bool Bool Bool
  join_texts = map-JoinPart Primary SqlCond JoinPart Query TableRef Bool Bool Bool Bool Bool primary_written cond_written join_written query_written table_written

  on_if : (y : JoinPart-F KnownPrimary KnownCond KnownJoin KnownQuery KnownTable) (on : Option KnownCond) → if_any (join_texts (known_join (record y { on = on }))).on ≡ true → CondSoundIf database (join_walks (known_join (record y { on = on }))).on
  on_if y None written = tt
  on_if y (Some part) written = part.1 written

  join_layer : (y : JoinPart-F KnownPrimary KnownCond KnownJoin KnownQuery KnownTable) → join_written_step (join_texts (known_join y)) ≡ true → JoinSound database (walk.join_step (join_walks (known_join y)))
  join_layer y written =
      let both = and_parts _ _ written in
      join_part_sound database y.word (primary_walk y.right.0) (join_walks (known_join y)).on (y.right.1 both.0) (on_if y y.on both.1)

  join_law : (x : JoinPart-F Primary SqlCond JoinPart Query TableRef) (y : JoinPart-F KnownPrimary KnownCond KnownJoin KnownQuery KnownTable) → known_join y ≡ x → JoinLaw (roll-JoinPart x)
  join_law x y is = subst (λ z. JoinLaw (roll-JoinPart z)) is (λ written.
      subst (JoinSound database)
      (sym (fold-roll-JoinPart ElementWalk Condition JoinWalk QueryWalk ElementWalk walk.primary_step cond_step walk.join_step walk_of.query_step walk.table_ref_step (known_join y)))
      (join_layer y (sym (fold-roll-JoinPart Bool Bool Bool Bool Bool primary_written_step cond_written_step join_written_step query_written_step table_written_step (known_join y)) ∙ written)))

  -- ---- joined tables

  join_parts : (joins : List KnownJoin) → list_all (λ join. join) (map join_written (map (λ (join : KnownJoin). join.0) joins)) ≡ true → AllByRecursion (JoinSound database) (map join_walk (map (λ (join : KnownJoin). join.0) joins))
  join_parts [] written = tt
  join_parts (join ∷ joins) written = let both = and_parts _ _ written in (join.1 both.0, join_parts joins both.1)

  abbrev known_table : TableRef-F KnownPrimary KnownCond KnownJoin KnownQuery KnownTable → TableRef-F Primary SqlCond JoinPart Query TableRef
  known_table = map-TableRef KnownPrimary KnownCond KnownJoin KnownQuery KnownTable Primary SqlCond JoinPart Query TableRef (λ e. e.0) (λ e. e.0) (λ e. e.0) (λ e. e.0) (λ e. e.0)

  abbrev table_walks : TableRef-F Primary SqlCond JoinPart Query TableRef → TableRef-F ElementWalk Condition JoinWalk QueryWalk ElementWalk
  table_walks = map-TableRef Primary SqlCond JoinPart Query TableRef ElementWalk Condition JoinWalk QueryWalk ElementWalk primary_walk cond_walk join_walk query_walk table_walk

  abbrev table_texts : TableRef-F Primary SqlCond JoinPart Query TableRef → TableRef-F Bool Bool Bool Bool Bool
  table_texts = map-TableRef Primary SqlCond JoinPart Query TableRef Bool Bool Bool Bool Bool primary_written cond_written join_written query_written table_written

  table_layer : (y : TableRef-F KnownPrimary KnownCond KnownJoin KnownQuery KnownTable) → table_written_step (table_texts (known_table y)) ≡ true → ElementSound database (walk.table_ref_step (table_walks (known_table y)))
  table_layer y written =
      let both = and_parts _ _ written in
      table_ref_sound database (primary_walk y.first.0) (map join_walk (map (λ (join : KnownJoin). join.0) y.joins)) (y.first.1 both.0) (join_parts y.joins both.1)

  table_law : (x : TableRef-F Primary SqlCond JoinPart Query TableRef) (y : TableRef-F KnownPrimary KnownCond KnownJoin KnownQuery KnownTable) → known_table y ≡ x → TableLaw (roll-TableRef x)
  table_law x y is = subst (λ z. TableLaw (roll-TableRef z)) is (λ written.
      subst (ElementSound database)
      (sym (fold-roll-TableRef ElementWalk Condition JoinWalk QueryWalk ElementWalk walk.primary_step cond_step walk.join_step walk_of.query_step walk.table_ref_step (known_table y)))
      (table_layer y (sym (fold-roll-TableRef Bool Bool Bool Bool Bool primary_written_step cond_written_step join_written_step query_written_step table_written_step (known_table y)) ∙ written)))

  -- ---- queries

  elements : (tables : List KnownTable) → list_all (λ element. element) (map table_written (map (λ (table : KnownTable). table.0) tables)) ≡ true → AllByRecursion (ElementSound database) (map table_walk (map (λ (table : KnownTable). table.0) tables))
  elements [] written = tt
  elements (table ∷ tables) written = let both = and_parts _ _ written in (table.1 both.0, elements tables both.1)

  some_tables : (tables : List KnownTable) → some_elements (map table_written (map (λ (table : KnownTable). table.0) tables)) ≡ true → 0 < length (map table_walk (map (λ (table : KnownTable). table.0) tables))
  some_tables [] written = absurd (true≢false (sym written))
  some_tables (table ∷ tables) written = omega arith

  abbrev known_query : Query-F KnownPrimary KnownCond KnownJoin KnownQuery KnownTable → Query-F Primary SqlCond JoinPart Query TableRef
  known_query = map-Query KnownPrimary KnownCond KnownJoin KnownQuery KnownTable Primary SqlCond JoinPart Query TableRef (λ e. e.0) (λ e. e.0) (λ e. e.0) (λ e. e.0) (λ e. e.0)

  abbrev query_walks : Query-F Primary SqlCond JoinPart Query TableRef → Query-F ElementWalk Condition JoinWalk QueryWalk ElementWalk
  query_walks = map-Query Primary SqlCond JoinPart Query TableRef ElementWalk Condition JoinWalk QueryWalk ElementWalk primary_walk cond_walk join_walk query_walk table_walk

  abbrev query_texts : Query-F Primary SqlCond JoinPart Query TableRef → Query-F Bool Bool Bool Bool Bool
  query_texts = map-Query Primary SqlCond JoinPart Query TableRef Bool Bool Bool Bool Bool primary_written cond_written join_written query_written table_written

  filter_if : (y : Query-F KnownPrimary KnownCond KnownJoin KnownQuery KnownTable) (filter : Option KnownCond) → if_any (query_texts (known_query (record y { filter = filter }))).filter ≡ true
      → CondSoundIf database (query_walks (known_query (record y { filter = filter }))).filter
  filter_if y None written = tt
  filter_if y (Some part) written = part.1 written

  having_if : (y : Query-F KnownPrimary KnownCond KnownJoin KnownQuery KnownTable) (having : Option KnownCond) → if_any (query_texts (known_query (record y { having = having }))).having ≡ true
      → CondSoundIf database (query_walks (known_query (record y { having = having }))).having
  having_if y None written = tt
  having_if y (Some part) written = part.1 written

  query_part : (y : Query-F KnownPrimary KnownCond KnownJoin KnownQuery KnownTable) → query_written_step (query_texts (known_query y)) ≡ true → QuerySound database (walk_of.query_step (query_walks (known_query y)))
  query_part y written =
      let items = and_parts _ _ written in
      let some = and_parts _ _ items.1 in
      let each = and_parts _ _ some.1 in
      let conds = and_parts _ _ each.1 in
      query_sound database (query_walks (known_query y)) (elements y.from each.0) (some_tables y.from some.0) (filter_if y y.filter conds.0) (having_if y y.having conds.1) items.0

  query_one : (x : Query-F Primary SqlCond JoinPart Query TableRef) (y : Query-F KnownPrimary KnownCond KnownJoin KnownQuery KnownTable) → known_query y ≡ x → QueryLaw (roll-Query x)
  query_one x y is = subst (λ z. QueryLaw (roll-Query z)) is (λ written.
      subst (QuerySound database)
      (sym (fold-roll-Query ElementWalk Condition JoinWalk QueryWalk ElementWalk walk.primary_step cond_step walk.join_step walk_of.query_step walk.table_ref_step (known_query y)))
      (query_part y (sym (fold-roll-Query Bool Bool Bool Bool Bool primary_written_step cond_written_step join_written_step query_written_step table_written_step (known_query y)) ∙ written)))

  -- a query that the grammar gives is sound where the walk accepts it
  pub written_is_sound : (q : Query) → query_written q ≡ true → QuerySound database (walk_of.query_walk q)
  written_is_sound = ind-Query PrimaryLaw CondLaw JoinLaw QueryLaw TableLaw primary_law cond_law join_law query_one table_law

  -- ---- a SELECT

  nothing_proper : Proper []
  nothing_proper = record { once = λ i inside. absurd (omega (arith, inside)); made = λ n place at. absurd (none-some place at) }

  alone_is_sound : (q : JudgedQuery) → (query_shape database.tables q).sound_in [] ≡ true → ((query_shape database.tables q).reaches ≡ false) × ((query_shape database.tables q).has_items ≡ true)
      → Distinct (query_shape database.tables q).columns_made → IsSound database.tables q
  alone_is_sound q sound alone made = record { parts = and_from _ _ sound (and_from _ _ (ap not alone.0) alone.1); made = made }

  -- the walk of the query of a SELECT, and what it says of the query's numbered form
  pub record SelectWalk (s : Select) (j : JudgedSelect) : Type 0 where
    pub walked : Walked
    pub last : Walk
    pub begun : walk_of.query database.tables s.query role.Statement [] beginning ≡ done walked last
    pub fits : QueryFits database role.Statement [] beginning walked last
    pub same : walked.query ≡ j.query

  pub select_walk : (s : Select) → query_written s.query ≡ true → (j : JudgedSelect) (w : Walk) → walk_of.select database.tables s beginning ≡ done j w → SelectWalk s j
  unfolding walk_of.select
  select_walk s written j w walked =
      let first = in_turn (walk_of.query database.tables s.query role.Statement [] beginning) (walk_of.ordered s.order) j w walked in
      let second = in_turn (each (walk_of.order_key (map walk_of.name_of (first.value).outputs)) s.order first.middle) (λ keys. pure (record { query = (first.value).query; order = keys })) j w first.ended in
      record {
        walked = first.value;
        last = first.middle;
        begun = first.begun;
        fits = (written_is_sound s.query written).gives role.Statement [] beginning first.value first.middle nothing_proper tt (record { numbers = tt; scopes = tt }) first.begun;
        same = ap (λ (j : JudgedSelect). j.query) (done_value second.ended);
      }

  select_is_sound : (s : Select) → query_written s.query ≡ true → (j : JudgedSelect) (w : Walk) → walk_of.select database.tables s beginning ≡ done j w → IsSound database.tables j.query
  select_is_sound s written j w walked =
      let of = select_walk s written j w walked in
      let fits = of.fits in
      subst (IsSound database.tables) of.same (alone_is_sound (of.walked).query (fits.sound [] [] tt tt (fits.limit (omega arith))) fits.alone fits.distinct)

-- what is judged has a sound numbered form
pub judged_is_sound : (database : Database) → HaveColumns database.tables → (s : Select) → query_written s.query ≡ true → (j : JudgedSelect) (w : Walk) → walk_of.select database.tables s beginning ≡ done j w → IsSound database.tables j.query
judged_is_sound database have s written j w walked = select_is_sound database have s written j w walked
