-- A query means by names what its numbered form means.
use Rattle.std.proofs.Common.{◌≡◌, ◌≢◌, ◌≤◌, ◌<◌, ◌||◌, Bool, true, false, List, [], ◌∷◌, ◌++◌, length, map, Option, Some, None, is_some, AllPairs, position, refl, sym, ap, subst, ◌∙◌, true≢false, append-nil, arith}
use Rattle.std.specs.List.{AllByRecursion}
use Rattle.std.specs.List as lists
use Rattle.pdw_syntax.specs.declared.expr.ColRef.{ColRef}
use Rattle.pdw_syntax.specs.declared.expr.SqlExpr.{SqlExpr}
use Rattle.pdw_syntax.specs.declared.query.Items.{Items}
use Rattle.pdw_base.specs.Schema.{Env}
use Rattle.pdw_base.specs.declared.schema.ColId.{ColId}
use Rattle.pdw_base.specs.declared.truth.Truth.{Truth}
use Rattle.pdw_base.specs.declared.value.Value.TheVariants.{Null}
use Rattle.pdw_catalog.specs.Database.{Database}
use Rattle.pdw_expr.specs.declared.agg.Agg.{Agg}
use Rattle.pdw_form.proofs.Distinct.{OnceIs}
use Rattle.pdw_names.proofs.GroupLaws.{After, KeysGive, keys-give}
use Rattle.pdw_names.proofs.ItemLaws.{ItemsGive, items_give}
use Rattle.pdw_names.proofs.KeptLaws.{where-rows}
use Rattle.pdw_names.proofs.QueryParts.{Parted, end, parted, start}
use Rattle.pdw_form.proofs.Related.{Related}
use Rattle.pdw_names.proofs.Relations.{Apart, CondIf, ElementMeans, Encloses, Every, Exact, ExprMeans, Fits, GivenAt, Grows, Numbering, Outside, Proper, QueryGives, QueryMeans, RowOf, SameRows, SettledAll, SettledAt, Shows, Within}
use Rattle.pdw_names.proofs.RowLaws.{StandsFor, kept-groups, outputs-only, same-rows}
use Rattle.pdw_names.proofs.SideBySide.{Sided, from-sided, rows_of}
use Rattle.pdw_names.proofs.TestedLaws.{TestedGives, tested_gives}
use Rattle.pdw_names.proofs.WalkLaws.{fits-grows, grows-refl, grows-trans, numbering, numbering-exact, numbering-fits, settled_all-grows, settled_in-grows}
use Rattle.pdw_names.proofs.WhereLaws.{ConjunctGives, Scoped, sub_holds, where-gives}
use Rattle.pdw_semantics.specs.Conds.{passes}
use Rattle.pdw_semantics.specs.Environment.{Environment, Group, Scope, alone}
use Rattle.pdw_semantics.specs.Exprs as exprs
use Rattle.pdw_semantics.specs.Froms.{ElementMeaning}
use Rattle.pdw_form.specs.Numbered.{NumberedMeaning, from_rows, from_step, items_of, numbered, outs_of, row_values, sub_step}
use Rattle.pdw_form.specs.Numbered as numbers
use Rattle.pdw_semantics.specs.Queries as named
use Rattle.pdw_expr.specs.Predicates as predicates
use Rattle.pdw_semantics.specs.Queries.{all_labels, names_of, values_of}
use Rattle.pdw_walk.specs.Conds.{Condition}
use Rattle.pdw_walk.specs.Conjuncts.{is_correlated, no_conjuncts}
use Rattle.pdw_walk.specs.Exprs.{expr}
use Rattle.pdw_walk.specs.Froms.{finished}
use Rattle.pdw_walk.specs.Lookup as lookup
use Rattle.pdw_walk.specs.Lookup.{Place}
use Rattle.pdw_walk.specs.Names.{is_grouped}
use Rattle.pdw_walk.specs.Queries.{Text, group_of, group_place, grouped, keys_if, query_step, walked_query}
use Rattle.pdw_walk.specs.Walk.{Walk}
use Rattle.pdw_walk.specs.declared.entry.Role.{Role}
use Rattle.pdw_walk.specs.declared.entry.Role.TheVariants as role
use Rattle.pdw_walk.specs.declared.entry.Slot.{Slot}
use Rattle.pdw_walk.specs.declared.entry.Slot.TheVariants.{Base, Made}
use Rattle.pdw_walk.specs.declared.entry.Column.{Column}
use Rattle.pdw_walk.specs.Slot.{same_slot}
use Rattle.pdw_walk.specs.declared.entry.Walked.{Walked}
use Rattle.pdw_form.specs.declared.judged.JFrom.TheFolds.{fold-roll-JudgedQuery}

-- ---- the parts of a query

module _ (database : Database) where
  some-same : (c : Option Condition) (truth : Option (Group → Truth)) → CondIf database c truth → is_some truth ≡ is_some c
  some-same None None means = refl
  some-same (Some c) (Some truth) means = refl
  some-same None (Some truth) means = elim means [ ]
  some-same (Some c) None means = elim means [ ]

  none-same : (c : Option Condition) (truth : Option (Group → Truth)) → CondIf database c truth → is_some c ≡ false → truth ≡ None
  none-same None None means nothing = refl
  none-same (Some c) (Some truth) means nothing = absurd (true≢false nothing)
  none-same None (Some truth) means nothing = elim means [ ]
  none-same (Some c) None means nothing = elim means [ ]

  or-false : (a b : Bool) → (a || b) ≡ false → a ≡ false
  or-false true b e = e
  or-false false b e = refl

  no-having : (refs : List ColRef) (having : Bool) (items : Items) → is_grouped refs having items ≡ false → having ≡ false
  no-having [] having items e = or-false having _ e
  no-having (ref ∷ refs) having items e = absurd (true≢false e)

  module _ (once : OnceIs) (expr-means : (x : SqlExpr) → ExprMeans (expr x) (exprs.value_of x)) (q : Text) (from : List ElementMeaning) (filter : Option (Group → Truth)) (having : Option (Group → Truth))
      (elements : Related (ElementMeans database) q.from from) (filter_means : CondIf database q.filter filter) (having_means : CondIf database q.having having) where
    abbrev named_text : named.Text
    named_text = record { distinct = q.distinct; items = q.items; from = from; filter = filter; group = q.group; having = having }

    module _ (part : Role) (outers : List lookup.Scope) (w : Walk) (proper : Proper w.numbers) (settled : SettledAll w.numbers outers) (walked : Walked) (w' : Walk) (p : Parted q database.tables part outers w walked w') where
      abbrev own : lookup.Scope
      own = (p.sources).own

      abbrev place : Place
      place = group_place outers own (keys_if (grouped q) p.keys)

      sided : Sided database (start w) (all_labels from) (named.side_by_side from) own (rows_of database (start w) (p.sources).drafts) p.from_walk
      sided = from-sided database (start w) elements outers proper settled p.from

      scoped : Scoped database outers own (is_correlated part (grouped q)) (start w) p.from_walk
      scoped = record { within = sided.within; settled = sided.settled; enclosing = settled_all-grows sided.grows outers settled }

      from_proper : Proper (p.from_walk).numbers
      from_proper = sided.grows.proper proper

      filtered : ConjunctGives database outers own (is_correlated part (grouped q)) (start w) p.from_walk no_conjuncts p.filters (λ env row. passes filter (alone env row)) p.from_walk p.where_end
      filtered = where-gives database outers own (is_correlated part (grouped q)) (start w) p.from_walk scoped q.filter filter filter_means p.from_walk p.filters p.where_end (grows-refl p.from_walk) from_proper p.filter

      settled_by : {v : Walk} (keys : Option _) → Grows p.from_walk v → SettledAt v.numbers (group_place outers own keys)
      settled_by keys since = (settled_in-grows since own sided.settled, settled_all-grows (grows-trans sided.grows since) outers settled)

      keyed : KeysGive own q.group p.where_end p.keys p.keys_end
      keyed = keys-give outers own q.group p.where_end p.keys p.keys_end (settled_by None filtered.grows) p.group

      to_keys : Grows p.from_walk p.keys_end
      to_keys = grows-trans filtered.grows keyed.grows

      had : TestedGives place having p.keys_end p.conds p.having_end
      had = tested_gives database place q.having having having_means p.keys_end p.conds p.having_end (to_keys.proper from_proper) (settled_by (keys_if (grouped q) p.keys) to_keys) p.having

      to_having : Grows p.from_walk p.having_end
      to_having = grows-trans to_keys had.grows

      itemed : ItemsGive database part place (all_labels from) q.items (start w) p.having_end p.outputs p.last
      itemed = items_give database expr-means part place (all_labels from) q.items (start w) p.from_walk p.having_end p.outputs p.last (to_having.proper from_proper) (settled_by (keys_if (grouped q) p.keys) to_having) refl
          sided.grows to_having sided.within sided.labels_are p.items

      to_last : Grows p.from_walk p.last
      to_last = grows-trans to_having itemed.grows

      all : Grows (start w) p.last
      all = grows-trans sided.grows to_last

      since_keys : Grows p.keys_end p.last
      since_keys = grows-trans had.grows itemed.grows

      -- all aggregates were made after the keys
      new_aggs : (p.last).aggs ≡ since_keys.new_aggs
      new_aggs = since_keys.aggs ∙ ap (λ aggs. aggs ++ since_keys.new_aggs) (keyed.kept ∙ filtered.kept ∙ sided.kept)

      -- ---- the numbered form

      abbrev numbered_form : NumberedMeaning
      numbered_form = numbers.query_step database (record {
        from = map (from_rows database) (map (finished (p.last).numbers) (p.sources).drafts);
        plain = (p.filters).plain;
        outer = (p.filters).outer;
        subs = map (sub_holds database) (p.filters).subs;
        group = group_of (grouped q) p.keys (p.last).aggs p.conds;
        items = (p.outputs).items;
        distinct = q.distinct;
      })

      abbrev judged : Walked
      judged = walked_query q.distinct (map (finished (p.last).numbers) (p.sources).drafts) p.filters (group_of (grouped q) p.keys (p.last).aggs p.conds) p.outputs

      numbered-is : numbered database judged.query ≡ numbered_form
      unfolding numbered from_rows
      numbered-is = fold-roll-JudgedQuery (List Env) (Env → Bool) NumberedMeaning (from_step database) (sub_step database) (numbers.query_step database) (record {
        from = map (finished (p.last).numbers) (p.sources).drafts;
        plain = (p.filters).plain;
        outer = (p.filters).outer;
        subs = (p.filters).subs;
        group = group_of (grouped q) p.keys (p.last).aggs p.conds;
        items = (p.outputs).items;
        distinct = q.distinct;
      })

      -- ---- the rows

      module _ (N : Numbering) (exact : Exact N (p.last).numbers) (fits : Fits N (p.last).numbers) (env : Environment) (outer : Env)
          (encloses : Encloses database part N outer outers env) (outside : Outside database part (start w) p.last outers) (apart : Apart database N (start w) p.last outer) where
        after-keys : After once outers own keyed.keys N (fits-grows N fits since_keys) (p.last).aggs
        after-keys = record {
          low = subst (AllByRecursion (λ (agg : Agg). length (p.keys_end).numbers ≤ agg.out.0)) (sym new_aggs) (since_keys.made).low;
          rising = subst (AllPairs (λ (a b : Agg). a.out.0 < b.out.0)) (sym new_aggs) (since_keys.made).rising;
        }

        from-rows : Related (RowOf database N (start w) p.from_walk own) (named.side_by_side from env) (rows_of database (start w) (p.sources).drafts (p.last).numbers)
        from-rows =
            subst (λ ns. Related (RowOf database N (start w) p.from_walk own) (named.side_by_side from env) (rows_of database (start w) (p.sources).drafts ns)) (sym to_last.numbers)
            (sided.shown env to_last.added N (subst (Exact N) to_last.numbers exact) (subst (Fits N) to_last.numbers fits))

        abbrev named_rows : List Scope
        named_rows = lists.filter (λ row. passes filter (alone env row)) (named.side_by_side from env)

        abbrev numbered_rows : List Env
        numbered_rows = numbers.correlated_rows database (record {
          from = map (from_rows database) (map (finished (p.last).numbers) (p.sources).drafts);
          plain = (p.filters).plain;
          outer = (p.filters).outer;
          subs = map (sub_holds database) (p.filters).subs;
          group = group_of (grouped q) p.keys (p.last).aggs p.conds;
          items = (p.outputs).items;
          distinct = q.distinct;
        }) outer

        kept-rows : Related (λ row v. Shows N v Every own row) (named_rows) (numbered_rows)
        kept-rows =
            where-rows database part (grouped q) outers own (start w) p.from_walk p.last sided.within to_last N exact fits env outer encloses outside apart
            p.filters (λ row. passes filter (alone env row)) (λ row m at. filtered.holds N p.last env outer row m (grows-trans keyed.grows since_keys) at) from-rows

        abbrev Standing : Group → Env → Type 0
        Standing = StandsFor once outers own keyed.keys N (fits-grows N fits since_keys) (p.last).aggs having p.conds p.having_end (fits-grows N fits itemed.grows) (itemed.grows.new_aggs, itemed.grows.aggs) (grouped q)

        abbrev kept : Bool → List Group
        kept group = lists.filter (passes having) (named.all_groups group q.group env named_rows)

        abbrev kept_maps : List Env
        kept_maps = numbers.group_rows (group_of (grouped q) p.keys (p.last).aggs p.conds) numbered_rows

        kept-both : Related Standing (kept (grouped q)) kept_maps
        kept-both =
            kept-groups once outers own keyed.keys N (fits-grows N fits since_keys) (p.last).aggs having p.conds p.having_end (fits-grows N fits itemed.grows) (itemed.grows.new_aggs, itemed.grows.aggs)
            (grouped q) (λ _. after-keys) had (λ e. none-same q.having having having_means (no-having q.group (is_some q.having) q.items e)) env kept-rows

        by-form : SameRows database part (predicates.distinct_if q.distinct (map (values_of q.items) (kept (grouped q)))) (row_values numbered_form outer)
        by-form =
            same-rows database once q.distinct q.items (p.outputs).items kept-both part
            (λ not_exists g m stands. itemed.values not_exists N fits (p.last).aggs ([], sym (append-nil (p.last).aggs)) g m (stands (p.last).outer))

        rows-same : SameRows database part (named.query_rows named_text env) (row_values (numbered database judged.query) outer)
        rows-same =
            subst (λ meaning. SameRows database part (named.query_rows named_text env) (row_values meaning outer)) (sym numbered-is)
            (subst (λ group. SameRows database part (predicates.distinct_if q.distinct (map (values_of q.items) (kept group))) (row_values numbered_form outer))
            (sym (ap (λ some. is_grouped q.group some q.items) (some-same q.having having having_means))) by-form)

      -- ---- all that is said of a query

      -- the query's columns are those between its parts' walks
      within-same : (slot : Slot) → Within (start w) p.last slot ≡ Within w (end w p.last) slot
      within-same (Base reference column) = refl
      within-same (Made n) = refl

      same-range : ◌≡◌ {A = Slot → Type 0} (Within (start w) p.last) (Within w (end w p.last))
      same-range = λ i slot. within-same slot i

      outside-here : (part : Role) (scopes : List lookup.Scope) → Outside database part w (end w p.last) scopes → Outside database part (start w) p.last scopes
      outside-here role.Statement scopes outside = tt
      outside-here role.DerivedTable scopes outside = tt
      outside-here role.In [] outside = tt
      outside-here role.In (scope ∷ scopes) outside = subst (λ (R : Slot → Type 0). AllByRecursion (λ entry. R entry.slot → ⊥) scope) (sym same-range) outside
      outside-here role.Exists [] outside = tt
      outside-here role.Exists (scope ∷ scopes) outside = subst (λ (R : Slot → Type 0). AllByRecursion (λ entry. R entry.slot → ⊥) scope) (sym same-range) outside

      last_proper : Proper (p.last).numbers
      last_proper = all.proper proper

      whole : Grows w (end w p.last)
      whole = record {
        added = all.added;
        numbers = all.numbers;
        references = all.references;
        proper = λ _. last_proper;
        new_aggs = [];
        aggs = sym (append-nil w.aggs);
        made = record { low = tt; high = tt; rising = λ i j d before within. absurd (omega (arith, within)) };
      }

      given : QueryGives database part outers (named.query_step named_text) w judged (end w p.last)
      given = record {
        grows = whole;
        kept = refl;
        names = itemed.names;
        outputs = subst (λ (meaning : NumberedMeaning). Related (GivenAt database w (end w p.last)) judged.outputs meaning.outs) (sym numbered-is)
            (subst (λ (R : Slot → Type 0). Related (λ (column : Column) (out : ColId). (position (same_slot column.slot) (p.last).numbers ≡ Some out.0) × R column.slot) judged.outputs (outs_of (p.outputs).items)) same-range itemed.outputs);
        rows = λ env outer encloses outside apart.
            let N = numbering (p.last).numbers last_proper in
            let exact = numbering-exact (p.last).numbers last_proper in
            let fits = numbering-fits (p.last).numbers last_proper in
            rows-same N exact fits env outer (encloses N exact fits) (outside-here part outers outside)
            (subst (λ (R : Slot → Type 0). (c : ColId) → R (N.slot_at c) → outer c ≡ Null) (sym same-range) (apart N exact fits));
        alone = λ outer. subst (λ (meaning : NumberedMeaning). AllByRecursion (λ m. (c : ColId) → AllByRecursion (λ out. out ≢ c) meaning.outs → m c ≡ Null) (meaning.rows outer)) (sym numbered-is)
            (outputs-only q.distinct (p.outputs).items (numbers.group_rows (group_of (grouped q) p.keys (p.last).aggs p.conds) (numbers.correlated_rows database (record {
              from = map (from_rows database) (map (finished (p.last).numbers) (p.sources).drafts);
              plain = (p.filters).plain;
              outer = (p.filters).outer;
              subs = map (sub_holds database) (p.filters).subs;
              group = group_of (grouped q) p.keys (p.last).aggs p.conds;
              items = (p.outputs).items;
              distinct = q.distinct;
            }) outer)));
      }

    layer : QueryMeans database (query_step q) (named.query_step named_text)
    layer = record {
      gives = λ part outers w walked w' proper settled e.
          let p = parted q database.tables part outers w walked w' e in
          subst (λ v. QueryGives database part outers (named.query_step named_text) w walked v) p.ends
          (subst (λ walked. QueryGives database part outers (named.query_step named_text) w walked (end w p.last)) p.is (given part outers w proper settled walked w' p));
    }

  -- where the text is the same, and the walks of the parts mean what the parts mean
  pub query_layer : OnceIs → ((x : SqlExpr) → ExprMeans (expr x) (exprs.value_of x)) → (q : Text) (q' : named.Text) → q.distinct ≡ q'.distinct → q.items ≡ q'.items → q.group ≡ q'.group
      → Related (ElementMeans database) q.from q'.from → CondIf database q.filter q'.filter → CondIf database q.having q'.having → QueryMeans database (query_step q) (named.query_step q')
  query_layer once expr-means q q' distinct items group elements filter_means having_means =
      subst (λ d. QueryMeans database (query_step q) (named.query_step (record { distinct = d; items = q'.items; from = q'.from; filter = q'.filter; group = q'.group; having = q'.having }))) distinct
      (subst (λ is. QueryMeans database (query_step q) (named.query_step (record { distinct = q.distinct; items = is; from = q'.from; filter = q'.filter; group = q'.group; having = q'.having }))) items
      (subst (λ refs. QueryMeans database (query_step q) (named.query_step (record { distinct = q.distinct; items = q.items; from = q'.from; filter = q'.filter; group = refs; having = q'.having }))) group
      (layer once expr-means q q'.from q'.filter q'.having elements filter_means having_means)))
