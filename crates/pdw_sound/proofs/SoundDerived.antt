-- A query in FROM: its output columns under an alias, and that it stands alone.
use Rattle.std.proofs.Common.{◌≡◌, ℕ, ◌<◌, ◌≤◌, ◌&&◌, ◌||◌, Bool, true, false, not, List, [], ◌∷◌, ◌++◌, length, map, Some, is_some, refl, sym, ap, subst, subst₂, le_refl, ◌∙◌, arith, true≢false}
use Rattle.std.specs.Bool.{⊤}
use Rattle.std.specs.List.{list_any}
use Rattle.std.specs.Str.{bytes_eq}
use Rattle.std.proofs.lemmas.Bool.{and_from}
use Rattle.std.proofs.lemmas.Option.{same_Some}
use Rattle.pdw_algebra.specs.Schema.{kind_at}
use Rattle.pdw_syntax.specs.declared.query.Primary.TheOpen.{Primary-F}
use Rattle.pdw_base.specs.Schema.{Columns, Env}
use Rattle.pdw_base.specs.declared.schema.ColId.{ColId}
use Rattle.pdw_base.specs.declared.value.Kind.{Kind}
use Rattle.pdw_sound.proofs.Added.{new-ends}
use Rattle.pdw_sound.proofs.Ranges.{ranged-ends, ranged-later}
use Rattle.pdw_sound.proofs.SoundRelations.{ElementFits, ElementFitsAt, ElementSound, KindsOf, New, QueryFits, QuerySound, Ranged}
use Rattle.pdw_sound.proofs.SoundTables.{taken-last, taken-still}
use Rattle.pdw_form.specs.Columns.{first_of}
use Rattle.pdw_form.specs.Sound.{ElementShape, QueryShape, SubqueryShape, derived_shape, element_shape, element_step, query_shape, query_step, stands_alone, subquery_step}
use Rattle.pdw_catalog.specs.Database.{Database}
use Rattle.pdw_names.proofs.DerivedMeaningLaws.{finished_derived}
use Rattle.pdw_names.proofs.FromMeaningLaws.{derived_table_means}
use Rattle.pdw_form.proofs.Related.{Related, none, more}
use Rattle.pdw_names.proofs.Relations.{GivenAt, Grows}
use Rattle.pdw_names.proofs.WalkLaws.{all-map, done-value, done-walk, grows-same, position-append, take_alias-done, turn}
use Rattle.pdw_semantics.specs.Froms as meaning
use Rattle.pdw_form.specs.Numbered.{NumberedMeaning, from_step, numbered, outs_of, sub_step}
use Rattle.pdw_form.specs.Numbered as numbers
use Rattle.pdw_walk.specs.Conds.{QueryWalk}
use Rattle.pdw_walk.specs.Froms as walk
use Rattle.pdw_walk.specs.Froms.{derived_element, derived_entry, derived_walk, finished}
use Rattle.pdw_walk.specs.Lookup.{Scope}
use Rattle.pdw_walk.specs.Slot.{same_slot}
use Rattle.pdw_walk.specs.Walk.{Walk, col_id, pure, take_alias, with_taken}
use Rattle.pdw_walk.specs.declared.entry.Column.{Column}
use Rattle.pdw_walk.specs.declared.entry.Draft.TheVariants as draft
use Rattle.pdw_walk.specs.declared.entry.Role.TheVariants as role
use Rattle.pdw_walk.specs.declared.entry.Slot.{Slot}
use Rattle.pdw_walk.specs.declared.entry.Walked.{Walked}
use Rattle.pdw_walk.specs.declared.fault.TheConstants.{MOST_REFERENCES}
use Rattle.pdw_form.specs.declared.judged.JFrom.TheOpen.{JFrom-F}
use Rattle.pdw_form.specs.declared.judged.JFrom.TheFolds.{fold-roll-JFrom, fold-roll-JudgedQuery}
use Rattle.pdw_form.specs.declared.judged.JFrom.TheVariants as from
use Rattle.pdw_form.specs.declared.judged.JFrom.TheViews.{roll-out-JudgedQuery}
use Rattle.pdw_form.specs.declared.judged.JItem.{JItem}
use Rattle.pdw_form.specs.declared.judged.JudgedQuery.{JudgedQuery, out-JudgedQuery}

-- ---- lists that are related place by place

abbrev Pairwise : {X Y : Type 0} → (X → Y → Type 0) → List X → List Y → Type 0
Pairwise R [] [] = ⊤
Pairwise R (x ∷ xs) (y ∷ ys) = R x y × Pairwise R xs ys
Pairwise R [] (y ∷ ys) = ⊥
Pairwise R (x ∷ xs) [] = ⊥

pairwise : {X Y : Type 0} {R : X → Y → Type 0} {xs : List X} {ys : List Y} → Related R xs ys → Pairwise R xs ys
pairwise none = tt
pairwise (more r rest) = (r, pairwise rest)

related-some : {X Y : Type 0} {R : X → Y → Type 0} {xs : List X} {ys : List Y} → Related R xs ys → 0 < length ys → 0 < length xs
related-some none some = some
related-some (more r rest) some = omega arith

-- ---- what the shape and the meaning of a query have of its text

module _ (database : Database) (q : JudgedQuery) where
  pub numbered-outs : (numbered database q).outs ≡ outs_of (out-JudgedQuery q).items
  unfolding numbered
  numbered-outs =
      ap (λ (query : JudgedQuery). (numbered database query).outs) (sym (roll-out-JudgedQuery q))
      ∙ ap (λ (m : NumberedMeaning). m.outs) (fold-roll-JudgedQuery (List Env) (Env → Bool) NumberedMeaning (from_step database) (sub_step database) (numbers.query_step database) (out-JudgedQuery q))

  pub shape-items : (query_shape database.tables q).has_items ≡ is_some (first_of (out-JudgedQuery q).items)
  shape-items =
      ap (λ query. (query_shape database.tables query).has_items) (sym (roll-out-JudgedQuery q))
      ∙ ap (λ (shape : QueryShape). shape.has_items) (fold-roll-JudgedQuery ElementShape SubqueryShape QueryShape (element_step database.tables) subquery_step query_step (out-JudgedQuery q))

some-outs : (items : List JItem) → is_some (first_of items) ≡ true → 0 < length (outs_of items)
some-outs [] has = absurd (true≢false (sym has))
some-outs (item ∷ items) has = omega arith

-- ---- the entries of a derived table

module _ (alias : List ℕ) where
  some-entry : (outputs : List Column) → 0 < length outputs → 0 < length (map (derived_entry alias) outputs)
  some-entry [] some = some
  some-entry (output ∷ outputs) some = omega arith

  entry-alias : (outputs : List Column) → 0 < length outputs → (other : List ℕ) → bytes_eq other alias ≡ true → list_any (λ entry. bytes_eq other entry.alias) (map (derived_entry alias) outputs) ≡ true
  entry-alias [] some other is = absurd (let h : 0 < 0 = some in omega (arith, h))
  entry-alias (output ∷ outputs) some other is = ap (λ b. b || list_any (λ entry. bytes_eq other entry.alias) (map (derived_entry alias) outputs)) is

  module _ (database : Database) (w v : Walk) (columns : Columns) (later : List Slot) where
    derived-kinds : {outputs : List Column} {outs : List ColId} → Related (GivenAt database w v) outputs outs → Pairwise (λ (output : Column) out. kind_at columns out ≡ Some output.kind) outputs outs
        → KindsOf (v.numbers ++ later) columns (map (derived_entry alias) outputs)
    derived-kinds none kinds = tt
    derived-kinds (more {x = output} {y = out} given rest) kinds = (
      (λ place found.
          let same : out.0 ≡ place = same_Some out.0 place (sym (position-append (same_slot output.slot) v.numbers later out.0 given.0) ∙ found) in
          ap (λ n. kind_at columns (col_id n)) (sym same) ∙ kinds.0),
      derived-kinds rest kinds.1,
    )

-- ---- what a derived table gives

module _ (database : Database) (alias : List ℕ) (outers : List Scope) (w : Walk) (walked : Walked) (v : Walk)
    (outputs : Related (GivenAt database w v) walked.outputs (numbered database walked.query).outs) (fits : QueryFits database role.DerivedTable outers w walked v) where
  abbrev shape : QueryShape
  shape = query_shape database.tables walked.query

  abbrev after : Walk
  after = with_taken (v.taken ++ alias ∷ []) v

  since : Grows v after
  since = grows-same refl (le_refl v.references) refl

  shape-is : (numbers : List Slot) → element_shape database.tables (finished numbers (draft.Derived walked.query)) ≡ derived_shape shape
  shape-is numbers =
      ap (element_shape database.tables) (finished_derived numbers walked.query ∙ sym (from.rolls-Derived walked.query))
      ∙ fold-roll-JFrom ElementShape SubqueryShape QueryShape (element_step database.tables) subquery_step query_step (JFrom-F.Derived walked.query)

  ranged : (later : List Slot) (c : ColId) → Ranged v.numbers w v c → Ranged (v.numbers ++ later) w after c
  ranged later c r = ranged-ends (v.numbers ++ later) w since c (ranged-later v.numbers later w v c r)

  fits-at : (later : List Slot) → ElementFitsAt database (v.numbers ++ later) w (map (derived_entry alias) walked.outputs) (derived_shape shape) after
  fits-at later = record {
    kinds = derived-kinds alias database w v shape.columns later outputs (subst (Pairwise (λ (output : Column) out. kind_at shape.columns out ≡ Some output.kind) walked.outputs) (sym (numbered-outs database walked.query)) (pairwise fits.kinds));
    columns = all-map (λ (column : ColId × Kind). Ranged v.numbers w v column.0) (λ (column : ColId × Kind). Ranged (v.numbers ++ later) w after column.0) (λ column. ranged later column.0) shape.columns fits.columns;
    made = all-map (Ranged v.numbers w v) (Ranged (v.numbers ++ later) w after) (ranged later) shape.columns_made fits.made;
    distinct = fits.distinct;
    some = omega arith;
    leaves = let h = fits.references in omega (arith, h);
  }

  some-outputs : 0 < length walked.outputs
  some-outputs = related-some fits.kinds (some-outs (out-JudgedQuery walked.query).items (sym (shape-items database walked.query) ∙ fits.alone.1))

  alone : v.references ≤ MOST_REFERENCES → stands_alone shape ≡ true
  alone limit = and_from (shape.sound_in []) (not shape.reaches && shape.has_items) (fits.sound [] [] tt tt limit)
      (and_from (not shape.reaches) shape.has_items (ap not fits.alone.0) fits.alone.1)

  derived-fits : ElementFits database w (derived_element alias walked) after
  derived-fits = record {
    limit = fits.limit;
    some = some-entry alias walked.outputs some-outputs;
    aliases = λ other now before. entry-alias alias walked.outputs some-outputs other
        (taken-last alias other v.taken now (subst (λ taken. list_any (λ another. bytes_eq other another) taken ≡ false) (sym fits.taken) before));
    taken = λ other is. taken-still alias other v.taken (subst (λ taken. list_any (λ another. bytes_eq other another) taken ≡ true) (sym fits.taken) is);
    uses = record { added = fits.uses.added; numbers = fits.uses.numbers; all = all-map (New w v) (New w after) (new-ends w since) fits.uses.added fits.uses.all };
    shape = λ later proper. subst (λ shape. ElementFitsAt database (v.numbers ++ later) w (map (derived_entry alias) walked.outputs) shape after) (sym (shape-is (v.numbers ++ later))) (fits-at later);
    sound = λ later proper covered limit. ap (λ (shape : ElementShape). shape.sound) (shape-is (v.numbers ++ later)) ∙ alone limit;
  }

module _ (database : Database) where
  pub derived_sound : (query : QueryWalk) (alias : List ℕ) → QuerySound database query → ElementSound database (walk.primary_step (Primary-F.Derived query alias))
  unfolding derived_walk
  derived_sound query alias sound = record {
    meaning = meaning.primary_step database (Primary-F.Derived sound.meaning alias);
    means = derived_table_means database query sound.meaning alias sound.means;
    gives = λ outers w e w' proper settled behind walked.
        let first = turn (query database.tables role.DerivedTable outers w) (derived_walk alias) e w' walked in
        let second = turn (take_alias alias first.between) (λ u. pure (derived_element alias first.given)) e w' first.goes_on in
        let given = (sound.means).gives role.DerivedTable outers w first.given first.between proper settled first.begins in
        let fits = sound.gives role.DerivedTable outers w first.given first.between proper settled behind first.begins in
        let taken = (take_alias-done alias first.between second.given second.between second.begins).1 in
        subst₂ (λ e w'. ElementFits database w e w') (done-value second.goes_on) (taken ∙ done-walk second.goes_on)
        (derived-fits database alias outers w first.given first.between given.outputs fits);
  }
