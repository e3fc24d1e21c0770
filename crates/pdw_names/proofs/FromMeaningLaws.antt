-- The elements of FROM, one lemma for each layer: from what its parts mean to what it means.
use Rattle.std.proofs.Common.{◌≡◌, ℕ, List, fold, Option, subst₂}
use Rattle.pdw_syntax.specs.declared.query.JoinWord.{JoinWord}
use Rattle.pdw_syntax.specs.declared.query.Primary.TheOpen.{Primary-F}
use Rattle.pdw_base.specs.declared.truth.Truth.{Truth}
use Rattle.pdw_catalog.specs.Database.{Database}
use Rattle.pdw_names.proofs.DerivedMeaningLaws.{derived_means}
use Rattle.pdw_names.proofs.JoinMeaningLaws.{join_means}
use Rattle.pdw_walk.proofs.Outcomes.{in_turn, done_value, done_walk}
use Rattle.pdw_form.proofs.Related.{Related, none, more}
use Rattle.pdw_names.proofs.Relations.{CondIf, ElementGives, ElementMeans, JoinMeans, Proper, QueryMeans, SettledAll}
use Rattle.pdw_names.proofs.TableMeaningLaws.{table_means}
use Rattle.pdw_names.proofs.WalkLaws.{settled_all-grows}
use Rattle.pdw_semantics.specs.Conds.{QueryMeaning}
use Rattle.pdw_semantics.specs.Environment.{Group}
use Rattle.pdw_semantics.specs.Froms.{ElementMeaning, JoinMeaning}
use Rattle.pdw_semantics.specs.Froms as meaning
use Rattle.pdw_walk.specs.Conds.{Condition, QueryWalk}
use Rattle.pdw_walk.specs.Froms.{ElementWalk, JoinWalk, called}
use Rattle.pdw_walk.specs.Froms as walk
use Rattle.pdw_walk.specs.Lookup as lookup
use Rattle.pdw_walk.specs.Walk.{Walk, done, over}
use Rattle.pdw_walk.specs.declared.entry.Element.{Element}

module _ (database : Database) where
  -- ---- an element without joins

  pub named_means : (table : List ℕ) (alias : Option (List ℕ)) → ElementMeans database (walk.primary_step (Primary-F.Named table alias)) (meaning.primary_step database (Primary-F.Named table alias))
  named_means table alias = table_means database table (called table alias)

  pub derived_table_means : (query : QueryWalk) (of_query : QueryMeaning) (alias : List ℕ) → QueryMeans database query of_query
      → ElementMeans database (walk.primary_step (Primary-F.Derived query alias)) (meaning.primary_step database (Primary-F.Derived of_query alias))
  derived_table_means query of_query alias means = derived_means database alias query of_query means

  pub paren_means : (element : ElementWalk) (of_element : ElementMeaning) → ElementMeans database element of_element
      → ElementMeans database (walk.primary_step (Primary-F.«Primary::Paren» element)) (meaning.primary_step database (Primary-F.«Primary::Paren» of_element))
  paren_means element of_element means = record { gives = means.gives }

  -- ---- a join

  pub join_part_means : (word : JoinWord) (right : ElementWalk) (after : ElementMeaning) (on : Option Condition) (truth : Option (Group → Truth)) → ElementMeans database right after → CondIf database on truth
      → JoinMeans database (walk.join_step (record { word = word; right = right; on = on })) (meaning.join_step database (record { word = word; right = after; on = truth }))
  join_part_means word right after on truth right_means on_means = join_means database right after word on truth right_means on_means

  -- ---- an element with its joins

  joins_give : {joins : List JoinWalk} {meanings : List JoinMeaning} → Related (JoinMeans database) joins meanings
      → (outers : List lookup.Scope) (before : ElementMeaning) (left : Element) (w0 w : Walk) → Proper w0.numbers → SettledAll w0.numbers outers → ElementGives database before w0 left w
      → (e : Element) (w' : Walk) → over (walk.join_after database.tables outers) left joins w ≡ done e w' → ElementGives database (fold (λ left join. join left) before meanings) w0 e w'
  joins_give none outers before left w0 w proper settled gives e w' walked = subst₂ (λ e w'. ElementGives database before w0 e w') (done_value walked) (done_walk walked) gives
  joins_give (more {x = join} {y = means_of} {xs = joins} first rest) outers before left w0 w proper settled gives e w' walked =
      let begun = in_turn (join database.tables outers left w) (λ left. over (walk.join_after database.tables outers) left joins) e w' walked in
      let one = first.gives outers before left w0 w begun.value begun.middle ((gives.grows).proper proper) (settled_all-grows gives.grows outers settled) gives begun.begun in
      joins_give rest outers (means_of before) begun.value w0 begun.middle proper settled one e w' begun.ended

  pub table_ref_means : (first : ElementWalk) (of_first : ElementMeaning) (joins : List JoinWalk) (of_joins : List JoinMeaning) → ElementMeans database first of_first → Related (JoinMeans database) joins of_joins
      → ElementMeans database (walk.table_ref_step (record { first = first; joins = joins })) (meaning.table_ref_step database (record { first = of_first; joins = of_joins }))
  table_ref_means first of_first joins of_joins first_means joins_mean = record {
    gives = λ outers w e w' proper settled walked.
        let begun = in_turn (first database.tables outers w) (λ left. over (walk.join_after database.tables outers) left joins) e w' walked in
        let gives = first_means.gives outers w begun.value begun.middle proper settled begun.begun in
        joins_give joins_mean outers of_first begun.value w begun.middle proper settled gives e w' begun.ended;
  }
