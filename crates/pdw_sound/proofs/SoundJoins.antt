-- A join: both sides have columns of their own ranges, and ON is well-typed over both.
use Rattle.std.proofs.Common.{◌≡◌, ℕ, ◌+◌, ◌≤◌, ◌&&◌, ◌||◌, ◌⊎◌, Bool, true, false, List, ◌++◌, leb, Option, Some, None, refl, sym, ap, subst, le_trans, length-append, append_assoc, ◌∙◌, arith, inl, inr}
use Rattle.std.specs.Bool.{⊤}
use Rattle.std.specs.List.{AllByRecursion, list_any}
use Rattle.std.specs.Str.{bytes_eq}
use Rattle.std.proofs.lemmas.Bool.{and_from, false≢true, le-leb}
use Rattle.std.proofs.lemmas.List.Folds.{list_any-append}
use Rattle.pdw_algebra.specs.Shape.{all_typed, are_apart}
use Rattle.pdw_algebra.specs.declared.tree.TheConstants.{MOST_LEAVES}
use Rattle.pdw_syntax.specs.declared.query.JoinWord.{JoinWord}
use Rattle.pdw_syntax.specs.declared.query.JoinWord.TheVariants as word
use Rattle.pdw_base.specs.Schema.{Columns}
use Rattle.pdw_base.specs.declared.schema.ColId.{ColId}
use Rattle.pdw_base.specs.declared.truth.Truth.{Truth}
use Rattle.pdw_base.specs.declared.value.Kind.{Kind}
use Rattle.pdw_sound.proofs.Added.{adds-grows, adds-map, adds-trans, among-all, among-append, new-begins, new-ends, or-true}
use Rattle.pdw_sound.proofs.Ranges.{apart-ranges, apart-turned, distinct-ranges, distinct-turned, kinds-earlier, kinds-left, kinds-right, ranged-begins, ranged-ends}
use Rattle.pdw_sound.proofs.SoundConds.{tested_sound}
use Rattle.pdw_sound.proofs.SoundRelations.{Among, CondSoundIf, Covered, ElementFits, ElementFitsAt, ElementSound, JoinSound, KindAt, KindsOf, New, Ranged, RangedColumns, RangedNumbers, TakenIn, TestedKinds, Used}
use Rattle.pdw_form.specs.Sound.{ElementShape, QueryShape, SubqueryShape, element_shape, element_step, fit_block, joined_shape, query_step, sides_sound, subquery_step}
use Rattle.pdw_catalog.specs.Database.{Database}
use Rattle.pdw_expr.specs.declared.cond.Cond.{Cond}
use Rattle.pdw_names.proofs.FromMeaningLaws.{join_part_means}
use Rattle.pdw_names.proofs.JoinMeaningLaws.{finished_join, range_begins, range_ends, ranges_apart}
use Rattle.pdw_names.proofs.Relations.{CondIf, Grows, Proper, SettledAt, Settled, Within}
use Rattle.pdw_names.proofs.TestedLaws.{tested_gives}
use Rattle.pdw_names.proofs.WalkLaws.{all-append, all-map, begins-itself, grows-trans, mapped, settled_all-grows, settled_in-grows, turn}
use Rattle.pdw_semantics.specs.Environment.{Group}
use Rattle.pdw_semantics.specs.Froms as meaning
use Rattle.pdw_walk.specs.Conds.{Condition, tested}
use Rattle.pdw_walk.specs.Froms as walk
use Rattle.pdw_walk.specs.Froms.{ElementWalk, finished, joined, joined_walk, on_place}
use Rattle.pdw_walk.specs.Lookup.{Scope}
use Rattle.pdw_walk.specs.Walk.{Walk, is_among}
use Rattle.pdw_walk.specs.declared.entry.Element.{Element}
use Rattle.pdw_walk.specs.declared.entry.Entry.{Entry}
use Rattle.pdw_walk.specs.declared.entry.Slot.{Slot}
use Rattle.pdw_walk.specs.declared.entry.Slot.TheVariants.{Base, Made}
use Rattle.pdw_walk.specs.declared.fault.TheConstants.{MOST_REFERENCES}
use Rattle.pdw_form.specs.declared.judged.JFrom.TheOpen.{JFrom-F}
use Rattle.pdw_form.specs.declared.judged.JFrom.TheFolds.{fold-roll-JFrom}
use Rattle.pdw_form.specs.declared.judged.JFrom.TheVariants as from

-- a block has as many leaves as table references were begun, at most
pub fits-block : (leaves from to : ℕ) → 1 ≤ leaves → from + leaves ≤ to → to ≤ MOST_REFERENCES → fit_block leaves ≡ true
fits-block leaves from to some fit limit = and_from (leb 1 leaves) (leb leaves MOST_LEAVES) (le-leb 1 leaves some) (le-leb leaves MOST_LEAVES (omega (arith, fit, limit)))

-- ---- the two sides, by the numbers of the end of the query

module _ (database : Database) (numbers : List Slot) (w0 w w1 w' : Walk) (first : Grows w0 w) (second : Grows w w1) (third : Grows w1 w') (references : w'.references ≡ w1.references)
    (les res : Scope) (left right : ElementShape) (left_at : ElementFitsAt database numbers w0 les left w) (right_at : ElementFitsAt database numbers w res right w1) where
  pub apart : are_apart left.columns right.columns ≡ true
  apart = apart-ranges numbers w0 w w1 left.columns right.columns left_at.columns right_at.columns

  turned : are_apart right.columns left.columns ≡ true
  turned = apart-turned numbers w0 w w1 left.columns right.columns left_at.columns right_at.columns

  of-left : (c : ColId) → Ranged numbers w0 w c → Ranged numbers w0 w' c
  of-left c = ranged-ends numbers w0 (grows-trans second third) c

  of-right : (c : ColId) → Ranged numbers w w1 c → Ranged numbers w0 w' c
  of-right c r = ranged-begins numbers w' first c (ranged-ends numbers w third c r)

  left-columns : RangedColumns numbers w0 w' left.columns
  left-columns = all-map (λ (column : ColId × Kind). Ranged numbers w0 w column.0) (λ (column : ColId × Kind). Ranged numbers w0 w' column.0) (λ column. of-left column.0) left.columns left_at.columns

  right-columns : RangedColumns numbers w0 w' right.columns
  right-columns = all-map (λ (column : ColId × Kind). Ranged numbers w w1 column.0) (λ (column : ColId × Kind). Ranged numbers w0 w' column.0) (λ column. of-right column.0) right.columns right_at.columns

  left-made : RangedNumbers numbers w0 w' left.made
  left-made = all-map (Ranged numbers w0 w) (Ranged numbers w0 w') of-left left.made left_at.made

  right-made : RangedNumbers numbers w0 w' right.made
  right-made = all-map (Ranged numbers w w1) (Ranged numbers w0 w') of-right right.made right_at.made

  straight-kinds : KindsOf numbers (left.columns ++ right.columns) (les ++ res)
  straight-kinds = all-append (KindAt numbers (left.columns ++ right.columns)) les res
      (kinds-left numbers left.columns right.columns les left_at.kinds) (kinds-right numbers left.columns right.columns apart res right_at.kinds)

  turned-kinds : KindsOf numbers (right.columns ++ left.columns) (les ++ res)
  turned-kinds = all-append (KindAt numbers (right.columns ++ left.columns)) les res
      (kinds-right numbers right.columns left.columns turned les left_at.kinds) (kinds-left numbers right.columns left.columns res right_at.kinds)

  pub both-leaves : w0.references + (left.leaves + right.leaves) ≤ w'.references
  both-leaves = let a = left_at.leaves in let b = right_at.leaves in omega (arith, a, b, references)

  one-leaf : w0.references + 1 ≤ w'.references
  one-leaf = let a = left_at.leaves in let b = right_at.leaves in let c = left_at.some in omega (arith, a, b, c, references)

  pub straight : (leaves : ℕ) (sound : Bool) → 1 ≤ leaves → w0.references + leaves ≤ w'.references
      → ElementFitsAt database numbers w0 (les ++ res) (record { columns = left.columns ++ right.columns; made = left.made ++ right.made; leaves = leaves; sound = sound }) w'
  straight leaves sound some fit = record {
    kinds = straight-kinds;
    columns = all-append (λ (column : ColId × Kind). Ranged numbers w0 w' column.0) left.columns right.columns left-columns right-columns;
    made = all-append (Ranged numbers w0 w') left.made right.made left-made right-made;
    distinct = distinct-ranges numbers w0 w w1 left.made right.made left_at.made right_at.made left_at.distinct right_at.distinct;
    some = some;
    leaves = fit;
  }

  exchanged : (leaves : ℕ) (sound : Bool) → 1 ≤ leaves → w0.references + leaves ≤ w'.references
      → ElementFitsAt database numbers w0 (les ++ res) (record { columns = right.columns ++ left.columns; made = right.made ++ left.made; leaves = leaves; sound = sound }) w'
  exchanged leaves sound some fit = record {
    kinds = turned-kinds;
    columns = all-append (λ (column : ColId × Kind). Ranged numbers w0 w' column.0) right.columns left.columns right-columns left-columns;
    made = all-append (Ranged numbers w0 w') right.made left.made right-made left-made;
    distinct = distinct-turned numbers w0 w w1 left.made right.made left_at.made right_at.made left_at.distinct right_at.distinct;
    some = some;
    leaves = fit;
  }

  pub joined-at : (word : JoinWord) (on : List Cond) → ElementFitsAt database numbers w0 (les ++ res) (joined_shape word left right on) w'
  joined-at word.Cross on = straight (left.leaves + right.leaves) (sides_sound left right on) (let h = left_at.some in omega (arith, h)) both-leaves
  joined-at word.Inner on = straight (left.leaves + right.leaves) (sides_sound left right on) (let h = left_at.some in omega (arith, h)) both-leaves
  joined-at word.Left on = straight 1 (sides_sound left right on && (fit_block left.leaves && fit_block right.leaves)) (omega arith) one-leaf
  joined-at word.Right on = exchanged 1 (sides_sound right left on && (fit_block right.leaves && fit_block left.leaves)) (omega arith) one-leaf
  joined-at word.Full on = straight 1 (sides_sound left right on && (fit_block left.leaves && fit_block right.leaves)) (omega arith) one-leaf

  -- ---- soundness

  module _ (limit : w'.references ≤ MOST_REFERENCES) (left_sound : left.sound ≡ true) (right_sound : right.sound ≡ true) (on : List Cond)
      (typed : (columns : Columns) → KindsOf numbers columns (les ++ res) → all_typed columns on ≡ true) where
    left-block : fit_block left.leaves ≡ true
    left-block = fits-block left.leaves w0.references w.references left_at.some left_at.leaves (le_trans second.references (le_trans third.references limit))

    right-block : fit_block right.leaves ≡ true
    right-block = fits-block right.leaves w.references w1.references right_at.some right_at.leaves (le_trans third.references limit)

    straight-sides : sides_sound left right on ≡ true
    straight-sides = and_from (left.sound && right.sound) (are_apart left.columns right.columns && all_typed (left.columns ++ right.columns) on) (and_from left.sound right.sound left_sound right_sound)
        (and_from (are_apart left.columns right.columns) (all_typed (left.columns ++ right.columns) on) apart (typed (left.columns ++ right.columns) straight-kinds))

    turned-sides : sides_sound right left on ≡ true
    turned-sides = and_from (right.sound && left.sound) (are_apart right.columns left.columns && all_typed (right.columns ++ left.columns) on) (and_from right.sound left.sound right_sound left_sound)
        (and_from (are_apart right.columns left.columns) (all_typed (right.columns ++ left.columns) on) turned (typed (right.columns ++ left.columns) turned-kinds))

    straight-blocks : (sides_sound left right on && (fit_block left.leaves && fit_block right.leaves)) ≡ true
    straight-blocks = and_from (sides_sound left right on) (fit_block left.leaves && fit_block right.leaves) straight-sides (and_from (fit_block left.leaves) (fit_block right.leaves) left-block right-block)

    turned-blocks : (sides_sound right left on && (fit_block right.leaves && fit_block left.leaves)) ≡ true
    turned-blocks = and_from (sides_sound right left on) (fit_block right.leaves && fit_block left.leaves) turned-sides (and_from (fit_block right.leaves) (fit_block left.leaves) right-block left-block)

    pub joined-sound : (word : JoinWord) → (joined_shape word left right on).sound ≡ true
    joined-sound word.Cross = straight-sides
    joined-sound word.Inner = straight-sides
    joined-sound word.Left = straight-blocks
    joined-sound word.Right = turned-blocks
    joined-sound word.Full = straight-blocks

-- ---- what gets a number in a join

module _ (w0 w w1 w' : Walk) (first : Grows w0 w) (second : Grows w w1) (third : Grows w1 w') (outers : List Scope) (les res : Scope)
    (left_in : AllByRecursion (λ entry. Within w0 w entry.slot) les) (right_in : AllByRecursion (λ entry. Within w w1 entry.slot) res) where
  -- the right side numbers no column of the left one
  pub right-covers : (slot : Slot) → New w w1 slot → Covered w0 w les slot
  right-covers (Base reference column) new = λ inside. absurd (ranges_apart w0 w w1 (Base reference column) inside new)
  right-covers (Made n) new = tt

  -- ON numbers columns of the two sides
  on-covers-left : (slot : Slot) → Used (on_place outers (les ++ res)) slot → Covered w0 w les slot
  on-covers-left (Base reference column) (inl among) = λ inside. by inside (among-append les res (Base reference column) among)
    where
      by : Within w0 w (Base reference column) → Among les (Base reference column) ⊎ Among res (Base reference column) → Among les (Base reference column)
      by inside (inl here) = here
      by inside (inr there) = absurd (ranges_apart w0 w w1 (Base reference column) inside (among-all (Within w w1) res (Base reference column) right_in there))
  on-covers-left (Base reference column) (inr near) = λ inside. absurd (false≢true near.0)
  on-covers-left (Made n) used = tt

  on-covers-right : (slot : Slot) → Used (on_place outers (les ++ res)) slot → Covered w w1 res slot
  on-covers-right (Base reference column) (inl among) = λ inside. by inside (among-append les res (Base reference column) among)
    where
      by : Within w w1 (Base reference column) → Among les (Base reference column) ⊎ Among res (Base reference column) → Among res (Base reference column)
      by inside (inl here) = absurd (ranges_apart w0 w w1 (Base reference column) (among-all (Within w0 w) les (Base reference column) left_in here) inside)
      by inside (inr there) = there
  on-covers-right (Base reference column) (inr near) = λ inside. absurd (false≢true near.0)
  on-covers-right (Made n) used = tt

  on-new : (slot : Slot) → Used (on_place outers (les ++ res)) slot → New w0 w' slot
  on-new (Base reference column) (inl among) = by (among-append les res (Base reference column) among)
    where
      by : Among les (Base reference column) ⊎ Among res (Base reference column) → New w0 w' (Base reference column)
      by (inl here) = range_ends w0 (grows-trans second third) (Base reference column) (among-all (Within w0 w) les (Base reference column) left_in here)
      by (inr there) = range_begins w' first (Base reference column) (range_ends w third (Base reference column) (among-all (Within w w1) res (Base reference column) right_in there))
  on-new (Base reference column) (inr near) = absurd (false≢true near.0)
  on-new (Made n) used = tt

  pub later-covers-left : (slot : Slot) → Covered w0 w' (les ++ res) slot → Covered w0 w les slot
  later-covers-left (Base reference column) covered = λ inside. by inside (among-append les res (Base reference column) (covered (range_ends w0 (grows-trans second third) (Base reference column) inside)))
    where
      by : Within w0 w (Base reference column) → Among les (Base reference column) ⊎ Among res (Base reference column) → Among les (Base reference column)
      by inside (inl here) = here
      by inside (inr there) = absurd (ranges_apart w0 w w1 (Base reference column) inside (among-all (Within w w1) res (Base reference column) right_in there))
  later-covers-left (Made n) covered = tt

  pub later-covers-right : (slot : Slot) → Covered w0 w' (les ++ res) slot → Covered w w1 res slot
  later-covers-right (Base reference column) covered = λ inside.
      by inside (among-append les res (Base reference column) (covered (range_begins w' first (Base reference column) (range_ends w third (Base reference column) inside))))
    where
      by : Within w w1 (Base reference column) → Among les (Base reference column) ⊎ Among res (Base reference column) → Among res (Base reference column)
      by inside (inl here) = absurd (ranges_apart w0 w w1 (Base reference column) (among-all (Within w0 w) les (Base reference column) left_in here) inside)
      by inside (inr there) = there
  later-covers-right (Made n) covered = tt

-- ---- what a join gives

module _ (database : Database) (outers : List Scope) (left : Element) (w0 w : Walk) (first : Grows w0 w) (left_in : AllByRecursion (λ entry. Within w0 w entry.slot) left.entries) (left_fits : ElementFits database w0 left w)
    (right : Element) (w1 : Walk) (second : Grows w w1) (right_in : AllByRecursion (λ entry. Within w w1 entry.slot) right.entries) (right_fits : ElementFits database w right w1)
    (word : JoinWord) (conds : List Cond) (w' : Walk) (third : Grows w1 w') (tests : TestedKinds (on_place outers (left.entries ++ right.entries)) w1 conds w') where
  abbrev whole : Element
  whole = joined word left right conds

  shape-is : (numbers : List Slot) → element_shape database.tables (finished numbers whole.draft) ≡ joined_shape word (element_shape database.tables (finished numbers left.draft)) (element_shape database.tables (finished numbers right.draft)) conds
  shape-is numbers =
      ap (element_shape database.tables) (finished_join numbers word left.draft right.draft conds ∙ sym (from.rolls-Join word (finished numbers left.draft) (finished numbers right.draft) conds))
      ∙ fold-roll-JFrom ElementShape SubqueryShape QueryShape (element_step database.tables) subquery_step query_step (JFrom-F.Join word (finished numbers left.draft) (finished numbers right.draft) conds)

  -- the numbers of the query's end, from those after each side
  from-right : (later : List Slot) → w'.numbers ++ later ≡ w1.numbers ++ (third.added ++ later)
  from-right later = ap (λ ns. ns ++ later) third.numbers ∙ append_assoc w1.numbers third.added later

  from-left : (later : List Slot) → w'.numbers ++ later ≡ w.numbers ++ (second.added ++ (third.added ++ later))
  from-left later = from-right later ∙ (ap (λ ns. ns ++ (third.added ++ later)) second.numbers ∙ append_assoc w.numbers second.added (third.added ++ later))

  module _ (later : List Slot) (proper : Proper (w'.numbers ++ later)) where
    abbrev shape_of : Element → ElementShape
    shape_of e = element_shape database.tables (finished (w'.numbers ++ later) e.draft)

    left-at : ElementFitsAt database (w'.numbers ++ later) w0 left.entries (shape_of left) w
    left-at = subst (λ ns. ElementFitsAt database ns w0 left.entries (element_shape database.tables (finished ns left.draft)) w) (sym (from-left later))
        (left_fits.shape (second.added ++ (third.added ++ later)) (subst Proper (from-left later) proper))

    right-at : ElementFitsAt database (w'.numbers ++ later) w right.entries (shape_of right) w1
    right-at = subst (λ ns. ElementFitsAt database ns w right.entries (element_shape database.tables (finished ns right.draft)) w1) (sym (from-right later))
        (right_fits.shape (third.added ++ later) (subst Proper (from-right later) proper))

    whole-at : ElementFitsAt database (w'.numbers ++ later) w0 whole.entries (shape_of whole) w'
    whole-at = subst (λ shape. ElementFitsAt database (w'.numbers ++ later) w0 whole.entries shape w') (sym (shape-is (w'.numbers ++ later)))
        (joined-at database (w'.numbers ++ later) w0 w w1 w' first second third tests.references left.entries right.entries (shape_of left) (shape_of right) left-at right-at word conds)

    -- ON is well-typed over columns that have both sides' kinds
    on-typed : (columns : Columns) → KindsOf (w'.numbers ++ later) columns whole.entries → all_typed columns conds ≡ true
    on-typed columns kinds =
        tests.typed w'.aggs (begins-itself w'.aggs) columns (record {
          own = all-map (KindAt w'.numbers columns) (λ entry. ⊤ → KindAt w'.numbers columns entry) (λ entry at allowed. at) whole.entries (kinds-earlier w'.numbers later columns whole.entries kinds);
          near = λ reaches met. absurd (false≢true reaches);
          grouped = tt;
        })

    module _ (covered : AllByRecursion (Covered w0 w' whole.entries) later) (limit : w'.references ≤ MOST_REFERENCES) where
      abbrev on_added : AllByRecursion (Used (on_place outers whole.entries)) third.added
      on_added = adds-grows (Used (on_place outers whole.entries)) tests.uses third

      left-covered : AllByRecursion (Covered w0 w left.entries) (second.added ++ (third.added ++ later))
      left-covered = all-append (Covered w0 w left.entries) second.added (third.added ++ later)
          (all-map (New w w1) (Covered w0 w left.entries) (right-covers w0 w w1 w' first second third outers left.entries right.entries left_in right_in) second.added (adds-grows (New w w1) right_fits.uses second))
          (all-append (Covered w0 w left.entries) third.added later
          (all-map (Used (on_place outers whole.entries)) (Covered w0 w left.entries) (on-covers-left w0 w w1 w' first second third outers left.entries right.entries left_in right_in) third.added on_added)
          (all-map (Covered w0 w' whole.entries) (Covered w0 w left.entries) (later-covers-left w0 w w1 w' first second third outers left.entries right.entries left_in right_in) later covered))

      right-covered : AllByRecursion (Covered w w1 right.entries) (third.added ++ later)
      right-covered = all-append (Covered w w1 right.entries) third.added later
          (all-map (Used (on_place outers whole.entries)) (Covered w w1 right.entries) (on-covers-right w0 w w1 w' first second third outers left.entries right.entries left_in right_in) third.added on_added)
          (all-map (Covered w0 w' whole.entries) (Covered w w1 right.entries) (later-covers-right w0 w w1 w' first second third outers left.entries right.entries left_in right_in) later covered)

      left-sound : (shape_of left).sound ≡ true
      left-sound = subst (λ ns. (element_shape database.tables (finished ns left.draft)).sound ≡ true) (sym (from-left later))
          (left_fits.sound (second.added ++ (third.added ++ later)) (subst Proper (from-left later) proper) left-covered (le_trans second.references (le_trans third.references limit)))

      right-sound : (shape_of right).sound ≡ true
      right-sound = subst (λ ns. (element_shape database.tables (finished ns right.draft)).sound ≡ true) (sym (from-right later))
          (right_fits.sound (third.added ++ later) (subst Proper (from-right later) proper) right-covered (le_trans third.references limit))

      whole-sound : (shape_of whole).sound ≡ true
      whole-sound = ap (λ (shape : ElementShape). shape.sound) (shape-is (w'.numbers ++ later))
          ∙ joined-sound database (w'.numbers ++ later) w0 w w1 w' first second third tests.references left.entries right.entries (shape_of left) (shape_of right) left-at right-at limit left-sound right-sound conds on-typed word

  -- the aliases of both sides
  taken-both : TakenIn database w0 w' whole.entries
  taken-both alias now before = by (is_among alias w.taken) refl
    where
      by : (b : Bool) → is_among alias w.taken ≡ b → list_any (λ entry. bytes_eq alias entry.alias) (left.entries ++ right.entries) ≡ true
      by true is =
          list_any-append (λ (entry : Entry). bytes_eq alias entry.alias) left.entries right.entries
          ∙ ap (λ b. b || list_any (λ entry. bytes_eq alias entry.alias) right.entries) (left_fits.aliases alias is before)
      by false is =
          list_any-append (λ (entry : Entry). bytes_eq alias entry.alias) left.entries right.entries
          ∙ or-true (list_any (λ entry. bytes_eq alias entry.alias) left.entries) (list_any (λ entry. bytes_eq alias entry.alias) right.entries)
          (right_fits.aliases alias (subst (λ taken. is_among alias taken ≡ true) tests.taken now) is)

  pub join-fits : ElementFits database w0 whole w'
  join-fits = record {
    limit = λ most. subst (λ n. n ≤ MOST_REFERENCES) (sym tests.references) (right_fits.limit (left_fits.limit most));
    some = let long = length-append left.entries right.entries in let some = left_fits.some in omega (arith, long, some);
    aliases = taken-both;
    taken = λ alias is. subst (λ taken. is_among alias taken ≡ true) (sym tests.taken) (right_fits.taken alias (left_fits.taken alias is));
    uses = adds-trans (New w0 w') (adds-map (New w0 w) (New w0 w') (new-ends w0 (grows-trans second third)) left_fits.uses)
        (adds-trans (New w0 w') (adds-map (New w w1) (New w0 w') (λ slot new. new-begins w' first slot (new-ends w third slot new)) right_fits.uses)
        (adds-map (Used (on_place outers whole.entries)) (New w0 w') (on-new w0 w w1 w' first second third outers left.entries right.entries left_in right_in) tests.uses));
    shape = whole-at;
    sound = whole-sound;
  }

-- ---- the walk of a join

module _ (database : Database) where
  truth-if : (on : Option Condition) → CondSoundIf database on → Option (Group → Truth)
  truth-if None sound = None
  truth-if (Some c) sound = Some sound.meaning

  means-if : (on : Option Condition) (sound : CondSoundIf database on) → CondIf database on (truth-if on sound)
  unfolding truth-if
  means-if None sound = tt
  means-if (Some c) sound = sound.means

  pub join_part_sound : (word : JoinWord) (right : ElementWalk) (on : Option Condition) → ElementSound database right → CondSoundIf database on → JoinSound database (walk.join_step (record { word = word; right = right; on = on }))
  unfolding joined_walk
  join_part_sound word right on right_sound on_sound = record {
    meaning = meaning.join_step database (record { word = word; right = right_sound.meaning; on = truth-if on on_sound });
    means = join_part_means database word right right_sound.meaning on (truth-if on on_sound) right_sound.means (means-if on on_sound);
    gives = λ outers left w0 w e w' proper settled behind before left_fits walked.
        let left_gives = before.1 in
        let first = turn (right database.tables outers w) (joined_walk outers word on left) e w' walked in
        let right_gives = (right_sound.means).gives outers w first.given first.between proper settled first.begins in
        let right_fits = right_sound.gives outers w first.given first.between proper settled behind first.begins in
        let place = on_place outers (left.entries ++ (first.given).entries) in
        let second = mapped (tested place on first.between) (joined word left first.given) e w' first.goes_on in
        let own = all-append (λ (entry : Entry). Settled (first.between).numbers entry.slot) left.entries (first.given).entries (settled_in-grows right_gives.grows left.entries left_gives.settled) right_gives.settled in
        let seen : SettledAt (first.between).numbers place = (own, settled_all-grows right_gives.grows outers settled) in
        let between = (right_gives.grows).proper proper in
        let gives = tested_gives database place on (truth-if on on_sound) (means-if on on_sound) first.between second.given w' between seen second.begins in
        let tests = tested_sound database place on on_sound first.between second.given w' between seen second.begins in
        subst (λ e. ElementFits database w0 e w') (sym second.makes)
        (join-fits database outers left w0 w left_gives.grows left_gives.within left_fits first.given first.between right_gives.grows right_gives.within right_fits word second.given w' gives.grows tests);
  }
