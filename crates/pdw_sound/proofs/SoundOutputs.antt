-- Output columns, each once: their kinds, and the numbers that the items make.
use Rattle.std.proofs.Common.{◌≡◌, ◌≢◌, ℕ, ◌==◌, true, List, [], ◌∷◌, ◌++◌, map, fold, Option, Some, is_some, refl, sym, ap, subst, ◌∙◌, append-nil, append_assoc}
use Rattle.std.specs.List.{AllByRecursion, flat_map, list_all, list_any}
use Rattle.std.proofs.lemmas.Bool.{and_from}
use Rattle.std.proofs.lemmas.List.Folds.{fold-map}
use Rattle.pdw_algebra.specs.Schema.{kind_at}
use Rattle.pdw_algebra.specs.Shape.{item_column, item_kind, kind_or_int}
use Rattle.pdw_base.specs.Schema.{Columns}
use Rattle.pdw_base.specs.declared.schema.ColId.{ColId}
use Rattle.pdw_base.specs.declared.value.Kind.{Kind}
use Rattle.pdw_sound.proofs.SoundColumns.{Apart, add_once, every-image, every-of-image, item-kind, made-all, made-apart, once-all, once-apart, once-has}
use Rattle.pdw_sound.proofs.SoundItems.{ItemKind}
use Rattle.pdw_sound.proofs.SoundRelations.{first_kind}
use Rattle.pdw_form.specs.Columns.{each_item_once, first_of}
use Rattle.pdw_form.specs.Sound.{SubqueryShape, items_made, judged_kind, kind_of_first, output_columns}
use Rattle.pdw_catalog.specs.Database.{Database}
use Rattle.pdw_expr.specs.declared.scalar.Scalar.{Scalar}
use Rattle.pdw_form.proofs.Related.{Related, none, more}
use Rattle.pdw_form.specs.Numbered.{outs_of}
use Rattle.pdw_walk.specs.declared.entry.Column.{Column}
use Rattle.pdw_form.specs.declared.judged.JItem.{JItem}

-- the numbers that subqueries make, after those before them
pub fold-made : (before : List ColId) (subs : List SubqueryShape) → fold (λ made sub. made ++ sub.made) before subs ≡ before ++ flat_map (λ sub. sub.made) subs
fold-made before [] = sym (append-nil before)
fold-made before (sub ∷ subs) = fold-made (before ++ sub.made) subs ∙ append_assoc before sub.made (flat_map (λ (s : SubqueryShape). s.made) subs)

-- ---- items, each once

abbrev pair_of : JItem → ColId × Option Scalar
pair_of i = (i.out, i.make)

abbrev number_in : ColId × Option Scalar → ℕ
number_in item = item.0.0

once_is : (items : List JItem) → each_item_once items ≡ fold (add_once number_in) [] (map pair_of items)
once_is items = sym (fold-map (add_once number_in) pair_of [] items)

-- what holds of all items holds of those that are kept
pub once-items : (P : ColId × Option Scalar → Type 0) (items : List JItem) → AllByRecursion (λ i. P (i.out, i.make)) items → AllByRecursion P (each_item_once items)
once-items P items all = subst (AllByRecursion P) (sym (once_is items)) (once-all number_in P [] (map pair_of items) tt (every-image pair_of P items all))

once-items-apart : (items : List JItem) → Apart (λ (a b : ColId × Option Scalar). a.0.0 ≢ b.0.0) (each_item_once items)
once-items-apart items = subst (Apart (λ (a b : ColId × Option Scalar). a.0.0 ≢ b.0.0)) (sym (once_is items)) (once-apart number_in [] (map pair_of items) tt)

once-items-have : (items : List JItem) → AllByRecursion (λ (i : JItem). list_any (λ (item : ColId × Option Scalar). item.0.0 == i.out.0) (each_item_once items) ≡ true) items
once-items-have items =
    subst (λ (all : List (ColId × Option Scalar)). AllByRecursion (λ (i : JItem). list_any (λ (item : ColId × Option Scalar). item.0.0 == i.out.0) all ≡ true) items) (sym (once_is items))
    (every-of-image pair_of (λ (x : ColId × Option Scalar). list_any (λ (item : ColId × Option Scalar). item.0.0 == x.0.0) (fold (add_once number_in) [] (map pair_of items)) ≡ true) items (once-has number_in [] (map pair_of items)))

-- ---- kinds

module _ (columns : Columns) (make : ColId → Option Scalar) (items : List JItem) (makes : AllByRecursion (λ (i : JItem). i.make ≡ make i.out) items) where
  output_kind : (i : JItem) (k : Kind) → i.make ≡ make i.out → list_any (λ (item : ColId × Option Scalar). item.0.0 == i.out.0) (each_item_once items) ≡ true → judged_kind columns i ≡ Some k
      → kind_at (output_columns items columns) i.out ≡ Some k
  output_kind i k made among is =
      item-kind make columns (each_item_once items) (once-items (λ (item : ColId × Option Scalar). item.1 ≡ make item.0) items makes) i.out among
      ∙ ap (λ (kind : Option Kind). Some (kind_or_int kind)) (ap (λ (m : Option Scalar). item_kind columns (i.out, m)) (sym made) ∙ is)

  some_kinds : {outputs : List Column} {some : List JItem} → Related (ItemKind columns) outputs some → AllByRecursion (λ (i : JItem). i.make ≡ make i.out) some
      → AllByRecursion (λ (i : JItem). list_any (λ (item : ColId × Option Scalar). item.0.0 == i.out.0) (each_item_once items) ≡ true) some
      → Related (λ column out. kind_at (output_columns items columns) out ≡ Some column.kind) outputs (outs_of some)
  some_kinds none made among = none
  some_kinds (more {x = column} {y = i} is rest) made among = more (output_kind i column.kind made.0 among.0 is) (some_kinds rest made.1 among.1)

  -- each output column has its kind
  pub output_kinds : {outputs : List Column} → Related (ItemKind columns) outputs items → Related (λ column out. kind_at (output_columns items columns) out ≡ Some column.kind) outputs (outs_of items)
  output_kinds kinds = some_kinds kinds makes (once-items-have items)

pub items_typed : (columns : Columns) {outputs : List Column} {items : List JItem} → Related (ItemKind columns) outputs items → list_all (λ item. is_some (judged_kind columns item)) items ≡ true
items_typed columns none = refl
items_typed columns (more is rest) = and_from _ _ (ap is_some is) (items_typed columns rest)

pub first_typed : (database : Database) (columns : Columns) {outputs : List Column} {items : List JItem} → Related (ItemKind columns) outputs items → kind_of_first columns (first_of items) ≡ first_kind database outputs
first_typed database columns none = refl
first_typed database columns (more is rest) = is

-- ---- numbers

pub items_made-apart : (items : List JItem) → Apart (λ (a b : ColId). a.0 ≢ b.0) (items_made items)
items_made-apart items = made-apart (each_item_once items) (once-items-apart items)

-- what holds of the numbers of items that make something holds of what is made
pub items_made-all : (P : ColId → Type 0) (items : List JItem) → AllByRecursion (λ (i : JItem). is_some i.make ≡ true → P i.out) items → AllByRecursion P (items_made items)
items_made-all P items all = made-all P (each_item_once items) (once-items (λ (item : ColId × Option Scalar). is_some item.1 ≡ true → P item.0) items all)

-- what holds of the items' numbers holds of those of the output columns
pub outputs-all : (P : ColId → Type 0) (columns : Columns) (items : List JItem) → AllByRecursion P (outs_of items) → AllByRecursion (λ (column : ColId × Kind). P column.0) (output_columns items columns)
outputs-all P columns items all =
    every-image (item_column columns) (λ (column : ColId × Kind). P column.0) (each_item_once items)
    (once-items (λ (item : ColId × Option Scalar). P item.0) items (every-of-image (λ (i : JItem). i.out) P items all))
