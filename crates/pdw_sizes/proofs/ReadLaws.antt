-- What the code reads of a group of a memo.
use Rattle.std.proofs.Common.{◌≡◌, ℕ, ◌<◌, List, length, get_or, Some, sym, ap, ap₂, subst, ◌∙◌, arith, ◌⊎◌, inl, inr}
use Rattle.std.specs.List.{slice_get}
use Rattle.std.specs.Option.{option_map}
use Rattle.std.proofs.lemmas.Option.{slice_get-get_or, slice_get-map, slice_get_within}
use Rattle.pdw_base.specs.Schema.{Columns}
use Rattle.pdw_groups.specs.Meaning.{Meaning}
use Rattle.pdw_groups.specs.Memo.{Contents}
use Rattle.pdw_groups.specs.declared.block.BlockPart.{BlockPart}
use Rattle.pdw_groups.specs.declared.group.Expr.{Expr}
use Rattle.pdw_groups.specs.declared.group.Group.{Group}
use Rattle.pdw_groups.specs.declared.key.GroupKey.{GroupKey}
use Rattle.pdw_groups.specs.declared.key.GroupKey.TheVariants as key
use Rattle.pdw_memo.specs.Laws.{meanings_in}
use Rattle.pdw_memo.specs.Memo.{IsMemo}
use Rattle.pdw_sizes.proofs.MemoReads.{IsKnown, memo-means, memo-reads}
use Rattle.pdw_sizes.specs.Numbered.{columns_at, columns_if, rows_at, rows_if}
use Rattle.pdw_sizes.specs.Reading.{IsFirst, IsSet, Reads, ReadsBlock, ReadsBy, ReadsFirst, ReadsSet}
use Rattle.pdw_sizes.specs.Sizes.{columns_of_meaning, rows_of_meaning, schema_of_meaning, size_of_meaning, sizes_in, width_of_schema}
use Rattle.pdw_stats.specs.Book.{Book}

some-same : {X : Type 0} (a b : X) → Some a ≡ Some b → a ≡ b
some-same a b same = cc

item-there : {X : Type 0} (xs : List X) (i : ℕ) (x : X) → i < length xs → x ≡ get_or xs i x → slice_get xs i ≡ Some x
item-there xs i x within item = slice_get-get_or xs i x within ∙ ap Some (sym item)

module _ (contents : Contents) (number : ℕ) (groups : List Group) (all : groups ≡ contents.groups) (group : Group) (item : group ≡ get_or groups number group) (within : number < length contents.groups) where
  there : slice_get contents.groups number ≡ Some group
  there = subst (λ gs. slice_get gs number ≡ Some group) all (item-there groups number group (subst (λ gs. number < length gs) (sym all) within) item)

  abbrev means : IsMemo contents → Meaning
  means memo = (memo-means contents memo number group there).0

  meant : (memo : IsMemo contents) → slice_get (meanings_in contents memo) number ≡ Some (means memo)
  meant memo = (memo-means contents memo number group there).1

  known : (memo : IsMemo contents) → IsKnown contents memo number group (means memo)
  known memo = memo-reads contents memo number group (means memo) there (meant memo)

  reads-as : (memo : IsMemo contents) (k : GroupKey) → group.key ≡ k → Reads (meanings_in contents memo) number contents.blocks k group.schema group.exprs (means memo)
  reads-as memo k is = subst (λ o. Reads (meanings_in contents memo) number contents.blocks o group.schema group.exprs (means memo)) is (known memo).reads

  -- ---- a set of leaves

  module _ (block leaves : ℕ) (is : group.key ≡ key.Part block leaves) where
    block-reads : (memo : IsMemo contents) → ReadsBlock (meanings_in contents memo) number contents.blocks block leaves group.schema (means memo)
    block-reads memo = reads-as memo (key.Part block leaves) is

    pub block-within : IsMemo contents → block < length contents.blocks
    block-within memo = slice_get_within contents.blocks block (block-reads memo).part (block-reads memo).there

    pub set-read : IsMemo contents → (blocks : List BlockPart) → blocks ≡ contents.blocks → (part : BlockPart) → part ≡ get_or blocks block part → (schema : Columns) → schema ≡ group.schema
        → IsSet contents number part leaves schema
    set-read some blocks same part place schema columns = record {
      some = some;
      each = λ memo.
          let r = block-reads memo in
          let inside = subst (λ bs. block < length bs) (sym same) (block-within memo) in
          let at : slice_get contents.blocks block ≡ Some part = subst (λ bs. slice_get bs block ≡ Some part) same (item-there blocks block part inside place) in
          let own : r.part ≡ part = some-same r.part part (sym r.there ∙ at) in
          record {
            means = means memo;
            there = meant memo;
            reads =
                subst (λ p. ReadsSet (meanings_in contents memo) number p leaves schema (means memo)) own
                (subst (λ s. ReadsSet (meanings_in contents memo) number r.part leaves s (means memo)) (sym columns) r.reads);
          };
    }

  -- ---- an operator

  abbrev IsOther : Type 0
  IsOther = ((x : ℕ) × (group.key ≡ key.Whole x)) ⊎ ((x : ℕ) × (group.key ≡ key.Partial x))

  first-reads : (memo : IsMemo contents) → IsOther → ReadsFirst (meanings_in contents memo) number (means memo) group.exprs
  first-reads memo (inl whole) = reads-as memo (key.Whole whole.0) whole.1
  first-reads memo (inr partial) = reads-as memo (key.Partial partial.0) partial.1

  pub some-expr : IsMemo contents → IsOther → (exprs : List Expr) → exprs ≡ group.exprs → 0 < length exprs
  some-expr memo other exprs same = let count = ap length (same ∙ (first-reads memo other).is) in omega (arith, count)

  pub first-read : IsMemo contents → IsOther → (exprs : List Expr) → exprs ≡ group.exprs → (expr : Expr) → expr ≡ get_or exprs 0 expr → IsFirst contents number expr
  first-read some other exprs same expr place = record {
    some = some;
    each = λ memo.
        let r = first-reads memo other in
        let own : r.first ≡ expr = sym (place ∙ ap (λ l. get_or l 0 expr) (same ∙ r.is)) in
        record {
          means = means memo;
          there = meant memo;
          reads = subst (λ (e : Expr). ReadsBy (meanings_in contents memo) number (means memo) e.op e.children) own r.reads;
        };
  }

  -- ---- its size

  pub size-is : (book : Book) (n : ℕ) (memo : IsMemo contents) (rows width : ℕ) (schema : Columns) → schema ≡ group.schema → rows ≡ rows_at book (meanings_in contents memo) n number
      → width ≡ width_of_schema (columns_at book (meanings_in contents memo) number) schema → slice_get (sizes_in contents memo book n) number ≡ Some (record { rows = rows; width = width })
  size-is book n memo rows width schema columns rows_are width_is =
      let m = means memo in
      let has_rows : rows_of_meaning book n m ≡ rows = sym (rows_are ∙ ap (rows_if book n) (meant memo)) in
      let has_width : width_of_schema (columns_of_meaning book m) (schema_of_meaning memo.tables m) ≡ width =
      sym (width_is ∙ ap₂ width_of_schema (ap (columns_if book) (meant memo)) (columns ∙ (known memo).schema)) in
      slice_get-map (size_of_meaning book n memo.tables) (meanings_in contents memo) number
      ∙ ap (option_map (size_of_meaning book n memo.tables)) (meant memo)
      ∙ ap₂ (λ (r w : ℕ). Some (record { rows = r; width = w })) has_rows has_width
