-- What the code finds of columns is what the definitions say.
use Rattle.std.proofs.Common.{◌≡◌, ℕ, ◌+◌, ◌==◌, Bool, true, false, true≢false, List, [], ◌∷◌, length, max, min, Option, Some, None, refl, sym, ap, ◌∙◌, arith, ◌⊎◌, inl, inr, if◌then◌else◌}
use Rattle.std.specs.Option.{option_map, option_or}
use Rattle.pdw_base.specs.declared.schema.ColId.{ColId}
use Rattle.pdw_expr.specs.declared.agg.AggKind.{AggKind}
use Rattle.pdw_expr.specs.declared.agg.AggKind.TheVariants as aggregate
use Rattle.pdw_expr.specs.declared.scalar.Scalar.{Scalar}
use Rattle.pdw_sizes.specs.Estimate.{ColStats, aggregate_width, argument_width, expression_width, key_rows}
use Rattle.pdw_sizes.specs.Numbered.{key_lists}
use Rattle.pdw_stats.specs.declared.stats.ColStat.{ColStat}

module _ {X : Type 0} (make : X → ColStat) (below : Option ColStat) where
  pub made-some : (o : Option X) (x : X) (column : ColStat) → Some x ≡ o → column ≡ make x → Some column ≡ option_or (option_map make o) below
  made-some o x column is same = ap Some same ∙ ap (λ found. option_or (option_map make found) below) is

  pub made-none : (o : Option X) (column : Option ColStat) → None ≡ o → column ≡ below → column ≡ option_or (option_map make o) below
  made-none o column is same = same ∙ ap (λ found. option_or (option_map make found) below) is

pub or-column : (b : Bool) (found other : Option ColStat) → b ≡ true → found ≡ None → other ≡ (if b then option_or found other else found)
or-column b found other is none = sym (λ i. if is i then option_or (none i) other else found)

pub least-width : (columns : ColStats) (count : ℕ) (kind : AggKind) (argument : Option Scalar) (e : Scalar) → (kind ≡ aggregate.Min) ⊎ (kind ≡ aggregate.Max) → argument ≡ Some e
    → expression_width columns e ≡ aggregate_width count kind (argument_width columns argument)
least-width columns count kind argument e (inl is) some = sym (λ i. aggregate_width count (is i) (argument_width columns (some i)))
least-width columns count kind argument e (inr is) some = sym (λ i. aggregate_width count (is i) (argument_width columns (some i)))

pub key-rows : (columns : ColStats) (rows : ℕ) (keys : List ColId) → (length keys == 0) ≡ false → min rows (key_lists columns keys) ≡ key_rows columns rows keys
key-rows columns rows [] some = absurd (true≢false some)
key-rows columns rows (key ∷ keys) some = refl

pub width-more : (result width more sum next column : ℕ) → width ≡ min 4294967295 sum → more ≡ column → next ≡ sum + column → result ≡ min (width + more) 4294967295 → result ≡ min 4294967295 next
width-more result width more sum next column was is adds added = omega (arith, was, is, adds, added)

pub width-all : (result width sum : ℕ) → width ≡ min 4294967295 sum → result ≡ max width 1 → result ≡ min 4294967295 (max 1 sum)
width-all result width sum was is = omega (arith, was, is)
