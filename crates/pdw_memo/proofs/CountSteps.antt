-- One more group whose joins are counted.
use Rattle.std.proofs.Common.{◌≡◌, ℕ, zero, suc, ◌+◌, ◌<◌, ◌≤◌, Bool, true, false, List, [], ◌∷◌, length, filter, take, get_or, if◌then◌else◌, sym, ap, ap₂, subst, ◌∙◌, arith, length-append}
use Rattle.std.specs.List.{AllByRecursion, flat_map}
use Rattle.pdw_base.proofs.Steps.{flat_map-one_more}
use Rattle.pdw_groups.specs.declared.group.Expr.{Expr}
use Rattle.pdw_groups.specs.declared.group.Group.{Group}
use Rattle.pdw_memo.proofs.Counts.{filter-most}
use Rattle.pdw_memo.specs.Memo.{is_join, is_of_block, join_count, joins_in}

pub all-at : {X : Type 0} (P : X → Type 0) (xs : List X) (i : ℕ) (x : X) → AllByRecursion P xs → i < length xs → x ≡ get_or xs i x → P x
all-at P [] i x all within is = absurd (omega (arith, within))
all-at P (y ∷ xs) zero x all within is = subst P (sym is) all.0
all-at P (y ∷ xs) (suc i) x all within is = all-at P xs i x all.1 (omega (arith, within)) is

pub few-joins : (block : ℕ) (group : Group) → length group.exprs ≤ 1024 → length (joins_in block group) ≤ 1024
few-joins block group few = by (is_of_block block group.key)
  where
    joins : List Expr
    joins = filter (λ expr. is_join expr.op) group.exprs

    by : (b : Bool) → length (if b then joins else []) ≤ 1024
    by true = let most = filter-most (λ (expr : Expr). is_join expr.op) group.exprs in omega (arith, most, few)
    by false = omega arith

pub count-next : (block : ℕ) (groups : List Group) (i : ℕ) (group : Group) → i < length groups → group ≡ get_or groups i group
    → (joins more : ℕ) → joins ≡ join_count block (take i groups) → more ≡ length (joins_in block group) → joins + more ≡ join_count block (take (i + 1) groups)
count-next block groups i group within item joins more had added =
    ap₂ (λ a b. a + b) had added
    ∙ sym (length-append (flat_map (joins_in block) (take i groups)) (joins_in block group))
    ∙ ap length (sym (flat_map-one_more groups i group within item (joins_in block)))
