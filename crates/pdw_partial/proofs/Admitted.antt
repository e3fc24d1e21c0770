-- Which partial rows are admitted: those of one part, those of any parts, and admitted ones together.
use Rattle.std.proofs.Common.{◌≢◌, List, [], ◌∷◌, ◌++◌, refl, sym, append-nil}
use Rattle.std.proofs.lemmas.Grind.{flat_map-append}
use Rattle.std.specs.List.{AllByRecursion, flat_map}
use Rattle.pdw_base.proofs.SameBagLaws.{SameBag-append, SameBag-refl, SameBag-sym, SameBag-trans, SameBag-≡}
use Rattle.pdw_base.specs.SameBag.{SameBag}
use Rattle.pdw_base.specs.Schema.{Env}
use Rattle.pdw_base.specs.declared.schema.ColId.{ColId}
use Rattle.pdw_expr.specs.declared.agg.Agg.{Agg}
use Rattle.pdw_partial.specs.Partial.{IsPartial, partial_rows, together}

module _ (keys : List ColId) (aggs : List Agg) where
  -- the partial rows of each of some parts
  pub IsPartial-parts : (parts : List (List Env)) (input : List Env) → parts ≢ [] → SameBag (together parts) input
      → IsPartial keys aggs input (flat_map (partial_rows keys aggs) parts)
  IsPartial-parts parts input some whole = record { parts = parts; some = some; whole = whole; rows = SameBag-refl (flat_map (partial_rows keys aggs) parts) }

  pub IsPartial-one : (input : List Env) → IsPartial keys aggs input (partial_rows keys aggs input)
  IsPartial-one input = record {
    parts = input ∷ [];
    some = λ none. cc;
    whole = SameBag-≡ (append-nil input);
    rows = SameBag-≡ (sym (append-nil (partial_rows keys aggs input)));
  }

  -- what is admitted is a matter of bags
  pub IsPartial-same : (input other partials others : List Env) → SameBag input other → SameBag partials others → IsPartial keys aggs input partials → IsPartial keys aggs other others
  IsPartial-same input other partials others same moved of = record {
    parts = of.parts;
    some = of.some;
    whole = SameBag-trans of.whole same;
    rows = SameBag-trans (SameBag-sym moved) of.rows;
  }

  IsPartial-append : (left right ls rs : List Env) → IsPartial keys aggs left ls → IsPartial keys aggs right rs → IsPartial keys aggs (left ++ right) (ls ++ rs)
  IsPartial-append left right ls rs first second = record {
    parts = first.parts ++ second.parts;
    some = more first.parts second.parts first.some;
    whole = SameBag-trans (SameBag-≡ (flat_map-append (λ part. part) first.parts second.parts)) (SameBag-append first.whole second.whole);
    rows = SameBag-trans (SameBag-append first.rows second.rows) (SameBag-≡ (sym (flat_map-append (partial_rows keys aggs) first.parts second.parts)));
  }
    where
      more : (xs ys : List (List Env)) → xs ≢ [] → xs ++ ys ≢ []
      more [] ys some = absurd (some refl)
      more (x ∷ xs) ys some = λ none. cc

  -- a bag with partial rows that it admits
  abbrev Pair : Type 0
  Pair = List Env × List Env

  abbrev inputs : List Pair → List Env
  inputs pairs = flat_map (λ pair. pair.0) pairs

  abbrev outputs : List Pair → List Env
  outputs pairs = flat_map (λ pair. pair.1) pairs

  IsPartial-more : (pair : Pair) (pairs : List Pair) → AllByRecursion (λ pair. IsPartial keys aggs pair.0 pair.1) (pair ∷ pairs)
      → IsPartial keys aggs (inputs (pair ∷ pairs)) (outputs (pair ∷ pairs))
  IsPartial-more pair [] all =
      IsPartial-same pair.0 (pair.0 ++ []) pair.1 (pair.1 ++ []) (SameBag-≡ (sym (append-nil pair.0))) (SameBag-≡ (sym (append-nil pair.1))) all.0
  IsPartial-more pair (next ∷ pairs) all =
      IsPartial-append pair.0 (inputs (next ∷ pairs)) pair.1 (outputs (next ∷ pairs)) all.0 (IsPartial-more next pairs all.1)

  -- partial rows that are admitted for bags that add up to the input are admitted together
  pub IsPartial-all : (pairs : List Pair) (input : List Env) → pairs ≢ [] → SameBag (inputs pairs) input → AllByRecursion (λ pair. IsPartial keys aggs pair.0 pair.1) pairs
      → IsPartial keys aggs input (outputs pairs)
  IsPartial-all [] input some whole all = absurd (some refl)
  IsPartial-all (pair ∷ pairs) input some whole all =
      IsPartial-same (inputs (pair ∷ pairs)) input (outputs (pair ∷ pairs)) (outputs (pair ∷ pairs)) whole (SameBag-refl (outputs (pair ∷ pairs))) (IsPartial-more pair pairs all)
