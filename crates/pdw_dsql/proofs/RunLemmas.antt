-- Steps that are run one after the other, by those of two parts: what they take, how many temporary tables they make, and
-- how these are numbered.
use Rattle.std.proofs.Common.{◌≡◌, ℕ, suc, ◌+◌, List, [], ◌∷◌, ◌++◌, length, map, refl, sym, ap, subst, ◌∙◌, append_assoc, append-nil, length-append, arith}
use Rattle.std.proofs.lemmas.List.{length-map}
use Rattle.pdw_catalog.specs.Appliance.{Contents}
use Rattle.pdw_dsql.specs.Follows.{AreNumbered, Taken, brought_by, taken_by, taken_in_turn}
use Rattle.pdw_dsql.specs.declared.steps.Step.{Step}
use Rattle.pdw_rules.specs.Stands.{PlacedRows}

module _ (contents : Contents) where
  abbrev turn : List PlacedRows → List Step → List Taken
  turn = taken_in_turn contents

  -- the temporary tables after some steps
  abbrev pub tables_after : List PlacedRows → List Step → List PlacedRows
  tables_after temps steps = temps ++ map (brought_by contents) (turn temps steps)

  turn-length : (temps : List PlacedRows) (steps : List Step) → length (turn temps steps) ≡ length steps
  turn-length temps [] = refl
  turn-length temps (step ∷ steps) = ap suc (turn-length (temps ++ brought_by contents (taken_by contents temps step) ∷ []) steps)

  pub tables-length : (temps : List PlacedRows) (steps : List Step) → length (tables_after temps steps) ≡ length temps + length steps
  tables-length temps steps =
      length-append temps (map (brought_by contents) (turn temps steps)) ∙ ap (λ n. length temps + n) (length-map (turn temps steps) (brought_by contents) ∙ turn-length temps steps)

  pub turn-append : (temps : List PlacedRows) (first more : List Step) → turn temps (first ++ more) ≡ turn temps first ++ turn (tables_after temps first) more
  turn-append temps [] more = ap (λ all. turn all more) (sym (append-nil temps))
  turn-append temps (step ∷ first) more =
      let taken = taken_by contents temps step in
      let made = brought_by contents taken in
      ap (λ rest. taken ∷ rest)
      (turn-append (temps ++ made ∷ []) first more
      ∙ ap (λ all. turn (temps ++ made ∷ []) first ++ turn all more) (append_assoc temps (made ∷ []) (map (brought_by contents) (turn (temps ++ made ∷ []) first))))

pub numbered-append : (number : ℕ) (first more : List Step) → AreNumbered number first → AreNumbered (number + length first) more → AreNumbered number (first ++ more)
numbered-append number [] more one two = let same : number + 0 ≡ number = omega arith in subst (λ n. AreNumbered n more) same two
numbered-append number (step ∷ first) more one two =
    let same : number + suc (length first) ≡ suc number + length first = omega arith in
    (one.0, numbered-append (suc number) first more one.1 (subst (λ n. AreNumbered n more) same two))
