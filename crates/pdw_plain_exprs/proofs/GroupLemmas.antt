-- The groups of a query by their rows alone.
use Rattle.std.proofs.Common.{◌≡◌, ◌==◌, false, List, [], ◌∷◌, length, map, refl, ap}
use Rattle.pdw_syntax.specs.declared.expr.ColRef.{ColRef}
use Rattle.pdw_base.specs.declared.value.Value.{Value}
use Rattle.pdw_expr.specs.Parts.{groups, parts}
use Rattle.pdw_semantics.specs.Environment.{Scope, alone, group_of}

pub groups_of_singles : (outers : List Scope) (rows : List Scope) → map (λ part. group_of part outers) (map (λ row. row ∷ []) rows) ≡ map (alone outers) rows
groups_of_singles outers [] = refl
groups_of_singles outers (row ∷ rows) = ap (λ found. alone outers row ∷ found) (groups_of_singles outers rows)

pub groups-some : (refs : List ColRef) (key : Scope → List Value) (rows : List Scope) → (length refs == 0) ≡ false → groups refs key rows ≡ parts key rows
groups-some [] key rows some = cc
groups-some (ref ∷ refs) key rows some = refl
