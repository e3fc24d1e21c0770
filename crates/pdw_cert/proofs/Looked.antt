-- What is found of equal groups and lists holds of these.
use Rattle.std.proofs.Common.{◌≡◌, ℕ, List, Option, subst}
use Rattle.pdw_groups.specs.declared.group.Group.{Group}

pub carried : (P : List Group → List (List (Option ℕ)) → Type 0) {found groups : List Group} {kept lists : List (List (Option ℕ))} → found ≡ groups → kept ≡ lists → P found kept → P groups lists
carried P {found} {groups} {kept} {lists} same also is = subst (P groups) also (subst (λ (g : List Group). P g kept) same is)
