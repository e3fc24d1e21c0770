-- Two blanks more for each node above.
use Rattle.std.proofs.Common.{◌≡◌, ℕ, ◌+◌, ◌*◌, List, [], ◌∷◌, ◌++◌, replicate, append_assoc, ap, ◌∙◌, arith}
use Rattle.std.proofs.lemmas.List.{replicate-append-replicate}
use Rattle.pdw_show.specs.Plan.{indent}

pub indent-more : (start text new : List ℕ) (level : ℕ) → text ≡ start ++ indent level → new ≡ text ++ 32 ∷ 32 ∷ [] → new ≡ start ++ indent (level + 1)
indent-more start text new level is more =
    let next : 2 * level + 2 ≡ 2 * (level + 1) = omega arith in
    more
    ∙ ap (λ t. t ++ 32 ∷ 32 ∷ []) is
    ∙ append_assoc start (indent level) (32 ∷ 32 ∷ [])
    ∙ ap (λ t. start ++ t) (replicate-append-replicate (2 * level) 2 32 ∙ ap (λ n. replicate n 32) next)
