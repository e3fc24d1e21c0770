-- What a text is to which tokens were put.
use Rattle.std.proofs.Common.{◌≡◌, ℕ, true, false, List, [], ◌∷◌, ◌++◌, refl, sym, ap, ◌∙◌, append_assoc}
use Rattle.std.specs.Prelude.{codes}
use Rattle.std.specs.List.{flat_map}
use Rattle.std.proofs.lemmas.Grind.{fold-append}
use Rattle.std.proofs.lemmas.List.{append-nil}
use Rattle.pdw_ast.specs.Spelling.{Spelling}
use Rattle.pdw_ast.specs.Puts.{Line, put, puts}
use Rattle.pdw_ast.specs.Written.{Written, spaced}

-- to a text that has a token, each further one is put after a space
puts-begun : (text : List ℕ) (ws : List Written) → (puts (text, true) ws).0 ≡ text ++ flat_map (λ w. codes " " ++ w.bytes) ws
unfolding put
puts-begun text [] = sym (append-nil text)
puts-begun text (w ∷ ws) =
    puts-begun ((text ++ codes " ") ++ w.bytes) ws
    ∙ ap (λ front. front ++ flat_map (λ w. codes " " ++ w.bytes) ws) (append_assoc text (codes " ") w.bytes)
    ∙ append_assoc text (codes " " ++ w.bytes) (flat_map (λ w. codes " " ++ w.bytes) ws)

pub puts-spaced : (ws : List Written) → (puts ([], false) ws).0 ≡ spaced ws
unfolding put
puts-spaced [] = refl
puts-spaced (w ∷ ws) = puts-begun w.bytes ws

pub puts_append : (line : Line) (front back : Spelling) → puts line (front ++ back) ≡ puts (puts line front) back
puts_append line front back = fold-append (λ line w. put line w.bytes) line front back
