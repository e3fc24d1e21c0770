-- Reading on behind what was taken.
use Rattle.std.proofs.Common.{◌≡◌, ◌+◌, ◌≤◌, ℕ, List, ◌++◌, length, take, drop, Option, Some, None, sym, ◌∙◌, ap, length-append, append_assoc}
use Rattle.std.proofs.lemmas.List.{take-append-drop, drop-drop, length-take-le, take-append-le}
use Rattle.pdw_outside.specs.Files.{GivesFrom}
use Rattle.pdw_outside.specs.Whole.{IsStart}

-- what is read behind a start of the content makes a longer start
pub start_more : (told : Option (List ℕ)) (taken buf : List ℕ) (count : ℕ) → count ≤ length buf → GivesFrom told (length taken) count buf → IsStart told taken → IsStart told (taken ++ take count buf)
start_more None taken buf count within given start = tt
start_more (Some content) taken buf count within given start =
    let rest : List ℕ = drop (length taken) content in
    let len : length (taken ++ take count buf) ≡ length taken + count =
    length-append taken (take count buf) ∙ ap (λ n. length taken + n) (length-take-le count buf within) in
    let after : drop (length (taken ++ take count buf)) content ≡ drop count rest =
    ap (λ n. drop n content) len ∙ sym (drop-drop count (length taken) content) in
    append_assoc taken (take count buf) _
    ∙ ap (λ piece. taken ++ (piece ++ drop (length (taken ++ take count buf)) content)) given
    ∙ ap (λ past. taken ++ (take count rest ++ past)) after
    ∙ ap (λ all. taken ++ all) (take-append-drop count rest)
    ∙ start

-- the same, where the bytes that are read are the front of a longer buffer
pub start_front : (told : Option (List ℕ)) (taken buf rest : List ℕ) (at count : ℕ) → at ≡ length taken → count ≤ length buf → GivesFrom told at count buf → IsStart told taken → IsStart told (taken ++ take count (buf ++ rest))
start_front told taken buf rest at count here within given start =
    let given : GivesFrom told (length taken) count buf = rw here at given in
    rw (take-append-le count buf rest within) (start_more told taken buf count within given start)
