use Rattle.std.proofs.Common.{◌≡◌, ◌++◌, ◌∷◌, [], take, if◌then◌else◌}
use Rattle.std.specs.Prelude.{◌==◌}
use Rattle.std.specs.List.{flat_map}
use Rattle.pdw_show.proofs.rows.push_quoted.Given as goal

abbrev pub invariant-loop-byte : goal.invariant-loop-byte
invariant-loop-byte l =
    l.text.items ≡ (l.fn.text.items ++ 34 ∷ []) ++ flat_map (λ byte. if byte == 34 then 34 ∷ 34 ∷ [] else byte ∷ []) (take l.byte-index l.bytes)
