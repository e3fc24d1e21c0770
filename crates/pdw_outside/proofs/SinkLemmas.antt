-- Writing on behind what was written.
use Rattle.std.proofs.Common.{◌≡◌, ◌<◌, ◌≤◌, ◌+◌, ◌-◌, ℕ, zero, suc, List, [], ◌∷◌, ◌++◌, length, take, drop, Option, Some, None, Ok, sym, ◌∙◌, ap, arith, append_assoc, append-nil, length-drop}
use Rattle.std.proofs.Math.Seq.{take-add}
use Rattle.std.proofs.lemmas.List.{take_all}
use Rattle.pdw_outside.specs.Faults.{Rose}
use Rattle.pdw_outside.specs.Sink.{Adds, CountsWrite}

-- a piece behind another
pub adds_both : (before middle now : Option (List ℕ)) (piece more : List ℕ) → Adds before middle piece → Adds middle now more → Adds before now (piece ++ more)
adds_both before middle None piece more first second = tt
adds_both before None (Some now) piece more first second = absurd second
adds_both None (Some middle) (Some now) piece more first second = absurd first
adds_both (Some before) (Some middle) (Some now) piece more first second =
    second ∙ ap (λ text. text ++ more) first ∙ append_assoc before piece more

-- the next bytes behind the first of them
pub adds_more : (before middle now : Option (List ℕ)) (bytes : List ℕ) (done count : ℕ) → Adds before middle (take done bytes) → Adds middle now (take count (take (length bytes - done) (drop done bytes))) → Adds before now (take (done + count) bytes)
adds_more before middle now bytes done count first second =
    let left : length (drop done bytes) ≤ length bytes - done = omega (arith, length-drop done bytes) in
    let whole : take (length bytes - done) (drop done bytes) ≡ drop done bytes = take_all _ (drop done bytes) left in
    rw (take-add done count bytes) (adds_both before middle now (take done bytes) (take count (drop done bytes)) first (rw whole at second))

-- nothing behind another
pub adds_nothing : (before middle now : Option (List ℕ)) (piece : List ℕ) → Adds before middle piece → Adds middle now [] → Adds before now piece
adds_nothing before middle now piece first second =
    let both : Adds before now (piece ++ []) = adds_both before middle now piece [] first second in
    rw append-nil at both

-- nothing at all
pub adds_none : (now : Option (List ℕ)) → Adds now now []
adds_none None = tt
adds_none (Some now) = sym (append-nil now)

-- a write that takes something is no fault
pub counts_some : (before now : ℕ) (piece : List ℕ) (count : ℕ) → count ≤ length piece → 0 < count → CountsWrite before now piece (Ok count) → now ≡ before
counts_some before now [] count within some counts = counts
counts_some before now (byte ∷ piece) zero within some counts = absurd (omega arith)
counts_some before now (byte ∷ piece) (suc count) within some counts = counts

-- a write that takes nothing of something is a fault
pub counts_none : (before now : ℕ) (piece : List ℕ) (count : ℕ) → 0 < length piece → count ≡ 0 → CountsWrite before now piece (Ok count) → Rose before now
counts_none before now [] count some none counts = absurd (omega arith)
counts_none before now (byte ∷ piece) zero some none counts = counts
counts_none before now (byte ∷ piece) (suc count) some none counts = absurd (omega arith)
