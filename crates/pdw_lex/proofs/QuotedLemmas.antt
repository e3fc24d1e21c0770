-- A text in quotes that is too long.
use Rattle.std.proofs.Common.{◌≡◌, ℕ, ◌<◌, false, List, ◌++◌, length, take, drop, ap, sym, ◌∙◌}
use Rattle.std.proofs.lemmas.List.{take-append-drop}
use Rattle.pdw_lex.specs.Bytes.{begins_with, is_quote}
use Rattle.pdw_lex.specs.Fault.{BeginsLongText}
use Rattle.pdw_lex.specs.Piece.{quoted}
use Rattle.pdw_base.specs.declared.limits.TheConstants.{MOST_TEXT_BYTES}

pub long_text : (left text : List ℕ) (n : ℕ) → take n left ≡ quoted text → begins_with is_quote (drop n left) ≡ false → MOST_TEXT_BYTES < length text → BeginsLongText left
long_text left text n spelled ends long = (text, drop n left, sym (take-append-drop n left) ∙ ap (λ xs. xs ++ drop n left) spelled, ends, long)
