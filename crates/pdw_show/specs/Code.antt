-- The line that refuses a script or one of its statements.
use Rattle.std.specs.Prelude.{⊤, ℕ, Bool, true, false, List, Option, Some}
use Rattle.std.specs.Option.{option_map}
use Rattle.pdw_show.specs.Refusal.{lex_line, long_file_line, long_script_line, parse_line}
use Rattle.pdw_show.specs.RefusalLine.{IsRefusal, refusal_line}
use Rattle.pdw_show.specs.declared.refusal.Code.{Code}
use Rattle.pdw_show.specs.declared.refusal.Code.TheVariants.{Lex, Parse, Engine, Script, File}

-- what a script as a whole is refused for has no statement
abbrev pub has_statement : Code → Bool
has_statement (Lex error) = false
has_statement (Parse error) = false
has_statement (Engine refusal) = true
has_statement Script = false
has_statement File = true

-- the line: of the statement of this number, where the code is of one
abbrev pub shown_refusal : Option ℕ → Code → Option (List ℕ)
shown_refusal statement (Lex error) = lex_line error
shown_refusal statement (Parse error) = parse_line error
shown_refusal statement (Engine refusal) = option_map (λ k. refusal_line k refusal) statement
shown_refusal statement Script = Some long_script_line
shown_refusal statement File = option_map long_file_line statement

-- a want of memory has no line
abbrev pub IsNamed : Code → Type 0
IsNamed (Lex error) = ⊤
IsNamed (Parse error) = ⊤
IsNamed (Engine refusal) = IsRefusal refusal
IsNamed Script = ⊤
IsNamed File = ⊤
