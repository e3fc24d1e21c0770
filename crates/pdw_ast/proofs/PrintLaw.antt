-- What a statement's canonical spelling means.
use Rattle.std.proofs.Common.{◌≡◌, List, [], ◌∷◌, ◌++◌, Some, map, refl, sym, subst, append-nil}
use Rattle.pdw_lex.specs.declared.sign.Sign.TheVariants.{Semicolon}
use Rattle.pdw_lex.specs.declared.token.Lexeme.{Lexeme}
use Rattle.pdw_lex.specs.declared.token.Lexeme.TheVariants.{Sign}
use Rattle.pdw_syntax.specs.Rule.{empty, one, both, none, more}
use Rattle.pdw_syntax.specs.Lexemes.{is_sign, same_sign}
use Rattle.pdw_syntax.specs.Parentheses.{Parentheses}
use Rattle.pdw_syntax.specs.Statements.{statement}
use Rattle.pdw_syntax.specs.Texts.{IsWritten, parentheses, most_open, script}
use Rattle.pdw_ast.specs.Written.{sayings}
use Rattle.pdw_ast.specs.Spelling.{canonical}
use Rattle.pdw_ast.specs.Spelling.{statement as spelling}
use Rattle.pdw_ast.specs.Prints.{MeansAlone}
use Rattle.pdw_syntax.specs.declared.statement.Statement.{Statement}
use Rattle.pdw_ast.proofs.ReprintStatements.{statement_means, statement_spelled}
use Rattle.pdw_ast.proofs.ReprintValid.{lexemes_valid}
use Rattle.pdw_ast.proofs.SpacedPieces.{spaced-lexes, spaced-utf8}

-- `;` ends a statement
semicolon_is : is_sign Semicolon (Sign Semicolon) ≡ Some tt
unfolding same_sign
semicolon_is = refl

-- a script of one statement
alone : (g : Parentheses) (w : List Lexeme) (x : Statement) → statement g w x → script g (w ++ Sign Semicolon ∷ []) (x ∷ [])
alone g w x text =
    subst (λ (all : List Lexeme). script g all (x ∷ [])) (append-nil (w ++ Sign Semicolon ∷ []))
    (more (w ++ Sign Semicolon ∷ []) [] (both w (Sign Semicolon ∷ []) text (both (Sign Semicolon ∷ []) [] (one (Sign Semicolon) semicolon_is) empty)) none)

-- the canonical spelling of what a text means is a script of it alone
pub canonical_means : (x : Statement) → IsWritten x → MeansAlone (canonical x) x
canonical_means x written =
    let spelled = statement_spelled most_open (map (λ t. t.lexeme) written.tokens) x written.spells (lexemes_valid written.bytes written.tokens written.lexes written.utf8) in
    let lexed = spaced-lexes (spelling x) spelled in
    record {
      tokens = lexed.tokens;
      utf8 = spaced-utf8 (spelling x) spelled;
      lexes = lexed.lexes;
      spells = subst (λ (says : List Lexeme). script (parentheses most_open) says (x ∷ [])) (sym lexed.say)
          (alone (parentheses most_open) (sayings (spelling x)) x (statement_means most_open (map (λ t. t.lexeme) written.tokens) x written.spells));
    }
