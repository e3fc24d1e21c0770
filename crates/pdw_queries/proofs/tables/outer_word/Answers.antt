use Rattle.std.proofs.Common.{◌≡◌, ap, sym, ◌∙◌, Bool, List, drop, Option, Some}
use Rattle.pdw_lex.specs.declared.keyword.Keyword.TheVariants.{KwOuter}
use Rattle.pdw_lex.specs.declared.token.Lexeme.{Lexeme}
use Rattle.pdw_syntax.specs.Lexemes.{is_key, outer_of}
use Rattle.pdw_syntax.specs.declared.query.JoinWord.{JoinWord}
use Rattle.pdw_reading.specs.ReadTables.{outer_by}
use Rattle.pdw_reading.specs.Reading.{and_then, eat, meaning_of, pure, read}
use Rattle.pdw_queries.proofs.tables.outer_word.Goals as goal

side_reads : (o : Option JoinWord) (side : JoinWord) (ts after rest : List Lexeme) (outer : Bool) → o ≡ Some side → after ≡ drop 1 ts
    → eat (is_key KwOuter) after ≡ read outer rest → outer_by o ts ≡ read (Some side) rest
side_reads o side ts after rest outer is past reads =
    ap (λ x. outer_by x ts) is
    ∙ ap (λ t. and_then (eat (is_key KwOuter) t) (λ _. pure (Some side))) (sym past)
    ∙ ap (λ out. and_then out (λ _. pure (Some side))) reads

pub returns-in-Some : goal.returns-in-Some
returns-in-Some c =
    side_reads _ c.in-Some.side c.args.tokens.now c.advance.new.self c.eat_key.new.self c.eat_key.result
    (sym (ap (meaning_of outer_of) c.peek.ensures) ∙ (sym c.outer_of.ensures ∙ c.in-Some.is)) c.advance.ensures c.eat_key.ensures
