-- What stands after FROM means what it means as it is spelled.
use Rattle.std.proofs.Common.{◌≡◌, ℕ, List, [], ◌∷◌, map, Option, Some, None, refl, sym, ◌∙◌, ap, append-nil}
use Rattle.pdw_lex.specs.declared.keyword.Keyword.TheVariants as k
use Rattle.pdw_lex.specs.declared.token.Lexeme.{Lexeme}
use Rattle.pdw_syntax.specs.Rule.{◌>>=◌, ◌>>◌, pure, empty, One, first, second, Maybe, absent}
use Rattle.pdw_syntax.specs.Lexemes as lexemes
use Rattle.pdw_syntax.specs.Parentheses.{Parentheses}
use Rattle.pdw_syntax.specs.Tables as rule
use Rattle.pdw_ast.specs.Written as written
use Rattle.pdw_ast.specs.Spelling as spelling
use Rattle.pdw_ast.specs.Spelling.{Spelling}
use Rattle.pdw_syntax.specs.declared.query.JoinWord.{JoinWord}
use Rattle.pdw_syntax.specs.declared.query.JoinWord.TheVariants.{Cross, Inner}
use Rattle.pdw_ast.proofs.Reprint.{Printed, Reprints, spelled_as, and_then, and_last, and_nothing, and_text, always, if_any, printed_empty, printed_then, printed_first, printed_second, printed_present, reprints_maybe, reprints_either, reprints_made, reprints_many, reprints_enclosed}
use Rattle.pdw_ast.proofs.ReprintOne.{at_key, printed_key, name_reprints, outer_reprints}
use Rattle.pdw_ast.proofs.ReprintEquations.{primary, primary_named, primary_derived, primary_paren, join, join_none, join_some, table_reference, table_roll}
use Rattle.pdw_ast.proofs.ReprintExprs.{ParenthesesReprint, reprints_listed}
use Rattle.pdw_ast.proofs.ReprintConds.{cond_reprint}

-- left out, whatever was written
pub printed_none : {A : Type 0} {R : List Lexeme → A → Type 0} (w : List Lexeme) → Printed (Maybe R) [] w None
printed_none w = record { means = absent; spelled = λ all. tt }

-- AS is always written
pub called_reprints : Reprints rule.called (λ n. written.key k.KwAs ∷ written.name n ∷ [])
called_reprints = spelled_as (always (λ w. printed_present (printed_key k.KwAs)) (and_text name_reprints (λ n. refl)))

pub alias_spelled : (alias : Option (List ℕ)) → if_any (λ n. written.key k.KwAs ∷ written.name n ∷ []) alias ≡ spelling.alias alias
alias_spelled None = refl
alias_spelled (Some n) = refl

inner_reprints : Reprints (lexemes.key k.KwInner >> pure Inner) (λ word. spelling.join_word word ∷ [])
inner_reprints = spelled_as (at_key k.KwInner (and_nothing refl))

-- OUTER is never written
side_reprints : Reprints (One lexemes.outer_of >>= (λ side. Maybe (lexemes.key k.KwOuter) >> pure side)) (λ word. spelling.join_word word ∷ [])
side_reprints = spelled_as (and_then outer_reprints (λ side. always printed_none (and_nothing refl)))

-- INNER is always written
join_word_reprints : Reprints rule.join_word (λ word. spelling.join_word word ∷ [])
join_word_reprints = record { from = go }
  where
    go : (w : List Lexeme) (word : JoinWord) → rule.join_word w word → Printed rule.join_word (spelling.join_word word ∷ []) w word
    go w word (first inner) = printed_first (inner_reprints.from w word inner)
    go w word (second (first side)) = printed_second (printed_first (side_reprints.from w word side))
    go w word (second (second empty)) = printed_first (printed_then (printed_key {w = []} k.KwInner) printed_empty refl)

module _ (g : Parentheses) (laws : ParenthesesReprint g) where
  primary_reprint : Reprints (rule.primary g) primary
  unfolding rule.primary
  primary_reprint = reprints_either
      (spelled_as (and_then name_reprints (λ table. and_last (reprints_maybe called_reprints) (λ alias. ap (λ parts. written.name table ∷ parts) (alias_spelled alias) ∙ sym (primary_named table alias)))))
      (reprints_either
      (spelled_as (and_then (reprints_enclosed laws.query) (λ q. and_last called_reprints (λ alias. sym (primary_derived q alias)))))
      (reprints_made (reprints_enclosed laws.tables) (λ t. sym (primary_paren t))))

  cross_join_reprint : Reprints (rule.cross_join g) join
  unfolding rule.cross_join
  cross_join_reprint = spelled_as (at_key k.KwCross (at_key k.KwJoin (and_last primary_reprint (λ right.
      ap (λ parts. written.key k.KwCross ∷ written.key k.KwJoin ∷ parts) (sym (append-nil (primary right))) ∙ sym (join_none Cross right)))))

  join_on_reprint : Reprints (rule.join_on g) join
  unfolding rule.join_on
  join_on_reprint = spelled_as (and_then join_word_reprints (λ word. at_key k.KwJoin (and_then primary_reprint (λ right.
      at_key k.KwOn (and_last (cond_reprint g laws) (λ on. sym (join_some word right on)))))))

  join_reprint : Reprints (rule.join g) join
  unfolding rule.join
  join_reprint = reprints_either cross_join_reprint join_on_reprint

  pub table_reference_reprint : Reprints (rule.table_reference g) table_reference
  unfolding rule.table_reference
  table_reference_reprint = spelled_as (and_then primary_reprint (λ x. and_last (reprints_many join_reprint) (λ joins. sym (table_roll x joins))))

  pub tables_reprint : Reprints (rule.tables g) (λ ts. spelling.comma_list (map table_reference ts))
  unfolding rule.tables
  tables_reprint = reprints_listed table_reference_reprint
