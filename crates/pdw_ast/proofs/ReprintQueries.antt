-- Queries mean what they mean as they are spelled.
use Rattle.std.proofs.Common.{◌≡◌, Bool, true, false, List, [], ◌∷◌, ◌++◌, map, Option, Some, None, option_map, refl, sym, ◌∙◌, ap, if◌then◌else◌}
use Rattle.std.specs.Option.{unwrap_or}
use Rattle.pdw_lex.specs.declared.keyword.Keyword.{Keyword}
use Rattle.pdw_lex.specs.declared.keyword.Keyword.TheVariants as k
use Rattle.pdw_lex.specs.declared.sign.Sign.TheVariants as s
use Rattle.pdw_lex.specs.declared.token.Lexeme.{Lexeme}
use Rattle.pdw_syntax.specs.Rule.{◌>>◌, ◌<$>◌, Empty, empty, One, Then, both, Maybe, present}
use Rattle.pdw_syntax.specs.Lexemes as lexemes
use Rattle.pdw_syntax.specs.Parentheses.{Parentheses}
use Rattle.pdw_syntax.specs.Conds as conds
use Rattle.pdw_syntax.specs.Exprs as exprs
use Rattle.pdw_syntax.specs.Queries as rule
use Rattle.pdw_ast.specs.Written as written
use Rattle.pdw_ast.specs.Spelling as spelling
use Rattle.pdw_ast.specs.Spelling.{Spelling}
use Rattle.pdw_syntax.specs.declared.query.OrderKey.{OrderKey}
use Rattle.pdw_syntax.specs.declared.query.OrderName.{OrderName}
use Rattle.pdw_syntax.specs.declared.query.OrderName.TheVariants as order
use Rattle.pdw_syntax.specs.declared.query.SqlCond.{SqlCond}
use Rattle.pdw_ast.proofs.Reprint.{Printed, Reprints, spelled_as, and_then, and_last, and_nothing, and_text, if_any, printed_then, printed_made, printed_present, reprints_maybe, reprints_either, reprints_made, respelled}
use Rattle.pdw_ast.proofs.ReprintOne.{at_key, at_sign, name_reprints, key_reprints, quantifier_reprints, order_word, order_name_reprints, printed_direction}
use Rattle.pdw_ast.proofs.ReprintEquations.{flat_map_map, cond, query_roll}
use Rattle.pdw_ast.proofs.ReprintExprs.{ParenthesesReprint, reprints_separated, reprints_listed, column_reference_reprints, expr_reprint}
use Rattle.pdw_ast.proofs.ReprintConds.{cond_reprint}
use Rattle.pdw_ast.proofs.ReprintTables.{called_reprints, printed_none, alias_spelled, tables_reprint}

-- a word for true that may be left out, and one for false that is never written
flag_reprints : {R : List Lexeme → Bool → Type 0} {f : Bool → Spelling} → Reprints R f → Reprints ((λ written. unwrap_or written false) <$> Maybe R) (λ flag. if flag then f true else [])
flag_reprints {R = R} {f = f} law = record { from = go }
  where
    none : (u : List Lexeme) → Printed (Then (Maybe R) (λ o. Empty (unwrap_or o false))) [] (u ++ []) false
    none u = printed_made {f = λ o. unwrap_or o false} {a = None} (printed_none u)

    ended : (o : Option Bool) (u v : List Lexeme) (flag : Bool) → Maybe R u o → Empty (unwrap_or o false) v flag
        → Printed (Then (Maybe R) (λ o. Empty (unwrap_or o false))) (if flag then f true else []) (u ++ v) flag
    ended None u v flag m empty = none u
    ended (Some false) u v flag m empty = none u
    ended (Some true) u v flag (present r) empty = printed_made {f = λ o. unwrap_or o false} {a = Some true} (printed_present (law.from u true r))

    go : (w : List Lexeme) (flag : Bool) → Then (Maybe R) (λ o. Empty (unwrap_or o false)) w flag → Printed (Then (Maybe R) (λ o. Empty (unwrap_or o false))) (if flag then f true else []) w flag
    go w flag (both {a = o} u v m end) = ended o u v flag m end

distinct_reprints : Reprints rule.distinct (λ once. if once then written.key k.KwDistinct ∷ [] else [])
distinct_reprints = flag_reprints quantifier_reprints

-- a keyword and BY before a list, which is not empty
listed_by : {A : Type 0} {R : List Lexeme → A → Type 0} {f : A → Spelling} {h : List A → Spelling} (keyword : Keyword) → Reprints R f
    → ((x : A) (xs : List A) → written.key keyword ∷ written.key k.KwBy ∷ spelling.comma_list (map f (x ∷ xs)) ≡ h (x ∷ xs))
    → Reprints (lexemes.key keyword >> lexemes.key k.KwBy >> exprs.listed R) h
listed_by {f = f} keyword law is = spelled_as (and_then (spelled_as (at_key keyword (and_text (key_reprints k.KwBy) (λ u. refl)))) (λ u. and_then law (λ x. and_last (reprints_separated law) (λ xs.
    ap (λ parts. written.key keyword ∷ written.key k.KwBy ∷ (f x ++ parts)) (sym (flat_map_map (λ part. written.sign s.Comma ∷ part) f xs)) ∙ is x xs))))

any_spelled : {A : Type 0} (h : List A → Spelling) → [] ≡ h [] → (o : Option (List A)) → if_any h o ≡ h (unwrap_or o [])
any_spelled h none None = none
any_spelled h none (Some xs) = refl

grouping_reprints : Reprints rule.grouping spelling.group_clause
grouping_reprints = reprints_made (reprints_maybe (listed_by k.KwGroup column_reference_reprints (λ c cs. refl))) (any_spelled spelling.group_clause refl)

order_key_spelled : (n : OrderName) (descending : Bool)
    → spelling.order_key (record { name = n; descending = descending }) ≡ order_word n ∷ written.key (if descending then k.KwDesc else k.KwAsc) ∷ []
order_key_spelled (order.Name n) descending = refl
order_key_spelled (order.Position n) descending = refl

-- ASC is always written
order_key_reprints : Reprints rule.order_key spelling.order_key
order_key_reprints = record { from = go }
  where
    ended : (n : OrderName) (o : Option Bool) (u u' v' : List Lexeme) (key : OrderKey) → One lexemes.order_name_of u n → Empty (record { name = n; descending = unwrap_or o false }) v' key
        → Printed rule.order_key (spelling.order_key key) (u ++ (u' ++ v')) key
    ended n o u u' v' key name empty = respelled (order_key_spelled n (unwrap_or o false)) (printed_then (order_name_reprints.from u n name)
        (printed_made {f = λ written. record { name = n; descending = unwrap_or written false }} {a = Some (unwrap_or o false)} {w = u'} (printed_present (printed_direction (unwrap_or o false)))) refl)

    turn : (n : OrderName) (u v : List Lexeme) (key : OrderKey) → One lexemes.order_name_of u n
        → Then (Maybe (One lexemes.direction_of)) (λ written. Empty (record { name = n; descending = unwrap_or written false })) v key → Printed rule.order_key (spelling.order_key key) (u ++ v) key
    turn n u v key name (both {a = o} u' v' m end) = ended n o u u' v' key name end

    go : (w : List Lexeme) (key : OrderKey) → rule.order_key w key → Printed rule.order_key (spelling.order_key key) w key
    go w key (both {a = n} u v name rest) = turn n u v key name rest

ordering_reprints : Reprints rule.ordering spelling.order_clause
ordering_reprints = reprints_made (reprints_maybe (listed_by k.KwOrder order_key_reprints (λ o os. refl))) (any_spelled spelling.order_clause refl)

clause_spelled : (keyword : Keyword) (o : Option SqlCond) → if_any (λ x. written.key keyword ∷ cond x) o ≡ spelling.clause keyword (option_map cond o)
clause_spelled keyword None = refl
clause_spelled keyword (Some x) = refl

module _ (g : Parentheses) (laws : ParenthesesReprint g) where
  clause_reprint : (keyword : Keyword) → Reprints (Maybe (lexemes.key keyword >> conds.cond g)) (λ o. spelling.clause keyword (option_map cond o))
  clause_reprint keyword = spelled_as (and_text (reprints_maybe (spelled_as (at_key keyword (and_text (cond_reprint g laws) (λ x. refl))))) (clause_spelled keyword))

  item_reprint : Reprints (rule.item g) spelling.made_item
  unfolding rule.item
  item_reprint = reprints_either (spelled_as (and_then name_reprints (λ alias. at_sign s.Dot (at_sign s.Star (and_nothing refl)))))
      (spelled_as (and_then (expr_reprint g laws) (λ x. and_last (reprints_maybe called_reprints) (λ output. ap (λ parts. spelling.expr x ++ parts) (alias_spelled output)))))

  items_reprint : Reprints (rule.items g) spelling.selected
  unfolding rule.items
  items_reprint = reprints_either (spelled_as (at_sign s.Star (and_nothing refl))) (reprints_made (reprints_listed item_reprint) (λ parts. refl))

  pub query_reprint : Reprints (rule.query g) spelling.query
  unfolding rule.query
  query_reprint = spelled_as (at_key k.KwSelect (and_then distinct_reprints (λ once. and_then items_reprint (λ parts. at_key k.KwFrom (and_then (tables_reprint g laws) (λ tables.
      and_then (clause_reprint k.KwWhere) (λ filter. and_then grouping_reprints (λ group. and_last (clause_reprint k.KwHaving) (λ having. sym (query_roll once parts tables filter group having))))))))))

  pub select_reprint : Reprints (rule.select g) spelling.select
  unfolding rule.select
  select_reprint = spelled_as (and_then query_reprint (λ q. and_last ordering_reprints (λ order. refl)))
