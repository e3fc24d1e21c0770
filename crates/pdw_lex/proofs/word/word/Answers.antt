use Rattle.std.proofs.Common.{◌≡◌, ap, sym, ◌∙◌, subst}
use Rattle.std.specs.Str.{IsUtf8}
use Rattle.pdw_lex.specs.Keyword.{keyword_of}
use Rattle.pdw_lex.proofs.PieceLemmas.{key_piece, name_piece, none_from, word_at}
use Rattle.pdw_lex.proofs.Utf8Lemmas.{folded_utf8}
use Rattle.pdw_lex.proofs.word.word.Goals as goal

pub returns-in-Some-clause-piece : goal.returns-in-Some-clause-piece
returns-in-Some-clause-piece c =
    key_piece _ _ _ c.deref.result.now _ _ c.word_length-length.ensures c.requires (c.deref.ensures.value ∙ c.in_ok-folded.ensures.ok) (sym c.keyword_from.ensures ∙ c.in-Some.is) c.token.ensures.lexeme c.token.ensures.length

pub returns-clause-piece : goal.returns-clause-piece
returns-clause-piece c =
    let name_is = c.in_ok-name.ensures.text ∙ c.deref-2.ensures.value in
    let none = none_from c.keyword_from.result c.in_default.not-Some in
    let asked : keyword_of c.in_ok-name.name ≡ c.keyword_from.result = ap keyword_of (name_is ∙ sym c.deref.ensures.value) ∙ sym c.keyword_from.ensures in
    name_piece _ _ _ _ _ c.word_length-length.ensures c.requires (name_is ∙ c.in_ok-folded.ensures.ok) (asked ∙ none) c.token-2.ensures.lexeme c.token-2.ensures.length

pub text_from-requires : goal.text_from-requires
text_from-requires c =
    let word = (word_at c.args.left.now c.word_length-length.result c.word_length-length.ensures c.requires).0 in
    subst IsUtf8 (sym (c.deref-2.ensures.value ∙ c.in_ok-folded.ensures.ok)) (folded_utf8 _ word.bytes)
