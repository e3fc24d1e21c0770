use Rattle.std.proofs.Common.{refl, arith, sym, subst}
use Rattle.std.specs.Str.{IsUtf8}
use Rattle.pdw_lex.proofs.QuotedLemmas.{long_text}
use Rattle.pdw_lex.proofs.Utf8Lemmas.{quoted_utf8}
use Rattle.pdw_lex.proofs.quoted.quoted.Goals as goal

pub returns-then-len-gt-MOST_TEXT_BYTES-clause-fault : goal.returns-then-len-gt-MOST_TEXT_BYTES-clause-fault
returns-then-len-gt-MOST_TEXT_BYTES-clause-fault c =
    let found = c.in_ok-bytes.ensures.text in
    (refl, long_text c.args.left.now c.in_ok-bytes.bytes.items c.in_ok-bytes.length found.1 found.2 (omega arith))

pub text_from-requires : goal.text_from-requires
text_from-requires c =
    subst IsUtf8 (sym c.deref.ensures.value) (quoted_utf8 c.args.left.now c.in_ok-bytes.bytes.items c.in_ok-bytes.length c.in_ok-bytes.ensures.text.1 c.requires.utf8)
