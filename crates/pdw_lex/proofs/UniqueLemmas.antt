-- Bytes fall into pieces in one way up to their end or first fault.
use Rattle.std.proofs.Common.{◌≡◌, ℕ, List, [], ◌∷◌, ◌++◌, ◌⊎◌, inl, inr, length, take, drop, refl, ap, sym, ◌∙◌, subst, append_assoc}
use Rattle.std.specs.Str.{IsUtf8, IsValidUpTo}
use Rattle.std.proofs.lemmas.List.{append-nil}
use Rattle.std.proofs.lemmas.Str.{utf8_valid_len-IsValidUpTo}
use Rattle.std.proofs.Math.Seq.{take-length, take-append_seam, drop-append_seam}
use Rattle.pdw_lex.specs.Fault.{FaultsAfter, IsFault}
use Rattle.pdw_lex.specs.Lexes.{ArePieces, Lexes, Piece, joined, tokens_of}
use Rattle.pdw_lex.specs.declared.lex_error.LexError.{LexError}
use Rattle.pdw_lex.specs.declared.lex_error.LexError.TheVariants.{NotUtf8, BadChar, OpenText, BigNumber, LongText, Memory}
use Rattle.pdw_lex.specs.declared.token.Token.{Token}
use Rattle.pdw_lex.proofs.Reader.{Step, next, next_fault, next_none, next_piece, stuck, took}

took_same : (p q : Piece) (s : Step) → s ≡ took p.said (length p.spelling) → s ≡ took q.said (length q.spelling) → (p.said ≡ q.said) × (length p.spelling ≡ length q.spelling)
took_same p q s e f = let both : took p.said (length p.spelling) ≡ took q.said (length q.spelling) = sym e ∙ f in (cc both, cc both)

took_stuck : (p : Piece) (s : Step) (e : LexError) → s ≡ took p.said (length p.spelling) → s ≡ stuck e → ⊥
took_stuck p s e t f = let both : took p.said (length p.spelling) ≡ stuck e = sym t ∙ f in cc both

-- pieces that make the same bytes up to where the reader stops are the same
pub same_pieces : (ps qs : List Piece) (r s : List ℕ) (a b : ℕ) (e f : LexError) → next a r ≡ stuck e → next b s ≡ stuck f → ArePieces ps r → ArePieces qs s → joined ps ++ r ≡ joined qs ++ s → (ps ≡ qs) × (r ≡ s)
same_pieces [] [] r s a b e f stop other are those same = (refl, same)
same_pieces [] (q ∷ qs) r s a b e f stop other are those same =
    absurd (took_stuck q (next a r) e (ap (next a) (same ∙ append_assoc q.spelling (joined qs) s) ∙ next_piece a q.said q.spelling (joined qs ++ s) those.0) stop)
same_pieces (p ∷ ps) [] r s a b e f stop other are those same =
    absurd (took_stuck p (next b s) f (ap (next b) (sym same ∙ append_assoc p.spelling (joined ps) r) ∙ next_piece b p.said p.spelling (joined ps ++ r) are.0) other)
same_pieces (p ∷ ps) (q ∷ qs) r s a b e f stop other are those same =
    let whole : p.spelling ++ (joined ps ++ r) ≡ q.spelling ++ (joined qs ++ s) = sym (append_assoc p.spelling (joined ps) r) ∙ same ∙ append_assoc q.spelling (joined qs) s in
    let first = took_same p q (next a (p.spelling ++ (joined ps ++ r))) (next_piece a p.said p.spelling (joined ps ++ r) are.0) (ap (next a) whole ∙ next_piece a q.said q.spelling (joined qs ++ s) those.0) in
    let spelling : p.spelling ≡ q.spelling =
    sym (take-append_seam p.spelling (joined ps ++ r)) ∙ ap (λ n. take n (p.spelling ++ (joined ps ++ r))) first.1 ∙ ap (take (length q.spelling)) whole ∙ take-append_seam q.spelling (joined qs ++ s) in
    let rest : joined ps ++ r ≡ joined qs ++ s =
    sym (drop-append_seam p.spelling (joined ps ++ r)) ∙ ap (λ n. drop n (p.spelling ++ (joined ps ++ r))) first.1 ∙ ap (drop (length q.spelling)) whole ∙ drop-append_seam q.spelling (joined qs ++ s) in
    let more = same_pieces ps qs r s a b e f stop other are.1 those.1 rest in
    let piece : p ≡ q = λ i. record { spelling = spelling i; said = first.0 i } in
    (λ i. piece i ∷ more.0 i, more.1)

pub tokens-unique : (at : ℕ) (bytes : List ℕ) (some others : List Token) → Lexes at bytes some → Lexes at bytes others → some ≡ others
tokens-unique at bytes some others lexes those =
    let same = same_pieces lexes.pieces those.pieces [] [] at at Memory Memory (next_none at) (next_none at) lexes.are those.are (append-nil _ ∙ sym lexes.spelled ∙ those.spelled ∙ sym (append-nil _)) in
    lexes.tokens_are ∙ ap (tokens_of at) same.0 ∙ sym those.tokens_are

seen : (bytes : List ℕ) (e : LexError) → IsFault bytes e → (e ≡ Memory) ⊎ (((at : ℕ) × (e ≡ NotUtf8 at) × IsValidUpTo bytes at) ⊎ FaultsAfter e bytes)
seen bytes (NotUtf8 at) fault = inr (inl (at, refl, fault))
seen bytes (BadChar at) fault = inr (inr fault)
seen bytes (OpenText at) fault = inr (inr fault)
seen bytes (BigNumber at) fault = inr (inr fault)
seen bytes (LongText at) fault = inr (inr fault)
seen bytes Memory fault = inl refl

no_utf8 : (bytes : List ℕ) (at : ℕ) → IsValidUpTo bytes at → IsUtf8 bytes → ⊥
no_utf8 bytes at fault utf8 = fault.longest (length bytes) fault.short (subst IsUtf8 (sym (take-length bytes)) utf8)

ended : (e : LexError) (bytes : List ℕ) (tokens : List Token) → FaultsAfter e bytes → Lexes 0 bytes tokens → (e ≡ Memory) ⊎ (next (length (joined [])) [] ≡ stuck e) → e ≡ Memory
ended e bytes tokens fault lexes (inl memory) = memory
ended e bytes tokens fault lexes (inr stop) = let both : stuck e ≡ stuck Memory = sym stop ∙ next_none _ in cc both

fault_none : (e : LexError) (bytes : List ℕ) (tokens : List Token) → FaultsAfter e bytes → Lexes 0 bytes tokens → (e ≡ Memory) ⊎ (next (length (joined [])) [] ≡ stuck e)
fault_none e bytes tokens fault lexes = by (next_fault e (length (joined fault.pieces)) fault.rest fault.fault)
  where
    by : (e ≡ Memory) ⊎ (next (length (joined fault.pieces)) fault.rest ≡ stuck e) → (e ≡ Memory) ⊎ (next (length (joined [])) [] ≡ stuck e)
    by (inl memory) = inl memory
    by (inr stop) =
        let same = same_pieces fault.pieces lexes.pieces fault.rest [] (length (joined fault.pieces)) 0 e Memory stop (next_none 0) fault.before lexes.are (sym fault.spelled ∙ lexes.spelled ∙ sym (append-nil _)) in
        let stop_end : next (length (joined fault.pieces)) [] ≡ stuck e = ap (next (length (joined fault.pieces))) (sym same.1) ∙ stop in
        inr (next_none _ ∙ sym (next_none _) ∙ stop_end)

pub tokens-faultless : (bytes : List ℕ) (tokens : List Token) (e : LexError) → IsUtf8 bytes → Lexes 0 bytes tokens → IsFault bytes e → e ≡ Memory
tokens-faultless bytes tokens e utf8 lexes fault = by (seen bytes e fault)
  where
    by : (e ≡ Memory) ⊎ (((at : ℕ) × (e ≡ NotUtf8 at) × IsValidUpTo bytes at) ⊎ FaultsAfter e bytes) → e ≡ Memory
    by (inl memory) = memory
    by (inr (inl (at, is, wrong))) = absurd (no_utf8 bytes at wrong utf8)
    by (inr (inr after)) = ended e bytes tokens after lexes (fault_none e bytes tokens after lexes)

stuck_same : (e f : LexError) → stuck e ≡ stuck f → e ≡ f
stuck_same e f both = cc both

after_same : (e f : LexError) (bytes : List ℕ) → FaultsAfter e bytes → FaultsAfter f bytes → ¬ (e ≡ Memory) → ¬ (f ≡ Memory) → e ≡ f
after_same e f bytes one other some others = by (next_fault e (length (joined one.pieces)) one.rest one.fault) (next_fault f (length (joined other.pieces)) other.rest other.fault)
  where
    by : (e ≡ Memory) ⊎ (next (length (joined one.pieces)) one.rest ≡ stuck e) → (f ≡ Memory) ⊎ (next (length (joined other.pieces)) other.rest ≡ stuck f) → e ≡ f
    by (inl memory) stop = absurd (some memory)
    by (inr stop) (inl memory) = absurd (others memory)
    by (inr stop) (inr end) =
        let same = same_pieces one.pieces other.pieces one.rest other.rest (length (joined one.pieces)) (length (joined other.pieces)) e f stop end one.before other.before (sym one.spelled ∙ other.spelled) in
        stuck_same e f (sym stop ∙ ap (λ ps. next (length (joined ps)) one.rest) same.0 ∙ ap (next (length (joined other.pieces))) same.1 ∙ end)

pub fault-unique : (bytes : List ℕ) (e f : LexError) → IsFault bytes e → IsFault bytes f → ¬ (e ≡ Memory) → ¬ (f ≡ Memory) → e ≡ f
fault-unique bytes e f one other some others = by (seen bytes e one) (seen bytes f other)
  where
    by : (e ≡ Memory) ⊎ (((at : ℕ) × (e ≡ NotUtf8 at) × IsValidUpTo bytes at) ⊎ FaultsAfter e bytes) → (f ≡ Memory) ⊎ (((at : ℕ) × (f ≡ NotUtf8 at) × IsValidUpTo bytes at) ⊎ FaultsAfter f bytes) → e ≡ f
    by (inl memory) seen_other = absurd (some memory)
    by (inr seen_one) (inl memory) = absurd (others memory)
    by (inr (inl (at, is, wrong))) (inr (inl (place, is_too, wrong_too))) = is ∙ ap NotUtf8 (sym (utf8_valid_len-IsValidUpTo bytes at wrong) ∙ utf8_valid_len-IsValidUpTo bytes place wrong_too) ∙ sym is_too
    by (inr (inl (at, is, wrong))) (inr (inr after)) = absurd (no_utf8 bytes at wrong after.utf8)
    by (inr (inr after)) (inr (inl (at, is, wrong))) = absurd (no_utf8 bytes at wrong after.utf8)
    by (inr (inr after)) (inr (inr those)) = after_same e f bytes after those some others
