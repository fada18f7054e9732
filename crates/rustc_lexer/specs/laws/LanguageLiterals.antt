-- Literals with their suffixes: the scanners read exactly the language.
use Rattle.std.proofs.Common.{◌≡◌, ℕ, suc, ◌+◌, nat_lt, Bool, true, false, List, [], ◌∷◌, ◌++◌, length, take, drop}
use Rattle.std.proofs.Common.{codes, refl, sym, ap, ◌∙◌, subst, arith, append_assoc, length-append, take-append-drop}
use Rattle.std.proofs.Common.{take-add, drop-drop, Option, Result}
use Rattle.std.proofs.{Math.Seq.{take-append_seam, drop-append_seam}, lemmas.Bool.{and_parts, eqb-true, lt-ltb}}
use Rattle.std.proofs.lemmas.{List.{append-nil}, Str.{encodes-append, length-encode}}
use Rattle.std.specs.{Char.{encode_utf8, len_utf8, is_ascii_digit}, Option.{is_some}, Str.{encode_utf8_all}}
use Rattle.std.proofs.lemmas.Grind.{common_steps}
use Rattle.rustc_lexer.specs.declared.lexemes.raw.RawPrefix.{RawPrefix}
use Rattle.rustc_lexer.specs.declared.lexemes.raw.RawPrefix.TheVariants.{R, Br, Cr}
use Rattle.rustc_lexer.specs.{LiteralKind, RawStrError, TokenKind, Byte, Str, ByteStr, CStr, RawStr, RawByteStr}
use Rattle.rustc_lexer.specs.{RawCStr, Literal}
use Rattle.rustc_lexer.specs.Classes.{is_id_start, is_id_continue, begins_ident_after, NextIs, bytes}
use Rattle.rustc_lexer.specs.model.Ident.{begins_hash_ident}
use Rattle.rustc_lexer.specs.laws.Choice.{by_test}
use Rattle.rustc_lexer.specs.laws.Ident.{begins_hash_ident-decided}
use Rattle.rustc_lexer.specs.laws.LanguageQuoted.{double-read, double-sound, single-read, single-sound}
use Rattle.rustc_lexer.specs.laws.LanguageRaw.{raw-read, raw-sound}
use Rattle.rustc_lexer.specs.laws.LanguageRuns.{run_len-here, run-stops, Sound, Read, pair, read-first, sound-after}
use Rattle.rustc_lexer.specs.laws.LanguageRuns.{decided-front, digit-small, letters-start, chooses-word, chooses-number}
use Rattle.rustc_lexer.specs.laws.LanguageRuns.{chooses-str}
use Rattle.rustc_lexer.specs.laws.NumberLongest.{number-read, number-is}
use Rattle.rustc_lexer.specs.laws.Reach.{run_all}
use Rattle.rustc_lexer.specs.Language as the
use Rattle.rustc_lexer.specs.LiteralGrammar as lit
use Rattle.rustc_lexer.specs.LiteralGrammar.{hashes, IsDoubleQuoted, IsSingleQuoted, IsRaw, IsLiteralBefore}
use Rattle.rustc_lexer.specs.LiteralGrammar.{IsSuffixBefore}
use Rattle.rustc_lexer.specs.Language.{IsTokenBefore}
use Rattle.rustc_lexer.specs.model.Lexeme.{opens_raw, word}
use Rattle.rustc_lexer.specs.model.Literal.{Body, suffix_len, suffixed, literal_past, literal}
use Rattle.rustc_lexer.specs.model.Number.{number_kind, number}
use Rattle.rustc_lexer.specs.NumberGrammar.{HasNumberForm, IsNumberBefore}
use Rattle.rustc_lexer.specs.model.Quoted.{double_quoted_string, single_quoted_string, quoted_body, str_body}
use Rattle.rustc_lexer.specs.model.Quoted.{byte_str_body, c_str_body, byte_body}
use Rattle.rustc_lexer.specs.model.Raw.{raw_read, accepted, is_accepted, raw_body, prefix_kind, prefix_len, raw_literal}
use Rattle.rustc_lexer.specs.model.Scan.{after, begins, bytes_of, run_len}

-- ---- bytes

pub bytes-append : (v w : List ℕ) → bytes (v ++ w) ≡ bytes v + bytes w
bytes-append v w = ap length (encodes-append v w) ∙ length-append (encode_utf8_all v) (encode_utf8_all w)

-- A character of one byte adds one byte.
pub bytes-one : (c : ℕ) (w : List ℕ) → len_utf8 c ≡ 1 → bytes (c ∷ w) ≡ 1 + bytes w
bytes-one c w e = omega (arith, length-append (encode_utf8 c) (encode_utf8_all w), length-encode c, e)

bytes-letter : (c : ℕ) → len_utf8 c ≡ 1 → bytes (c ∷ []) ≡ 1
bytes-letter c e = omega (arith, bytes-one c [] e)

bytes-letters : (c d : ℕ) → len_utf8 c ≡ 1 → len_utf8 d ≡ 1 → bytes (c ∷ d ∷ []) ≡ 2
bytes-letters c d e f = omega (arith, bytes-one c (d ∷ []) e, bytes-letter d f)

-- ---- suffixes

pub suffix-sound : (s : List ℕ) → IsSuffixBefore (drop (suffix_len s) s) (take (suffix_len s) s)
suffix-sound [] = lit.none refl
suffix-sound (c ∷ s) =
    by_test (λ (n : ℕ). IsSuffixBefore (drop n (c ∷ s)) (take n (c ∷ s))) (is_id_start c)
    (1 + run_len is_id_continue s) 0 (λ e.
    let n : ℕ = run_len is_id_continue s in
    let more : suc n ≡ 1 + n = omega arith in
    subst (λ (m : ℕ). IsSuffixBefore (drop m (c ∷ s)) (take m (c ∷ s))) more
    (lit.some (rw e (run_all is_id_continue s)) (run-stops is_id_continue s))) (λ e. lit.none e)

pub suffix-read : {next w : List ℕ} → IsSuffixBefore next w → suffix_len (w ++ next) ≡ length w
suffix-read {next} w1 = grind (arith, common_steps, and_parts, run_len-here)

-- ---- a literal and its suffix

-- A literal after a prefix of p bytes is a token, together with its suffix.
pub literal-sound : (front : List ℕ) (p : ℕ) (kind : LiteralKind) (takes : Bool) (m : ℕ) (s : List ℕ) → bytes front ≡ p
    → IsLiteralBefore (drop m s) kind takes (front ++ take m s)
    → IsTokenBefore (drop (m + suffixed takes (drop m s)) s) (Literal kind (p + bytes_of m s))
    (front ++ take (m + suffixed takes (drop m s)) s)
literal-sound front p kind false m s e is =
    let none : m ≡ m + 0 = omega arith in
    let start : bytes (front ++ take m s) ≡ p + bytes_of m s = bytes-append front (take m s)
    ∙ ap (λ (k : ℕ). k + bytes_of m s) e in
    subst (λ (n : ℕ). IsTokenBefore (drop n s) (Literal kind (p + bytes_of m s)) (front ++ take n s)) none
    (subst (λ (k : ℕ). IsTokenBefore (drop m s) (Literal kind k) (front ++ take m s)) start (the.literal is))
literal-sound front p kind true m s e is =
    let k : ℕ = suffix_len (drop m s) in
    let start : bytes (front ++ take m s) ≡ p + bytes_of m s = bytes-append front (take m s)
    ∙ ap (λ (k : ℕ). k + bytes_of m s) e in
    let left : drop k (drop m s) ≡ drop (m + k) s = drop-drop k m s in
    let text : (front ++ take m s) ++ take k (drop m s) ≡ front ++ take (m + k) s =
    append_assoc front (take m s) (take k (drop m s)) ∙ ap (λ (w : List ℕ). front ++ w) (sym (take-add m k s)) in
    let before : IsLiteralBefore (take k (drop m s) ++ drop k (drop m s)) kind true (front ++ take m s) =
    subst (λ (u : List ℕ). IsLiteralBefore u kind true (front ++ take m s)) (sym (take-append-drop k (drop m s)))
    is in
    subst (λ (w : List ℕ). IsTokenBefore (drop (m + k) s) (Literal kind (p + bytes_of m s)) w) text
    (subst (λ (b : ℕ). IsTokenBefore (drop (m + k) s) (Literal kind b) ((front ++ take m s) ++ take k (drop m s))) start
    (subst (λ (u : List ℕ). IsTokenBefore u (Literal kind (bytes (front ++ take m s)))
    ((front ++ take m s) ++ take k (drop m s))) left (the.literal_with before (suffix-sound (drop m s)))))

-- After a prefix of p bytes, the body of a literal and its suffix are read.
pub past-read : (front v rest : List ℕ) (p : ℕ) (kind : LiteralKind) (takes : Bool) (body : Body × ℕ)
    → body ≡ (record { kind = kind; takes_suffix = takes }, length v) → bytes front ≡ p
    → literal_past p body (v ++ rest) ≡ (Literal kind (bytes (front ++ v)), length v + suffixed takes rest)
past-read front v rest p kind takes body e f =
    grind (arith, common_steps, take-append_seam, bytes-append, drop-append_seam)

-- Holds if the scanner reads w as this literal, and the suffix after it.
abbrev pub ReadsLiteral : List ℕ → LiteralKind → Bool → List ℕ → Type 0
ReadsLiteral next kind takes w = Read (Literal kind (bytes w)) (length w + suffixed takes next) (w ++ next)

pub plain-read : (next : List ℕ) (kind : LiteralKind) (w : List ℕ) → ReadsLiteral next kind false w
    → Read (Literal kind (bytes w)) (length w) (w ++ next)
plain-read next kind w e = e ∙ pair _ _ _ _ refl (omega arith)

pub with_suffix-read : (next : List ℕ) (kind : LiteralKind) (w suffix : List ℕ)
    → ReadsLiteral (suffix ++ next) kind true w → IsSuffixBefore next suffix
    → Read (Literal kind (bytes w)) (length (w ++ suffix)) (w ++ suffix ++ next)
with_suffix-read next kind w suffix e is =
    subst (λ (s : List ℕ). Read (Literal kind (bytes w)) (length (w ++ suffix)) s) (sym (append_assoc w suffix next))
    (e ∙ pair _ _ _ _ refl (omega (arith, suffix-read is, length-append w suffix)))

-- ---- strings

pub str-sound : (s : List ℕ) → Sound 34 s (literal str_body s)
str-sound s = literal-sound (34 ∷ []) 1 _ (double_quoted_string s).0 (double_quoted_string s).1 s (bytes-letter 34 refl)
    (lit.str (double-sound s))

lettered-sound : (c d : ℕ) (kind : Bool → LiteralKind) (scan : List ℕ → Bool × ℕ) (s : List ℕ) → len_utf8 c ≡ 1
    → IsLiteralBefore (drop (scan s).1 s) (kind (scan s).0) (scan s).0 (c ∷ d ∷ take (scan s).1 s)
    → Sound c (d ∷ s) (literal (after 1 (quoted_body kind scan)) (d ∷ s))
lettered-sound c d kind scan s one is =
    let m : ℕ = (scan s).1 in
    let more : suc m ≡ 1 + m = omega arith in
    literal-sound (c ∷ []) 1 (kind (scan s).0) (scan s).0 (1 + m) (d ∷ s) (bytes-letter c one)
    (subst (λ (n : ℕ). IsLiteralBefore (drop n (d ∷ s)) (kind (scan s).0) (scan s).0 (c ∷ take n (d ∷ s))) more is)

at-letter : (c d : ℕ) (scan : List ℕ → TokenKind × ℕ) → ((s : List ℕ) → Sound c (d ∷ s) (scan (d ∷ s))) → (s : List ℕ)
    → begins (d ∷ []) s ≡ true → Sound c s (scan s)
at-letter c d scan w3 s w5 = grind (arith, common_steps, eqb-true, and_parts)

pub byte-sound : (s : List ℕ) → begins (codes "'") s ≡ true → Sound 98 s (literal (after 1 byte_body) s)
byte-sound = at-letter 98 39 (literal (after 1 byte_body))
    (λ s. lettered-sound 98 39 Byte single_quoted_string s refl (lit.byte_char (single-sound s)))

pub byte_str-sound : (s : List ℕ) → begins (codes "\"") s ≡ true → Sound 98 s (literal (after 1 byte_str_body) s)
byte_str-sound =
    at-letter 98 34 (literal (after 1 byte_str_body))
    (λ s. lettered-sound 98 34 ByteStr double_quoted_string s refl (lit.byte_str (double-sound s)))

pub c_str-sound : (s : List ℕ) → begins (codes "\"") s ≡ true → Sound 99 s (literal (after 1 c_str_body) s)
c_str-sound = at-letter 99 34 (literal (after 1 c_str_body))
    (λ s. lettered-sound 99 34 CStr double_quoted_string s refl (lit.c_str (double-sound s)))

pub str-reads : (next : List ℕ) (t : Bool) (w : List ℕ) → IsDoubleQuoted next t w → ReadsLiteral next (Str t) t (34 ∷ w)
str-reads next t w q = grind (arith, common_steps, read-first, chooses-str, past-read, double-read, bytes-letter)

lettered-reads : (c d : ℕ) (kind : Bool → LiteralKind) (scan : List ℕ → Bool × ℕ) (next : List ℕ) (t : Bool)
    (w : List ℕ)
    → is_id_start c ≡ true → len_utf8 c ≡ 1
    → word c (d ∷ w ++ next) ≡ literal (after 1 (quoted_body kind scan)) (d ∷ w ++ next)
    → scan (w ++ next) ≡ (t, length w)
    → ReadsLiteral next (kind t) t (c ∷ d ∷ w)
lettered-reads c d kind scan next t w start one is e =
    read-first c (word c) (d ∷ w ++ next) _ _ _ (chooses-word c start)
    (is ∙ past-read (c ∷ []) (d ∷ w) next 1 (kind t) t (after 1 (quoted_body kind scan) (d ∷ w ++ next))
    (ap (λ (r : Bool × ℕ). let b : Body = record { kind = kind r.0; takes_suffix = r.0 } in (b, 1 + r.1)) e
    ∙ pair _ _ _ _ refl (omega arith)) (bytes-letter c one)) (omega arith)

-- ---- raw strings

accepts : (r : Result ℕ RawStrError) → is_accepted r ≡ is_some (accepted r)
accepts r = grind (arith, common_steps)

-- A text up to the end of the input decides by itself whether it starts with a hash and an identifier.
whole-hash_ident : (w next : List ℕ) → next ≡ [] → begins_hash_ident (w ++ next) ≡ begins_hash_ident w
whole-hash_ident w next none = ap (λ (xs : List ℕ). begins_hash_ident (w ++ xs)) none
    ∙ ap begins_hash_ident (append-nil w)

raw-hash_ident : {next : List ℕ} {o : Option ℕ} {w : List ℕ} → IsRaw next o w → begins_hash_ident (w ++ next) ≡
    begins_hash_ident w
raw-hash_ident {next} (lit.closed n w le lacks) =
    decided-front 2 begins_hash_ident begins_hash_ident-decided (hashes n ++ (34 ∷ w ++ 34 ∷ hashes n)) next
    (omega (arith, length-append (hashes n) (34 ∷ w ++ 34 ∷ hashes n), length-append w (34 ∷ hashes n)))
raw-hash_ident {next} (lit.too_many n w le lacks) =
    decided-front 2 begins_hash_ident begins_hash_ident-decided (hashes n ++ (34 ∷ w ++ 34 ∷ hashes n)) next
    (omega (arith, length-append (hashes n) (34 ∷ w ++ 34 ∷ hashes n), length-append w (34 ∷ hashes n)))
raw-hash_ident {next} (lit.unclosed n w none lacks) = whole-hash_ident (hashes n ++ 34 ∷ w) next none
raw-hash_ident {next} (lit.no_quote n c out) =
    decided-front 2 begins_hash_ident begins_hash_ident-decided (hashes (suc n) ++ c ∷ []) next
    (omega (arith, length-append (hashes n) (c ∷ [])))
raw-hash_ident {next} (lit.no_more n none) = whole-hash_ident (hashes (suc n)) next none

abbrev taken : List ℕ → ℕ
taken s = (raw_read 0 s).1

pub raw_str-sound : (s : List ℕ) → NextIs opens_raw s → begins_hash_ident s ≡ false → Sound 114 s (raw_literal R s)
raw_str-sound s opens no_ident =
    let free : begins_ident_after (codes "#") (take (taken s) s) ≡ false =
    sym (raw-hash_ident (raw-sound s opens)) ∙ (ap begins_hash_ident (take-append-drop (taken s) s) ∙ no_ident) in
    literal-sound (114 ∷ []) 1 (RawStr (accepted (raw_read 0 s).0)) (is_accepted (raw_read 0 s).0) (taken s) s
    (bytes-letter 114 refl)
    (subst (λ (b : Bool). IsLiteralBefore (drop (taken s) s) (RawStr (accepted (raw_read 0 s).0)) b
    (114 ∷ take (taken s) s)) (sym (accepts (raw_read 0 s).0)) (lit.raw_str (raw-sound s opens) free))

pub raw_byte_str-sound : (s : List ℕ) → NextIs opens_raw s → Sound 98 (114 ∷ s) (after 1 (raw_literal Br) (114 ∷ s))
raw_byte_str-sound s opens =
    sound-after 98 114 s (raw_literal Br)
    (literal-sound (98 ∷ 114 ∷ []) 2 (RawByteStr (accepted (raw_read 0 s).0)) (is_accepted (raw_read 0 s).0) (taken s) s
    (bytes-letters 98 114 refl refl)
    (subst (λ (b : Bool). IsLiteralBefore (drop (taken s) s) (RawByteStr (accepted (raw_read 0 s).0)) b
    (98 ∷ 114 ∷ take (taken s) s)) (sym (accepts (raw_read 0 s).0)) (lit.raw_byte_str (raw-sound s opens))))

pub raw_c_str-sound : (s : List ℕ) → NextIs opens_raw s → Sound 99 (114 ∷ s) (after 1 (raw_literal Cr) (114 ∷ s))
raw_c_str-sound s opens =
    sound-after 99 114 s (raw_literal Cr)
    (literal-sound (99 ∷ 114 ∷ []) 2 (RawCStr (accepted (raw_read 0 s).0)) (is_accepted (raw_read 0 s).0) (taken s) s
    (bytes-letters 99 114 refl refl)
    (subst (λ (b : Bool). IsLiteralBefore (drop (taken s) s) (RawCStr (accepted (raw_read 0 s).0)) b
    (99 ∷ 114 ∷ take (taken s) s)) (sym (accepts (raw_read 0 s).0)) (lit.raw_c_str (raw-sound s opens))))

-- Hashes before a character that opens a raw string open one as well.
guard-opens : (n c : ℕ) (s : List ℕ) → opens_raw c ≡ true → NextIs opens_raw (hashes n ++ c ∷ s)
guard-opens n c s w3 = grind (arith, common_steps)

raw-opens : {next : List ℕ} {o : Option ℕ} {w : List ℕ} → IsRaw next o w → NextIs opens_raw (w ++ next)
raw-opens {next} w1 = grind (arith, common_steps, append_assoc, guard-opens)

-- The body of a raw literal has the result of reading the raw string.
raw-body : (kind : Option ℕ → LiteralKind) (next : List ℕ) (o : Option ℕ) (w : List ℕ) → IsRaw next o w
    → raw_body kind (w ++ next) ≡ (record { kind = kind o; takes_suffix = is_some o }, length w)
raw-body kind next o w q = grind (arith, common_steps, accepts, raw-read)

pub raw_str-reads : (next : List ℕ) (o : Option ℕ) (w : List ℕ) → IsRaw next o w → begins_ident_after (codes "#") w ≡
    false → ReadsLiteral next (RawStr o) (is_some o) (114 ∷ w)
raw_str-reads next o w q free =
    let no_ident : begins_hash_ident (w ++ next) ≡ false = raw-hash_ident q ∙ free in
    read-first 114 (word 114) (w ++ next) (Literal (RawStr o) (bytes (114 ∷ w))) (length w + suffixed (is_some o) next)
    _ (chooses-word 114 letters-start.0)
    (rw (no_ident, raw-opens q)
    (past-read (114 ∷ []) w next 1 (RawStr o) (is_some o) (raw_body RawStr (w ++ next)) (raw-body RawStr next o w q)
    (bytes-letter 114 refl))) (omega arith)

raw_past-reads : (c : ℕ) (prefix : RawPrefix) (next : List ℕ) (o : Option ℕ) (w : List ℕ) → is_id_start c ≡ true
    → len_utf8 c ≡ 1 → prefix_len prefix ≡ 2 → word c (114 ∷ w ++ next) ≡ after 1 (raw_literal prefix) (114 ∷ w ++ next)
    → IsRaw next o w
    → ReadsLiteral next (prefix_kind prefix o) (is_some o) (c ∷ 114 ∷ w)
raw_past-reads c prefix next o w start one two is q =
    read-first c (word c) (114 ∷ w ++ next) _ _ _ (chooses-word c start)
    (is ∙ ap (λ (r : TokenKind × ℕ). let p : TokenKind × ℕ = (r.0, 1 + r.1) in p)
    (past-read (c ∷ 114 ∷ []) w next (prefix_len prefix) (prefix_kind prefix o) (is_some o)
    (raw_body (prefix_kind prefix) (w ++ next)) (raw-body (prefix_kind prefix) next o w q)
    (bytes-letters c 114 one refl ∙ sym two))) (omega arith)

-- ---- numbers

digit-one : (c : ℕ) → is_ascii_digit c ≡ true → len_utf8 c ≡ 1
digit-one c digit = let small : nat_lt c 0x80 ≡ true = lt-ltb c 128 (digit-small c digit) in rw small refl

pub number-sound : (c : ℕ) → is_ascii_digit c ≡ true → (s : List ℕ) → Sound c s (number c s)
number-sound c digit s =
    literal-sound (c ∷ []) 1 (number_kind c s).0 true (number_kind c s).1 s (bytes-letter c (digit-one c digit))
    (lit.number (number-read c s digit))

-- Holds if the text starts with a digit.
pub record HasDigit (w : List ℕ) : Type 0 where
  pub first : ℕ
  pub rest : List ℕ
  pub whole : w ≡ first ∷ rest
  pub digit : is_ascii_digit first ≡ true

form-digit : {next : List ℕ} {kind : LiteralKind} {w : List ℕ} → HasNumberForm next kind w → HasDigit w
form-digit w0 = grind (arith, common_steps)

pub number-digit : {next : List ℕ} {kind : LiteralKind} {w : List ℕ} → IsNumberBefore next kind w → HasDigit w
number-digit is = form-digit is.form

pub number-reads : (next : List ℕ) (kind : LiteralKind) (w : List ℕ) → IsNumberBefore next kind w
    → ReadsLiteral next kind true w
number-reads next kind w is =
    grind (arith, common_steps, number-digit, read-first, chooses-number, past-read, number-is, bytes-letter, digit-one)

-- ---- all literals except characters

pub byte-reads : {next : List ℕ} (t : Bool) (w : List ℕ) → IsSingleQuoted next t w
    → ReadsLiteral next (Byte t) t (98 ∷ 39 ∷ w)
byte-reads {next} t w q = lettered-reads 98 39 Byte single_quoted_string next t w letters-start.2 refl refl
    (single-read q)

pub byte_str-reads : {next : List ℕ} (t : Bool) (w : List ℕ) → IsDoubleQuoted next t w
    → ReadsLiteral next (ByteStr t) t (98 ∷ 34 ∷ w)
byte_str-reads {next} t w q = lettered-reads 98 34 ByteStr double_quoted_string next t w letters-start.2 refl refl
    (double-read q)

pub c_str-reads : {next : List ℕ} (t : Bool) (w : List ℕ) → IsDoubleQuoted next t w
    → ReadsLiteral next (CStr t) t (99 ∷ 34 ∷ w)
c_str-reads {next} t w q = lettered-reads 99 34 CStr double_quoted_string next t w letters-start.3 refl refl
    (double-read q)

pub raw_byte_str-reads : {next : List ℕ} (o : Option ℕ) (w : List ℕ) → IsRaw next o w
    → ReadsLiteral next (RawByteStr o) (is_some o) (98 ∷ 114 ∷ w)
raw_byte_str-reads {next} o w q = let opens : NextIs opens_raw (w ++ next) = raw-opens q in
    raw_past-reads 98 Br next o w letters-start.2 refl refl (rw opens refl) q

pub raw_c_str-reads : {next : List ℕ} (o : Option ℕ) (w : List ℕ) → IsRaw next o w
    → ReadsLiteral next (RawCStr o) (is_some o) (99 ∷ 114 ∷ w)
raw_c_str-reads {next} o w q = let opens : NextIs opens_raw (w ++ next) = raw-opens q in
    raw_past-reads 99 Cr next o w letters-start.3 refl refl (rw opens refl) q
