-- The text of a highlighted document, and the calls that write it.
use Rattle.std.proofs.Common.{◌≡◌, ℕ, ◌-◌, List, [], ◌∷◌, ◌++◌, length, take, drop, refl, ap}
use Rattle.std.proofs.Common.{◌∙◌, arith, take-add, Option, append-nil}
use Rattle.std.specs.{Fmt.{WritesInCalls}, Prelude.{OnOk, Result}}
use Rattle.std.specs.Str.{IsUtf8}
use Rattle.std.proofs.lemmas.Str.{IsUtf8-drop}
use Rattle.std.proofs.lemmas.{List.Concat.{flat_map-append}, Grind.{common_steps}, Result.{on_ok_weaker}}
use Rattle.rustc_lexer.specs.declared.{edition.Edition.{Edition}, token.Token.{Token}}
use Rattle.rustc_lexer.specs.{Document.{document_tokens, byte_order_mark_len, tokens_start}, State.{State}}
use Rattle.rustc_lexer.specs.Tokens.{bound, Partitions, TakesToken}
use Rattle.rustc_literal_escaper.specs.declared.mode.Mode.{Mode}
use Rattle.rustc_lexer_highlight.specs.declared.class.{Class.{Class, TheVariants.{Comment, Plain}}}
use Rattle.rustc_lexer_errors.specs.declared.errors.TokenError.{TokenError}
use Rattle.rustc_lexer_highlight.specs.declared.{format.{Format.{Format, TheVariants.{Html}}}}
use Rattle.rustc_lexer_highlight.specs.Escape.{unescaped, untagged}
use Rattle.rustc_lexer_highlight.specs.Highlighted.{document_parts, highlighted, marked_tokens, parts, parts_by}
use Rattle.rustc_lexer_highlight.specs.Highlighted.{start_parts, token_parts}
use Rattle.rustc_lexer_highlight.specs.Part.{Own, before_return, own, return_part, with_markup, without_markup}
use Rattle.rustc_lexer_highlight.proofs.{EscapeLemmas.{unescaped_escaped}, LiteralLemmas.{without_literal}}
use Rattle.rustc_lexer_highlight.proofs.PartLemmas.{shows, without_error, without_return, writes_parts}

without_by : (error : Option TokenError) (mode : Option Mode) (class : Class) (text : List ℕ)
    → without_markup (parts_by error mode class text) ≡ text
without_by error mode class text = grind (arith, common_steps, without_error, without_literal, append-nil)

without_token : (error : Option TokenError) (mode : Option Mode) (class : Class) (text next : List ℕ)
    → without_markup (parts_by error mode class (before_return text next) ++ return_part text next) ≡ text
without_token error mode class text next =
    cc (
      flat_map-append own (parts_by error mode class (before_return text next)) (return_part text next),
      without_by error mode class (before_return text next),
      without_return text next,
    )

-- Without markup, the parts are the text of the tokens.
pub without_markup-parts : (edition : Edition) (text : List ℕ) (tokens : List Token)
    → without_markup (parts edition text tokens) ≡ take (bound tokens (length tokens)) text
without_markup-parts edition text [] = refl
without_markup-parts edition text (token ∷ tokens) =
    grind (
      arith,
      common_steps,
      flat_map-append,
      without_token,
      take-add,
      without_markup-parts edition
          (drop token.len text) tokens,
    )

-- Without markup, the parts are the text of the document.
pub document_is : (edition : Edition) (text : List ℕ)
    → Partitions (drop (tokens_start text) text) (document_tokens edition text)
    → without_markup (document_parts edition text) ≡ text
document_is edition text cut = grind (arith, common_steps, without_markup-parts)

-- So a page displays the text of the document.
pub page_is : (edition : Edition) (text : List ℕ) → without_markup (document_parts edition text) ≡ text
    → unescaped (untagged (highlighted Html edition text)) ≡ text
page_is edition text is =
    ap unescaped (shows (document_parts edition text))
    ∙ (unescaped_escaped (without_markup (document_parts edition text)) ∙ is)

-- the text past a token is that of the state past it
pub past_piece : (s t : State) (token : Token) (rest next : List ℕ) → IsUtf8 rest → rest ≡ s.rest
    → TakesToken s token t → next ≡ drop token.len rest → IsUtf8 next × (next ≡ t.rest)
past_piece s t token rest next utf8 place step back = (
  rw back (IsUtf8-drop rest token.len utf8 (rw place step.boundary)),
  cc,
)

-- ---- the calls that write the tokens

module _ {W : Type 0} (took : W → List ℕ → W → Type 0) where
  -- Writing a token and then the rest writes all tokens.
  pub writes_token : (format : Format) (edition : Edition) (w0 w1 w : W) (text rest : List ℕ)
      (left others : List Token) (token : Token) → left ≡ token ∷ others → rest ≡ drop token.len text
      → WritesInCalls took w0
      (with_markup format (token_parts edition token.kind (take token.len text) (drop token.len text))) w1
      → WritesInCalls took w1 (marked_tokens format edition rest others) w
      → WritesInCalls took w0 (marked_tokens format edition text left) w
  writes_token format edition w0 w1 w text rest left others token first past wrote more =
      grind (arith, common_steps, writes_parts)

  -- Writing the byte order mark and then the shebang line writes the text before the first token.
  pub writes_start : {T E : Type 0} (r : Result T E) (format : Format) (text mark line : List ℕ) (n : ℕ) (w v u : W)
      → n ≡ byte_order_mark_len text → mark ≡ take (n - 0) text → line ≡ drop n text
      → WritesInCalls took w (with_markup format (Own Plain mark ∷ [])) v
      → OnOk r (WritesInCalls took v (with_markup format (Own Comment line ∷ [])) u)
      → OnOk r (WritesInCalls took w (with_markup format (start_parts text)) u)
  writes_start r format text mark line n w v u is front past before after =
      let all : n - 0 ≡ n = omega arith in
      let is_mark : mark ≡ take n text = rw all at front in
      on_ok_weaker r (λ wrote. rw (← is, ← is_mark, ← past)
      (writes_parts took format (Own Plain mark ∷ []) (Own Comment line ∷ []) w v u before wrote)) after

  -- Writing the text before the first token and then the tokens writes the document.
  pub writes_past : (format : Format) (edition : Edition) (w0 w u : W) (text : List ℕ)
      → WritesInCalls took w0 (with_markup format (start_parts (take (tokens_start text) text))) w
      → WritesInCalls took w
      (marked_tokens format edition (drop (tokens_start text) text) (document_tokens edition text)) u
      → WritesInCalls took w0 (highlighted format edition text) u
  writes_past format edition w0 w u text before more =
      writes_parts took format (start_parts (take (tokens_start text) text))
      (parts edition (drop (tokens_start text) text) (document_tokens edition text)) w0 w u before more
