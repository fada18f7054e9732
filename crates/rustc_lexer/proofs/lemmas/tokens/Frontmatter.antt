-- A frontmatter opens, or the text has another token there.
use Rattle.std.proofs.Common.{◌≡◌, ℕ, ◌==◌, true, false, List, [], ◌∷◌, drop, refl, sym, ◌∙◌, arith}
use Rattle.std.specs.{List.{starts_with}, Str.{chars, IsUtf8}}
use Rattle.std.proofs.lemmas.{Bool.{eqb-true}, Grind.{common_steps}}
use Rattle.unicode_ident.proofs.Computing.{unicode_ident}
use Rattle.rustc_lexer.specs.{Edition, Token, Minus, Whitespace, Classes.{is_whitespace}, FrontmatterGrammar.{fence}}
use Rattle.rustc_lexer.specs.{Tables.{emoji_ranges, is_emoji}, declared.lexemes.family.Family.TheVariants.{Symbol}}
use Rattle.rustc_lexer.specs.model.{Edition.{first_token_in}, Frontmatter.{is_dash, opens, spaces_len}}
use Rattle.rustc_lexer.specs.model.{Lexeme.{first_token, past_first, read_by}, Scan.{begins, bytes_of, past}}
use Rattle.rustc_lexer.specs.laws.{Choice.{by_either}, Frontmatter.{opens-other}, LanguageClosing.{begins-encode}}
use Rattle.rustc_lexer.specs.laws.{LanguageRuns.{chooses, chooses-space}, Past.{past-drop}}
use Rattle.rustc_lexer.proofs.lemmas.tokens.{Editions.{older}, Search.{starts-begins}}

chooses-dash : past_first 45 ≡ read_by Symbol 45
unfolding unicode_ident is_emoji emoji_ranges
chooses-dash = chooses 45 Symbol refl

opens-none : (s : List ℕ) → begins (fence 3) (drop (spaces_len s) s) ≡ false → opens s ≡ false
opens-none s none = rw none refl

module _ (edition : Edition) (text : List ℕ) (is : IsUtf8 text) where
  token-space : (c : ℕ) (s : List ℕ) → chars text ≡ c ∷ s → is_whitespace c ≡ true → first_token_in edition text ≡
      record { kind = Whitespace; len = bytes_of (spaces_len (chars text)) (chars text) }
  unfolding first_token
  token-space c s e w = grind (arith, common_steps, chooses-space, older)

  token-dash : (s : List ℕ) → chars text ≡ 45 ∷ s → first_token_in edition text ≡
      record { kind = Minus; len = bytes_of 1 (chars text) }
  unfolding first_token
  token-dash s e = grind (arith, common_steps, chooses-dash, older)

  -- Comparing three dashes in bytes gives the same result as in characters.
  dashes : (n : ℕ) → starts_with (λ x y. x == y) (drop (bytes_of n (chars text)) text) (fence 3) ≡
      begins (fence 3) (drop n (chars text))
  unfolding past
  dashes n =
      grind (
        arith,
        common_steps,
        starts-begins,
        past-drop n text is,
        begins-encode (fence 3) (drop n (chars text)) refl,
      )

  by_first : (cs : List ℕ) (token : Token) → chars text ≡ cs → token ≡ first_token_in edition text
      → (token.kind ≡ Whitespace → starts_with (λ x y. x == y) (drop token.len text) (fence 3) ≡ false)
      → (token.kind ≡ Minus → starts_with (λ x y. x == y) text (fence 3) ≡ false) → opens cs ≡ false
  by_first [] token e is_first no_space no_dash = refl
  by_first (c ∷ s) token e is_first no_space no_dash = by_either (is_whitespace c)
      (λ w.
      let at : token ≡ record { kind = Whitespace; len = bytes_of (spaces_len (chars text)) (chars text) } =
      is_first ∙ token-space c s e w in
      let none = rw (at, dashes) at (no_space (rw at refl)) in
      opens-none (c ∷ s) (rw e at none))
      (λ w. by_either (is_dash c)
      (λ d.
      let at : chars text ≡ 45 ∷ s = cc (eqb-true c 45 d) in
      let none = no_dash (rw (is_first, token-dash s at) refl) in
      opens-none (c ∷ s) (rw w (rw e at (sym (dashes 0) ∙ none))))
      (λ d. opens-other (c ∷ s) (rw (d, w) refl)))

  pub opens_not : (token : Token) → token ≡ first_token_in edition text
      → (token.kind ≡ Whitespace → starts_with (λ x y. x == y) (drop token.len text) (fence 3) ≡ false)
      → (token.kind ≡ Minus → starts_with (λ x y. x == y) text (fence 3) ≡ false) → opens (chars text) ≡ false
  opens_not token is_first no_space no_dash = by_first (chars text) token refl is_first no_space no_dash
