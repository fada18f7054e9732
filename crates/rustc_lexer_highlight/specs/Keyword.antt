-- The keywords of each edition, as listed in the chapter Keywords of the Rust Reference.
use Rattle.std.specs.Prelude.{ℕ, Bool, false, ◌||◌, if◌then◌else◌, List, [], ◌∷◌, codes, Option, Some, None}
use Rattle.std.specs.List.{list_any}
use Rattle.std.specs.Str.{bytes_eq}
use Rattle.rustc_lexer.specs.declared.edition.Edition.{Edition}
use Rattle.rustc_lexer.specs.declared.edition.Edition.TheVariants.{E2015, E2018, E2024}
use Rattle.rustc_lexer_highlight.specs.declared.keyword.KeywordKind.{KeywordKind}
use Rattle.rustc_lexer_highlight.specs.declared.keyword.KeywordKind.TheVariants.{Strict, Reserved, Weak}

-- Returns the keywords of a kind that an edition added. The first edition, E2015, added all its keywords.
abbrev pub made : KeywordKind → Edition → List (List ℕ)
made Strict E2015 =
    codes "_" ∷ codes "as" ∷ codes "break" ∷ codes "const" ∷ codes "continue" ∷ codes "crate"
    ∷ codes "else" ∷ codes "enum" ∷ codes "extern" ∷ codes "false" ∷ codes "fn" ∷ codes "for"
    ∷ codes "if" ∷ codes "impl" ∷ codes "in" ∷ codes "let" ∷ codes "loop" ∷ codes "match"
    ∷ codes "mod" ∷ codes "move" ∷ codes "mut" ∷ codes "pub" ∷ codes "ref" ∷ codes "return"
    ∷ codes "self" ∷ codes "Self" ∷ codes "static" ∷ codes "struct" ∷ codes "super"
    ∷ codes "trait" ∷ codes "true" ∷ codes "type" ∷ codes "unsafe" ∷ codes "use" ∷ codes "where"
    ∷ codes "while" ∷ []
made Strict E2018 = codes "async" ∷ codes "await" ∷ codes "dyn" ∷ []
made Reserved E2015 =
    codes "abstract" ∷ codes "become" ∷ codes "box" ∷ codes "do" ∷ codes "final" ∷ codes "macro"
    ∷ codes "override" ∷ codes "priv" ∷ codes "typeof" ∷ codes "unsized" ∷ codes "virtual"
    ∷ codes "yield" ∷ []
made Reserved E2018 = codes "try" ∷ []
made Reserved E2024 = codes "gen" ∷ []
made Weak E2015 =
    codes "'static" ∷ codes "dyn" ∷ codes "macro_rules" ∷ codes "raw" ∷ codes "safe"
    ∷ codes "union" ∷ []
made sort edition = []

abbrev pub is_in : List (List ℕ) → List ℕ → Bool
is_in words word = list_any (λ keyword. bytes_eq keyword word) words

-- Whether this edition, or an earlier one after 2015, added the word as a keyword of the kind. The 2021 edition added
-- none.
abbrev pub is_later : KeywordKind → Edition → List ℕ → Bool
is_later sort E2015 word = false
is_later sort E2024 word = is_in (made sort E2018) word || is_in (made sort E2024) word
is_later sort edition word = is_in (made sort E2018) word

abbrev pub has : KeywordKind → Edition → List ℕ → Bool
has sort edition word = is_in (made sort E2015) word || is_later sort edition word

-- Returns the kind of a keyword, or `None` for any other word. The stricter kind wins if a word has two, as `dyn` has
-- from 2018 on.
abbrev pub keyword_kind : List ℕ → Edition → Option KeywordKind
keyword_kind word edition =
    if has Strict edition word then Some Strict
    else if has Reserved edition word then Some Reserved
    else if is_in (made Weak E2015) word then Some Weak
    else None
