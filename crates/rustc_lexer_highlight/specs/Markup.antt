-- The markup around tokens: HTML tags, or escape sequences of a terminal.
use Rattle.std.specs.Prelude.{ℕ, List, [], ◌∷◌, ◌++◌, codes}
use Rattle.rustc_lexer_highlight.specs.declared.class.Class.{Class}
use Rattle.rustc_lexer_highlight.specs.declared.class.Class.TheVariants.{Plain, Comment, Doc, Keyword, TypeName, Text}
use Rattle.rustc_lexer_highlight.specs.declared.class.Class.TheVariants.{Escape, Number}
use Rattle.rustc_lexer_highlight.specs.declared.class.Class.TheVariants.{Lifetime}
use Rattle.rustc_lexer_errors.specs.declared.errors.TokenError.{TokenError}
use Rattle.rustc_lexer_highlight.specs.declared.format.Format.{Format}
use Rattle.rustc_lexer_highlight.specs.declared.format.Format.TheVariants.{Html, Colours, NoColours, Raw}
use Rattle.rustc_lexer_errors.specs.TokenError.{message}

-- Returns the escape sequence that sets these attributes of the text on a terminal (SGR).
abbrev pub sgr : List ℕ → List ℕ
sgr attributes = 27 ∷ codes "[" ++ (attributes ++ codes "m")

-- Returns the opening markup of a class. Whitespace, symbols and plain names have none.
abbrev pub class_open : Format → Class → List ℕ
class_open format Plain = []
class_open Html Comment = codes "<span class=\"comment\">"
class_open Html Doc = codes "<span class=\"doc\">"
class_open Html Keyword = codes "<span class=\"keyword\">"
class_open Html TypeName = codes "<span class=\"type\">"
class_open Html Text = codes "<span class=\"text\">"
class_open Html Escape = codes "<span class=\"escape\">"
class_open Html Number = codes "<span class=\"number\">"
class_open Html Lifetime = codes "<span class=\"lifetime\">"
class_open Colours Comment = sgr (codes "90")
class_open Colours Doc = sgr (codes "36")
class_open Colours Keyword = sgr (codes "35")
class_open Colours TypeName = sgr (codes "1;34")
class_open Colours Text = sgr (codes "32")
class_open Colours Escape = sgr (codes "96")
class_open Colours Number = sgr (codes "36")
class_open Colours Lifetime = sgr (codes "33")
class_open NoColours class = []
class_open Raw class = []

abbrev pub class_close : Format → Class → List ℕ
class_close format Plain = []
class_close Html class = codes "</span>"
class_close Colours class = sgr (codes "0")
class_close NoColours class = []
class_close Raw class = []

-- Returns the opening markup of an error, before the first line of the token. In HTML it contains the message.
abbrev pub error_open : Format → TokenError → List ℕ
error_open Html error = codes "<mark title=\"" ++ (message error ++ codes "\">")
error_open Colours error = sgr (codes "4;31")
error_open NoColours error = []
error_open Raw error = []

-- Returns the message in brackets, which separate it from the code.
abbrev pub bracketed : TokenError → List ℕ
bracketed error = codes " [<- " ++ (message error ++ codes "]")

-- Returns the closing markup of an error, after the first line of the token. In all formats but HTML it contains the
-- message.
abbrev pub error_close : Format → TokenError → List ℕ
error_close Html error = codes "</mark>"
error_close Colours error = sgr (codes "0;31") ++ (bracketed error ++ sgr (codes "0"))
error_close NoColours error = bracketed error
error_close Raw error = bracketed error
