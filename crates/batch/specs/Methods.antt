-- Ranging methods spelled in words. Assumes nothing.
use Rattle.std.specs.Prelude.{ℕ, ◌+◌, ◌-◌, cond, List, [], ◌∷◌, Some, None, codes, Option, ◌==◌}
use Rattle.std.specs.Str.{bytes_eq}
use Rattle.polynomial.specs.Method.{MethodMeaning}
use Rattle.ranging.specs.NamedMethods.{plain_method, quadratic_method, meet_method}
use Rattle.batch.specs.declared.method.MethodChoice.{MethodChoice}
use Rattle.batch.specs.declared.method.MethodChoice.TheVariants.{Plain, Quadratic, Both}
use Rattle.batch.specs.declared.method.Scan.{Scan}
use Rattle.batch.specs.Words.{Text, Token}

-- what a choice means
abbrev pub chosen_method : MethodChoice → MethodMeaning
chosen_method Plain = plain_method
chosen_method Quadratic = quadratic_method
chosen_method Both = meet_method plain_method quadratic_method

-- words that spell a choice
abbrev pub method_text : MethodChoice → Text
method_text Plain = codes "plain"
method_text Quadratic = codes "quadratic"
method_text Both = codes "meet plain quadratic"

-- the leaves of two trees of meets together
abbrev pub both : MethodChoice → MethodChoice → MethodChoice
both Plain Plain = Plain
both Plain Quadratic = Both
both Plain Both = Both
both Quadratic Plain = Both
both Quadratic Quadratic = Quadratic
both Quadratic Both = Both
both Both Plain = Both
both Both Quadratic = Both
both Both Both = Both

-- the leaves so far, if there are any, with more
abbrev pub joined : Option MethodChoice → MethodChoice → MethodChoice
joined None m = m
joined (Some l) m = both l m

abbrev pub scan : ℕ → Option MethodChoice → Scan
scan n leaves = record { wanted = n; leaves = leaves }

-- a leaf is one of the methods that are wanted
abbrev pub with_leaf : Scan → MethodChoice → Scan
with_leaf s m = scan (s.wanted - 1) (Some (joined s.leaves m))

-- one more word; a meet wants two methods for one
unfoldable pub advanced : Scan → Text → Option Scan
advanced s w =
    cond (s.wanted == 0) None
    (cond (bytes_eq w (codes "plain")) (Some (with_leaf s Plain))
    (cond (bytes_eq w (codes "quadratic")) (Some (with_leaf s Quadratic))
    (cond (bytes_eq w (codes "meet")) (Some (scan (s.wanted + 1) s.leaves)) None)))

-- the method, where no more is wanted
abbrev pub finished : Scan → Option MethodChoice
finished s = cond (s.wanted == 0) s.leaves None

-- reads words in prefix order
abbrev pub scanned : Option Scan → List Token → Option MethodChoice
scanned None ws = None
scanned (Some s) [] = finished s
scanned (Some s) (w ∷ ws) = scanned (advanced s w.text) ws

-- the method that the words spell
unfoldable pub spelled_by : List Token → Option MethodChoice
spelled_by ws = scanned (Some (scan 1 None)) ws
