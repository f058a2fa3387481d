-- A whole text that was written is read back, token by token: what is read so far stands before the rest.
-- Assumes nothing.
use Rattle.std.proofs.Common.{◌≡◌, ℕ, ◌+◌, ◌<◌, List, [], ◌∷◌, ◌++◌, length, Ok, sym, refl, ap, ◌∙◌, ap₂, arith, length-append}
use Rattle.std.specs.List.{AllByRecursion}
use Rattle.std.proofs.lemmas.List.{append_assoc}
use Rattle.formula.specs.declared.token.Token.{Token}
use Rattle.formula.specs.declared.token.Token.TheVariants.{Constant, Variable, Line, Power, Add, Subtract, Multiply}
use Rattle.formula.specs.Token.{item, items_at, read_tokens}
use Rattle.formula.specs.Written.{written, written_all, Held, laid, ReadsBack}
use Rattle.formula.proofs.Items.{items_end, items_read}
use Rattle.formula.proofs.ReadsBack.{reads}

-- a token takes a byte or more
some_bytes : (x : Token) → 0 < length (written x)
some_bytes (Constant x) = omega arith
some_bytes (Variable v) = omega arith
some_bytes (Line n) = omega arith
some_bytes (Power e) = omega arith
some_bytes Add = omega arith
some_bytes Subtract = omega arith
some_bytes Multiply = omega arith

-- what is left of the text gives the tokens that are left
rest : (before : List ℕ) (ts : List Token) → AllByRecursion Held ts → items_at (before ++ written_all ts) (length before) ≡ laid (length before) ts
rest before [] h = items_end (before ++ []) (length (before ++ [])) (length before) (omega (arith, length-append before []))
rest before (x ∷ ts) h =
    let more = written_all ts in
    let text = before ++ (written x ++ more) in
    let inside : length before < length text = omega (arith, some_bytes x, length-append (written x) more, length-append before (written x ++ more)) in
    items_read text (length before) inside (reads before more x h.0)
    ∙ ap (◌∷◌ (item (length before) (Ok x)))
    (ap₂ items_at (sym (append_assoc before (written x) more)) (sym (length-append before (written x)))
    ∙ rest (before ++ written x) ts h.1
    ∙ ap (λ (i : ℕ). laid i ts) (length-append before (written x)))

read_laid : (i : ℕ) (ts : List Token) → read_tokens (laid i ts) ≡ ts
read_laid i [] = refl
read_laid i (x ∷ ts) = ap (◌∷◌ x) (read_laid (i + length (written x)) ts)

pub reads_back : ReadsBack
reads_back ts h = (rest [] ts h, ap read_tokens (rest [] ts h) ∙ read_laid 0 ts)
