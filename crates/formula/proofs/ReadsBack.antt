-- What is written of tokens is read back: each byte stands where the reader looks, and eight bytes are their pattern's digits.
-- Assumes nothing.
use Rattle.std.proofs.Common.{◌≡◌, ℕ, suc, ◌+◌, ◌-◌, ◌*◌, ◌/◌, ◌%◌, ◌<◌, Bool, T, List, [], ◌∷◌, ◌++◌, length, Ok, sym, refl, ap, ◌∙◌, add-zero, arith, length-append}
use lib.Ieee.{Float, binary64, to_bits, fits}
use lib.Ieee.Bits.{of_bits-to_bits, to_bits-lt}
use Rattle.std.proofs.lemmas.List.{get_or-append-add}
use Rattle.std.proofs.lemmas.Bool.{le-leb}
use Rattle.interval.specs.declared.reason.Reason.TheVariants.{TextEnds}
use Rattle.interval.specs.Reason.{require}
use Rattle.formula.specs.declared.token.Token.{Token}
use Rattle.formula.specs.declared.token.Token.TheVariants.{Constant, Variable, Line, Power, Add, Subtract, Multiply}
use Rattle.formula.specs.Token.{byte, real, taking, tagged, token_at}
use Rattle.formula.specs.Written.{eight_bytes, written, Held}
use Rattle.formula.proofs.Items.{by_tag}

-- the digits of a pattern to the base 256 add up to it
digits : (w : ℕ) → w < 18446744073709551616
    → w % 256 + w / 256 % 256 * 256 + w / 65536 % 256 * 65536 + w / 16777216 % 256 * 16777216 + w / 4294967296 % 256 * 4294967296
    + w / 1099511627776 % 256 * 1099511627776 + w / 281474976710656 % 256 * 281474976710656 + w / 72057594037927936 % 256 * 72057594037927936 ≡ w
digits w h = omega arith

-- bytes `ws`, the first of them a tag, between others
module _ (before after : List ℕ) (tag : ℕ) (ws : List ℕ) where
  abbrev text : List ℕ
  text = before ++ ((tag ∷ ws) ++ after)

  abbrev start : ℕ
  start = length before

  first : byte text start ≡ tag
  first = ap (byte text) (sym (add-zero start)) ∙ get_or-append-add before ((tag ∷ ws) ++ after) 0 0

  -- the byte at k after the tag
  next : (k : ℕ) → byte text (start + 1 + k) ≡ byte (ws ++ after) k
  next k =
      let e : start + 1 + k ≡ start + suc k = omega arith in
      ap (byte text) e ∙ get_or-append-add before ((tag ∷ ws) ++ after) (suc k) 0

  long : length text ≡ start + (suc (length ws) + length after)
  long = length-append before ((tag ∷ ws) ++ after) ∙ ap (◌+◌ start) (length-append (tag ∷ ws) after)

  -- the reader goes by the tag
  at_tag : token_at text start ≡ tagged text start tag
  at_tag = by_tag text start (omega (arith, long)) ∙ ap (tagged text start) first

  -- and finds all bytes of the token
  taken : (x : Token) (n : ℕ) → n ≡ suc (length ws) → taking n text start x ≡ Ok (x, start + n)
  taken x n e = ap (λ (b : Bool). require b TextEnds (Ok (x, start + n))) (le-leb n (length text - start) (omega (arith, long)))

-- one token, by its case
module _ (before after : List ℕ) where
  -- a tag alone
  bare : (tag : ℕ) (x : Token) → ((t : List ℕ) (i : ℕ) → tagged t i tag ≡ taking 1 t i x)
      → token_at (before ++ ((tag ∷ []) ++ after)) (length before) ≡ Ok (x, length before + 1)
  bare tag x is = at_tag before after tag [] ∙ is (text before after tag []) (length before) ∙ taken before after tag [] x 1 refl

  -- a tag and one byte
  numbered : (tag : ℕ) (make : ℕ → Token) (n : ℕ) → ((t : List ℕ) (i : ℕ) → tagged t i tag ≡ taking 2 t i (make (byte t (i + 1))))
      → token_at (before ++ ((tag ∷ n ∷ []) ++ after)) (length before) ≡ Ok (make n, length before + 2)
  numbered tag make n is =
      let T = text before after tag (n ∷ []) in
      let i = length before in
      at_tag before after tag (n ∷ [])
      ∙ is T i
      ∙ taken before after tag (n ∷ []) (make (byte T (i + 1))) 2 refl
      ∙ ap (λ (b : ℕ). Ok (make b, i + 2)) (ap (byte T) (sym (add-zero (i + 1))) ∙ next before after tag (n ∷ []) 0)

  -- the tag c and eight bytes
  eight : (x : Float) → T (fits binary64 x)
      → token_at (before ++ ((99 ∷ eight_bytes (to_bits binary64 x)) ++ after)) (length before) ≡ Ok (Constant x, length before + 9)
  eight x h =
      let w = to_bits binary64 x in
      let ws = eight_bytes w in
      let t = text before after 99 ws in
      let i = length before in
      let b0 : byte t (i + 1) ≡ w % 256 = ap (byte t) (sym (add-zero (i + 1))) ∙ next before after 99 ws 0 in
      let b1 = next before after 99 ws 1 in
      let b2 = next before after 99 ws 2 in
      let b3 = next before after 99 ws 3 in
      let b4 = next before after 99 ws 4 in
      let b5 = next before after 99 ws 5 in
      let b6 = next before after 99 ws 6 in
      let b7 = next before after 99 ws 7 in
      let d = digits w (to_bits-lt binary64 x h) in
      let o = of_bits-to_bits binary64 x h in
      let r : real t (i + 1) ≡ x = cc in
      at_tag before after 99 ws ∙ taken before after 99 ws (Constant (real t (i + 1))) 9 refl ∙ ap (λ (y : Float). Ok (Constant y, i + 9)) r

  -- a token that was written is read, and the place after it found
  pub reads : (x : Token) → Held x → token_at (before ++ (written x ++ after)) (length before) ≡ Ok (x, length before + length (written x))
  reads (Constant x) h = eight x h
  reads (Variable v) h = numbered 118 Variable v (λ t i. refl)
  reads (Line n) h = numbered 108 Line n (λ t i. refl)
  reads (Power e) h = numbered 94 Power e (λ t i. refl)
  reads Add h = bare 43 Add (λ t i. refl)
  reads Subtract h = bare 45 Subtract (λ t i. refl)
  reads Multiply h = bare 42 Multiply (λ t i. refl)
