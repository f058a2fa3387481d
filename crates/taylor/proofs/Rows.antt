-- Pairs that come row by row: what is left of them brings the tally to the same end. Assumes nothing.
use Rattle.std.proofs.Common.{◌≡◌, ℕ, ◌+◌, ◌*◌, ◌<◌, ◌≤◌, Bool, true, false, leb, List, [], ◌∷◌, length, get_or, drop, ◌≤ℤ◌, Ok, Err, sym, refl, ap, ◌∙◌, subst, mul-le-mul_right, add-mul, add-one-le, arith}
use Rattle.std.proofs.lemmas.List.{at_drop_more, at_drop_all}
use Rattle.std.proofs.lemmas.List.Sums.{fold-append}
use Rattle.std.proofs.lemmas.Bool.{leb-false, le-leb, lt-leb}
use Rattle.interval.specs.declared.reason.Reason.{Reason}
use Rattle.interval.specs.declared.reason.Reason.TheVariants.{TooManyMonomials}
use Rattle.interval.specs.Kind.{KindMeaning}
use Rattle.interval.specs.Reason.{require}
use Rattle.polynomial.specs.declared.term.Term.{Term}
use Rattle.polynomial.proofs.Coefficients.{unread}
use Rattle.taylor.specs.declared.tally.TallyRecord.{TallyRecord}
use Rattle.taylor.specs.Model.{unpacked}
use Rattle.taylor.specs.Product.{pair, row, pairs}
use Rattle.taylor.specs.Gathering.{Tally, held, tallied, tally, roomy, tally_of, Took}
use Rattle.taylor.proofs.Counting.{one_grows}
use Rattle.taylor.proofs.Results.{not_refused, require_yes}
use Rattle.taylor.proofs.Sizes.{scale-above, times-order}

module _ (k : KindMeaning) (order : ℕ) where
  -- no monomial goes
  pub tally_grows : (y : Tally) (ts : List Term) → length y.model.terms ≤ length (tally k order y ts).model.terms
  tally_grows y [] = omega arith
  tally_grows y (t ∷ ts) = omega (arith, one_grows k order y.model (held t), tally_grows (tallied k order y t) ts)

  -- so a refusal on the way is one at the end
  pub refused_early : (y G : Tally) (rest : List Term) (e : Reason) → Err e ≡ roomy y.model → tally k order y rest ≡ G → Err e ≡ roomy G.model
  refused_early y G rest e h q = go (leb (length y.model.terms) 40) refl h
    where
      go : (b : Bool) → leb (length y.model.terms) 40 ≡ b → Err e ≡ require {A = Unit {0}} b TooManyMonomials (Ok tt) → Err e ≡ roomy G.model
      go true s r = absurd (not_refused r)
      go false s r =
          let more : 40 < length G.model.terms = rw (← q) (omega (arith, leb-false (length y.model.terms) 40 s, tally_grows y rest)) in
          r ∙ rw (lt-leb (length G.model.terms) 40 more) refl

  pub took_all : (Y Z : TallyRecord) (ts : List Term) → tally_of Z ≡ tally k order (tally_of Y) ts → length (unpacked Z.model).terms ≤ 40 → Took k order Y ts (Ok tt) Z
  took_all Y Z ts e most =
      let n = length (tally k order (tally_of Y) ts).model.terms in
      let few : n ≤ 40 = subst (λ y. length y.model.terms ≤ 40) e most in
      record { value = sym (require_yes (leb n 40) TooManyMonomials (Ok tt) (le-leb n 40 few)); after = e }

  pub took_none : (Y Z : TallyRecord) (ts : List Term) (e : Reason) → Err e ≡ roomy (tally k order (tally_of Y) ts).model → Took k order Y ts (Err e) Z
  took_none Y Z ts e h = record { value = h; after = tt }

  abbrev S : ℕ
  S = k.scale

  -- how many pairs came
  row_counted : (p : Term) (qs : List Term) (y : Tally) → (tally k order y (row S p qs)).pairs ≡ y.pairs + length qs
  row_counted p [] y = omega arith
  row_counted p (q ∷ qs) y = row_counted p qs (tallied k order y (pair S p q)) ∙ omega arith

  -- ---- one row: the pair t of p and the term at place i
  module _ (p : Term) (qs : List Term) (i : ℕ) where
    pub row_all : length qs ≤ i → (y : Tally) → tally k order y (row S p (drop i qs)) ≡ y
    row_all h y = at_drop_all (λ us. tally k order y (row S p us)) qs i h

    module _ (h : i < length qs) (t : Term) (is : t ≡ pair S p (get_or qs i unread)) where
      pub pair_ends : t.coefficient.lower ≤ℤ t.coefficient.upper
      pair_ends = rw is (times-order S (scale-above k) p.coefficient (get_or qs i unread).coefficient)

      row_more : (y : Tally) → tally k order (tallied k order y t) (row S p (drop (i + 1) qs)) ≡ tally k order y (row S p (drop i qs))
      row_more y = rw is (sym (at_drop_more (λ us. tally k order y (row S p us)) qs i unread h))

      pub row-refused : (y G : Tally) (e : Reason) → Err e ≡ roomy (tallied k order y t).model → tally k order y (row S p (drop i qs)) ≡ G → Err e ≡ roomy G.model
      row-refused y G e r q = refused_early (tallied k order y t) G (row S p (drop (i + 1) qs)) e r (row_more y ∙ q)

  -- ---- all rows: that of the term at place i
  module _ (ps qs : List Term) (i : ℕ) where
    pub rows_all : length ps ≤ i → (y : Tally) → tally k order y (pairs S (drop i ps) qs) ≡ y
    unfolding pairs
    rows_all h y = at_drop_all (λ us. tally k order y (pairs S us qs)) ps i h

    module _ (h : i < length ps) where
      rows_more : (y : Tally) → tally k order (tally k order y (row S (get_or ps i unread) qs)) (pairs S (drop (i + 1) ps) qs) ≡ tally k order y (pairs S (drop i ps) qs)
      unfolding pairs
      rows_more y = sym (at_drop_more (λ us. tally k order y (pairs S us qs)) ps i unread h ∙ fold-append (tallied k order) y (row S (get_or ps i unread) qs) (pairs S (drop (i + 1) ps) qs))

      pub rows_refused : (y G : Tally) (e : Reason) → Err e ≡ roomy (tally k order y (row S (get_or ps i unread) qs)).model → tally k order y (pairs S (drop i ps) qs) ≡ G → Err e ≡ roomy G.model
      rows_refused y G e r q = refused_early (tally k order y (row S (get_or ps i unread) qs)) G (pairs S (drop (i + 1) ps) qs) e r (rows_more y ∙ q)

      pub rows_again : (n : ℕ) (y z G : Tally) → z ≡ tally k order y (row S (get_or ps i unread) qs) → y.pairs ≡ n + i * length qs → tally k order y (pairs S (drop i ps) qs) ≡ G
          → (z.pairs ≡ n + (i + 1) * length qs) × (tally k order z (pairs S (drop (i + 1) ps) qs) ≡ G)
      rows_again n y z G e c q =
          let count = ap (λ u. u.pairs) e ∙ row_counted (get_or ps i unread) qs y in
          (count ∙ omega (arith, add-mul i 1 (length qs)), ap (λ u. tally k order u (pairs S (drop (i + 1) ps) qs)) e ∙ rows_more y ∙ q)

      -- there is room for one row more
      pub rows_few : (n : ℕ) (y : Tally) → n + length ps * length qs ≤ 1600 → y.pairs ≡ n + i * length qs → y.pairs + length qs ≤ 1600
      rows_few n y most c = omega (arith, add-mul i 1 (length qs), mul-le-mul_right (length qs) (add-one-le h))
