-- A new sheet takes the standing texts: it opens on ends that are still good, its one office pays into one account, and the pairs of
-- twelve texts stay far below the largest allowance. Assumes nothing.
use Rattle.std.proofs.Common.{◌≡◌, ℕ, ◌+◌, ◌*◌, ◌<◌, ◌≤◌, Bool, true, ltb, leb, List, [], ◌∷◌, ◌++◌, length, is_ok, Ok, sum_by, Equal, sym, refl, ap, ◌∙◌, subst, subst₂, append_assoc, append-nil, arith}
use Rattle.std.specs.List.{AllByRecursion}
use Rattle.std.proofs.lemmas.List.{length_push, map_push}
use Rattle.std.proofs.ByRecursion.{All-push}
use Rattle.std.proofs.lemmas.Bool.{and_parts, and_from, or_right, leb-true, le-leb, lt-ltb}
use Rattle.interval.specs.declared.variable.Variable.{Variable}
use Rattle.interval.specs.declared.reason.Reason.TheVariants.{AllowanceOutOfRange, AllowancePassed}
use Rattle.interval.specs.Reason.{and_then, require}
use Rattle.interval.specs.Kind.{KindMeaning}
use Rattle.table.specs.Order.{by_number}
use Rattle.table.specs.Table.{by_rank}
use Rattle.table.proofs.Ascents.{same_rank}
use Rattle.polynomial.specs.Method.{MethodMeaning}
use Rattle.taylor.specs.Product.{Worked}
use Rattle.taylor.proofs.Results.{require_yes}
use Rattle.formula.specs.Work.{fault, ground, work}
use Rattle.sheet.specs.declared.account.Account.{Account}
use Rattle.sheet.specs.Box.{box_of}
use Rattle.sheet.specs.State.{Line, line, State, texts, workeds, refusal, at_line, Outcome, outcome, settled, account, charged, has_account, can_charge, affordable, known_office, enough_records, from_to}
use Rattle.sheet.specs.Opening.{Opening, opening, largest_allowance, opened, open_sheet}
use Rattle.sheet.specs.Posting.{with_line, text_fits, line_for}
use Rattle.sheet.specs.Turn.{Post, Posted, Answer, told, step, run, answers}
use Rattle.sheet.specs.Standing.{Standing}
use Rattle.sheet.specs.Promise.{postings, TakenAlike, SameAsNew}
use Rattle.sheet.proofs.Following.{Follow}
use Rattle.sheet.proofs.Ends.{good_tested}
use Rattle.sheet.proofs.Invariant.{Invariant}
use Rattle.formula.proofs.TermCounts.{Few}
use Rattle.formula.proofs.PairCounts.{work-few}

-- ---- the account of one office
abbrev Own : ℕ → List Account → Type 0
Own o [] = Unit {0}
Own o (a ∷ []) = a.office ≡ o
Own o (a ∷ (b ∷ more)) = ⊥

own_charged : (o n : ℕ) (accounts : List Account) → Own o accounts →
    Own o (charged accounts o n) × (sum_by (λ a. a.pairs) (charged accounts o n) ≡ sum_by (λ a. a.pairs) accounts + n)
own_charged o n [] w = (refl, refl)
own_charged o n (a ∷ []) w =
    let joined = account a.office (a.pairs + n) in
    let e : charged (a ∷ []) o n ≡ joined ∷ [] = ap (λ r. by_rank r (a ∷ (account o n ∷ [])) (joined ∷ []) (account o n ∷ (a ∷ []))) (subst (λ (x : ℕ). by_number.rank a.office x ≡ Equal) w (same_rank by_number a.office)) in
    (subst (Own o) (sym e) w, ap (sum_by (λ (x : Account). x.pairs)) e ∙ omega arith)
own_charged o n (a ∷ (b ∷ more)) w = absurd w

own_can_charge : (s : State) (o : ℕ) → Own o s.accounts → can_charge s o ≡ true
own_can_charge s o w = or_right (has_account s.accounts o) (ltb (length s.accounts) 8) (lt-ltb (length s.accounts) 8 (short s.accounts w))
  where
    short : (accounts : List Account) → Own o accounts → length accounts < 8
    short [] w = omega arith
    short (a ∷ []) w = omega arith
    short (a ∷ (b ∷ more)) w = absurd w

-- ---- postings, one after the other
module _ (k : KindMeaning) (m : MethodMeaning) (office records : ℕ) (known : known_office office ≡ true) (enough : enough_records records ≡ true) where
  -- the new sheet so far: one account, which holds little
  record Ready (s : State) : Type 0 where
    own : Own office s.accounts
    rich : s.allowance ≡ largest_allowance
    cheap : sum_by (λ a. a.pairs) s.accounts ≤ length s.lines * 2856000
    few : AllByRecursion (λ w. Few w.model) (workeds s.lines)

  -- a text of at most 255 bytes makes at most so many pairs
  pairs_bound : (s : State) (text : List ℕ) (w : Worked) → Ready s → text_fits text ≡ true → work k m (ground s.order s.box (workeds s.lines)) text ≡ Ok w → Few w.model × (w.pairs ≤ 2856000)
  pairs_bound s text w R f e =
      let (a, b) = and_parts (leb 1 (length text)) (leb (length text) 255) f in
      let short = leb-true (length text) 255 b in
      let (c, d) = work-few k m (ground s.order s.box (workeds s.lines)) text R.few e in
      (c, omega arith)

  accepts : (s : State) (text : List ℕ) (w : Worked) → Ready s → length s.lines < 12 → text_fits text ≡ true → work k m (ground s.order s.box (workeds s.lines)) text ≡ Ok w →
      line_for k m s office records text ≡ Ok (line office text w)
  unfolding line_for
  accepts s text w R l f e =
      let p = (pairs_bound s text w R f e).1 in
      let c = R.cheap in
      let r = R.rich in
      require_yes (known_office office) _ _ known
      ∙ require_yes (ltb (length s.lines) 12) _ _ (lt-ltb (length s.lines) 12 l)
      ∙ require_yes (enough_records records) _ _ enough
      ∙ require_yes (text_fits text) _ _ f
      ∙ require_yes (can_charge s office) _ _ (own_can_charge s office R.own)
      ∙ ap (λ r. and_then r (λ v. require (affordable s v.pairs) (fault AllowancePassed 0) (Ok (line office text v)))) e
      ∙ require_yes (affordable s w.pairs) (fault AllowancePassed 0) _ (le-leb (w.pairs + sum_by (λ a. a.pairs) s.accounts) s.allowance (omega arith))

  -- the sheet with the line is ready again
  ready : (s : State) (text : List ℕ) (w : Worked) → Ready s → text_fits text ≡ true → work k m (ground s.order s.box (workeds s.lines)) text ≡ Ok w → Ready (with_line s (line office text w))
  ready s text w R f e =
      let (c, p) = pairs_bound s text w R f e in
      let (o, t) = own_charged office w.pairs s.accounts R.own in
      let h = R.cheap in
      record {
        own = o;
        rich = R.rich;
        cheap = omega (arith, length_push s.lines (line office text w));
        few = rw (map_push (λ (l : Line). l.worked) s.lines (line office text w)) (All-push (λ (x : Worked). Few x.model) (workeds s.lines) w R.few c);
      }

  -- every posting is accepted, and the lines come to be those that follow
  takes_all : (s : State) (ls : List Line) → Ready s → length s.lines + length ls ≤ 12 → AllByRecursion (λ t. text_fits t ≡ true) (texts ls) →
      Follow k m s.order s.box (workeds s.lines) ls →
      AllByRecursion (λ a. is_ok a ≡ true) (answers k m s (postings office records (texts ls))) × (workeds (run k m s (postings office records (texts ls))).lines ≡ workeds s.lines ++ workeds ls)
  unfolding run answers
  takes_all s [] R n f F = (tt, sym (append-nil (workeds s.lines)))
  takes_all s (l ∷ ls) R n f F =
      let here = line office l.text l.worked in
      let new = with_line s here in
      let pushed = map_push (λ (x : Line). x.worked) s.lines here in
      let stepped : step k m s (Post office records l.text) ≡ outcome new (Ok (Posted (length s.lines) l.worked.pairs l.worked.clean)) =
      ap (λ r. told (λ (a : ℕ × ℕ × Bool). Posted a.0 a.1 a.2) (settled s (and_then (at_line (length s.lines) r) (λ x. Ok (with_line s x, (length s.lines, x.worked.pairs, x.worked.clean))))))
      (accepts s l.text l.worked R (omega arith) f.0 F.0) in
      let (a, b) = takes_all new ls (ready s l.text l.worked R f.0 F.0) (omega (arith, length_push s.lines here)) f.1
      (subst (λ below. Follow k m s.order s.box below ls) (sym pushed) F.1) in
      subst (λ (o : Outcome Answer). ((is_ok o.answer ≡ true) × AllByRecursion (λ x. is_ok x ≡ true) (answers k m o.state (postings office records (texts ls))))
      × (workeds (run k m o.state (postings office records (texts ls))).lines ≡ workeds s.lines ++ workeds (l ∷ ls)))
      (sym stepped) ((refl, a), b ∙ ap (λ ws. ws ++ workeds ls) pushed ∙ append_assoc (workeds s.lines) (l.worked ∷ []) (workeds ls))

-- ---- the new sheet
module _ (k : KindMeaning) (m : MethodMeaning) (given : Opening) (what : Standing) (s : State) (I : Invariant k m given what s) where
  abbrev fresh : Opening
  fresh = opening given.order what.ends largest_allowance

  fresh-opens : open_sheet k fresh ≡ Ok (opened k fresh)
  unfolding open_sheet
  fresh-opens =
      require_yes (from_to 1 8 given.order) _ _ I.orders
      ∙ require_yes (from_to 1 6 (length what.ends)) _ _ I.variables
      ∙ require_yes (from_to 1 largest_allowance largest_allowance) (refusal AllowanceOutOfRange 0 0) _ refl
      ∙ ap (λ r. and_then r (λ _. Ok (opened k fresh))) (good_tested k.scale 0 what.ends I.good)

  -- its lines follow from its order and box, which are those of the sheet
  fresh_follow : Follow k m given.order (box_of k what.ends) [] s.lines
  fresh_follow = subst₂ (λ (n : ℕ) (box : List Variable). Follow k m n box [] s.lines) I.order I.box I.follow

  pub same_as_new : SameAsNew k m given.order what s
  same_as_new = record {
    new = opened k fresh;
    opens = fresh-opens;
    takes = λ office records low high enough.
        let known = and_from (leb 1 office) (leb office 255) (le-leb 1 office low) (le-leb office 255 high) in
        let few = I.few in
        let ready : Ready k m office records known (le-leb 21 records enough) (opened k fresh) = record { own = tt; rich = refl; cheap = omega arith; few = tt } in
        let (a, b) = takes_all k m office records known (le-leb 21 records enough) (opened k fresh) s.lines ready (omega arith)
        (subst (AllByRecursion (λ t. text_fits t ≡ true)) (sym I.same-texts) I.proper) fresh_follow in
        subst (λ ts. TakenAlike k m (opened k fresh) (postings office records ts) s) I.same-texts (record { accepted = a; alike = b });
  }
