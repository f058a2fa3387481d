-- A text that is cut at the first place of a byte: what stands before it lacks the byte, and what stands after it is cut in turn.
use Rattle.std.proofs.Common.{◌≡◌, ℕ, suc, ◌<◌, Bool, true, false, cond, eqb, List, [], ◌∷◌, ◌++◌, length, get_or, take, drop, Some, None, Option, sym, refl, ap, ◌∙◌, subst, arith, length-drop, take-append-drop, Bor, ne_eqb, MatchOption}
use Rattle.std.specs.declared.str.Split.{Split}
use Rattle.std.specs.Str.Pattern.{FindsChar, HasCharAt}
use Rattle.std.specs.Str.Iter.{split_text, split_has_more, split_pattern, split_steps}
use Rattle.std.proofs.lemmas.Str.Pattern.{NoCharPasses-char, drop_at_char}
use Rattle.batch.specs.Words.{Text, uncommented, onto, pieces}

-- the byte c is not in bs
abbrev pub Lacks : ℕ → Text → Type 0
Lacks c bs = (k : ℕ) → k < length bs → get_or bs k 0 ≡ c → ⊥

pub head_lacks : (c b : ℕ) (bs : Text) → Lacks c (b ∷ bs) → eqb b c ≡ false
head_lacks c b bs h = ne_eqb b c (h 0 (omega arith))

pub tail_lacks : (c b : ℕ) (bs : Text) → Lacks c (b ∷ bs) → Lacks c bs
tail_lacks c b bs h k l e = h (suc k) (omega arith) e

pub uncommented_none : (bs : Text) → Lacks 35 bs → uncommented bs ≡ bs
uncommented_none [] h = refl
uncommented_none (b ∷ bs) h = rw (head_lacks 35 b bs h) (ap (λ t. b ∷ t) (uncommented_none bs (tail_lacks 35 b bs h)))

pub uncommented-at : (x m : Text) → Lacks 35 x → uncommented (x ++ (35 ∷ m)) ≡ x
uncommented-at [] m h = refl
uncommented-at (b ∷ x) m h = rw (head_lacks 35 b x h) (ap (λ t. b ∷ t) (uncommented-at x m (tail_lacks 35 b x h)))

pub pieces_none : (bs : Text) → Lacks 32 bs → pieces bs ≡ bs ∷ []
pieces_none [] h = refl
pieces_none (b ∷ bs) h = rw (head_lacks 32 b bs h) (ap (onto b) (pieces_none bs (tail_lacks 32 b bs h)))

pub pieces-at : (x m : Text) → Lacks 32 x → pieces (x ++ (32 ∷ m)) ≡ x ∷ pieces m
pieces-at [] m h = refl
pieces-at (b ∷ x) m h = rw (head_lacks 32 b x h) (ap (onto b) (pieces-at x m (tail_lacks 32 b x h)))

-- the pieces that a split at the blank has still to give
abbrev pub left : Split ℕ → List Text
left s = cond (split_has_more s) (pieces (split_text s)) []

abbrev pub Steps : Split ℕ → Option (Bor Text) → Split ℕ → Type 0
Steps s r t = split_steps (λ c w o. FindsChar c w o) (λ c d. d ≡ c) s r t

-- o is where the first c stands in w: what follows w's cut there
abbrev Cut : Text → Text → Bool → Text → Option (ℕ × ℕ) → Type 0
Cut w x live rest o = MatchOption o ((x ≡ w) × (live ≡ false)) (λ q. 0 < q.1 → (x ≡ take q.0 w) × (live ≡ true) × (rest ≡ drop q.1 w))

pub split_at : (c : ℕ) (w : Text) (i j : ℕ) → HasCharAt c w i j → c < 128 → w ≡ take i w ++ (c ∷ drop j w)
split_at c w i j at low = sym (take-append-drop i w) ∙ ap (λ t. take i w ++ t) (drop_at_char c w i j at low)

cut-pieces : (w x : Text) (live : Bool) (rest : Text) (o : Option (ℕ × ℕ)) → FindsChar 32 w o → Cut w x live rest o → pieces w ≡ x ∷ cond live (pieces rest) []
cut-pieces w x live rest None f e = pieces_none w (λ k. NoCharPasses-char 32 w k f (omega arith)) ∙ rw (e.0, e.1)
cut-pieces w x live rest (Some q) f g =
    let at : drop q.0 w ≡ 32 ∷ drop q.1 w = drop_at_char 32 w q.0 q.1 f.1 (omega arith) in
    let e = g (omega (arith, ap length at, length-drop q.0 w, length-drop q.1 w)) in
    ap pieces (split_at 32 w q.0 q.1 f.1 (omega arith))
    ∙ pieces-at (take q.0 w) (drop q.1 w) (λ k. NoCharPasses-char 32 (take q.0 w) k f.0 (omega arith))
    ∙ rw (e.0, e.1, e.2)

-- a piece comes: it was the first of what was left
pub left_some : (s t : Split ℕ) (x : Bor Text) → split_pattern s ≡ 32 → Steps s (Some x) t → (left s ≡ x.now ∷ left t) × (split_pattern t ≡ 32)
left_some s t x e h =
    let p = h.1.1.1 in
    let f : FindsChar 32 (split_text s) p.0 = subst (λ c. FindsChar c (split_text s) p.0) e p.1 in
    (rw (← h.0) (cut-pieces (split_text s) x.now (split_has_more t) (split_text t) p.0 f p.2), h.1.0 ∙ e)
