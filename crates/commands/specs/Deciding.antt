-- Matching as a function, for definitions that must answer: `matched` and `allows` say exactly what `Matches` and `Allows` say. Assumes nothing.
use Rattle.std.specs.Prelude.{◌≡◌, refl, ◌⊎◌, ◌↔◌, Bool, true, false, ◌||◌, List, [], ◌∷◌, ◌++◌, ℕ, eqb, Ok, Err}
use Rattle.std.proofs.Common.{sym, ap, ap₂, subst, ◌∙◌, inl, inr, ⊎_elim, arith, eqb-true, eq-eqb}
use Rattle.scpi.specs.Bytes.{colon_sign, caseless}
use Rattle.scpi.specs.Grammar.{Word, short, long, Row, Row.r_none, Row.r_word, Row.r_bracket, mark, Tree, Tree.t_path, Tree.t_star, source, GoodPattern, Checked}
use Rattle.commands.specs.Spelling.{SpellsWord, SpellsWord.in_short, SpellsWord.in_long, SpellsRow, SpellsRow.s_none, SpellsRow.s_word, SpellsRow.s_kept}
use Rattle.commands.specs.Spelling.{SpellsRow.s_dropped, SpellsTree, SpellsTree.s_path, Matches}
use Rattle.scpi.specs.Answers.{untrue}
use Rattle.commands.specs.Whole.{star_in, star_out}
use Rattle.scpi.specs.Verdicts.{Verdict, verdict_of, good_not_bad}
use Rattle.scpi.proofs.Verdicts.{verdict_is}
use Rattle.commands.specs.OneReading.{one_reading}
use Rattle.commands.specs.Lists.{Allows}

abbrev Decided : Type 0 → Type 0
Decided X = X ⊎ (X → ⊥)

decided_as : {X Y : Type 0} → (X → Y) → (Y → X) → Decided X → Decided Y
decided_as f g (inl x) = inl (f x)
decided_as f g (inr n) = inr (λ y. n (g y))

either : {X Y : Type 0} → Decided X → Decided Y → Decided (X ⊎ Y)
either (inl x) d = inl (inl x)
either (inr m) (inl y) = inl (inr y)
either (inr m) (inr n) = inr (λ z. ⊎_elim m n z)

both : {X Y : Type 0} → Decided X → Decided Y → Decided (X × Y)
both (inl x) (inl y) = inl (x, y)
both (inl x) (inr n) = inr (λ z. n z.1)
both (inr m) d = inr (λ z. m z.0)

same_number : (a b : ℕ) → Decided (a ≡ b)
same_number a b = go (eqb a b) refl
  where
    go : (t : Bool) → eqb a b ≡ t → Decided (a ≡ b)
    go true e = inl (eqb-true a b e)
    go false e = inr (λ f. untrue (sym e ∙ eq-eqb a b f))

same_bytes : (x y : List ℕ) → Decided (x ≡ y)
same_bytes [] [] = inl refl
same_bytes [] (b ∷ y) = inr (λ e. let z : ◌≡◌ {A = ℕ} 0 1 = cc in omega arith)
same_bytes (a ∷ x) [] = inr (λ e. let z : ◌≡◌ {A = ℕ} 0 1 = cc in omega arith)
same_bytes (a ∷ x) (b ∷ y) =
    decided_as (λ (e : (a ≡ b) × (x ≡ y)). ap₂ (λ (i : ℕ) (l : List ℕ). i ∷ l) e.0 e.1) (λ e. (let f : a ≡ b = cc in f, let f : x ≡ y = cc in f)) (both (same_number a b) (same_bytes x y))

-- a list in two parts of which P holds
record Split (c : List ℕ) (P : List ℕ → List ℕ → Type 0) : Type 0 where
  pub front : List ℕ
  pub back : List ℕ
  pub joined : c ≡ front ++ back
  pub holds : P front back

-- nothing in front, or the first byte and the front of the others
split_first : (b : ℕ) (c : List ℕ) (P : List ℕ → List ℕ → Type 0) → P [] (b ∷ c) ⊎ Split c (λ (u v : List ℕ). P (b ∷ u) v) → Split (b ∷ c) P
split_first b c P (inl h) = record { front = []; back = b ∷ c; joined = refl; holds = h }
split_first b c P (inr s) = record { front = b ∷ s.front; back = s.back; joined = ap (λ (l : List ℕ). b ∷ l) s.joined; holds = s.holds }

first_split : (b : ℕ) (c : List ℕ) (P : List ℕ → List ℕ → Type 0) (u v : List ℕ) → b ∷ c ≡ u ++ v → P u v → P [] (b ∷ c) ⊎ Split c (λ (u v : List ℕ). P (b ∷ u) v)
first_split b c P [] v e h = inl (subst (P []) (sym e) h)
first_split b c P (a ∷ u) v e h =
    let f : a ≡ b = cc in
    let g : c ≡ u ++ v = cc in
    inr (record { front = u; back = v; joined = g; holds = subst (λ (i : ℕ). P (i ∷ u) v) f h })

nothing_split : (P : List ℕ → List ℕ → Type 0) (u v : List ℕ) → [] ≡ u ++ v → P u v → P [] []
nothing_split P [] v e h = subst (P []) (sym e) h
nothing_split P (a ∷ u) v e h = absurd (let z : ◌≡◌ {A = ℕ} 0 1 = cc in omega arith)

splits : (c : List ℕ) (P : List ℕ → List ℕ → Type 0) → ((u v : List ℕ) → Decided (P u v)) → Decided (Split c P)
splits [] P d = decided_as (λ (h : P [] []). record { front = []; back = []; joined = refl; holds = h }) (λ s. nothing_split P s.front s.back s.joined s.holds) (d [] [])
splits (b ∷ c) P d = decided_as (split_first b c P) (λ s. first_split b c P s.front s.back s.joined s.holds)
    (either (d [] (b ∷ c)) (splits c (λ (u v : List ℕ). P (b ∷ u) v) (λ u v. d (b ∷ u) v)))

word_in : (w : Word) (u : List ℕ) → SpellsWord w u → (caseless u ≡ caseless (short w)) ⊎ (caseless u ≡ caseless (long w))
word_in w u (in_short e) = inl e
word_in w u (in_long e) = inr e

decide_word : (w : Word) (u : List ℕ) → Decided (SpellsWord w u)
decide_word w u =
    decided_as (λ z. ⊎_elim (λ (e : caseless u ≡ caseless (short w)). in_short e) (λ (e : caseless u ≡ caseless (long w)). in_long e) z) (word_in w u)
    (either (same_bytes (caseless u) (caseless (short w))) (same_bytes (caseless u) (caseless (long w))))

abbrev WordRow : Word → Row → List ℕ → List ℕ → Type 0
WordRow w r u v = SpellsWord w u × SpellsRow r v

abbrev RowRow : Row → Row → List ℕ → List ℕ → Type 0
RowRow q r u v = SpellsRow q u × SpellsRow r v

none_in : (x : List ℕ) → SpellsRow r_none x → x ≡ []
none_in x s_none = refl

colon_in : (w : Word) (r : Row) (x : List ℕ) → SpellsRow (r_word w r) x → (t : List ℕ) × (x ≡ colon_sign ∷ t) × Split t (WordRow w r)
colon_in w r x (s_word {u = u} {v = v} a b) = (u ++ v, refl, record { front = u; back = v; joined = refl; holds = (a, b) })

colon_out : (w : Word) (r : Row) (b : ℕ) (t : List ℕ) → b ≡ colon_sign → Split t (WordRow w r) → SpellsRow (r_word w r) (b ∷ t)
colon_out w r b t e s = subst (λ (l : List ℕ). SpellsRow (r_word w r) l) (sym (ap₂ (λ (i : ℕ) (l : List ℕ). i ∷ l) e s.joined)) (s_word s.holds.0 s.holds.1)

bracket_in : (q r : Row) (x : List ℕ) → SpellsRow (r_bracket q r) x → Split x (RowRow q r) ⊎ SpellsRow r x
bracket_in q r x (s_kept {u = u} {v = v} a b) = inl (record { front = u; back = v; joined = refl; holds = (a, b) })
bracket_in q r x (s_dropped b) = inr b

bracket_out : (q r : Row) (x : List ℕ) → Split x (RowRow q r) ⊎ SpellsRow r x → SpellsRow (r_bracket q r) x
bracket_out q r x (inl s) = subst (λ (l : List ℕ). SpellsRow (r_bracket q r) l) (sym s.joined) (s_kept s.holds.0 s.holds.1)
bracket_out q r x (inr b) = s_dropped b

decide_row : (r : Row) (x : List ℕ) → Decided (SpellsRow r x)
decide_row r_none x = decided_as (λ (e : x ≡ []). subst (λ (l : List ℕ). SpellsRow r_none l) (sym e) s_none) (none_in x) (same_bytes x [])
decide_row (r_word w r) [] = inr (λ z. let h = colon_in w r [] z in let e : [] ≡ colon_sign ∷ h.0 = h.1 in let z : ◌≡◌ {A = ℕ} 0 1 = cc in omega arith)
decide_row (r_word w r) (b ∷ t) =
    decided_as (λ (z : (b ≡ colon_sign) × Split t (WordRow w r)). colon_out w r b t z.0 z.1)
    (λ z. let h = colon_in w r (b ∷ t) z in
    let e : b ∷ t ≡ colon_sign ∷ h.0 = h.1 in
    let f : b ≡ colon_sign = cc in
    let g : h.0 ≡ t = cc in
    (f, subst (λ (l : List ℕ). Split l (WordRow w r)) g h.2))
    (both (same_number b colon_sign) (splits t (WordRow w r) (λ u v. both (decide_word w u) (decide_row r v))))
decide_row (r_bracket q r) x = decided_as (bracket_out q r x) (bracket_in q r x) (either (splits x (RowRow q r) (λ u v. both (decide_row q u) (decide_row r v))) (decide_row r x))

-- a row and what ends the command
abbrev RowMark : Row → Bool → List ℕ → List ℕ → Type 0
RowMark r q v m = SpellsRow r v × (m ≡ mark q)

abbrev WordRest : Word → Row → Bool → List ℕ → List ℕ → Type 0
WordRest w r q u x = SpellsWord w u × Split x (RowMark r q)

path_in : (w : Word) (r : Row) (q : Bool) (c : List ℕ) → SpellsTree (t_path w r q) c → Split c (WordRest w r q)
path_in w r q c (s_path {u = u} {v = v} a b) = record { front = u; back = v ++ mark q; joined = refl; holds = (a, record { front = v; back = mark q; joined = refl; holds = (b, refl) }) }

path_out : (w : Word) (r : Row) (q : Bool) (c : List ℕ) → Split c (WordRest w r q) → SpellsTree (t_path w r q) c
path_out w r q c s =
    let t = s.holds.1 in
    let e : c ≡ s.front ++ (t.front ++ mark q) = s.joined ∙ ap (λ (l : List ℕ). s.front ++ l) (t.joined ∙ ap (λ (l : List ℕ). t.front ++ l) t.holds.1) in
    subst (λ (l : List ℕ). SpellsTree (t_path w r q) l) (sym e) (s_path s.holds.0 t.holds.0)

decide_tree : (t : Tree) (c : List ℕ) → Decided (SpellsTree t c)
decide_tree (t_path w r q) c =
    decided_as (path_out w r q c) (path_in w r q c)
    (splits c (WordRest w r q) (λ u x. both (decide_word w u) (splits x (RowMark r q) (λ v m. both (decide_row r v) (same_bytes m (mark q))))))
decide_tree (t_star b bs q) c = decided_as (star_out b bs q c) (star_in b bs q c) (same_bytes (caseless c) (caseless (source (t_star b bs q))))

decide_good : (p c : List ℕ) → GoodPattern p → Decided (Matches p c)
decide_good p c g = go (decide_tree g.pattern.tree c)
  where
    go : Decided (SpellsTree g.pattern.tree c) → Decided (Matches p c)
    go (inl s) = inl (record { good = g; spells = record { tree = g.pattern.tree; fine = g.pattern.fine; same = g.pattern.same; spelled = s } })
    go (inr n) = inr (λ m. n (one_reading m.spells.tree g.pattern.tree (m.spells.same ∙ sym g.pattern.same) c m.spells.spelled))

decide : (p c : List ℕ) → Decided (Matches p c)
decide p c = go (verdict_of p) (verdict_is p)
  where
    go : (r : Checked) → Verdict p r → Decided (Matches p c)
    go (Ok u) g = decide_good p c g
    go (Err e) b = inr (λ m. good_not_bad p m.good b)

answer : {X : Type 0} → Decided X → Bool
answer (inl x) = true
answer (inr n) = false

answer_is : {X : Type 0} (d : Decided X) → (answer d ≡ true) ↔ X
unfolding answer
answer_is (inl x) = (λ e. x, λ y. refl)
answer_is (inr n) = (λ e. untrue e, λ y. absurd (n y))

-- does the pattern match the command?
pub matched : List ℕ → List ℕ → Bool
matched p c = answer (decide p c)

pub matched_is : (p c : List ℕ) → (matched p c ≡ true) ↔ Matches p c
unfolding matched
matched_is p c = answer_is (decide p c)

-- does the list allow it?
abbrev pub allows : List (List ℕ) → List ℕ → Bool
allows [] c = false
allows (p ∷ ps) c = matched p c || allows ps c

or_is : {X Y : Type 0} (s t : Bool) → (s ≡ true) ↔ X → (t ≡ true) ↔ Y → ((s || t) ≡ true) ↔ (X ⊎ Y)
or_is true t f g = (λ e. inl (f.0 refl), λ z. refl)
or_is false t f g = (λ e. inr (g.0 e), λ z. ⊎_elim (λ x. absurd (untrue (f.1 x))) (λ y. g.1 y) z)

pub allows_is : (ps : List (List ℕ)) (c : List ℕ) → (allows ps c ≡ true) ↔ Allows ps c
allows_is [] c = (λ e. untrue e, λ z. absurd z)
allows_is (p ∷ ps) c = or_is (matched p c) (allows ps c) (matched_is p c) (allows_is ps c)

-- so the answers that the code gives are what the functions say
pub same_answer : {X : Type 0} (s t : Bool) → (s ≡ true) ↔ X → (t ≡ true) ↔ X → s ≡ t
same_answer true t f g = sym (g.1 (f.0 refl))
same_answer false true f g = f.1 (g.0 refl)
same_answer false false f g = refl
