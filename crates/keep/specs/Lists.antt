-- 02, Q-12, a list of allowed commands in an entry: its text. A list that is taken consists of bytes, and fits.
-- Assumes nothing.
use Rattle.std.specs.Prelude.{◌≡◌, refl, Bool, true, false, cond, List, [], ◌∷◌, ◌++◌, ℕ, zero, suc, ◌+◌, ◌<◌, eqb, length, Ok, Err}
use Rattle.std.proofs.Common.{sym, subst, true≢false, arith, lit<, length-append, eqb-true}
use Rattle.wire.specs.Field.{field, length_field, Bytes}
use Rattle.scpi.specs.Bytes.{Capital, Small, All, colon_sign, query_sign, star_sign, open_sign, close_sign}
use Rattle.scpi.specs.Grammar.{Word, short, long, Row, Row.r_none, Row.r_word, Row.r_bracket, text, mark, Tree, Tree.t_path, Tree.t_star, source, Fine, GoodPattern}
use Rattle.commands.specs.declared.ListFault.TheVariants.{BadPattern, TooMany}
use Rattle.commands.specs.Lists.{Judged, taken, lines_of, more, AllGood, Listed}
use Rattle.commands.proofs.Lines.{listed_room}
use Rattle.commands.specs.Rulings.{judged, judged_is}
use Rattle.model.specs.Sizes.{list_limit}
use Rattle.model.specs.State.{Server}
use Rattle.model.specs.Interface.{Event.setting, Setting.patterns}
use Rattle.model.specs.Allowing.{is_bad, is_too_many}
use Rattle.model.specs.Refusals.{causes, refusal}
use Rattle.claims.proofs.Fits.{uncaused}
use Rattle.journal.specs.Bytes.{append_bytes, field_bytes}
use Rattle.record.specs.Layout as layout
use Rattle.record.specs.Layout.{row}

-- ---- the bytes of good patterns

pub cons_bytes : (x : ℕ) (xs : List ℕ) → x < 256 → Bytes xs → Bytes (x ∷ xs)
cons_bytes x xs p q zero = p
cons_bytes x xs p q (suc i) = q i

no_bytes : Bytes []
no_bytes i = lit< tt

all_bytes : (P : ℕ → Type 0) → ((b : ℕ) → P b → b < 256) → (bs : List ℕ) → All P bs → Bytes bs
all_bytes P f [] a = no_bytes
all_bytes P f (b ∷ bs) a = cons_bytes b bs (f b a.0) (all_bytes P f bs a.1)

capital_byte : (b : ℕ) → Capital b → b < 256
capital_byte b h = omega (arith, h.1)

small_byte : (b : ℕ) → Small b → b < 256
small_byte b h = omega (arith, h.1)

word_bytes : (w : Word) → Bytes (long w)
word_bytes w =
    append_bytes (short w) w.smalls (cons_bytes w.capital w.capitals (capital_byte w.capital w.is_capital) (all_bytes Capital capital_byte w.capitals w.are_capitals))
    (all_bytes Small small_byte w.smalls w.are_small)

text_bytes : (r : Row) → Bytes (text r)
text_bytes r_none = no_bytes
text_bytes (r_word w r) = cons_bytes colon_sign (long w ++ text r) (omega arith) (append_bytes (long w) (text r) (word_bytes w) (text_bytes r))
text_bytes (r_bracket s r) =
    cons_bytes open_sign (text s ++ (close_sign ∷ text r)) (omega arith)
    (append_bytes (text s) (close_sign ∷ text r) (text_bytes s) (cons_bytes close_sign (text r) (omega arith) (text_bytes r)))

mark_bytes : (q : Bool) → Bytes (mark q)
mark_bytes true = cons_bytes query_sign [] (omega arith) no_bytes
mark_bytes false = no_bytes

tree_bytes : (t : Tree) → Fine t → Bytes (source t)
tree_bytes (t_path w r q) f = append_bytes (long w) (text r ++ mark q) (word_bytes w) (append_bytes (text r) (mark q) (text_bytes r) (mark_bytes q))
tree_bytes (t_star b bs q) f =
    cons_bytes star_sign ((b ∷ bs) ++ mark q) (omega arith)
    (append_bytes (b ∷ bs) (mark q) (cons_bytes b bs (capital_byte b f.0) (all_bytes Capital capital_byte bs f.1)) (mark_bytes q))

good_bytes : (p : List ℕ) → GoodPattern p → Bytes p
good_bytes p g = subst Bytes g.pattern.same (tree_bytes g.pattern.tree g.pattern.fine)

-- ---- the text whose lines they are

abbrev AllBytes : List (List ℕ) → Type 0
AllBytes [] = Unit {0}
AllBytes (l ∷ ls) = Bytes l × AllBytes ls

good_lines : (ps : List (List ℕ)) → AllGood ps → AllBytes ps
good_lines [] g = tt
good_lines (p ∷ ps) g = (good_bytes p g.0, good_lines ps g.1)

more_bytes : (b : ℕ) (ls : List (List ℕ)) → AllBytes (more b ls) → (b < 256) × AllBytes ls
more_bytes b [] h = (h.0 0, tt)
more_bytes b (l ∷ ls) h = (h.0 0, ((λ i. h.0 (suc i)), h.1))

text_of_bytes : (s : List ℕ) → AllBytes (lines_of s) → Bytes s
unfolding lines_of
text_of_bytes [] h = no_bytes
text_of_bytes (b ∷ s) h = go (eqb b 10) refl h (text_of_bytes s)
  where
    go : (t : Bool) → eqb b 10 ≡ t → AllBytes (cond t ([] ∷ lines_of s) (more b (lines_of s))) → (AllBytes (lines_of s) → Bytes s) → Bytes (b ∷ s)
    go true q g f = cons_bytes b s (omega (arith, eqb-true b 10 q)) (f g.1)
    go false q g f = let m = more_bytes b (lines_of s) g in cons_bytes b s m.0 (f m.1)

pub row_bytes : (r : List ℕ) → Bytes r → Bytes (layout.row r)
unfolding row
row_bytes r b = append_bytes (field 4 (length r)) r (field_bytes 4 (length r)) b

pub row_length : (r : List ℕ) → length (layout.row r) ≡ 4 + length r
unfolding row
row_length r = simp (length-append, length_field)

-- a list that is not refused: "up to 32 command patterns", each of them good
pub taken_list : (d : Server) (s : List ℕ) → refusal d (setting (patterns s)) ≡ 0 → Listed (lines_of s)
unfolding refusal causes
taken_list d s z =
    let n = uncaused (causes d (setting (patterns s))) refl z in
    go (judged (lines_of s)) refl n.0 n.1.0
  where
    go : (j : Judged) → judged (lines_of s) ≡ j → is_too_many j ≡ false → is_bad j ≡ false → Listed (lines_of s)
    go (Ok u) e p q = (judged_is (lines_of s) taken).1 (sym e)
    go (Err (BadPattern k i)) e p q = absurd (true≢false q)
    go (Err TooMany) e p q = absurd (true≢false p)

-- so its text consists of bytes, and a body has room for it
pub list_row : (d : Server) (s : List ℕ) → refusal d (setting (patterns s)) ≡ 0 → layout.Row list_limit s
list_row d s z = let t = taken_list d s z in record { bytes = text_of_bytes s (good_lines (lines_of s) t.1); within = listed_room s t }
