-- 02, Q-12: what a pattern spells. "A command matches exactly if some choice of kept and dropped brackets spells it." No search is in here. Assumes nothing.
use Rattle.std.specs.Prelude.{◌≡◌, Bool, List, [], ◌∷◌, ◌++◌, ℕ}
use Rattle.scpi.specs.Bytes.{colon_sign, star_sign, caseless}
use Rattle.scpi.specs.Grammar.{Word, short, long, Row, Row.r_none, Row.r_word, Row.r_bracket, mark, Tree, Tree.t_path, Tree.t_star, source, Fine, GoodPattern}

-- "Capitals are the short form, the whole word the long one, nothing between; a command's case doesn't matter"
pub data SpellsWord (w : Word) : List ℕ → Type 0 where
  in_short : {u : List ℕ} → caseless u ≡ caseless (short w) → SpellsWord w u
  in_long : {u : List ℕ} → caseless u ≡ caseless (long w) → SpellsWord w u

-- a bracket is kept, and what it holds is spelled, or dropped
pub data SpellsRow : Row → List ℕ → Type 0 where
  s_none : SpellsRow r_none []
  s_word : {w : Word} {r : Row} {u v : List ℕ} → SpellsWord w u → SpellsRow r v → SpellsRow (r_word w r) (colon_sign ∷ (u ++ v))
  s_kept : {s r : Row} {u v : List ℕ} → SpellsRow s u → SpellsRow r v → SpellsRow (r_bracket s r) (u ++ v)
  s_dropped : {s r : Row} {v : List ℕ} → SpellsRow r v → SpellsRow (r_bracket s r) v

pub data SpellsTree : Tree → List ℕ → Type 0 where
  s_path : {w : Word} {r : Row} {q : Bool} {u v : List ℕ} → SpellsWord w u → SpellsRow r v → SpellsTree (t_path w r q) (u ++ (v ++ mark q))
  s_star : {b : ℕ} {bs : List ℕ} {q : Bool} (u : List ℕ) → caseless u ≡ caseless (b ∷ bs) → SpellsTree (t_star b bs q) (star_sign ∷ (u ++ mark q))

-- the pattern p spells the command c
pub record Spells (p c : List ℕ) : Type 0 where
  pub tree : Tree
  pub fine : Fine tree
  pub same : source tree ≡ p
  pub spelled : SpellsTree tree c

-- p is a good pattern, and spells c
pub record Matches (p c : List ℕ) : Type 0 where
  pub good : GoodPattern p
  pub spells : Spells p c
