-- What the pattern of 02's Q-12 spells, and the lines of texts. Assumes nothing.
use Rattle.std.specs.Prelude.{◌≡◌, refl, true, [], ◌∷◌}
use Rattle.std.proofs.Common.{lit≤}
use Rattle.scpi.specs.Grammar.{Word, Row.r_none, Row.r_word, Row.r_bracket, Tree, Tree.t_path}
use Rattle.scpi.specs.Examples.{measure}
use Rattle.commands.specs.Spelling.{SpellsWord.in_short, SpellsWord.in_long, SpellsRow.s_none, SpellsRow.s_word, SpellsRow.s_kept, SpellsRow.s_dropped, SpellsTree.s_path, Spells}
use Rattle.commands.specs.Lists.{lines_of, command_of}

abbrev MEASure : Word
MEASure = record {
  capital = 77;
  capitals = 69 ∷ 65 ∷ 83 ∷ [];
  smalls = 117 ∷ 114 ∷ 101 ∷ [];
  is_capital = (lit≤ tt, lit≤ tt);
  are_capitals = ((lit≤ tt, lit≤ tt), ((lit≤ tt, lit≤ tt), ((lit≤ tt, lit≤ tt), tt)));
  are_small = ((lit≤ tt, lit≤ tt), ((lit≤ tt, lit≤ tt), ((lit≤ tt, lit≤ tt), tt)));
}

abbrev VOLTage : Word
VOLTage = record {
  capital = 86;
  capitals = 79 ∷ 76 ∷ 84 ∷ [];
  smalls = 97 ∷ 103 ∷ 101 ∷ [];
  is_capital = (lit≤ tt, lit≤ tt);
  are_capitals = ((lit≤ tt, lit≤ tt), ((lit≤ tt, lit≤ tt), ((lit≤ tt, lit≤ tt), tt)));
  are_small = ((lit≤ tt, lit≤ tt), ((lit≤ tt, lit≤ tt), ((lit≤ tt, lit≤ tt), tt)));
}

abbrev DC : Word
DC = record { capital = 68; capitals = 67 ∷ []; smalls = []; is_capital = (lit≤ tt, lit≤ tt); are_capitals = ((lit≤ tt, lit≤ tt), tt); are_small = tt }

abbrev tree : Tree
tree = t_path MEASure (r_bracket (r_word VOLTage (r_bracket (r_word DC r_none) r_none)) r_none) true

-- meas? with the outer bracket dropped
pub spells_meas : Spells measure (109 ∷ 101 ∷ 97 ∷ 115 ∷ 63 ∷ [])
spells_meas = record { tree = tree; fine = (lit≤ tt, tt, (lit≤ tt, tt, tt, tt), tt); same = refl; spelled = s_path {u = 109 ∷ 101 ∷ 97 ∷ 115 ∷ []} (in_short refl) (s_dropped s_none) }

-- Measure:VOLT:dc? with both kept, the first word long and the second short
pub spells_both : Spells measure (77 ∷ 101 ∷ 97 ∷ 115 ∷ 117 ∷ 114 ∷ 101 ∷ 58 ∷ 86 ∷ 79 ∷ 76 ∷ 84 ∷ 58 ∷ 100 ∷ 99 ∷ 63 ∷ [])
spells_both = record {
  tree = tree;
  fine = (lit≤ tt, tt, (lit≤ tt, tt, tt, tt), tt);
  same = refl;
  spelled = s_path {u = 77 ∷ 101 ∷ 97 ∷ 115 ∷ 117 ∷ 114 ∷ 101 ∷ []} (in_long refl)
      (s_kept (s_word {u = 86 ∷ 79 ∷ 76 ∷ 84 ∷ []} (in_short refl) (s_kept (s_word {u = 100 ∷ 99 ∷ []} (in_short refl) s_none) s_none)) s_none);
}

-- no bytes are no lines, an empty line is an empty pattern, and a last line may lack its newline
pub no_lines : lines_of [] ≡ []
unfolding lines_of
no_lines = refl

pub empty_line : lines_of (10 ∷ []) ≡ [] ∷ []
unfolding lines_of
empty_line = refl

pub two_ended : lines_of (65 ∷ 10 ∷ 66 ∷ 10 ∷ []) ≡ (65 ∷ []) ∷ (66 ∷ []) ∷ []
unfolding lines_of
two_ended = refl

-- a command ends at the first space; a tab is one of its bytes
pub command_ends : command_of (65 ∷ 9 ∷ 66 ∷ 32 ∷ 67 ∷ []) ≡ 65 ∷ 9 ∷ 66 ∷ []
unfolding command_of
command_ends = refl
