-- Laws of what specs/Accepting.antt defines. Assumes nothing.
use Rattle.std.specs.Prelude.{◌≡◌, refl, Bool, true, false, cond, List, [], ◌∷◌, ◌++◌, ℕ, zero, suc, ◌<◌, ltb}
use Rattle.std.proofs.Common.{sym, ap, subst, ◌∙◌, append_assoc, arith, lt-ltb, ltb-true}
use Rattle.scpi.specs.Bytes.{colon_sign, query_sign, star_sign, open_sign, close_sign, Capital, Small, All}
use Rattle.scpi.specs.Grammar.{Word, long, Row, Row.r_none, Row.r_word, Row.r_bracket, text, Filled, Within, mark, Tree, Tree.t_path, Tree.t_star, source, Fine, Pattern, Viable}
use Rattle.scpi.specs.Automaton.{Kind, Kind.k_capital, Kind.k_small, Kind.k_colon, Kind.k_open, Kind.k_close, Kind.k_query, Kind.k_star, Kind.k_other}
use Rattle.scpi.specs.Automaton.{kind_of, State, State.a_start, State.a_star, State.a_stars, State.a_done, State.a_dead, State.a_first, State.a_caps}
use Rattle.scpi.specs.Automaton.{State.a_small, State.a_opened, State.a_closed, opening, between_items, at_start, at_star, at_stars, at_first, at_caps}
use Rattle.scpi.specs.Automaton.{at_small, at_opened, step, accepts, dead, run}
use Rattle.scpi.specs.Accepting.{run_append, kind_capital, kind_small, kind_colon, kind_open, kind_close, kind_query, kind_star, Mid, Mid.m_caps, Mid.m_closed, Mid.m_small, move, Accepted, Tail, Rest, Is, is_kind, closes}

mid_colon : (d : ℕ) (s : State) → Mid d s → step s k_colon ≡ a_first d
mid_colon d s m_caps = refl
mid_colon d s m_small = refl
mid_colon d s m_closed = refl

mid_open : (d : ℕ) (s : State) → d < 8 → Mid d s → step s k_open ≡ a_opened (suc d)
mid_open d s h m_caps = rw (lt-ltb d 8 h)
mid_open d s h m_small = rw (lt-ltb d 8 h)
mid_open d s h m_closed = rw (lt-ltb d 8 h)

mid_close : (d : ℕ) (s : State) → Mid (suc d) s → step s k_close ≡ a_closed d
mid_close d s m_caps = refl
mid_close d s m_small = refl
mid_close d s m_closed = refl

mid_query : (s : State) → Mid 0 s → step s k_query ≡ a_done
mid_query s m_caps = refl
mid_query s m_small = refl
mid_query s m_closed = refl

mid_accepts : (s : State) → Mid 0 s → accepts s ≡ true
mid_accepts s m_caps = refl
mid_accepts s m_small = refl
mid_accepts s m_closed = refl

joined : (P : State → Type 0) (x y : List ℕ) (s : State) → P (run (run s x) y) → P (run s (x ++ y))
joined P x y s h = subst P (sym (run_append x y s)) h

run_small : (d : ℕ) (ss : List ℕ) → All Small ss → Mid d (run (a_small d) ss)
run_small d [] h = m_small
run_small d (b ∷ ss) h = move (Mid d) (a_small d) b ss k_small (a_small d) (kind_small b h.0) refl (run_small d ss h.1)

run_caps : (d : ℕ) (cs ss : List ℕ) → All Capital cs → All Small ss → Mid d (run (a_caps d) (cs ++ ss))
run_caps d [] [] h k = m_caps
run_caps d [] (b ∷ ss) h k = move (Mid d) (a_caps d) b ss k_small (a_small d) (kind_small b k.0) refl (run_small d ss k.1)
run_caps d (b ∷ cs) ss h k = move (Mid d) (a_caps d) b (cs ++ ss) k_capital (a_caps d) (kind_capital b h.0) refl (run_caps d cs ss h.1 k)

run_word : (d : ℕ) (s : State) (w : Word) → step s k_capital ≡ a_caps d → Mid d (run s (long w))
run_word d s w e = move (Mid d) s w.capital (w.capitals ++ w.smalls) k_capital (a_caps d) (kind_capital w.capital w.is_capital) e
    (run_caps d w.capitals w.smalls w.are_capitals w.are_small)

filled_opened : (P : State → Type 0) (d : ℕ) (q : Row) → Filled q → P (run (a_closed d) (text q)) → P (run (a_opened d) (text q))
filled_opened P d r_none h x = absurd h
filled_opened P d (r_word w r) h x =
    let l : List ℕ = long w ++ text r in
    move P (a_opened d) colon_sign l k_colon (a_first d) kind_colon refl (subst (λ (k : Kind). P (run (step (a_closed d) k) l)) kind_colon x)
filled_opened P d (r_bracket q r) h x =
    let l : List ℕ = text q ++ (close_sign ∷ text r) in
    move P (a_opened d) open_sign l k_open (opening d) kind_open refl (subst (λ (k : Kind). P (run (step (a_closed d) k) l)) kind_open x)

run_row : (r : Row) (d : ℕ) (s : State) → Mid d s → Within d r → Mid d (run s (text r))
run_row r_none d s m h = m
run_row (r_word w r) d s m h =
    move (Mid d) s colon_sign (long w ++ text r) k_colon (a_first d) kind_colon (mid_colon d s m)
    (joined (Mid d) (long w) (text r) (a_first d) (run_row r d (run (a_first d) (long w)) (run_word d (a_first d) w refl) h))
run_row (r_bracket q r) d s m h =
    let i : State = run (a_opened (suc d)) (text q) in
    let inner : Mid (suc d) i = filled_opened (Mid (suc d)) (suc d) q h.1 (run_row q (suc d) (a_closed (suc d)) m_closed h.2) in
    move (Mid d) s open_sign (text q ++ (close_sign ∷ text r)) k_open (a_opened (suc d)) kind_open (mid_open d s h.0 m)
    (joined (Mid d) (text q) (close_sign ∷ text r) (a_opened (suc d))
    (move (Mid d) i close_sign (text r) k_close (a_closed d) kind_close (mid_close d i inner) (run_row r d (a_closed d) m_closed h.3)))

run_mark : (q : Bool) (s : State) → Mid 0 s → Accepted (run s (mark q))
run_mark true s m = move Accepted s query_sign [] k_query a_done kind_query (mid_query s m) refl
run_mark false s m = mid_accepts s m

run_stars : (bs : List ℕ) (q : Bool) → All Capital bs → Accepted (run a_stars (bs ++ mark q))
run_stars [] true h = move Accepted a_stars query_sign [] k_query a_done kind_query refl refl
run_stars [] false h = refl
run_stars (b ∷ bs) q h = move Accepted a_stars b (bs ++ mark q) k_capital a_stars (kind_capital b h.0) refl (run_stars bs q h.1)

accepts_tree : (t : Tree) → Fine t → Accepted (run a_start (source t))
accepts_tree (t_path w r q) h =
    let s : State = run a_start (long w) in
    joined Accepted (long w) (text r ++ mark q) a_start (joined Accepted (text r) (mark q) s (run_mark q (run s (text r)) (run_row r 0 s (run_word 0 a_start w refl) h)))
accepts_tree (t_star b bs q) h =
    move Accepted a_start star_sign (b ∷ (bs ++ mark q)) k_star a_star kind_star refl
    (move Accepted a_star b (bs ++ mark q) k_capital a_stars (kind_capital b h.0) refl (run_stars bs q h.1))

pub accepts_pattern : (p : List ℕ) → Pattern p → accepts (run a_start p) ≡ true
accepts_pattern p h = subst (λ (l : List ℕ). accepts (run a_start l) ≡ true) h.same (accepts_tree h.tree h.fine)

-- an item in front of what follows
word_filled : (d : ℕ) (w : Word) (t l : List ℕ) → l ≡ long w ++ t → Tail (suc d) t → Rest (a_opened (suc d)) (colon_sign ∷ l)
word_filled d w t l e h = (
  r_word w h.0,
  h.1,
  h.2,
  tt,
  ap (λ (k : List ℕ). colon_sign ∷ k)
      (e ∙ ap (λ (k : List ℕ). long w ++ k) h.3 ∙ sym (append_assoc (long w) (text h.0) (close_sign ∷ h.1))),
  h.4,
)

bracket_filled : (d : ℕ) (q : Row) (t l : List ℕ) → suc d < 8 → Within (suc (suc d)) q → Filled q → l ≡ text q ++ (close_sign ∷ t) → Tail (suc d) t → Rest (a_opened (suc d)) (open_sign ∷ l)
bracket_filled d q t l n w f e h = (
  r_bracket q h.0,
  h.1,
  (n, f, w, h.2),
  tt,
  ap (λ (k : List ℕ). open_sign ∷ k)
      (e ∙ ap (λ (k : List ℕ). text q ++ (close_sign ∷ k)) h.3 ∙ sym (append_assoc (text q) (close_sign ∷ text h.0) (close_sign ∷ h.1))),
  h.4,
)

unfilled : (d : ℕ) (l : List ℕ) → Rest (a_opened (suc d)) l → Tail (suc d) l
unfilled d l h = (h.0, h.1, h.2, h.4, h.5)

word_tail : (d : ℕ) (w : Word) (t l : List ℕ) → l ≡ long w ++ t → Tail d t → Tail d (colon_sign ∷ l)
word_tail zero w t l e h = (r_word w h.0, h.1, h.2, ap (λ (k : List ℕ). colon_sign ∷ k) (e ∙ ap (λ (k : List ℕ). long w ++ k) h.3 ∙ sym (append_assoc (long w) (text h.0) (mark h.1))))
word_tail (suc d) w t l e h = unfilled d (colon_sign ∷ l) (word_filled d w t l e h)

bracket_tail : (d : ℕ) (q : Row) (t l : List ℕ) → d < 8 → Within (suc d) q → Filled q → l ≡ text q ++ (close_sign ∷ t) → Tail d t → Tail d (open_sign ∷ l)
bracket_tail zero q t l n w f e h = (
  r_bracket q h.0,
  h.1,
  (n, f, w, h.2),
  ap (λ (k : List ℕ). open_sign ∷ k)
      (e ∙ ap (λ (k : List ℕ). text q ++ (close_sign ∷ k)) h.3 ∙ sym (append_assoc (text q) (close_sign ∷ text h.0) (mark h.1))),
)
bracket_tail (suc d) q t l n w f e h = unfilled d (open_sign ∷ l) (bracket_filled d q t l n w f e h)

at_byte : (P : List ℕ → Type 0) (b n : ℕ) (l : List ℕ) → b ≡ n → P (n ∷ l) → P (b ∷ l)
at_byte P b n l e h = subst (λ (m : ℕ). P (m ∷ l)) (sym e) h

open_tail : (d : ℕ) (l : List ℕ) (t : Bool) → ltb d 8 ≡ t → Rest (cond t (a_opened (suc d)) a_dead) l → Tail d (open_sign ∷ l)
open_tail d l true e h = bracket_tail d h.0 h.1 l (ltb-true d 8 e) h.2 h.3 h.4 h.5
open_tail d l false e h = absurd h

open_filled : (d : ℕ) (l : List ℕ) (t : Bool) → ltb (suc d) 8 ≡ t → Rest (cond t (a_opened (suc (suc d))) a_dead) l → Rest (a_opened (suc d)) (open_sign ∷ l)
open_filled d l true e h = bracket_filled d h.0 h.1 l (ltb-true (suc d) 8 e) h.2 h.3 h.4 h.5
open_filled d l false e h = absurd h

-- a byte more in front
back_between : (k : Kind) (d b : ℕ) (l : List ℕ) → Is k b → Rest (between_items d k) l → Tail d (b ∷ l)
back_between k_capital d b l i h = absurd h
back_between k_small d b l i h = absurd h
back_between k_colon d b l i h = at_byte (Tail d) b colon_sign l i (word_tail d h.0 h.1 l h.2 h.3)
back_between k_open d b l i h = at_byte (Tail d) b open_sign l i (open_tail d l (ltb d 8) refl h)
back_between k_close zero b l i h = absurd h
back_between k_close (suc d) b l i h = at_byte (Tail (suc d)) b close_sign l i (r_none, l, tt, refl, h)
back_between k_query zero b l i h = at_byte (Tail zero) b query_sign l i (r_none, true, tt, ap (λ (k : List ℕ). query_sign ∷ k) h)
back_between k_query (suc d) b l i h = absurd h
back_between k_star d b l i h = absurd h
back_between k_other d b l i h = absurd h

word_of : (b : ℕ) (cs ss : List ℕ) → Capital b → All Capital cs → All Small ss → Word
word_of b cs ss h k m = record { capital = b; capitals = cs; smalls = ss; is_capital = h; are_capitals = k; are_small = m }

word_split : (b : ℕ) (cs ss t l : List ℕ) → l ≡ cs ++ (ss ++ t) → b ∷ l ≡ ((b ∷ cs) ++ ss) ++ t
word_split b cs ss t l e = ap (λ (k : List ℕ). b ∷ k) (e ∙ sym (append_assoc cs ss t))

back_start : (k : Kind) (b : ℕ) (l : List ℕ) → Is k b → Rest (at_start k) l → Pattern (b ∷ l)
unfolding word_of
back_start k_capital b l i h = record {
  tree = t_path (word_of b h.0 h.1 i h.3 h.4) h.6.0 h.6.1;
  fine = h.6.2;
  same = sym (word_split b h.0 h.1 h.2 l h.5 ∙ ap (λ (k : List ℕ). ((b ∷ h.0) ++ h.1) ++ k) h.6.3);
}
back_start k_small b l i h = absurd h
back_start k_colon b l i h = absurd h
back_start k_open b l i h = absurd h
back_start k_close b l i h = absurd h
back_start k_query b l i h = absurd h
back_start k_star b l i h = at_byte Pattern b star_sign l i (record { tree = t_star h.0 h.1 h.2; fine = (h.3, h.4); same = ap (λ (k : List ℕ). star_sign ∷ k) (sym h.5) })
back_start k_other b l i h = absurd h

back_star : (k : Kind) (b : ℕ) (l : List ℕ) → Is k b → Rest (at_star k) l → Rest a_star (b ∷ l)
back_star k_capital b l i h = (b, h.0, h.1, i, h.2, ap (λ (k : List ℕ). b ∷ k) h.3)
back_star k_small b l i h = absurd h
back_star k_colon b l i h = absurd h
back_star k_open b l i h = absurd h
back_star k_close b l i h = absurd h
back_star k_query b l i h = absurd h
back_star k_star b l i h = absurd h
back_star k_other b l i h = absurd h

back_stars : (k : Kind) (b : ℕ) (l : List ℕ) → Is k b → Rest (at_stars k) l → Rest a_stars (b ∷ l)
back_stars k_capital b l i h = (b ∷ h.0, h.1, (i, h.2), ap (λ (k : List ℕ). b ∷ k) h.3)
back_stars k_small b l i h = absurd h
back_stars k_colon b l i h = absurd h
back_stars k_open b l i h = absurd h
back_stars k_close b l i h = absurd h
back_stars k_query b l i h = at_byte (Rest a_stars) b query_sign l i ([], true, tt, ap (λ (k : List ℕ). query_sign ∷ k) h)
back_stars k_star b l i h = absurd h
back_stars k_other b l i h = absurd h

back_first : (k : Kind) (d b : ℕ) (l : List ℕ) → Is k b → Rest (at_first d k) l → Rest (a_first d) (b ∷ l)
unfolding word_of
back_first k_capital d b l i h = (word_of b h.0 h.1 i h.3 h.4, h.2, word_split b h.0 h.1 h.2 l h.5, h.6)
back_first k_small d b l i h = absurd h
back_first k_colon d b l i h = absurd h
back_first k_open d b l i h = absurd h
back_first k_close d b l i h = absurd h
back_first k_query d b l i h = absurd h
back_first k_star d b l i h = absurd h
back_first k_other d b l i h = absurd h

back_caps : (k : Kind) (d b : ℕ) (l : List ℕ) → Is k b → Rest (at_caps d k) l → Rest (a_caps d) (b ∷ l)
back_caps k_capital d b l i h = (b ∷ h.0, h.1, h.2, (i, h.3), h.4, ap (λ (k : List ℕ). b ∷ k) h.5, h.6)
back_caps k_small d b l i h = ([], b ∷ h.0, h.1, tt, (i, h.2), ap (λ (k : List ℕ). b ∷ k) h.3, h.4)
back_caps k_colon d b l i h = ([], [], b ∷ l, tt, tt, refl, back_between k_colon d b l i h)
back_caps k_open d b l i h = ([], [], b ∷ l, tt, tt, refl, back_between k_open d b l i h)
back_caps k_close d b l i h = ([], [], b ∷ l, tt, tt, refl, back_between k_close d b l i h)
back_caps k_query d b l i h = ([], [], b ∷ l, tt, tt, refl, back_between k_query d b l i h)
back_caps k_star d b l i h = absurd h
back_caps k_other d b l i h = absurd h

back_small : (k : Kind) (d b : ℕ) (l : List ℕ) → Is k b → Rest (at_small d k) l → Rest (a_small d) (b ∷ l)
back_small k_capital d b l i h = absurd h
back_small k_small d b l i h = (b ∷ h.0, h.1, (i, h.2), ap (λ (k : List ℕ). b ∷ k) h.3, h.4)
back_small k_colon d b l i h = ([], b ∷ l, tt, refl, back_between k_colon d b l i h)
back_small k_open d b l i h = ([], b ∷ l, tt, refl, back_between k_open d b l i h)
back_small k_close d b l i h = ([], b ∷ l, tt, refl, back_between k_close d b l i h)
back_small k_query d b l i h = ([], b ∷ l, tt, refl, back_between k_query d b l i h)
back_small k_star d b l i h = absurd h
back_small k_other d b l i h = absurd h

back_opened : (k : Kind) (d b : ℕ) (l : List ℕ) → Is k b → Rest (at_opened (suc d) k) l → Rest (a_opened (suc d)) (b ∷ l)
back_opened k_capital d b l i h = absurd h
back_opened k_small d b l i h = absurd h
back_opened k_colon d b l i h = at_byte (Rest (a_opened (suc d))) b colon_sign l i (word_filled d h.0 h.1 l h.2 h.3)
back_opened k_open d b l i h = at_byte (Rest (a_opened (suc d))) b open_sign l i (open_filled d l (ltb (suc d) 8) refl h)
back_opened k_close d b l i h = absurd h
back_opened k_query d b l i h = absurd h
back_opened k_star d b l i h = absurd h
back_opened k_other d b l i h = absurd h

back : (s : State) (k : Kind) (b : ℕ) (l : List ℕ) → Is k b → Rest (step s k) l → Rest s (b ∷ l)
back a_start k b l i h = back_start k b l i h
back a_star k b l i h = back_star k b l i h
back a_stars k b l i h = back_stars k b l i h
back a_done k b l i h = absurd h
back a_dead k b l i h = absurd h
back (a_first d) k b l i h = back_first k d b l i h
back (a_caps d) k b l i h = back_caps k d b l i h
back (a_small d) k b l i h = back_small k d b l i h
back (a_opened zero) k b l i h = tt
back (a_opened (suc d)) k b l i h = back_opened k d b l i h
back (a_closed d) k b l i h = back_between k d b l i h

untrue : {X : Type 0} → false ≡ true → X
untrue e = absurd (let z : ◌≡◌ {A = ℕ} 0 1 = cc in omega arith)

rest_end : (s : State) → Accepted s → Rest s []
rest_end a_start e = untrue e
rest_end a_star e = untrue e
rest_end a_stars e = ([], false, tt, refl)
rest_end a_done e = refl
rest_end a_dead e = untrue e
rest_end (a_first d) e = untrue e
rest_end (a_caps zero) e = ([], [], [], tt, tt, refl, (r_none, false, tt, refl))
rest_end (a_caps (suc d)) e = untrue e
rest_end (a_small zero) e = ([], [], tt, refl, (r_none, false, tt, refl))
rest_end (a_small (suc d)) e = untrue e
rest_end (a_opened zero) e = tt
rest_end (a_opened (suc d)) e = untrue e
rest_end (a_closed zero) e = (r_none, false, tt, refl)
rest_end (a_closed (suc d)) e = untrue e

rest_of : (l : List ℕ) (s : State) → Accepted (run s l) → Rest s l
rest_of [] s h = rest_end s h
rest_of (b ∷ l) s h = back s (kind_of b) b l (is_kind b) (rest_of l (step s (kind_of b)) h)

pub pattern_accepted : (p : List ℕ) → Accepted (run a_start p) → Pattern p
pattern_accepted p h = rest_of p a_start h

run_closes : (d : ℕ) (s : State) → Mid d s → Accepted (run s (closes d))
run_closes zero s m = mid_accepts s m
run_closes (suc d) s m = move Accepted s close_sign (closes d) k_close (a_closed d) kind_close (mid_close d s m) (run_closes d (a_closed d) m_closed)

kind_A : kind_of 65 ≡ k_capital
unfolding kind_of
kind_A = refl

run_A : (d : ℕ) (s : State) → step s k_capital ≡ a_caps d → Accepted (run s (65 ∷ closes d))
run_A d s e = move Accepted s 65 (closes d) k_capital (a_caps d) kind_A e (run_closes d (a_caps d) m_caps)

completed : (s : State) → dead s ≡ false → (t : List ℕ) × Accepted (run s t)
completed a_start e = (65 ∷ [], run_A 0 a_start refl)
completed a_star e = (65 ∷ [], move Accepted a_star 65 [] k_capital a_stars kind_A refl refl)
completed a_stars e = ([], refl)
completed a_done e = ([], refl)
completed a_dead e = untrue (sym e)
completed (a_first d) e = (65 ∷ closes d, run_A d (a_first d) refl)
completed (a_caps d) e = (closes d, run_closes d (a_caps d) m_caps)
completed (a_small d) e = (closes d, run_closes d (a_small d) m_small)
completed (a_opened d) e = (colon_sign ∷ 65 ∷ closes d, move Accepted (a_opened d) colon_sign (65 ∷ closes d) k_colon (a_first d) kind_colon refl (run_A d (a_first d) refl))
completed (a_closed d) e = (closes d, run_closes d (a_closed d) m_closed)

pub viable_alive : (p : List ℕ) → dead (run a_start p) ≡ false → Viable p
viable_alive p h =
    let t = completed (run a_start p) h in
    record { rest = t.0; pattern = pattern_accepted (p ++ t.0) (joined Accepted p t.0 a_start t.1) }

run_dead : (l : List ℕ) → run a_dead l ≡ a_dead
run_dead [] = refl
run_dead (b ∷ l) = run_dead l

accepted_alive : (s : State) (l : List ℕ) → Accepted (run s l) → dead s ≡ false
accepted_alive a_start l h = refl
accepted_alive a_star l h = refl
accepted_alive a_stars l h = refl
accepted_alive a_done l h = refl
accepted_alive a_dead l h = untrue (ap accepts (sym (run_dead l)) ∙ h)
accepted_alive (a_first d) l h = refl
accepted_alive (a_caps d) l h = refl
accepted_alive (a_small d) l h = refl
accepted_alive (a_opened d) l h = refl
accepted_alive (a_closed d) l h = refl

pub alive_viable : (p : List ℕ) → Viable p → dead (run a_start p) ≡ false
alive_viable p v = accepted_alive (run a_start p) v.rest (subst Accepted (run_append p v.rest a_start) (accepts_pattern (p ++ v.rest) v.pattern))
