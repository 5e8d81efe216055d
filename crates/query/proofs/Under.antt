-- Where a cursor stands, and what stands of its atom there: for each atom the words given so far.
-- Idea: an atom whose first variables have the words p is `standing p` of it; to give one variable more a word is to give p a word more.
use Prim.Native.Nat.{ℕ, zero, suc, ◌≤◌, ◌<◌}
use native.Mathlib.Omega.{arith}
use native.Mathlib.Decide.{dec_lt}
use mathlib.Core.Path.{◌≡◌, refl, sym, ap, ap₂, ◌∙◌}
use mathlib.Core.Bool.{Bool, true, false, false≢true}
use mathlib.Core.List.{List, [], ◌∷◌, ◌++◌, map}
use lib.ListN.{length, get_or, drop, length-append, drop_of_length-le}
use lib.Seq.{drop-drop}
use Rattle.relation.specs.Order.{Row, pick}
use Rattle.relation.specs.Lists.{◌∈◌, hd, tl}
use Rattle.relation.specs.Rows.{Asc, Width}
use Rattle.relation.specs.Layers.{prefixes, under, keys_under}
use Rattle.query.specs.Meaning.{Atom, Table}
use Rattle.query.specs.Solve.{standing, headed, bind, runs}
use Rattle.query.specs.Descend.{standings, nobody, holders}
use Rattle.query.proofs.Meet.{get_or_in}
use Rattle.query.proofs.Beyond.{beyond_none, beyond_append, keys_beyond}
use Rattle.query.proofs.Holders.{in_holders, runs_holders}

-- ---- one atom

module _ (p : Row) (a : Atom) where
  -- the keys that it shows next
  standing_keys : Width (length a.vars) a.rows → length p < length a.vars → keys_under [] (standing p a).rows ≡ keys_under p a.rows
  standing_keys = keys_beyond p

  -- with all its variables given, it takes no part
  standing_done : (v : ℕ) → length a.vars ≤ length p → headed v (standing p a).vars ≡ false
  unfolding headed
  standing_done v h = ap (headed v) (drop_of_length-le a.vars h)

  standing_append : (q : Row) → Asc a.rows → standing (p ++ q) a ≡ standing q (standing p a)
  standing_append q s =
      ap₂ {C = Atom} (λ vs rs. record { vars = vs; rows = rs })
      (ap (λ (n : ℕ). drop n a.vars) (length-append p q) ∙ sym (drop-drop (length q) (length p) a.vars))
      (beyond_append p q s)

  -- it takes part, and v has the word k
  bind_in : (v k : ℕ) → Asc a.rows → headed v (standing p a).vars ≡ true → bind v k (standing p a) ≡ standing (p ++ k ∷ []) a
  unfolding bind
  bind_in v k s e = ap (λ (b : Bool). pick b (standing (k ∷ []) (standing p a)) (standing p a)) e ∙ sym (standing_append (k ∷ []) s)

-- no word given
standing_none : (a : Atom) → Asc a.rows → standing [] a ≡ a
standing_none a s i = record { vars = a.vars; rows = beyond_none s i }

-- it takes no part
bind_out : (v k : ℕ) (a : Atom) → headed v a.vars ≡ false → bind v k a ≡ a
unfolding bind
bind_out v k a e = ap (λ (b : Bool). pick b (standing (k ∷ []) a) a) e

-- ---- all atoms, by number

pub length_standings : (f : ℕ → Row) (atoms : List Atom) → length (standings f atoms) ≡ length atoms
unfolding standings
length_standings f [] = refl
length_standings f (a ∷ l) = ap suc (length_standings (λ i. f (suc i)) l)

pub standings_at : (f : ℕ → Row) (atoms : List Atom) (i : ℕ) → i < length atoms → get_or (standings f atoms) i nobody ≡ standing (f i) (get_or atoms i nobody)
unfolding standings
standings_at f [] i h = absurd (omega arith)
standings_at f (a ∷ l) zero h = refl
standings_at f (a ∷ l) (suc i) h = standings_at (λ i. f (suc i)) l i (omega arith)

-- at the root
pub standings_none : (f : ℕ → Row) (atoms : List Atom) → ((a : Atom) → a ∈ atoms → Asc a.rows) → ((i : ℕ) → i < length atoms → f i ≡ []) → standings f atoms ≡ atoms
unfolding standings
standings_none f [] s e = refl
standings_none f (a ∷ l) s e =
    ap₂ {C = List Atom} (λ b m. b ∷ m)
    (ap (λ (p : Row). standing p a) (e 0 (omega arith)) ∙ standing_none a (s a (hd refl)))
    (standings_none (λ i. f (suc i)) l (λ b m. s b (tl m)) (λ i h. e (suc i) (omega arith)))

-- v has the word k: the atoms that take part gain it, the others stay
pub record Gains (v k : ℕ) (p : Row) (a : Atom) (q : Row) : Type 0 where
  pub taking : headed v (standing p a).vars ≡ true → q ≡ p ++ k ∷ []
  pub staying : headed v (standing p a).vars ≡ false → q ≡ p

bind_standing : (v k : ℕ) (p q : Row) (a : Atom) → Asc a.rows → Gains v k p a q → bind v k (standing p a) ≡ standing q a
bind_standing v k p q a s g = go (headed v (standing p a).vars) refl
  where
    go : (b : Bool) → headed v (standing p a).vars ≡ b → bind v k (standing p a) ≡ standing q a
    go true e = bind_in p a v k s e ∙ ap (λ (r : Row). standing r a) (sym (g.taking e))
    go false e = bind_out v k (standing p a) e ∙ ap (λ (r : Row). standing r a) (sym (g.staying e))

pub standings_bind : (v k : ℕ) (f g : ℕ → Row) (atoms : List Atom) → ((a : Atom) → a ∈ atoms → Asc a.rows) → ((i : ℕ) → i < length atoms → Gains v k (f i) (get_or atoms i nobody) (g i)) → map (bind v k) (standings f atoms) ≡ standings g atoms
unfolding standings
standings_bind v k f g [] s e = refl
standings_bind v k f g (a ∷ l) s e =
    ap₂ {C = List Atom} (λ b m. b ∷ m)
    (bind_standing v k (f 0) (g 0) a (s a (hd refl)) (e 0 (omega arith)))
    (standings_bind v k (λ i. f (suc i)) (λ i. g (suc i)) l (λ b m. s b (tl m)) (λ i h. e (suc i) (omega arith)))

-- ---- the runs of those that take part

-- the keys under the words that each has
pub standings_runs : (v : ℕ) (f : ℕ → Row) (atoms : List Atom) → ((a : Atom) → a ∈ atoms → Table a) → runs v (standings f atoms) ≡ map (λ (i : ℕ). keys_under (f i) (get_or atoms i nobody).rows) (holders v (standings f atoms))
standings_runs v f atoms t =
    runs_holders v (standings f atoms) ∙
    map_cong (holders v (standings f atoms))
    (λ i m.
    let u = in_holders v (standings f atoms) m in
    let h : i < length atoms = rw (length_standings f atoms) at u.0 in
    let a = get_or atoms i nobody in
    let e = standings_at f atoms i h in
    ap (λ (b : Atom). keys_under [] b.rows) e ∙
    standing_keys (f i) a (t a (get_or_in atoms i nobody h)).wide (short (f i) a (rw e at u.1)))
  where
    map_cong : {g h : ℕ → List ℕ} (l : List ℕ) → ((i : ℕ) → i ∈ l → g i ≡ h i) → map g l ≡ map h l
    map_cong [] e = refl
    map_cong (x ∷ l) e = ap₂ {C = List (List ℕ)} (λ b m. b ∷ m) (e x (hd refl)) (map_cong l (λ i m. e i (tl m)))

    short : (p : Row) (a : Atom) → headed v (standing p a).vars ≡ true → length p < length a.vars
    short p a e = go (dec_lt (length p) (length a.vars))
      where
        go : Dec (length p < length a.vars) → length p < length a.vars
        go (yes h) = h
        go (no n) = absurd (false≢true (sym (standing_done p a v (omega arith)) ∙ e))

-- no longer beginnings: no keys
pub keys_none : (p : Row) (rows : List Row) → length (prefixes (suc (length p)) rows) ≡ 0 → keys_under p rows ≡ []
unfolding keys_under under
keys_none p rows e = ap (λ (qs : List Row). map (λ (q : Row). get_or q (length p) 0) (under p qs)) (nothing (prefixes (suc (length p)) rows) e)
  where
    nothing : (qs : List Row) → length qs ≡ 0 → qs ≡ []
    nothing [] e = refl
    nothing (q ∷ qs) e = absurd (omega arith)
