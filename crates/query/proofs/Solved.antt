-- The words that the descent finds, in the order's sequence: sound, complete and ascending.
-- Idea: `solve` is the descent without the row. `along vs w xs` are the words of the variables xs where vs have the words w and xs follows vs; an
-- answer is then words whose part along each atom is one of its rows, and to give the first variable a word is to bind it in each atom.
use Prim.Native.Nat.{ℕ, suc, ◌<◌}
use native.Mathlib.Omega.{arith}
use mathlib.Core.Path.{◌≡◌, refl, sym, subst, ap, ap₂, ◌∙◌}
use mathlib.Core.Logic.{⊎_elim}
use mathlib.Core.Bool.{Bool, true, false, false≢true}
use mathlib.Core.List.Memᴰ
use mathlib.Core.List.{List, [], ◌∷◌, map, flat_map}
use lib.ListN.{length, get_or, drop, length-drop}
use lib.Dec.{eqb}
use borrow.Author.Tests.{eqb-true}
use Rattle.relation.specs.Order.{Row, pick}
use Rattle.relation.specs.Lists.{◌∈◌, hd, tl, not_in_nil, in_cons, Ascends, anone, amore}
use Rattle.relation.specs.Rows.{Asc}
use Rattle.relation.specs.Layers.{keys_under}
use Rattle.relation.proofs.Lists.{ascends_head, ascends_tail}
use Rattle.query.specs.Meaning.{Atom, part, Distinct, follows}
use Rattle.query.specs.Meet.{meet}
use Rattle.query.specs.Solve.{standing, headed, bind, runs}
use Rattle.query.specs.Descend.{Partway, Joinable}
use Rattle.query.proofs.Meet.{meet_all, all_meet, meet_ascends}
use Rattle.query.proofs.Beyond.{no_words, in_beyond, beyond_in, beyond_asc, beyond_width, in_keys, keys_in, keys_ascend, in_flat_map, flat_map_in, headed_by, flat_map_asc}

-- the words found for the variables vs, in their sequence
unfoldable pub solve : List ℕ → List Atom → List Row
unfolding flat_map bind runs meet
solve [] atoms = [] ∷ []
solve (v ∷ vs) atoms = flat_map (headed_by (λ (k : ℕ). solve vs (map (bind v k) atoms))) (meet (runs v atoms))

unfoldable pub along : List ℕ → Row → List ℕ → Row
along vs w [] = []
along [] w (x ∷ xs) = []
along (v ∷ vs) [] (x ∷ xs) = []
along (v ∷ vs) (k ∷ w) (x ∷ xs) = pick (eqb x v) (k ∷ along vs w xs) (along vs w (x ∷ xs))

pub along_part : (vs xs : List ℕ) (v : Row) → follows vs xs ≡ true → along vs (part vs v) xs ≡ part xs v
unfolding along follows
along_part vs [] v e = refl
along_part [] (x ∷ xs) v e = absurd (false≢true e)
along_part (y ∷ vs) (x ∷ xs) v e = go (along_part vs xs v) (along_part vs (x ∷ xs) v) (eqb x y) refl e
  where
    go : (follows vs xs ≡ true → along vs (part vs v) xs ≡ part xs v) → (follows vs (x ∷ xs) ≡ true → along vs (part vs v) (x ∷ xs) ≡ part (x ∷ xs) v) → (b : Bool) → eqb x y ≡ b → pick b (follows vs xs) (follows vs (x ∷ xs)) ≡ true → pick b (get_or v y 0 ∷ along vs (part vs v) xs) (along vs (part vs v) (x ∷ xs)) ≡ get_or v x 0 ∷ part xs v
    go i j true q e = ap₂ {C = Row} (λ k l. k ∷ l) (ap (λ (z : ℕ). get_or v z 0) (sym (eqb-true x y q))) (i e)
    go i j false q e = j e

pub follow_in : (vs xs : List ℕ) {x : ℕ} → follows vs xs ≡ true → x ∈ xs → x ∈ vs
unfolding follows
follow_in vs [] e m = absurd (not_in_nil m)
follow_in [] (y ∷ xs) e m = absurd (false≢true e)
follow_in (v ∷ vs) (y ∷ xs) {x} e m = go (λ p i. follow_in vs xs p i) (λ p i. follow_in vs (y ∷ xs) p i) (eqb y v) refl e
  where
    go : (follows vs xs ≡ true → x ∈ xs → x ∈ vs) → (follows vs (y ∷ xs) ≡ true → x ∈ (y ∷ xs) → x ∈ vs) → (b : Bool) → eqb y v ≡ b → pick b (follows vs xs) (follows vs (y ∷ xs)) ≡ true → x ∈ (v ∷ vs)
    go i j true q e = ⊎_elim (λ (d : x ≡ y). hd (d ∙ eqb-true y v q)) (λ (m' : x ∈ xs). tl (i e m')) (in_cons m)
    go i j false q e = tl (j e m)

headed_some : (v : ℕ) (xs : List ℕ) → headed v xs ≡ true → 0 < length xs
unfolding headed
headed_some v [] e = absurd (false≢true e)
headed_some v (x ∷ xs) e = omega arith

headed_here : (v : ℕ) (xs : List ℕ) → headed v xs ≡ true → xs ≡ v ∷ drop 1 xs
unfolding headed
headed_here v [] e = absurd (false≢true e)
headed_here v (x ∷ xs) e = ap (λ (y : ℕ). y ∷ xs) (eqb-true x v e)

module _ (v : ℕ) (vs : List ℕ) where
  follows_in : (xs : List ℕ) → headed v xs ≡ true → follows (v ∷ vs) xs ≡ follows vs (drop 1 xs)
  unfolding follows headed
  follows_in [] e = absurd (false≢true e)
  follows_in (x ∷ xs) e = ap (λ (b : Bool). pick b (follows vs xs) (follows vs (x ∷ xs))) e

  follows_out : (xs : List ℕ) → headed v xs ≡ false → follows (v ∷ vs) xs ≡ follows vs xs
  unfolding follows headed
  follows_out [] e = refl
  follows_out (x ∷ xs) e = ap (λ (b : Bool). pick b (follows vs xs) (follows vs (x ∷ xs))) e

-- ---- one atom, where v has the word k: what it becomes, and its list, its part and its place in the order with it

module _ (v k : ℕ) where
  -- what holds of an atom that takes part, and of one that does not
  bind_cases : (P : Atom → Type 0) (a : Atom) → (headed v a.vars ≡ true → P (standing (k ∷ []) a)) → (headed v a.vars ≡ false → P a) → P (bind v k a)
  unfolding bind
  bind_cases P a f g = go (headed v a.vars) refl
    where
      go : (b : Bool) → headed v a.vars ≡ b → P (pick b (standing (k ∷ []) a) a)
      go true e = f e
      go false e = g e

  module _ (vs : List ℕ) where
    along_in : (w : Row) (xs : List ℕ) → headed v xs ≡ true → along (v ∷ vs) (k ∷ w) xs ≡ k ∷ along vs w (drop 1 xs)
    unfolding along headed
    along_in w [] e = absurd (false≢true e)
    along_in w (x ∷ xs) e = ap (λ (b : Bool). pick b (k ∷ along vs w xs) (along vs w (x ∷ xs))) e

    along_out : (w : Row) (xs : List ℕ) → headed v xs ≡ false → along (v ∷ vs) (k ∷ w) xs ≡ along vs w xs
    unfolding along headed
    along_out w [] e = refl
    along_out w (x ∷ xs) e = ap (λ (b : Bool). pick b (k ∷ along vs w xs) (along vs w (x ∷ xs))) e

    part_down : (w : Row) (a : Atom) → along (v ∷ vs) (k ∷ w) a.vars ∈ a.rows → along vs w (bind v k a).vars ∈ (bind v k a).rows
    part_down w a m =
        bind_cases (λ (b : Atom). along vs w b.vars ∈ b.rows) a
        (λ e. beyond_in (k ∷ []) a.rows (rw (along_in w a.vars e) at m))
        (λ e. rw (along_out w a.vars e) at m)

    part_up : (w : Row) (a : Atom) → along vs w (bind v k a).vars ∈ (bind v k a).rows → along (v ∷ vs) (k ∷ w) a.vars ∈ a.rows
    part_up w a =
        bind_cases (λ (b : Atom). along vs w b.vars ∈ b.rows → along (v ∷ vs) (k ∷ w) a.vars ∈ a.rows) a
        (λ e m. rw (along_in w a.vars e) (in_beyond (k ∷ []) a.rows m))
        (λ e m. rw (along_out w a.vars e) m)

    -- an atom stays partway, where one that takes part has the key k
    partway_bind : (a : Atom) → Partway (v ∷ vs) a → (headed v a.vars ≡ true → k ∈ keys_under [] a.rows) → Partway vs (bind v k a)
    partway_bind a g h =
        bind_cases (Partway vs) a
        (λ e. record {
          follow = sym (follows_in v vs a.vars e) ∙ g.follow;
          wide = λ r m. beyond_width (k ∷ []) g.wide r m ∙ sym (length-drop 1 a.vars);
          ascending = beyond_asc (k ∷ []) g.ascending;
          filled = λ d.
              let t = in_keys [] g.wide (headed_some v a.vars e) (h e) in
              let z : length t.0 ≡ 0 = omega (arith, g.wide (k ∷ t.0) t.1, ap (length {A = ℕ}) (headed_here v a.vars e), ap (length {A = ℕ}) d) in
              beyond_in (k ∷ []) a.rows (rw (no_words t.0 z) at t.1);
        })
        (λ e. record { follow = sym (follows_out v vs a.vars e) ∙ g.follow; wide = g.wide; ascending = g.ascending; filled = g.filled })

    vars_bind : (x : ℕ) (a : Atom) → (v ≡ x → ⊥) → x ∈ a.vars → x ∈ (bind v k a).vars
    vars_bind x a n m =
        bind_cases (λ (b : Atom). x ∈ b.vars) a
        (λ e. ⊎_elim (λ (d : x ≡ v). absurd (n (sym d))) (λ (i : x ∈ drop 1 a.vars). i) (in_cons (rw (headed_here v a.vars e) at m)))
        (λ e. m)

-- ---- the atoms that take part

runs_in : (v : ℕ) {a : Atom} {atoms : List Atom} → a ∈ atoms → headed v a.vars ≡ true → keys_under [] a.rows ∈ runs v atoms
unfolding runs
runs_in v {a} (hd {x = b} {xs = l} e) h =
    subst (λ (t : Bool). keys_under [] a.rows ∈ pick t (keys_under [] b.rows ∷ runs v l) (runs v l)) (sym h ∙ ap (λ (c : Atom). headed v c.vars) e) (hd (ap (λ (c : Atom). keys_under [] c.rows) e))
runs_in v {a} (tl {x = b} {xs = l} m) h = go (headed v b.vars) (runs_in v m h)
  where
    go : (t : Bool) → keys_under [] a.rows ∈ runs v l → keys_under [] a.rows ∈ pick t (keys_under [] b.rows ∷ runs v l) (runs v l)
    go true i = tl i
    go false i = i

-- the atom that a run comes from
pub record Holder (v : ℕ) (atoms : List Atom) (r : List ℕ) : Type 0 where
  pub atom : Atom
  pub inside : atom ∈ atoms
  pub heads : headed v atom.vars ≡ true
  pub run : r ≡ keys_under [] atom.rows

in_runs : (v : ℕ) (atoms : List Atom) {r : List ℕ} → r ∈ runs v atoms → Holder v atoms r
unfolding runs
in_runs v [] m = absurd (not_in_nil m)
in_runs v (b ∷ l) {r} m = go (λ i. in_runs v l i) (headed v b.vars) refl m
  where
    later : Holder v l r → Holder v (b ∷ l) r
    later t = record { atom = t.atom; inside = tl t.inside; heads = t.heads; run = t.run }

    go : (r ∈ runs v l → Holder v l r) → (t : Bool) → headed v b.vars ≡ t → r ∈ pick t (keys_under [] b.rows ∷ runs v l) (runs v l) → Holder v (b ∷ l) r
    go ih true q m =
        ⊎_elim {C = Holder v (b ∷ l) r}
        (λ (e : r ≡ keys_under [] b.rows). record { atom = b; inside = hd refl; heads = q; run = e })
        (λ (i : r ∈ runs v l). later (ih i))
        (in_cons m)
    go ih false q m = later (ih m)

-- a list that follows the variables left takes part at the first of them where it holds it
headed_held : (v : ℕ) (vs xs : List ℕ) → Distinct (v ∷ vs) → follows (v ∷ vs) xs ≡ true → v ∈ xs → headed v xs ≡ true
headed_held v vs xs s e m = go (headed v xs) refl
  where
    go : (b : Bool) → headed v xs ≡ b → b ≡ true
    go true q = refl
    go false q = absurd (ascends_head s v (follow_in vs xs (sym (follows_out v vs xs q) ∙ e) m) refl)

module _ (v : ℕ) (vs : List ℕ) (atoms : List Atom) (c : Joinable (v ∷ vs) atoms) where
  runs_ascend : (r : List ℕ) → r ∈ runs v atoms → Ascends ◌<◌ r
  runs_ascend r i =
      let s = in_runs v atoms i in
      rw s.run (keys_ascend [] (c.partway s.atom s.inside).wide (headed_some v s.atom.vars s.heads))

  -- a common key bound, the atoms are joinable in the variables left
  pub joinable_bind : {k : ℕ} → k ∈ meet (runs v atoms) → Joinable vs (map (bind v k) atoms)
  joinable_bind {k} m = record {
    partway = λ a i.
        let t = Memᴰ.of_map (bind v k) atoms i in
        subst (Partway vs) t.2 (partway_bind v k vs t.0 (c.partway t.0 t.1) (λ e. meet_all (runs v atoms) m (keys_under [] t.0.rows) (runs_in v t.1 e)));
    covered = λ x i.
        let t = c.covered x (tl i) in
        (bind v k t.0, Memᴰ.map (bind v k) t.1, vars_bind v k vs x t.0 (ascends_head c.single x i) t.2);
    single = ascends_tail c.single;
  }

  -- some atom takes part
  pub takes_part : (a : Atom) × (a ∈ atoms) × (headed v a.vars ≡ true)
  takes_part = let t = c.covered v (hd refl) in (t.0, t.1, headed_held v vs t.0.vars c.single (c.partway t.0 t.1).follow t.2)

  meets : {k : ℕ} → ((a : Atom) → a ∈ atoms → headed v a.vars ≡ true → k ∈ keys_under [] a.rows) → k ∈ meet (runs v atoms)
  meets {k} f =
      let t = takes_part in
      all_meet (runs v atoms) (runs_in v t.1 t.2) (λ r i. let s = in_runs v atoms i in rw s.run (f s.atom s.inside s.heads))

-- ---- the three facts of `solve`

-- every atom's part of the words w of vs is one of its rows
abbrev pub Parts : List ℕ → List Atom → Row → Type 0
Parts vs atoms w = (a : Atom) → a ∈ atoms → along vs w a.vars ∈ a.rows

along_none : (w : Row) (xs : List ℕ) → along [] w xs ≡ []
unfolding along
along_none w [] = refl
along_none w (x ∷ xs) = refl

follows_none : (xs : List ℕ) → follows [] xs ≡ true → xs ≡ []
unfolding follows
follows_none [] e = refl
follows_none (x ∷ xs) e = absurd (false≢true e)

pub solve_sound : (vs : List ℕ) (atoms : List Atom) → Joinable vs atoms → {w : Row} → w ∈ solve vs atoms → (length w ≡ length vs) × Parts vs atoms w
unfolding solve
solve_sound [] atoms c {w} m = (
  ap (length {A = ℕ}) (Memᴰ.eq_of_singleton m),
  λ a i. Memᴰ.cast (along_none w a.vars) ((c.partway a i).filled (follows_none a.vars (c.partway a i).follow)),
)
solve_sound (v ∷ vs) atoms c {w} m =
    let rest : ℕ → List Row = λ k. solve vs (map (bind v k) atoms) in
    let t = in_flat_map (headed_by rest) (meet (runs v atoms)) m in
    let u = Memᴰ.of_map (λ (r : Row). t.0 ∷ r) (rest t.0) t.2 in
    let ih = solve_sound vs (map (bind v t.0) atoms) (joinable_bind v vs atoms c t.1) u.1 in
    subst (λ (w : Row). (length w ≡ suc (length vs)) × Parts (v ∷ vs) atoms w) u.2
    (ap suc ih.0, λ a i. part_up v t.0 vs u.0 a (ih.1 (bind v t.0 a) (Memᴰ.map (bind v t.0) i)))

pub solve_complete : (vs : List ℕ) (atoms : List Atom) → Joinable vs atoms → (w : Row) → length w ≡ length vs → Parts vs atoms w → w ∈ solve vs atoms
unfolding solve
solve_complete [] atoms c [] e p = hd refl
solve_complete [] atoms c (k ∷ w) e p = absurd (omega arith)
solve_complete (v ∷ vs) atoms c [] e p = absurd (omega arith)
solve_complete (v ∷ vs) atoms c (k ∷ w) e p =
    let m : k ∈ meet (runs v atoms) =
    meets v vs atoms c
    (λ a i h. keys_in [] (c.partway a i).wide (headed_some v a.vars h) (along vs w (drop 1 a.vars)) (rw (along_in v k vs w a.vars h) at (p a i))) in
    flat_map_in (headed_by (λ (k : ℕ). solve vs (map (bind v k) atoms))) m
    (Memᴰ.map (λ (r : Row). k ∷ r)
    (solve_complete vs (map (bind v k) atoms) (joinable_bind v vs atoms c m) w (omega arith)
    (λ a i. let t = Memᴰ.of_map (bind v k) atoms i in subst (λ (a : Atom). along vs w a.vars ∈ a.rows) t.2 (part_down v k vs w t.0 (p t.0 t.1)))))

pub solve_ascends : (vs : List ℕ) (atoms : List Atom) → Joinable vs atoms → Asc (solve vs atoms)
unfolding solve
solve_ascends [] atoms c = amore (λ y m. absurd (not_in_nil m)) anone
solve_ascends (v ∷ vs) atoms c =
    flat_map_asc (λ (k : ℕ). solve vs (map (bind v k) atoms)) (meet_ascends (runs v atoms) (runs_ascend v vs atoms c))
    (λ k m. solve_ascends vs (map (bind v k) atoms) (joinable_bind v vs atoms c m))
