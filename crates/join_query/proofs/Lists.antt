-- What the checks' loops find, and what each test of a query tells.
-- Idea: an order reaches all of a list exactly when the list follows it, so one walk serves check 10 and the plan.
use Prim.Native.Nat.{ℕ, suc, ◌+◌, ◌≤◌, ◌<◌}
use native.Mathlib.Omega.{arith}
use native.Mathlib.Numerals.{add-one}
use native.Mathlib.Decide.{dec_lt}
use mathlib.Core.Path.{◌≡◌, refl, sym, ap, ap₂, ◌∙◌}
use mathlib.Core.Bool.{Bool, true, false, ◌&&◌, ◌||◌, not, beq, false≢true}
use mathlib.Core.Logic.{◌⊎◌, inl, inr, ⊎_elim}
use mathlib.Core.List.{List, [], ◌∷◌, ◌++◌, map}
use lib.ListN.{length, get_or, take, drop, length-take, drop_of_length-le}
use lib.Seq.{drop-cons, drop-drop, get_or-take, length-take-le, take-suc}
use lib.Dec.{eqb, ltb, leb, eqb-zero-suc, eqb-suc-suc}
use borrow.Author.Tests.{eqb-true, eq-eqb, ne_eqb, le-leb, lt-leb, leb-true, ltb-true, not-true, not-false}
use Rattle.relation.specs.Order.{pick}
use Rattle.relation.specs.Tests as index
use Rattle.relation.proofs.Tests.{not_both, and_true, and_left, and_right, or_right, gate_shut, gate_open, every_at}
use Rattle.query.specs.Meaning.{follows}
use Rattle.query.specs.Meet.{has}
use Rattle.query.specs.Solve.{headed}
use Rattle.query.specs.Checks.{some, permutes, listed, covers}
use Rattle.query.proofs.Meet.{get_or_in, in_get_or}
use Rattle.query.proofs.Checks.{permutes_true, listed_is, listed_true, some_in, in_some}
use Rattle.column_trie.specs.Limits.{max_arity}
use Rattle.column_trie.specs.Table.{grade_at, undamaged}
use Rattle.column_trie.specs.declared.ColumnTrie.{ColumnTrie}
use Rattle.query.specs.Limits.{max_atoms}
use Rattle.join_query.specs.Query.{max_tables, max_variables, no_atom, atom_at, table_at, atom_table, order_of, vars_of, var_at, atoms_in, lists_of, order_ok, names_some, named_ok, listed_at, list_ok, column_ok, binds_only, one_kind, whole_rows, names, named, sound_at, shape_ok, join_number}
use Rattle.join_query.specs.Facts.{Ordered, Named}
use Rattle.join_query.specs.Checking.{reached, Listed}
use Rattle.join_query.specs.declared.Atom.{Atom}
use Rattle.join_query.specs.declared.Query.{Query}
use Rattle.join_query.specs.declared.Tables.{Tables}

-- ---- tests of two

pub either : (a b : Bool) → (a || b) ≡ true → (a ≡ true) ⊎ (b ≡ true)
either true b e = inl refl
either false b e = inr e

-- the first test alone, and the second where the first fails
pub or_first : (a b : Bool) → a ≡ true → a ≡ (a || b)
or_first a b e = e ∙ sym (ap (λ (x : Bool). x || b) e)

pub or_second : (a b : Bool) → a ≡ false → b ≡ (a || b)
or_second a b e = sym (ap (λ (x : Bool). x || b) e)

-- a test b that is made only where a holds
pub made : (a b : Bool) → (not a || b) ≡ true → a ≡ true → b ≡ true
made true b e h = e
made false b e h = not_both false h refl

pub make : (a b : Bool) → (a ≡ true → b ≡ true) → (not a || b) ≡ true
make true b f = f refl
make false b f = refl

-- ---- a list by place

pub headed_at : (l : List ℕ) (v j : ℕ) → j < length l → headed v (drop j l) ≡ eqb (get_or l j 0) v
unfolding headed
headed_at l v j h = ap (headed v) (drop-cons l j 0 h)

pub headed_past : (l : List ℕ) (v j : ℕ) → length l ≤ j → headed v (drop j l) ≡ false
unfolding headed
headed_past l v j h = ap (headed v) (drop_of_length-le l h)

pub headed_inside : (v j : ℕ) (xs : List ℕ) → headed v (drop j xs) ≡ true → j < length xs
unfolding headed
headed_inside v j xs e = go (dec_lt j (length xs))
  where
    go : Dec (j < length xs) → j < length xs
    go (yes h) = h
    go (no h) = absurd (false≢true (sym (ap (headed v) (drop_of_length-le xs (let g : length xs ≤ j = omega arith in g))) ∙ e))

-- ---- how far an order reaches into a list

-- one variable more
reached_snoc : (vs : List ℕ) (v : ℕ) (xs : List ℕ) → reached (vs ++ v ∷ []) xs ≡ pick (headed v (drop (reached vs xs) xs)) (suc (reached vs xs)) (reached vs xs)
unfolding reached
reached_snoc [] v xs = refl
reached_snoc (w ∷ vs) v xs = go (headed w xs) (reached_snoc vs v (drop 1 xs)) (reached_snoc vs v xs)
  where
    step : (b : Bool) (n m : ℕ) → suc (pick b n m) ≡ pick b (suc n) (suc m)
    step true n m = refl
    step false n m = refl

    go : (b : Bool) → reached (vs ++ v ∷ []) (drop 1 xs) ≡ pick (headed v (drop (reached vs (drop 1 xs)) (drop 1 xs))) (suc (reached vs (drop 1 xs))) (reached vs (drop 1 xs)) → reached (vs ++ v ∷ []) xs ≡ pick (headed v (drop (reached vs xs) xs)) (suc (reached vs xs)) (reached vs xs) → pick b (suc (reached (vs ++ v ∷ []) (drop 1 xs))) (reached (vs ++ v ∷ []) xs) ≡ pick (headed v (drop (pick b (suc (reached vs (drop 1 xs))) (reached vs xs)) xs)) (suc (pick b (suc (reached vs (drop 1 xs))) (reached vs xs))) (pick b (suc (reached vs (drop 1 xs))) (reached vs xs))
    go true p q =
        let r = reached vs (drop 1 xs) in
        let d : drop r (drop 1 xs) ≡ drop (suc r) xs = drop-drop r 1 xs ∙ ap (λ (n : ℕ). drop n xs) (let e : 1 + r ≡ suc r = omega arith in e) in
        ap suc p ∙ step (headed v (drop r (drop 1 xs))) (suc r) r ∙ ap (λ (ys : List ℕ). pick (headed v ys) (suc (suc r)) (suc r)) d
    go false p q = q

-- the same over the first of an order, as a loop comes by it
module _ (order xs : List ℕ) (d : ℕ) (h : d < length order) where
  next : reached (take (d + 1) order) xs ≡ pick (headed (get_or order d 0) (drop (reached (take d order) xs) xs)) (suc (reached (take d order) xs)) (reached (take d order) xs)
  next = ap (λ (l : List ℕ). reached l xs) (ap (λ (n : ℕ). take n order) (add-one d) ∙ take-suc order d 0 h) ∙ reached_snoc (take d order) (get_or order d 0) xs

  pub reached_in : {j : ℕ} → j ≡ reached (take d order) xs → headed (get_or order d 0) (drop j xs) ≡ true → j + 1 ≡ reached (take (d + 1) order) xs
  reached_in {j} e t =
      let r = reached (take d order) xs in
      let u : headed (get_or order d 0) (drop r xs) ≡ true = rw e at t in
      add-one j ∙ ap suc e ∙ sym (next ∙ ap (λ (b : Bool). pick b (suc r) r) u)

  pub reached_out : {j : ℕ} → j ≡ reached (take d order) xs → headed (get_or order d 0) (drop j xs) ≡ false → j ≡ reached (take (d + 1) order) xs
  reached_out {j} e t =
      let r = reached (take d order) xs in
      let u : headed (get_or order d 0) (drop r xs) ≡ false = rw e at t in
      e ∙ sym (next ∙ ap (λ (b : Bool). pick b (suc r) r) u)

-- a list follows an order exactly when the order reaches all of it
follows_reached : (order xs : List ℕ) → follows order xs ≡ eqb (reached order xs) (length xs)
unfolding follows reached headed
follows_reached [] [] = refl
follows_reached [] (x ∷ xs) = sym (eqb-zero-suc (length xs))
follows_reached (v ∷ vs) [] = follows_reached vs []
follows_reached (v ∷ vs) (x ∷ xs) = go (eqb x v) (follows_reached vs xs) (follows_reached vs (x ∷ xs))
  where
    go : (b : Bool) → follows vs xs ≡ eqb (reached vs xs) (length xs) → follows vs (x ∷ xs) ≡ eqb (reached vs (x ∷ xs)) (suc (length xs)) → pick b (follows vs xs) (follows vs (x ∷ xs)) ≡ eqb (pick b (suc (reached vs xs)) (reached vs (x ∷ xs))) (suc (length xs))
    go true p q = p ∙ sym (eqb-suc-suc (reached vs xs) (length xs))
    go false p q = q

-- ---- 8: the order

module _ (q : Query) where
  pub too_many : max_variables < q.n → false ≡ order_ok q
  unfolding order_ok
  too_many h = gate_shut (leb q.n max_variables) (permutes q.n (order_of q)) (lt-leb q.n max_variables h)

  -- of the first n numbers, as the code asks it
  pub order_asked : length q.order ≡ max_variables → q.n ≤ max_variables → permutes (length (order_of q)) (order_of q) ≡ order_ok q
  unfolding order_ok
  order_asked long few = ap (λ (n : ℕ). permutes n (order_of q)) (length-take-le q.n q.order (omega (arith, long))) ∙ gate_open (leb q.n max_variables) (permutes q.n (order_of q)) (permutes q.n (order_of q)) (le-leb q.n max_variables few) refl

-- ---- 9: the atoms' tables

module _ (count : ℕ) (q : Query) where
  abbrev pub names_one : ℕ → Bool
  names_one i = names_some count (atom_at q i)

  pub atoms_many : max_atoms < q.atom_count → false ≡ named_ok count q
  unfolding named_ok
  atoms_many h = gate_shut (leb q.atom_count max_atoms) (leb count max_tables && index.every q.atom_count names_one) (lt-leb q.atom_count max_atoms h)

  module _ (few : q.atom_count ≤ max_atoms) where
    past : (b : Bool) → b ≡ (leb count max_tables && index.every q.atom_count names_one) → b ≡ named_ok count q
    unfolding named_ok
    past b e = gate_open (leb q.atom_count max_atoms) (leb count max_tables && index.every q.atom_count names_one) b (le-leb q.atom_count max_atoms few) e

    pub tables_many : max_tables < count → false ≡ named_ok count q
    tables_many h = past false (gate_shut (leb count max_tables) (index.every q.atom_count names_one) (lt-leb count max_tables h))

    pub names_all : (b : Bool) → count ≤ max_tables → b ≡ index.every q.atom_count names_one → b ≡ named_ok count q
    names_all b h e = past b (gate_open (leb count max_tables) (index.every q.atom_count names_one) b (le-leb count max_tables h) e)

-- what the tests tell
pub order_told : (q : Query) → order_ok q ≡ true → Ordered q
unfolding order_ok
order_told q e = record {
  few = leb-true q.n max_variables (and_left (leb q.n max_variables) (permutes q.n (order_of q)) e);
  permutation = permutes_true q.n (order_of q) (and_right (leb q.n max_variables) (permutes q.n (order_of q)) e);
}

-- ---- 10: an atom's list

module _ (q : Query) (o : order_ok q ≡ true) (a : Atom) (arity : ℕ) (whole : length a.variables ≡ max_arity) where
  pub list_long : max_arity < a.len → false ≡ listed_at q a arity
  unfolding listed_at
  list_long h = gate_shut (leb a.len max_arity) (listed q.n (order_of q) arity (vars_of a)) (lt-leb a.len max_arity h)

  module _ (few : a.len ≤ max_arity) where
    exact : listed_at q a arity ≡ (eqb (length (vars_of a)) arity && follows (order_of q) (vars_of a))
    unfolding listed_at
    exact = ap (λ (b : Bool). b && listed q.n (order_of q) arity (vars_of a)) (le-leb a.len max_arity few) ∙ listed_is (order_told q o).permutation arity (vars_of a)

    lists : length (vars_of a) ≡ a.len
    lists = length-take-le a.len a.variables (omega (arith, whole))

    pub list_other : (a.len ≡ arity → ⊥) → false ≡ listed_at q a arity
    list_other f = gate_shut (eqb (length (vars_of a)) arity) (follows (order_of q) (vars_of a)) (ne_eqb (length (vars_of a)) arity (λ e. f (sym lists ∙ e))) ∙ sym exact

    pub list_reached : a.len ≡ arity → {r : ℕ} → r ≡ reached (order_of q) (vars_of a) → eqb r a.len ≡ listed_at q a arity
    list_reached e {r} d =
        gate_open (eqb (length (vars_of a)) arity) (follows (order_of q) (vars_of a)) (eqb r a.len) (eq-eqb (length (vars_of a)) arity (lists ∙ e))
        (ap (λ (x : ℕ). eqb x a.len) d ∙ ap (eqb (reached (order_of q) (vars_of a))) (sym lists) ∙ sym (follows_reached (order_of q) (vars_of a)))
        ∙ sym exact

-- ---- 11 and 6: some of the first n pass

module _ {A : Type 0} (p : A → Bool) (l : List A) (n : ℕ) (d : A) (fits : n ≤ length l) where
  some_here : (i : ℕ) → i < n → p (get_or l i d) ≡ true → some p (take n l) ≡ true
  some_here i h e = in_some p (get_or_in (take n l) i d (omega (arith, length-take-le n l fits))) (ap p (get_or-take n l i d h) ∙ e)

  some_nowhere : ((i : ℕ) → i < n → p (get_or l i d) ≡ false) → some p (take n l) ≡ false
  some_nowhere f = go (some p (take n l)) refl
    where
      go : (b : Bool) → some p (take n l) ≡ b → b ≡ false
      go true e =
          let t = some_in p (take n l) e in
          let u = in_get_or d t.1 in
          let h : u.0 < n = omega (arith, u.1, length-take-le n l fits) in
          absurd (false≢true (sym (f u.0 h) ∙ ap p (sym (get_or-take n l u.0 d h) ∙ u.2) ∙ t.2))
      go false e = refl

some_map : {A B : Type 0} (p : B → Bool) (f : A → B) (l : List A) → some p (map f l) ≡ some (λ (x : A). p (f x)) l
unfolding some
some_map p f [] = refl
some_map p f (x ∷ l) = ap (λ (b : Bool). p (f x) || b) (some_map p f l)

module _ (q : Query) (whole : length q.atoms ≡ max_atoms) (few : q.atom_count ≤ max_atoms) where
  pub held_at : (v i : ℕ) → i < q.atom_count → has (vars_of (atom_at q i)) v ≡ true → some (λ (l : List ℕ). has l v) (lists_of q) ≡ true
  held_at v i h e = some_map (λ (l : List ℕ). has l v) vars_of (atoms_in q) ∙ some_here (λ (a : Atom). has (vars_of a) v) q.atoms q.atom_count no_atom (omega arith) i h e

  pub held_nowhere : (v : ℕ) → ((i : ℕ) → i < q.atom_count → has (vars_of (atom_at q i)) v ≡ false) → some (λ (l : List ℕ). has l v) (lists_of q) ≡ false
  held_nowhere v f = some_map (λ (l : List ℕ). has l v) vars_of (atoms_in q) ∙ some_nowhere (λ (a : Atom). has (vars_of a) v) q.atoms q.atom_count no_atom (omega arith) f

  pub named_at : (t i : ℕ) → i < q.atom_count → names t (atom_at q i) ≡ true → named q t ≡ true
  unfolding named
  named_at t i h e = some_here (names t) q.atoms q.atom_count no_atom (omega arith) i h e

-- an atom names its table, its maker's where it is laid over, and no other
pub names_table : (a : Atom) → names a.table a ≡ true
names_table a = ap (λ (b : Bool). b || (a.laid_over && eqb a.maker a.table)) (eq-eqb a.table a.table refl)

pub names_maker : (a : Atom) → a.laid_over ≡ true → names a.maker a ≡ true
names_maker a e = or_right (eqb a.table a.maker) (a.laid_over && eqb a.maker a.maker) (and_true a.laid_over (eqb a.maker a.maker) e (eq-eqb a.maker a.maker refl))

pub names_one_lem : (t : ℕ) (a : Atom) → names t a ≡ true → (a.table ≡ t) ⊎ ((a.laid_over ≡ true) × (a.maker ≡ t))
names_one_lem t a e =
    ⊎_elim
    (λ d. inl (eqb-true a.table t d))
    (λ d. inr (and_left a.laid_over (eqb a.maker t) d, eqb-true a.maker t (and_right a.laid_over (eqb a.maker t) d)))
    (either (eqb a.table t) (a.laid_over && eqb a.maker t) e)

module _ (pool : List ℕ) (ts : Tables) (q : Query) (t : ℕ) where
  pub sound_unnamed : named q t ≡ false → sound_at pool ts q t ≡ true
  unfolding sound_at
  sound_unnamed e = ap (λ (b : Bool). not b || undamaged pool (table_at ts t)) e

  pub sound_named : named q t ≡ true → sound_at pool ts q t ≡ undamaged pool (table_at ts t)
  unfolding sound_at
  sound_named e = ap (λ (b : Bool). not b || undamaged pool (table_at ts t)) e

-- ---- 15: the kinds of a variable's columns

-- column j: of the other kind, of this kind, or another variable's
module _ (t : ColumnTrie) (a : Atom) (v : ℕ) (grade : Bool) (j : ℕ) where
  abbrev same_kind : Bool
  same_kind = beq (grade_at t j) grade

  pub column_fails : var_at a j ≡ v → not same_kind ≡ true → column_ok t a v grade j ≡ false
  column_fails e h = ap₂ (λ (x y : Bool). not x || y) (eq-eqb (var_at a j) v e) (not-true same_kind h)

  pub column_same : not same_kind ≡ false → column_ok t a v grade j ≡ true
  column_same h = or_right (not (eqb (var_at a j) v)) same_kind (not-false same_kind h)

  pub column_other : (var_at a j ≡ v → ⊥) → column_ok t a v grade j ≡ true
  column_other f = ap (λ (x : Bool). not x || same_kind) (ne_eqb (var_at a j) v f)

-- a variable: only plain columns, only grades, or both
module _ (ts : Tables) (q : Query) (v : ℕ) where
  pub plain_alone : binds_only ts q v false ≡ true → one_kind ts q v ≡ true
  plain_alone e = ap (λ (x : Bool). x || binds_only ts q v true) e

  pub grades_alone : binds_only ts q v true ≡ true → one_kind ts q v ≡ true
  grades_alone e = or_right (binds_only ts q v false) (binds_only ts q v true) e

-- ---- what the tests tell

module _ (count : ℕ) (a : Atom) (e : names_some count a ≡ true) where
  pub table_there : a.table < count
  table_there = ltb-true a.table count (and_left (ltb a.table count) (not a.laid_over || ltb a.maker count) e)

  pub maker_there : a.laid_over ≡ true → a.maker < count
  maker_there l =
      ltb-true a.maker count
      (made a.laid_over (ltb a.maker count) (and_right (ltb a.table count) (not a.laid_over || ltb a.maker count) e) l)

pub names_told : (count : ℕ) (q : Query) → named_ok count q ≡ true → (i : ℕ) → i < q.atom_count → names_some count (atom_at q i) ≡ true
unfolding named_ok
names_told count q e =
    let c = leb count max_tables in
    let r = index.every q.atom_count (names_one count q) in
    every_at (names_one count q) q.atom_count (and_right c r (and_right (leb q.atom_count max_atoms) (c && r) e))

pub named_told : (count : ℕ) (q : Query) → named_ok count q ≡ true → Named count q
unfolding named_ok
named_told count q e =
    let c = leb count max_tables in
    let r = index.every q.atom_count (names_one count q) in
    let f = and_right (leb q.atom_count max_atoms) (c && r) e in
    record {
      few = leb-true q.atom_count max_atoms (and_left (leb q.atom_count max_atoms) (c && r) e);
      bounded = leb-true count max_tables (and_left c r f);
      each = λ i h. table_there count (atom_at q i) (names_told count q e i h);
      maker = λ i h l. maker_there count (atom_at q i) (names_told count q e i h) l;
    }

-- of one atom's list
pub record Listing (q : Query) (a : Atom) (arity : ℕ) : Type 0 where
  pub short : a.len ≤ max_arity
  pub exact : length (vars_of a) ≡ arity
  pub follow : follows (order_of q) (vars_of a) ≡ true

pub listed_told : (q : Query) (a : Atom) (arity : ℕ) → listed_at q a arity ≡ true → Listing q a arity
unfolding listed_at
listed_told q a arity e =
    let t = listed_true q.n (order_of q) arity (vars_of a) (and_right (leb a.len max_arity) (listed q.n (order_of q) arity (vars_of a)) e) in
    record { short = leb-true a.len max_arity (and_left (leb a.len max_arity) (listed q.n (order_of q) arity (vars_of a)) e); exact = t.0; follow = t.1 }

pub lists_told : (ts : Tables) (q : Query) → named_ok ts.count q ≡ true → index.every q.atom_count (list_ok ts q) ≡ true → Listed q
lists_told ts q n e = record {
  few = (named_told ts.count q n).few;
  short = λ i h. (listed_told q (atom_at q i) (table_at ts (atom_at q i).table).arity (every_at (list_ok ts q) q.atom_count e i h)).short;
}

-- the arity of an atom's table
pub arity_short : (ts : Tables) (q : Query) → index.every q.atom_count (list_ok ts q) ≡ true → (i : ℕ) → i < q.atom_count → (atom_table ts q i).arity ≤ max_arity
arity_short ts q e i h =
    let l = listed_told q (atom_at q i) (atom_table ts q i).arity (every_at (list_ok ts q) q.atom_count e i h) in
    omega (arith, l.exact, l.short, length-take (atom_at q i).len (atom_at q i).variables)

-- ---- the number

module _ (pool : List ℕ) (ts : Tables) (q : Query) (len : ℕ) where
  abbrev eight : Bool → Bool → Bool → Bool → Bool → Bool → Bool → Bool → ℕ
  eight a b c d k w e s = pick (not a) 8 (pick (not b) 9 (pick (not c) 10 (pick (not d) 11 (pick (not k) 15 (pick (not w) 16 (pick (not e) 6 (pick (not s) 17 0)))))))

  abbrev lists_pass : Bool
  lists_pass = index.every q.atom_count (list_ok ts q)

  abbrev kinds_pass : Bool
  kinds_pass = index.every q.n (one_kind ts q)

  abbrev tables_pass : Bool
  tables_pass = index.every ts.count (sound_at pool ts q)

  abbrev shapes_pass : Bool
  shapes_pass = index.every q.atom_count (shape_ok ts q)

  pub record Passed : Type 0 where
    pub order : order_ok q ≡ true
    pub names : named_ok ts.count q ≡ true
    pub lists : lists_pass ≡ true
    pub covered : covers q.n (lists_of q) ≡ true
    pub kinds : kinds_pass ≡ true
    pub window : whole_rows q.n len ≡ true
    pub sound : tables_pass ≡ true
    pub shapes : shapes_pass ≡ true

  number : {a b c d k w e s : Bool} → order_ok q ≡ a → named_ok ts.count q ≡ b → lists_pass ≡ c → covers q.n (lists_of q) ≡ d → kinds_pass ≡ k → whole_rows q.n len ≡ w → tables_pass ≡ e → shapes_pass ≡ s → eight a b c d k w e s ≡ join_number pool ts q len
  unfolding join_number
  number p r l t g v u h i = eight (sym p i) (sym r i) (sym l i) (sym t i) (sym g i) (sym v i) (sym u i) (sym h i)

  pub number_8 : order_ok q ≡ false → 8 ≡ join_number pool ts q len
  number_8 e = number e refl refl refl refl refl refl refl

  module _ (o : order_ok q ≡ true) where
    pub number_9 : named_ok ts.count q ≡ false → 9 ≡ join_number pool ts q len
    number_9 e = number o e refl refl refl refl refl refl

    module _ (n : named_ok ts.count q ≡ true) where
      pub number_10 : lists_pass ≡ false → 10 ≡ join_number pool ts q len
      number_10 e = number o n e refl refl refl refl refl

      module _ (l : lists_pass ≡ true) where
        pub number_11 : covers q.n (lists_of q) ≡ false → 11 ≡ join_number pool ts q len
        number_11 e = number o n l e refl refl refl refl

        module _ (c : covers q.n (lists_of q) ≡ true) where
          pub number_15 : kinds_pass ≡ false → 15 ≡ join_number pool ts q len
          number_15 e = number o n l c e refl refl refl

          module _ (k : kinds_pass ≡ true) where
            pub number_16 : whole_rows q.n len ≡ false → 16 ≡ join_number pool ts q len
            number_16 e = number o n l c k e refl refl

            module _ (w : whole_rows q.n len ≡ true) where
              pub number_6 : tables_pass ≡ false → 6 ≡ join_number pool ts q len
              number_6 e = number o n l c k w e refl

              module _ (u : tables_pass ≡ true) where
                pub number_17 : shapes_pass ≡ false → 17 ≡ join_number pool ts q len
                number_17 e = number o n l c k w u e

                pub number_0 : shapes_pass ≡ true → 0 ≡ join_number pool ts q len
                number_0 e = number o n l c k w u e

  -- and 0 tells that every check passed
  pub passed_all : join_number pool ts q len ≡ 0 → Passed
  passed_all z = go (order_ok q) (named_ok ts.count q) lists_pass (covers q.n (lists_of q)) kinds_pass (whole_rows q.n len) tables_pass shapes_pass refl refl refl refl refl refl refl refl
    where
      go : (a b c d k w e s : Bool) → order_ok q ≡ a → named_ok ts.count q ≡ b → lists_pass ≡ c → covers q.n (lists_of q) ≡ d → kinds_pass ≡ k → whole_rows q.n len ≡ w → tables_pass ≡ e → shapes_pass ≡ s → Passed
      go true true true true true true true true p r l t g v u h = record { order = p; names = r; lists = l; covered = t; kinds = g; window = v; sound = u; shapes = h }
      go true true true true true true true false p r l t g v u h = absurd (omega (arith, z, number p r l t g v u h))
      go true true true true true true false s p r l t g v u h = absurd (omega (arith, z, number p r l t g v u h))
      go true true true true true false e s p r l t g v u h = absurd (omega (arith, z, number p r l t g v u h))
      go true true true true false w e s p r l t g v u h = absurd (omega (arith, z, number p r l t g v u h))
      go true true true false k w e s p r l t g v u h = absurd (omega (arith, z, number p r l t g v u h))
      go true true false d k w e s p r l t g v u h = absurd (omega (arith, z, number p r l t g v u h))
      go true false c d k w e s p r l t g v u h = absurd (omega (arith, z, number p r l t g v u h))
      go false b c d k w e s p r l t g v u h = absurd (omega (arith, z, number p r l t g v u h))
