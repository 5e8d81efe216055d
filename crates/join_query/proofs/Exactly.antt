-- Each number of the checks is given exactly when documents 01 and 02 say: from the facts of a query, and not from the tests that the code makes. A test too strict
-- or too lax would be refused here. What `join` answers crates/demand_3 says from these.
use Prim.Native.Nat.{ℕ, zero, suc, ◌*◌, ◌/◌, ◌%◌, ◌<◌}
use native.Mathlib.Omega.{arith}
use native.Mathlib.Nat.{mul-mod_left, div-add-mod'}
use mathlib.Core.Path.{◌≡◌, refl, sym, subst, ap, ◌∙◌}
use mathlib.Core.Bool.{Bool, true, false, ◌&&◌, ◌||◌, not, beq}
use mathlib.Core.Logic.{◌⊎◌, inl, inr, ⊎_elim}
use mathlib.Core.List.Memᴰ
use mathlib.Core.List.{List}
use lib.ListN.{length}
use lib.Seq.{get_or-take, length-take-le}
use lib.Dec.{eqb, ltb, leb}
use borrow.Author.Tests.{eqb-true, eq-eqb, le-leb, lt-ltb}
use Rattle.relation.specs.Order.{pick}
use Rattle.relation.specs.Lists.{◌∈◌}
use Rattle.relation.specs.Exactly.{Exactly}
use Rattle.relation.specs.Tests as index
use Rattle.relation.proofs.Tests.{and_true, or_right, not_both, every_at, every_all}
use Rattle.relation.proofs.Sequence.{exactly_then, exactly_same, turned, here, later, neither}
use Rattle.query.specs.Meaning.{follows}
use Rattle.query.specs.Checks.{permutes, listed, covers}
use Rattle.query.specs.Window.{Progress}
use Rattle.query.specs.Outcome.{told, refused}
use Rattle.query.proofs.Meet.{get_or_in, in_get_or}
use Rattle.query.proofs.Checks.{true_permutes, listed_is, follows_sublist, sublist_follows, some_in, covers_true, true_covers}
use Rattle.query.proofs.Solved.{follow_in}
use Rattle.column_trie.specs.Limits.{max_arity}
use Rattle.column_trie.specs.Table.{grade_at, Undamaged}
use Rattle.column_trie.specs.declared.ColumnTrie.{ColumnTrie}
use Rattle.column_trie.proofs.Damage.{undamaged_told, told_undamaged}
use Rattle.laid_over.specs.Shape.{same_shape, SameShape}
use Rattle.std.specs.Cmp.{booleans_Decides}
use Rattle.laid_over.proofs.Shape.{shape_decides}
use Rattle.query.specs.Limits.{max_atoms}
use Rattle.join_query.specs.Query.{max_tables, max_variables, no_atom, atom_at, table_at, atom_table, atom_maker, order_of, vars_of, var_at, atoms_in, lists_of, order_ok, named_ok, listed_at, list_ok, column_ok, columns_ok, binds_only, one_kind, whole_rows, names, named, sound_at, shape_ok, join_number}
use Rattle.join_query.specs.Facts.{Typed, Ordered, Named, Follows, AllFollow, Covered, HasColumn, SameKinds, WholeRows, SoundTables, SameShapes, Passing}
use Rattle.join_query.specs.Outcome.{answered}
use Rattle.join_query.specs.declared.Atom.{Atom}
use Rattle.join_query.specs.declared.Query.{Query}
use Rattle.join_query.specs.declared.Tables.{Tables}
use Rattle.join_query.proofs.Lists.{either, made, make, names_one, order_told, named_told, listed_told, named_at, names_table, names_maker, names_one_lem, sound_named, sound_unnamed, plain_alone, grades_alone}

-- ---- each test decides its fact, where the facts before it hold

order_decides : (q : Query) → Exactly (order_ok q ≡ true) (Ordered q)
unfolding order_ok
order_decides q = (
  order_told q,
  λ o. and_true (leb q.n max_variables) (permutes q.n (order_of q)) (le-leb q.n max_variables o.few) (true_permutes q.n (order_of q) o.permutation),
)

names_decide : (count : ℕ) (q : Query) → Exactly (named_ok count q ≡ true) (Named count q)
unfolding named_ok
names_decide count q = (named_told count q, back)
  where
    one : Named count q → (i : ℕ) → i < q.atom_count → names_one count q i ≡ true
    one f i h =
        let a = atom_at q i in
        and_true (ltb a.table count) (not a.laid_over || ltb a.maker count) (lt-ltb a.table count (f.each i h))
        (make a.laid_over (ltb a.maker count) (λ e. lt-ltb a.maker count (f.maker i h e)))

    back : Named count q → named_ok count q ≡ true
    back f =
        and_true (leb q.atom_count max_atoms) (leb count max_tables && index.every q.atom_count (names_one count q)) (le-leb q.atom_count max_atoms f.few)
        (and_true (leb count max_tables) (index.every q.atom_count (names_one count q)) (le-leb count max_tables f.bounded) (every_all (names_one count q) q.atom_count (one f)))

list_decides : (q : Query) (a : Atom) (arity : ℕ) → Ordered q → length a.variables ≡ max_arity → Exactly (listed_at q a arity ≡ true) (Follows q a arity)
unfolding listed_at
list_decides q a arity o whole = (tells, back)
  where
    tells : listed_at q a arity ≡ true → Follows q a arity
    tells e =
        let l = listed_told q a arity e in
        record {
          exact = sym (length-take-le a.len a.variables (omega (arith, whole, l.short))) ∙ l.exact;
          short = l.short;
          below = λ x m. o.permutation.below x (follow_in (order_of q) (vars_of a) l.follow m);
          strictly = follows_sublist (order_of q) (vars_of a) l.follow;
        }

    back : Follows q a arity → listed_at q a arity ≡ true
    back f =
        let long : length (vars_of a) ≡ arity = length-take-le a.len a.variables (omega (arith, whole, f.short)) ∙ f.exact in
        and_true (leb a.len max_arity) (listed q.n (order_of q) arity (vars_of a)) (le-leb a.len max_arity f.short)
        (listed_is o.permutation arity (vars_of a)
        ∙ and_true (eqb (length (vars_of a)) arity) (follows (order_of q) (vars_of a)) (eq-eqb (length (vars_of a)) arity long) (sublist_follows (order_of q) (vars_of a) f.strictly))

column_decides : (t : ColumnTrie) (a : Atom) (v : ℕ) (grade : Bool) (j : ℕ) → Exactly (column_ok t a v grade j ≡ true) (var_at a j ≡ v → grade_at t j ≡ grade)
column_decides t a v grade j = (
  λ e d. (booleans_Decides (grade_at t j) grade).0 (sym (ap (λ (b : Bool). not b || beq (grade_at t j) grade) (eq-eqb (var_at a j) v d)) ∙ e),
  λ f. back f (eqb (var_at a j) v) refl,
)
  where
    back : (var_at a j ≡ v → grade_at t j ≡ grade) → (b : Bool) → eqb (var_at a j) v ≡ b → (not b || beq (grade_at t j) grade) ≡ true
    back f true e = (booleans_Decides (grade_at t j) grade).1 (f (eqb-true (var_at a j) v e))
    back f false e = refl

-- every column that v binds is of this kind
abbrev Only : Tables → Query → ℕ → Bool → Type 0
Only ts q v grade = (i j : ℕ) → HasColumn q i j → var_at (atom_at q i) j ≡ v → grade_at (atom_table ts q i) j ≡ grade

only_decides : (ts : Tables) (q : Query) (v : ℕ) (grade : Bool) → Exactly (binds_only ts q v grade ≡ true) (Only ts q v grade)
only_decides ts q v grade = (
  λ e i j c. (column i j).0 (every_at (test i) (atom_at q i).len (every_at (columns_ok ts q v grade) q.atom_count e i c.atom) j c.place),
  λ f. every_all (columns_ok ts q v grade) q.atom_count (λ i h. every_all (test i) (atom_at q i).len (λ j k. (column i j).1 (f i j (record { atom = h; place = k })))),
)
  where
    test : ℕ → ℕ → Bool
    test i = column_ok (atom_table ts q i) (atom_at q i) v grade

    column : (i j : ℕ) → Exactly (test i j ≡ true) (var_at (atom_at q i) j ≡ v → grade_at (atom_table ts q i) j ≡ grade)
    column i j = column_decides (atom_table ts q i) (atom_at q i) v grade j

pub rows_decide : (n len : ℕ) → Exactly (whole_rows n len ≡ true) (WholeRows n len)
rows_decide n len = (
  λ e. ⊎_elim (λ z. inl (eqb-true n 0 z)) (λ z. inr (len / n, multiple (eqb-true (len % n) 0 z))) (either (eqb n 0) (eqb (len % n) 0) e),
  back,
)
  where
    multiple : len % n ≡ 0 → len ≡ len / n * n
    multiple z = omega (arith, div-add-mod' len n)

    back : WholeRows n len → whole_rows n len ≡ true
    back (inl z) = ap (λ (b : Bool). b || eqb (len % n) 0) (eq-eqb n 0 z)
    back (inr t) = or_right (eqb n 0) (eqb (len % n) 0) (eq-eqb (len % n) 0 (ap (λ (l : ℕ). l % n) t.1 ∙ mul-mod_left t.0 n))

module _ (q : Query) (y : Typed q) where
  lists_decide : (ts : Tables) → Ordered q → Named ts.count q → Exactly (index.every q.atom_count (list_ok ts q) ≡ true) (AllFollow ts q)
  lists_decide ts o n = (
    λ e i h. (one i h).0 (every_at (list_ok ts q) q.atom_count e i h),
    λ f. every_all (list_ok ts q) q.atom_count (λ i h. (one i h).1 (f i h)),
  )
    where
      one : (i : ℕ) → i < q.atom_count → Exactly (list_ok ts q i ≡ true) (Follows q (atom_at q i) (table_at ts (atom_at q i).table).arity)
      one i h = list_decides q (atom_at q i) (table_at ts (atom_at q i).table).arity o (y.variables i (omega (arith, n.few)))

  -- the atoms are those with a number
  module _ {count : ℕ} (n : Named count q) where
    size : length (atoms_in q) ≡ q.atom_count
    size = length-take-le q.atom_count q.atoms (omega (arith, n.few, y.atoms))

    atom_in : (i : ℕ) → i < q.atom_count → atom_at q i ∈ atoms_in q
    atom_in i h = subst (λ (a : Atom). a ∈ atoms_in q) (get_or-take q.atom_count q.atoms i no_atom h) (get_or_in (atoms_in q) i no_atom (omega (arith, size)))

    in_atom : {a : Atom} → a ∈ atoms_in q → (i : ℕ) × (i < q.atom_count) × (atom_at q i ≡ a)
    in_atom m =
        let t = in_get_or no_atom m in
        let h : t.0 < q.atom_count = omega (arith, t.1, size) in
        (t.0, h, sym (get_or-take q.atom_count q.atoms t.0 no_atom h) ∙ t.2)

    covering_decides : Exactly (covers q.n (lists_of q) ≡ true) (Covered q)
    covering_decides = (
      λ e x h.
          let u = covers_true q.n (lists_of q) e x h in
          let v = Memᴰ.of_map vars_of (atoms_in q) u.1 in
          let t = in_atom v.1 in
          (t.0, t.1, subst (λ (l : List ℕ). x ∈ l) (sym (ap vars_of t.2 ∙ v.2)) u.2),
      λ f. true_covers q.n (lists_of q) (λ x h. let t = f x h in (vars_of (atom_at q t.0), Memᴰ.map vars_of (atom_in t.0 t.1), t.2)),
    )

    -- the variables of a list stand below n
    variable_below : (ts : Tables) → AllFollow ts q → {i j : ℕ} → HasColumn q i j → var_at (atom_at q i) j < q.n
    variable_below ts f {i} {j} c =
        let a = atom_at q i in
        let long : length (vars_of a) ≡ a.len = length-take-le a.len a.variables (omega (arith, y.variables i (omega (arith, c.atom, n.few)), (f i c.atom).short)) in
        (f i c.atom).below (var_at (atom_at q i) j) (subst (λ (x : ℕ). x ∈ vars_of a) (get_or-take a.len a.variables j 0 c.place) (get_or_in (vars_of a) j 0 (omega (arith, long, c.place))))

    kinds_decide : (ts : Tables) → AllFollow ts q → Exactly (index.every q.n (one_kind ts q) ≡ true) (SameKinds ts q)
    kinds_decide ts f = (
      λ e i j k l c d same.
          let v = var_at (atom_at q i) j in
          let one : (grade : Bool) → binds_only ts q v grade ≡ true → grade_at (atom_table ts q i) j ≡ grade_at (atom_table ts q k) l = λ grade b. (only_decides ts q v grade).0 b i j c refl ∙ sym ((only_decides ts q v grade).0 b k l d (sym same)) in
          ⊎_elim (one false) (one true) (either (binds_only ts q v false) (binds_only ts q v true) (every_at (one_kind ts q) q.n e v (variable_below ts f c))),
      λ s. every_all (one_kind ts q) q.n (λ v h. one_kind_lem s v (binds_only ts q v false) refl),
    )
      where
        one_kind_lem : SameKinds ts q → (v : ℕ) (b : Bool) → binds_only ts q v false ≡ b → one_kind ts q v ≡ true
        one_kind_lem s v true e = plain_alone ts q v e
        one_kind_lem s v false e = grades_alone ts q v ((only_decides ts q v true).1 (λ i j c d. grade i j c d (grade_at (atom_table ts q i) j) refl))
          where
            -- a plain one would make all plain
            grade : (i j : ℕ) → HasColumn q i j → var_at (atom_at q i) j ≡ v → (g : Bool) → grade_at (atom_table ts q i) j ≡ g → g ≡ true
            grade i j c d true p = refl
            grade i j c d false p = not_both (binds_only ts q v false) ((only_decides ts q v false).1 (λ k l o m. s k l i j o c (m ∙ sym d) ∙ p)) e

  module _ (pool : List ℕ) (ts : Tables) (n : Named ts.count q) where
    -- a table that an atom names passes as it is undamaged
    one_decides : (i : ℕ) → i < q.atom_count → (t : ℕ) → names t (atom_at q i) ≡ true → Exactly (sound_at pool ts q t ≡ true) (Undamaged pool (table_at ts t))
    one_decides i h t e =
        let s = sound_named pool ts q t (named_at q y.atoms n.few t i h e) in
        (λ d. undamaged_told pool (table_at ts t) (sym s ∙ d), λ u. s ∙ told_undamaged pool (table_at ts t) u)

    tables_decide : Exactly (index.every ts.count (sound_at pool ts q) ≡ true) (SoundTables pool ts q)
    unfolding named
    tables_decide = (
      λ e. record {
        each = λ i h. (one_decides i h (atom_at q i).table (names_table (atom_at q i))).0 (every_at (sound_at pool ts q) ts.count e (atom_at q i).table (n.each i h));
        maker = λ i h l. (one_decides i h (atom_at q i).maker (names_maker (atom_at q i) l)).0 (every_at (sound_at pool ts q) ts.count e (atom_at q i).maker (n.maker i h l));
      },
      λ f. every_all (sound_at pool ts q) ts.count (λ t h. passes f t (named q t) refl),
    )
      where
        whole : SoundTables pool ts q → (i : ℕ) → i < q.atom_count → (t : ℕ) → names t (atom_at q i) ≡ true → Undamaged pool (table_at ts t)
        whole f i h t e =
            ⊎_elim {C = Undamaged pool (table_at ts t)}
            (λ (d : (atom_at q i).table ≡ t). rw d at (f.each i h))
            (λ (d : ((atom_at q i).laid_over ≡ true) × ((atom_at q i).maker ≡ t)). rw d.1 at (f.maker i h d.0))
            (names_one_lem t (atom_at q i) e)

        passes : SoundTables pool ts q → (t : ℕ) (b : Bool) → named q t ≡ b → sound_at pool ts q t ≡ true
        passes f t false e = sound_unnamed pool ts q t e
        passes f t true e =
            let u = some_in (names t) (atoms_in q) e in
            let v = in_atom n u.1 in
            let d : names t (atom_at q v.0) ≡ true = ap (names t) v.2 ∙ u.2 in
            (one_decides v.0 v.1 t d).1 (whole f v.0 v.1 t d)

shapes_decide : (ts : Tables) (q : Query) → Exactly (index.every q.atom_count (shape_ok ts q) ≡ true) (SameShapes ts q)
shapes_decide ts q = (
  λ e i h l. (one i).0 (made (atom_at q i).laid_over (same i) (every_at (shape_ok ts q) q.atom_count e i h) l),
  λ f. every_all (shape_ok ts q) q.atom_count (λ i h. make (atom_at q i).laid_over (same i) (λ l. (one i).1 (f i h l))),
)
  where
    same : ℕ → Bool
    same i = same_shape (atom_table ts q i) (atom_maker ts q i)

    one : (i : ℕ) → Exactly (same i ≡ true) (SameShape (atom_table ts q i) (atom_maker ts q i))
    one i = shape_decides (atom_table ts q i) (atom_maker ts q i)

-- ---- the number of the first check that fails

module _ (pool : List ℕ) (ts : Tables) (q : Query) (len : ℕ) (y : Typed q) where
  abbrev number : ℕ
  number = join_number pool ts q len

  abbrev last : ℕ
  last = pick (index.every q.atom_count (shape_ok ts q)) 0 17

  abbrev seventh : ℕ
  seventh = pick (index.every ts.count (sound_at pool ts q)) last 6

  abbrev sixth : ℕ
  sixth = pick (whole_rows q.n len) seventh 16

  abbrev fifth : ℕ
  fifth = pick (index.every q.n (one_kind ts q)) sixth 15

  abbrev fourth : ℕ
  fourth = pick (covers q.n (lists_of q)) fifth 11

  abbrev third : ℕ
  third = pick (index.every q.atom_count (list_ok ts q)) fourth 10

  abbrev second : ℕ
  second = pick (named_ok ts.count q) third 9

  in_sequence : number ≡ pick (order_ok q) second 8
  unfolding join_number
  in_sequence = simp turned

  -- the numbers behind a check are others than its own, and none is 12
  last_not : (k : ℕ) → 0 < k → k < 17 → last ≡ k → ⊥
  last_not k h b = neither (index.every q.atom_count (shape_ok ts q)) 17 0 k (λ e. omega arith) (λ e. omega arith)

  seventh_not : (k : ℕ) → 6 < k → k < 17 → seventh ≡ k → ⊥
  seventh_not k h b = neither (index.every ts.count (sound_at pool ts q)) 6 last k (λ e. omega arith) (last_not k (omega arith) b)

  sixth_not : (k : ℕ) → 6 < k → k < 16 → sixth ≡ k → ⊥
  sixth_not k h b = neither (whole_rows q.n len) 16 seventh k (λ e. omega arith) (seventh_not k h (omega arith))

  fifth_not : (k : ℕ) → 6 < k → k < 15 → fifth ≡ k → ⊥
  fifth_not k h b = neither (index.every q.n (one_kind ts q)) 15 sixth k (λ e. omega arith) (sixth_not k h (omega arith))

  fourth_not : (k : ℕ) → 6 < k → k < 15 → (11 ≡ k → ⊥) → fourth ≡ k → ⊥
  fourth_not k h b f = neither (covers q.n (lists_of q)) 11 fifth k f (fifth_not k h b)

  third_not : (k : ℕ) → 6 < k → k < 15 → (11 ≡ k → ⊥) → (10 ≡ k → ⊥) → third ≡ k → ⊥
  third_not k h b f g = neither (index.every q.atom_count (list_ok ts q)) 10 fourth k g (fourth_not k h b f)

  second_not : (k : ℕ) → 6 < k → k < 15 → (11 ≡ k → ⊥) → (10 ≡ k → ⊥) → (9 ≡ k → ⊥) → second ≡ k → ⊥
  second_not k h b f g n = neither (named_ok ts.count q) 9 third k n (third_not k h b f g)

  pub not_12 : join_number pool ts q len ≡ 12 → ⊥
  not_12 e =
      neither (order_ok q) 8 second 12 (λ d. omega arith) (second_not 12 (omega arith) (omega arith) (λ d. omega arith) (λ d. omega arith) (λ d. omega arith)) (sym in_sequence ∙ e)

  -- past a check
  past_order : (k : ℕ) {Q : Type 0} → (8 ≡ k → ⊥) → (Ordered q → Exactly (second ≡ k) Q) → Exactly (number ≡ k) (Ordered q × Q)
  past_order k f g = exactly_then (exactly_same in_sequence) (later (order_ok q) (order_decides q) 8 second k f g)

  past_names : (k : ℕ) {Q : Type 0} → (9 ≡ k → ⊥) → (Named ts.count q → Exactly (third ≡ k) Q) → Exactly (second ≡ k) (Named ts.count q × Q)
  past_names k f g = later (named_ok ts.count q) (names_decide ts.count q) 9 third k f g

  module _ (o : Ordered q) (n : Named ts.count q) where
    past_lists : (k : ℕ) {Q : Type 0} → (10 ≡ k → ⊥) → (AllFollow ts q → Exactly (fourth ≡ k) Q) → Exactly (third ≡ k) (AllFollow ts q × Q)
    past_lists k f g = later (index.every q.atom_count (list_ok ts q)) (lists_decide q y ts o n) 10 fourth k f g

    past_covering : (k : ℕ) {Q : Type 0} → (11 ≡ k → ⊥) → (Covered q → Exactly (fifth ≡ k) Q) → Exactly (fourth ≡ k) (Covered q × Q)
    past_covering k f g = later (covers q.n (lists_of q)) (covering_decides q y n) 11 fifth k f g

    past_kinds : AllFollow ts q → (k : ℕ) {Q : Type 0} → (15 ≡ k → ⊥) → (SameKinds ts q → Exactly (sixth ≡ k) Q) → Exactly (fifth ≡ k) (SameKinds ts q × Q)
    past_kinds l k f g = later (index.every q.n (one_kind ts q)) (kinds_decide q y n ts l) 15 sixth k f g

  past_rows : (k : ℕ) {Q : Type 0} → (16 ≡ k → ⊥) → (WholeRows q.n len → Exactly (seventh ≡ k) Q) → Exactly (sixth ≡ k) (WholeRows q.n len × Q)
  past_rows k f g = later (whole_rows q.n len) (rows_decide q.n len) 16 seventh k f g

  past_tables : Named ts.count q → (k : ℕ) {Q : Type 0} → (6 ≡ k → ⊥) → (SoundTables pool ts q → Exactly (last ≡ k) Q) → Exactly (seventh ≡ k) (SoundTables pool ts q × Q)
  past_tables n k f g = later (index.every ts.count (sound_at pool ts q)) (tables_decide q y pool ts n) 6 last k f g

  pub checks_8 : Exactly (join_number pool ts q len ≡ 8) (Ordered q → ⊥)
  checks_8 =
      exactly_then (exactly_same in_sequence)
      (here (order_ok q) (order_decides q) 8 second (second_not 8 (omega arith) (omega arith) (λ e. omega arith) (λ e. omega arith) (λ e. omega arith)))

  pub checks_9 : Exactly (join_number pool ts q len ≡ 9) (Ordered q × (Named ts.count q → ⊥))
  checks_9 =
      past_order 9 (λ e. omega arith) λ o.
      here (named_ok ts.count q) (names_decide ts.count q) 9 third (third_not 9 (omega arith) (omega arith) (λ e. omega arith) (λ e. omega arith))

  pub checks_10 : Exactly (join_number pool ts q len ≡ 10) (Ordered q × (Named ts.count q × (AllFollow ts q → ⊥)))
  checks_10 =
      past_order 10 (λ e. omega arith) λ o. past_names 10 (λ e. omega arith) λ n.
      here (index.every q.atom_count (list_ok ts q)) (lists_decide q y ts o n) 10 fourth (fourth_not 10 (omega arith) (omega arith) (λ e. omega arith))

  pub checks_11 : Exactly (join_number pool ts q len ≡ 11) (Ordered q × (Named ts.count q × (AllFollow ts q × (Covered q → ⊥))))
  checks_11 =
      past_order 11 (λ e. omega arith) λ o. past_names 11 (λ e. omega arith) λ n. past_lists o n 11 (λ e. omega arith) λ f.
      here (covers q.n (lists_of q)) (covering_decides q y n) 11 fifth (fifth_not 11 (omega arith) (omega arith))

  pub checks_15 : Exactly (join_number pool ts q len ≡ 15) (Ordered q × (Named ts.count q × (AllFollow ts q × (Covered q × (SameKinds ts q → ⊥)))))
  checks_15 =
      past_order 15 (λ e. omega arith) λ o. past_names 15 (λ e. omega arith) λ n. past_lists o n 15 (λ e. omega arith) λ f. past_covering o n 15 (λ e. omega arith) λ c.
      here (index.every q.n (one_kind ts q)) (kinds_decide q y n ts f) 15 sixth (sixth_not 15 (omega arith) (omega arith))

  pub checks_16 : Exactly (join_number pool ts q len ≡ 16) (Ordered q × (Named ts.count q × (AllFollow ts q × (Covered q × (SameKinds ts q × (WholeRows q.n len → ⊥))))))
  checks_16 =
      past_order 16 (λ e. omega arith) λ o. past_names 16 (λ e. omega arith) λ n. past_lists o n 16 (λ e. omega arith) λ f. past_covering o n 16 (λ e. omega arith) λ c. past_kinds o n f 16 (λ e. omega arith) λ k.
      here (whole_rows q.n len) (rows_decide q.n len) 16 seventh (seventh_not 16 (omega arith) (omega arith))

  pub checks_6 : Exactly (join_number pool ts q len ≡ 6) (Ordered q × (Named ts.count q × (AllFollow ts q × (Covered q × (SameKinds ts q × (WholeRows q.n len × (SoundTables pool ts q → ⊥)))))))
  checks_6 =
      past_order 6 (λ e. omega arith) λ o. past_names 6 (λ e. omega arith) λ n. past_lists o n 6 (λ e. omega arith) λ f. past_covering o n 6 (λ e. omega arith) λ c. past_kinds o n f 6 (λ e. omega arith) λ k. past_rows 6 (λ e. omega arith) λ w.
      here (index.every ts.count (sound_at pool ts q)) (tables_decide q y pool ts n) 6 last (last_not 6 (omega arith) (omega arith))

  pub checks_17 : Exactly (join_number pool ts q len ≡ 17) (Ordered q × (Named ts.count q × (AllFollow ts q × (Covered q × (SameKinds ts q × (WholeRows q.n len × (SoundTables pool ts q × (SameShapes ts q → ⊥))))))))
  checks_17 =
      past_order 17 (λ e. omega arith) λ o. past_names 17 (λ e. omega arith) λ n. past_lists o n 17 (λ e. omega arith) λ f. past_covering o n 17 (λ e. omega arith) λ c. past_kinds o n f 17 (λ e. omega arith) λ k. past_rows 17 (λ e. omega arith) λ w. past_tables n 17 (λ e. omega arith) λ s.
      here (index.every q.atom_count (shape_ok ts q)) (shapes_decide ts q) 17 0 (λ e. omega arith)

  pub checks_0 : Exactly (join_number pool ts q len ≡ 0) (Passing pool ts q len)
  checks_0 =
      exactly_then
      (past_order 0 (λ e. omega arith) λ o. past_names 0 (λ e. omega arith) λ n. past_lists o n 0 (λ e. omega arith) λ f. past_covering o n 0 (λ e. omega arith) λ c. past_kinds o n f 0 (λ e. omega arith) λ k. past_rows 0 (λ e. omega arith) λ w. past_tables n 0 (λ e. omega arith) λ s.
      later (index.every q.atom_count (shape_ok ts q)) (shapes_decide ts q) 17 0 0 (λ e. omega arith) (λ h. exactly_same refl)) (
        λ t. record { ordered = t.0; named = t.1.0; follow = t.1.1.0; covered = t.1.1.1.0; kinds = t.1.1.1.1.0; window = t.1.1.1.1.1.0; sound = t.1.1.1.1.1.1.0; shapes = t.1.1.1.1.1.1.1.0 },
        λ p. (p.ordered, (p.named, (p.follow, (p.covered, (p.kinds, (p.window, (p.sound, (p.shapes, refl)))))))),
      )

-- ---- of the outcome

-- a number but 0 and 12 is that of the checks
pub answered_by : (n k : ℕ) (window : List ℕ) (s : Progress) → (k ≡ 0 → ⊥) → (k ≡ 12 → ⊥) → Exactly ((answered n window s).number ≡ k) (n ≡ k)
unfolding answered told refused
answered_by zero k window s f g = (λ e. absurd (neither s.full 0 12 k (λ d. f (sym d)) (λ d. g (sym d)) e), λ e. absurd (f (sym e)))
answered_by (suc n) k window s f g = (λ e. e, λ e. e)

-- and 0 and 12 are given where they found nothing
pub answered_late : (n k : ℕ) (window : List ℕ) (s : Progress) → (n ≡ 12 → ⊥) → (k ≡ 0) ⊎ (k ≡ 12) → (answered n window s).number ≡ k → n ≡ 0
unfolding answered refused
answered_late zero k window s f w e = refl
answered_late (suc n) k window s f (inl w) e = absurd (omega (arith, e))
answered_late (suc n) k window s f (inr w) e = absurd (f (e ∙ w))
