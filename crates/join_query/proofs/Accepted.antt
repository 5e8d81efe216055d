-- A query that passed the checks: what each of them tells of it, its atoms by number, and that it passes as the theory of joins asks.
use Prim.Native.Nat.{ℕ, zero, suc, ◌<◌}
use native.Mathlib.Omega.{arith}
use mathlib.Core.Path.{◌≡◌, refl, sym, subst, ap, ◌∙◌}
use mathlib.Core.Bool.{Bool, true, false}
use mathlib.Core.List.{List, [], ◌∷◌, map-map}
use lib.ListN.{length, get_or, length-map, get_or-map}
use lib.Seq.{length-take-le, get_or-take}
use Rattle.relation.specs.Order.{pick}
use Rattle.relation.specs.Lists.{◌∈◌}
use Rattle.relation.specs.Rows.{Asc, Width}
use Rattle.relation.proofs.Tests.{every_at}
use Rattle.relation.proofs.Tables.{Relation, every_undamaged_table_is_what_a_build_of_its_own_rows_leaves}
use Rattle.query.specs.Meaning as meaning
use Rattle.query.specs.Meaning.{follows, Table, Passes}
use Rattle.query.specs.Descend.{nobody}
use Rattle.query.specs.Checks.{covers}
use Rattle.query.proofs.Meet.{in_get_or}
use Rattle.query.proofs.Checks.{true_permutes, passes_of}
use Rattle.column_trie.specs.Table.{layers_in, rows_in, Undamaged}
use Rattle.column_trie.specs.declared.ColumnTrie.{ColumnTrie}
use Rattle.column_trie.proofs.Damage.{undamaged_told}
use Rattle.overlay.specs.Laid.{laid}
use Rattle.overlay.proofs.Laid.{laid_asc, laid_width}
use Rattle.laid_over.specs.Shape.{same_shape, SameShape}
use Rattle.laid_over.proofs.Shape.{shape_decides}
use Rattle.join_query.specs.Query as query
use Rattle.join_query.specs.Query.{no_atom, atom_at, table_at, atom_table, atom_maker, order_of, vars_of, atoms_in, rows_at, atom_of, atoms_of, list_ok, sound_at, shape_ok, Accepted}
use Rattle.join_query.specs.Facts.{Ordered, Named}
use Rattle.join_query.specs.declared.Atom.{Atom}
use Rattle.join_query.specs.declared.Query.{Query}
use Rattle.join_query.specs.declared.Tables.{Tables}
use Rattle.join_query.proofs.Lists.{Passed, passed_all, order_told, named_told, Listing, listed_told, named_at, names_table, names_maker, made, sound_named}

-- ---- a table's rows

module _ {pool : List ℕ} {t : ColumnTrie} (u : Undamaged pool t) where
  pub related : Relation t.arity (layers_in pool t) t.tuple_count
  related = every_undamaged_table_is_what_a_build_of_its_own_rows_leaves u.arity.0 u.layers

  pub table_asc : Asc (rows_in pool t)
  table_asc = related.asc

  pub table_wide : Width t.arity (rows_in pool t)
  table_wide = related.width

-- an atom's rows: its table's, or where it is laid over those that count of both
module _ (pool : List ℕ) (ts : Tables) (a : Atom) where
  pub rows_plain : a.laid_over ≡ false → rows_at pool ts a ≡ rows_in pool (table_at ts a.table)
  unfolding rows_at
  rows_plain e = ap (λ (b : Bool). pick b (laid (rows_in pool (table_at ts a.table)) (rows_in pool (table_at ts a.maker))) (rows_in pool (table_at ts a.table))) e

  pub rows_laid : a.laid_over ≡ true → rows_at pool ts a ≡ laid (rows_in pool (table_at ts a.table)) (rows_in pool (table_at ts a.maker))
  unfolding rows_at
  rows_laid e = ap (λ (b : Bool). pick b (laid (rows_in pool (table_at ts a.table)) (rows_in pool (table_at ts a.maker))) (rows_in pool (table_at ts a.table))) e

-- inside a list the default does not matter
pub get_or_default : (l : List meaning.Atom) (i : ℕ) (a b : meaning.Atom) → i < length l → get_or l i a ≡ get_or l i b
get_or_default [] i a b k = absurd (omega arith)
get_or_default (x ∷ l) zero a b k = refl
get_or_default (x ∷ l) (suc i) a b k = get_or_default l i a b (omega arith)

-- ---- a query that passed

module _ {pool : List ℕ} {ts : Tables} {q : Query} {len : ℕ} (z : Accepted pool ts q len) where
  checks : Passed pool ts q len
  checks = passed_all pool ts q len z.passed

  pub sized : Ordered q
  sized = order_told q checks.order

  pub names : Named ts.count q
  names = named_told ts.count q checks.names

  pub lists : (i : ℕ) → i < q.atom_count → Listing q (atom_at q i) (atom_table ts q i).arity
  lists i h = listed_told q (atom_at q i) (atom_table ts q i).arity (every_at (list_ok ts q) q.atom_count checks.lists i h)

  -- a table that an atom names
  sound_one : (i : ℕ) → i < q.atom_count → (t : ℕ) → t < ts.count → query.names t (atom_at q i) ≡ true → Undamaged pool (table_at ts t)
  sound_one i h t b e =
      undamaged_told pool (table_at ts t)
      (sym (sound_named pool ts q t (named_at q z.whole names.few t i h e)) ∙ every_at (sound_at pool ts q) ts.count checks.sound t b)

  pub sound : (i : ℕ) → i < q.atom_count → Undamaged pool (atom_table ts q i)
  sound i h = sound_one i h (atom_at q i).table (names.each i h) (names_table (atom_at q i))

  -- an atom that is laid over: its maker's table is undamaged too, and of the same shape
  pub sound_maker : (i : ℕ) → i < q.atom_count → (atom_at q i).laid_over ≡ true → Undamaged pool (atom_maker ts q i)
  sound_maker i h e = sound_one i h (atom_at q i).maker (names.maker i h e) (names_maker (atom_at q i) e)

  pub shapes : (i : ℕ) → i < q.atom_count → (atom_at q i).laid_over ≡ true → SameShape (atom_table ts q i) (atom_maker ts q i)
  shapes i h e =
      (shape_decides (atom_table ts q i) (atom_maker ts q i)).0
      (made (atom_at q i).laid_over (same_shape (atom_table ts q i) (atom_maker ts q i)) (every_at (shape_ok ts q) q.atom_count checks.shapes i h) e)

  -- its maker's rows, as wide as its table's
  pub maker_wide : (i : ℕ) → i < q.atom_count → (atom_at q i).laid_over ≡ true → Width (atom_table ts q i).arity (rows_in pool (atom_maker ts q i))
  maker_wide i h e = subst (λ (a : ℕ). Width a (rows_in pool (atom_maker ts q i))) (sym (shapes i h e).arity) (table_wide (sound_maker i h e))

  -- whichever they are, an atom's rows ascend, and are as wide as its table's
  pub rows_asc : (i : ℕ) → i < q.atom_count → Asc (rows_at pool ts (atom_at q i))
  rows_asc i h = go (atom_at q i).laid_over refl
    where
      go : (b : Bool) → (atom_at q i).laid_over ≡ b → Asc (rows_at pool ts (atom_at q i))
      go true e = subst Asc (sym (rows_laid pool ts (atom_at q i) e)) (laid_asc (rows_in pool (atom_table ts q i)) (rows_in pool (atom_maker ts q i)))
      go false e = subst Asc (sym (rows_plain pool ts (atom_at q i) e)) (table_asc (sound i h))

  pub rows_wide : (i : ℕ) → i < q.atom_count → Width (atom_table ts q i).arity (rows_at pool ts (atom_at q i))
  rows_wide i h = go (atom_at q i).laid_over refl
    where
      go : (b : Bool) → (atom_at q i).laid_over ≡ b → Width (atom_table ts q i).arity (rows_at pool ts (atom_at q i))
      go true e = subst (Width (atom_table ts q i).arity) (sym (rows_laid pool ts (atom_at q i) e)) (laid_width (table_wide (sound i h)) (maker_wide i h e))
      go false e = subst (Width (atom_table ts q i).arity) (sym (rows_plain pool ts (atom_at q i) e)) (table_wide (sound i h))

  -- its atoms, by number
  pub atoms_length : length (atoms_of pool ts q) ≡ q.atom_count
  atoms_length = length-map (atoms_in q) (atom_of pool ts) ∙ length-take-le q.atom_count q.atoms (omega (arith, names.few, z.whole))

  pub atoms_at : (i : ℕ) → i < q.atom_count → get_or (atoms_of pool ts q) i nobody ≡ atom_of pool ts (atom_at q i)
  atoms_at i h =
      get_or_default (atoms_of pool ts q) i nobody (atom_of pool ts no_atom) (omega (arith, atoms_length))
      ∙ get_or-map (atom_of pool ts) (atoms_in q) i no_atom
      ∙ ap (atom_of pool ts) (get_or-take q.atom_count q.atoms i no_atom h)

  -- what holds of each by number holds of each
  by_number : (P : meaning.Atom → Type 0) → ((i : ℕ) → i < q.atom_count → P (atom_of pool ts (atom_at q i))) → (a : meaning.Atom) → a ∈ atoms_of pool ts q → P a
  by_number P f a m =
      let t = in_get_or nobody m in
      let h : t.0 < q.atom_count = omega (arith, t.1, atoms_length) in
      subst P (sym (atoms_at t.0 h) ∙ t.2) (f t.0 h)

  pub tables : (a : meaning.Atom) → a ∈ atoms_of pool ts q → Table a
  tables = by_number Table λ i h.
      let u = sound i h in
      let e : length (vars_of (atom_at q i)) ≡ (atom_table ts q i).arity = (lists i h).exact in
      record {
        positive = omega (arith, u.arity);
        wide = λ r m. rows_wide i h r m ∙ sym e;
        ascending = rows_asc i h;
      }

  pub passes : Passes q.n (order_of q) (atoms_of pool ts q)
  passes =
      passes_of q.n (order_of q) (atoms_of pool ts q) (true_permutes q.n (order_of q) sized.permutation)
      (by_number (λ a. follows (order_of q) a.vars ≡ true) (λ i h. (lists i h).follow))
      (ap (covers q.n) (map-map (λ (a : meaning.Atom). a.vars) (atom_of pool ts) (atoms_in q)) ∙ checks.covered)
      tables
