-- "The listing equals that over a table built afresh from the rows that count, if one holds them": the same number, rows, seeks and words in the window.
-- Idea: what a join answers depends on its atoms' lists and rows alone; a built table holds the set of the rows given, and the rows that count are such a set.
use Prim.Native.Nat.{ℕ, ◌<◌}
use native.Mathlib.Omega.{arith}
use native.Mathlib.Decide.{ℕ_discrete}
use mathlib.Core.Path.{◌≡◌, sym, subst, ap, ◌∙◌}
use mathlib.Core.List.{List}
use lib.ListN.{length}
use lib.Seq.{ext_get_or}
use Rattle.relation.proofs.Sorting.{as_set_is}
use Rattle.query.specs.Solve.{listing}
use Rattle.query.specs.Window.{windowed}
use Rattle.query.specs.Descend.{nobody}
use Rattle.query.specs.Outcome.{Comes, told}
use Rattle.leapfrog.specs.Walk.{join_seeks}
use Rattle.overlay.specs.Laid.{laid}
use Rattle.overlay.proofs.Laid.{laid_asc}
use Rattle.column_trie.specs.Table.{rows_in}
use Rattle.build_laws.proofs.Leaves.{build_leaves_the_layers_of_the_set_of_rows}
use Rattle.join_query.specs.Query.{atom_at, atom_table, atom_maker, order_of, rows_at, atom_of, atoms_of, Accepted}
use Rattle.join_query.specs.Outcome.{outcome}
use Rattle.join_query.specs.declared.Query.{Query}
use Rattle.join_query.specs.declared.Tables.{Tables}
use Rattle.join_query.proofs.Accepted.{rows_plain, rows_laid, atoms_length, atoms_at}
use Rattle.join_query.proofs.Outcome.{outcome_listed}
use Rattle.leapfrog_triejoin.specs.Outcome.{seeks_at, Joins}
use Rattle.leapfrog_triejoin.specs.declared.Joined.{Joined}
use Rattle.join_laws.specs.Afresh.{Afresh}

-- ---- the same atoms, the same answer

module _ {pool : List ℕ} {ts : Tables} {q : Query} {pool' : List ℕ} {ts' : Tables} {q' : Query} {window : List ℕ} (a : Accepted pool ts q (length window)) (a' : Accepted pool' ts' q' (length window)) (variables : q.n ≡ q'.n) (order : order_of q ≡ order_of q') (atoms : atoms_of pool ts q ≡ atoms_of pool' ts' q') {r r' : Joined} {after after' : List ℕ} (j : Joins pool ts q window r after) (j' : Joins pool' ts' q' window r' after') where
  same_outcome : outcome pool ts q window ≡ outcome pool' ts' q' window
  same_outcome =
      outcome_listed pool ts q window a.passed
      ∙ ((λ i. told (windowed window (variables i) (listing (variables i) (order i) (atoms i))))
      ∙ sym (outcome_listed pool' ts' q' window a'.passed))

  same_seeks : r.seeks ≡ r'.seeks
  same_seeks =
      j.seeks
      ∙ (ap (λ (m : ℕ). seeks_at m (join_seeks q.n (order_of q) (atoms_of pool ts q) window)) a.passed
      ∙ ((λ i. seeks_at 0 (join_seeks (variables i) (order i) (atoms i) window))
      ∙ (ap (λ (m : ℕ). seeks_at m (join_seeks q'.n (order_of q') (atoms_of pool' ts' q') window)) (sym a'.passed)
      ∙ sym j'.seeks)))

  pub the_same_atoms_the_same_answer : (r ≡ r') × (after ≡ after')
  the_same_atoms_the_same_answer =
      let number = j.number ∙ (ap (λ (c : Comes). c.number) same_outcome ∙ sym j'.number) in
      let rows = j.rows ∙ (ap (λ (c : Comes). c.rows) same_outcome ∙ sym j'.rows) in
      (λ i. record { number = number i; rows = rows i; seeks = same_seeks i }, j.words ∙ (ap (λ (c : Comes). c.words) same_outcome ∙ sym j'.words))

-- ---- a table built afresh has the rows that count

module _ {pool : List ℕ} {ts : Tables} {q : Query} {i : ℕ} {pool' : List ℕ} {ts' : Tables} {q' : Query} (f : Afresh pool ts q i pool' ts' q') where
  abbrev arity : ℕ
  arity = (atom_table ts q i).arity

  built_rows : rows_in pool' (atom_table ts' q' i) ≡ laid (rows_in pool (atom_table ts q i)) (rows_in pool (atom_maker ts q i))
  built_rows =
      let b = f.built in
      ap (rows_in pool') b.table
      ∙ ((build_leaves_the_layers_of_the_set_of_rows b.given b.lent b.start arity b.capacity b.kinds b.builds b.not_refused).rows
      ∙ as_set_is (laid_asc (rows_in pool (atom_table ts q i)) (rows_in pool (atom_maker ts q i))) b.rows)

  same_rows : rows_at pool ts (atom_at q i) ≡ rows_at pool' ts' (atom_at q' i)
  same_rows = rows_laid pool ts (atom_at q i) f.laid_over ∙ (sym built_rows ∙ sym (rows_plain pool' ts' (atom_at q' i) f.plain))

  same_atom : (j : ℕ) → j < q.atom_count → atom_of pool ts (atom_at q j) ≡ atom_of pool' ts' (atom_at q' j)
  same_atom j h = go (ℕ_discrete j i)
    where
      go : Dec (j ≡ i) → atom_of pool ts (atom_at q j) ≡ atom_of pool' ts' (atom_at q' j)
      go (yes e) = subst (λ (k : ℕ). atom_of pool ts (atom_at q k) ≡ atom_of pool' ts' (atom_at q' k)) (sym e) (λ k. record { vars = f.list k; rows = same_rows k })
      go (no n) = f.others j h n

  same_atoms : {len len' : ℕ} → Accepted pool ts q len → Accepted pool' ts' q' len' → atoms_of pool ts q ≡ atoms_of pool' ts' q'
  same_atoms a a' =
      ext_get_or nobody (atoms_of pool ts q) (atoms_of pool' ts' q') (atoms_length a ∙ (f.atoms ∙ sym (atoms_length a')))
      (λ j h.
      let l : j < q.atom_count = omega (arith, atoms_length a) in
      atoms_at a j l ∙ (same_atom j l ∙ sym (atoms_at a' j (omega (arith, f.atoms)))))

  pub a_join_over_rows_that_count_is_the_join_over_a_table_built_afresh : {window : List ℕ} → Accepted pool ts q (length window) → Accepted pool' ts' q' (length window) → {r r' : Joined} {after after' : List ℕ} → Joins pool ts q window r after → Joins pool' ts' q' window r' after' → (r ≡ r') × (after ≡ after')
  a_join_over_rows_that_count_is_the_join_over_a_table_built_afresh a a' j j' = the_same_atoms_the_same_answer a a' f.variables f.order (same_atoms a a') j j'
