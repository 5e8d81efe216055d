-- "Words past a length keep what they held. No call changes a pool word outside its table's own": so does a read, accepted or refused, by its contract.
use Prim.Native.Nat.{ℕ}
use mathlib.Core.Path.{◌≡◌, sym, subst, subst₂}
use mathlib.Core.List.{List}
use native.Mathlib.Omega.{arith}
use native.Mathlib.Decide.{ℕ_discrete}
use lib.ListN.{length}
use Rattle.relation.specs.Layers.{layers_of}
use Rattle.relation.proofs.Tables.{layers_undamaged}
use Rattle.column_trie.specs.Kept.{Kept}
use Rattle.column_trie.proofs.Kept.{stored_kept, unchanged_kept}
use Rattle.from_sorted.specs.Answer.{kept_kinds}
use Rattle.from_sorted.specs.declared.Built.{Built}
use Rattle.table_file.specs.Bytes.{Bytes}
use Rattle.file_read.specs.Read.{Reads}
use Rattle.file_laws.proofs.Leaves.{read_accepted, read_pool, read_table}
use Rattle.file_laws.proofs.Untouched.{a_refused_read_leaves_everything_untouched}

pub read_keeps_every_other_word : (bytes lent : List ℕ) (start capacity : ℕ) {lent' : List ℕ} {r : Built} → Bytes bytes → Reads bytes lent start capacity lent' r → Kept lent lent' r.table
read_keeps_every_other_word bytes lent start capacity {lent'} {r} y b = go (ℕ_discrete r.number 0)
  where
    filled : r.number ≡ 0 → Kept lent lent' r.table
    filled z =
        let a = read_accepted bytes lent start capacity y b z in
        let f = a.file in
        let u = layers_undamaged capacity a.table.some a.table.asc a.table.width a.room in
        subst₂ (Kept lent) (sym (read_pool bytes lent start capacity y b z)) (sym (read_table bytes lent start capacity y b z))
        (stored_kept start f.arity capacity (kept_kinds f.arity f.kinds) (layers_of f.arity f.rows) (length f.rows) lent u.arity a.table.few (λ d h. u.room d (omega (arith, u.arity))))

    go : Dec (r.number ≡ 0) → Kept lent lent' r.table
    go (yes z) = filled z
    go (no n) = subst (λ (p : List ℕ). Kept lent p r.table) (sym (a_refused_read_leaves_everything_untouched bytes lent start capacity b n).words) (unchanged_kept lent r.table)
