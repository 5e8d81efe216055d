-- The words of the first rows, and one more by the path.
use Prim.Native.Nat.{ℕ, ◌+◌, ◌≤◌, ◌<◌}
use mathlib.Core.Path.{◌≡◌, sym, ap, ◌∙◌, subst}
use mathlib.Core.List.{List, []}
use native.Mathlib.Omega.{arith}
use native.Mathlib.Decide.{ℕ_discrete}
use lib.ListN.{length, get_or, set}
use lib.Seq.{get_or-set_same, get_or-set_other}
use Rattle.column_trie.specs.Pool.{spot}
use Rattle.column_trie.specs.Table.{rows_in, layers_in, Undamaged}
use Rattle.column_trie.proofs.Damage.{undamaged_told}
use Rattle.column_trie.proofs.Tables.{holds}
use Rattle.row_path.specs.Path.{OnPath}
use Rattle.row_path.proofs.Keys.{KeyAt, key_on}
use Rattle.permuted_rows.specs.Packed.{number_of}
use Rattle.permuted_rows.specs.Seen.{StandsIn}
use Rattle.permuted_rows.specs.declared.Permuted.{Permuted}
use Rattle.row_words.specs.Words.{Wordable, Worded, AllPacked}

-- the first k words are those of the first k rows
pub record Packing (rows : Permuted) (words : List ℕ) (k : ℕ) : Type 0 where
  pub packed : (j : ℕ) → j < k → StandsIn rows (get_or words j 0)
  pub number : (j : ℕ) → j < k → number_of (get_or words j 0) ≡ j

pub none_packed : (rows : Permuted) (words : List ℕ) → Packing rows words 0
none_packed rows words = record { packed = λ j h. absurd (omega arith); number = λ j h. absurd (omega arith) }

module _ (rows : Permuted) {path : List ℕ} {k : ℕ} (p : OnPath (layers_in rows.pool.now rows.table) k path) (h : k < rows.table.tuple_count) where
  sound : Undamaged rows.pool.now rows.table
  sound = undamaged_told rows.pool.now rows.table rows.legible.sound

  key : (d : ℕ) → d < rows.table.arity → KeyAt rows.pool.now rows.table k d (get_or path d 0)
  key d b = key_on rows.whole sound p h d b

  pub wordable : rows.table.tuple_count ≤ 65536 → Wordable rows.table.arity rows.columns path k
  wordable m = record {
    few = sound.arity.1;
    inside = rows.legible.inside;
    low = λ d b. omega (arith, (key d b).inside, (sound.within d (omega (arith, sound.arity.1))).0, sound.capacity.1);
    number = omega arith;
  }

  pub word_packed : {w : ℕ} → Worded rows.table.arity rows.columns path k w → StandsIn rows w
  word_packed {w} e = record {
    below = omega (arith, e.number);
    inside = λ j a b. omega (arith, e.places j a b, (key (get_or rows.columns j 0) (rows.legible.inside j b)).inside);
    key = λ j a b.
        ap (λ (n : ℕ). get_or rows.pool.now (spot rows.table.start rows.table.capacity (get_or rows.columns j 0) + n) 0) (e.places j a b)
        ∙ (key (get_or rows.columns j 0) (rows.legible.inside j b)).word
        ∙ ap (λ (n : ℕ). get_or (get_or (rows_in rows.pool.now rows.table) n []) (get_or rows.columns j 0) 0) (sym e.number);
  }

  pub packing_on : {words : List ℕ} {w : ℕ} → Packing rows words k → k < length words → Worded rows.table.arity rows.columns path k w → Packing rows (set words k w) (k + 1)
  packing_on {words} {w} g b e = record {
    packed = λ j m. go j m (ℕ_discrete j k);
    number = λ j m. nth j m (ℕ_discrete j k);
  }
    where
      here : {j : ℕ} → j ≡ k → get_or (set words k w) j 0 ≡ w
      here z = ap (λ (n : ℕ). get_or (set words k w) n 0) z ∙ get_or-set_same words k w 0 b

      there : (j : ℕ) → (j ≡ k → ⊥) → get_or (set words k w) j 0 ≡ get_or words j 0
      there j z = get_or-set_other words k j w 0 z

      go : (j : ℕ) → j < k + 1 → Dec (j ≡ k) → StandsIn rows (get_or (set words k w) j 0)
      go j m (yes z) = subst (StandsIn rows) (sym (here z)) (word_packed e)
      go j m (no z) = subst (StandsIn rows) (sym (there j z)) (g.packed j (omega (arith, z)))

      nth : (j : ℕ) → j < k + 1 → Dec (j ≡ k) → number_of (get_or (set words k w) j 0) ≡ j
      nth j m (yes z) = ap number_of (here z) ∙ e.number ∙ sym z
      nth j m (no z) = ap number_of (there j z) ∙ g.number j (omega (arith, z))

pub all_packed : {rows : Permuted} {words : List ℕ} {k : ℕ} → Packing rows words k → length words ≤ k → AllPacked rows words
all_packed g h = record { packed = λ j m. g.packed j (omega arith); number = λ j m. g.number j (omega arith) }

-- a table counts no more rows than a place can number
pub few_rows : (rows : Permuted) → rows.table.tuple_count ≤ 65536
few_rows rows =
    let sound = undamaged_told rows.pool.now rows.table rows.legible.sound in
    omega (arith, (holds rows.whole sound).counted, (holds rows.whole sound).room, sound.capacity.1)
