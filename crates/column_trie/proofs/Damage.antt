-- The damage test decides the facts; and with a sound header every layer has room.
use Prim.Native.Nat.{ℕ, ◌+◌, ◌≤◌, ◌<◌}
use mathlib.Core.Path.{◌≡◌, refl, ap, ◌∙◌}
use mathlib.Core.Bool.{Bool, true, false, not, ◌&&◌, ◌||◌}
use mathlib.Core.List.{List}
use mathlib.Core.Logic.{◌⊎◌, inl, inr}
use native.Mathlib.Omega.{arith}
use lib.ListN.{length}
use lib.Dec.{ltb, eqb}
use borrow.Author.Tests.{ltb-true, ltb-false, eqb-true, not-true}
use Rattle.relation.specs.Tests.{every}
use Rattle.relation.specs.Layers.{Layer, layer}
use Rattle.relation.specs.Undamaged.{chain, rooms}
use Rattle.relation.specs.Undamaged as layers
use Rattle.relation.proofs.Undamaged as layer_laws
use Rattle.relation.proofs.Tests.{T_true, true_T, and_left, and_right, and_true, every_at, every_all}
use Rattle.column_trie.specs.Limits.{max_arity}
use Rattle.column_trie.specs.Pool.{spot}
use Rattle.column_trie.specs.Table.{data_len_at, interval_len_at, grade_at, layers_in, past_at, header_sound, Undamaged, undamaged}
use Rattle.column_trie.specs.declared.ColumnTrie.{ColumnTrie}
use Rattle.column_trie.proofs.Header.{InPool, header_told, told_header, layer_fits, length_part, Bare, past_told}
use Rattle.column_trie.proofs.Layers.{Whole, layers_length, layers_at}

module _ (pool : List ℕ) {t : ColumnTrie} (o : Whole t) (p : InPool (length pool) t) where
  pub keys_length : (d : ℕ) → d < t.arity → length (layer (layers_in pool t) d).keys ≡ data_len_at t d
  keys_length d h =
      ap (λ (l : Layer). length l.keys) (layers_at pool t o p.few d h) ∙ length_part pool (spot t.start t.capacity d) (data_len_at t d) (omega (arith, layer_fits p h))

  pub intervals_length : (d : ℕ) → d < t.arity → length (layer (layers_in pool t) d).intervals ≡ interval_len_at t d
  intervals_length d h =
      ap (λ (l : Layer). length l.intervals) (layers_at pool t o p.few d h)
      ∙ length_part pool (spot t.start t.capacity d + t.capacity) (interval_len_at t d) (omega (arith, layer_fits p h))

  -- every list has room: the header says so
  pub roomy : (d : ℕ) → d < length (layers_in pool t) → (length (layer (layers_in pool t) d).keys ≤ t.capacity) × (length (layer (layers_in pool t) d).intervals ≤ t.capacity)
  roomy d h =
      let b : d < t.arity = omega (arith, layers_length pool t o p.few) in
      (omega (arith, keys_length d b, layer_fits p b), omega (arith, intervals_length d b, layer_fits p b))

-- what the test tells, and back
pub undamaged_told : (pool : List ℕ) (t : ColumnTrie) → undamaged pool t ≡ true → Undamaged pool t
unfolding undamaged
undamaged_told pool t e =
    let past = every max_arity (past_at t) in
    let inner = layers.undamaged t.arity t.capacity (layers_in pool t) t.tuple_count in
    let p = header_told (length pool) t (and_left (header_sound (length pool) t) (past && inner) e) in
    let f = and_right (header_sound (length pool) t) (past && inner) e in
    let l : (d : ℕ) → t.arity ≤ d → d < max_arity → Bare t d = λ d h b. left d h (every_at (past_at t) max_arity (and_left past inner f) d b) in
    record {
      arity = (p.positive, p.few);
      capacity = (p.roomy, p.small);
      fits = p.fits;
      within = p.within;
      past = λ d h b. ((l d h b).0, (l d h b).1);
      plain = λ d h b. (l d h b).2;
      layers = layer_laws.undamaged→ t.arity t.capacity (layers_in pool t) t.tuple_count (true_T inner (and_right past inner f));
    }
  where
    left : (d : ℕ) → t.arity ≤ d → past_at t d ≡ true → Bare t d
    left d h q = go (ltb d t.arity) refl q
      where
        go : (b : Bool) → ltb d t.arity ≡ b → (b || (eqb (data_len_at t d) 0 && (eqb (interval_len_at t d) 0 && not (grade_at t d)))) ≡ true → Bare t d
        go true l q = absurd (omega (arith, ltb-true d t.arity l))
        go false l q =
            let x = eqb (data_len_at t d) 0 in
            let y = eqb (interval_len_at t d) 0 in
            let z = not (grade_at t d) in
            let f = and_right x (y && z) q in
            (eqb-true (data_len_at t d) 0 (and_left x (y && z) q), eqb-true (interval_len_at t d) 0 (and_left y z f), not-true (grade_at t d) (and_right y z f))

pub told_undamaged : (pool : List ℕ) (t : ColumnTrie) → Undamaged pool t → undamaged pool t ≡ true
unfolding undamaged
told_undamaged pool t u =
    let past = every max_arity (past_at t) in
    let inner = layers.undamaged t.arity t.capacity (layers_in pool t) t.tuple_count in
    and_true (header_sound (length pool) t) (past && inner)
    (told_header (length pool) t (record { positive = u.arity.0; few = u.arity.1; roomy = u.capacity.0; small = u.capacity.1; fits = u.fits; within = u.within }))
    (and_true past inner (every_all (past_at t) max_arity (λ d h. past_told t d (side d h (ltb d t.arity) refl))) (T_true inner (layer_laws.→undamaged u.layers)))
  where
    side : (d : ℕ) → d < max_arity → (b : Bool) → ltb d t.arity ≡ b → (d < t.arity) ⊎ Bare t d
    side d h true e = inl (ltb-true d t.arity e)
    side d h false e = let k = ltb-false d t.arity e in inr ((u.past d k h).0, (u.past d k h).1, u.plain d k h)

pub undamaged_header : (pool : List ℕ) (t : ColumnTrie) → undamaged pool t ≡ true → header_sound (length pool) t ≡ true
unfolding undamaged
undamaged_header pool t e =
    and_left (header_sound (length pool) t) (every max_arity (past_at t) && layers.undamaged t.arity t.capacity (layers_in pool t) t.tuple_count) e
