-- The table that an atom's words lie in: it is undamaged, of the same arity as the atom's own, and has the keys under those words that count.
use Prim.Native.Nat.{ℕ, suc, ◌≤◌, ◌<◌}
use native.Mathlib.Omega.{arith}
use native.Mathlib.Decide.{ℕ_discrete}
use mathlib.Core.Path.{◌≡◌, refl, sym, subst, ap, ◌∙◌}
use mathlib.Core.Bool.{Bool, true, false, false≢true, ◌&&◌}
use mathlib.Core.List.{List, [], ◌∷◌}
use lib.ListN.{length}
use lib.Dec.{eqb}
use Rattle.relation.specs.Order.{Row}
use Rattle.relation.specs.Layers.{keys_under}
use Rattle.column_trie.specs.Table.{rows_in, Undamaged}
use Rattle.join_query.specs.Query.{atom_at, atom_table, rows_at, Accepted}
use Rattle.join_query.specs.declared.Query.{Query}
use Rattle.join_query.specs.declared.Tables.{Tables}
use Rattle.join_query.proofs.Accepted.{sound, sound_maker, shapes}
use Rattle.join_query.proofs.Keys.{plain_keys, school_keys, maker_keys}
use Rattle.join_depths.specs.Depth.{owner_of, Owned}

-- by whose they are
pub by_side : (P : ℕ → Type 0) (o : ℕ) → o ≤ 1 → (o ≡ 0 → P 0) → (o ≡ 1 → P 1) → P o
by_side P o h f g = go (ℕ_discrete o 0)
  where
    go : Dec (o ≡ 0) → P o
    go (yes e) = subst P (sym e) (f e)
    go (no n) = let e : o ≡ 1 = omega arith in subst P (sym e) (g e)

by_laid : {A : Type 0} (b : Bool) → (b ≡ true → A) → (b ≡ false → A) → A
by_laid true f g = f refl
by_laid false f g = g refl

module _ {pool : List ℕ} {ts : Tables} {q : Query} {len : ℕ} (z : Accepted pool ts q len) (i : ℕ) (h : i < q.atom_count) {o : ℕ} {p : Row} (w : Owned pool ts q i o p) where
  -- only an atom that is laid over has words in its maker's table
  pub owner_laid : o ≡ 1 → (atom_at q i).laid_over ≡ true
  owner_laid e = by_laid (atom_at q i).laid_over (λ l. l) (λ l. absurd (omega (arith, w.plain l)))

  pub owner_sound : Undamaged pool (owner_of ts q i o)
  owner_sound = by_side (λ o. Undamaged pool (owner_of ts q i o)) o w.side (λ e. sound z i h) (λ e. sound_maker z i h (owner_laid e))

  pub owner_arity : (owner_of ts q i o).arity ≡ (atom_table ts q i).arity
  owner_arity = by_side (λ o. (owner_of ts q i o).arity ≡ (atom_table ts q i).arity) o w.side (λ e. refl) (λ e. sym (shapes z i h (owner_laid e)).arity)

  pub owner_keys : ((atom_at q i).laid_over && eqb (length p) 0) ≡ false → length p < (atom_table ts q i).arity → keys_under p (rows_at pool ts (atom_at q i)) ≡ keys_under p (rows_in pool (owner_of ts q i o))
  owner_keys n b = by_laid (atom_at q i).laid_over (λ l. laid p refl l) plain
    where
      plain : (atom_at q i).laid_over ≡ false → keys_under p (rows_at pool ts (atom_at q i)) ≡ keys_under p (rows_in pool (owner_of ts q i o))
      plain l = subst (λ (o : ℕ). keys_under p (rows_at pool ts (atom_at q i)) ≡ keys_under p (rows_in pool (owner_of ts q i o))) (sym (w.plain l)) (plain_keys z i h l p)

      laid : (r : Row) → p ≡ r → (atom_at q i).laid_over ≡ true → keys_under p (rows_at pool ts (atom_at q i)) ≡ keys_under p (rows_in pool (owner_of ts q i o))
      laid [] e l = absurd (false≢true (sym n ∙ (ap (λ (r : Row). (atom_at q i).laid_over && eqb (length r) 0) e ∙ ap (λ (b : Bool). b && true) l)))
      laid (k ∷ r) e l =
          let c : suc (length r) < (atom_table ts q i).arity = omega (arith, ap length e) in
          let f = w.first l k r e in
          let back : (o : ℕ) → keys_under (k ∷ r) (rows_at pool ts (atom_at q i)) ≡ keys_under (k ∷ r) (rows_in pool (owner_of ts q i o)) → keys_under p (rows_at pool ts (atom_at q i)) ≡ keys_under p (rows_in pool (owner_of ts q i o)) =
          λ o. subst (λ (x : Row). keys_under x (rows_at pool ts (atom_at q i)) ≡ keys_under x (rows_in pool (owner_of ts q i o))) (sym e) in
          by_side (λ o. keys_under p (rows_at pool ts (atom_at q i)) ≡ keys_under p (rows_in pool (owner_of ts q i o))) o w.side
          (λ y. back 0 (school_keys z i h l k r c (f ∙ ap (λ (o : ℕ). eqb o 0) y)))
          (λ y. back 1 (maker_keys z i h l k r c (f ∙ ap (λ (o : ℕ). eqb o 0) y)))
