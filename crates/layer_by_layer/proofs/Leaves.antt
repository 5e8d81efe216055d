-- Where a row leaves rows that lack it: at each depth its place, and what the layer there is once it has the row's key. An insert makes such a layer of
-- that of the rows; a removal takes it back.
use Prim.Native.Nat.{ℕ, suc, ◌+◌, ◌<◌}
use mathlib.Core.Path.{◌≡◌, refl, sym, ap, ap₂, subst, ◌∙◌}
use mathlib.Core.Bool.{Bool, true, false}
use mathlib.Core.List.{List}
use native.Mathlib.Numerals.{add-one}
use lib.ListN.{length, get_or}
use Rattle.relation.specs.Order.{Row}
use Rattle.relation.specs.Rows.{Width, put}
use Rattle.relation.specs.Layers.{Layer}
use Rattle.relation.proofs.Tests.{not_both}
use Rattle.relation.proofs.Layers.{ranked_at}
use Rattle.relation.proofs.Insert.{PrefixStored, rank_of, stored_below, insert_known, insert_key, insert_first, insert_new, below}
use Rattle.layer_by_layer.specs.Grow.{branched, sprouted, grown}

-- at depth d the row's parent is i; it is stored, and its key, which goes to place `at`, is the first that isn't; or it is `fresh`, not stored itself
pub record Leaves (a : ℕ) (rows : List Row) (r : Row) (d i at : ℕ) (fresh : Bool) : Type 0 where
  pub place : i ≡ rank_of rows r d
  pub old : fresh ≡ false → (d < a) × PrefixStored rows r d × (PrefixStored rows r (suc d) → ⊥) × (at ≡ rank_of rows r (suc d))
  pub new : fresh ≡ true → PrefixStored rows r d → ⊥

-- the place of the key, once it is known
pub leaves_at : {a : ℕ} {rows : List Row} {r : Row} {d i at : ℕ} {fresh : Bool} → Leaves a rows r d i at fresh → (at' : ℕ) → at' ≡ rank_of rows r (suc d) → Leaves a rows r d i at' fresh
leaves_at g at' e = record { place = g.place; old = λ f. let o = g.old f in (o.0, o.1, o.2, e); new = g.new }

-- no layer above changes
pub kept_above : (a : ℕ) (rows : List Row) (r : Row) → Width a rows → length r ≡ a → (k d : ℕ) → k < d → PrefixStored rows r d → ranked_at k (put r rows) ≡ ranked_at k rows
kept_above a rows r w lr k d h m =
    let z = insert_known a rows r w lr k (stored_below a rows r w lr (suc k) d h m) in
    ap₂ {C = Layer} (λ ks is. record { keys = ks; intervals = is }) z.0 z.1

module _ {a : ℕ} {rows : List Row} {r : Row} (w : Width a rows) (lr : length r ≡ a) where
  module _ {d i at : ℕ} {fresh : Bool} (g : Leaves a rows r d i at fresh) (h : d < a) where
    pub unstored : PrefixStored rows r (suc d) → ⊥
    unstored = go fresh refl
      where
        go : (b : Bool) → fresh ≡ b → PrefixStored rows r (suc d) → ⊥
        go true f = (below a rows r w lr d h (g.new f)).0
        go false f = (g.old f).2

    module _ (e : at ≡ rank_of rows r (suc d)) where
      -- the layer with the row
      pub grown_is : grown fresh i at (get_or r d 0) (ranked_at d rows) ≡ ranked_at d (put r rows)
      grown_is = go fresh refl
        where
          go : (b : Bool) → fresh ≡ b → grown fresh i at (get_or r d 0) (ranked_at d rows) ≡ ranked_at d (put r rows)
          go true f =
              ap (λ (b : Bool). grown b i at (get_or r d 0) (ranked_at d rows)) f
              ∙ ap₂ (λ (m n : ℕ). sprouted m n (get_or r d 0) (ranked_at d rows)) g.place e
              ∙ ap₂ {C = Layer} (λ x z. record { keys = x; intervals = z }) (sym (insert_key a rows r w lr d h unstored)) (sym (insert_new a rows r w lr d h (g.new f)))
          go false f =
              ap (λ (b : Bool). grown b i at (get_or r d 0) (ranked_at d rows)) f
              ∙ ap₂ (λ (m n : ℕ). branched m n (get_or r d 0) (ranked_at d rows)) g.place e
              ∙ ap₂ {C = Layer} (λ x z. record { keys = x; intervals = z }) (sym (insert_key a rows r w lr d h unstored)) (sym (insert_first a rows r w lr d h (g.old f).1 (g.old f).2))

      -- one layer further the parent is new
      pub leaves_deeper : Leaves a rows r (d + 1) at 0 true
      leaves_deeper =
          record {
            place = e ∙ ap (rank_of rows r) (sym (add-one d));
            old = λ f. not_both true refl f;
            new = λ f m. unstored (subst (PrefixStored rows r) (add-one d) m);
          }
