-- Into the loop that takes a row out: the fork is where the row leaves the others, or the table has no other row, and the loop starts at the top.
use Prim.Native.Nat.{ℕ, suc}
use mathlib.Core.Path.{◌≡◌, refl, sym, ap, subst, ◌∙◌}
use mathlib.Core.Bool.{true, false}
use mathlib.Core.List.{List, [], ◌∷◌}
use native.Mathlib.Omega.{arith}
use lib.ListN.{length, take}
use lib.Seq.{take_all}
use Rattle.relation.specs.Order.{Row}
use Rattle.relation.specs.Lists.{◌∈◌, hd}
use Rattle.relation.specs.Rows.{put}
use Rattle.relation.specs.Layers.{prefixes}
use Rattle.relation.proofs.Tests.{not_both}
use Rattle.relation.proofs.Layers.{prefix_in, prefix_of}
use Rattle.relation.proofs.Insert.{PrefixStored, rank_of, root, no_root}
use Rattle.column_trie.specs.Table.{rows_in}
use Rattle.column_trie.specs.declared.ColumnTrie.{ColumnTrie}
use Rattle.column_trie.proofs.Damage.{undamaged_told}
use Rattle.column_trie.proofs.Layers.{Whole}
use Rattle.column_trie.proofs.Stored.{in_pool}
use Rattle.column_trie.proofs.Tables.{Holds, holds}
use Rattle.column_trie_path.specs.declared.Fork.{Fork}
use Rattle.column_trie_path.specs.Place.{Alone, ForkOf, LastFork}
use Rattle.std.specs.Prelude.{Option, Some, None}
use Rattle.layer_by_layer.proofs.Changing.{changing_start}
use Rattle.layer_by_layer.proofs.Leaves.{kept_above}
use Rattle.column_trie_remove.specs.Remove.{without}
use Rattle.column_trie_remove.specs.Shrink.{Forked}
use Rattle.column_trie_remove.proofs.Rest.{in_without, without_in, not_there, put_back, rank_same}
use Rattle.column_trie_remove.proofs.Cuts.{Ready, Shrinking, rest_width, counted, change}

nobody : (qs : List Row) → ((q : Row) → q ∈ qs → ⊥) → qs ≡ []
nobody [] f = refl
nobody (q ∷ qs) f = absurd (f q (hd refl))

module _ {pool : List ℕ} {t : ColumnTrie} {r : Row} {f : Option Fork} (o : Whole t) (c : Forked pool t r f) where
  abbrev rows : List Row
  rows = rows_in pool t

  abbrev rest : List Row
  rest = without r (rows_in pool t)

  held : Holds pool t rows
  held = holds o (undamaged_told pool t c.undamaged)

  whole : put r rest ≡ rows
  whole = put_back held.asc c.there

  pub ready : Ready pool t rest r
  ready =
      record {
        whole = o;
        inside = in_pool (undamaged_told pool t c.undamaged);
        held = subst (λ (qs : List Row). Holds pool t qs) (sym whole) held;
        long = held.width r c.there;
        absent = not_there r rows;
      }

  rank_in : (d : ℕ) → rank_of rows r d ≡ rank_of rest r d
  rank_in d = ap (λ (qs : List Row). rank_of qs r d) (sym whole) ∙ rank_same rest r (rest_width ready) ready.long d

  -- one of the others that shares all words is the row itself
  shares_all : {q : Row} → q ∈ rows → take t.arity q ≡ take t.arity r → r ≡ q
  shares_all {q} m e = sym (sym (take_all t.arity q (omega (arith, held.width q m))) ∙ e ∙ take_all t.arity r (omega (arith, ready.long)))

  count : t.tuple_count ≡ suc (length rest)
  count = ready.held.counted ∙ counted ready

  module _ {g : Fork} (k : ForkOf rows r t.arity g) where
    another_left : k.another.row ∈ rest
    another_left = without_in r k.another.there (λ e. k.another.parts (ap (take (suc g.depth)) (sym e)))

    stored : PrefixStored rest r g.depth
    stored = subst (λ (u : Row). u ∈ prefixes g.depth rest) k.another.shares (prefix_in g.depth another_left)

    leaves : PrefixStored rest r (suc g.depth) → ⊥
    leaves m =
        let v = prefix_of (suc g.depth) rest m in
        let w = in_without r rows v.1 in
        w.1 (shares_all w.0 (k.alone v.0 w.0 (sym v.2)))

    shrinking_fork : Shrinking pool t rest r pool t g.depth g.interval g.at false
    shrinking_fork =
        record {
          layers = changing_start (change ready) g.depth (omega (arith, k.above)) (λ j b. sym (kept_above t.arity rest r (rest_width ready) ready.long j g.depth b stored));
          leaves = record {
            place = k.interval ∙ rank_in g.depth;
            old = λ e. (k.above, stored, leaves, k.place ∙ rank_in (suc g.depth));
            new = λ e. not_both false e refl;
          };
        }

  module _ (k : Alone rows r 0 t.arity) where
    none_left : rest ≡ []
    none_left = nobody rest (λ q m. let w = in_without r rows m in w.1 (shares_all w.0 (k q w.0 refl)))

    shrinking_top : Shrinking pool t rest r pool t 0 0 0 true
    shrinking_top =
        record {
          layers = changing_start (change ready) 0 (omega arith) (λ j b. absurd (omega arith));
          leaves = record {
            place = sym (root r c.there).1 ∙ rank_in 0;
            old = λ e. not_both true refl e;
            new = λ e m. no_root r 0 (subst (λ (qs : List Row). PrefixStored qs r 0) none_left m);
          };
        }

  pub shrinking_some : {g : Fork} → f ≡ Some g → Shrinking pool t rest r pool t g.depth g.interval g.at false
  shrinking_some e = shrinking_fork (subst (LastFork rows r t.arity) e c.fork)

  pub shrinking_none : f ≡ None → Shrinking pool t rest r pool t 0 0 0 true
  shrinking_none e = shrinking_top (subst (LastFork rows r t.arity) e c.fork)
