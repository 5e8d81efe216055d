-- A seek of the laid-over cursor hits exactly where its target is one of the keys not yet passed, so under every strategy alike.
use Prim.Native.Nat.{ℕ}
use mathlib.Core.Path.{◌≡◌, refl, sym, subst}
use mathlib.Core.Bool.{Bool, true, false, ◌||◌, false≢true}
use mathlib.Core.Logic.{◌⊎◌, ⊎_elim}
use mathlib.Core.List.{List, []}
use native.Mathlib.Omega.{arith}
use Rattle.relation.specs.Order.{Row}
use Rattle.relation.specs.Lists.{◌∈◌}
use Rattle.relation.specs.Runs.{from}
use Rattle.relation.specs.Layers.{keys_under}
use Rattle.relation.specs.Exactly.{Exactly}
use Rattle.seek.specs.declared.SeekStrategy.{SeekStrategy}
use Rattle.column_trie.specs.declared.ColumnTrie.{ColumnTrie}
use Rattle.column_trie_iter.specs.Cursor.{sought_of}
use Rattle.column_trie_place.specs.declared.ColumnTrieIter.{ColumnTrieIter}
use Rattle.trie_iterator.specs.TrieIterator.{State, root, level, left}
use Rattle.trie_iterator.specs.Cursor.{Layered, Stands}
use Rattle.trie_iterator.proofs.Laws.{a_seek_hits_exactly_the_keys_not_yet_passed}
use Rattle.overlay.specs.Laid.{laid}
use Rattle.overlay.specs.Merge.{merge}
use Rattle.overlay.proofs.Merge.{in_merge, merge_left, merge_right}
use Rattle.overlay_checks.specs.Tables.{tables_number}
use Rattle.overlay_checks.specs.declared.Side.TheVariants.{School, Maker}
use Rattle.overlay_place.specs.Pairs.{pair_refusal}
use Rattle.laid_iter.specs.declared.LaidIter.{LaidIter}
use Rattle.overlay_iter.specs.Calls.{laid_unsought, one_sought, both_sought, laid_sought_of}
use Rattle.overlay_iter.specs.declared.LaidSeekAnswer.{LaidSeekAnswer}
use Rattle.overlay_iter.proofs.Outcomes.{when_school, when_maker, when_both}
use Rattle.overlay_walk.specs.Pair as spec
use Rattle.overlay_walk.specs.Pair.{StandsFor, at_top, at_first, in_school, in_maker}
use Rattle.overlay_walk.specs.Walk.{LaidStands}
use Rattle.overlay_walk.proofs.Pair as pairs
use Rattle.overlay_walk.proofs.Plain.{depth_at}
use Rattle.overlay_walk.proofs.States.{deep_depth, first_depth, positive, maker_width}
use Rattle.overlay_walk.proofs.Walking.{accepted}

either_exactly : (a b : Bool) {P Q R : Type 0} → Exactly (a ≡ true) P → Exactly (b ≡ true) Q → (R → P ⊎ Q) → (P → R) → (Q → R) → Exactly ((a || b) ≡ true) R
either_exactly true b f g r p q = (λ e. p (f.0 refl), λ e. refl)
either_exactly false b f g r p q = (λ e. q (g.0 e), λ x. ⊎_elim (λ y. absurd (false≢true (f.1 y))) (λ y. g.1 y) (r x))

nil : merge [] [] ≡ []
unfolding merge
nil = refl

exactly_left : {a : Bool} {t : ℕ} {xs ys : List ℕ} → xs ≡ ys → Exactly (a ≡ true) (t ∈ xs) → Exactly (a ≡ true) (t ∈ ys)
exactly_left {a} {t} e f = subst (λ (zs : List ℕ). Exactly (a ≡ true) (t ∈ zs)) e f

module _ {sp : List ℕ} {s : ColumnTrie} {mp : List ℕ} {m : ColumnTrie} {school maker : List Row} (H : Layered sp s school) (G : Layered mp m maker) (same : s.arity ≡ m.arity) (clear : tables_number sp s mp m ≡ 0) (it : LaidIter) (x : SeekStrategy) (t : ℕ) where
  abbrev i : ColumnTrieIter
  i = it.school

  abbrev j : ColumnTrieIter
  j = it.maker

  abbrev Hits : State → LaidSeekAnswer → Type 0
  Hits u r = Exactly (r.hit ≡ true) (t ∈ left u)

  pub a_laid_over_seek_hits_exactly_the_keys_not_yet_passed : {u : State} → LaidStands s m school maker u it → Exactly ((laid_sought_of sp s mp m it x t).hit ≡ true) (t ∈ left u)
  unfolding laid_sought_of
  a_laid_over_seek_hits_exactly_the_keys_not_yet_passed {u} l = go l.together l.of_school l.of_maker
    where
      ok : 0 ≡ pair_refusal sp s mp m it
      ok = accepted H G same clear l

      both : (u : State) {p q : State} → Stands s.arity school p i → Stands m.arity maker q j → merge (left p) (left q) ≡ left u → Hits u (both_sought (sought_of sp s i x t) (sought_of mp m j x t))
      both u {p} {q} w v e =
          exactly_left e
          (either_exactly (sought_of sp s i x t).hit (sought_of mp m j x t).hit (a_seek_hits_exactly_the_keys_not_yet_passed H w x t) (a_seek_hits_exactly_the_keys_not_yet_passed G v x t)
          (in_merge (left p) (left q)) (merge_left (left q)) (merge_right (left p)))

      go : {u p q : State} → StandsFor s.arity school maker u (spec.pair p q) → Stands s.arity school p i → Stands m.arity maker q j → Hits u (laid_sought_of sp s mp m it x t)
      go at_top w v =
          subst (Hits root)
          (when_both sp s mp m it (laid_unsought it) (one_sought School it (sought_of sp s i x t)) (one_sought Maker it (sought_of mp m j x t)) (both_sought (sought_of sp s i x t) (sought_of mp m j x t)) ok refl (omega (arith, depth_at H w)) (omega (arith, depth_at G v)))
          (both root w v nil)
      go (at_first n e) w v =
          subst (Hits (level (from n (keys_under [] (laid school maker))) root))
          (when_both sp s mp m it (laid_unsought it) (one_sought School it (sought_of sp s i x t)) (one_sought Maker it (sought_of mp m j x t)) (both_sought (sought_of sp s i x t) (sought_of mp m j x t)) ok refl (first_depth H n i w) (first_depth G n j v))
          (both (level (from n (keys_under [] (laid school maker))) root) w v (pairs.lefts_at H.width (maker_width H G same) (positive H G same) n))
      go {u} (in_school n k e o r) w v =
          let c = pairs.c_school H.width (maker_width H G same) (positive H G same) n k e o r in
          subst (Hits u)
          (when_school sp s mp m it (laid_unsought it) (one_sought School it (sought_of sp s i x t)) (one_sought Maker it (sought_of mp m j x t)) (both_sought (sought_of sp s i x t) (sought_of mp m j x t)) ok refl (deep_depth H n i c r w))
          (exactly_left (sym (pairs.above_left r)) (a_seek_hits_exactly_the_keys_not_yet_passed H w x t))
      go {u} (in_maker n k e o r) w v =
          let c = pairs.c_maker H.width (maker_width H G same) (positive H G same) n k e o r in
          subst (Hits u)
          (when_maker sp s mp m it (laid_unsought it) (one_sought School it (sought_of sp s i x t)) (one_sought Maker it (sought_of mp m j x t)) (both_sought (sought_of sp s i x t) (sought_of mp m j x t)) ok refl (first_depth H n i w) (deep_depth G n j c r v))
          (exactly_left (sym (pairs.above_left r)) (a_seek_hits_exactly_the_keys_not_yet_passed G v x t))
