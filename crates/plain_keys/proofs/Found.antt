-- What the library's two searches of an ascending run of keys say: which of them a word is, if it is one; and where those from a word on begin.
use Prim.Native.Nat.{ℕ, zero, suc, ◌≤◌, ◌<◌}
use native.Mathlib.Omega.{arith}
use native.Mathlib.Decide.{dec_lt}
use native.Mathlib.Nat.{eq-or-lt_of_le}
use mathlib.Core.Path.{◌≡◌, refl, sym, subst, ap, ◌∙◌}
use mathlib.Core.Bool.{Bool, true, false, ◌&&◌, ◌||◌}
use mathlib.Core.Logic.{⊎_elim}
use mathlib.Core.List.{List, [], ◌∷◌, ◌++◌, append_assoc}
use Rattle.std.specs.Prelude.{Option, Some, None, Result, Ok, Err, MatchResult, slice_get}
use Rattle.std.proofs.lemmas.Option.{slice_get_past, slice_get-get_or}
use Rattle.std.specs.Option.{option_copied}
use Rattle.std.specs.Slice.{IsItemAt}
use Rattle.std.proofs.Common.{Bor}
use Rattle.std.specs.Result.{result_ok}
use Rattle.std.specs.Ordering.{nat_cmp}
use Rattle.std.proofs.lemmas.List.Sorted.{searched}
use Rattle.std.specs.List.Sorted.{IsPartitionedBy, IsPartitionPoint, IsBinarySearchResult}
use Rattle.std.proofs.lemmas.Grind.{common_steps}
use lib.ListN.{length, get_or, take, drop}
use lib.Seq.{split_at, take-take, get_or-take, length-take-le}
use lib.Dec.{eqb, ltb}
use borrow.Author.Tests.{ltb-true, ltb-false, lt-ltb}
use Rattle.relation.specs.Order.{Row}
use Rattle.relation.specs.Lists.{◌∈◌, Ascends}
use Rattle.relation.specs.Rows.{Width}
use Rattle.relation.specs.Layers.{keys_under}
use Rattle.relation.specs.Runs.{from}
use Rattle.relation.proofs.Lists.{get_or_any, in_get_or}
use Rattle.relation.proofs.Runs.{from_drop}
use Rattle.query.specs.Meaning.{part}
use Rattle.query.proofs.Meet.{none_left}
use Rattle.query.proofs.Beyond.{in_keys, keys_in}
use Rattle.plain_keys.specs.Keys.{bound, head_of}
use Rattle.plain_keys.proofs.Descent.{ascends_at}

module _ {keys : List ℕ} (s : Ascends ◌<◌ keys) where
  rises : (i j : ℕ) → i ≤ j → j < length keys → get_or keys i 0 ≤ get_or keys j 0
  rises i j h l = ⊎_elim (λ (q : i ≡ j). rw q (omega arith)) (λ (q : i < j). let z = ascends_at s i j q l in omega (arith, z)) (eq-or-lt_of_le h)

  module _ (word : ℕ) (r : Result ℕ ℕ) (b : IsBinarySearchResult (λ y. nat_cmp y word) keys r) where
    pub is_at : {i : ℕ} → result_ok r ≡ Some i → (i < length keys) × (get_or keys i 0 ≡ word)
    is_at {i} e = go r e (searched keys word r b rises)
      where
        go : (r : Result ℕ ℕ) → result_ok r ≡ Some i → MatchResult r (λ i. (i < length keys) × (get_or keys i 0 ≡ word)) (λ i. (i ≤ length keys) × ((k : ℕ) → k < i → get_or keys k 0 < word) × ((k : ℕ) → i ≤ k → k < length keys → word < get_or keys k 0)) → (i < length keys) × (get_or keys i 0 ≡ word)
        go (Ok j) e m = let q : j ≡ i = cc in subst (λ (i : ℕ). (i < length keys) × (get_or keys i 0 ≡ word)) q m
        go (Err j) e m = absurd (cc)

    pub is_none : result_ok r ≡ None → word ∈ keys → ⊥
    is_none e m = go r e (searched keys word r b rises)
      where
        go : (r : Result ℕ ℕ) → result_ok r ≡ None → MatchResult r (λ i. (i < length keys) × (get_or keys i 0 ≡ word)) (λ i. (i ≤ length keys) × ((k : ℕ) → k < i → get_or keys k 0 < word) × ((k : ℕ) → i ≤ k → k < length keys → word < get_or keys k 0)) → ⊥
        go (Ok j) e t = cc
        go (Err j) e t =
            let w = in_get_or 0 m in
            elim (dec_lt w.0 j) [ yes l ↦ omega (arith, w.2, t.1 w.0 l) | no n ↦ omega (arith, w.2, t.2 w.0 (omega arith) w.1) ]

-- whether a key comes before the one sought, as the search tests it
abbrev pub early : Bool → ℕ → ℕ → Bool
early past word key = ltb key word || (past && eqb key word)

early_is : (past : Bool) (word key : ℕ) → early past word key ≡ ltb key (bound past word)
early_is false word key = grind (arith, common_steps)
early_is true word key = grind (arith, common_steps)

-- what `get` finds at a place, copied
pub item_copied : (keys : List ℕ) (at : ℕ) (x : Option (Bor ℕ)) → IsItemAt keys at x → option_copied x ≡ slice_get keys at
item_copied keys at None h = sym (slice_get_past keys at h.3)
item_copied keys at (Some b) h = sym (slice_get-get_or keys at 0 h.3.0 ∙ ap (λ (k : ℕ). Some k) (sym (h.3.1 0)))

head_at : (keys : List ℕ) (at : ℕ) → at ≤ length keys → slice_get keys at ≡ head_of (drop at keys)
unfolding head_of
head_at [] zero h = refl
head_at [] (suc at) h = absurd (omega arith)
head_at (x ∷ keys) zero h = refl
head_at (x ∷ keys) (suc at) h = head_at keys at (omega arith)

module _ {keys : List ℕ} (s : Ascends ◌<◌ keys) (past : Bool) (word : ℕ) where
  pub parted : IsPartitionedBy (early past word) keys
  parted i j d h l e =
      let a = ltb-true (get_or keys j d) (bound past word) (sym (early_is past word (get_or keys j d)) ∙ e) in
      early_is past word (get_or keys i d) ∙ lt-ltb (get_or keys i d) (bound past word) (omega (arith, a, rises s i j h l, get_or_any keys i d 0 (omega arith), get_or_any keys j d 0 l))

  -- the key at that point is the first of those from the bound on
  pub first_from : {at : ℕ} → IsPartitionPoint (λ w. early past word w ≡ true) (λ w. early past word w ≡ false) keys at → at ≤ length keys → slice_get keys at ≡ head_of (from (bound past word) keys)
  first_from {at} p l =
      head_at keys at l
      ∙ ap head_of (sym (from_drop (bound past word) keys at l
      (λ i h. ltb-true (get_or keys i 0) (bound past word) (sym (early_is past word (get_or keys i 0)) ∙ p.0 i 0 (omega arith) h))
      (λ h. ltb-false (get_or keys at 0) (bound past word) (sym (early_is past word (get_or keys at 0)) ∙ p.1 at 0 (omega arith) h))))

-- words that no row begins with have no keys behind them
pub missing : (words : List ℕ) (d len : ℕ) {a : ℕ} {rows : List Row} → Width a rows → d < len → len ≤ length words → len < a → (get_or words d 0 ∈ keys_under (take d words) rows → ⊥) → keys_under (take len words) rows ≡ []
missing words d len {a} {rows} w h l b n =
    none_left (keys_under (take len words) rows) (λ x m.
    let q = take len words in
    let e : q ≡ take d words ++ get_or words d 0 ∷ drop (suc d) q =
    split_at q d 0 (omega (arith, length-take-le len words l)) ∙ ap (λ (y : List ℕ). y ++ get_or q d 0 ∷ drop (suc d) q) (take-take d len words (omega arith)) ∙ ap (λ (y : ℕ). take d words ++ y ∷ drop (suc d) q) (get_or-take len words d 0 h) in
    let t = in_keys q w (omega (arith, length-take-le len words l)) m in
    n (keys_in (take d words) w (omega (arith, length-take-le d words (omega arith))) (drop (suc d) q ++ x ∷ t.0)
    (subst (λ (y : Row). y ∈ rows) (ap (λ (y : Row). y ++ x ∷ t.0) e ∙ append_assoc (take d words) (get_or words d 0 ∷ drop (suc d) q) (x ∷ t.0)) t.1)))

-- the words of a row, column by column
pub words_at : (xs : List ℕ) (row : Row) (d : ℕ) → d < length xs → get_or (part xs row) d 0 ≡ get_or row (get_or xs d 0) 0
words_at [] row d h = absurd (omega arith)
words_at (x ∷ xs) row zero h = refl
words_at (x ∷ xs) row (suc d) h = words_at xs row d (omega arith)

-- so no row begins with the words up to it
pub head_missing : (words : List ℕ) (d len bound : ℕ) {a : ℕ} {rows : List Row} → Width a rows → d < len → len ≤ length words → len < a → (get_or words d 0 ∈ keys_under (take d words) rows → ⊥) → None ≡ head_of (from bound (keys_under (take len words) rows))
unfolding head_of from
head_missing words d len bound w h l b n = ap (λ (ks : List ℕ). head_of (from bound ks)) (sym (missing words d len w h l b n))
