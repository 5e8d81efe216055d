-- Public: when layers are undamaged: the facts, and the test that decides them.
use Rattle.std.specs.Prelude.{ℕ, suc, ◌-◌, ◌≤◌, ◌<◌, ◌≡◌, Bool, true, false, ◌&&◌, ◌||◌, ◌⊎◌, List, [], ◌∷◌, length, get_or, ltb, eqb, leb}
use Rattle.relation.specs.Order.{pick}
use Rattle.relation.specs.Layers.{Layer, layer}

-- a layer's own order: its intervals start at 0 and ascend strictly, the last is below the data length, and keys ascend strictly in each group,
-- which runs from its interval to the next, or to the end of the data
pub record Ordered (ints keys : List ℕ) : Type 0 where
  pub start : 0 < length ints → get_or ints 0 0 ≡ 0
  pub ascend : (i : ℕ) → suc i < length ints → get_or ints i 0 < get_or ints (suc i) 0
  pub inside : (i : ℕ) → suc i ≡ length ints → get_or ints i 0 < length keys
  pub groups : (i j : ℕ) → i < length ints → get_or ints i 0 ≤ j → suc j < get_or ints (suc i) (length keys) → get_or keys j 0 < get_or keys (suc j) 0

-- a table of arity a and capacity c whose lists are `ls`
pub record Undamaged (a c : ℕ) (ls : List Layer) (count : ℕ) : Type 0 where
  pub arity : length ls ≡ a
  pub room : (d : ℕ) → d < a → (length (layer ls d).keys ≤ c) × (length (layer ls d).intervals ≤ c)
  pub counted : count ≡ length (layer ls (a - 1)).keys
  pub shape :
      ((d : ℕ) → d < a → (length (layer ls d).keys ≡ 0) × (length (layer ls d).intervals ≡ 0)) ⊎
      (((layer ls 0).intervals ≡ 0 ∷ []) × ((d : ℕ) → suc d < a → length (layer ls (suc d)).intervals ≡ length (layer ls d).keys))
  pub ordered : (d : ℕ) → d < a → Ordered (layer ls d).intervals (layer ls d).keys

-- one walk over the keys: at place `at`, after the key prev, a group starts or the key is greater
unfoldable pub walk : ℕ → ℕ → List ℕ → List ℕ → Bool
walk at prev [] [] = true
walk at prev (s ∷ ss) [] = false
walk at prev [] (k ∷ ks) = ltb prev k && walk (suc at) k [] ks
walk at prev (s ∷ ss) (k ∷ ks) = pick (eqb s at) true (ltb prev k) && walk (suc at) k (pick (eqb s at) ss (s ∷ ss)) ks

unfoldable pub sound : List ℕ → List ℕ → Bool
unfolding walk
sound [] [] = true
sound [] (k ∷ ks) = false
sound (s ∷ ss) [] = false
sound (s ∷ ss) (k ∷ ks) = eqb s 0 && walk 1 k ss ks

-- a layer under n keys: an interval for each of them, and sound
abbrev pub linked : ℕ → Layer → Bool
linked n l = eqb (length l.intervals) n && sound l.intervals l.keys

-- layers that hang together, n keys above the first
unfoldable pub chain : ℕ → List Layer → Bool
unfolding sound
chain n [] = true
chain n (l ∷ ls) = linked n l && chain (length l.keys) ls

unfoldable pub rooms : ℕ → List Layer → Bool
rooms c [] = true
rooms c (l ∷ ls) = leb (length l.keys) c && (leb (length l.intervals) c && rooms c ls)

-- the test
unfoldable pub undamaged : ℕ → ℕ → List Layer → ℕ → Bool
unfolding chain rooms
undamaged a c ls count = eqb (length ls) a && (rooms c ls && (eqb count (length (layer ls (a - 1)).keys) && (chain 0 ls || chain 1 ls)))
