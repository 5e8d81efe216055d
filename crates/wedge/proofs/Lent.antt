-- Words of the pool that are lent, from place a on so many as k: what they are given back as lies in the pool as if it were laid over it.
use Prim.Native.Nat.{ℕ, suc, ◌+◌, ◌-◌, ◌≤◌}
use mathlib.Core.Path.{◌≡◌, sym, ap, ap₂, ◌∙◌}
use mathlib.Core.List.{List, [], ◌∷◌, ◌++◌, map, append_assoc, append-nil}
use native.Mathlib.Omega.{arith}
use lib.ListN.{length, take, drop, set, length-map}
use Rattle.std.proofs.lemmas.List.{take-take, drop-take, drop-drop, drop-append-le, drop_all, length-take-le, take-append-drop}
use Rattle.std.proofs.lemmas.List.Edits.{sets-eq}
use borrow.Rule.Slice.PartMut.{put_mid}
use Rattle.column_trie.specs.Pool.{lay}
use Rattle.column_trie.proofs.Pool.{lay_own}
use Rattle.column_trie.proofs.Header.{length_part}
use Rattle.wedge.specs.Shift.{listed}
use Rattle.wedge.proofs.Lists.{lifted}

abbrev pub part : List ℕ → ℕ → ℕ → List ℕ
part pool a k = take k (drop a pool)

module _ (pool : List ℕ) (a k : ℕ) (inside : a + k ≤ length pool) where
  pub part_long : length (part pool a k) ≡ k
  part_long = length_part pool a k inside

  -- with other words in front, and those behind as they were
  pub lent : (xs : List ℕ) → length xs ≤ k → put_mid a k pool (xs ++ drop (length xs) (part pool a k)) ≡ lay pool a xs
  unfolding lay
  lent xs h =
      ap (λ (l : List ℕ). take a pool ++ l) (append_assoc xs (drop (length xs) (part pool a k)) (drop k (drop a pool)) ∙ ap (λ (l : List ℕ). xs ++ l) rest)
      ∙ sym (append_assoc (take a pool) xs (drop (a + length xs) pool))
      ∙ sym (sets-eq xs pool a (omega arith))
    where
      rest : drop (length xs) (part pool a k) ++ drop k (drop a pool) ≡ drop (a + length xs) pool
      rest =
          sym (drop-append-le (length xs) (part pool a k) (drop k (drop a pool)) (omega (arith, part_long)))
          ∙ ap (drop (length xs)) (take-append-drop k (drop a pool))
          ∙ drop-drop (length xs) a pool

  -- all of them others
  pub lent_all : (xs : List ℕ) → length xs ≡ k → put_mid a k pool xs ≡ lay pool a xs
  lent_all xs h = ap (put_mid a k pool) (sym (append-nil xs) ∙ ap (λ (l : List ℕ). xs ++ l) (sym (drop_all (length xs) (part pool a k) (omega (arith, part_long))))) ∙ lent xs (omega arith)

-- a list of n words, lent with the free word behind it, that gets a word
pub lent_more :
    (pool : List ℕ) (a n k : ℕ) → k ≡ n + 1 → a + k ≤ length pool → (f : List ℕ → List ℕ) → ((xs : List ℕ) → length (f xs) ≡ suc (length xs)) → (ys : List ℕ) →
    ys ≡ f (listed (part pool a k)) → put_mid a k pool ys ≡ lay pool a (f (take n (drop a pool)))
lent_more pool a n k e inside f long ys q =
    ap (put_mid a k pool) (q ∙ ap f list) ∙ lent_all pool a k inside (f (take n (drop a pool))) (omega (arith, long (take n (drop a pool)), length_part pool a n (omega arith)))
  where
    list : listed (part pool a k) ≡ take n (drop a pool)
    list = let m : length (part pool a k) - 1 ≡ n = omega (arith, part_long pool a k inside) in ap (λ (z : ℕ). take z (part pool a k)) m ∙ take-take n k (drop a pool) (omega arith)

-- one that loses a word
pub lent_less :
    (pool : List ℕ) (a n k : ℕ) → k ≡ n → a + n ≤ length pool → (f : List ℕ → List ℕ) → length (f (take n (drop a pool))) ≡ n - 1 → (ys : List ℕ) →
    ys ≡ f (part pool a k) ++ drop (length (part pool a k) - 1) (part pool a k) → put_mid a k pool ys ≡ lay pool a (f (take n (drop a pool)))
lent_less pool a n k e inside f long ys q =
    ap (put_mid a k pool) (q ∙ ap (λ (m : ℕ). f (part pool a k) ++ drop m (part pool a k)) rest)
    ∙ lent pool a k (omega arith) (f (part pool a k)) (omega (arith, same))
    ∙ ap (λ (m : ℕ). lay pool a (f (take m (drop a pool)))) e
  where
    same : length (f (part pool a k)) ≡ n - 1
    same = ap (λ (m : ℕ). length (f (take m (drop a pool)))) e ∙ long

    rest : length (part pool a k) - 1 ≡ length (f (part pool a k))
    rest = omega (arith, part_long pool a k (omega arith), same)

-- ---- the last words of a list

lay_append : (pool : List ℕ) (at : ℕ) (xs ys : List ℕ) → lay pool at (xs ++ ys) ≡ lay (lay pool at xs) (at + length xs) ys
unfolding lay
lay_append pool at [] ys = ap (λ (n : ℕ). lay pool n ys) (let e : at ≡ at + 0 = omega arith in e)
lay_append pool at (x ∷ xs) ys =
    lay_append (set pool at x) (suc at) xs ys
    ∙ ap (λ (n : ℕ). lay (lay (set pool at x) (suc at) xs) n ys) (let e : suc at + length xs ≡ at + suc (length xs) = omega arith in e)

-- what is laid behind the first of n words is laid with them
lay_behind : (pool : List ℕ) (base at n : ℕ) → at ≤ n → base + n ≤ length pool → (ys : List ℕ) → lay pool (base + at) ys ≡ lay pool base (take at (take n (drop base pool)) ++ ys)
lay_behind pool base at n h inside ys = sym (lay_append pool base (take at words) ys ∙ ap₂ (λ (p : List ℕ) (m : ℕ). lay p m ys) own (ap (λ (m : ℕ). base + m) long))
  where
    words : List ℕ
    words = take n (drop base pool)

    long : length (take at words) ≡ at
    long = length-take-le at words (omega (arith, length_part pool base n inside))

    own : lay pool base (take at words) ≡ pool
    own = ap (lay pool base) (take-take at n (drop base pool) h) ∙ lay_own pool base at (omega arith)

-- f of each of a list's words from place `from` on, which are lent
pub lent_lifted :
    (pool : List ℕ) (base from n a k : ℕ) → a ≡ base + from → a + k ≡ base + n → base + n ≤ length pool → (f : ℕ → ℕ) (ys : List ℕ) →
    ys ≡ map f (part pool a k) → put_mid a k pool ys ≡ lay pool base (lifted f from (take n (drop base pool)))
lent_lifted pool base from n a k e q inside f ys z =
    ap (put_mid a k pool) z
    ∙ lent_all pool a k (omega arith) (map f (part pool a k)) (length-map (part pool a k) f ∙ part_long pool a k (omega arith))
    ∙ ap₂ (λ (m : ℕ) (l : List ℕ). lay pool m (map f l)) e last
    ∙ lay_behind pool base from n (omega arith) inside (map f (drop from (take n (drop base pool))))
  where
    last : part pool a k ≡ drop from (take n (drop base pool))
    last =
        let j : from + k ≡ n = omega arith in
        ap (take k) (ap (λ (m : ℕ). drop m pool) e ∙ sym (drop-drop from base pool)) ∙ sym (drop-take from k (drop base pool)) ∙ ap (λ (m : ℕ). drop from (take m (drop base pool))) j
