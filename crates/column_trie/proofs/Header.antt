-- What the header's tests tell, and the one product that a table's size is.
use Prim.Native.Nat.{ℕ, suc, ◌+◌, ◌*◌, ◌≤◌, ◌<◌}
use mathlib.Core.Path.{◌≡◌, refl, sym, ap, ◌∙◌}
use mathlib.Core.Bool.{Bool, true, false, not, ◌&&◌, ◌||◌}
use mathlib.Core.Logic.{◌⊎◌, inl, inr}
use mathlib.Core.List.{List}
use native.Mathlib.Omega.{arith}
use native.Mathlib.Nat.{mul-le-mul, mul-le-mul_right, mul_comm, mul_assoc, suc-mul}
use lib.ListN.{length, take, drop, length-drop}
use lib.Seq.{length-take-le}
use lib.Dec.{ltb, leb, eqb}
use borrow.Author.Tests.{ltb-true, leb-true, leb-false, lt-ltb, le-ltb, le-leb, lt-leb, eq-eqb, ne_eqb}
use Rattle.relation.specs.Tests.{every}
use Rattle.relation.proofs.Tests.{and_left, and_right, and_true, and_false_left, and_false_right, every_at, every_all, or_right}
use Rattle.column_trie.specs.Limits.{max_arity, max_capacity}
use Rattle.column_trie.specs.Pool.{spot}
use Rattle.column_trie.specs.Table.{arity_ok, capacity_ok, lies_in, within_at, past_at, header_sound, data_len_at, interval_len_at, grade_at}
use Rattle.column_trie.specs.declared.ColumnTrie.{ColumnTrie}
use Rattle.column_trie.proofs.Pool.{spot_is}

-- two tests of numbers that hold together are equal
pub leb_same : (a b x y : ℕ) → (a ≤ b → x ≤ y) → (x ≤ y → a ≤ b) → leb a b ≡ leb x y
leb_same a b x y f g = go (leb a b) refl
  where
    go : (t : Bool) → leb a b ≡ t → leb a b ≡ leb x y
    go true e = e ∙ sym (le-leb x y (f (leb-true a b e)))
    go false e = go' (leb x y) refl
      where
        go' : (s : Bool) → leb x y ≡ s → leb a b ≡ leb x y
        go' true d = sym (let h = leb-false a b e in let k = g (leb-true x y d) in absurd (omega arith))
        go' false d = e ∙ sym d

pub arity_told : (a : ℕ) → arity_ok a ≡ true → (0 < a) × (a ≤ max_arity)
arity_told a e = (ltb-true 0 a (and_left (ltb 0 a) (leb a max_arity) e), leb-true a max_arity (and_right (ltb 0 a) (leb a max_arity) e))

pub capacity_told : (c : ℕ) → capacity_ok c ≡ true → (0 < c) × (c ≤ max_capacity)
capacity_told c e = (ltb-true 0 c (and_left (ltb 0 c) (leb c max_capacity) e), leb-true c max_capacity (and_right (ltb 0 c) (leb c max_capacity) e))

-- a table's size is small, and so is how far its layers start from its own start
pub size_small : (a c : ℕ) → a ≤ max_arity → c ≤ max_capacity → 2 * a * c ≤ 2 * max_arity * max_capacity
size_small a c h k = let x : 2 * a ≤ 2 * max_arity = omega arith in mul-le-mul x k

pub offset_small : (c d : ℕ) → c ≤ max_capacity → d < max_arity → 2 * c * d ≤ 2 * max_capacity * max_arity
offset_small c d h k =
    let x : 2 * c ≤ 2 * max_capacity = omega arith in
    let y : d ≤ max_arity = omega arith in
    mul-le-mul x y

-- where a layer starts, as code computes it
pub spot_product : (start c d : ℕ) → start + 2 * c * d ≡ spot start c d
spot_product start c d =
    let e : c + c ≡ 2 * c = omega arith in
    ap (λ (n : ℕ). start + n) (mul_comm (2 * c) d ∙ ap (λ (n : ℕ). d * n) (sym e)) ∙ sym (spot_is start c d)

-- a layer's words are some of the table's
pub layer_inside : (start a c d : ℕ) → d < a → spot start c d + c + c ≤ start + 2 * a * c
layer_inside start a c d h =
    let x : suc d * (2 * c) ≤ a * (2 * c) = mul-le-mul_right (2 * c) h in
    let y : suc d * (2 * c) ≡ d * (2 * c) + 2 * c = suc-mul d (2 * c) in
    let z : a * (2 * c) ≡ 2 * a * c = sym (mul_assoc a 2 c) ∙ ap (λ (n : ℕ). n * c) (mul_comm a 2) in
    let s : spot start c d ≡ start + d * (2 * c) = spot_is start c d ∙ ap (λ (n : ℕ). start + d * n) (let e : c + c ≡ 2 * c = omega arith in e) in
    omega arith

-- what a sound header tells
pub record InPool (len : ℕ) (t : ColumnTrie) : Type 0 where
  pub positive : 0 < t.arity
  pub few : t.arity ≤ max_arity
  pub roomy : 0 < t.capacity
  pub small : t.capacity ≤ max_capacity
  pub fits : t.start + 2 * t.arity * t.capacity ≤ len
  pub within : (d : ℕ) → d < max_arity → (data_len_at t d ≤ t.capacity) × (interval_len_at t d ≤ t.capacity)

pub header_told : (len : ℕ) (t : ColumnTrie) → header_sound len t ≡ true → InPool len t
header_told len t e =
    let w = every max_arity (within_at t) in
    let l = lies_in len t.start t.arity t.capacity in
    let k = capacity_ok t.capacity in
    let e₁ = and_right (arity_ok t.arity) (k && (l && w)) e in
    let e₂ = and_right k (l && w) e₁ in
    let a = arity_told t.arity (and_left (arity_ok t.arity) (k && (l && w)) e) in
    let c = capacity_told t.capacity (and_left k (l && w) e₁) in
    record {
      positive = a.0;
      few = a.1;
      roomy = c.0;
      small = c.1;
      fits = leb-true (t.start + 2 * t.arity * t.capacity) len (and_left l w e₂);
      within = λ d h.
          let b = every_at (within_at t) max_arity (and_right l w e₂) d h in (
            leb-true (data_len_at t d) t.capacity (and_left (leb (data_len_at t d) t.capacity) (leb (interval_len_at t d) t.capacity) b),
            leb-true (interval_len_at t d) t.capacity (and_right (leb (data_len_at t d) t.capacity) (leb (interval_len_at t d) t.capacity) b),
          );
    }

-- a depth within the capacity, and one that is not
pub within_told : (t : ColumnTrie) (d : ℕ) → data_len_at t d ≤ t.capacity → interval_len_at t d ≤ t.capacity → within_at t d ≡ true
within_told t d h k = and_true (leb (data_len_at t d) t.capacity) (leb (interval_len_at t d) t.capacity) (le-leb (data_len_at t d) t.capacity h) (le-leb (interval_len_at t d) t.capacity k)

pub within_not : (t : ColumnTrie) (d : ℕ) → (t.capacity < data_len_at t d) ⊎ (t.capacity < interval_len_at t d) → within_at t d ≡ false
within_not t d (inl h) = and_false_left (leb (data_len_at t d) t.capacity) (leb (interval_len_at t d) t.capacity) (lt-leb (data_len_at t d) t.capacity h)
within_not t d (inr h) = and_false_right (leb (data_len_at t d) t.capacity) (leb (interval_len_at t d) t.capacity) (lt-leb (interval_len_at t d) t.capacity h)

-- nothing of the header is left at a depth
abbrev pub Bare : ColumnTrie → ℕ → Type 0
Bare t d = (data_len_at t d ≡ 0) × (interval_len_at t d ≡ 0) × (grade_at t d ≡ false)

-- a depth past the arity, and one where a length or a grade is left
pub past_told : (t : ColumnTrie) (d : ℕ) → (d < t.arity) ⊎ Bare t d → past_at t d ≡ true
past_told t d (inl h) = ap (λ (b : Bool). b || (eqb (data_len_at t d) 0 && (eqb (interval_len_at t d) 0 && not (grade_at t d)))) (lt-ltb d t.arity h)
past_told t d (inr h) =
    or_right (ltb d t.arity) (eqb (data_len_at t d) 0 && (eqb (interval_len_at t d) 0 && not (grade_at t d)))
    (and_true (eqb (data_len_at t d) 0) (eqb (interval_len_at t d) 0 && not (grade_at t d)) (eq-eqb (data_len_at t d) 0 h.0)
    (and_true (eqb (interval_len_at t d) 0) (not (grade_at t d)) (eq-eqb (interval_len_at t d) 0 h.1) (ap not h.2)))

pub past_not : (t : ColumnTrie) (d : ℕ) → t.arity ≤ d → (data_len_at t d ≡ 0 → ⊥) ⊎ ((interval_len_at t d ≡ 0 → ⊥) ⊎ (grade_at t d ≡ true)) → past_at t d ≡ false
past_not t d k w = ap (λ (b : Bool). b || (eqb (data_len_at t d) 0 && (eqb (interval_len_at t d) 0 && not (grade_at t d)))) (le-ltb d t.arity k) ∙ go w
  where
    go : (data_len_at t d ≡ 0 → ⊥) ⊎ ((interval_len_at t d ≡ 0 → ⊥) ⊎ (grade_at t d ≡ true)) → (eqb (data_len_at t d) 0 && (eqb (interval_len_at t d) 0 && not (grade_at t d))) ≡ false
    go (inl h) = and_false_left (eqb (data_len_at t d) 0) (eqb (interval_len_at t d) 0 && not (grade_at t d)) (ne_eqb (data_len_at t d) 0 h)
    go (inr (inl h)) =
        and_false_right (eqb (data_len_at t d) 0) (eqb (interval_len_at t d) 0 && not (grade_at t d)) (and_false_left (eqb (interval_len_at t d) 0) (not (grade_at t d)) (ne_eqb (interval_len_at t d) 0 h))
    go (inr (inr h)) = and_false_right (eqb (data_len_at t d) 0) (eqb (interval_len_at t d) 0 && not (grade_at t d)) (and_false_right (eqb (interval_len_at t d) 0) (not (grade_at t d)) (ap not h))

-- where layer d of a table with a sound header lies, by numbers
pub record LayerFits (len : ℕ) (t : ColumnTrie) (d : ℕ) : Type 0 where
  pub depth : d < max_arity
  pub low : t.start ≤ len
  pub small : t.capacity ≤ max_capacity
  pub inside : spot t.start t.capacity d + t.capacity + t.capacity ≤ len
  pub keys : data_len_at t d ≤ t.capacity
  pub intervals : interval_len_at t d ≤ t.capacity

pub layer_fits : {len : ℕ} {t : ColumnTrie} {d : ℕ} → InPool len t → d < t.arity → LayerFits len t d
layer_fits {len} {t} {d} p h =
    let i = layer_inside t.start t.arity t.capacity d h in
    let f = p.fits in
    let b : d < max_arity = omega (arith, p.few) in
    record { depth = b; low = omega arith; small = p.small; inside = omega arith; keys = (p.within d b).0; intervals = (p.within d b).1 }

-- the lists there are as long as the header says
pub length_part : (pool : List ℕ) (at n : ℕ) → at + n ≤ length pool → length (take n (drop at pool)) ≡ n
length_part pool at n h = length-take-le n (drop at pool) (omega (arith, length-drop at pool))

-- and back
pub told_header : (len : ℕ) (t : ColumnTrie) → InPool len t → header_sound len t ≡ true
told_header len t p =
    let w = every max_arity (within_at t) in
    let l = lies_in len t.start t.arity t.capacity in
    and_true (arity_ok t.arity) (capacity_ok t.capacity && (l && w)) (and_true (ltb 0 t.arity) (leb t.arity max_arity) (lt-ltb 0 t.arity p.positive) (le-leb t.arity max_arity p.few))
    (and_true (capacity_ok t.capacity) (l && w) (and_true (ltb 0 t.capacity) (leb t.capacity max_capacity) (lt-ltb 0 t.capacity p.roomy) (le-leb t.capacity max_capacity p.small))
    (and_true l w (le-leb (t.start + 2 * t.arity * t.capacity) len p.fits) (every_all (within_at t) max_arity (λ d h. within_told t d (p.within d h).0 (p.within d h).1))))
