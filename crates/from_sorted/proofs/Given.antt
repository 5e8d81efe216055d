-- The rows that words are: where row i lies, and the rows sorted.
use Prim.Native.Nat.{ℕ, zero, suc, ◌+◌, ◌*◌, ◌-◌, ◌/◌, ◌≤◌, ◌<◌}
use mathlib.Core.Path.{◌≡◌, refl, sym, ap, ◌∙◌}
use mathlib.Core.List.{List, [], ◌∷◌, append-nil}
use native.Mathlib.Omega.{arith}
use native.Mathlib.Nat.{zero-mul, suc-mul, mul-le-mul_right, mul-div_cancel, div-mul-le_self}
use lib.ListN.{length, take, drop, get_or, length-drop, length-append}
use lib.Seq.{take_all}
use Rattle.relation.specs.Order.{Row}
use Rattle.relation.specs.Lists.{hd, tl}
use Rattle.relation.specs.Rows.{Width, cut, flat, sort}
use Rattle.relation.proofs.Sorting.{sort_members}
use Rattle.relation.proofs.Words.{length_cut, cut_width, cut_at, cut_flat}
use Rattle.from_sorted.specs.Given.{rows_given}

module _ (a : ℕ) (ws : List ℕ) where
  pub length_given : length (rows_given a ws) ≡ length ws / a
  length_given = length_cut (length ws / a) a ws

  pub width_given : Width a (rows_given a ws)
  width_given = cut_width (length ws / a) a ws (div-mul-le_self (length ws) a)

  module _ (i : ℕ) (h : i < length ws / a) where
    pub row_inside : i * a + a ≤ length ws
    row_inside = omega (arith, mul-le-mul_right a h, suc-mul i a, div-mul-le_self (length ws) a)

    pub row_there : take a (drop (i * a) ws) ≡ get_or (rows_given a ws) i []
    row_there = sym (cut_at (length ws / a) a ws i h)

    -- of the words from x on, where it lies
    module _ {x : ℕ} (e : x ≡ i * a) where
      all_left : take (length ws - x) (drop x ws) ≡ drop x ws
      all_left = take_all (length ws - x) (drop x ws) (omega (arith, length-drop x ws))

      pub row_lent : take a (take (length ws - x) (drop x ws)) ≡ get_or (rows_given a ws) i []
      row_lent = ap (take a) all_left ∙ ap (λ (n : ℕ). take a (drop n ws)) e ∙ row_there

      pub row_long : a ≤ length (take (length ws - x) (drop x ws))
      row_long = omega (arith, ap length all_left, length-drop x ws, row_inside)

-- the row before a later one
pub row_back : (a i : ℕ) → 0 < i → (i * a - a ≡ (i - 1) * a) × (a ≤ i * a)
row_back a zero h = absurd (omega arith)
row_back a (suc i) h =
    let e : suc i * a ≡ i * a + a = omega (arith, suc-mul i a) in
    (omega (arith, ap (λ (n : ℕ). n * a) (let z : suc i - 1 ≡ i = omega arith in z)), omega arith)

-- ---- sorted, and laid flat again

pub length_flat : {a : ℕ} (rows : List Row) → Width a rows → length (flat rows) ≡ length rows * a
unfolding flat
length_flat {a} [] w = sym (zero-mul a)
length_flat {a} (r ∷ rs) w = length-append r (flat rs) ∙ omega (arith, length_flat rs (λ q m. w q (tl m)), w r (hd refl), suc-mul (length rs) a)

pub width_sort : {a : ℕ} (rows : List Row) → Width a rows → Width a (sort rows)
width_sort rows w q m = w q ((sort_members rows q).0 m)

-- words that are rows laid flat are those rows
pub given_flat : {a : ℕ} (rows : List Row) → 0 < a → Width a rows → rows_given a (flat rows) ≡ rows
given_flat {a} rows h w =
    ap (λ (n : ℕ). cut n a (flat rows)) (ap (λ (n : ℕ). n / a) (length_flat rows w) ∙ mul-div_cancel (length rows) h)
    ∙ ap (cut (length rows) a) (sym (append-nil (flat rows)))
    ∙ cut_flat a rows [] w

pub given_sorted : (a : ℕ) (ws : List ℕ) → 0 < a → rows_given a (flat (sort (rows_given a ws))) ≡ sort (rows_given a ws)
given_sorted a ws h = given_flat (sort (rows_given a ws)) h (width_sort (rows_given a ws) (width_given a ws))
