-- The row that a call hands back: the last of the rows written, as the window has it, and its words in an array of eight.
-- Idea: zeros behind a row are what is read past its end, so the array reads as the row does at every place.
use Prim.Native.Nat.{ℕ, zero, suc, ◌*◌, ◌-◌, ◌≤◌, ◌<◌}
use native.Mathlib.Omega.{arith}
use mathlib.Core.Path.{◌≡◌, refl, sym, subst, ap, ◌∙◌}
use mathlib.Core.List.{List, [], ◌∷◌, ◌++◌}
use lib.ListN.{length, get_or, take, drop, replicate, length-append, length-replicate}
use lib.Seq.{get_or-take, length-take-le, ext_get_or}
use Rattle.relation.specs.Order.{Row}
use Rattle.relation.specs.Lists.{◌∈◌, hd, tl}
use Rattle.relation.specs.Rows.{Width, cut, flat}
use Rattle.relation.proofs.Lists.{get_or_in}
use Rattle.relation.proofs.Words.{cut_at, cut_flat, in_front}
use Rattle.query.specs.Meaning.{part}
use Rattle.query.specs.Window.{fit, windowed}
use Rattle.join_query.specs.Query.{max_variables}
use Rattle.rows_after.specs.After.{last_of, padded}

-- ---- a row in an array

pub get_or_zeros : (row : Row) (k i : ℕ) → get_or (row ++ replicate k 0) i 0 ≡ get_or row i 0
get_or_zeros [] zero i = refl
get_or_zeros [] (suc k) zero = refl
get_or_zeros [] (suc k) (suc i) = get_or_zeros [] k i
get_or_zeros (x ∷ row) k zero = refl
get_or_zeros (x ∷ row) k (suc i) = get_or_zeros row k i

-- it reads as the row does
pub padded_part : (xs : List ℕ) (row : Row) → part xs (padded row) ≡ part xs row
padded_part [] row = refl
padded_part (x ∷ xs) row = let e = get_or_zeros row (max_variables - length row) x in let f = padded_part xs row in cc

pub padded_length : (row : Row) → length row ≤ max_variables → length (padded row) ≡ max_variables
padded_length row h = omega (arith, length-append row (replicate (max_variables - length row) 0), length-replicate {A = ℕ} (max_variables - length row) 0)

-- any array of eight that does is it
pub padded_only : (array : List ℕ) (row : Row) → length array ≡ max_variables → length row ≤ max_variables → ((i : ℕ) → i < max_variables → get_or array i 0 ≡ get_or row i 0) → array ≡ padded row
padded_only array row d h f =
    ext_get_or 0 array (padded row) (d ∙ sym (padded_length row h)) (λ i l. f i (omega arith) ∙ sym (get_or_zeros row (max_variables - length row) i))

-- the given row's words that count read as it does
pub counted_part : (n : ℕ) (xs : List ℕ) (row : Row) → ((x : ℕ) → x ∈ xs → x < n) → part xs (take n row) ≡ part xs row
counted_part n [] row f = refl
counted_part n (x ∷ xs) row f = let e = get_or-take n row x 0 (f x (hd refl)) in let g = counted_part n xs row (λ y m. f y (tl m)) in cc

-- ---- the last of the rows

pub last_at : (row : Row) (rows : List Row) (j : ℕ) → j < length rows → last_of row (take (suc j) rows) ≡ get_or rows j []
unfolding last_of
last_at row [] j h = absurd (omega arith)
last_at row (r ∷ rs) zero h = refl
last_at row (r ∷ rs) (suc j) h = last_at r rs j (omega arith)

-- ---- the rows written, as the window has them

module _ (w : List ℕ) (n : ℕ) (rows : List Row) where
  pub count_le : (windowed w n rows).count ≤ length rows
  unfolding windowed fit
  count_le = go n
    where
      go : (n : ℕ) → fit n (length w) (length rows) ≤ length rows
      go zero = omega arith
      go (suc n) = omega arith

  pub written_rows : Width n rows → cut (windowed w n rows).count n (windowed w n rows).words ≡ take (windowed w n rows).count rows
  unfolding windowed
  written_rows wide =
      let m = (windowed w n rows).count in
      subst (λ (k : ℕ). cut k n (flat (take m rows) ++ drop (m * n) w) ≡ take m rows) (length-take-le m rows count_le)
      (cut_flat n (take m rows) (drop (m * n) w) (λ r i. let t = in_front rows m r i in ap length t.3 ∙ wide (get_or rows t.0 []) (get_or_in rows t.0 [] t.2)))

  -- the last one stands behind the others; where none was written the row before them is the last
  pub last_written : Width n rows → (row : Row) (j : ℕ) → (windowed w n rows).count ≡ suc j → last_of row (take (windowed w n rows).count rows) ≡ take n (drop (j * n) (windowed w n rows).words)
  last_written wide row j e =
      let m = (windowed w n rows).count in
      ap (λ (k : ℕ). last_of row (take k rows)) e
      ∙ last_at row rows j (omega (arith, count_le))
      ∙ sym (get_or-take m rows j [] (omega arith))
      ∙ ap (λ (l : List Row). get_or l j []) (sym (written_rows wide))
      ∙ cut_at m n (windowed w n rows).words j (omega arith)

  pub last_none : (row : Row) → (windowed w n rows).count ≡ 0 → last_of row (take (windowed w n rows).count rows) ≡ row
  unfolding last_of
  last_none row e = ap (λ (k : ℕ). last_of row (take k rows)) e
