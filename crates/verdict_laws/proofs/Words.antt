-- The rows that words list, and the words of rows: each from the other, where the words are whole rows. And the checks, which look at the number of words for that alone.
use Prim.Native.Nat.{ℕ, zero, suc, ◌*◌, ◌/◌, ◌%◌, ◌<◌}
use native.Mathlib.Omega.{arith}
use native.Mathlib.Nat.{mul-div_cancel, mul-mod_left, div-add-mod'}
use mathlib.Core.Path.{◌≡◌, refl, sym, ap, ◌∙◌}
use mathlib.Core.Bool.{Bool, true, false, ◌||◌}
use mathlib.Core.List.{List, [], append-nil}
use lib.ListN.{length}
use lib.Seq.{take_all}
use lib.Dec.{eqb}
use borrow.Author.Tests.{eq-eqb, eqb-true}
use Rattle.relation.specs.Order.{Row}
use Rattle.relation.specs.Rows.{Width, cut, flat}
use Rattle.relation.proofs.Tests.{or_right}
use Rattle.relation.proofs.Words.{cut_flat, flat_cut}
use Rattle.from_sorted.proofs.Given.{length_flat}
use Rattle.join_query.specs.Query.{Accepted}
use Rattle.join_query.specs.declared.Query.{Query}
use Rattle.join_query.specs.declared.Tables.{Tables}
use Rattle.join_query.proofs.Lists.{passed_all, number_0}
use Rattle.listing_verdict.specs.Verdict.{how_many, rows_listed}

-- as many rows as there are
pub many : (n : ℕ) (rows : List Row) → Width n rows → how_many n (length (flat rows)) (length rows) ≡ length rows
unfolding how_many
many zero rows w = refl
many (suc n) rows w = ap (λ (l : ℕ). l / suc n) (length_flat rows w) ∙ mul-div_cancel (length rows) (let p : 0 < suc n = omega arith in p)

-- rows laid flat, with their number beside them, are those rows
pub listed_flat : (n : ℕ) (rows : List Row) → Width n rows → rows_listed n (flat rows) (length rows) ≡ rows
listed_flat n rows w =
    ap (λ (m : ℕ). cut m n (flat rows)) (many n rows w)
    ∙ ap (cut (length rows) n) (sym (append-nil (flat rows)))
    ∙ cut_flat n rows [] w

-- where rows have words, the number beside them is not read
pub count_unread : (n : ℕ) → 0 < n → (words : List ℕ) (c d : ℕ) → rows_listed n words c ≡ rows_listed n words d
unfolding how_many
count_unread zero p words c d = absurd (omega arith)
count_unread (suc n) p words c d = refl

-- and whole rows laid flat are the words
pub flat_listed : (n : ℕ) → 0 < n → (words : List ℕ) (count : ℕ) → length words % n ≡ 0 → flat (rows_listed n words count) ≡ words
unfolding how_many
flat_listed zero p words count e = absurd (omega arith)
flat_listed (suc n) p words count e =
    let m = length words / suc n in
    let z : length words ≡ m * suc n = omega (arith, div-add-mod' (length words) (suc n)) in
    flat_cut m (suc n) words (omega (arith, z)) ∙ take_all (m * suc n) words (omega (arith, z))

module _ {pool : List ℕ} {ts : Tables} {q : Query} {len : ℕ} (z : Accepted pool ts q len) where
  -- a query that passed passes with any number of whole rows
  pub passed_with : (m : ℕ) → Accepted pool ts q (m * q.n)
  passed_with m =
      let p = passed_all pool ts q len z.passed in
      record {
        passed = sym (number_0 pool ts q (m * q.n) p.order p.names p.lists p.covered p.kinds (or_right (eqb q.n 0) (eqb (m * q.n % q.n) 0) (eq-eqb (m * q.n % q.n) 0 (mul-mod_left m q.n))) p.sound p.shapes);
        whole = z.whole;
      }

  -- and its words were whole rows
  pub passed_whole : 0 < q.n → len % q.n ≡ 0
  passed_whole h = go (eqb q.n 0) refl (passed_all pool ts q len z.passed).window
    where
      go : (b : Bool) → eqb q.n 0 ≡ b → (b || eqb (len % q.n) 0) ≡ true → len % q.n ≡ 0
      go true e w = absurd (omega (arith, eqb-true q.n 0 e))
      go false e w = eqb-true (len % q.n) 0 w
