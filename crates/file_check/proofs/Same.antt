-- Two lists byte by byte: the end of a file, and its first bytes.
use Prim.Native.Nat.{ℕ, ◌-◌}
use mathlib.Core.Path.{◌≡◌, refl, sym, ap, ◌∙◌}
use mathlib.Core.Bool.{Bool, true, false, ◌&&◌, not}
use mathlib.Core.List.{List, [], ◌∷◌}
use lib.ListN.{length, take, drop}
use lib.Dec.{eqb}
use lib.Pointwise.{pointwise}
use Rattle.std.specs.Prelude.{nat_eq}
use Rattle.std.proofs.lemmas.List.{take_rest}
use borrow.Author.Tests.{not-true, not-false}
use Rattle.relation.specs.Order.{pick}
use Rattle.relation.specs.Rows.{same}
use Rattle.table_file.specs.Bytes.{bytes_of}
use Rattle.relation.proofs.Tests.{not_both}
use Rattle.table_file.specs.File.{end}
use Rattle.table_file.proofs.Fields.{same_true, same_is}

-- the library's test of two lists is ours
pub same_by_each : (xs ys : List ℕ) → pointwise nat_eq xs ys ≡ same xs ys
unfolding same
same_by_each [] [] = refl
same_by_each [] (y ∷ ys) = refl
same_by_each (x ∷ xs) [] = refl
same_by_each (x ∷ xs) (y ∷ ys) = both (eqb x y) (same_by_each xs ys)
  where
    both : (b : Bool) {p q : Bool} → p ≡ q → (b && p) ≡ pick b q false
    both true e = e
    both false e = refl

pub ended : (bs : List ℕ) → pointwise nat_eq bs (3 ∷ (0 ∷ (0 ∷ []))) ≡ same bs end
unfolding end bytes_of
ended bs = same_by_each bs (3 ∷ (0 ∷ (0 ∷ [])))

-- the same, of what is left from a place on
pub ends_at : {r : Bool} (bytes : List ℕ) (p : ℕ) → r ≡ same (take (length bytes - p) (drop p bytes)) end → same (drop p bytes) end ≡ r
ends_at bytes p e = sym (e ∙ ap (λ (l : List ℕ). same l end) (take_rest bytes p))

-- the first bytes of a file, by the library's test that they are others
pub is_first : {r : Bool} {tag : ℕ} (bs : List ℕ) → r ≡ not (pointwise nat_eq bs (tag ∷ (0 ∷ (1 ∷ [])))) → tag ≡ 1 → r ≡ false → bs ≡ 1 ∷ (0 ∷ (1 ∷ []))
is_first {r} {tag} bs e t f =
    let xs = tag ∷ (0 ∷ (1 ∷ [])) in
    same_is bs xs (sym (same_by_each bs xs) ∙ not-false (pointwise nat_eq bs xs) (sym e ∙ f)) ∙ ap (λ (x : ℕ). x ∷ (0 ∷ (1 ∷ []))) t

pub not_first : {r : Bool} {tag : ℕ} (bs : List ℕ) → r ≡ not (pointwise nat_eq bs (tag ∷ (0 ∷ (1 ∷ [])))) → tag ≡ 1 → r ≡ true → bs ≡ 1 ∷ (0 ∷ (1 ∷ [])) → ⊥
not_first {r} {tag} bs e t f q =
    let xs = tag ∷ (0 ∷ (1 ∷ [])) in
    not_both (pointwise nat_eq bs xs) (same_by_each bs xs ∙ same_true (q ∙ ap (λ (x : ℕ). x ∷ (0 ∷ (1 ∷ []))) (sym t))) (not-true (pointwise nat_eq bs xs) (sym e ∙ f))
