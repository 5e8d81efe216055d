-- Bytes laid one piece behind another: a word more of a row, a row more of a field.
use Prim.Native.Nat.{ℕ, suc, ◌+◌, ◌*◌, ◌≤◌, ◌<◌}
use mathlib.Core.Path.{◌≡◌, refl, sym, ap, ap₂, ◌∙◌}
use mathlib.Core.List.{List, [], ◌∷◌, ◌++◌, append-nil}
use native.Mathlib.Omega.{arith}
use native.Mathlib.Numerals.{add-one}
use lib.ListN.{length, take, drop, get_or, set}
use lib.Seq.{take-suc, length-take-le, get_or-drop}
use Rattle.relation.specs.Order.{Row}
use Rattle.relation.specs.Rows.{flat}
use Rattle.column_trie.specs.Pool.{lay}
use Rattle.table_file.specs.Bytes.{bytes_of, encode}
use Rattle.file_rows.specs.Rows.{Laid}
use Rattle.table_file.proofs.Numbers.{length_encode}
use Rattle.table_file.proofs.Places.{encode_append, flat_append, flat_one}

-- one piece behind another is one piece
pub lay_append : (bytes : List ℕ) (at : ℕ) (xs ys : List ℕ) → lay (lay bytes at xs) (at + length xs) ys ≡ lay bytes at (xs ++ ys)
unfolding lay
lay_append bytes at [] ys = ap (λ (k : ℕ). lay bytes k ys) (let e : at + 0 ≡ at = omega arith in e)
lay_append bytes at (x ∷ xs) ys =
    ap (λ (k : ℕ). lay (lay (set bytes at x) (suc at) xs) k ys) (let e : at + suc (length xs) ≡ suc at + length xs = omega arith in e)
    ∙ lay_append (set bytes at x) (suc at) xs ys

pub lay_none : (bytes : List ℕ) (at : ℕ) → bytes ≡ lay bytes at []
unfolding lay
lay_none bytes at = refl

-- laid behind it
pub laid_more : {bytes bytes' xs : List ℕ} {at end : ℕ} → Laid bytes at xs bytes' end → {bytes'' : List ℕ} (ys : List ℕ) {zs : List ℕ} → bytes'' ≡ lay bytes' end ys → zs ≡ xs ++ ys → bytes'' ≡ lay bytes at zs
laid_more {bytes} {xs = xs} {at = at} l ys q f = q ∙ ap₂ (λ (b : List ℕ) (n : ℕ). lay b n ys) l.is l.ends ∙ lay_append bytes at xs ys ∙ ap (lay bytes at) (sym f)

encode_none : encode [] ≡ []
unfolding encode
encode_none = refl

encode_one : (w : ℕ) → encode (w ∷ []) ≡ bytes_of 8 w
unfolding encode
encode_one w = append-nil (bytes_of 8 w)

flat_none : flat [] ≡ []
unfolding flat
flat_none = refl

-- ---- the words of a row

pub no_words : (bytes : List ℕ) (at : ℕ) (row : Row) → bytes ≡ lay bytes at (encode (take 0 row))
no_words bytes at row = lay_none bytes at ∙ ap (lay bytes at) (sym encode_none)

pub words_long : (row : Row) (d : ℕ) → d ≤ length row → length (encode (take d row)) ≡ 8 * d
words_long row d h = length_encode (take d row) ∙ ap (λ (n : ℕ). 8 * n) (length-take-le d row h)

pub word_more : (row : Row) (d : ℕ) → d < length row → encode (take (d + 1) row) ≡ encode (take d row) ++ bytes_of 8 (get_or row d 0)
word_more row d h =
    ap (λ (n : ℕ). encode (take n row)) (add-one d) ∙ ap encode (take-suc row d 0 h) ∙ encode_append (take d row) (get_or row d 0 ∷ []) ∙ ap (λ (l : List ℕ). encode (take d row) ++ l) (encode_one (get_or row d 0))

-- ---- the rows of a field

pub no_rows : (bytes : List ℕ) (at : ℕ) (rows : List Row) → bytes ≡ lay bytes at (encode (flat (take 0 rows)))
no_rows bytes at rows = lay_none bytes at ∙ ap (lay bytes at) (sym (ap encode flat_none ∙ encode_none))

pub row_more : (rows : List Row) (i k : ℕ) → k < length (drop i rows) → encode (flat (take (k + 1) (drop i rows))) ≡ encode (flat (take k (drop i rows))) ++ encode (get_or rows (i + k) [])
row_more rows i k h =
    let qs = drop i rows in
    let r = get_or rows (i + k) [] in
    ap (λ (n : ℕ). encode (flat (take n qs))) (add-one k)
    ∙ ap (λ (l : List Row). encode (flat l)) (take-suc qs k [] h ∙ ap (λ (x : Row). take k qs ++ (x ∷ [])) (get_or-drop i rows k []))
    ∙ ap encode (flat_append (take k qs) (r ∷ []) ∙ ap (λ (l : List ℕ). flat (take k qs) ++ l) (flat_one r [] ∙ ap (λ (l : List ℕ). r ++ l) flat_none ∙ append-nil r))
    ∙ encode_append (flat (take k qs)) r
