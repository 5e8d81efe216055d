-- Kinds and heads: whether some column is a grade, and the bytes up to the rows.
use Prim.Native.Nat.{ℕ, ◌+◌, ◌≤◌, ◌<◌}
use mathlib.Core.Path.{◌≡◌, refl, sym, ap, ◌∙◌}
use mathlib.Core.Bool.{Bool, true, false, ◌||◌}
use mathlib.Core.List.{List, [], ◌∷◌, ◌++◌, map}
use native.Mathlib.Omega.{arith}
use native.Mathlib.Numerals.{add-one}
use lib.ListN.{length, take, get_or, set, length-map, length-append}
use lib.Seq.{take-suc, length-take-le}
use Rattle.std.specs.Int.{from_bool}
use Rattle.std.specs.List.{list_any}
use Rattle.column_trie.specs.Pool.{lay}
use Rattle.column_trie.specs.declared.ColumnTrie.{ColumnTrie}
use Rattle.column_trie.proofs.Pool.{lay_snoc}
use Rattle.table_file.specs.Bytes.{bytes_of}
use Rattle.table_file.specs.File.{kind_byte, graded, head}
use Rattle.table_file.proofs.Numbers.{length_bytes_of}
use Rattle.table_file.proofs.Laws.{head_graded, head_plain}
use Rattle.file_rows.specs.Rows.{Laid}
use Rattle.file_rows.proofs.Pieces.{lay_none, laid_more}
use Rattle.file_write.specs.Write.{kinds_of}
use Rattle.file_write.specs.Head.{head_of, kinds_head}

-- ---- some column is a grade

-- as the library tests it
pub any_graded : (ks : List Bool) → list_any (λ k. k) ks ≡ graded ks
unfolding graded
any_graded [] = refl
any_graded (k ∷ ks) = ap (λ (b : Bool). k || b) (any_graded ks)

-- ---- the kinds' bytes

map_snoc : (ks : List Bool) (k : Bool) → map kind_byte (ks ++ (k ∷ [])) ≡ map kind_byte ks ++ (kind_byte k ∷ [])
map_snoc [] k = refl
map_snoc (x ∷ ks) k = ap (λ (l : List ℕ). kind_byte x ∷ l) (map_snoc ks k)

-- the library's byte of a bool is ours
pub byte_of : (k : Bool) → from_bool k ≡ kind_byte k
byte_of true = refl
byte_of false = refl

pub no_kinds : (bytes : List ℕ) (at : ℕ) (ks : List Bool) → bytes ≡ lay bytes at (map kind_byte (take 0 ks))
no_kinds bytes at ks = lay_none bytes at

pub kind_more : (bytes : List ℕ) (at : ℕ) (ks : List Bool) (d : ℕ) → d < length ks → {bytes' : List ℕ} {b : ℕ} → bytes' ≡ lay bytes at (map kind_byte (take d ks)) → b ≡ kind_byte (get_or ks d false) → set bytes' (at + d) b ≡ lay bytes at (map kind_byte (take (d + 1) ks))
kind_more bytes at ks d h {bytes'} {b} e f =
    let l : length (map kind_byte (take d ks)) ≡ d = length-map (take d ks) kind_byte ∙ length-take-le d ks (omega arith) in
    let m : map kind_byte (take (d + 1) ks) ≡ map kind_byte (take d ks) ++ (kind_byte (get_or ks d false) ∷ []) =
    ap (λ (n : ℕ). map kind_byte (take n ks)) (add-one d) ∙ ap (map kind_byte) (take-suc ks d false h) ∙ map_snoc (take d ks) (get_or ks d false) in
    sym (ap (lay bytes at) m ∙ lay_snoc bytes at (map kind_byte (take d ks)) (kind_byte (get_or ks d false)) ∙ ap (λ (n : ℕ). set (lay bytes at (map kind_byte (take d ks))) (at + n) (kind_byte (get_or ks d false))) l ∙ cong)
  where
    cong : set (lay bytes at (map kind_byte (take d ks))) (at + d) (kind_byte (get_or ks d false)) ≡ set bytes' (at + d) b
    cong = ap (λ (x : List ℕ). set x (at + d) (kind_byte (get_or ks d false))) (sym e) ∙ ap (set bytes' (at + d)) (sym f)

-- ---- the head

module _ (ks : List Bool) where
  bytes_long : length (map kind_byte ks) ≡ length ks
  bytes_long = length-map ks kind_byte

  pub plain_long : graded ks ≡ false → length (kinds_head ks) ≡ 4
  plain_long e = ap length (head_plain (length ks) ks e)

  two : (n : ℕ) (xs : List ℕ) → length (bytes_of 2 n ++ xs) ≡ 2 + length xs
  two n xs = length-append (bytes_of 2 n) xs ∙ ap (λ (k : ℕ). k + length xs) (length_bytes_of 2 n)

  pub graded_long : graded ks ≡ true → length (kinds_head ks) ≡ 7 + length ks
  graded_long e = omega (arith, ap length (head_graded (length ks) ks e), two (length (map kind_byte ks)) (map kind_byte ks), bytes_long)

  -- at least tag, length and arity, and at most the kinds besides
  either_long : (b : Bool) → graded ks ≡ b → (4 ≤ length (kinds_head ks)) × (length (kinds_head ks) ≤ 7 + length ks)
  either_long true e = (omega (arith, graded_long e), omega (arith, graded_long e))
  either_long false e = (omega (arith, plain_long e), omega (arith, plain_long e))

  pub head_some : 4 ≤ length (kinds_head ks)
  head_some = (either_long (graded ks) refl).0

  pub head_short : length (kinds_head ks) ≤ 7 + length ks
  head_short = (either_long (graded ks) refl).1

  module _ (bytes : List ℕ) {b₁ : List ℕ} (p : b₁ ≡ lay bytes 0 (1 ∷ bytes_of 2 1)) where
    first : set b₁ 3 (length ks) ≡ lay bytes 0 (1 ∷ (0 ∷ (1 ∷ (length ks ∷ []))))
    unfolding lay bytes_of
    first = ap (λ (x : List ℕ). set x 3 (length ks)) p

    pub plain_laid : graded ks ≡ false → Laid bytes 0 (kinds_head ks) (set b₁ 3 (length ks)) 4
    plain_laid e = record { is = first ∙ ap (lay bytes 0) (sym (head_plain (length ks) ks e)); ends = omega (arith, plain_long e) }

    pub graded_laid : graded ks ≡ true → {b₂ b₃ : List ℕ} → b₂ ≡ lay (set b₁ 3 (length ks)) 4 (4 ∷ bytes_of 2 (length ks)) → b₃ ≡ lay b₂ 7 (map kind_byte ks) → Laid bytes 0 (kinds_head ks) b₃ (7 + length ks)
    graded_laid e {b₂} {b₃} q r =
        let one : List ℕ = 1 ∷ (0 ∷ (1 ∷ (length ks ∷ []))) in
        let four : List ℕ = 4 ∷ bytes_of 2 (length ks) in
        let bs = map kind_byte ks in
        let v : Laid bytes 0 one (set b₁ 3 (length ks)) 4 = record { is = first; ends = omega arith } in
        let w : Laid bytes 0 (one ++ four) b₂ 7 = record { is = laid_more v four q refl; ends = omega (arith, length-append one four, length_bytes_of 2 (length ks)) } in
        let h : kinds_head ks ≡ (one ++ four) ++ bs = head_graded (length ks) ks e ∙ ap (λ (n : ℕ). one ++ (4 ∷ (bytes_of 2 n ++ bs))) bytes_long in
        record { is = laid_more w bs r h; ends = omega (arith, graded_long e) }

-- the kinds of a table, as the code takes them from its header
module _ (t : ColumnTrie) (few : t.arity ≤ 8) (whole : length t.grade ≡ 8) where
  pub kinds_long : length (kinds_of t) ≡ t.arity
  kinds_long = length-take-le t.arity t.grade (omega arith)

  pub head_is : kinds_head (kinds_of t) ≡ head_of t
  head_is = ap (λ (n : ℕ). head n (kinds_of t)) kinds_long
