-- Steps of the loops that read numbers and rows, and what a word written leaves.
use Prim.Native.Nat.{ℕ, zero, suc, ◌+◌, ◌*◌, ◌/◌, ◌<◌, ◌≤◌}
use mathlib.Core.Path.{◌≡◌, refl, sym, ap, ap₂, ◌∙◌}
use mathlib.Core.List.{List, [], ◌∷◌, ◌++◌, append_assoc}
use native.Mathlib.Omega.{arith}
use native.Mathlib.Numerals.{add-one}
use lib.ListN.{length, take, drop, get_or, set}
use lib.Seq.{drop-drop, get_or-drop, take-suc-set, sets-eq}
use borrow.Rule.Slice.PartMut.{put_mid}
use Rattle.std.specs.Int.{w16, w64, to_be_bytes, from_be_bytes}
use Rattle.std.proofs.lemmas.Slice.{put_mid-paste}
use Rattle.std.proofs.lemmas.List.Edits.{paste_all}
use Rattle.column_trie.specs.Pool.{lay}
use Rattle.table_file.specs.Bytes.{bytes_of, number, decode, Bytes}
use Rattle.table_file.proofs.Numbers.{top, number_top, bytes_drop}

-- the library's number of two bytes is ours
pub word_2 : (bs : List ℕ) → from_be_bytes w16 (get_or bs 0 0 ∷ (get_or bs 1 0 ∷ [])) ≡ number 2 bs
unfolding number
word_2 bs = omega arith

-- ---- a number, byte by byte

pub number_none : (bs : List ℕ) → number 0 bs ≡ 0
unfolding number
number_none bs = refl

pub number_more : (at i : ℕ) (bs : List ℕ) → number (i + 1) (drop at bs) ≡ number i (drop at bs) * 256 + get_or bs (at + i) 0
unfolding number
number_more at i bs = ap (λ (k : ℕ). number k (drop at bs)) (add-one i) ∙ ap (λ (k : ℕ). number i (drop at bs) * 256 + k) (get_or-drop at bs i 0)

top_more : (i : ℕ) → i < 8 → top i * 256 ≤ 18446744073709551616
unfolding top
top_more zero h = omega arith
top_more (suc zero) h = omega arith
top_more (suc (suc zero)) h = omega arith
top_more (suc (suc (suc zero))) h = omega arith
top_more (suc (suc (suc (suc zero)))) h = omega arith
top_more (suc (suc (suc (suc (suc zero))))) h = omega arith
top_more (suc (suc (suc (suc (suc (suc zero)))))) h = omega arith
top_more (suc (suc (suc (suc (suc (suc (suc zero))))))) h = omega arith
top_more (suc (suc (suc (suc (suc (suc (suc (suc i)))))))) h = absurd (omega arith)

pub number_fits : (at i : ℕ) (bs : List ℕ) → Bytes bs → i < 8 → number i (drop at bs) * 256 + 255 < 18446744073709551616
number_fits at i bs b h = omega (arith, number_top i (drop at bs) (bytes_drop at bs b), top_more i h)

-- ---- a word as bytes

-- the library's are ours
pub word_bytes : (w : ℕ) → to_be_bytes w64 w ≡ bytes_of 8 w
unfolding bytes_of
word_bytes w =
    let e₂ : w / 65536 ≡ w / 256 / 256 = omega arith in
    let e₃ : w / 16777216 ≡ w / 256 / 256 / 256 = omega arith in
    let e₄ : w / 4294967296 ≡ w / 256 / 256 / 256 / 256 = omega arith in
    let e₅ : w / 1099511627776 ≡ w / 256 / 256 / 256 / 256 / 256 = omega arith in
    let e₆ : w / 281474976710656 ≡ w / 256 / 256 / 256 / 256 / 256 / 256 = omega arith in
    let e₇ : w / 72057594037927936 ≡ w / 256 / 256 / 256 / 256 / 256 / 256 / 256 = omega arith in
    cc

-- a part written over, as words laid
pub written : (text : List ℕ) (at k : ℕ) (ys zs : List ℕ) → ys ≡ zs → k ≡ length zs → at + length zs ≤ length text → put_mid at k text ys ≡ lay text at zs
unfolding lay
written text at k ys zs e n h =
    put_mid-paste at k text ys zs (length zs) e (sym n) refl ∙
    paste_all text at zs (length zs) refl ∙
    sym (sets-eq zs text at h ∙ append_assoc (take at text) zs (drop (at + length zs) text))

-- ---- a row, word by word

decode_snoc : (k : ℕ) (bs : List ℕ) → decode (suc k) bs ≡ decode k bs ++ (number 8 (drop (8 * k) bs) ∷ [])
unfolding decode
decode_snoc zero bs = refl
decode_snoc (suc k) bs =
    ap (λ (l : List ℕ). number 8 bs ∷ l) (decode_snoc k (drop 8 bs)) ∙
    ap (λ (l : List ℕ). number 8 bs ∷ (decode k (drop 8 bs) ++ (number 8 l ∷ []))) (drop-drop (8 * k) 8 bs ∙ ap (λ (n : ℕ). drop n bs) (let e : 8 + 8 * k ≡ 8 * suc k = omega arith in e))

pub none_read : (row bs : List ℕ) → take 0 row ≡ decode 0 bs
unfolding decode
none_read row bs = refl

pub word_read : (row : List ℕ) (w : ℕ) (bytes : List ℕ) (k : ℕ) → k < length row → take k row ≡ decode k bytes → w ≡ number 8 (drop (8 * k) bytes) → take (k + 1) (set row k w) ≡ decode (k + 1) bytes
word_read row w bytes k h e q =
    ap (λ (n : ℕ). take n (set row k w)) (add-one k) ∙ take-suc-set row k w h ∙
    ap₂ {C = List ℕ} (λ (l : List ℕ) (x : ℕ). l ++ (x ∷ [])) e q ∙
    sym (ap (λ (n : ℕ). decode n bytes) (add-one k) ∙ decode_snoc k bytes)
