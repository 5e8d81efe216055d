-- Numbers and words as bytes: there and back.
use Prim.Native.Nat.{ℕ, zero, suc, ◌+◌, ◌*◌, ◌/◌, ◌%◌, ◌<◌, ◌≤◌}
use mathlib.Core.Path.{◌≡◌, refl, sym, ap, ap₂, ◌∙◌, subst}
use mathlib.Core.Bool.{true, false}
use mathlib.Core.List.{List, [], ◌∷◌, ◌++◌, append_assoc}
use native.Mathlib.Omega.{arith}
use lib.ListN.{length, take, drop, get_or, length-append, length-drop}
use lib.Dec.{eqb}
use lib.Seq.{take-suc, get_or-append_seam, get_or-drop, take-add, drop_at}
use borrow.Author.Tests.{eqb-true, eq-eqb}
use Rattle.relation.specs.Lists.{◌∈◌, hd, tl, not_in_nil}
use Rattle.relation.proofs.Tests.{and_left, and_right, and_true, not_both}
use Rattle.table_file.specs.Bytes.{bytes_of, number, encode, decode, begins, Bytes}

-- 256 to the k
unfoldable pub top : ℕ → ℕ
top zero = 1
top (suc k) = top k * 256

pub length_bytes_of : (k x : ℕ) → length (bytes_of k x) ≡ k
unfolding bytes_of
length_bytes_of zero x = refl
length_bytes_of (suc k) x = omega (arith, length-append (bytes_of k (x / 256)) (x % 256 ∷ []), length_bytes_of k (x / 256))

-- the number of bytes before others, and of the bytes alone
pub number_bytes : (k x : ℕ) (rest : List ℕ) → x < top k → number k (bytes_of k x ++ rest) ≡ x
unfolding bytes_of number top
number_bytes zero x rest h = omega arith
number_bytes (suc k) x rest h =
    let e : bytes_of (suc k) x ++ rest ≡ bytes_of k (x / 256) ++ (x % 256 ∷ rest) = append_assoc (bytes_of k (x / 256)) (x % 256 ∷ []) rest in
    let ih = number_bytes k (x / 256) (x % 256 ∷ rest) (omega arith) in
    let g : get_or (bytes_of k (x / 256) ++ (x % 256 ∷ rest)) (length (bytes_of k (x / 256))) 0 ≡ x % 256 = get_or-append_seam (bytes_of k (x / 256)) (x % 256) rest 0 in
    let j = subst (λ (n : ℕ). get_or (bytes_of k (x / 256) ++ (x % 256 ∷ rest)) n 0 ≡ x % 256) (length_bytes_of k (x / 256)) g in
    ap (number (suc k)) e ∙ omega (arith, ih, j)

pub number_top : (k : ℕ) (bs : List ℕ) → Bytes bs → number k bs < top k
unfolding number top
number_top zero bs b = omega arith
number_top (suc k) bs b = omega (arith, number_top k bs b, b k)

pub bytes_number : (k : ℕ) (bs : List ℕ) → Bytes bs → k ≤ length bs → bytes_of k (number k bs) ≡ take k bs
unfolding bytes_of number
bytes_number zero bs b h = refl
bytes_number (suc k) bs b h =
    let x = number k bs * 256 + get_or bs k 0 in
    let p : x / 256 ≡ number k bs = omega (arith, b k) in
    let q : x % 256 ≡ get_or bs k 0 = omega (arith, b k) in
    let ih : bytes_of k (number k bs) ≡ take k bs = bytes_number k bs b (omega arith) in
    let s : take (suc k) bs ≡ take k bs ++ (get_or bs k 0 ∷ []) = take-suc bs k 0 (omega arith) in
    cc

-- ---- words

pub length_encode : (ws : List ℕ) → length (encode ws) ≡ 8 * length ws
unfolding encode
length_encode [] = refl
length_encode (w ∷ ws) = omega (arith, length-append (bytes_of 8 w) (encode ws), length_bytes_of 8 w, length_encode ws)

pub length_decode : (n : ℕ) (bs : List ℕ) → length (decode n bs) ≡ n
unfolding decode
length_decode zero bs = refl
length_decode (suc n) bs = ap suc (length_decode n (drop 8 bs))

abbrev pub Words : List ℕ → Type 0
Words ws = (w : ℕ) → w ∈ ws → w < 18446744073709551616

word_top : {w : ℕ} → w < 18446744073709551616 → w < top 8
unfolding top
word_top h = h

top_word : {w : ℕ} → w < top 8 → w < 18446744073709551616
unfolding top
top_word h = h

pub decode_encode : (ws rest : List ℕ) → Words ws → decode (length ws) (encode ws ++ rest) ≡ ws
unfolding encode decode
decode_encode [] rest h = refl
decode_encode (w ∷ ws) rest h =
    let e : (bytes_of 8 w ++ encode ws) ++ rest ≡ bytes_of 8 w ++ (encode ws ++ rest) = append_assoc (bytes_of 8 w) (encode ws) rest in
    let p : number 8 (bytes_of 8 w ++ (encode ws ++ rest)) ≡ w = number_bytes 8 w (encode ws ++ rest) (word_top (h w (hd refl))) in
    let q : drop 8 (bytes_of 8 w ++ (encode ws ++ rest)) ≡ encode ws ++ rest = drop_at (bytes_of 8 w) (encode ws ++ rest) 8 (length_bytes_of 8 w) in
    let ih : decode (length ws) (encode ws ++ rest) ≡ ws = decode_encode ws rest (λ v m. h v (tl m)) in
    ap (decode (suc (length ws))) e ∙ ap₂ {C = List ℕ} (λ a l. a ∷ l) p (ap (decode (length ws)) q ∙ ih)

pub bytes_drop : (n : ℕ) (bs : List ℕ) → Bytes bs → Bytes (drop n bs)
bytes_drop n bs b i = subst (λ (x : ℕ). x < 256) (sym (get_or-drop n bs i 0)) (b (n + i))

pub encode_decode : (n : ℕ) (bs : List ℕ) → Bytes bs → 8 * n ≤ length bs → encode (decode n bs) ≡ take (8 * n) bs
unfolding encode decode
encode_decode zero bs b h = refl
encode_decode (suc n) bs b h =
    let p : bytes_of 8 (number 8 bs) ≡ take 8 bs = bytes_number 8 bs b (omega arith) in
    let ih : encode (decode n (drop 8 bs)) ≡ take (8 * n) (drop 8 bs) = encode_decode n (drop 8 bs) (bytes_drop 8 bs b) (omega (arith, length-drop 8 bs)) in
    let s : take (8 + 8 * n) bs ≡ take 8 bs ++ take (8 * n) (drop 8 bs) = take-add 8 (8 * n) bs in
    let t : 8 * suc n ≡ 8 + 8 * n = omega arith in
    ap₂ ◌++◌ p ih ∙ sym s ∙ ap (λ (k : ℕ). take k bs) (sym t)

pub decode_words : (n : ℕ) (bs : List ℕ) → Bytes bs → Words (decode n bs)
unfolding decode
decode_words zero bs b w m = absurd (not_in_nil m)
decode_words (suc n) bs b w (hd e) = top_word (subst (λ (x : ℕ). x < top 8) (sym e) (number_top 8 bs b))
decode_words (suc n) bs b w (tl m) = decode_words n (drop 8 bs) (bytes_drop 8 bs b) w m

-- ---- beginnings

pub begins_append : (xs bs : List ℕ) → begins xs (xs ++ bs) ≡ true
unfolding begins
begins_append [] bs = refl
begins_append (x ∷ xs) bs = and_true (eqb x x) (begins xs (xs ++ bs)) (eq-eqb x x refl) (begins_append xs bs)

pub begins_true : (xs bs : List ℕ) → begins xs bs ≡ true → bs ≡ xs ++ drop (length xs) bs
unfolding begins
begins_true [] bs h = refl
begins_true (x ∷ xs) [] h = not_both false h refl
begins_true (x ∷ xs) (b ∷ bs) h =
    let p : x ≡ b = eqb-true x b (and_left (eqb x b) (begins xs bs) h) in
    let q : bs ≡ xs ++ drop (length xs) bs = begins_true xs bs (and_right (eqb x b) (begins xs bs) h) in
    ap₂ {C = List ℕ} (λ a l. a ∷ l) (sym p) q
