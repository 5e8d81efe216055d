-- Digits by their last one, and bytes laid one piece behind another.
use Prim.Native.Nat.{ℕ, zero, suc, ◌+◌, ◌-◌, ◌/◌, ◌%◌, ◌≤◌, ◌<◌, ◌^◌}
use mathlib.Core.Path.{◌≡◌, refl, sym, ap, ap₂, subst, ◌∙◌}
use mathlib.Core.Bool.{Bool, true, false}
use mathlib.Core.List.{List, [], ◌∷◌, ◌++◌, append-nil, append_assoc}
use native.Mathlib.Omega.{arith}
use lib.ListN.{length, take, drop, get_or, set, length-append, length-drop}
use lib.Seq.{take-suc, take_all, length-take-le, drop-drop, sets-eq}
use lib.Dec.{ltb}
use borrow.Author.Tests.{lt-ltb, le-ltb, ltb-true, ltb-false}
use Rattle.relation.specs.Layers.{Layer, layer, no_layer}
use Rattle.column_trie.specs.Pool.{lay}
use Rattle.column_trie.proofs.Pool.{lay_length}
use Rattle.layer_text.specs.Piece.{PieceWritten}
use Rattle.layer_text.specs.Wrote.{Wrote}
use Rattle.layer_text.specs.declared.Writer.{Writer}
use Rattle.layer_text.specs.Text.{decimal_in, decimal, closing, comma, layer_word, data_word, interval_word, others, numbers, lists, layer_text, text_from, text}

decimal_less : (fuel n : ℕ) → n < 10 → decimal_in (suc fuel) n ≡ (48 + n) ∷ []
unfolding decimal_in
decimal_less fuel n h = simp (decimal_in, lt-ltb n 10 h)

decimal_step : (fuel n : ℕ) → 10 ≤ n → decimal_in (suc fuel) n ≡ decimal_in fuel (n / 10) ++ ((48 + n % 10) ∷ [])
unfolding decimal_in
decimal_step fuel n h = simp (decimal_in, le-ltb n 10 h)

-- enough fuel is enough
enough : (f g n : ℕ) → n < f → n < g → decimal_in f n ≡ decimal_in g n
enough zero g n h k = absurd (omega arith)
enough (suc f) zero n h k = absurd (omega arith)
enough (suc f) (suc g) n h k = go (λ m. enough f g (n / 10) (omega arith) (omega arith)) (ltb n 10) refl
  where
    go : (10 ≤ n → decimal_in f (n / 10) ≡ decimal_in g (n / 10)) → (b : Bool) → ltb n 10 ≡ b → decimal_in (suc f) n ≡ decimal_in (suc g) n
    go ih true e = let l = ltb-true n 10 e in decimal_less f n l ∙ sym (decimal_less g n l)
    go ih false e =
        let l = ltb-false n 10 e in
        decimal_step f n l ∙ ap (λ (ds : List ℕ). ds ++ ((48 + n % 10) ∷ [])) (ih l) ∙ sym (decimal_step g n l)

pub decimal_one : (n : ℕ) → n < 10 → decimal n ≡ (48 + n) ∷ []
decimal_one n h = decimal_less n n h

pub decimal_more : (n : ℕ) → 10 ≤ n → decimal n ≡ decimal (n / 10) ++ ((48 + n % 10) ∷ [])
decimal_more n h = decimal_step n n h ∙ ap (λ (ds : List ℕ). ds ++ ((48 + n % 10) ∷ [])) (enough n (suc (n / 10)) (n / 10) (omega arith) (omega arith))

pub more_long : (n : ℕ) → 10 ≤ n → length (decimal n) ≡ length (decimal (n / 10)) + 1
more_long n h = ap length (decimal_more n h) ∙ length-append (decimal (n / 10)) ((48 + n % 10) ∷ [])

-- a number of k digits' range has at most k digits
pub digits_few : (k n : ℕ) → n < 10 ^ suc k → length (decimal n) ≤ suc k
digits_few zero n h = let l : n < 10 = omega arith in omega (arith, ap length (decimal_one n l))
digits_few (suc k) n h = go (ltb n 10) refl (digits_few k (n / 10) (omega arith))
  where
    go : (b : Bool) → ltb n 10 ≡ b → length (decimal (n / 10)) ≤ suc k → length (decimal n) ≤ suc (suc k)
    go true e ih = omega (arith, ap length (decimal_one n (ltb-true n 10 e)))
    go false e ih = omega (arith, more_long n (ltb-false n 10 e))

pub word_digits : (n : ℕ) → n < 2 ^ 64 → length (decimal n) ≤ 20
word_digits n h = digits_few 19 n (omega arith)

-- one piece behind another is one piece
lay_append : (bytes : List ℕ) (at : ℕ) (xs ys : List ℕ) → lay (lay bytes at xs) (at + length xs) ys ≡ lay bytes at (xs ++ ys)
unfolding lay
lay_append bytes at [] ys = ap (λ (k : ℕ). lay bytes k ys) (let e : at + 0 ≡ at = omega arith in e)
lay_append bytes at (x ∷ xs) ys =
    ap (λ (k : ℕ). lay (lay (set bytes at x) (suc at) xs) k ys) (let e : at + suc (length xs) ≡ suc at + length xs = omega arith in e)
    ∙ lay_append (set bytes at x) (suc at) xs ys

pub lay_one : (bytes : List ℕ) (at x : ℕ) → lay bytes at (x ∷ []) ≡ set bytes at x
unfolding lay
lay_one bytes at x = refl

pub lay_none : (bytes : List ℕ) (at : ℕ) → bytes ≡ lay bytes at []
unfolding lay
lay_none bytes at = refl

-- a part of the bytes that is put back is laid over them
pub laid_back : (text : List ℕ) (at k : ℕ) (ys xs : List ℕ) → ys ≡ xs → k ≡ length xs → at + length xs ≤ length text → take at text ++ (ys ++ drop k (drop at text)) ≡ lay text at xs
unfolding lay
laid_back text at k ys xs e n h =
    ap₂ (λ (l : List ℕ) (m : ℕ). take at text ++ (l ++ drop m (drop at text))) e n
    ∙ ap (λ (l : List ℕ). take at text ++ (xs ++ l)) (drop-drop (length xs) at text)
    ∙ sym (append_assoc (take at text) xs (drop (at + length xs) text))
    ∙ sym (sets-eq xs text at h)

-- ---- lists of numbers

others_append : (xs ys : List ℕ) → others (xs ++ ys) ≡ others xs ++ others ys
unfolding others
others_append [] ys = refl
others_append (x ∷ xs) ys =
    ap (λ (l : List ℕ). (comma ++ decimal x) ++ l) (others_append xs ys) ∙ sym (append_assoc (comma ++ decimal x) (others xs) (others ys))

others_one : (x : ℕ) → others (x ∷ []) ≡ comma ++ decimal x
unfolding others
others_one x = append-nil (comma ++ decimal x)

-- one number more
pub others_more : (xs : List ℕ) (i : ℕ) → i < length xs → others (take (suc i) xs) ≡ others (take i xs) ++ (comma ++ decimal (get_or xs i 0))
others_more xs i h = ap others (take-suc xs i 0 h) ∙ others_append (take i xs) (get_or xs i 0 ∷ []) ∙ ap (λ (l : List ℕ). others (take i xs) ++ l) (others_one (get_or xs i 0))

pub none_others : others [] ≡ []
unfolding others
none_others = refl

pub numbers_none : (xs : List ℕ) → length xs ≡ 0 → numbers xs ≡ []
unfolding numbers
numbers_none [] e = refl
numbers_none (x ∷ xs) e = absurd (omega arith)

numbers_some : (xs : List ℕ) → (length xs ≡ 0 → ⊥) → numbers xs ≡ decimal (get_or xs 0 0) ++ others (drop 1 xs)
unfolding numbers
numbers_some [] n = absurd (n refl)
numbers_some (x ∷ xs) n = refl

-- ---- pieces written one after another

written_none : (bytes : List ℕ) (at : ℕ) → PieceWritten bytes bytes at [] at
written_none bytes at = record { ends = omega arith; laid = λ h. lay_none bytes at; room = refl }

-- a piece that is laid, and one that has no room
pub written_whole : {b b₁ : List ℕ} {at e : ℕ} {xs : List ℕ} → e ≡ at + length xs → b₁ ≡ lay b at xs → PieceWritten b b₁ at xs e
written_whole {b} {at = at} {xs = xs} n l = record { ends = n; laid = λ h. l; room = ap length l ∙ lay_length b at xs }

pub unwritten : {b : List ℕ} {at e : ℕ} {xs : List ℕ} → e ≡ at + length xs → length b < e → PieceWritten b b at xs e
unwritten n h = record { ends = n; laid = λ r. absurd (omega arith); room = refl }

pub written_more : {b b₁ b₂ : List ℕ} {at e f : ℕ} {xs ys : List ℕ} → PieceWritten b b₁ at xs e → PieceWritten b₁ b₂ e ys f → PieceWritten b b₂ at (xs ++ ys) f
written_more {b} {b₁} {b₂} {at} {e} {f} {xs} {ys} w v =
    let l = length-append xs ys in
    record {
      ends = omega (arith, w.ends, v.ends);
      laid = λ h. v.laid (omega (arith, w.ends, w.room)) ∙ ap₂ (λ (l : List ℕ) (n : ℕ). lay l n ys) (w.laid (omega arith)) w.ends ∙ lay_append b at xs ys;
      room = v.room ∙ w.room;
    }

written_as : {b b₁ : List ℕ} {at e : ℕ} {xs ys : List ℕ} → xs ≡ ys → PieceWritten b b₁ at xs e → PieceWritten b b₁ at ys e
written_as {b} {b₁} {at} {e} p w = subst (λ (z : List ℕ). PieceWritten b b₁ at z e) p w

-- ---- and by a writer

pub wrote_none : (w : Writer) → Wrote w w []
wrote_none w = record { same = refl; piece = written_none w.text.now w.end }

pub wrote_more : {w w₁ w₂ : Writer} {xs ys : List ℕ} → Wrote w w₁ xs → Wrote w₁ w₂ ys → Wrote w w₂ (xs ++ ys)
wrote_more a b = record { same = b.same ∙ a.same; piece = written_more a.piece b.piece }

pub wrote_as : {w w₁ : Writer} {xs ys : List ℕ} → xs ≡ ys → Wrote w w₁ xs → Wrote w w₁ ys
wrote_as p a = record { same = a.same; piece = written_as p a.piece }

-- the bytes that a writer leaves to whoever lent them
pub lent_back : {w w₁ : Writer} {bytes : List ℕ} {xs : List ℕ} → bytes ≡ w₁.text.now → Wrote w w₁ xs → PieceWritten w.text.now bytes w.end xs w₁.end
lent_back {w} {w₁} {xs = xs} e a = subst (λ (z : List ℕ). PieceWritten w.text.now z w.end xs w₁.end) (sym e) a.piece

-- the slice behind the first word
tail_is : (xs : List ℕ) → take (length xs - 1) (drop 1 xs) ≡ drop 1 xs
tail_is xs = take_all (length xs - 1) (drop 1 xs) (omega (arith, length-drop 1 xs))

pub numbers_tail : (xs : List ℕ) → (length xs ≡ 0 → ⊥) → numbers xs ≡ decimal (get_or xs 0 0) ++ others (take (length xs - 1) (drop 1 xs))
numbers_tail xs n = numbers_some xs n ∙ ap (λ (l : List ℕ). decimal (get_or xs 0 0) ++ others l) (sym (tail_is xs))

pub tail_length : (xs : List ℕ) → length (take (length xs - 1) (drop 1 xs)) ≡ length xs - 1
tail_length xs = ap length (tail_is xs) ∙ length-drop 1 xs

-- ---- layers

pub layer_is : (d : ℕ) (keys intervals : List ℕ) → layer_text d (lists keys intervals) ≡ ((layer_word ++ (decimal d ++ data_word)) ++ (numbers keys ++ closing)) ++ (interval_word ++ (numbers intervals ++ closing))
unfolding layer_text
layer_is d keys intervals = refl

text_append : (e : ℕ) (xs ys : List Layer) → text_from e (xs ++ ys) ≡ text_from e xs ++ text_from (e + length xs) ys
unfolding text_from
text_append e [] ys = ap (λ (n : ℕ). text_from n ys) (let p : e ≡ e + 0 = omega arith in p)
text_append e (x ∷ xs) ys =
    ap (λ (l : List ℕ). layer_text e x ++ l) (text_append (suc e) xs ys)
    ∙ sym (append_assoc (layer_text e x) (text_from (suc e) xs) (text_from (suc e + length xs) ys))
    ∙ ap (λ (n : ℕ). (layer_text e x ++ text_from (suc e) xs) ++ text_from n ys) (let p : suc e + length xs ≡ e + suc (length xs) = omega arith in p)

pub no_text : text [] ≡ []
unfolding text_from
no_text = refl

text_one : (d : ℕ) (l : Layer) → text_from d (l ∷ []) ≡ layer_text d l
unfolding text_from
text_one d l = append-nil (layer_text d l)

-- one layer more
pub text_more : (ls : List Layer) (d : ℕ) → d < length ls → text (take (suc d) ls) ≡ text (take d ls) ++ layer_text d (layer ls d)
text_more ls d h =
    ap text (take-suc ls d no_layer h)
    ∙ text_append 0 (take d ls) (layer ls d ∷ [])
    ∙ ap (λ (n : ℕ). text (take d ls) ++ text_from n (layer ls d ∷ [])) (let e : 0 + length (take d ls) ≡ d = omega (arith, length-take-le d ls (omega arith)) in e)
    ∙ ap (λ (l : List ℕ). text (take d ls) ++ l) (text_one d (layer ls d))
