-- The ways out of a listing, and that its contract determines everything.
use Prim.Native.Nat.{ℕ, ◌+◌, ◌≤◌, ◌<◌}
use mathlib.Core.Path.{◌≡◌, refl, sym, ap, ◌∙◌}
use mathlib.Core.Bool.{Bool, true, false}
use mathlib.Core.List.{List, [], ◌∷◌, ◌++◌}
use native.Mathlib.Omega.{arith}
use lib.ListN.{length, drop}
use lib.Seq.{sets-eq}
use lib.Dec.{eqb}
use borrow.Author.Tests.{le-leb, lt-leb}
use Rattle.relation.specs.Order.{pick}
use Rattle.column_trie.specs.Pool.{lay}
use Rattle.column_trie.specs.Table.{layers_in, undamaged}
use Rattle.column_trie.specs.declared.ColumnTrie.{ColumnTrie}
use Rattle.column_trie_listing.specs.declared.Listed.{Listed}
use Rattle.layer_text.specs.Text.{text}
use Rattle.column_trie_listing.specs.List.{Lists, list_number}
use Rattle.layer_text.specs.Piece.{PieceWritten}

-- laid over the front
lay_front : (bytes xs : List ℕ) → length xs ≤ length bytes → lay bytes 0 xs ≡ xs ++ drop (length xs) bytes
unfolding lay
lay_front bytes xs h = sets-eq xs bytes 0 (omega arith) ∙ ap (λ (n : ℕ). xs ++ drop n bytes) (let e : 0 + length xs ≡ length xs = omega arith in e)

-- no bytes in front
pub none_before : (xs bytes : List ℕ) → length xs ≡ 0 → xs ++ bytes ≡ bytes
none_before [] bytes e = refl
none_before (x ∷ xs) bytes e = absurd (omega arith)

module _ (pool : List ℕ) (t : ColumnTrie) (bytes : List ℕ) where
  refused : (n : ℕ) → list_number pool t (length bytes) ≡ n → eqb n 0 ≡ false → Lists pool t bytes bytes (record { number = n; len = 0 })
  refused n e z =
      let f : eqb (list_number pool t (length bytes)) 0 ≡ false = ap (λ (m : ℕ). eqb m 0) e ∙ z in
      record {
        number = sym e;
        len = sym (ap (λ (b : Bool). pick b (length (text (layers_in pool t))) 0) f);
        written = sym (ap (λ (b : Bool). pick b (text (layers_in pool t) ++ drop (length (text (layers_in pool t))) bytes) bytes) f);
      }

  pub number_6 : undamaged pool t ≡ false → list_number pool t (length bytes) ≡ 6
  unfolding list_number
  number_6 e = simp e

  pub damaged : undamaged pool t ≡ false → Lists pool t bytes bytes (record { number = 6; len = 0 })
  damaged e = refused 6 (number_6 e) refl

  module _ (sound : undamaged pool t ≡ true) where
    pub number_14 : length bytes < length (text (layers_in pool t)) → list_number pool t (length bytes) ≡ 14
    unfolding list_number
    number_14 h = simp (sound, lt-leb (length (text (layers_in pool t))) (length bytes) h)

    pub too_long : length bytes < length (text (layers_in pool t)) → Lists pool t bytes bytes (record { number = 14; len = 0 })
    too_long h = refused 14 (number_14 h) refl

    pub number_0 : length (text (layers_in pool t)) ≤ length bytes → list_number pool t (length bytes) ≡ 0
    unfolding list_number
    number_0 h = simp (sound, le-leb (length (text (layers_in pool t))) (length bytes) h)

    pub listed : length (text (layers_in pool t)) ≤ length bytes → (bytes' : List ℕ) (n : ℕ) → PieceWritten bytes bytes' 0 (text (layers_in pool t)) n → Lists pool t bytes bytes' (record { number = 0; len = n })
    listed h bytes' n w =
        let f : eqb (list_number pool t (length bytes)) 0 ≡ true = ap (λ (m : ℕ). eqb m 0) (number_0 h) in
        let e : 0 + length (text (layers_in pool t)) ≡ length (text (layers_in pool t)) = omega arith in
        record {
          number = sym (number_0 h);
          len = w.ends ∙ e ∙ sym (ap (λ (b : Bool). pick b (length (text (layers_in pool t))) 0) f);
          written = w.laid (omega arith) ∙ lay_front bytes (text (layers_in pool t)) h ∙ sym (ap (λ (b : Bool). pick b (text (layers_in pool t) ++ drop (length (text (layers_in pool t))) bytes) bytes) f);
        }

-- any two outcomes that the contract allows are equal
pub determined : {pool bytes x y : List ℕ} {t : ColumnTrie} {r s : Listed} → Lists pool t bytes x r → Lists pool t bytes y s → (r ≡ s) × (x ≡ y)
determined p q =
    let a = p.number ∙ sym q.number in
    let b = p.len ∙ sym q.len in
    (λ i. record { number = a i; len = b i }, p.written ∙ sym q.written)
