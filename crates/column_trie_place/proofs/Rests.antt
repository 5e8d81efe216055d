-- What a call answers from the siblings that are left, found in the pool: none, or the present key and those behind it.
use Prim.Native.Nat.{ℕ, suc, ◌-◌, ◌≤◌, ◌<◌}
use mathlib.Core.Path.{◌≡◌, sym, ap, ◌∙◌}
use mathlib.Core.Bool.{Bool}
use mathlib.Core.List.{List, [], ◌∷◌}
use native.Mathlib.Omega.{arith}
use lib.ListN.{length, get_or, take, drop}
use lib.Seq.{drop-cons}
use borrow.Author.Tests.{eq-eqb, ne_eqb}
use Rattle.std.proofs.Common.{Result, Ok, Err}
use Rattle.std.proofs.lemmas.Result.{IfOk-at_ok}
use Rattle.refusal.specs.Number.{number_of, given}
use Rattle.refusal.specs.declared.Refusal.{Refusal}
use Rattle.refusal.proofs.Numbers.{not_zero}
use Rattle.relation.specs.Order.{pick}
use Rattle.column_trie.specs.declared.ColumnTrie.{ColumnTrie}
use Rattle.column_trie_place.specs.Checks.{refusal, remaining, unless}
use Rattle.column_trie_place.specs.Inside.{Placed, PlacedAt}
use Rattle.column_trie_place.specs.declared.ColumnTrieIter.{ColumnTrieIter}
use Rattle.column_trie_place.specs.declared.Place.{Place}

-- a number refuses, 0 does not
pub refuses : {A : Type 0} (deny : ℕ → A) (answer : A) {n m : ℕ} → n ≡ m → (n ≡ 0 → ⊥) → deny n ≡ unless m deny answer
refuses deny answer {n} {m} e z = ap deny e ∙ sym (ap (λ (b : Bool). pick b answer (deny m)) (ne_eqb m 0 (λ x. z (e ∙ x))))

pub answers : {A : Type 0} (deny : ℕ → A) (answer : A) {m : ℕ} → m ≡ 0 → answer ≡ unless m deny answer
answers deny answer {m} z = sym (ap (λ (b : Bool). pick b answer (deny m)) (eq-eqb m 0 z))

-- the pool's words from at to end, where there are some, and where there are none
pub part_none : (pool : List ℕ) (at end : ℕ) → end ≤ at → take (end - at) (drop at pool) ≡ []
part_none pool at end h = ap (λ (n : ℕ). take n (drop at pool)) (let e : end - at ≡ 0 = omega arith in e)

pub part_more : (pool : List ℕ) (at end : ℕ) → at < end → end ≤ length pool → take (end - at) (drop at pool) ≡ get_or pool at 0 ∷ take (end - suc at) (drop (suc at) pool)
part_more pool at end h k =
    ap (λ (n : ℕ). take n (drop at pool)) (let e : end - at ≡ suc (end - suc at) = omega arith in e) ∙
    ap (take (suc (end - suc at))) (drop-cons pool at 0 (omega arith))

module _ {pool : List ℕ} {t : ColumnTrie} {it : ColumnTrieIter} {A : Type 0} (deny : ℕ → A) where
  -- what the checks refuse, a call refuses
  pub refused : (answer : A) {r : Refusal} {x : Result Place Refusal} → x ≡ Err r → Placed pool t it x → deny (number_of r) ≡ unless (refusal pool t it) deny answer
  refused answer {r} e w = refuses deny answer (ap given (sym e) ∙ w.number) (not_zero r)

  module _ (f : List ℕ → A) {p : Place} (z : refusal pool t it ≡ 0) (w : PlacedAt pool t it p) where
    -- an answer that goes by what is left
    pub by_rest : f (take (p.end - p.at) (drop p.at pool)) ≡ unless (refusal pool t it) deny (f (remaining pool t it))
    by_rest = ap f w.rest ∙ answers deny (f (remaining pool t it)) z

    -- nothing is left
    pub nothing : p.end ≤ p.at → f [] ≡ unless (refusal pool t it) deny (f (remaining pool t it))
    nothing h = ap f (sym (part_none pool p.at p.end h)) ∙ by_rest

    -- the present key and what is behind it
    pub something : p.at < p.end → f (get_or pool p.at 0 ∷ take (p.end - suc p.at) (drop (suc p.at) pool)) ≡ unless (refusal pool t it) deny (f (remaining pool t it))
    something h = ap f (sym (part_more pool p.at p.end h w.inside)) ∙ by_rest

-- a cursor that has a place is not refused
pub not_refused : {pool : List ℕ} {t : ColumnTrie} {it : ColumnTrieIter} {p : Place} {x : Result Place Refusal} → x ≡ Ok p → Placed pool t it x → (refusal pool t it ≡ 0) × PlacedAt pool t it p
not_refused e w = (sym w.number ∙ ap given e, IfOk-at_ok (PlacedAt _ _ _) e w.place)
