-- When a table is undamaged: the document's facts, and the test that decides them.
-- Idea: layers hang together in a chain, each sound and with an interval for each key above; the facts and the test are both said of it.
use Prim.Native.Nat.{ℕ, zero, suc, ◌-◌, ◌≤◌, ◌<◌}
use mathlib.Core.Path.{◌≡◌, refl, ap, ◌∙◌, subst}
use mathlib.Core.Bool.{Bool, true, false, ◌&&◌, ◌||◌}
use mathlib.Core.Logic.{◌⊎◌, inl, inr}
use mathlib.Core.List.{List, [], ◌∷◌}
use native.Mathlib.Omega.{arith}
use native.Mathlib.Decide.{dec_lt}
use lib.ListN.{length}
use lib.Dec.{T, eqb, eqb→eq, eqb_refl, leb, leb→le, le→leb}
use Rattle.relation.specs.Layers.{Layer, layer}
use Rattle.relation.specs.Undamaged.{linked, Undamaged, sound, chain, rooms, undamaged}
use Rattle.relation.proofs.Walks.{Sound, both, both_and, sound→, →sound, sound_ordered, ordered_sound, sound_empty, sound_one}

-- layers that hang together: n parents above the first
pub data Chain : ℕ → List Layer → Type 0 where
  cend : {n : ℕ} → Chain n []
  cnext : {n : ℕ} {l : Layer} {ls : List Layer} → length l.intervals ≡ n → Sound l.intervals l.keys → Chain (length l.keys) ls → Chain n (l ∷ ls)

chain→ : (n : ℕ) (ls : List Layer) → T (chain n ls) → Chain n ls
unfolding chain
chain→ n [] t = cend
chain→ n (l ∷ ls) t =
    let v = both (linked n l) (chain (length l.keys) ls) t in
    let w = both (eqb (length l.intervals) n) (sound l.intervals l.keys) v.0 in
    cnext (eqb→eq (length l.intervals) n w.0) (sound→ l.intervals l.keys w.1) (chain→ (length l.keys) ls v.1)

eq→eqb : (m n : ℕ) → m ≡ n → T (eqb m n)
eq→eqb m n e = subst (λ (z : ℕ). T (eqb m z)) e (eqb_refl m)

→chain : {n : ℕ} {ls : List Layer} → Chain n ls → T (chain n ls)
unfolding chain
→chain cend = tt
→chain (cnext {n} {l} {ls} e s c) =
    both_and (linked n l) (chain (length l.keys) ls) (both_and (eqb (length l.intervals) n) (sound l.intervals l.keys) (eq→eqb (length l.intervals) n e) (→sound s)) (→chain c)

rooms→ : (c : ℕ) (ls : List Layer) → T (rooms c ls) → (d : ℕ) → d < length ls → (length (layer ls d).keys ≤ c) × (length (layer ls d).intervals ≤ c)
unfolding rooms
rooms→ c [] t d h = absurd (omega arith)
rooms→ c (l ∷ ls) t zero h =
    let v = both (leb (length l.keys) c) (leb (length l.intervals) c && rooms c ls) t in
    (leb→le (length l.keys) c v.0, leb→le (length l.intervals) c (both (leb (length l.intervals) c) (rooms c ls) v.1).0)
rooms→ c (l ∷ ls) t (suc d) h =
    let v = both (leb (length l.keys) c) (leb (length l.intervals) c && rooms c ls) t in
    rooms→ c ls (both (leb (length l.intervals) c) (rooms c ls) v.1).1 d (omega arith)

pub →rooms : (c : ℕ) (ls : List Layer) → ((d : ℕ) → d < length ls → (length (layer ls d).keys ≤ c) × (length (layer ls d).intervals ≤ c)) → T (rooms c ls)
unfolding rooms
→rooms c [] f = tt
→rooms c (l ∷ ls) f =
    both_and (leb (length l.keys) c) (leb (length l.intervals) c && rooms c ls) (le→leb (length l.keys) c (f zero (omega arith)).0)
    (both_and (leb (length l.intervals) c) (rooms c ls) (le→leb (length l.intervals) c (f zero (omega arith)).1) (→rooms c ls (λ d h. f (suc d) (omega arith))))

-- what hangs together, layer by layer
chain_sound : {n : ℕ} {ls : List Layer} → Chain n ls → (d : ℕ) → d < length ls → Sound (layer ls d).intervals (layer ls d).keys
chain_sound cend d h = absurd (omega arith)
chain_sound (cnext e s c) zero h = s
chain_sound (cnext e s c) (suc d) h = chain_sound c d (omega arith)

chain_top : {n : ℕ} {ls : List Layer} → Chain n ls → 0 < length ls → length (layer ls 0).intervals ≡ n
chain_top cend h = absurd (omega arith)
chain_top (cnext e s c) h = e

chain_linked : {n : ℕ} {ls : List Layer} → Chain n ls → (d : ℕ) → suc d < length ls → length (layer ls (suc d)).intervals ≡ length (layer ls d).keys
chain_linked cend d h = absurd (omega arith)
chain_linked (cnext e s c) zero h = chain_top c (omega arith)
chain_linked (cnext e s c) (suc d) h = chain_linked c d (omega arith)

chain_made : (n : ℕ) (ls : List Layer) → ((d : ℕ) → d < length ls → Sound (layer ls d).intervals (layer ls d).keys) → (0 < length ls → length (layer ls 0).intervals ≡ n) → ((d : ℕ) → suc d < length ls → length (layer ls (suc d)).intervals ≡ length (layer ls d).keys) → Chain n ls
chain_made n [] f g h = cend
chain_made n (l ∷ ls) f g h = cnext (g (omega arith)) (f zero (omega arith)) (chain_made (length l.keys) ls (λ d k. f (suc d) (omega arith)) (λ k. h zero (omega arith)) (λ d k. h (suc d) (omega arith)))

chain_empty : {n : ℕ} {ls : List Layer} → Chain n ls → n ≡ 0 → (d : ℕ) → d < length ls → (length (layer ls d).keys ≡ 0) × (length (layer ls d).intervals ≡ 0)
chain_empty cend z d h = absurd (omega arith)
chain_empty (cnext e s c) z zero h = (sound_empty s (e ∙ z), e ∙ z)
chain_empty (cnext e s c) z (suc d) h = chain_empty c (sound_empty s (e ∙ z)) d (omega arith)

-- the document's facts from a chain, and back
pub chain_undamaged : (a c : ℕ) (ls : List Layer) (count : ℕ) → length ls ≡ a → ((d : ℕ) → d < a → (length (layer ls d).keys ≤ c) × (length (layer ls d).intervals ≤ c)) → count ≡ length (layer ls (a - 1)).keys → Chain 0 ls ⊎ Chain 1 ls → Undamaged a c ls count
chain_undamaged a c ls count e r k h = record { arity = e; room = r; counted = k; shape = go h; ordered = λ d l. sound_ordered (each h d (omega arith)) }
  where
    each : Chain 0 ls ⊎ Chain 1 ls → (d : ℕ) → d < length ls → Sound (layer ls d).intervals (layer ls d).keys
    each (inl x) = chain_sound x
    each (inr x) = chain_sound x

    go : Chain 0 ls ⊎ Chain 1 ls → ((d : ℕ) → d < a → (length (layer ls d).keys ≡ 0) × (length (layer ls d).intervals ≡ 0)) ⊎ (((layer ls 0).intervals ≡ 0 ∷ []) × ((d : ℕ) → suc d < a → length (layer ls (suc d)).intervals ≡ length (layer ls d).keys))
    go (inl x) = inl (λ d l. chain_empty x refl d (omega arith))
    go (inr x) = some (dec_lt 0 (length ls))
      where
        some : Dec (0 < length ls) → ((d : ℕ) → d < a → (length (layer ls d).keys ≡ 0) × (length (layer ls d).intervals ≡ 0)) ⊎ (((layer ls 0).intervals ≡ 0 ∷ []) × ((d : ℕ) → suc d < a → length (layer ls (suc d)).intervals ≡ length (layer ls d).keys))
        some (yes p) = inr (sound_one (chain_sound x 0 p) (chain_top x p), λ d l. chain_linked x d (omega arith))
        some (no n) = inl (λ d l. absurd (omega arith))

pub undamaged_chain : {a c : ℕ} {ls : List Layer} {count : ℕ} → Undamaged a c ls count → Chain 0 ls ⊎ Chain 1 ls
undamaged_chain {a} {c} {ls} u = go u.shape
  where
    go : ((d : ℕ) → d < a → (length (layer ls d).keys ≡ 0) × (length (layer ls d).intervals ≡ 0)) ⊎ (((layer ls 0).intervals ≡ 0 ∷ []) × ((d : ℕ) → suc d < a → length (layer ls (suc d)).intervals ≡ length (layer ls d).keys)) → Chain 0 ls ⊎ Chain 1 ls
    go (inl e) =
        inl
        (chain_made 0 ls (λ d h. ordered_sound (layer ls d).intervals (layer ls d).keys (u.ordered d (omega (arith, u.arity))) (λ x. (e d (omega (arith, u.arity))).0))
        (λ h. (e 0 (omega (arith, u.arity))).1)
        (λ d h. omega (arith, e d (omega (arith, u.arity)), e (suc d) (omega (arith, u.arity)))))
    go (inr l) =
        inr
        (chain_made 1 ls (λ d h. ordered_sound (layer ls d).intervals (layer ls d).keys (u.ordered d (omega (arith, u.arity))) (λ x. absurd (omega (arith, some d (omega (arith, u.arity))))))
        (λ h. ap length l.0)
        (λ d h. l.1 d (omega (arith, u.arity))))
      where
        some : (d : ℕ) → d < a → 0 < length (layer ls d).intervals
        some zero h = omega (arith, ap length l.0)
        some (suc d) h =
            let s = some d (omega arith) in
            omega (arith, l.1 d h, (u.ordered d (omega arith)).inside (length (layer ls d).intervals - 1) (omega arith))

-- the test decides the facts
pub undamaged→ : (a c : ℕ) (ls : List Layer) (count : ℕ) → T (undamaged a c ls count) → Undamaged a c ls count
unfolding undamaged
undamaged→ a c ls count t =
    let v = both (eqb (length ls) a) (rooms c ls && (eqb count (length (layer ls (a - 1)).keys) && (chain 0 ls || chain 1 ls))) t in
    let w = both (rooms c ls) (eqb count (length (layer ls (a - 1)).keys) && (chain 0 ls || chain 1 ls)) v.1 in
    let x = both (eqb count (length (layer ls (a - 1)).keys)) (chain 0 ls || chain 1 ls) w.1 in
    let e = eqb→eq (length ls) a v.0 in
    chain_undamaged a c ls count e (λ d h. rooms→ c ls w.0 d (omega arith)) (eqb→eq count (length (layer ls (a - 1)).keys) x.0) (either (chain 0 ls) (chain 1 ls) x.1 (chain→ 0 ls) (chain→ 1 ls))
  where
    either : (b d : Bool) → T (b || d) → (T b → Chain 0 ls) → (T d → Chain 1 ls) → Chain 0 ls ⊎ Chain 1 ls
    either true d t f g = inl (f tt)
    either false d t f g = inr (g t)

pub →undamaged : {a c : ℕ} {ls : List Layer} {count : ℕ} → Undamaged a c ls count → T (undamaged a c ls count)
unfolding undamaged
→undamaged {a} {c} {ls} {count} u =
    both_and (eqb (length ls) a) (rooms c ls && (eqb count (length (layer ls (a - 1)).keys) && (chain 0 ls || chain 1 ls))) (eq→eqb (length ls) a u.arity)
    (both_and (rooms c ls) (eqb count (length (layer ls (a - 1)).keys) && (chain 0 ls || chain 1 ls)) (→rooms c ls (λ d h. u.room d (omega (arith, u.arity))))
    (both_and (eqb count (length (layer ls (a - 1)).keys)) (chain 0 ls || chain 1 ls) (eq→eqb count (length (layer ls (a - 1)).keys) u.counted) (either (undamaged_chain u))))
  where
    or_left : (b d : Bool) → T b → T (b || d)
    or_left true d t = tt
    or_left false d t = absurd t

    or_right : (b d : Bool) → T d → T (b || d)
    or_right true d t = tt
    or_right false d t = t

    either : Chain 0 ls ⊎ Chain 1 ls → T (chain 0 ls || chain 1 ls)
    either (inl x) = or_left (chain 0 ls) (chain 1 ls) (→chain x)
    either (inr x) = or_right (chain 0 ls) (chain 1 ls) (→chain x)
