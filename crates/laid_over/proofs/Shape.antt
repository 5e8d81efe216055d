-- The test for two tables of the same shape decides the facts; and what the code finds comes to it.
use Prim.Native.Nat.{◌≤◌, ◌<◌}
use mathlib.Core.Path.{◌≡◌, sym, ap, ◌∙◌}
use mathlib.Core.Bool.{Bool, true, false, beq}
use mathlib.Core.List.{List}
use native.Mathlib.Omega.{arith}
use lib.ListN.{length, take, get_or}
use lib.Seq.{get_or-take, ext_get_or, length-take-le}
use lib.Dec.{eqb}
use borrow.Author.Tests.{eqb-true, eq-eqb, ne_eqb}
use Rattle.std.specs.Cmp.{booleans_Decides}
use Rattle.std.specs.Cmp.Lexicographic.{pointwise}
use Rattle.std.proofs.lemmas.Bool.Decides.{same_from_decides, Decides-like}
use Rattle.std.proofs.lemmas.Slice.Eq.{slice_eq-Decides}
use Rattle.relation.specs.Tests.{every}
use Rattle.relation.specs.Exactly.{Exactly}
use Rattle.relation.proofs.Tests.{and_true, and_left, and_right, gate_shut, every_at, every_all}
use Rattle.column_trie.specs.Table.{grade_at}
use Rattle.column_trie.specs.declared.ColumnTrie.{ColumnTrie}
use Rattle.laid_over.specs.Shape.{same_kind, same_shape, SameShape}

module _ (s m : ColumnTrie) where
  pub shape_decides : Exactly (same_shape s m ≡ true) (SameShape s m)
  unfolding same_shape
  shape_decides = (
    λ e. record {
      arity = eqb-true s.arity m.arity (and_left (eqb s.arity m.arity) (every s.arity (same_kind s m)) e);
      kinds = λ d h. (booleans_Decides (grade_at s d) (grade_at m d)).0 (every_at (same_kind s m) s.arity (and_right (eqb s.arity m.arity) (every s.arity (same_kind s m)) e) d h);
    },
    λ f.
        and_true (eqb s.arity m.arity) (every s.arity (same_kind s m)) (eq-eqb s.arity m.arity f.arity)
        (every_all (same_kind s m) s.arity (λ d h. (booleans_Decides (grade_at s d) (grade_at m d)).1 (f.kinds d h))),
  )

  -- what the code finds: another arity, or the columns' kinds compared
  pub arity_differs : (s.arity ≡ m.arity → ⊥) → eqb s.arity m.arity ≡ same_shape s m
  unfolding same_shape
  arity_differs f = let e = ne_eqb s.arity m.arity f in e ∙ gate_shut (eqb s.arity m.arity) (every s.arity (same_kind s m)) e

  module _ (a : s.arity ≡ m.arity) (g : s.arity ≤ length s.grade) (h : s.arity ≤ length m.grade) where
    same_kinds : take s.arity s.grade ≡ take s.arity m.grade → SameShape s m
    same_kinds q =
        record {
          arity = a;
          kinds = λ d b. sym (get_or-take s.arity s.grade d false b) ∙ ap (λ (l : List Bool). get_or l d false) q ∙ get_or-take s.arity m.grade d false b;
        }

    as_lists : SameShape s m → take s.arity s.grade ≡ take s.arity m.grade
    as_lists f =
        ext_get_or false (take s.arity s.grade) (take s.arity m.grade) (long ∙ sym (length-take-le s.arity m.grade h))
        (λ d b. let c : d < s.arity = omega (arith, long) in get_or-take s.arity s.grade d false c ∙ f.kinds d c ∙ sym (get_or-take s.arity m.grade d false c))
      where
        long : length (take s.arity s.grade) ≡ s.arity
        long = length-take-le s.arity s.grade g

    pub kinds_compared : {r : Bool} → r ≡ pointwise beq (take s.arity s.grade) (take s.arity m.grade) → r ≡ same_shape s m
    kinds_compared {r} e =
        same_from_decides r (same_shape s m)
        (Decides-like r same_kinds as_lists (slice_eq-Decides booleans_Decides (take s.arity s.grade) (take s.arity m.grade) r e)) shape_decides
