-- Public: two tables of the same shape, as a test and as facts.
use Rattle.std.specs.Prelude.{ℕ, ◌<◌, ◌≡◌, Bool, ◌&&◌, eqb}
use Rattle.std.specs.Bool.{beq}
use Rattle.relation.specs.Tests.{every}
use Rattle.column_trie.specs.Table.{grade_at}
use Rattle.column_trie.specs.declared.ColumnTrie.{ColumnTrie}

-- column d of the one is of the kind of column d of the other
abbrev pub same_kind : ColumnTrie → ColumnTrie → ℕ → Bool
same_kind s m d = beq (grade_at s d) (grade_at m d)

-- not 17: the same arity, and the same kind at each column
unfoldable pub same_shape : ColumnTrie → ColumnTrie → Bool
unfolding every
same_shape s m = eqb s.arity m.arity && every s.arity (same_kind s m)

pub record SameShape (s m : ColumnTrie) : Type 0 where
  pub arity : s.arity ≡ m.arity
  pub kinds : (d : ℕ) → d < s.arity → grade_at s d ≡ grade_at m d
