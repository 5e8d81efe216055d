-- `column_trie_build::check` meets its contract: the checks stand in the sequence of the definition's.
use Rattle.relation.proofs.Tests.{passed, failed}
use Rattle.column_trie.proofs.Header.{arity_told}
use Rattle.column_trie_build.proofs.Numbers.{number_0, number_1, number_2, number_3, number_4, number_5}
use mathlib.Core.Path.{ap}
use mathlib.Core.Bool.{not}
use Rattle.column_trie_build.proofs.check.Goals as goal

pub returns-then-not-arity_ok : goal.returns-then-not-arity_ok
returns-then-not-arity_ok c = number_1 _ _ _ _ _ (failed c.arity_ok.ensures (ap not c.if-not-arity_ok.true))

pub returns-then-not-capacity_ok : goal.returns-then-not-capacity_ok
returns-then-not-capacity_ok c = number_2 _ _ _ _ _ (passed c.arity_ok.ensures (ap not c.if-not-arity_ok.false)) (failed c.capacity_ok.ensures (ap not c.if-not-capacity_ok.true))

pub lies_in-requires : goal.lies_in-requires
lies_in-requires c = (passed c.arity_ok.ensures (ap not c.if-not-arity_ok.false), passed c.capacity_ok.ensures (ap not c.if-not-capacity_ok.false))

pub returns-then-not-lies_in : goal.returns-then-not-lies_in
returns-then-not-lies_in c =
    number_3 _ _ _ _ _ (passed c.arity_ok.ensures (ap not c.if-not-arity_ok.false)) (passed c.capacity_ok.ensures (ap not c.if-not-capacity_ok.false)) (failed c.lies_in.ensures (ap not c.if-not-lies_in.true))

-- past the third check: the arity is good, and so are the capacity and the place
pub nonzero_rem-words : goal.nonzero_rem-words
nonzero_rem-words c = (arity_told _ (passed c.arity_ok.ensures (ap not c.if-not-arity_ok.false))).0

pub returns-then-words-arity-ne0 : goal.returns-then-words-arity-ne0
returns-then-words-arity-ne0 c =
    number_4 _ _ _ _ _ (passed c.arity_ok.ensures (ap not c.if-not-arity_ok.false)) (passed c.capacity_ok.ensures (ap not c.if-not-capacity_ok.false)) (passed c.lies_in.ensures (ap not c.if-not-lies_in.false)) c.if-words-arity-ne0.true

pub nonzero_div-words : goal.nonzero_div-words
nonzero_div-words c = (arity_told _ (passed c.arity_ok.ensures (ap not c.if-not-arity_ok.false))).0

pub returns-then-capacity-words : goal.returns-then-capacity-words
returns-then-capacity-words c =
    number_5 _ _ _ _ _ (passed c.arity_ok.ensures (ap not c.if-not-arity_ok.false)) (passed c.capacity_ok.ensures (ap not c.if-not-capacity_ok.false)) (passed c.lies_in.ensures (ap not c.if-not-lies_in.false)) c.if-words-arity-ne0.false c.if-capacity-words.true

pub returns : goal.returns
returns c =
    number_0 _ _ _ _ _ (passed c.arity_ok.ensures (ap not c.if-not-arity_ok.false)) (passed c.capacity_ok.ensures (ap not c.if-not-capacity_ok.false)) (passed c.lies_in.ensures (ap not c.if-not-lies_in.false)) c.if-words-arity-ne0.false c.if-capacity-words.false
