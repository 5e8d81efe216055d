-- `emit` meets its contract: the row's first n words are pasted into the window behind the rows that it holds, where they fit.
use Prim.Native.Nat.{ℕ, ◌+◌, ◌*◌, ◌-◌}
use native.Mathlib.Omega.{arith}
use native.Mathlib.Nat.{add-mul, one-mul}
use mathlib.Core.Path.{◌≡◌, refl, sym, ap, ◌∙◌}
use mathlib.Core.Bool.{Bool, false}
use mathlib.Core.List.{List}
use lib.ListN.{length, take, length-take}
use borrow.Author.Rules.{rules}
use Rattle.std.proofs.lemmas.List.{take_all}
use Rattle.std.proofs.lemmas.Slice.{put_mid-paste}
use Rattle.query.specs.Window.{Progress, emit, pasted}
use Rattle.query.proofs.Window.{emit_room, emit_out, paste_row}
use Rattle.join_window.specs.Window.{written, progress}
use Rattle.join_window.proofs.Window.emit.Goals as goal
use Rattle.join_window.proofs.Window.emit.Goals.{Start}

more : (s : Start) → (s.args.self.now.rows + 1) * s.args.self.now.n ≡ s.args.self.now.rows * s.args.self.now.n + s.args.self.now.n
more s = let w = s.args.self.now in add-mul w.rows 1 w.n ∙ ap (λ (x : ℕ). w.rows * w.n + x) (one-mul w.n)

-- a window that has not said full
going : (s : Start) → let w = s.args.self.now in emit w.n (written w.words.now w.rows false) (take w.n s.args.row.now) ≡ emit w.n (progress w) (take w.n s.args.row.now)
going s = let w = s.args.self.now in ap (λ (b : Bool). emit w.n (written w.words.now w.rows b) (take w.n s.args.row.now)) (sym s.requires.going)

pub returns-then-self-end : goal.returns-then-self-end
returns-then-self-end c =
    let s = (goal.at.returns-then-self-end c).Start in
    let w = c.args.self.now in
    record { kept = record { same = refl; rows_of = refl }; stands = sym (emit_out w.n w.words.now w.rows (take w.n c.args.row.now) (omega (arith, more s, c.if-self-end.true))) ∙ going s }

pub returns : goal.returns
returns c =
    let s = (goal.at.returns c).Start in
    let w = c.args.self.now in
    let base = w.rows * w.n in
    let row = take w.n c.args.row.now in
    let l : w.n ≡ length row = omega (arith, length-take w.n c.args.row.now, c.told-row, w.width) in
    let same : c.copy_from_slice.new.self ≡ row = search rules in
    let k : w.n ≡ base + w.n - base = omega arith in
    let t : take w.n row ≡ row = take_all w.n row (omega (arith, l)) in
    let p = put_mid-paste base (base + w.n - base) w.words.now c.copy_from_slice.new.self row w.n same k l ∙ paste_row w.words.now base w.n row (omega (arith, l)) ∙ ap (pasted w.words.now base) t in
    record {
      kept = record { same = refl; rows_of = refl };
      stands =
          ap {B = Progress} (λ (x : List ℕ). written x (w.rows + 1) w.full) p
          ∙ ap {B = Progress} (written (pasted w.words.now base row) (w.rows + 1)) s.requires.going
          ∙ sym (emit_room w.n w.words.now w.rows row (omega (arith, c.if-self-end.false, more s)))
          ∙ going s;
    }
