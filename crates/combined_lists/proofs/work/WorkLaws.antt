-- Runs of calls, and operands that wait.
use Rattle.std.proofs.Common.{◌≡◌, ℕ, ◌+◌, ◌*◌, ◌≤◌, refl, arith}
use Rattle.pauli.specs.Told.{Told, answer, refused, and_then}
use Rattle.combined_lists.specs.Line.{Sign, Tree, letter, parens, operation, rank_of, Binds, depth_of}
use Rattle.combined_lists.specs.Work.{value_of, Runs, roll, inside, left, right, call, waiting}
use Rattle.combined_lists.specs.WorkTheorems.{RunLaw, WaitingLaw}
use Rattle.combined_lists.proofs.form.ReadBack.{top_rank}

module _ {A : Type 0} (op : Sign → A → A → Told A) (Call : Sign → A → A → Told A → Type 0) (rolls : ℕ → A)
    (tells : (s : Sign) (x y : A) (o : Told A) → Call s x y o → o ≡ op s x y) where
  one_value : (t : Tree) (o : Told A) → Runs Call rolls t o → o ≡ value_of op rolls t
  unfolding value_of and_then
  one_value (letter a) o (roll b) = refl
  one_value (parens t) o (inside u p r) = one_value t o r
  one_value (operation s l r) o (left k u v n p h) = rw (← one_value l (refused n p) h)
  one_value (operation s l r) o (right k u v x n p h m) = rw (← one_value l (answer x) h, ← one_value r (refused n p) m)
  one_value (operation s l r) o (call k u v x y q h m c) = rw (← one_value l (answer x) h, ← one_value r (answer y) m) (tells s x y o c)

pub run_law : RunLaw
run_law = record { one_value = one_value }

by_depth : (t : Tree) → Binds t → waiting t ≤ rank_of t + 3 * depth_of t
unfolding waiting depth_of
by_depth (letter a) b = omega arith
by_depth (parens t) b = omega (arith, by_depth t b, top_rank t)
by_depth (operation s l r) b = omega (arith, by_depth l b.2, by_depth r b.3)

pub waiting_law : WaitingLaw
waiting_law = record { by_depth = by_depth; fits = λ t b d. omega (arith, by_depth t b, top_rank t) }
