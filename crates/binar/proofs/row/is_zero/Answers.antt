-- The whole words, as the chain tells of them, and the columns of the word behind them.
use Rattle.std.proofs.Common.{rules, ℕ, ◌≡◌, ◌+◌, ◌-◌, ◌/◌, ◌%◌, ◌↔◌, Bool, List, get_or, take, drop, IsTrue, EachIndex, sym, ◌∙◌, arith}
use Rattle.binar.proofs.row.Scan.{zero_from, one_shifted, zero_split, zero_none, zero_last}
use Rattle.binar.proofs.row.is_zero.Goals as goal

-- what the chain tells
abbrev Tells : Bool → List ℕ → ℕ → ℕ → Type 0
Tells b l i c = IsTrue b ↔ EachIndex (take (i + c / 64 - i) (drop i l)) (λ k. get_or (take (i + c / 64 - i) (drop i l)) k 0 ≡ 0)

pub returns-else-all : goal.returns-else-all
unfolding zero_from
returns-else-all c =
    let told : Tells c.all.result c.args.w.now c.args.at c.args.cols = search rules in
    c.if-all.false ∙ sym (zero_split _ (λ q. (c.type_inv.w q).fits) c.args.at c.args.cols c.all.result (omega arith) told ∙ rw c.if-all.false)

pub returns-then-cols-eq0 : goal.returns-then-cols-eq0
unfolding zero_from
returns-then-cols-eq0 c =
    let told : Tells c.all.result c.args.w.now c.args.at c.args.cols = search rules in
    let none : c.args.cols % 64 ≡ 0 = c.if-cols-eq0.true in
    rw none (sym (zero_split _ (λ q. (c.type_inv.w q).fits) c.args.at c.args.cols c.all.result (omega arith) told ∙ rw (c.if-all.true, none) (zero_none c.args.w.now (c.args.at + c.args.cols / 64))))

pub returns-else-cols-eq0 : goal.returns-else-cols-eq0
unfolding zero_from
returns-else-cols-eq0 c =
    let told : Tells c.all.result c.args.w.now c.args.at c.args.cols = search rules in
    rw (one_shifted (c.args.cols % 64) (omega arith))
    (sym (zero_split _ (λ q. (c.type_inv.w q).fits) c.args.at c.args.cols c.all.result (omega arith) told ∙ rw c.if-all.true (zero_last c.args.w.now (c.args.at + c.args.cols / 64) (omega arith) (c.type_inv.w _).fits (c.args.cols % 64) (omega arith))))
