-- Fewer than 64 places take one word of x and two of z; the others, two of x and three of z.
use Rattle.pauli_group.proofs.rows.RowLaws.{short_fits, short_row, long_fits, long_fits_2, long_row}
use Rattle.std.proofs.Common.{rules}
use Rattle.pauli_group.proofs.rows.put_row.Goals as goal

pub overflow_add-w : goal.overflow_add-w
overflow_add-w c =
    record {
      fits = short_fits c.args.w.now c.args.at c.args.p c.args.s c.requires.0 c.requires.2 c.requires.3
          c.if-s-lt64.true c.shifted-a.result (search rules)
          (search rules) c.shifted-a.ensures;
    }

pub returns-then-s-lt64 : goal.returns-then-s-lt64
returns-then-s-lt64 c =
    short_row c.args.w.now c.args.at c.args.p c.args.s c.requires.0 c.requires.2 c.requires.3
    c.if-s-lt64.true c.shifted-a.result (search rules)
    (search rules) c.shifted-a.ensures

pub overflow_add-w-2 : goal.overflow_add-w-2
overflow_add-w-2 c =
    record {
      fits = long_fits c.args.w.now c.args.at c.args.p c.args.s c.requires.0 c.requires.2 c.requires.3
          c.if-s-lt64.false c.requires.1 c.shifted-a-2.result (search rules)
          c.shifted-a-2.ensures;
    }

pub overflow_add-w-4 : goal.overflow_add-w-4
overflow_add-w-4 c =
    record {
      fits = long_fits_2 c.args.w.now c.args.at c.args.p c.args.s c.requires.0 c.requires.2 c.requires.3
          c.if-s-lt64.false c.requires.1 c.shifted-a-2.result
          (search rules) c.shifted-a-2.ensures c.shifted-b.result (search rules)
          c.shifted-b.ensures;
    }

pub returns : goal.returns
returns c =
    long_row c.args.w.now c.args.at c.args.p c.args.s c.requires.0 c.requires.2 c.requires.3
    c.if-s-lt64.false c.requires.1 c.shifted-a-2.result
    (search rules) c.shifted-a-2.ensures c.shifted-b.result (search rules)
    c.shifted-b.ensures (search rules) (search rules)
