-- Each answer is that of the definition, by the tests that led there.
use Rattle.binar.proofs.matrix_form.Shapes.{fits_narrow, fits_none, fits_rows, fits_width, fits_quotient}
use mathlib.Core.Path.{sym}
use Rattle.binar.proofs.matrix_form.fits_in.Goals as goal

pub returns-then-width-cols : goal.returns-then-width-cols
returns-then-width-cols c = sym (fits_narrow c.args.width c.args.rows c.args.cols c.args.n c.if-width-cols.true)

pub returns-then-rows-eq0 : goal.returns-then-rows-eq0
returns-then-rows-eq0 c = sym (fits_none c.args.width c.args.rows c.args.cols c.args.n c.if-width-cols.false c.if-rows-eq0.true)

pub returns-then-n-rows : goal.returns-then-n-rows
returns-then-n-rows c = sym (fits_rows c.args.width c.args.rows c.args.cols c.args.n c.if-width-cols.false c.if-n-rows.true)

pub returns-then-n-width : goal.returns-then-n-width
returns-then-n-width c = sym (fits_width c.args.width c.args.rows c.args.cols c.args.n c.if-width-cols.false c.if-rows-eq0.false c.if-n-width.true)

pub returns : goal.returns
returns c = fits_quotient c.args.width c.args.rows c.args.cols c.args.n c.if-width-cols.false c.if-rows-eq0.false
