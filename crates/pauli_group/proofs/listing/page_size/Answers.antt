-- None asked for, too many, or as many as asked for.
use Rattle.std.proofs.Common.{sym, arith}
use Rattle.pauli_theory.proofs.ListingPages.{size_asked, size_above, size_default}
use Rattle.pauli_group.proofs.listing.page_size.Goals as goal

pub returns-then-count-eq0 : goal.returns-then-count-eq0
returns-then-count-eq0 c = (sym (size_default _ c.if-count-eq0.true), omega arith)

pub returns-then-count-gt-LARGEST_PAGE : goal.returns-then-count-gt-LARGEST_PAGE
returns-then-count-gt-LARGEST_PAGE c = (sym (size_above _ c.if-count-gt-LARGEST_PAGE.true), omega arith)

pub returns : goal.returns
returns c = (sym (size_asked _ (omega (arith, c.if-count-eq0.false)) c.if-count-gt-LARGEST_PAGE.false), omega arith)
