use Rattle.combined_lists.proofs.operate.OperateLaws.{pairs_of}
use Rattle.combined_lists.proofs.operate.pair_of.Goals as goal

pub kept_list-requires : goal.kept_list-requires
kept_list-requires c = (c.requires.1, c.requires.3.0)

pub kept_list-requires-2 : goal.kept_list-requires-2
kept_list-requires-2 c = (c.requires.2, c.requires.3.1)

pub returns : goal.returns
returns c = pairs_of _ _ _ _ _ c.checked.ensures.told c.checked.ensures.sources c.kept_list.ensures.listed c.kept_list-2.ensures.listed
