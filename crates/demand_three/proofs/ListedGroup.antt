-- The listing is the group, and a group modulo another: each sentence is proved in the module of its subject.
use Rattle.demand_three.specs.ListedGroup.{ListedGroup}
use Rattle.demand_three.proofs.ListedPages.{rank_told, size_told, page_accepted, no_other, low_rank, every, once, count, few, page_refused, page_told, a_row}
use Rattle.demand_three.proofs.ListedModulo.{pivots, same_pivots, modulo_accepted, modulo_told, generates, joined_there, joined_back, clear}
use Rattle.demand_three.proofs.FalsePromises.{false_promises}

pub listed_group : ListedGroup
listed_group = record {
  page_accepted = page_accepted;
  every = every;
  once = once;
  no_other = no_other;
  count = count;
  size_told = size_told;
  few = few;
  rank_told = rank_told;
  low_rank = low_rank;
  page_told = page_told;
  page_refused = page_refused;
  a_row = a_row;
  modulo_accepted = modulo_accepted;
  generates = generates;
  joined_there = λ A B C J K m. joined_there A B C m J K;
  joined_back = λ A B C J K m. joined_back A B C m J K;
  clear = clear;
  pivots = pivots;
  same_pivots = same_pivots;
  modulo_told = modulo_told;
  false_promises = false_promises;
}
