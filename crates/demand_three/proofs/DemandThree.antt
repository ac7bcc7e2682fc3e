-- Demand 3 is met: each sentence is proved in the module of its subject.
use Rattle.demand_three.specs.DemandThree.{Demand3}
use Rattle.demand_three.proofs.DemandMember.{member_when, member_only, indexes_only, none_only, product_is, asked_told}
use Rattle.demand_three.proofs.DemandJoined.{joined_list, joining_told, member_left_lem, member_right, equal_when, equal_only, else_less, comparing_told}
use Rattle.demand_three.proofs.DemandStandard.{standard_told, same_bytes, same_group}

pub demand_three : Demand3
demand_three = record {
  member_when = member_when;
  member_only = member_only;
  indexes_only = indexes_only;
  none_only = none_only;
  product_is = product_is;
  joined_list = joined_list;
  joined_left = member_left_lem;
  joined_right = member_right;
  equal_when = equal_when;
  equal_only = equal_only;
  else_less = else_less;
  same_bytes = same_bytes;
  same_group = same_group;
  asked_told = asked_told;
  standard_told = standard_told;
  joining_told = joining_told;
  comparing_told = λ A B J l j. comparing_told A B J j l;
}
