use Rattle.pauli_group.proofs.common.write_part.Goals as goal

pub write_further-requires : goal.write_further-requires
write_further-requires c = record { list = c.requires.list; has = rw c.in-Further.is at c.requires.is }

pub returns-in-Left : goal.returns-in-Left
returns-in-Left c = record {
  told = λ p. rw (rw c.in-Left.is at p.is) c.write_list.ensures.told;
  left = λ p. rw (rw c.in-Left.is at p.is) c.write_list.ensures.left;
  area = c.write_list.ensures.area;
}

pub returns-in-Right : goal.returns-in-Right
returns-in-Right c = record {
  told = λ p. rw (rw c.in-Right.is at p.is) c.write_list-in-Right.ensures.told;
  left = λ p. rw (rw c.in-Right.is at p.is) c.write_list-in-Right.ensures.left;
  area = c.write_list-in-Right.ensures.area;
}

pub returns-in-Further : goal.returns-in-Further
returns-in-Further c = record {
  told = λ p. c.write_further.ensures.told (record { list = p.list; has = rw c.in-Further.is at p.is });
  left = λ p. c.write_further.ensures.left (record { list = p.list; has = rw c.in-Further.is at p.is });
  area = c.write_further.ensures.area;
}
