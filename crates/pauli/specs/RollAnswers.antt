-- What the entry that the reader holds tells.
use Rattle.pauli.specs.declared.roll.Entry.{Entry as CodeEntry}
use Rattle.pauli.specs.Roll.{Entry as RollEntry}

-- the entry that the code holds
abbrev pub told_entry : CodeEntry → RollEntry
told_entry e = record { given = e.given; exponent = e.exponent; start = e.start; xcount = e.xcount; zcount = e.zcount }
