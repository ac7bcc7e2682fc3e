-- What the lookup of a joined generator tells.
use Rattle.pauli.specs.declared.lookup.JoinedEntry.{JoinedEntry}
use Rattle.pauli.specs.JoinCalls.{Looked}

-- what was looked up, as the code holds it
abbrev pub looked_in : JoinedEntry → Looked
looked_in e = record { exponent = e.exponent; xcount = e.xcount; zcount = e.zcount }
