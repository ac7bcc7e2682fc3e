-- What the answer on a joined roll tells.
use Rattle.sizes.specs.declared.answers.JoinedSizes.{JoinedSizes}
use Rattle.sizes.specs.Calls.{Joined}

-- the sizes that the code holds
abbrev pub sizes_in : JoinedSizes → Joined
sizes_in s = record { bytes = s.bytes; count = s.count; qubits = s.qubits }
